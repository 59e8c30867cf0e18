-- What is read off the words of an accepted question's normal form is said of the question as typed.
use mathlib.Core.Path.{◌≡◌, refl, sym, ap, ap₂, subst, ◌∙◌}
use mathlib.Core.Bool.{Bool, true, false, and-eq-true_iff}
use mathlib.Core.List.{List}
use Prim.Native.Nat.{ℕ, suc, ◌+◌, ◌<◌}
use native.Mathlib.Omega.{arith}
use Rattle.spec_calculus.specs.Syntax.{list, bag, set, Bin, plus, minus, times, equal, less, and, or}
use Rattle.spec_calculus.specs.Value.{Tables, kind_of}
use Rattle.spec_encoding.specs.Record.{Bytes}
use Rattle.spec_checks.specs.Types.{Ty, Tys, number, truth, record', coll, ynil, ycons, has}
use Rattle.spec_checks.proofs.Judgement.{result}
use Rattle.spec_checks.proofs.Refold.{second, single, gives, gathered}
use Rattle.spec_normal_form.specs.Form.{Form, as_form}
use Rattle.spec_normal_form.specs.Normal.{normal}
use Rattle.spec_outcome.specs.Acceptance.{Accepted}
use Rattle.spec_tariff.specs.Dues.{number_type, ship_fields, is_ship, is_ships, gives_ships, question_type}
use Rattle.base_syntax.specs.declared.Fun.TheVariants.{Choice, Open}
use Rattle.base_syntax.specs.declared.Monoid.TheVariants as Mo
use Rattle.base_syntax.specs.Numbers.{bin_of}
use Rattle.form_words.specs.declared.FormNode.{FormNode}
use Rattle.form_words.specs.declared.FormNode.TheVariants as N
use Rattle.form_words.specs.NodeWord.{node_at}
use Rattle.form_words.specs.FormTree.{form_tree, forms_tree, left}
use Rattle.form_words.proofs.NodeWords.{form_node}
use Rattle.form_prepared.specs.PreparedQuestion.{Prepared}
use Rattle.base_signed.proofs.SignedWords.{no}
use Rattle.answer_writer.specs.declared.WriteForm.{WriteForm}
use Rattle.answer_writer.specs.declared.WriteForm.TheVariants as Wr
use Rattle.answer_writer.specs.Shapes.{shape_of, ShapeAtPost}
use Rattle.answer_types.specs.Columns.{columns}
use Rattle.answer_types.specs.Shape.{type_of, types_of, type_at}
use Rattle.answer_types.proofs.RawValueType.{Rooted}
use Rattle.answer_settle.proofs.FormTypes.{rooted}
use Rattle.answer_settle.proofs.PreparedQuestion.{tables-are, passed, held, form-is, form-in-scope, even}
use Rattle.answer_ships.specs.Contract.{ShipsPost}
use Rattle.answer_ships.proofs.QuestionType.{rooted-fit, question-type}

-- the type of ships
abbrev pub ship_type : Ty
ship_type = record' (ycons number (ycons number ynil))

number_is : (t : Ty) → number_type t ≡ true → t ≡ number
unfolding number_type
number_is number e = refl
number_is truth e = no (sym e)
number_is (record' ts) e = no (sym e)
number_is (coll c t) e = no (sym e)

fields-are : (ts : Tys) → ship_fields ts ≡ true → ts ≡ ycons number (ycons number ynil)
unfolding ship_fields
fields-are ynil e = no (sym e)
fields-are (ycons s ynil) e = no (sym e)
fields-are (ycons s (ycons t ynil)) e =
    let p = (and-eq-true_iff (number_type s) (number_type t)).0 e in
    ap₂ (λ (x y : Ty). ycons x (ycons y ynil)) (number_is s p.0) (number_is t p.1)
fields-are (ycons s (ycons t (ycons u us))) e = no (sym e)

ship-is : (t : Ty) → is_ship t ≡ true → t ≡ ship_type
unfolding is_ship
ship-is number e = no (sym e)
ship-is truth e = no (sym e)
ship-is (record' ts) e = ap record' (fields-are ts e)
ship-is (coll c t) e = no (sym e)

pub ships-are : (t : Ty) → is_ships t ≡ true → t ≡ coll bag ship_type
unfolding is_ships
ships-are number e = no (sym e)
ships-are truth e = no (sym e)
ships-are (record' ts) e = no (sym e)
ships-are (coll list t) e = no (sym e)
ships-are (coll bag t) e = ap (coll bag) (ship-is t e)
ships-are (coll set t) e = no (sym e)

module _ {d : Bytes} {a : Accepted} {s : List ℕ} (P : Prepared d a s) where
  -- each row is of a generator that encloses it, with the columns of its table
  pub prepared-rooted : Rooted (columns s) a.tables (λ g. false) (as_form a.form)
  prepared-rooted = subst (λ (T : Tables). Rooted (columns s) T (λ g. false) (as_form a.form)) (tables-are P)
      (rooted (held P) (as_form a.form) (λ g. false) 0 (form-in-scope P) P.named (even P (columns s)))

  -- the type of the question as typed is that of its normal form's words
  type-is : question_type a.tables a.question ≡ has (type_of (columns s) (as_form a.form))
  type-is =
      subst (λ f. question_type a.tables a.question ≡ has (type_of (columns s) (as_form f))) (sym (passed P).form-is)
      (question-type a.tables (columns s) a.question (passed P).generators (rooted-fit a.tables (columns s) (as_form (normal (kind_of a.tables) a.question)) (λ g. false)
      (subst (λ f. Rooted (columns s) a.tables (λ g. false) (as_form f)) (passed P).form-is prepared-rooted)))

  pub ships-asked : {r : Bool} → ShipsPost s r → r ≡ gives_ships (question_type a.tables a.question)
  unfolding gives_ships
  ships-asked R =
      R.is (suc (left 0)) (omega arith)
      ∙ ap (λ (t : Form). is_ships (type_of (columns s) t)) (form-is P (suc (left 0)) (omega arith))
      ∙ ap gives_ships (sym type-is)

-- where ships are given, the type at place 0 is theirs
pub ships-at : {s : List ℕ} {r : Bool} → ShipsPost s r → r ≡ true → (f : ℕ) → left 0 < f → type_at f s 0 ≡ coll bag ship_type
ships-at {s} R e f l = ships-are (type_at f s 0) (sym (R.is f l) ∙ e)

-- ---- so a collection stands there
is_collection : Ty → Bool
is_collection number = false
is_collection truth = false
is_collection (record' ts) = false
is_collection (coll c t) = true

gathers : WriteForm → Bool
gathers (Wr.Word k) = false
gathers (Wr.Row g) = false
gathers (Wr.Record e) = false
gathers Wr.Collection = true

result-none : (o : Bin) → false ≡ is_collection (result o)
unfolding result is_collection
result-none plus = refl
result-none minus = refl
result-none times = refl
result-none equal = refl
result-none less = refl
result-none and = refl
result-none or = refl

gives_none : (t : Ty) → false ≡ is_collection (single t)
unfolding single is_collection
gives_none number = refl
gives_none truth = refl
gives_none (record' ts) = refl
gives_none (coll c t) = refl

node-gathers : (s : List ℕ) (f i : ℕ) (n : FormNode) → gathers (shape_of n) ≡ is_collection (type_of (columns s) (form_node f s i n))
unfolding type_of gathered gives gathers is_collection
node-gathers s f i (N.Number z) = refl
node-gathers s f i (N.Truth b) = refl
node-gathers s f i (N.Row g) = refl
node-gathers s f i (N.Cell c g) = refl
node-gathers s f i (N.Record e) = refl
node-gathers s f i (N.Binary o j) = result-none (bin_of o)
node-gathers s f i N.Negation = refl
node-gathers s f i (N.Operator Choice e) = gives_none (second (types_of (columns s) (forms_tree f s (i + 1) e)))
node-gathers s f i (N.Operator (Open n) e) = refl
node-gathers s f i (N.Comprehension Mo.List) = refl
node-gathers s f i (N.Comprehension Mo.Bag) = refl
node-gathers s f i (N.Comprehension Mo.Set) = refl
node-gathers s f i (N.Comprehension Mo.Sum) = refl
node-gathers s f i (N.Comprehension Mo.Max) = refl
node-gathers s f i (N.Comprehension Mo.Min) = refl
node-gathers s f i (N.Comprehension Mo.Some) = refl
node-gathers s f i (N.Comprehension Mo.All) = refl
node-gathers s f i (N.Generator g k) = refl
node-gathers s f i (N.Condition j) = refl
node-gathers s f i N.Nothing = refl

pub ships-collection : {s : List ℕ} {r : Bool} → ShipsPost s r → r ≡ true → ShapeAtPost s 0 Wr.Collection
unfolding form_tree gathers is_collection
ships-collection {s} R e = record {
  is = go (shape_of (node_at s 0)) (node-gathers s (left 0) 0 (node_at s 0) ∙ ap is_collection (ships-at R e (suc (left 0)) (omega arith)));
  inside = omega arith;
}
  where
    go : (w : WriteForm) → gathers w ≡ true → Wr.Collection ≡ w
    go (Wr.Word k) h = no (sym h)
    go (Wr.Row g) h = no (sym h)
    go (Wr.Record i) h = no (sym h)
    go Wr.Collection h = refl
