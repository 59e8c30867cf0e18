-- One law for each way out of the functions that read the type of ships.
use mathlib.Core.Path.{◌≡◌, refl, sym, ap, ap₂, subst, ◌∙◌}
use mathlib.Core.Bool.{Bool, true, false, not, ◌&&◌}
use mathlib.Core.List.{List, [], ◌∷◌}
use Prim.Native.Nat.{ℕ, zero, suc, ◌+◌, ◌≤◌, ◌<◌}
use native.Mathlib.Omega.{arith}
use borrow.Author.Tests.{ltb-true, ltb-false, ne_eqb}
use lib.Dec.{eqb, ltb}
use types.Run.{OneOf, miss}
use denote.Enum.Declared.{tag_of}
use Rattle.spec_calculus.specs.Lists.{pick}
use Rattle.spec_checks.specs.Types.{Ty, Tys, number, truth, record', coll, ycons, cells}
use Rattle.spec_checks.proofs.Judgement.{result}
use Rattle.spec_checks.proofs.Refold.{second, single, gives, gathered}
use Rattle.spec_normal_form.specs.Form.{Form, Forms, fnil, fcons}
use Rattle.spec_tariff.specs.Dues.{number_type, ship_fields, is_ship, is_ships}
use Rattle.base_scratch.specs.Map.{form_words}
use Rattle.base_syntax.specs.declared.Fun.{Fun}
use Rattle.base_syntax.specs.declared.Fun.TheVariants.{Choice, Open}
use Rattle.base_syntax.specs.contracts.Fun as fun
use Rattle.base_syntax.specs.declared.BinOp.{BinOp}
use Rattle.base_syntax.specs.declared.BinOp.TheVariants as Bo
use Rattle.base_syntax.specs.declared.Monoid.TheVariants as Mo
use Rattle.base_syntax.specs.Numbers.{bin_of}
use Rattle.form_words.specs.declared.FormNode.{FormNode}
use Rattle.form_words.specs.declared.FormNode.TheVariants as N
use Rattle.form_words.specs.contracts.FormNode as node
use Rattle.form_words.specs.NodeWord.{node_at, next, branch_place}
use Rattle.form_words.specs.FormTree.{form_tree, forms_tree, left}
use Rattle.form_words.specs.Look.{Looks}
use Rattle.form_words.proofs.NodeWords.{form_node, form-is}
use Rattle.form_words.proofs.Operands.{form_nth, operand_at, branch-past}
use Rattle.form_arith.specs.declared.Sort.{Sort}
use Rattle.form_arith.specs.declared.Sort.TheVariants as So
use Rattle.form_arith.specs.WordSorts.{is_same, result_sort}
use Rattle.answer_writer.specs.declared.WriteForm.{WriteForm}
use Rattle.answer_writer.specs.declared.WriteForm.TheVariants as Wr
use Rattle.answer_writer.specs.contracts.WriteForm as form
use Rattle.answer_writer.specs.Shapes.{shape_of, ShapeAtPost}
use Rattle.answer_types.specs.declared.CollectionKind.{CollectionKind}
use Rattle.answer_types.specs.declared.CollectionKind.TheVariants as Ki
use Rattle.answer_types.specs.declared.ValueType.{ValueType}
use Rattle.answer_types.specs.declared.ValueType.TheVariants.{Word, Words, Fields, Elements}
use Rattle.answer_types.specs.contracts.ValueType as shape
use Rattle.answer_types.specs.Columns.{columns}
use Rattle.answer_types.specs.FlatTypes.{Flat}
use Rattle.form_words.specs.HeadPlace.{head_node}
use Rattle.answer_types.specs.Shape.{type_of, types_of, type_at, types_at, collection_of, shape_by, shape_in, is_single, is_word, ShapeAt}
use Rattle.answer_types.proofs.Types.{by-words, by-none, by-more, by-fields, by-elements}
use Rattle.base_signed.proofs.SignedWords.{by-test, no}
use Rattle.answer_ships.specs.Contract.{truth_type, BranchPost, TruthPost, NumberPost, FieldsPost, ShipPost, ShipsPost}

-- ---- first_branch
-- on the way from i, at j
pub record Branching (s : List ℕ) (i j : ℕ) : Type 0 where
  pub alike : (f : ℕ) → left i < f → (g : ℕ) × (left j < g) × (truth_type (type_at f s i) ≡ truth_type (type_at g s j))

pub branch-start : {s : List ℕ} {i : ℕ} → Branching s i i
branch-start = record { alike = λ f l. (f, l, refl) }

-- a choice is a truth's where its first branch is
second_type : (C : ℕ → ℕ) (ts : Forms) → second (types_of C ts) ≡ type_of C (form_nth 1 ts)
unfolding second type_of form_nth
second_type C fnil = refl
second_type C (fcons t fnil) = refl
second_type C (fcons t (fcons u ts)) = refl

single-truth : (t : Ty) → truth_type (single t) ≡ truth_type t
unfolding single
single-truth number = refl
single-truth truth = refl
single-truth (record' ts) = refl
single-truth (coll c t) = refl

module _ {s : List ℕ} {j e : ℕ} (L : Looks s j (N.Operator Choice e)) where
  choice-alike : (f : ℕ) → left j < f → {k : ℕ} → k ≡ branch_place s (j + 1) e false → (g : ℕ) × (left k < g) × (truth_type (type_at f s j) ≡ truth_type (type_at g s k))
  unfolding type_of gives pick
  choice-alike zero l h = absurd (omega arith)
  choice-alike (suc f) l {k} h =
      let A = operand_at s e L.inside.1 1 f (j + 1) (omega (arith, L.inside.0, L.inside.1)) in (
        A.fuel,
        subst (λ (x : ℕ). left x < A.fuel) (sym h) A.enough,
        ap (λ (t : Form). truth_type (type_of (columns s) t)) (form-is L f)
            ∙ single-truth (second (types_of (columns s) (forms_tree f s (j + 1) e)))
            ∙ ap truth_type (second_type (columns s) (forms_tree f s (j + 1) e))
            ∙ ap (λ (t : Form). truth_type (type_of (columns s) t)) (A.is ∙ ap (form_tree A.fuel s) (sym h)),
      )

  pub branch_less : {k : ℕ} → k ≡ branch_place s (j + 1) e false → j < k
  branch_less h = branch-past L false h

  pub branch-again : {i : ℕ} → Branching s i j → {k : ℕ} → k ≡ branch_place s (j + 1) e false → Branching s i k
  branch-again I h = record { alike = λ f l. let (g, m, p) = I.alike f l in let (g₁, m₁, p₁) = choice-alike g m h in (g₁, m₁, p ∙ p₁) }

pub as-choice : {s : List ℕ} {j : ℕ} {f : Fun} {e : ℕ} → Looks s j (N.Operator f e) → f ≡ Choice → Looks s j (N.Operator Choice e)
as-choice {s} {j} {e = e} L q = subst (λ (x : Fun). Looks s j (N.Operator x e)) q L

-- a node that is no operator, and an operator that is no choice
abbrev not_operator : List ℕ
not_operator = 0 ∷ 1 ∷ 2 ∷ 3 ∷ 4 ∷ 5 ∷ 6 ∷ 8 ∷ 9 ∷ 10 ∷ 11 ∷ []

pub branch-other : {s : List ℕ} {i j : ℕ} → Branching s i j → {n : FormNode} → Looks s j n → OneOf not_operator (tag_of node.the_type n) → BranchPost s i j
branch-other I L w = record { alike = I.alike; no_choice = λ e q. miss not_operator 7 tt (subst (λ (x : FormNode). OneOf not_operator (tag_of node.the_type x)) (L.is ∙ q) w) }

abbrev not_choice : List ℕ
not_choice = 1 ∷ []

abbrev is_choice : FormNode → Fun → Fun
is_choice (N.Operator f e) g = f
is_choice (N.Number z) g = g
is_choice (N.Truth b) g = g
is_choice (N.Row r) g = g
is_choice (N.Cell c r) g = g
is_choice (N.Record e) g = g
is_choice (N.Binary o k) g = g
is_choice N.Negation g = g
is_choice (N.Comprehension m) g = g
is_choice (N.Generator r k) g = g
is_choice (N.Condition k) g = g
is_choice N.Nothing g = g

pub branch-open : {s : List ℕ} {i j : ℕ} → Branching s i j → {f : Fun} {e : ℕ} → Looks s j (N.Operator f e) → OneOf not_choice (tag_of fun.the_type f) → BranchPost s i j
branch-open I {f} L w = record { alike = I.alike; no_choice = λ e q. miss not_choice 0 tt (subst (λ (x : Fun). OneOf not_choice (tag_of fun.the_type x)) (ap (λ (n : FormNode). is_choice n f) (L.is ∙ q)) w) }

-- ---- is_truth
-- what a node that is no choice tells of its type
abbrev told : WriteForm → Bool
told (Wr.Word k) = not (is_same k So.Number)
told (Wr.Row g) = false
told (Wr.Record e) = false
told Wr.Collection = false

sort-told : (o : BinOp) → truth_type (result (bin_of o)) ≡ not (is_same (result_sort (bin_of o)) So.Number)
unfolding result
sort-told Bo.Plus = refl
sort-told Bo.Minus = refl
sort-told Bo.Times = refl
sort-told Bo.Equal = refl
sort-told Bo.Less = refl
sort-told Bo.And = refl
sort-told Bo.Or = refl

node-told : (s : List ℕ) (f j : ℕ) (n : FormNode) → ((e : ℕ) → n ≡ N.Operator Choice e → ⊥) → truth_type (type_of (columns s) (form_node f s j n)) ≡ told (shape_of n)
unfolding type_of gives gathered
node-told s f j (N.Number z) h = refl
node-told s f j (N.Truth b) h = refl
node-told s f j (N.Row g) h = refl
node-told s f j (N.Cell c g) h = refl
node-told s f j (N.Record e) h = refl
node-told s f j (N.Binary o k) h = sort-told o
node-told s f j N.Negation h = refl
node-told s f j (N.Operator Choice e) h = absurd (h e refl)
node-told s f j (N.Operator (Open n) e) h = refl
node-told s f j (N.Comprehension Mo.List) h = refl
node-told s f j (N.Comprehension Mo.Bag) h = refl
node-told s f j (N.Comprehension Mo.Set) h = refl
node-told s f j (N.Comprehension Mo.Sum) h = refl
node-told s f j (N.Comprehension Mo.Max) h = refl
node-told s f j (N.Comprehension Mo.Min) h = refl
node-told s f j (N.Comprehension Mo.Some) h = refl
node-told s f j (N.Comprehension Mo.All) h = refl
node-told s f j (N.Generator g k) h = refl
node-told s f j (N.Condition k) h = refl
node-told s f j N.Nothing h = refl

module _ {s : List ℕ} {i j : ℕ} (B : BranchPost s i j) {w : WriteForm} (S : ShapeAtPost s j w) where
  told_is : TruthPost s i (told w)
  unfolding form_tree
  told_is = record { is = λ f l. let (g, m, p) = B.alike f l in sym (p ∙ at g m) }
    where
      at : (g : ℕ) → left j < g → truth_type (type_at g s j) ≡ told w
      at zero m = absurd (omega arith)
      at (suc g) m = node-told s g j (node_at s j) B.no_choice ∙ ap told (sym S.is)

  pub truth-told : {k : Sort} → w ≡ Wr.Word k → {b : Bool} → b ≡ is_same k So.Number → TruthPost s i (not b)
  truth-told e h = subst (TruthPost s i) (ap told e ∙ ap not (sym h)) told_is

  pub truth-none : OneOf (1 ∷ 2 ∷ 3 ∷ []) (tag_of form.the_type w) → TruthPost s i false
  truth-none o = subst (TruthPost s i) (none w o) told_is
    where
      none : (w : WriteForm) → OneOf (1 ∷ 2 ∷ 3 ∷ []) (tag_of form.the_type w) → told w ≡ false
      none (Wr.Word k) o = absurd (miss (1 ∷ 2 ∷ 3 ∷ []) 0 tt o)
      none (Wr.Row g) o = refl
      none (Wr.Record e) o = refl
      none Wr.Collection o = refl

-- ---- is_number
number-single : (t : Ty) → number_type t ≡ is_single t && not (truth_type t)
unfolding number_type
number-single number = refl
number-single truth = refl
number-single (record' ts) = refl
number-single (coll c t) = refl

module _ {s : List ℕ} {i : ℕ} {x : ValueType} (H : ShapeAt s i x) where
  pub number_word : is_word x ≡ true → {b : Bool} → TruthPost s i b → NumberPost s i (not b)
  number_word e P = record { is = λ f l. ap not (P.is f l) ∙ sym (number-single (type_at f s i) ∙ ap (λ (y : Bool). y && not (truth_type (type_at f s i))) (sym (H.single f l) ∙ e)) }

  pub number-none : is_word x ≡ false → NumberPost s i false
  number-none e = record { is = λ f l. sym (number-single (type_at f s i) ∙ ap (λ (y : Bool). y && not (truth_type (type_at f s i))) (sym (H.single f l) ∙ e)) }

-- ---- two_numbers
module _ (s : List ℕ) (c e d : ℕ) (m : e ≤ form_words) (D : d ≡ next s c) where
  -- fewer than two
  pub one_field : e ≤ d → FieldsPost s c e false
  unfolding ship_fields
  one_field l = by-test (ltb c e)
      (λ q. record { is = by-more s (λ ts. false ≡ ship_fields ts) (ltb-true c e q) m (λ f k j. by-none s (λ ts. false ≡ ship_fields (ycons (type_at f s c) ts)) (omega (arith, D)) refl f j) })
      (λ q. record { is = by-none s (λ ts. false ≡ ship_fields ts) (ltb-false c e q) refl })

  module _ (k : d < e) where
    -- by the first two, and what is behind them
    first_two : (P : Tys → Type 0) → ((f g : ℕ) → left c < f → left d < g → left (next s d) + 1 < g → P (ycons (type_at f s c) (ycons (type_at g s d) (types_at g s (next s d) e)))) → (f : ℕ) → left c + 1 < f → P (types_at f s c e)
    unfolding next
    first_two P h = by-more s P (omega (arith, D, m)) m (λ f a b.
        subst (λ (j : ℕ). P (ycons (type_at f s c) (types_at f s j e))) D
        (by-more s (λ ts. P (ycons (type_at f s c) ts)) k m (λ g a₁ b₁. h f g a a₁ b₁) f (subst (λ (j : ℕ). left j + 1 < f) (sym D) b)))

    module _ {n : ℕ} (E : n ≡ next s d) where
      pub three-fields : n < e → FieldsPost s c e false
      unfolding ship_fields
      three-fields l = record { is = first_two (λ ts. false ≡ ship_fields ts) (λ f g a b j. by-more s (λ ts. false ≡ ship_fields (ycons (type_at f s c) (ycons (type_at g s d) ts))) (omega (arith, E)) m (λ r u v. refl) g j) }

      module _ (l : e ≤ n) where
        both : {a b : Bool} → NumberPost s c a → NumberPost s d b → FieldsPost s c e (a && b)
        unfolding ship_fields
        both {a} {b} A B = record {
          is = first_two (λ ts. (a && b) ≡ ship_fields ts) (λ f g p q j.
              by-none s (λ ts. (a && b) ≡ ship_fields (ycons (type_at f s c) (ycons (type_at g s d) ts))) (omega (arith, E)) (ap₂ (λ (x y : Bool). x && y) (A.is f p) (B.is g q)) g j);
        }

        pub two_fields : {a b : Bool} → NumberPost s c a → a ≡ true → NumberPost s d b → FieldsPost s c e b
        two_fields {a} {b} A t B = subst (FieldsPost s c e) (ap (λ (x : Bool). x && b) t) (both A B)

        pub first-other : {a : Bool} → NumberPost s c a → a ≡ false → FieldsPost s c e false
        first-other {a} A t = record {
          is = unfold ship_fields in first_two (λ ts. false ≡ ship_fields ts) (λ f g p q j.
              by-none s (λ ts. false ≡ ship_fields (ycons (type_at f s c) (ycons (type_at g s d) ts))) (omega (arith, E)) (sym (ap (λ (x : Bool). x && number_type (type_at g s d)) (sym (A.is f p) ∙ t))) g j);
        }

-- a row is a ship where it has two columns
row-ship : (n : ℕ) → eqb n 2 ≡ ship_fields (cells n)
unfolding cells ship_fields number_type
row-ship zero = refl
row-ship (suc zero) = refl
row-ship (suc (suc zero)) = refl
row-ship (suc (suc (suc n))) = ne_eqb (suc (suc (suc n))) 2 (λ e. omega (arith, e))

abbrev words_of : ValueType → ℕ
words_of Word = 0
words_of (Words n) = suc n
words_of (Fields e) = 0
words_of (Elements k h) = 0

other : {A : Type 0} {n : ℕ} {x : ValueType} → Words n ≡ x → words_of x ≡ 0 → A
other {n = n} e q = let z : suc n ≡ 0 = ap words_of e ∙ q in absurd (omega arith)

row_type : (s : List ℕ) (f h : ℕ) {n : ℕ} (H : ℕ → ℕ) (x : FormNode) → Words n ≡ shape_by (columns s) H h x → type_of (columns s) (form_node f s h x) ≡ record' (cells n)
unfolding type_of
row_type s f h H (N.Number z) e = other e refl
row_type s f h H (N.Truth b) e = other e refl
row_type s f h {n} H (N.Row g) e = ap (λ (k : ℕ). record' (cells k)) (let z : suc n ≡ suc (columns s g) = ap words_of e in omega (arith, z))
row_type s f h H (N.Cell c g) e = other e refl
row_type s f h H (N.Record j) e = other e refl
row_type s f h H (N.Binary o j) e = other e refl
row_type s f h H N.Negation e = other e refl
row_type s f h H (N.Operator o j) e = other e refl
row_type s f h H (N.Comprehension Mo.List) e = other e refl
row_type s f h H (N.Comprehension Mo.Bag) e = other e refl
row_type s f h H (N.Comprehension Mo.Set) e = other e refl
row_type s f h H (N.Comprehension Mo.Sum) e = other e refl
row_type s f h H (N.Comprehension Mo.Max) e = other e refl
row_type s f h H (N.Comprehension Mo.Min) e = other e refl
row_type s f h H (N.Comprehension Mo.Some) e = other e refl
row_type s f h H (N.Comprehension Mo.All) e = other e refl
row_type s f h H (N.Generator g k) e = other e refl
row_type s f h H (N.Condition j) e = other e refl
row_type s f h H N.Nothing e = other e refl

-- ---- is_ship
module _ {s : List ℕ} {h : ℕ} where
  pub ship-word : ShapeAt s h Word → ShipPost s h false
  unfolding is_ship
  ship-word H = record { is = λ f l. go (type_at f s h) (H.single f l) }
    where
      go : (t : Ty) → true ≡ is_single t → false ≡ is_ship t
      go number e = refl
      go truth e = refl
      go (record' ts) e = no e
      go (coll c t) e = refl

  pub ship-fields : {e : ℕ} {b : Bool} → ShapeAt s h (Fields e) → FieldsPost s (h + 1) e b → ShipPost s h b
  unfolding is_ship
  ship-fields {e} {b} H F = record { is = by-fields (λ t. b ≡ is_ship t) H.shaped (λ g q. F.is g q) }

  pub ship-elements : {k : CollectionKind} {j : ℕ} → ShapeAt s h (Elements k j) → ShipPost s h false
  unfolding is_ship
  ship-elements H = record { is = by-elements (λ t. false ≡ is_ship t) H.shaped (λ g q. refl) }

  pub ship-row : {n : ℕ} → ShapeAt s h (Words n) → ShipPost s h (eqb n 2)
  unfolding is_ship form_tree shape_in
  ship-row {n} H = record { is = elim [ zero ↦ λ l. absurd (omega arith) | suc f ↦ λ l. row-ship n ∙ sym (ap is_ship (row_type s f h (λ j. head_node (suc f) s j) (node_at s h) (H.is (suc f) l))) ] }

-- ---- gives_ships
abbrev pub is_bag : CollectionKind → Bool
is_bag Ki.List = false
is_bag Ki.Bag = true
is_bag Ki.Set = false

pub reshaped : {s : List ℕ} {i : ℕ} {r n : ValueType} → ShapeAt s i r → r ≡ n → ShapeAt s i n
reshaped {s} {i} H e = subst (ShapeAt s i) e H

module _ {s : List ℕ} where
  pub ships-bag : {k : CollectionKind} {h : ℕ} {b : Bool} → ShapeAt s 0 (Elements k h) → k ≡ Ki.Bag → ShipPost s h b → ShipsPost s b
  unfolding is_ships
  ships-bag {k} {h} {b} H e P = record { is = by-elements (λ t. b ≡ is_ships t) H.shaped (λ g q. P.is g q ∙ ap (λ (x : CollectionKind). is_ships (coll (collection_of x) (type_at g s h))) (sym e)) }

  pub ships-other : {k : CollectionKind} {h : ℕ} → ShapeAt s 0 (Elements k h) → is_bag k ≡ false → ShipsPost s false
  unfolding is_ships
  ships-other {k} {h} H o = record { is = by-elements (λ t. false ≡ is_ships t) H.shaped (λ g q. go k o g) }
    where
      go : (k : CollectionKind) → is_bag k ≡ false → (g : ℕ) → false ≡ is_ships (coll (collection_of k) (type_at g s h))
      go Ki.List o g = refl
      go Ki.Bag o g = no o
      go Ki.Set o g = refl

  -- no collection
  pub ships-none : {x : ValueType} → ShapeAt s 0 x → OneOf (0 ∷ 1 ∷ 2 ∷ []) (tag_of shape.the_type x) → ShipsPost s false
  unfolding is_ships
  ships-none {x} H o = go x o H
    where
      single : (t : Ty) → true ≡ is_single t → false ≡ is_ships t
      single number e = refl
      single truth e = refl
      single (record' ts) e = no e
      single (coll c t) e = no e

      flat : (t : Ty) → Flat t → false ≡ is_ships t
      flat number e = refl
      flat truth e = refl
      flat (record' ts) e = refl
      flat (coll c t) e = absurd e

      go : (x : ValueType) → OneOf (0 ∷ 1 ∷ 2 ∷ []) (tag_of shape.the_type x) → ShapeAt s 0 x → ShipsPost s false
      go Word o H = record { is = λ f l. single (type_at f s 0) (H.single f l) }
      go (Words n) o H = record { is = by-words (λ t. false ≡ is_ships t) H.shaped (λ t h e. flat t h) }
      go (Fields e) o H = record { is = by-fields (λ t. false ≡ is_ships t) H.shaped (λ g q. refl) }
      go (Elements k h) o H = absurd (miss (0 ∷ 1 ∷ 2 ∷ []) 3 tt o)
