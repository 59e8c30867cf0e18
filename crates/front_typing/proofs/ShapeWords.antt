-- The words of the shapes are right, so the answers are 25's and 26's.
use mathlib.Core.Path.{◌≡◌, refl, sym, ap, ap₂, subst, ◌∙◌}
use mathlib.Core.List.{List, [], ◌∷◌}
use mathlib.Core.Bool.{Bool, true, false}
use Prim.Native.Nat.{ℕ, zero, suc, ◌+◌, ◌-◌, ◌*◌, ◌/◌, ◌%◌, ◌^◌, ◌≤◌, ◌<◌}
use native.Mathlib.Omega.{arith}
use lib.Dec.{eqb}
use lib.ListN.{length, get_or}
use lib.Seq.{get_or-set_same, get_or-set_other}
use borrow.Author.Tests.{lt-ltb, eqb-true, eqb-false}
use Rattle.spec_calculus.specs.Lists.{pick}
use Rattle.spec_calculus.specs.Syntax.{Question, as_term}
use Rattle.spec_calculus.specs.Value.{Tables, is_there}
use Rattle.spec_checks.specs.Types.{wrong, type_of, is_typed, types_fit, generators_fit}
use Rattle.front_nodes.specs.NodeTable.{nodes_of}
use Rattle.front_nodes.proofs.PostOrder.{post-order}
use Rattle.front_nodes.proofs.SameTable.{nodes-set}
use Rattle.front_theory.specs.NodeTable.{Nodes}
use Rattle.front_theory.specs.QuestionNodes.{no_names, Holds}
use Rattle.base_scratch.specs.Map.{shapes_at, sizes_at}
use Rattle.base_tables.specs.Description.{collection_in, columns_in, most_tables}
use Rattle.base_tables.proofs.TableWords.{present-same, table_same}
use Rattle.front_typing.specs.declared.TypeHead.{TypeHead}
use Rattle.front_typing.specs.declared.TypeHead.TheVariants.{Wrong, Number, Truth, Record, Row, Table, Coll}
use Rattle.front_typing.specs.NodeTypes.{node_type}
use Rattle.front_typing.specs.Shapes.{fits, shape_by}
use Rattle.front_typing.specs.ShapeWords.{numbered, shape_word, shape_in, shapes_in, collection_by, known_in, rules, shape_of, shaped, shaped_up_to, Judges}
use Rattle.front_typing.proofs.NodeTypes.{question-type}
use Rattle.front_typing.proofs.ShapesOfTypes.{Knows, Rep, Within, fits_is, shape-step}
use Rattle.front_typing.proofs.Exits.{shaped-length}

-- ---- a shape is read back from its word
abbrev Small : TypeHead → Type 0
Small Wrong = Unit {0}
Small Number = Unit {0}
Small Truth = Unit {0}
Small (Record j) = j < 2 ^ 60
Small (Row k) = k < 2 ^ 60
Small (Table k) = k < 2 ^ 60
Small (Coll j) = j < 2 ^ 60

abbrev shape_as : ℕ → ℕ → TypeHead
shape_as c j = get_or (Wrong ∷ Number ∷ Truth ∷ Record j ∷ Row j ∷ Table j ∷ Coll j ∷ []) c Wrong

read-numbered : (c j : ℕ) → c < 8 → j < 2 ^ 60 → shape_in (numbered c j) ≡ shape_as c j
unfolding shape_in pick
read-numbered c j h l =
    let p : (c + 8 * j) % 8 ≡ c = omega arith in
    let q : (c + 8 * j) / 8 ≡ j = omega arith in
    ap shape_in (ap (λ t. pick t (c + 8 * j) 0) (lt-ltb j (2 ^ 60) l)) ∙ ap₂ shape_as p q

read_back : (a : TypeHead) → Small a → shape_in (shape_word a) ≡ a
unfolding shape_word shape_in
read_back Wrong h = refl
read_back Number h = refl
read_back Truth h = refl
read_back (Record j) h = read-numbered 3 j (omega arith) h
read_back (Row k) h = read-numbered 4 k (omega arith) h
read_back (Table k) h = read-numbered 5 k (omega arith) h
read_back (Coll j) h = read-numbered 6 j (omega arith) h

module _ (b : Bool) (T : Tables) (few : (k : ℕ) → is_there T k ≡ true → k < 8) (s : List ℕ) (long : sizes_at ≤ length s) (K : Knows (known_in s) T) where
  abbrev N : Nodes
  N = nodes_of s

  abbrev up_to : ℕ → List ℕ
  up_to i = shaped_up_to b s i

  -- ---- what the stores leave as it is
  words-kept : (i j : ℕ) → j < shapes_at → get_or (up_to i) j 0 ≡ get_or s j 0
  unfolding shaped_up_to shaped
  words-kept zero j h = refl
  words-kept (suc i) j h = get_or-set_other (up_to i) (shapes_at + i) j (shape_word (shape_of b (up_to i) i)) 0 (λ e. omega arith) ∙ words-kept i j h

  nodes-kept : (i : ℕ) → nodes_of (up_to i) ≡ N
  unfolding shaped_up_to shaped
  nodes-kept zero = refl
  nodes-kept (suc i) = nodes-set (up_to i) (shapes_at + i) (shape_word (shape_of b (up_to i) i)) (omega arith) ∙ nodes-kept i

  knows-kept : (i : ℕ) → Knows (known_in (up_to i)) T
  knows-kept i =
      let first : (j : ℕ) → j ≤ most_tables → get_or (up_to i) j 0 ≡ get_or s j 0 = λ j p. words-kept i j (omega arith) in
      record {
        has = λ k. present-same (up_to i) s first k ∙ K.has k;
        columns = λ k l. ap columns_in (table_same (up_to i) s first k) ∙ K.columns k l;
        kind = λ k l. ap (λ w. collection_by (collection_in w)) (table_same (up_to i) s first k) ∙ K.kind k l;
      }

  earlier : (i j : ℕ) → j < i → shapes_in (up_to (suc i)) j ≡ shapes_in (up_to i) j
  unfolding shaped_up_to shaped
  earlier i j h = ap shape_in (get_or-set_other (up_to i) (shapes_at + i) (shapes_at + j) (shape_word (shape_of b (up_to i) i)) 0 (λ e. omega arith))

  here : (i : ℕ) → i < 256 → shapes_in (up_to (suc i)) i ≡ shape_in (shape_word (shape_of b (up_to i) i))
  unfolding shaped_up_to shaped
  here i h = ap shape_in (get_or-set_same (up_to i) (shapes_at + i) (shape_word (shape_of b (up_to i) i)) 0 (omega (arith, shaped-length b s i)))

  -- ---- each word is right
  abbrev Right : ℕ → TypeHead → Type 0
  Right i a = Rep (rules b) T N a (node_type (rules b) T N i) × Within (rules b) T N i a

  small : (i : ℕ) → i < 256 → (a : TypeHead) → Right i a → Small a
  small i h Wrong r = tt
  small i h Number r = tt
  small i h Truth r = tt
  small i h (Record j) r = omega (arith, r.1)
  small i h (Row k) r = omega (arith, few k r.0.0)
  small i h (Table k) r = omega (arith, few k r.0.0)
  small i h (Coll j) r = omega (arith, r.1)

  stored : (i : ℕ) → i < 256 → (a : TypeHead) → shape_of b (up_to i) i ≡ a → Right i a → Right i (shapes_in (up_to (suc i)) i)
  stored i h a e r = subst (Right i) (sym (here i h ∙ ap (λ x. shape_in (shape_word x)) e ∙ read_back a (small i h a r))) r

  pub right : (i : ℕ) → i ≤ 256 → (j : ℕ) → j < i → Right j (shapes_in (up_to i) j)
  right zero h j l = absurd (omega arith)
  right (suc i) h j l = go (eqb j i) refl (λ k m. right i (omega arith) k m)
    where
      go : (t : Bool) → eqb j i ≡ t → ((k : ℕ) → k < i → Right k (shapes_in (up_to i) k)) → Right j (shapes_in (up_to (suc i)) j)
      go true e ih =
          let I = known_in (up_to i) in
          let σ = shapes_in (up_to i) in
          let q = ap (λ M. shape_by (rules b) I M σ i (M i)) (nodes-kept i) in
          subst (λ x. Right x (shapes_in (up_to (suc i)) x)) (sym (eqb-true j i e))
          (stored i (omega arith) (shape_by (rules b) I N σ i (N i)) q (shape-step (rules b) T N I (knows-kept i) (post-order s) σ i ih))
      go false e ih =
          let n = eqb-false j i e in
          let m : j < i = omega arith in
          subst (Right j) (sym (earlier i j m)) (ih j m)

  -- the answer, for a question that the nodes hold
  pub answer-is : {s' : List ℕ} {r : Bool} (n : ℕ) → 1 ≤ n → n ≤ 256 → Judges b s n s' r → (dep : ℕ → ℕ) (q : Question) → Holds N dep (as_term q) (n - 1) 0 no_names →
      r ≡ is_typed (type_of (rules b) T (as_term q) (λ x. wrong))
  answer-is n some most W dep q H =
      let R = right n most (n - 1) (omega arith) in
      W.answer ∙ ap (λ t. fits (shapes_in t (n - 1))) W.words ∙ sym (fits_is (rules b) T N (shapes_in (up_to n) (n - 1)) (node_type (rules b) T N (n - 1)) R.0) ∙
      ap is_typed (question-type (rules b) T N (post-order s) dep q (n - 1) H)

-- "25: a type, field or table that does not fit."
pub types-fit-is : (T : Tables) → ((k : ℕ) → is_there T k ≡ true → k < 8) → (s : List ℕ) → sizes_at ≤ length s → Knows (known_in s) T → {s' : List ℕ} {r : Bool} (n : ℕ) → 1 ≤ n → n ≤ 256 → Judges false s n s' r →
    (dep : ℕ → ℕ) (q : Question) → Holds (nodes_of s) dep (as_term q) (n - 1) 0 no_names → r ≡ types_fit T q
unfolding types_fit
types-fit-is T few s long K n some most J dep q H = answer-is false T few s long K n some most J dep q H

-- "26: a generator its monoid may not have."
pub generators-fit-is : (T : Tables) → ((k : ℕ) → is_there T k ≡ true → k < 8) → (s : List ℕ) → sizes_at ≤ length s → Knows (known_in s) T → {s' : List ℕ} {r : Bool} (n : ℕ) → 1 ≤ n → n ≤ 256 → Judges true s n s' r →
    (dep : ℕ → ℕ) (q : Question) → Holds (nodes_of s) dep (as_term q) (n - 1) 0 no_names → r ≡ generators_fit T q
unfolding generators_fit
generators-fit-is T few s long K n some most J dep q H = answer-is true T few s long K n some most J dep q H
