-- Laws of the type at a place.
use mathlib.Core.Path.{◌≡◌, refl, sym, ap, subst, ◌∙◌}
use mathlib.Core.Bool.{true, false}
use mathlib.Core.List.{List}
use Prim.Native.Nat.{ℕ, zero, suc, ◌+◌, ◌/◌, ◌≤◌, ◌<◌}
use native.Mathlib.Omega.{arith}
use Rattle.base_signed.proofs.SignedWords.{no}
use Rattle.spec_calculus.specs.Syntax.{of, Bin, plus, minus, times, equal, less, and, or, Fun, choice, is_open}
use Rattle.spec_checks.specs.Types.{Ty, Tys, number, truth, record', coll, ynil, ycons, cells}
use Rattle.spec_checks.proofs.Judgement.{result}
use Rattle.spec_checks.proofs.Refold.{second, single, gives, gathered}
use Rattle.spec_normal_form.specs.Form.{Form}
use Rattle.base_syntax.specs.declared.Monoid.{Monoid}
use Rattle.base_syntax.specs.declared.Monoid.TheVariants as Mo
use Rattle.base_syntax.specs.MonoidWord.{monoid_of}
use Rattle.base_syntax.specs.Numbers.{bin_of}
use Rattle.form_words.specs.declared.FormNode.{FormNode}
use Rattle.form_words.specs.declared.FormNode.TheVariants.{Number, Truth, Row, Cell, Record, Binary, Negation, Operator, Comprehension, Generator, Condition, Nothing}
use Rattle.form_words.specs.NodeWord.{next}
use Rattle.form_words.specs.FormTree.{form_tree, head_tree, left}
use Rattle.base_scratch.specs.Map.{form_words}
use Rattle.form_words.specs.declared.Clause.TheVariants as Cl
use Rattle.form_words.specs.Look.{Looks, LooksC}
use Rattle.form_words.specs.HeadPlace.{head_node}
use Rattle.form_words.proofs.NodeWords.{look-out, next_past, form_node, form-is, head-is, head-node-is, forms-end, forms-more}
use Rattle.base_tables.specs.Description.{columns_in, description_in}
use Rattle.form_env.specs.Environment.{slot_of, row_span}
use Rattle.answer_types.specs.declared.CollectionKind.{CollectionKind}
use Rattle.answer_types.specs.declared.Layout.{Layout}
use Rattle.answer_types.specs.declared.ValueType.{ValueType}
use Rattle.answer_types.specs.declared.ValueType.TheVariants as Sh
use Rattle.answer_types.specs.Columns.{columns}
use Rattle.answer_types.specs.Shape.{type_of, types_of, type_at, types_at, is_single, collection_of, HeadPost, end_by, ClauseEndPost, gather_of, shape_by, shape_in, Shaped, ShapeAt, LayoutOf, LaidBy}
use Rattle.answer_types.specs.FlatTypes.{Flat, FlatEach, width_of, width_each}

-- ---- columns
pub columns-is : (s : List ℕ) (g : ℕ) {e n w r : ℕ} → e ≡ slot_of s g → n ≡ e / row_span → w ≡ description_in s n → r ≡ columns_in w → r ≡ columns s g
unfolding columns
columns-is s g p t q h = h ∙ ap columns_in (q ∙ ap (description_in s) (t ∙ ap (λ (x : ℕ). x / row_span) p))

-- ---- clauses and heads
module _ {s : List ℕ} {j : ℕ} where
  pub clause-generator : {g k : ℕ} → LooksC s j (Cl.Generator g k) → ClauseEndPost s j (j + 1)
  clause-generator H = record { is = ap (end_by j) H.is; past = omega arith; upto = λ l. omega (arith, H.inside.0); over = λ l f. (head-is H f, head-node-is H f); none = λ l. absurd (omega arith) }

  pub clause-condition : {e : ℕ} → LooksC s j (Cl.Condition e) → ClauseEndPost s j e
  clause-condition H = record { is = ap (end_by j) H.is; past = omega (arith, H.inside.0); upto = λ l. H.inside.1; over = λ l f. (head-is H f, head-node-is H f); none = λ l. absurd (omega (arith, H.inside.0)) }

  pub clause-none : LooksC s j Cl.Head → ClauseEndPost s j j
  clause-none H = record { is = ap (end_by j) H.is; past = omega arith; upto = λ l. absurd (omega arith); over = λ l. absurd (omega arith); none = λ l f. (head-is H f, head-node-is H f) }

-- on the way from i to the head, at j, where a clause ends at e
pub record Seeking (s : List ℕ) (i j e : ℕ) : Type 0 where
  pub past : i ≤ j
  pub upto : i ≤ form_words → j ≤ form_words
  pub clause : ClauseEndPost s j e
  pub same : (f : ℕ) → left i + 1 < f → (g : ℕ) × (left j + 1 < g) × (head_tree f s i ≡ head_tree g s j) × (head_node f s i ≡ head_node g s j)

pub seek-first : {s : List ℕ} {i e : ℕ} → ClauseEndPost s i e → Seeking s i i e
seek-first C = record { past = omega arith; upto = λ l. l; clause = C; same = λ f l. (f, l, refl, refl) }

module _ {s : List ℕ} {i j e : ℕ} (I : Seeking s i j e) where
  pub seek-again : {d : ℕ} → j < e → ClauseEndPost s e d → Seeking s i e d
  seek-again {d} l C = record {
    past = omega (arith, I.past);
    upto = λ m. I.clause.upto l;
    clause = C;
    same = λ f m. let (g, p, q, r) = I.same f m in on f g p q r;
  }
    where
      on : (f g : ℕ) → left j + 1 < g → head_tree f s i ≡ head_tree g s j → head_node f s i ≡ head_node g s j →
          (k : ℕ) × (left e + 1 < k) × (head_tree f s i ≡ head_tree k s e) × (head_node f s i ≡ head_node k s e)
      on f zero p q r = absurd (omega arith)
      on f (suc g) p q r = (g, omega (arith, I.clause.upto l), q ∙ (I.clause.over l g).0, r ∙ (I.clause.over l g).1)

  pub seek-last : e ≤ j → HeadPost s i j
  seek-last l = record {
    is = λ f m. let (g, p, q, r) = I.same f m in at f g p r;
    past = I.past;
    upto = I.upto;
    form = λ f m. let (g, p, q, r) = I.same f m in on f g p q;
  }
    where
      at : (f g : ℕ) → left j + 1 < g → head_node f s i ≡ head_node g s j → j ≡ head_node f s i
      at f zero p r = absurd (omega arith)
      at f (suc g) p r = sym (r ∙ (I.clause.none l g).1)

      on : (f g : ℕ) → left j + 1 < g → head_tree f s i ≡ head_tree g s j → (k : ℕ) × (left j < k) × (head_tree f s i ≡ form_tree k s j)
      on f zero p q = absurd (omega arith)
      on f (suc g) p q = (g, omega arith, q ∙ (I.clause.none l g).0)

-- ---- shapes
-- what holds of the form at a place, by the node there
module _ {s : List ℕ} {i : ℕ} {n : FormNode} (H : Looks s i n) (P : Form → Type 0) where
  at-node : ((f : ℕ) → left i < suc f → P (form_node f s i n)) → (f : ℕ) → left i < f → P (form_tree f s i)
  at-node h = elim [ zero ↦ λ l. absurd (omega arith) | suc f ↦ λ l. subst P (sym (form-is H f)) (h f l) ]

-- behind the words of the form the type is a number's
pub type-out : (s : List ℕ) {i : ℕ} → form_words ≤ i → (f : ℕ) → left i < f → type_at f s i ≡ number
unfolding type_of
type-out s l = at-node (look-out l) (λ t. type_of (columns s) t ≡ number) (λ f k. refl)

-- a node whose values are one word
abbrev OneWord : FormNode → Type 0
OneWord (Number z) = Unit {0}
OneWord (Truth b) = Unit {0}
OneWord (Row g) = ⊥
OneWord (Cell c g) = Unit {0}
OneWord (Record e) = ⊥
OneWord (Binary o j) = Unit {0}
OneWord Negation = Unit {0}
OneWord (Operator f e) = Unit {0}
OneWord (Comprehension Mo.List) = ⊥
OneWord (Comprehension Mo.Bag) = ⊥
OneWord (Comprehension Mo.Set) = ⊥
OneWord (Comprehension Mo.Sum) = Unit {0}
OneWord (Comprehension Mo.Max) = Unit {0}
OneWord (Comprehension Mo.Min) = Unit {0}
OneWord (Comprehension Mo.Some) = Unit {0}
OneWord (Comprehension Mo.All) = Unit {0}
OneWord (Generator g k) = Unit {0}
OneWord (Condition j) = Unit {0}
OneWord Nothing = Unit {0}

-- of n words, each a number or a truth
abbrev Has : ℕ → Ty → Type 0
Has n t = Flat t × (n ≡ width_of t)

pub single-has : (t : Ty) → true ≡ is_single t → Has 1 t
unfolding width_of
single-has number e = (tt, refl)
single-has truth e = (tt, refl)
single-has (record' ts) e = no e
single-has (coll c t) e = no e

pub row-width : (n : ℕ) → FlatEach (cells n) × (n ≡ width_each (cells n))
unfolding cells width_of
row-width zero = (tt, refl)
row-width (suc n) = let h = row-width n in ((tt, h.0), omega (arith, h.1))

single-result : (o : Bin) → true ≡ is_single (result o)
unfolding result
single-result plus = refl
single-result minus = refl
single-result times = refl
single-result equal = refl
single-result less = refl
single-result and = refl
single-result or = refl

single-one : (t : Ty) → true ≡ is_single (single t)
unfolding single
single-one number = refl
single-one truth = refl
single-one (record' ts) = refl
single-one (coll c t) = refl

pub single-gives : (f : Fun) (us : Tys) → true ≡ is_single (gives f us)
unfolding gives
single-gives choice us = single-one (second us)
single-gives (is_open n c) us = refl

single-node : (s : List ℕ) (i f : ℕ) (n : FormNode) → OneWord n → true ≡ is_single (type_of (columns s) (form_node f s i n))
unfolding type_of gathered
single-node s i f (Number z) p = refl
single-node s i f (Truth b) p = refl
single-node s i f (Row g) p = absurd p
single-node s i f (Cell c g) p = refl
single-node s i f (Record e) p = absurd p
single-node s i f (Binary o j) p = single-result (bin_of o)
single-node s i f Negation p = refl
single-node s i f (Operator g e) p = single-gives _ _
single-node s i f (Comprehension Mo.List) p = absurd p
single-node s i f (Comprehension Mo.Bag) p = absurd p
single-node s i f (Comprehension Mo.Set) p = absurd p
single-node s i f (Comprehension Mo.Sum) p = refl
single-node s i f (Comprehension Mo.Max) p = refl
single-node s i f (Comprehension Mo.Min) p = refl
single-node s i f (Comprehension Mo.Some) p = refl
single-node s i f (Comprehension Mo.All) p = refl
single-node s i f (Generator g k) p = refl
single-node s i f (Condition j) p = refl
single-node s i f Nothing p = refl

-- its shape, too, is one word
one-shape : (C : ℕ → ℕ) (H : ℕ → ℕ) (i : ℕ) (n : FormNode) → OneWord n → Sh.Word ≡ shape_by C H i n
one-shape C H i (Number z) p = refl
one-shape C H i (Truth b) p = refl
one-shape C H i (Row g) p = absurd p
one-shape C H i (Cell c g) p = refl
one-shape C H i (Record e) p = absurd p
one-shape C H i (Binary o j) p = refl
one-shape C H i Negation p = refl
one-shape C H i (Operator f e) p = refl
one-shape C H i (Comprehension Mo.List) p = absurd p
one-shape C H i (Comprehension Mo.Bag) p = absurd p
one-shape C H i (Comprehension Mo.Set) p = absurd p
one-shape C H i (Comprehension Mo.Sum) p = refl
one-shape C H i (Comprehension Mo.Max) p = refl
one-shape C H i (Comprehension Mo.Min) p = refl
one-shape C H i (Comprehension Mo.Some) p = refl
one-shape C H i (Comprehension Mo.All) p = refl
one-shape C H i (Generator g k) p = refl
one-shape C H i (Condition j) p = refl
one-shape C H i Nothing p = refl

-- a number or a truth is one word
pub as-words : {s : List ℕ} {i : ℕ} → Shaped s i Sh.Word → Shaped s i (Sh.Words 1)
as-words {s} {i} H = record { is = λ f l. single-has (type_at f s i) (H.is f l) }

module _ {s : List ℕ} {i : ℕ} where
  -- the shape by the node that was looked at
  shape-node : {n : FormNode} → Looks s i n → (f : ℕ) → shape_by (columns s) (λ j. head_node f s j) i n ≡ shape_in f s i
  unfolding shape_in
  shape-node H f = ap (shape_by (columns s) (λ j. head_node f s j) i) H.is

  pub shape-word : {n : FormNode} → Looks s i n → OneWord n → ShapeAt s i Sh.Word
  shape-word {n} H p =
      let q = at-node H (λ t. true ≡ is_single (type_of (columns s) t)) (λ f l. single-node s i f n p) in
      record { is = λ f l. one-shape (columns s) (λ j. head_node f s j) i n p ∙ shape-node H f; single = q; shaped = record { is = q } }

  pub shape_row : {g r : ℕ} → Looks s i (Row g) → r ≡ columns s g → ShapeAt s i (Sh.Words r)
  unfolding type_of width_of
  shape_row {g} {r} H e = let h = row-width (columns s g) in
      record {
        is = λ f l. ap Sh.Words e ∙ shape-node H f;
        single = at-node H (λ t. false ≡ is_single (type_of (columns s) t)) (λ f l. refl);
        shaped = record { is = at-node H (λ t. Has r (type_of (columns s) t)) (λ f l. (h.0, e ∙ h.1)) };
      }

  pub shape-fields : {e : ℕ} → Looks s i (Record e) → ShapeAt s i (Sh.Fields e)
  unfolding type_of
  shape-fields {e} H = let p = H.inside in
      record {
        is = λ f l. shape-node H f;
        single = at-node H (λ t. false ≡ is_single (type_of (columns s) t)) (λ f l. refl);
        shaped = record { is = (omega arith, p.1, at-node H (λ t. (g : ℕ) × (left (i + 1) + 1 < g) × (type_of (columns s) t ≡ record' (types_at g s (i + 1) e))) (λ f l. (f, omega arith, refl))) };
      }

  pub shape-elements : {m : Monoid} {h : ℕ} (k : CollectionKind) → Looks s i (Comprehension m) → HeadPost s (i + 1) h → monoid_of m ≡ of (collection_of k) → Sh.Elements k h ≡ gather_of m h → ShapeAt s i (Sh.Elements k h)
  unfolding type_of gathered
  shape-elements {m} {h} k H D e w = let p = H.inside in
      record {
        is = λ f l. w ∙ ap (gather_of m) (D.is f (omega arith)) ∙ shape-node H f;
        single = at-node H (λ t. false ≡ is_single (type_of (columns s) t)) (λ f l. ap (λ x. is_single (gathered x (type_of (columns s) (head_tree f s (i + 1))))) (sym e));
        shaped = record {
          is = (
            omega (arith, D.past),
            D.upto (omega arith),
            at-node H (λ t. (g : ℕ) × (left h < g) × (type_of (columns s) t ≡ coll (collection_of k) (type_at g s h)))
                (λ f l. let (g, q, r) = D.form f (omega arith) in (g, q, ap (λ x. gathered x (type_of (columns s) (head_tree f s (i + 1)))) e ∙ ap (λ t. coll (collection_of k) (type_of (columns s) t)) r)),
          );
        };
      }

-- ---- what holds of the type at a place, by its shape, at every fuel
pub reshape : {s : List ℕ} {i : ℕ} {r n : ValueType} → Shaped s i r → r ≡ n → Shaped s i n
reshape {s} {i} H e = subst (Shaped s i) e H

-- a layout made of a place and the shape there
pub laid : {s : List ℕ} {i : ℕ} {n : ValueType} {r : Layout} → r.place ≡ i → r.shape ≡ n → Shaped s i n → LayoutOf s i r
laid {s} {i} {r = r} ei es H = record { at_place = ei; shaped = subst (λ (j : ℕ). Shaped s j r.shape) (sym ei) (subst (Shaped s i) (sym es) H) }

-- a layout by any definition of its shape
pub laid_as : {S : ℕ → List ℕ → ℕ → ValueType} {s : List ℕ} {i : ℕ} {r : Layout} → LaidBy S s i r → LayoutOf s i r
laid_as L = record { at_place = L.at_place; shaped = L.shaped }

-- what holds of a layout's place holds of the place it was read at
pub at-laid : {s : List ℕ} {i : ℕ} {r : Layout} → LayoutOf s i r → (P : ℕ → Type 0) → P r.place → P i
at-laid L P p = subst P L.at_place p

module _ {s : List ℕ} {i : ℕ} (P : Ty → Type 0) where
  pub by-words : {n : ℕ} → Shaped s i (Sh.Words n) → ((t : Ty) → Flat t → n ≡ width_of t → P t) → (f : ℕ) → left i < f → P (type_at f s i)
  by-words H p f l = let h = H.is f l in p (type_at f s i) h.0 h.1

  pub by-fields : {e : ℕ} → Shaped s i (Sh.Fields e) → ((g : ℕ) → left (i + 1) + 1 < g → P (record' (types_at g s (i + 1) e))) → (f : ℕ) → left i < f → P (type_at f s i)
  by-fields H p f l = let (g, q, r) = H.is.2 f l in subst P (sym r) (p g q)

  pub by-elements : {k : CollectionKind} {h : ℕ} → Shaped s i (Sh.Elements k h) → ((g : ℕ) → left h < g → P (coll (collection_of k) (type_at g s h))) → (f : ℕ) → left i < f → P (type_at f s i)
  by-elements H p f l = let (g, q, r) = H.is.2 f l in subst P (sym r) (p g q)

module _ (s : List ℕ) {c e : ℕ} (P : Tys → Type 0) where
  pub by-none : e ≤ c → P ynil → (f : ℕ) → left c + 1 < f → P (types_at f s c e)
  unfolding type_of
  by-none q p = elim [ zero ↦ λ l. absurd (omega arith) | suc f ↦ λ l. subst (λ t. P (types_of (columns s) t)) (sym (forms-end f s c e q)) p ]

  -- the first, at place c, and the others
  pub by-more : c < e → e ≤ form_words → ((f : ℕ) → left c < f → left (next s c) + 1 < f → P (ycons (type_at f s c) (types_at f s (next s c) e))) → (f : ℕ) → left c + 1 < f → P (types_at f s c e)
  unfolding type_of
  by-more q m p = elim [ zero ↦ λ l. absurd (omega arith) | suc f ↦ λ l. subst (λ t. P (types_of (columns s) t)) (sym (forms-more f s c e q)) (p f (omega arith) (omega (arith, next_past s c (omega arith)))) ]
