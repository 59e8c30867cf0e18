-- A normal form as the type of its values, read from its words in scratch.
use Rattle.std.specs.Prelude.{◌≡◌, Bool, true, false, List, ℕ, suc, ◌+◌, ◌<◌, ◌≤◌}
use Rattle.spec_calculus.specs.Syntax.{Collection, list, bag, set}
use Rattle.spec_checks.specs.Types.{Ty, Tys, number, truth, record', coll, ynil, ycons, cells}
use Rattle.spec_checks.proofs.Judgement.{result}
use Rattle.spec_checks.proofs.Refold.{gives, gathered}
use Rattle.spec_normal_form.specs.Form.{Form, Forms, row, cell, rec, bin, negate, app, comp, fnil, fcons}
use Rattle.spec_normal_form.specs.Form as Fo
use Rattle.base_syntax.specs.declared.Monoid.{Monoid}
use Rattle.base_syntax.specs.declared.Monoid.TheVariants as Mo
use Rattle.form_words.specs.declared.FormNode.{FormNode}
use Rattle.form_words.specs.declared.FormNode.TheVariants.{Number, Truth, Row, Cell, Record, Binary, Negation, Operator, Comprehension, Generator, Condition, Nothing}
use Rattle.form_words.specs.declared.Clause.{Clause}
use Rattle.form_words.specs.declared.Clause.TheVariants as Cl
use Rattle.base_scratch.specs.Map.{form_words}
use Rattle.form_words.specs.NodeWord.{node_at}
use Rattle.form_words.specs.FormTree.{clause_of, form_tree, forms_tree, head_tree, left}
use Rattle.form_words.specs.HeadPlace.{head_node}
use Rattle.answer_types.specs.Columns.{columns}
use Rattle.answer_types.specs.FlatTypes.{Flat, width_of}
use Rattle.answer_types.specs.declared.CollectionKind.{CollectionKind}
use Rattle.answer_types.specs.declared.CollectionKind.TheVariants as Ki
use Rattle.answer_types.specs.declared.Layout.{Layout}
use Rattle.answer_types.specs.declared.ValueType.{ValueType}
use Rattle.answer_types.specs.declared.ValueType.TheVariants.{Word, Words, Fields, Elements}

-- C: how many columns the rows of a generator have
unfoldable mutual
  pub type_of : (ℕ → ℕ) → Form → Ty
  type_of C (Fo.num z) = number
  type_of C (Fo.truth b) = truth
  type_of C (row g) = record' (cells (C g))
  type_of C (cell i g) = number
  type_of C (rec ts) = record' (types_of C ts)
  type_of C (bin o t u) = result o
  type_of C (negate t) = truth
  type_of C (app f ts) = gives f (types_of C ts)
  type_of C (comp m q h) = gathered m (type_of C h)

  pub types_of : (ℕ → ℕ) → Forms → Tys
  types_of C fnil = ynil
  types_of C (fcons t ts) = ycons (type_of C t) (types_of C ts)

-- the type at place i, the types between two places
abbrev pub type_at : ℕ → List ℕ → ℕ → Ty
type_at f s i = type_of (columns s) (form_tree f s i)

abbrev pub types_at : ℕ → List ℕ → ℕ → ℕ → Tys
types_at f s i e = types_of (columns s) (forms_tree f s i e)

-- what each case of an enum is
abbrev pub collection_of : CollectionKind → Collection
collection_of Ki.List = list
collection_of Ki.Bag = bag
collection_of Ki.Set = set

-- the head behind the clauses from place j on stands at h; that form is read there
pub record HeadPost (s : List ℕ) (j h : ℕ) : Type 0 where
  pub is : (f : ℕ) → left j + 1 < f → h ≡ head_node f s j
  pub past : j ≤ h
  pub upto : j ≤ form_words → h ≤ form_words
  pub form : (f : ℕ) → left j + 1 < f → (g : ℕ) × (left h < g) × (head_tree f s j ≡ form_tree g s h)

-- where the clause at place j ends: at j itself where a head stands
abbrev pub end_by : ℕ → Clause → ℕ
end_by j (Cl.Generator g k) = j + 1
end_by j (Cl.Condition e) = e
end_by j Cl.Head = j

-- the clause at place j ends at e; no clause stands there where that is j
pub record ClauseEndPost (s : List ℕ) (j e : ℕ) : Type 0 where
  pub is : e ≡ end_by j (clause_of (node_at s j))
  pub past : j ≤ e
  pub upto : j < e → e ≤ form_words
  pub over : j < e → (f : ℕ) → (head_tree (suc f) s j ≡ head_tree f s e) × (head_node (suc f) s j ≡ head_node f s e)
  pub none : e ≤ j → (f : ℕ) → (head_tree (suc f) s j ≡ form_tree f s j) × (head_node (suc f) s j ≡ j)

-- ---- the shape of a type
-- of a comprehension with its head at h: a collection of its heads, or a number or a truth
abbrev pub gather_of : Monoid → ℕ → ValueType
gather_of Mo.List h = Elements Ki.List h
gather_of Mo.Bag h = Elements Ki.Bag h
gather_of Mo.Set h = Elements Ki.Set h
gather_of Mo.Sum h = Word
gather_of Mo.Max h = Word
gather_of Mo.Min h = Word
gather_of Mo.Some h = Word
gather_of Mo.All h = Word

-- by the node at i: C is how many columns the rows of a generator have, H where the head stands behind the clauses from a place
abbrev pub shape_by : (ℕ → ℕ) → (ℕ → ℕ) → ℕ → FormNode → ValueType
shape_by C H i (Number z) = Word
shape_by C H i (Truth b) = Word
shape_by C H i (Row g) = Words (C g)
shape_by C H i (Cell c g) = Word
shape_by C H i (Record e) = Fields e
shape_by C H i (Binary o j) = Word
shape_by C H i Negation = Word
shape_by C H i (Operator f e) = Word
shape_by C H i (Comprehension m) = gather_of m (H (i + 1))
shape_by C H i (Generator g k) = Word
shape_by C H i (Condition j) = Word
shape_by C H i Nothing = Word

unfoldable pub shape_in : ℕ → List ℕ → ℕ → ValueType
shape_in f s i = shape_by (columns s) (λ j. head_node f s j) i (node_at s i)

-- a number or a truth, told of a type and of a shape
abbrev pub is_single : Ty → Bool
is_single number = true
is_single truth = true
is_single (record' ts) = false
is_single (coll c t) = false

abbrev pub is_word : ValueType → Bool
is_word Word = true
is_word (Words n) = false
is_word (Fields e) = false
is_word (Elements k h) = false

-- A type as the words show it: a number or a truth; so many of these; a record's fields and a collection's elements have types of
-- their own, at places further on.
abbrev pub ShapedAs : List ℕ → ℕ → ValueType → Type 0
ShapedAs s i Word = (f : ℕ) → left i < f → true ≡ is_single (type_at f s i)
ShapedAs s i (Words n) = (f : ℕ) → left i < f → Flat (type_at f s i) × (n ≡ width_of (type_at f s i))
ShapedAs s i (Fields e) = (i < form_words) × (e ≤ form_words) × ((f : ℕ) → left i < f → (g : ℕ) × (left (i + 1) + 1 < g) × (type_at f s i ≡ record' (types_at g s (i + 1) e)))
ShapedAs s i (Elements k h) = (i < h) × (h ≤ form_words) × ((f : ℕ) → left i < f → (g : ℕ) × (left h < g) × (type_at f s i ≡ coll (collection_of k) (type_at g s h)))

pub record Shaped (s : List ℕ) (i : ℕ) (r : ValueType) : Type 0 where
  pub is : ShapedAs s i r

-- what reading the type at place i answers, at every fuel that suffices
pub record ShapeAt (s : List ℕ) (i : ℕ) (r : ValueType) : Type 0 where
  pub is : (f : ℕ) → left i < f → r ≡ shape_in f s i
  pub single : (f : ℕ) → left i < f → is_word r ≡ is_single (type_at f s i)
  pub shaped : Shaped s i r

-- the type at place i, read once
pub record LayoutOf (s : List ℕ) (i : ℕ) (r : Layout) : Type 0 where
  pub at_place : r.place ≡ i
  pub shaped : Shaped s r.place r.shape

-- the same, by the definition S of its shape
pub record LaidBy (S : ℕ → List ℕ → ℕ → ValueType) (s : List ℕ) (i : ℕ) (r : Layout) : Type 0 where
  pub is : (f : ℕ) → left i < f → r.shape ≡ S f s i
  pub at_place : r.place ≡ i
  pub shaped : Shaped s r.place r.shape
