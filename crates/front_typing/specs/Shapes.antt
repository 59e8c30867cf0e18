-- Shapes: the same check, asking only what a type is at its head.
use Rattle.std.specs.Prelude.{List, [], ◌∷◌, Bool, true, false, ◌&&◌, ℕ, zero, suc, ltb, eqb}
use Rattle.spec_calculus.specs.Lists.{pick}
use Rattle.spec_calculus.specs.Syntax as Sy
use Rattle.spec_calculus.specs.Syntax.{Collection, list, Monoid, of, sum, max, some, all, Bin, plus, minus, times, equal, less, and, or, Fun, choice, is_open}
use Rattle.front_theory.specs.NodeTable.{Node, Nodes, nnum, ntruth, nname, nfield, nrec, nbin, nnegate, napp, ncomp, ntable, ngen, nbind, ncond, nbad}
use Rattle.front_typing.specs.declared.TypeHead.{TypeHead}
use Rattle.front_typing.specs.declared.TypeHead.TheVariants.{Wrong, Number, Truth, Record, Row, Table, Coll}
use Rattle.front_typing.specs.NodeTypes.{StandsRule}

-- what is known of the tables
pub record Known : Type 0 where
  pub has : ℕ → Bool
  pub columns : ℕ → ℕ
  pub kind : ℕ → Collection

-- 0 where there is no type
abbrev pub class_of : TypeHead → ℕ
class_of Wrong = 0
class_of Number = 1
class_of Truth = 2
class_of (Record j) = 3
class_of (Row k) = 4
class_of (Table k) = 5
class_of (Coll j) = 6

abbrev pub fits : TypeHead → Bool
fits a = ltb 0 (class_of a)

abbrev pub is_number : TypeHead → Bool
is_number a = eqb (class_of a) 1

abbrev pub is_truth : TypeHead → Bool
is_truth a = eqb (class_of a) 2

-- the parts of a record, the monoid and the head of a comprehension, where node j is one
abbrev pub parts_of : Node → List ℕ
parts_of (nrec cs) = cs
parts_of (nnum z) = []
parts_of (ntruth b) = []
parts_of (nname x d) = []
parts_of (napp f cs) = []
parts_of (nfield k c) = []
parts_of (nbin o a b) = []
parts_of (nnegate c) = []
parts_of (ncomp m cs h) = []
parts_of (ntable k) = []
parts_of (ngen c) = []
parts_of (nbind c) = []
parts_of (ncond c) = []
parts_of nbad = []

abbrev pub collects : Monoid → Collection
collects (of c) = c
collects sum = list
collects max = list
collects Sy.min = list
collects some = list
collects all = list

abbrev pub collection_of : Node → Collection
collection_of (ncomp m cs h) = collects m
collection_of (nnum z) = list
collection_of (ntruth b) = list
collection_of (nname x d) = list
collection_of (nfield k c) = list
collection_of (nrec cs) = list
collection_of (napp f cs) = list
collection_of (nbin o a b) = list
collection_of (nnegate c) = list
collection_of (ntable k) = list
collection_of (ngen c) = list
collection_of (nbind c) = list
collection_of (ncond c) = list
collection_of nbad = list

abbrev pub head_of : Node → ℕ
head_of (ncomp m cs h) = h
head_of (nnum z) = 0
head_of (ntruth b) = 0
head_of (nname x d) = 0
head_of (nfield k c) = 0
head_of (nrec cs) = 0
head_of (napp f cs) = 0
head_of (nbin o a b) = 0
head_of (nnegate c) = 0
head_of (ntable k) = 0
head_of (ngen c) = 0
head_of (nbind c) = 0
head_of (ncond c) = 0
head_of nbad = 0

-- the shape of part k
unfoldable pub part_shape : (ℕ → TypeHead) → ℕ → List ℕ → TypeHead
part_shape σ k [] = Wrong
part_shape σ zero (c ∷ cs) = σ c
part_shape σ (suc k) (c ∷ cs) = part_shape σ k cs

-- column k of a row of n
abbrev pub cell_shape : ℕ → ℕ → TypeHead
cell_shape k n = pick (ltb k n) Number Wrong

-- "field takes a record"
unfoldable pub field_shape : Known → Nodes → (ℕ → TypeHead) → ℕ → TypeHead → TypeHead
field_shape I N σ k (Record j) = part_shape σ k (parts_of (N j))
field_shape I N σ k (Row t) = cell_shape k (I.columns t)
field_shape I N σ k Wrong = Wrong
field_shape I N σ k Number = Wrong
field_shape I N σ k Truth = Wrong
field_shape I N σ k (Table t) = Wrong
field_shape I N σ k (Coll j) = Wrong

-- "a generator takes a collection": its elements
unfoldable pub element_shape : Nodes → (ℕ → TypeHead) → TypeHead → TypeHead
element_shape N σ (Table t) = Row t
element_shape N σ (Coll j) = σ (head_of (N j))
element_shape N σ Wrong = Wrong
element_shape N σ Number = Wrong
element_shape N σ Truth = Wrong
element_shape N σ (Record j) = Wrong
element_shape N σ (Row t) = Wrong

-- whether a generator over this may stand in m
unfoldable pub stands : StandsRule → Known → Nodes → Monoid → TypeHead → Bool
stands J I N m (Table t) = J (I.kind t) m
stands J I N m (Coll j) = J (collection_of (N j)) m
stands J I N m Wrong = false
stands J I N m Number = false
stands J I N m Truth = false
stands J I N m (Record j) = false
stands J I N m (Row t) = false

-- "Arithmetic, equal and less take numbers; and, or, not and conditions take truths"
unfoldable pub two_numbers : TypeHead → TypeHead → TypeHead → TypeHead
two_numbers a b r = pick (is_number a && is_number b) r Wrong

unfoldable pub two_truths : TypeHead → TypeHead → TypeHead → TypeHead
two_truths a b r = pick (is_truth a && is_truth b) r Wrong

unfoldable pub bin_shape : Bin → TypeHead → TypeHead → TypeHead
bin_shape plus a b = two_numbers a b Number
bin_shape minus a b = two_numbers a b Number
bin_shape times a b = two_numbers a b Number
bin_shape equal a b = two_numbers a b Truth
bin_shape less a b = two_numbers a b Truth
bin_shape and a b = two_truths a b Truth
bin_shape or a b = two_truths a b Truth

unfoldable pub truth_shape : TypeHead → TypeHead
truth_shape a = pick (is_truth a) Truth Wrong

abbrev pub number_shape : TypeHead → TypeHead
number_shape a = pick (is_number a) Number Wrong

-- "two numbers or two truths" (document 02, E2)
unfoldable pub alike_shape : TypeHead → TypeHead → TypeHead
alike_shape b c = pick (is_number b) (number_shape c) (pick (is_truth b) (truth_shape c) Wrong)

unfoldable pub choice_shape : TypeHead → TypeHead → TypeHead → TypeHead
choice_shape a b c = pick (is_truth a) (alike_shape b c) Wrong

-- "three terms"
unfoldable pub choice_of : (ℕ → TypeHead) → List ℕ → TypeHead
choice_of σ [] = Wrong
choice_of σ (a ∷ []) = Wrong
choice_of σ (a ∷ b ∷ []) = Wrong
choice_of σ (a ∷ b ∷ c ∷ []) = choice_shape (σ a) (σ b) (σ c)
choice_of σ (a ∷ b ∷ c ∷ d ∷ cs) = Wrong

-- "one number term" (document 02, E4)
abbrev pub open_shape : TypeHead → TypeHead
open_shape a = pick (is_number a) Truth Wrong

unfoldable pub open_of : (ℕ → TypeHead) → List ℕ → TypeHead
open_of σ [] = Wrong
open_of σ (a ∷ []) = open_shape (σ a)
open_of σ (a ∷ b ∷ cs) = Wrong

unfoldable pub app_shape : Fun → (ℕ → TypeHead) → List ℕ → TypeHead
app_shape choice σ cs = choice_of σ cs
app_shape (is_open n c) σ cs = open_of σ cs

-- the collection that node i makes of heads like a
abbrev pub gathers_shape : ℕ → TypeHead → TypeHead
gathers_shape i a = pick (fits a) (Coll i) Wrong

-- "Sum and max have number heads, some and all truth heads, the collections any head." Min as max.
unfoldable pub comp_shape : ℕ → Monoid → TypeHead → TypeHead
comp_shape i (of c) a = gathers_shape i a
comp_shape i sum a = number_shape a
comp_shape i max a = number_shape a
comp_shape i Sy.min a = number_shape a
comp_shape i some a = truth_shape a
comp_shape i all a = truth_shape a

unfoldable pub all_fit : (ℕ → TypeHead) → List ℕ → Bool
all_fit σ [] = true
all_fit σ (c ∷ cs) = fits (σ c) && all_fit σ cs

-- whether a qualifier fits into a comprehension of m
abbrev pub qual_fits : StandsRule → Known → Nodes → (ℕ → TypeHead) → Monoid → Node → Bool
qual_fits J I N σ m (ngen c) = stands J I N m (σ c)
qual_fits J I N σ m (nbind c) = fits (σ c)
qual_fits J I N σ m (ncond c) = is_truth (σ c)
qual_fits J I N σ m (nnum z) = false
qual_fits J I N σ m (ntruth b) = false
qual_fits J I N σ m (nname x d) = false
qual_fits J I N σ m (nfield k c) = false
qual_fits J I N σ m (nrec cs) = false
qual_fits J I N σ m (napp f cs) = false
qual_fits J I N σ m (nbin o a b) = false
qual_fits J I N σ m (nnegate c) = false
qual_fits J I N σ m (ncomp n cs h) = false
qual_fits J I N σ m (ntable k) = false
qual_fits J I N σ m nbad = false

unfoldable pub quals_fit : StandsRule → Known → Nodes → (ℕ → TypeHead) → Monoid → List ℕ → Bool
quals_fit J I N σ m [] = true
quals_fit J I N σ m (c ∷ cs) = qual_fits J I N σ m (N c) && quals_fit J I N σ m cs

-- the shape of node i, where σ has the shapes of the nodes before it
abbrev pub shape_by : StandsRule → Known → Nodes → (ℕ → TypeHead) → ℕ → Node → TypeHead
shape_by J I N σ i (nnum z) = Number
shape_by J I N σ i (ntruth b) = Truth
shape_by J I N σ i (nname x d) = σ x
shape_by J I N σ i (nfield k c) = field_shape I N σ k (σ c)
shape_by J I N σ i (nrec cs) = pick (all_fit σ cs) (Record i) Wrong
shape_by J I N σ i (napp f cs) = app_shape f σ cs
shape_by J I N σ i (nbin o a b) = bin_shape o (σ a) (σ b)
shape_by J I N σ i (nnegate c) = truth_shape (σ c)
shape_by J I N σ i (ncomp m cs h) = pick (quals_fit J I N σ m cs) (comp_shape i m (σ h)) Wrong
shape_by J I N σ i (ntable k) = pick (I.has k) (Table k) Wrong
shape_by J I N σ i (ngen c) = element_shape N σ (σ c)
shape_by J I N σ i (nbind c) = σ c
shape_by J I N σ i (ncond c) = truth_shape (σ c)
shape_by J I N σ i nbad = Wrong
