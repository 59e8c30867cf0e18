-- Shapes in scratch: a word for each node, at `shapes_at`.
use Rattle.std.specs.Prelude.{◌≡◌, List, [], ◌∷◌, Bool, true, false, ℕ, zero, suc, ◌+◌, ◌-◌, ◌*◌, ◌/◌, ◌%◌, ◌^◌, ltb, get_or, set}
use Rattle.spec_calculus.specs.Lists.{pick}
use Rattle.spec_calculus.specs.Syntax.{Collection, Monoid}
use Rattle.spec_encoding.specs.Data as Data
use Rattle.spec_checks.specs.Types.{may_stand}
use Rattle.front_nodes.specs.NodeTable.{children_of, qualifiers_of, nodes_of}
use Rattle.base_syntax.specs.MonoidWord.{monoid_of}
use Rattle.front_theory.specs.NodeTable.{Node, nnum, ntruth, nname, nfield, nrec, nbin, nnegate, napp, ncomp, ntable, ngen, nbind, ncond, nbad}
use Rattle.base_scratch.specs.Map.{shapes_at}
use Rattle.base_tables.specs.Description.{collection_in, columns_in, present_in, table_in}
use Rattle.front_typing.specs.declared.TypeHead.{TypeHead}
use Rattle.front_typing.specs.declared.TypeHead.TheVariants.{Wrong, Number, Truth, Record, Row, Table, Coll}
use Rattle.front_typing.specs.declared.NodeMakes.{NodeMakes}
use Rattle.front_typing.specs.declared.NodeMakes.TheVariants as Ma
use Rattle.front_typing.specs.NodeTypes.{StandsRule}
use Rattle.front_typing.specs.Shapes.{Known, fits, parts_of, part_shape, field_shape, element_shape, stands, comp_shape, all_fit, qual_fits, quals_fit, shape_by}

-- a shape's word: its class, and above it the number that it has; no number is that large
abbrev pub numbered : ℕ → ℕ → ℕ
numbered c j = pick (ltb j (2 ^ 60)) (c + 8 * j) 0

unfoldable pub shape_word : TypeHead → ℕ
shape_word Wrong = 0
shape_word Number = 1
shape_word Truth = 2
shape_word (Record j) = numbered 3 j
shape_word (Row k) = numbered 4 k
shape_word (Table k) = numbered 5 k
shape_word (Coll j) = numbered 6 j

unfoldable pub shape_in : ℕ → TypeHead
shape_in w = get_or (Wrong ∷ Number ∷ Truth ∷ Record (w / 8) ∷ Row (w / 8) ∷ Table (w / 8) ∷ Coll (w / 8) ∷ []) (w % 8) Wrong

-- the shapes that the words hold
abbrev pub shapes_in : List ℕ → ℕ → TypeHead
shapes_in s j = shape_in (get_or s (shapes_at + j) 0)

-- the collection by its number, as the data has it
abbrev pub collection_by : ℕ → Collection
collection_by k = Data.collection_of k

-- by the tables' descriptions
abbrev pub known_in : List ℕ → Known
known_in s = record { has = present_in s; columns = λ k. columns_in (table_in s k); kind = λ k. collection_by (collection_in (table_in s k)) }

-- 25 looks at types alone; 26 asks the same with the rule on generators switched on
abbrev pub rules : Bool → StandsRule
rules false c m = true
rules true c m = may_stand c m

-- what makes neither a record nor a comprehension
abbrev pub Plain : Node → Type 0
Plain (nnum z) = Unit {0}
Plain (ntruth b) = Unit {0}
Plain (nname x d) = Unit {0}
Plain (nfield k c) = Unit {0}
Plain (nrec cs) = ⊥
Plain (napp f cs) = Unit {0}
Plain (nbin o a b) = Unit {0}
Plain (nnegate c) = Unit {0}
Plain (ncomp m cs h) = ⊥
Plain (ntable k) = Unit {0}
Plain (ngen c) = Unit {0}
Plain (nbind c) = Unit {0}
Plain (ncond c) = Unit {0}
Plain nbad = Unit {0}

-- what node j makes: a record, or a comprehension with its monoid and its head
abbrev pub MadeBy : List ℕ → ℕ → NodeMakes → Type 0
MadeBy s j Ma.Record = nodes_of s j ≡ nrec (children_of s j)
MadeBy s j (Ma.Comp m h) = nodes_of s j ≡ ncomp (monoid_of m) (qualifiers_of s j) h
MadeBy s j Ma.Other = Plain (nodes_of s j)

pub record MakerPost (s : List ℕ) (j : ℕ) (r : NodeMakes) : Type 0 where
  pub is : MadeBy s j r

-- the rules of specs/Shapes over the words
abbrev pub table_at : List ℕ → ℕ → TypeHead
table_at s k = pick (present_in s k) (Table k) Wrong

abbrev pub part_at : List ℕ → ℕ → ℕ → TypeHead
part_at s j k = part_shape (shapes_in s) k (parts_of (nodes_of s j))

abbrev pub field_at : List ℕ → ℕ → TypeHead → TypeHead
field_at s k a = field_shape (known_in s) (nodes_of s) (shapes_in s) k a

abbrev pub element_at : List ℕ → TypeHead → TypeHead
element_at s a = element_shape (nodes_of s) (shapes_in s) a

abbrev pub parts_fit : List ℕ → ℕ → Bool
parts_fit s i = all_fit (shapes_in s) (children_of s i)

abbrev pub may_range : Bool → List ℕ → Monoid → TypeHead → Bool
may_range b s m a = stands (rules b) (known_in s) (nodes_of s) m a

abbrev pub qual_fits_at : Bool → List ℕ → Monoid → ℕ → Bool
qual_fits_at b s m c = qual_fits (rules b) (known_in s) (nodes_of s) (shapes_in s) m (nodes_of s c)

abbrev pub quals_fit_at : Bool → List ℕ → Monoid → ℕ → Bool
quals_fit_at b s m i = quals_fit (rules b) (known_in s) (nodes_of s) (shapes_in s) m (qualifiers_of s i)

abbrev pub record_at : List ℕ → ℕ → TypeHead
record_at s i = pick (parts_fit s i) (Record i) Wrong

abbrev pub comp_at : Bool → List ℕ → ℕ → Monoid → ℕ → TypeHead
comp_at b s i m h = pick (quals_fit_at b s m i) (comp_shape i m (shapes_in s h)) Wrong

-- node i gets its shape
abbrev pub shape_of : Bool → List ℕ → ℕ → TypeHead
shape_of b s i = shape_by (rules b) (known_in s) (nodes_of s) (shapes_in s) i (nodes_of s i)

unfoldable pub shaped : Bool → List ℕ → ℕ → List ℕ
shaped b s i = set s (shapes_at + i) (shape_word (shape_of b s i))

unfoldable pub shaped_up_to : Bool → List ℕ → ℕ → List ℕ
shaped_up_to b s zero = s
shaped_up_to b s (suc i) = shaped b (shaped_up_to b s i) i

-- the first n nodes get their shapes, and the answer is whether the last one fits
pub record Judges (b : Bool) (s : List ℕ) (n : ℕ) (s' : List ℕ) (r : Bool) : Type 0 where
  pub words : s' ≡ shaped_up_to b s n
  pub answer : r ≡ fits (shapes_in s' (n - 1))
