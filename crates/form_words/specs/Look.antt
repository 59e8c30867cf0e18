-- What `look`, `leaf_at`, `monoid_of` and `look_clause` answer: the node, leaf, monoid or clause at a place. The places in a node or clause lie behind
-- it and within the words, and its numbers are small.
use Rattle.std.specs.Prelude.{◌≡◌, List, Option, Some, None, ℕ, ◌^◌, ◌<◌, ◌≤◌, nat_abs}
use Rattle.base_syntax.specs.declared.Monoid.{Monoid}
use Rattle.form_words.specs.declared.FormNode.{FormNode}
use Rattle.form_words.specs.declared.FormNode.TheVariants.{Number, Truth, Row, Cell, Record, Binary, Negation, Operator, Comprehension, Generator, Condition, Nothing}
use Rattle.form_words.specs.declared.Leaf.{Leaf}
use Rattle.form_words.specs.declared.Leaf.TheVariants as Le
use Rattle.form_words.specs.declared.Clause.{Clause}
use Rattle.form_words.specs.declared.Clause.TheVariants as Cl
use Rattle.base_scratch.specs.Map.{form_words}
use Rattle.form_words.specs.NodeWord.{node_at}
use Rattle.form_words.specs.FormTree.{clause_of}

abbrev pub Inside : ℕ → FormNode → Type 0
Inside i (Number z) = nat_abs z < 2 ^ 50
Inside i (Truth b) = Unit {0}
Inside i (Row g) = g < 1024
Inside i (Cell c g) = (c < 1024) × (g < 1024)
Inside i (Record e) = (i < e) × (e ≤ form_words)
Inside i (Binary o j) = (i < j) × (j ≤ form_words)
Inside i Negation = i < form_words
Inside i (Operator f e) = (i < e) × (e ≤ form_words)
Inside i (Comprehension m) = i < form_words
Inside i (Generator g k) = (i < form_words) × (g < 1024) × (k < 1024)
Inside i (Condition j) = (i < j) × (j ≤ form_words)
Inside i Nothing = Unit {0}

pub record Looks (s : List ℕ) (i : ℕ) (r : FormNode) : Type 0 where
  pub is : r ≡ node_at s i
  pub inside : Inside i r

-- a node as a leaf: every one that is neither number nor cell is some other
abbrev pub leaf_of : FormNode → Leaf
leaf_of (Number z) = Le.Number z
leaf_of (Truth b) = Le.Other
leaf_of (Row g) = Le.Other
leaf_of (Cell c g) = Le.Cell c g
leaf_of (Record e) = Le.Other
leaf_of (Binary o j) = Le.Other
leaf_of Negation = Le.Other
leaf_of (Operator f e) = Le.Other
leaf_of (Comprehension m) = Le.Other
leaf_of (Generator g k) = Le.Other
leaf_of (Condition j) = Le.Other
leaf_of Nothing = Le.Other

pub record LeafAtPost (s : List ℕ) (i : ℕ) (r : Leaf) : Type 0 where
  pub is : r ≡ leaf_of (node_at s i)

-- the monoid of a comprehension: no other node has one
abbrev pub monoid_in : FormNode → Option Monoid
monoid_in (Number z) = None
monoid_in (Truth b) = None
monoid_in (Row g) = None
monoid_in (Cell c g) = None
monoid_in (Record e) = None
monoid_in (Binary o j) = None
monoid_in Negation = None
monoid_in (Operator f e) = None
monoid_in (Comprehension m) = Some m
monoid_in (Generator g k) = None
monoid_in (Condition j) = None
monoid_in Nothing = None

pub record MonoidOfPost (s : List ℕ) (i : ℕ) (r : Option Monoid) : Type 0 where
  pub is : r ≡ monoid_in (node_at s i)

abbrev pub InsideC : ℕ → Clause → Type 0
InsideC i (Cl.Generator g k) = (i < form_words) × (g < 1024) × (k < 1024)
InsideC i (Cl.Condition j) = (i < j) × (j ≤ form_words)
InsideC i Cl.Head = Unit {0}

pub record LooksC (s : List ℕ) (i : ℕ) (r : Clause) : Type 0 where
  pub is : r ≡ clause_of (node_at s i)
  pub inside : InsideC i r
