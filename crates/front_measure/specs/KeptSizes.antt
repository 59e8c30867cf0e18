-- What measuring keeps of each node in scratch.
use Rattle.std.specs.Prelude.{◌≡◌, List, [], ◌∷◌, ◌++◌, Bool, true, false, ℕ, ◌<◌, ◌≤◌, length, get_or}
use Rattle.spec_calculus.specs.Syntax.{Collection}
use Rattle.front_theory.specs.NodeTable.{Nodes}
use Rattle.base_scratch.specs.Map.{sizes_at, most_nodes}
use Rattle.front_sizes.specs.declared.FormSize.{FormSize}
use Rattle.front_sizes.specs.SizeWords.{place, term_count, condition_count, spliced_count, stored}
use Rattle.front_nodes.specs.NodeTable.{depth_at, nodes_of}
use Rattle.front_measure.specs.Measure.{none, term_of, condition_of, splice_of, qualifier_of, all_of}
use Rattle.front_measure.specs.MeasurableNodes.{qualifies, ahead, Arranged}

-- a term: what it writes
pub record Writes (K : ℕ → Collection) (N : Nodes) (D i : ℕ) (t : FormSize) (c s : Bool → FormSize) : Type 0 where
  pub term : term_of K N D i ≡ t
  pub condition : (v : Bool) → condition_of K N D i v ≡ c v
  pub splice : (v : Bool) → splice_of K N D i v ≡ s v

-- a qualifier behind bs: what it writes, what all of them write, how many generators those before it write
pub record Adds (K : ℕ → Collection) (N : Nodes) (D : ℕ) (bs : List ℕ) (i : ℕ) (c s : Bool → FormSize) (o : Bool → ℕ) : Type 0 where
  pub writes : (v : Bool) → qualifier_of K N D i v ≡ c v
  pub sum : (v : Bool) → all_of K N D (bs ++ (i ∷ [])) v ≡ s v
  pub offset : (v : Bool) → (all_of K N D bs v).gens ≡ o v

-- node i of the table of s, whichever it is: a term has no offsets, a qualifier writes nothing as a term
pub record Measured (K : ℕ → Collection) (s : List ℕ) (i : ℕ) (t : FormSize) (c sp : Bool → FormSize) (o : Bool → ℕ) : Type 0 where
  pub term : qualifies (nodes_of s i) ≡ false → Writes K (nodes_of s) (depth_at s i) i t c sp
  pub qualifier : qualifies (nodes_of s i) ≡ true → Adds K (nodes_of s) (depth_at s i) (ahead s i) i c sp o
  pub apart : qualifies (nodes_of s i) ≡ false → (v : Bool) → o v ≡ 0
  pub bare : qualifies (nodes_of s i) ≡ true → t ≡ none

-- scratch r keeps what is right for node i of the table of s
abbrev pub KeptSizes : (ℕ → Collection) → List ℕ → List ℕ → ℕ → Type 0
KeptSizes K s r i = Measured K s i (term_count r i) (condition_count r i) (spliced_count r i) (stored r i)

-- Scratch r keeps what is right for the n nodes of s, and all else is as it was.
pub record MeasurePost (s : List ℕ) (n : ℕ) (r : List ℕ) : Type 0 where
  pub long : length r ≡ length s
  pub front : (j : ℕ) → j < sizes_at → get_or r j 0 ≡ get_or s j 0
  pub back : (j : ℕ) → place n 0 ≤ j → get_or r j 0 ≡ get_or s j 0
  pub kept : Arranged s n → n ≤ most_nodes → place n 0 ≤ length s → (K : ℕ → Collection) (i : ℕ) → i < n → KeptSizes K s r i
