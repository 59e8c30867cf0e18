-- How much of the normal form each node of a question writes, nodes and generators, each counted to 513. Copies multiply, so
-- a count may go far beyond a word; whether it is at most 512, and every number below that, is seen all the same.
use Rattle.std.specs.Prelude.{◌≡◌, List, [], ◌∷◌, Bool, ℕ, ◌+◌, min}
use Rattle.spec_calculus.specs.Syntax.{Collection}
use Rattle.spec_normal_form.specs.Form.{Form, Clauses, gens, gens_c}
use Rattle.spec_normal_form.specs.Normal.{quote, condition, ranges}
use Rattle.spec_normal_form.specs.Size.{nodes, nodes_c}
use Rattle.front_theory.specs.NodeTable.{Nodes}
use Rattle.front_theory.specs.NodeForms.{Offsets, outside, qual_of, sem_at, sem}
use Rattle.front_theory.specs.CappedOffsets.{limit}
use Rattle.front_sizes.specs.declared.FormSize.{FormSize}

-- so many nodes and generators
abbrev pub count : ℕ → ℕ → FormSize
count a g = record { size = min a limit; gens = min g limit }

abbrev pub form_count : Form → FormSize
form_count t = count (nodes t) (gens t)

abbrev pub clauses_count : Clauses → FormSize
clauses_count w = count (nodes_c w) (gens_c w)

-- two parts side by side, and one node above
abbrev pub beside : FormSize → FormSize → FormSize
beside a b = count (a.size + b.size) (a.gens + b.gens)

abbrev pub above : FormSize → FormSize
above a = count (1 + a.size) a.gens

abbrev pub none : FormSize
none = count 0 0

-- a number, a truth, a row; and the condition that is never met, which stands for a generator over what is no collection
abbrev pub leaf : FormSize
leaf = count 1 0

abbrev pub never : FormSize
never = count 2 0

-- where no number is looked at
abbrev pub unplaced : Offsets
unplaced = λ x v n. n

-- Node i at depth D, written as a term; as a condition and as a generator's term, where v says whether "some" gives way.
-- Neither the copy nor the offsets nor the first number matter (proofs/AnyEnvironment).
unfoldable pub term_of : (ℕ → Collection) → Nodes → ℕ → ℕ → FormSize
term_of K N D i = form_count (quote (sem K N unplaced i D outside) 0)

unfoldable pub condition_of : (ℕ → Collection) → Nodes → ℕ → ℕ → Bool → FormSize
condition_of K N D i v = clauses_count (condition (sem K N unplaced i D outside) v 0)

unfoldable pub splice_of : (ℕ → Collection) → Nodes → ℕ → ℕ → Bool → FormSize
splice_of K N D i v = clauses_count (ranges (sem K N unplaced i D outside) v 0).clauses

-- what qualifier x writes
unfoldable pub qualifier_of : (ℕ → Collection) → Nodes → ℕ → ℕ → Bool → FormSize
qualifier_of K N D x v = clauses_count (qual_of (λ j. sem_at K N unplaced x j) D outside v 0 (N x))

-- what these nodes write one behind the other, where g was written before; w says how much each of them does
unfoldable pub total : (ℕ → FormSize) → FormSize → List ℕ → FormSize
total w g [] = g
total w g (c ∷ cs) = total w (beside g (w c)) cs

-- what these qualifiers write
abbrev pub all_of : (ℕ → Collection) → Nodes → ℕ → List ℕ → Bool → FormSize
all_of K N D cs v = total (λ c. qualifier_of K N D c v) none cs

-- Each of these qualifiers has the generators of those before it for its offsets, where g was written before.
unfoldable pub OffsetsQ : (ℕ → Collection) → Nodes → (ℕ → ℕ) → (ℕ → Bool → ℕ) → List ℕ → (Bool → FormSize) → Type 0
OffsetsQ K N dep stored [] g = Unit {0}
OffsetsQ K N dep stored (c ∷ cs) g = ((v : Bool) → stored c v ≡ (g v).gens) × OffsetsQ K N dep stored cs (λ v. beside (g v) (qualifier_of K N (dep c) c v))
