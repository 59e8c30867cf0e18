-- The place of the head behind the clauses of a comprehension.
use Rattle.std.specs.Prelude.{List, ℕ, zero, suc, ◌+◌}
use Rattle.form_words.specs.declared.Clause.{Clause}
use Rattle.form_words.specs.declared.Clause.TheVariants as Cl
use Rattle.form_words.specs.NodeWord.{node_at}
use Rattle.form_words.specs.FormTree.{clause_of}

-- by the clause at i: H finds the head from a place on
abbrev pub head_by : (ℕ → ℕ) → ℕ → Clause → ℕ
head_by H i (Cl.Generator g k) = H (i + 1)
head_by H i (Cl.Condition j) = H j
head_by H i Cl.Head = i

-- behind the clauses from i on
unfoldable pub head_node : ℕ → List ℕ → ℕ → ℕ
head_node zero s i = i
head_node (suc f) s i = head_by (λ j. head_node f s j) i (clause_of (node_at s i))
