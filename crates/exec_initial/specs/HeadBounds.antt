-- The bound of the heads of each nest and the reduce, as refusal 28 reads it in the words: "a number in the normal form with bound
-- over 2^62".
use Rattle.std.specs.Prelude.{List, ℕ}
use Rattle.spec_normal_form.specs.Bound.{Declared}
use Rattle.form_words.specs.NodeWord.{node_at}
use Rattle.form_words.specs.FormTree.{form_tree}
use Rattle.plan_marks.specs.PlanIn.{monoid_by}
use Rattle.plan_links.specs.Spots.{Spots}
use Rattle.plan_links.specs.SpotWords.{fuel}
use Rattle.form_arith.specs.WordSorts.{sort_of, word_bound}
use Rattle.exec_simulation.specs.RowReads.{head_at}
use Rattle.exec_simulation.specs.WiredProgram.{Id, loop_i, end_i, id_at}

-- of the comprehension at c, by what C says that the generators' tables declare
abbrev pub head_bound : Declared → List ℕ → ℕ → ℕ
head_bound C s c = word_bound C (sort_of (monoid_by (node_at s c))) (form_tree fuel s (head_at s c))

-- by the operator's number
abbrev pub bound_of : Declared → List ℕ → Id → ℕ
bound_of C s (loop_i i) = 0
bound_of C s (end_i c) = head_bound C s c

abbrev pub bound_at : Declared → List ℕ → Spots → ℕ → ℕ
bound_at C s p o = bound_of C s (id_at p o)
