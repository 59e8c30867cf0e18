-- What the place of a row holds, by the operator that fills it: the row that scratch has for the loop's generator, or what was kept
-- for the comprehension.
use Rattle.std.specs.Prelude.{◌≡◌, false, List, ℕ, ◌<◌, length}
use Rattle.spec_calculus.specs.Value.{Value}
use Rattle.spec_calculus.specs.Monoid.{finish}
use Rattle.spec_encoding.specs.Record.{Bytes}
use Rattle.form_words.specs.declared.FormNode.TheVariants.{Generator}
use Rattle.form_words.specs.NodeWord.{node_at}
use Rattle.form_words.specs.FormTree.{form_tree}
use Rattle.spec_plan.specs.Operators.{Row, value_of, at}
use Rattle.plan_marks.specs.PlanIn.{monoid_by}
use Rattle.plan_machine.specs.MachineWords.{Words}
use Rattle.plan_machine.specs.AnswerText.{collects}
use Rattle.plan_links.specs.Spots.{Spots}
use Rattle.plan_links.specs.SpotWords.{fuel}
use Rattle.form_env.specs.Environment.{env_of, tables_in}
use Rattle.exec_terms.specs.Agreement.{KeptTotal}
use Rattle.exec_simulation.specs.WiredProgram.{Id, loop_i, end_i, ids, id_at}
use Rattle.exec_initial.specs.PlaceFillers.{filler_at}

module _ (d : Bytes) (p : Spots) (s : List ℕ) (w : Words) where
  -- v is the value of the comprehension at c
  pub record HoldsEnd (c : ℕ) (v : Value) : Type 0 where
    pub number : ℕ  -- of its nest
    pub low : number < length (ids p)
    pub id : id_at p number ≡ end_i c
    pub is : v ≡ finish (monoid_by (node_at s c)) (w.acc number)
    pub kept : collects (monoid_by (node_at s c)) ≡ false → KeptTotal d s c (monoid_by (node_at s c)) (form_tree fuel s c) v

  abbrev pub HoldsBy : Id → Value → Type 0
  HoldsBy (loop_i j) v = (g k : ℕ) → node_at s j ≡ Generator g k → v ≡ env_of (tables_in d) s g
  HoldsBy (end_i c) v = HoldsEnd c v

  abbrev pub Holding : List Id → Row → Type 0
  Holding F r = (n : ℕ) → n < length F → HoldsBy (filler_at F n) (value_of (at n r))
