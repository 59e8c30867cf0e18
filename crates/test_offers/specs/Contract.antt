-- What counting the rows that a pass offers asks and gives.
use Rattle.std.specs.Prelude.{◌≡◌, List, ℕ, ◌≤◌, min, length, get_or, ℤ}
use Rattle.spec_encoding.specs.Record.{Bytes}
use Rattle.spec_outcome.specs.Acceptance.{Accepted}
use Rattle.base_scratch.specs.Map.{scratch_size}
use Rattle.form_prepared.specs.PreparedQuestion.{Prepared}
use Rattle.plan_machine.specs.Machine.{State, due}
use Rattle.form_env.specs.Environment.{tables_in}
use Rattle.exec_simulation.specs.SimulationRelation.{LinkedPlan, ProgramKept, Waits}
use Rattle.exec_simulation.specs.RowReads.{Readable}
use Rattle.test_offers.specs.OfferedRows.{longest, offered_rows}

-- r: how many rows are offered from the state S on, or the most that a length says; the question's words stand as before
pub record Counted {d : Bytes} (Q : LinkedPlan d) (S : State) (s : List ℕ) (r : ℕ) : Type 0 where
  pub kept : ProgramKept Q.base s
  pub rows : r ≡ min (due (tables_in d) S) longest

-- counting on from where a row is wanted, with limit 0: nothing is written
pub record CountPost (d : Bytes) (s : List ℕ) (o : List ℤ) (code : ℕ) (s' : List ℕ) (o' : List ℤ) (r : ℕ) : Type 0 where
  pub is : (Q : LinkedPlan d) → Readable Q → (S : State) → Waits Q s o 0 code S → Counted Q S s' r
  pub buffer : o' ≡ o

-- counting all rows of whatever accepted question stands in scratch; words from 2,048 on stay
pub record RowsOfPost (d : Bytes) (s s' : List ℕ) (r : ℕ) : Type 0 where
  pub is : (a : Accepted) → Prepared d a s → r ≡ offered_rows a
  pub long : length s' ≡ length s
  pub above : (j : ℕ) → scratch_size ≤ j → get_or s' j 0 ≡ get_or s j 0
