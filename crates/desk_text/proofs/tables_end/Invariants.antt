use Prim.Native.Nat.{◌-◌}
use native.Mathlib.Omega.{arith}
use lib.ListN.{length}
use Rattle.desk_text.proofs.TablesEnd.{Past, past-none, past_all, past-bad, past_more, record-room}
use borrow.Author.Rules.{rules}
use Rattle.desk_text.proofs.tables_end.Given as goal

abbrev pub invariant-loop-p : goal.invariant-loop-p
invariant-loop-p l = Past l.input l.p

abbrev pub decreases-loop-p : goal.decreases-loop-p
decreases-loop-p l = length l.input - l.p
