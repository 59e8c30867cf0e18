use Prim.Native.Nat.{◌+◌, ◌-◌}
use Rattle.base_tables.specs.Description.{rows_in}
use Rattle.base_logs.proofs.Moves.{Counting}
use Rattle.base_logs.proofs.count_pairs.Given as goal

abbrev pub invariant-loop-r : goal.invariant-loop-r
invariant-loop-r l = Counting l.«data» l.a l.b l.t l.pairs l.r

abbrev pub decreases-loop-r : goal.decreases-loop-r
decreases-loop-r l = rows_in l.a + rows_in l.b - (l.r.i + l.r.j)
