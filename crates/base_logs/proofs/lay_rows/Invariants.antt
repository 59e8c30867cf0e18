use Prim.Native.Nat.{◌+◌, ◌-◌}
use Rattle.base_tables.specs.Description.{rows_in}
use Rattle.base_logs.proofs.Laying.{Laying}
use Rattle.base_logs.proofs.lay_rows.Given as goal

abbrev pub invariant-loop-r : goal.invariant-loop-r
invariant-loop-r l = Laying l.«data» l.a l.b l.t l.initial.d l.initial.q l.d l.q l.r

abbrev pub decreases-loop-r : goal.decreases-loop-r
decreases-loop-r l = rows_in l.a + rows_in l.b - (l.r.i + l.r.j)
