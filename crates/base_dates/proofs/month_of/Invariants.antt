use Prim.Native.Nat.{◌≤◌}
use Rattle.spec_calendar.specs.Dates.{month_start}
use Rattle.base_dates.proofs.month_of.Given as goal

abbrev pub invariant-loop-k : goal.invariant-loop-k
invariant-loop-k l = month_start l.leap l.k ≤ l.n
