use Prim.Native.Nat.{◌≤◌}
use Rattle.spec_calendar.specs.Dates.{first_day}
use Rattle.base_dates.proofs.year_of.Given as goal

abbrev pub invariant-loop-k : goal.invariant-loop-k
invariant-loop-k l = first_day l.k ≤ l.n
