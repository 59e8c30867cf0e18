use mathlib.Core.Path.{◌≡◌}
use Prim.Native.Nat.{◌+◌, ◌*◌, ◌-◌}
use Rattle.spec_hours.specs.CalendarBytes.{windows_from, windows_fit}
use Rattle.base_calendars.proofs.windows_fit.Given as goal

abbrev pub invariant-loop-k : goal.invariant-loop-k
invariant-loop-k l = windows_fit (windows_from l.c 1 l.n) ≡ windows_fit (windows_from l.c (1 + 5 * l.k) (l.n - l.k))
