use mathlib.Core.Path.{◌≡◌}
use Prim.Native.Nat.{◌*◌, ◌≤◌, ◌-◌}
use lib.ListN.{length, drop}
use Rattle.spec_hours.specs.CalendarBytes.{calendars_fit}
use Rattle.base_calendars.proofs.calendars_fit.Given as goal

abbrev pub invariant-loop-p : goal.invariant-loop-p
invariant-loop-p l = (l.p ≤ length l.s) × (l.n ≤ 4) × (l.p ≤ 65539 * l.n) × (calendars_fit 4 l.s ≡ calendars_fit (4 - l.n) (drop l.p l.s))

abbrev pub decreases-loop-p : goal.decreases-loop-p
decreases-loop-p l = 4 - l.n
