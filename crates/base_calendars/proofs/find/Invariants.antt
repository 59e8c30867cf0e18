use mathlib.Core.Path.{◌≡◌}
use Prim.Native.Nat.{◌*◌, ◌≤◌, ◌-◌}
use lib.ListN.{length, drop}
use Rattle.base_calendars.proofs.Finding.{skip}
use Rattle.base_calendars.proofs.find.Given as goal

abbrev pub invariant-loop-p : goal.invariant-loop-p
invariant-loop-p l = (l.n ≤ l.k) × (l.p ≤ length l.s) × (l.p ≤ 65539 * l.n) × (drop l.p l.s ≡ skip l.n l.s)

abbrev pub decreases-loop-p : goal.decreases-loop-p
decreases-loop-p l = 4 - l.n
