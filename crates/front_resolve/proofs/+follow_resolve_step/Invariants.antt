use Prim.Native.Nat.{◌+◌, ◌*◌}
use Rattle.front_resolve.proofs.Exits.{Leads}
use Rattle.front_resolve.proofs.+follow_resolve_step.Given as goal

abbrev pub decreases-follow : goal.decreases-follow
decreases-follow l = 2 * l.x

abbrev pub decreases-resolve : goal.decreases-resolve
decreases-resolve l = 2 * l.i + 1

abbrev pub invariant-resolve-loop-k : goal.invariant-resolve-loop-k
invariant-resolve-loop-k l = Leads l.s l.i l.depth l.initial.env l.j l.d l.env

abbrev pub decreases-resolve-loop-k : goal.decreases-resolve-loop-k
decreases-resolve-loop-k l = l.j

abbrev pub decreases-step : goal.decreases-step
decreases-step l = 2 * l.i
