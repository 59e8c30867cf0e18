use mathlib.Core.Path.{◌≡◌}
use Rattle.front_scope.specs.Binders.{noted_up_to}
use Rattle.front_scope.proofs.binders.Given as goal

abbrev pub invariant-loop-i : goal.invariant-loop-i
invariant-loop-i l = l.s ≡ noted_up_to l.initial.s l.i
