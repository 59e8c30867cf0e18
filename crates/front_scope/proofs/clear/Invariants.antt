use mathlib.Core.Path.{◌≡◌}
use Rattle.front_scope.specs.Binders.{cleared}
use Rattle.front_scope.proofs.clear.Given as goal

abbrev pub invariant-loop-x : goal.invariant-loop-x
invariant-loop-x l = l.s ≡ cleared l.initial.s l.x
