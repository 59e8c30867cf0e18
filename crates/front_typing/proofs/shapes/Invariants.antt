use mathlib.Core.Path.{◌≡◌}
use Rattle.front_typing.specs.ShapeWords.{shaped_up_to}
use Rattle.front_typing.proofs.shapes.Given as goal

abbrev pub invariant-loop-i : goal.invariant-loop-i
invariant-loop-i l = l.s ≡ shaped_up_to l.rule l.initial.s l.i
