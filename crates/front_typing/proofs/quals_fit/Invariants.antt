use Rattle.front_typing.proofs.Exits.{Quals}
use Rattle.front_typing.specs.ShapeWords.{rules}
use Rattle.base_syntax.specs.MonoidWord.{monoid_of}
use Rattle.front_typing.proofs.quals_fit.Given as goal

abbrev pub invariant-loop-e : goal.invariant-loop-e
invariant-loop-e l = Quals (rules l.rule) l.s (monoid_of l.m) l.i l.e

abbrev pub decreases-loop-e : goal.decreases-loop-e
decreases-loop-e l = l.e
