use Prim.Native.Nat.{◌-◌}
use Rattle.base_syntax.specs.MonoidWord.{monoid_of}
use Rattle.front_bounds.proofs.CutBounds.{Repeating}
use Rattle.front_bounds.proofs.generators_bound.Given as goal

abbrev pub invariant-loop : goal.invariant-loop
invariant-loop l = Repeating (monoid_of l.m) l.n l.a (l.n - l.counter) l.b
