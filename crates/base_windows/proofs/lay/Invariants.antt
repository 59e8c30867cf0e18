use Rattle.base_windows.proofs.Exits.{Laying}
use Rattle.base_windows.proofs.lay.Given as goal

abbrev pub invariant-loop-k : goal.invariant-loop-k
invariant-loop-k l = Laying l.c l.a l.initial.s l.n l.s l.k
