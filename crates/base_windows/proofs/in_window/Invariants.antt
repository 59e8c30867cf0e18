use Rattle.base_windows.proofs.Exits.{Seeking}
use Rattle.base_windows.proofs.in_window.Given as goal

abbrev pub invariant-loop-k : goal.invariant-loop-k
invariant-loop-k l = Seeking l.s l.n l.w l.m l.e l.k
