use Rattle.base_logs.proofs.Times.{Falling}
use Rattle.base_logs.proofs.never_falls.Given as goal

abbrev pub invariant-loop-r : goal.invariant-loop-r
invariant-loop-r l = Falling l.«data» l.w l.n l.last l.x l.r
