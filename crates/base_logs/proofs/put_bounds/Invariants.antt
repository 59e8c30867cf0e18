use Rattle.base_logs.proofs.Laying.{Bounding}
use Rattle.base_logs.proofs.put_bounds.Given as goal

abbrev pub invariant-loop-i : goal.invariant-loop-i
invariant-loop-i l = Bounding l.initial.d l.d l.p l.w l.i
