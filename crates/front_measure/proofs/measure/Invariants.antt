use Rattle.front_measure.proofs.LoopInvariant.{MeasureLoop}
use Rattle.front_measure.proofs.measure.Given as goal

abbrev pub invariant-loop-i : goal.invariant-loop-i
invariant-loop-i l = MeasureLoop l.initial.s l.n l.s l.i
