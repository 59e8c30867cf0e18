use Rattle.loop_outages.proofs.Exits.{Counting}
use Rattle.loop_outages.proofs.truths.Given as goal

abbrev pub invariant-loop-m : goal.invariant-loop-m
invariant-loop-m l = Counting l.«data» l.initial.s l.k l.n l.w l.s l.t l.m
