use Rattle.base_scratch.specs.ZeroedWords.{WipePost}
use Rattle.base_scratch.proofs.wipe.Given as goal

abbrev pub invariant-loop-i : goal.invariant-loop-i
invariant-loop-i l = WipePost l.a l.i l.initial.s l.s
