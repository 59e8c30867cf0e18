-- `base_logs::never_falls`: what is left of the times decides. Assumes nothing.
use Rattle.base_logs.proofs.Times.{falling-first, falling-next, falls-here, falls-never}
use Rattle.base_logs.proofs.never_falls.Goals as goal

pub loop-r-init : goal.loop-r-init
loop-r-init c = falling-first c.args.data.now c.args.w c.rows-n.ensures

pub returns-then-t-last : goal.returns-then-t-last
returns-then-t-last c = falls-here c.loop-r.invariant c.loop-r-test.true c.word_of-x.ensures c.time-t.ensures.0 c.if-t-last.true

pub loop-r-preserved : goal.loop-r-preserved
loop-r-preserved c = falling-next c.loop-r.invariant c.loop-r-test.true c.word_of-x.ensures c.time-t.ensures.0 c.if-t-last.false

pub returns : goal.returns
returns c = falls-never c.loop-r.invariant c.loop-r-test.false
