-- `base_tables::sum_in`: the sum down to each row. Assumes nothing.
use Rattle.base_tables.proofs.ByteReaders.{summed-first, summed-next}
use Rattle.base_tables.proofs.sum_in.Goals as goal

pub loop-r-init : goal.loop-r-init
loop-r-init c = summed-first c.args.s.now c.args.p

pub loop-r-preserved : goal.loop-r-preserved
loop-r-preserved c = summed-next c.args.s.now c.args.p c.loop-r.r c.loop-r.invariant c.word_in.ensures c.below-x.ensures
