-- `base_columns::unfold_column`: the rows so far are unfolded. Assumes nothing.
use Rattle.std.proofs.Common.{arith}
use Rattle.base_columns.proofs.WrittenColumns.{unfolding-first, unfold-room, unfold-next, unfold-done}
use Rattle.base_columns.proofs.unfold_column.Goals as goal

pub loop-r-init : goal.loop-r-init
loop-r-init c = unfolding-first c.args.c.now c.args.d.now c.args.from c.args.step c.args.to

pub loop-r-preserved : goal.loop-r-preserved
loop-r-preserved c = unfold-next c.loop-r.invariant c.requires c.loop-r-test.true c.word_in.ensures c.below-x.ensures c.put.ensures

pub put-requires : goal.put-requires
put-requires c = unfold-room c.loop-r.invariant c.requires c.loop-r-test.true

pub returns : goal.returns
returns c = unfold-done c.loop-r.invariant (omega (arith, c.loop-r-test.false))
