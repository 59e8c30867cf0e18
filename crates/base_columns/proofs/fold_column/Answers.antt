-- `base_columns::fold_column`: the rows so far are folded. Assumes nothing.
use Rattle.std.proofs.Common.{arith}
use Rattle.base_columns.proofs.WrittenColumns.{folding-first, fold-room, fold_next, fold_done}
use Rattle.base_columns.proofs.fold_column.Goals as goal

pub loop-r-init : goal.loop-r-init
loop-r-init c = folding-first c.args.c.now c.args.d.now c.args.from c.args.step c.args.to

pub loop-r-preserved : goal.loop-r-preserved
loop-r-preserved c = fold_next c.loop-r.invariant c.requires c.loop-r-test.true c.word_in-x.ensures c.fold-y.ensures c.put.ensures

pub put-requires : goal.put-requires
put-requires c = fold-room c.loop-r.invariant c.requires c.loop-r-test.true

pub returns : goal.returns
returns c = fold_done c.loop-r.invariant (omega (arith, c.loop-r-test.false))
