-- `base_columns::fold_cells`: the columns so far are laid. Assumes nothing.
use Rattle.std.proofs.Common.{arith}
use Rattle.base_columns.proofs.WrittenColumns.{cells-first, fold_asks, fold-cells-next, fold-cells-done}
use Rattle.base_columns.proofs.fold_cells.Goals as goal

pub loop-i-init : goal.loop-i-init
loop-i-init c = cells-first

pub fold_column-requires : goal.fold_column-requires
fold_column-requires c = fold_asks c.requires c.loop-i-test.true c.loop-i.invariant

pub loop-i-preserved : goal.loop-i-preserved
loop-i-preserved c = fold-cells-next c.requires c.loop-i-test.true c.loop-i.invariant c.fold_column.ensures

pub returns : goal.returns
returns c = fold-cells-done c.requires (omega (arith, c.loop-i-test.false)) c.loop-i.invariant
