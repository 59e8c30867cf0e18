-- `base_columns::unfold_cells`: the columns so far are laid. Assumes nothing.
use Rattle.std.proofs.Common.{arith}
use Rattle.base_columns.proofs.WrittenColumns.{cells-first, unfold-asks, unfold-cells-next, unfold-cells-done}
use Rattle.base_columns.proofs.unfold_cells.Goals as goal

pub loop-i-init : goal.loop-i-init
loop-i-init c = cells-first

pub unfold_column-requires : goal.unfold_column-requires
unfold_column-requires c = unfold-asks c.requires c.loop-i-test.true c.loop-i.invariant

pub loop-i-preserved : goal.loop-i-preserved
loop-i-preserved c = unfold-cells-next c.requires c.loop-i-test.true c.loop-i.invariant c.unfold_column.ensures

pub returns : goal.returns
returns c = unfold-cells-done c.requires (omega (arith, c.loop-i-test.false)) c.loop-i.invariant
