-- `base_tables::cell_within`: one test for both ends. Assumes nothing.
use Rattle.base_tables.proofs.ColumnBounds.{cell-within-is}
use Rattle.base_tables.proofs.cell_within.Goals as goal

pub returns : goal.returns
returns c = cell-within-is c.requires.0 c.requires.1
