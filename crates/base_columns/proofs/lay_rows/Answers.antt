-- `base_columns::lay_rows`: head and cells are those of the other kind. Assumes nothing.
use Rattle.base_columns.proofs.TurnedRecords.{cells-ask, rows_are}
use Rattle.base_columns.proofs.lay_rows.Goals as goal

pub unfold_cells-requires : goal.unfold_cells-requires
unfold_cells-requires c = cells-ask c.args.l.now c.args.d.now c.requires c.lay_head-columns.ensures

pub returns : goal.returns
returns c = rows_are c.args.l.now c.args.d.now c.requires c.lay_head-columns.ensures c.unfold_cells.ensures
