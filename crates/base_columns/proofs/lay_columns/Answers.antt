-- `base_columns::lay_columns`: head and cells are those of the other kind. Assumes nothing.
use Rattle.base_columns.proofs.TurnedRecords.{cells-ask, columns-are}
use Rattle.base_columns.proofs.lay_columns.Goals as goal

pub fold_cells-requires : goal.fold_cells-requires
fold_cells-requires c = cells-ask c.args.l.now c.args.d.now c.requires c.lay_head-columns.ensures

pub returns : goal.returns
returns c = columns-are c.args.l.now c.args.d.now c.requires c.lay_head-columns.ensures c.fold_cells.ensures
