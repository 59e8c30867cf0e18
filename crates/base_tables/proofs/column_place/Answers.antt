-- `base_tables::column_place` meets its contract, by ByteReaders.
use Rattle.std.proofs.Common.{arith}
use Rattle.base_tables.proofs.ByteReaders.{column-place-is}
use Rattle.base_tables.proofs.column_place.Goals as goal

pub returns : goal.returns
returns c = column-place-is c.args.w c.args.c (omega arith) c.rows.ensures c.cells.ensures
