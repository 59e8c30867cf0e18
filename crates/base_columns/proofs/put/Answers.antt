-- `base_columns::put` stores the four bytes one behind the other. Assumes nothing.
use Rattle.base_columns.proofs.WrittenColumns.{put_is}
use Rattle.base_columns.proofs.put.Goals as goal

pub returns : goal.returns
returns c = put_is c.args.d.now c.args.i c.args.w c.low.ensures c.low-2.ensures c.low-3.ensures c.low-4.ensures
