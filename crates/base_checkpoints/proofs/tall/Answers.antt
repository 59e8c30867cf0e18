-- `base_checkpoints::tall` meets its contract, by Laws.
use Rattle.base_checkpoints.proofs.Laws.{tall-rows, tall-none}
use Rattle.base_checkpoints.proofs.tall.Goals as goal

pub returns-then-by_columns : goal.returns-then-by_columns
returns-then-by_columns c = tall-rows c.args.w c.by_columns.ensures c.if-by_columns.true c.rows.ensures

pub returns : goal.returns
returns c = tall-none c.args.w c.by_columns.ensures c.if-by_columns.false
