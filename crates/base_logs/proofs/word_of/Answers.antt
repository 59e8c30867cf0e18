-- `base_logs::word_of`: by columns a sum, by rows four bytes. Assumes nothing.
use Rattle.base_logs.proofs.Times.{below-columns, below_rows}
use Rattle.base_logs.proofs.word_of.Goals as goal

pub returns-then-by_columns : goal.returns-then-by_columns
returns-then-by_columns c = below-columns c.args.data.now c.args.w c.args.r c.args.above c.by_columns.ensures c.if-by_columns.true c.column_place.ensures.0 c.word_at.ensures c.below.ensures

pub returns : goal.returns
returns c = below_rows c.args.data.now c.args.w c.args.r c.args.above c.by_columns.ensures c.if-by_columns.false c.place.ensures.0 c.word_at-2.ensures
