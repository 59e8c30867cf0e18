-- `base_checkpoints::uses_checkpoint` meets its contract, by Laws.
use Rattle.base_checkpoints.proofs.Laws.{unused-row, unused-column, unused-wide, unused-first, used-by, unused-rows}
use Rattle.base_checkpoints.proofs.uses_checkpoint.Goals as goal

pub returns-then-rows-r : goal.returns-then-rows-r
returns-then-rows-r c = unused-row c.args.w c.args.r c.args.c c.rows.ensures c.if-rows-r.true

pub returns-then-columns-c : goal.returns-then-columns-c
returns-then-columns-c c = unused-column c.args.w c.args.r c.args.c c.rows.ensures c.if-rows-r.false c.columns.ensures c.if-columns-c.true

pub returns-then-c-ge-COLUMNS : goal.returns-then-c-ge-COLUMNS
returns-then-c-ge-COLUMNS c = unused-wide c.args.w c.args.r c.args.c c.rows.ensures c.if-rows-r.false c.columns.ensures c.if-columns-c.false c.if-c-ge-COLUMNS.true

pub returns-then-r-lt-FIRST_ROW : goal.returns-then-r-lt-FIRST_ROW
returns-then-r-lt-FIRST_ROW c = unused-first c.args.w c.args.r c.args.c c.rows.ensures c.if-rows-r.false c.columns.ensures c.if-columns-c.false c.if-c-ge-COLUMNS.false c.if-r-lt-FIRST_ROW.true

pub returns-then-by_columns : goal.returns-then-by_columns
returns-then-by_columns c = used-by c.args.w c.args.r c.args.c c.rows.ensures c.if-rows-r.false c.columns.ensures c.if-columns-c.false c.if-c-ge-COLUMNS.false c.if-r-lt-FIRST_ROW.false c.by_columns.ensures c.if-by_columns.true c.full.ensures

pub returns : goal.returns
returns c = unused-rows c.args.w c.args.r c.args.c c.rows.ensures c.if-rows-r.false c.columns.ensures c.if-columns-c.false c.if-c-ge-COLUMNS.false c.if-r-lt-FIRST_ROW.false c.by_columns.ensures c.if-by_columns.false
