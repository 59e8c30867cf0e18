-- `base_tables::stored_word`: by columns the sum down to the row, by rows the four bytes. Assumes nothing.
use Rattle.std.proofs.Common.{arith}
use Rattle.base_tables.proofs.ByteReaders.{stored-summed, stored_row, stored-small}
use Rattle.base_tables.proofs.stored_word.Goals as goal

pub returns-then-by_columns : goal.returns-then-by_columns
returns-then-by_columns c = stored-small c.args.«data».now c.args.w c.args.r c.args.c (λ i. omega (arith, c.type_inv.«data» i)) (stored-summed c.args.«data».now c.args.w c.args.r c.args.c c.by_columns.ensures c.if-by_columns.true c.column_place.ensures.0 c.sum_down.ensures)

pub returns : goal.returns
returns c = stored-small c.args.«data».now c.args.w c.args.r c.args.c (λ i. omega (arith, c.type_inv.«data» i)) (stored_row c.args.«data».now c.args.w c.args.r c.args.c c.by_columns.ensures c.if-by_columns.false c.place.ensures.0 c.four_at.ensures.0)
