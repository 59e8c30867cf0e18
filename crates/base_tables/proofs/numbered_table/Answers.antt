-- `base_tables::numbered_table`: each way out is one of `numbered_table`'s. Assumes nothing.
use Rattle.std.proofs.Common.{arith}
use Rattle.base_tables.proofs.ByteReaders.{number-high, number-used, number-beyond, number_is}
use Rattle.base_tables.proofs.numbered_table.Goals as goal

pub returns-then-k-ge-MOST_TABLES : goal.returns-then-k-ge-MOST_TABLES
returns-then-k-ge-MOST_TABLES c = number-high c.args.kind c.args.c.now c.args.scratch.now c.args.p c.args.next c.byte_at-k.ensures.0 (omega (arith, c.if-k-ge-MOST_TABLES.true))

pub returns-then-present : goal.returns-then-present
returns-then-present c = number-used c.args.kind c.args.c.now c.args.scratch.now c.args.p c.args.next
    c.byte_at-k.ensures.0 c.if-k-ge-MOST_TABLES.false c.present.ensures c.if-present.true

pub returns-then-columns_bounded : goal.returns-then-columns_bounded
returns-then-columns_bounded c = number_is c.args.kind c.args.c.now c.args.scratch.now c.args.p c.args.next
    c.byte_at-k.ensures.0 c.if-k-ge-MOST_TABLES.false c.present.ensures c.if-present.false c.columns_bounded.ensures
    c.if-columns_bounded.true c.describe.ensures

pub returns : goal.returns
returns c = number-beyond c.args.kind c.args.c.now c.args.scratch.now c.args.p c.args.next
    c.byte_at-k.ensures.0 c.if-k-ge-MOST_TABLES.false c.present.ensures c.if-present.false c.columns_bounded.ensures c.if-columns_bounded.false
