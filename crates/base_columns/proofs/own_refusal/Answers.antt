-- `base_columns::own_refusal`: each way out is one of `own_refusal`'s. Assumes nothing.
use Rattle.std.proofs.Common.{arith}
use Rattle.base_columns.proofs.TurnedRecords.{own-unfit, own-number, own-none, own-beyond}
use Rattle.base_columns.proofs.own_refusal.Goals as goal

pub returns-then-byte_at-ge-MOST_TABLES : goal.returns-then-byte_at-ge-MOST_TABLES
returns-then-byte_at-ge-MOST_TABLES c = own-number c.args.kind c.args.c.now c.well_formed-2.ensures c.if-well_formed.true c.byte_at.ensures.0 (omega (arith, c.if-byte_at-ge-MOST_TABLES.true))

pub returns-then-columns_bounded : goal.returns-then-columns_bounded
returns-then-columns_bounded c = own-none c.args.kind c.args.c.now c.well_formed-2.ensures c.if-well_formed.true c.byte_at.ensures.0 c.if-byte_at-ge-MOST_TABLES.false c.columns_bounded.ensures c.if-columns_bounded.true

pub returns-then-well_formed : goal.returns-then-well_formed
returns-then-well_formed c = own-beyond c.args.kind c.args.c.now c.well_formed-2.ensures c.if-well_formed.true c.byte_at.ensures.0 c.if-byte_at-ge-MOST_TABLES.false c.columns_bounded.ensures c.if-columns_bounded.false

pub returns : goal.returns
returns c = own-unfit c.args.kind c.args.c.now c.well_formed-2.ensures c.if-well_formed.false
