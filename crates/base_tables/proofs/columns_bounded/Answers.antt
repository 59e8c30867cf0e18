-- `base_tables::columns_bounded`: the columns so far keep their bounds. Assumes nothing.
use Rattle.spec_encoding.specs.Data.{table_by}
use Rattle.base_tables.proofs.ColumnBounds.{columns-many, keep-first, keep-again, keep-beyond, keep-last}
use Rattle.base_tables.proofs.columns_bounded.Goals as goal

pub loop-i-preserved : goal.loop-i-preserved
loop-i-preserved c = keep-again c.loop-i.invariant (columns-many c.args.kind c.args.c.now c.requires c.byte_at-i-end.ensures.0) c.loop-i-test.true c.column_bounded.ensures c.if-not-column_bounded.false

pub returns-then-not-column_bounded : goal.returns-then-not-column_bounded
unfolding table_by
returns-then-not-column_bounded c = keep-beyond c.loop-i.invariant (columns-many c.args.kind c.args.c.now c.requires c.byte_at-i-end.ensures.0) c.loop-i-test.true c.column_bounded.ensures c.if-not-column_bounded.true

pub returns : goal.returns
unfolding table_by
returns c = keep-last c.loop-i.invariant (columns-many c.args.kind c.args.c.now c.requires c.byte_at-i-end.ensures.0) c.loop-i-test.false

pub loop-i-init : goal.loop-i-init
loop-i-init c = keep-first
