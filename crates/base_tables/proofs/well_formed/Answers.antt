-- `base_tables::well_formed`: each way out is one of `fits`'s tests. Assumes nothing.
use Rattle.std.proofs.Common.{arith}
use Rattle.base_tables.proofs.ByteReaders.{unfit, fits-length}
use Rattle.base_tables.proofs.well_formed.Goals as goal

pub returns-then-c-lt-BOUNDS_AT : goal.returns-then-c-lt-BOUNDS_AT
returns-then-c-lt-BOUNDS_AT c = unfit c.args.c.now (λ f. omega arith)

pub returns-then-collection-lt1 : goal.returns-then-collection-lt1
returns-then-collection-lt1 c = unfit c.args.c.now (λ f. omega arith)

pub returns-then-collection-gt3 : goal.returns-then-collection-gt3
returns-then-collection-gt3 c = unfit c.args.c.now (λ f. omega arith)

pub returns-then-columns-lt1 : goal.returns-then-columns-lt1
returns-then-columns-lt1 c = unfit c.args.c.now (λ f. omega arith)

pub returns-then-columns-gt-MOST_COLUMNS : goal.returns-then-columns-gt-MOST_COLUMNS
returns-then-columns-gt-MOST_COLUMNS c = unfit c.args.c.now (λ f. omega arith)

pub returns-then-rows-gt-TABLE_ROWS : goal.returns-then-rows-gt-TABLE_ROWS
returns-then-rows-gt-TABLE_ROWS c = unfit c.args.c.now (λ f. omega arith)

pub returns : goal.returns
returns c = fits-length c.args.c.now c.byte_at-collection.ensures.0 c.byte_at-columns.ensures.0 c.two_at-rows.ensures.0 c.cells.ensures.0 (omega arith)
