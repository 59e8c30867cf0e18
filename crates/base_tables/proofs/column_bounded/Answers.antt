-- `base_tables::column_bounded`: a bound of 2^31 needs no look at the cells. Assumes nothing.
use Rattle.std.proofs.Common.{arith}
use Rattle.base_tables.proofs.ColumnBounds.{bound-inside, bound-low-rows, bound-low-columns, bound-high-either}
use Rattle.base_tables.proofs.column_bounded.Goals as goal

pub overflow_mul-i : goal.overflow_mul-i
overflow_mul-i c = record { fits = omega (arith, (bound-inside c.requires).0) }

pub overflow_add-i : goal.overflow_add-i
overflow_add-i c = record { fits = omega (arith, (bound-inside c.requires).0) }

pub four_in-b-requires : goal.four_in-b-requires
four_in-b-requires c = omega (arith, (bound-inside c.requires).1)

pub returns-then-kind-eq-KIND_COLUMNS : goal.returns-then-kind-eq-KIND_COLUMNS
returns-then-kind-eq-KIND_COLUMNS c = bound-low-columns c.args.kind c.requires c.four_in-b.ensures.0 c.if-b-lt-MOST_BOUND.true c.if-kind-eq-KIND_COLUMNS.true c.sums_within.ensures

pub returns-then-b-lt-MOST_BOUND : goal.returns-then-b-lt-MOST_BOUND
returns-then-b-lt-MOST_BOUND c = bound-low-rows c.args.kind c.requires c.four_in-b.ensures.0 c.if-b-lt-MOST_BOUND.true c.if-kind-eq-KIND_COLUMNS.false c.column_within.ensures

pub returns : goal.returns
returns c = bound-high-either c.args.kind c.requires c.four_in-b.ensures.0 c.if-b-lt-MOST_BOUND.false
