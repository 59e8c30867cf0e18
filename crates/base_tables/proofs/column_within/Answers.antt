-- `base_tables::column_within`: the cells so far are within the bound. Assumes nothing.
use Rattle.std.proofs.Common.{arith}
use Rattle.base_tables.proofs.ColumnBounds.{first-place, next_place, place_inside, cell_at, look-first, look-again, look-beyond, look-last}
use Rattle.base_tables.proofs.column_within.Goals as goal

pub loop-r-init : goal.loop-r-init
loop-r-init c = (look-first, first-place c.args.c.now c.args.i c.byte_at-step.ensures.0)

pub four_in-requires : goal.four_in-requires
four_in-requires c = place_inside c.requires.0 c.two_at-n.ensures.0 c.loop-r-test.true c.loop-r.invariant.1

pub overflow_add-p-in-loop-r : goal.overflow_add-p-in-loop-r
overflow_add-p-in-loop-r c = omega (arith, c.byte_at-step.ensures.1, place_inside c.requires.0 c.two_at-n.ensures.0 c.loop-r-test.true c.loop-r.invariant.1)

pub loop-r-preserved : goal.loop-r-preserved
loop-r-preserved c = (
  look-again c.loop-r.invariant.0 c.two_at-n.ensures.0 c.loop-r-test.true c.four_in.result (cell_at c.args.c.now c.loop-r._r c.args.i c.loop-r.invariant.1 c.four_in.ensures.0) c.cell_within.ensures c.if-not-cell_within.false,
  next_place c.args.c.now c.loop-r._r c.args.i c.byte_at-step.ensures.0 c.loop-r.invariant.1,
)

pub returns-then-not-cell_within : goal.returns-then-not-cell_within
returns-then-not-cell_within c = look-beyond c.loop-r.invariant.0 c.two_at-n.ensures.0 c.loop-r-test.true c.four_in.result (cell_at c.args.c.now c.loop-r._r c.args.i c.loop-r.invariant.1 c.four_in.ensures.0) c.cell_within.ensures c.if-not-cell_within.true

pub returns : goal.returns
returns c = look-last c.loop-r.invariant.0 c.two_at-n.ensures.0 c.loop-r-test.false
