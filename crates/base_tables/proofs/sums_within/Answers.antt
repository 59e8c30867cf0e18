-- `base_tables::sums_within`: the sums so far are within the bound. Assumes nothing.
use Rattle.std.proofs.Common.{ap, ◌∙◌, arith}
use Rattle.spec_encoding.specs.Record.{four}
use Rattle.base_tables.proofs.ByteReaders.{summed-first, summed-next}
use Rattle.base_tables.proofs.ColumnBounds.{column_place, column-first, number-inside, rows-many, sum-here, number-next, column-few, look-first, look-again, look-beyond, look-last}
use Rattle.base_tables.proofs.sums_within.Goals as goal

pub cells-requires : goal.cells-requires
cells-requires c = let f = column-few c.requires.0 in (omega (arith, f.0), omega (arith, f.1, c.two_at-n.ensures.0))

pub loop-r-init : goal.loop-r-init
loop-r-init c = (
  look-first,
  column-first c.args.c.now c.args.i c.byte_at.ensures.0 c.two_at-n.ensures.0 c.cells.ensures.0,
  summed-first c.args.c.now (column_place c.args.c.now c.args.i),
)

pub word_in-requires : goal.word_in-requires
word_in-requires c = number-inside c.requires.0 c.two_at-n.ensures.0 c.loop-r-test.true c.loop-r.invariant.1

pub overflow_add-p-in-loop-r : goal.overflow_add-p-in-loop-r
overflow_add-p-in-loop-r c = omega (arith, number-inside c.requires.0 c.two_at-n.ensures.0 c.loop-r-test.true c.loop-r.invariant.1)

pub loop-r-preserved : goal.loop-r-preserved
loop-r-preserved c = let e = summed-next c.args.c.now (column_place c.args.c.now c.args.i) c.loop-r._r c.loop-r.invariant.2 (c.word_in.ensures ∙ ap (four c.args.c.now) c.loop-r.invariant.1) c.below-x.ensures in (
  look-again c.loop-r.invariant.0 (rows-many c.requires.0 c.two_at-n.ensures.0) c.loop-r-test.true c.below-x.result (sum-here c.requires.0 c.two_at-n.ensures.0 c.loop-r-test.true e) c.cell_within.ensures c.if-not-cell_within.false,
  number-next c.args.c.now c.args.i c.loop-r._r c.loop-r.invariant.1,
  e,
)

pub returns-then-not-cell_within : goal.returns-then-not-cell_within
returns-then-not-cell_within c = let e = summed-next c.args.c.now (column_place c.args.c.now c.args.i) c.loop-r._r c.loop-r.invariant.2 (c.word_in.ensures ∙ ap (four c.args.c.now) c.loop-r.invariant.1) c.below-x.ensures in
    look-beyond c.loop-r.invariant.0 (rows-many c.requires.0 c.two_at-n.ensures.0) c.loop-r-test.true c.below-x.result (sum-here c.requires.0 c.two_at-n.ensures.0 c.loop-r-test.true e) c.cell_within.ensures c.if-not-cell_within.true

pub returns : goal.returns
returns c = look-last c.loop-r.invariant.0 (rows-many c.requires.0 c.two_at-n.ensures.0) c.loop-r-test.false
