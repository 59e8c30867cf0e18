-- `base_checkpoints::checkpointed_word` meets its contract, by Laws.
use Rattle.std.proofs.Common.{refl, arith}
use Rattle.base_checkpoints.proofs.Laws.{uses, place-low, word_low, word-high}
use Rattle.base_checkpoints.proofs.checkpointed_word.Goals as goal

pub overflow_add-p : goal.overflow_add-p
overflow_add-p c = omega (arith, place-low c.args.w c.args.c (omega (arith, c.ranges.w)) (uses refl c.requires).few, c.column_place-p.ensures.0)

pub overflow_add-p-2 : goal.overflow_add-p-2
overflow_add-p-2 c = omega (arith, place-low c.args.w c.args.c (omega (arith, c.ranges.w)) (uses refl c.requires).few, c.column_place-p.ensures.0)

pub sum_down-y-requires : goal.sum_down-y-requires
sum_down-y-requires c = (omega (arith, place-low c.args.w c.args.c (omega (arith, c.ranges.w)) (uses refl c.requires).few, c.column_place-p.ensures.0), omega (arith, (uses refl c.requires).row))

pub sum_down-y-requires-2 : goal.sum_down-y-requires-2
sum_down-y-requires-2 c = (omega (arith, place-low c.args.w c.args.c (omega (arith, c.ranges.w)) (uses refl c.requires).few, c.column_place-p.ensures.0), omega (arith, (uses refl c.requires).row))

pub returns-then-r-lt-SECOND_ROW : goal.returns-then-r-lt-SECOND_ROW
returns-then-r-lt-SECOND_ROW c = word_low c.args.«data».now c.args.w c.args.m c.args.r c.args.c c.column_place-p.ensures.0 c.if-r-lt-SECOND_ROW.true c.sum_down-y.ensures c.wrapping_add_u32.ensures.value

pub returns : goal.returns
returns c = word-high c.args.«data».now c.args.w c.args.m c.args.r c.args.c c.column_place-p.ensures.0 c.if-r-lt-SECOND_ROW.false c.sum_down-y-2.ensures c.wrapping_add_u32-2.ensures.value

pub column_place-p-requires : goal.column_place-p-requires
column_place-p-requires c = omega (arith, (uses refl c.requires).few)

pub overflow_add-r : goal.overflow_add-r
overflow_add-r c = omega (arith, (uses refl c.requires).row)

pub overflow_sub-r : goal.overflow_sub-r
overflow_sub-r c = omega (arith, (uses refl c.requires).behind)

pub overflow_add-r-2 : goal.overflow_add-r-2
overflow_add-r-2 c = omega (arith, (uses refl c.requires).row)
