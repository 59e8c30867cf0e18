-- `base_columns::fold` folds the wrapped difference, whichever sign it has. Assumes nothing.
use Rattle.std.proofs.Common.{sym, arith}
use Rattle.spec_encoding.proofs.Folding.{fold-low, fold-high}
use Rattle.base_columns.proofs.WrittenColumns.{fold_is}
use Rattle.base_columns.proofs.fold.Goals as goal

pub returns-then-d-lt-FIRST_BELOW_0 : goal.returns-then-d-lt-FIRST_BELOW_0
returns-then-d-lt-FIRST_BELOW_0 c = fold_is c.args.x c.args.above (omega (arith, c.ranges.x)) (omega (arith, c.ranges.above)) (omega (arith, c.wrapping_sub_u32-d.type_inv)) c.wrapping_sub_u32-d.ensures.value (sym (fold-low c.wrapping_sub_u32-d.result c.if-d-lt-FIRST_BELOW_0.true))

pub returns : goal.returns
returns c = fold_is c.args.x c.args.above (omega (arith, c.ranges.x)) (omega (arith, c.ranges.above)) (omega (arith, c.wrapping_sub_u32-d.type_inv)) c.wrapping_sub_u32-d.ensures.value (sym (fold-high c.wrapping_sub_u32-d.result c.if-d-lt-FIRST_BELOW_0.false))
