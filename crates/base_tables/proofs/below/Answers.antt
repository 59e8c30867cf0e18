-- `base_tables::below` undoes a folded difference, whichever sign it has, and adds it. Assumes nothing.
use Rattle.std.proofs.Common.{arith}
use Rattle.base_tables.proofs.ByteReaders.{odd_part, below-is}
use Rattle.base_tables.proofs.below.Goals as goal

pub overflow_mul-n : goal.overflow_mul-n
overflow_mul-n c = record { fits = omega (arith, odd_part c.args.n, c.ranges.n) }

pub returns : goal.returns
returns c = below-is c.args.above c.args.n c.wrapping_sub_u32.result (omega (arith, c.ranges.n)) (omega (arith, c.wrapping_sub_u32.type_inv)) c.wrapping_sub_u32.ensures.value c.wrapping_add_u32.ensures.value
