-- `base_tables::describe` packs the description. Assumes nothing.
use Rattle.base_tables.proofs.ByteReaders.{describes}
use Rattle.base_tables.proofs.describe.Goals as goal

pub returns : goal.returns
returns c = describes c.args.kind c.args.c.now c.args.p c.byte_at.ensures.0 c.byte_at-2.ensures.0 c.two_at.ensures.0 c.kind_bit.ensures.0 c.byte_at-3.ensures.0
