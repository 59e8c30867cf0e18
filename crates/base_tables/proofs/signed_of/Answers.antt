-- `base_tables::signed_of`: the upper half of the words are the negative numbers. Assumes nothing.
use Rattle.base_tables.proofs.ByteReaders.{signed-ok, signed_is}
use Rattle.base_tables.proofs.signed_of.Goals as goal

pub overflow_sub-result : goal.overflow_sub-result
overflow_sub-result c = signed-ok c.requires

pub returns : goal.returns
returns c = signed_is c.requires
