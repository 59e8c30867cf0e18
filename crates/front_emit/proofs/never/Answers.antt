-- `front_emit::never` meets its contract, by WriterExits.
use Rattle.front_emit.proofs.WriterExits.{never_done}
use Rattle.front_emit.proofs.never.Goals as goal

pub returns : goal.returns
returns c = never_done c.below.ensures c.leaf-r.ensures c.close.ensures
