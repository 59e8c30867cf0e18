-- `front_emit::copy` meets its contract, by SmallFunctions.
use Rattle.front_emit.proofs.SmallFunctions.{copy_is}
use Rattle.front_emit.proofs.copy.Goals as goal

pub returns : goal.returns
returns c = copy_is c.requires.2 c.requires.0 c.joined.ensures c.enter.ensures
