-- `base_scratch::clear` meets its contract, by Laws.
use Rattle.base_scratch.specs.Map.{scratch_size}
use Rattle.base_scratch.proofs.Laws.{wiped-front}
use Rattle.base_scratch.proofs.clear.Goals as goal

pub returns : goal.returns
returns c = wiped-front scratch_size c.wipe.ensures c.requires
