-- `base_checkpoints::checkpoint_of` meets its contract, by Laws.
use Rattle.base_checkpoints.proofs.Laws.{checkpoint-is}
use Rattle.base_checkpoints.proofs.checkpoint_of.Goals as goal

pub returns : goal.returns
returns c = checkpoint-is c.args.«data».now c.args.w c.args.c c.column_place-p.ensures.0 c.sum_down.ensures c.sum_down-2.ensures
