use Rattle.base_checkpoints.proofs.Laws.{CheckpointedTo}
use Rattle.base_checkpoints.proofs.checkpoint_tables.Given as goal

abbrev pub invariant-loop-n : goal.invariant-loop-n
invariant-loop-n l = CheckpointedTo l.«data» l.initial.s l.s l.n
