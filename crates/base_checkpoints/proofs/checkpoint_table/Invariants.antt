use Rattle.base_checkpoints.proofs.Laws.{Checkpointing}
use Rattle.base_checkpoints.proofs.checkpoint_table.Given as goal

abbrev pub invariant-loop-c : goal.invariant-loop-c
invariant-loop-c l = Checkpointing l.«data» l.initial.s l.n l.s l.c
