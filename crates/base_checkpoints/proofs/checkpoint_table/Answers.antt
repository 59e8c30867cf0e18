-- `base_checkpoints::checkpoint_table` meets its contract, by Laws.
use Rattle.base_checkpoints.proofs.Laws.{checkpointing-first, checkpointing-next, checkpointing-last, checkpointing-none}
use Rattle.base_checkpoints.proofs.checkpoint_table.Goals as goal

pub loop-c-preserved : goal.loop-c-preserved
loop-c-preserved c = checkpointing-next c.loop-c.invariant c.requires c.loop-c-test.true c.description-w.ensures c.checkpoint_of.ensures c.store.ensures

pub loop-c-init : goal.loop-c-init
loop-c-init c = checkpointing-first

pub returns-after-loop-c : goal.returns-after-loop-c
returns-after-loop-c c = checkpointing-last c.loop-c.invariant c.loop-c-test.false

pub returns-else-tall : goal.returns-else-tall
returns-else-tall c = checkpointing-none c.description-w.ensures c.tall.ensures c.if-tall.false
