-- `base_checkpoints::checkpoint_tables` meets its contract, by Laws.
use Rattle.std.proofs.Common.{arith}
use Rattle.base_checkpoints.proofs.Laws.{to-first, to-next, to_last}
use Rattle.base_checkpoints.proofs.checkpoint_tables.Goals as goal

pub loop-n-init : goal.loop-n-init
loop-n-init c = to-first

pub loop-n-preserved : goal.loop-n-preserved
loop-n-preserved c = to-next c.loop-n.invariant (omega arith) (omega arith) c.checkpoint_table.ensures

pub returns : goal.returns
returns c = to_last c.loop-n.invariant (omega (arith, c.loop-n-test.false))
