-- `engine::dislogha_plan_lines` meets its contract, by Calls.
use native.Mathlib.Omega.{arith}
use Rattle.spec_outcome.specs.Outcome.{plan_lines}
use Rattle.engine.proofs.Calls.{room-accepted, lines-refused, lines-given}
use Rattle.engine.proofs.dislogha_plan_lines.Goals as goal

pub conclude-requires : goal.conclude-requires
conclude-requires c = omega (arith, room-accepted c.admit.ensures c.in-Ok.is, c.plan_lines-outcome.auto.s)

pub returns-in-Err : goal.returns-in-Err
unfolding plan_lines
returns-in-Err c = lines-refused c.admit.ensures c.in-Err.is

pub returns-in-Ok : goal.returns-in-Ok
unfolding plan_lines
returns-in-Ok c = lines-given c.admit.ensures c.in-Ok.is c.plan_lines-outcome.auto.s c.plan_lines-outcome.ensures c.conclude.ensures
