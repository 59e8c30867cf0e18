-- `engine::dislogha_check` meets its contract, by Calls.
use Rattle.engine.proofs.Calls.{refuses, room-accepted, check-accepted}
use Rattle.engine.proofs.dislogha_check.Goals as goal

pub conclude-requires : goal.conclude-requires
conclude-requires c = room-accepted c.admit.ensures c.in-Ok.is

pub returns-in-Err : goal.returns-in-Err
returns-in-Err c = (refuses c.admit.ensures c.in-Err.is).0

pub returns-in-Ok : goal.returns-in-Ok
returns-in-Ok c = check-accepted c.admit.ensures c.in-Ok.is c.conclude.ensures
