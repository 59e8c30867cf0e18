-- `engine::dislogha_count_outages` meets its contract, by OutageCalls.
use Rattle.engine.proofs.Calls.{asked}
use Rattle.engine.proofs.OutageCalls.{outages-refused, room-counted, outages-given}
use Rattle.engine.proofs.dislogha_count_outages.Goals as goal

pub count-outcome-requires : goal.count-outcome-requires
count-outcome-requires c = asked c.admit.ensures c.in-Ok.is

pub conclude-requires : goal.conclude-requires
conclude-requires c = room-counted c.admit.ensures _ c.in-Ok.is c.count-outcome.ensures

pub returns-in-Err : goal.returns-in-Err
returns-in-Err c = outages-refused c.admit.ensures _ c.in-Err.is

pub returns-in-Ok : goal.returns-in-Ok
returns-in-Ok c = outages-given c.admit.ensures _ c.in-Ok.is c.count-outcome.ensures c.conclude.ensures
