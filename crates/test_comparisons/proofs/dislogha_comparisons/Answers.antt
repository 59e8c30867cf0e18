-- `test_comparisons::dislogha_comparisons` meets its contract, by Call, engine/Calls.
use Rattle.engine.proofs.Calls.{asked}
use Rattle.test_comparisons.proofs.Call.{compared-refused, room-counted, compared-given}
use Rattle.test_comparisons.proofs.dislogha_comparisons.Goals as goal

pub count-requires : goal.count-requires
count-requires c = asked c.admit.ensures c.in-Ok.is

pub finish-requires : goal.finish-requires
finish-requires c = room-counted c.admit.ensures c.in-Ok.is c.count.ensures

pub returns-in-Err : goal.returns-in-Err
returns-in-Err c = compared-refused c.admit.ensures c.in-Err.is

pub returns-in-Ok : goal.returns-in-Ok
returns-in-Ok c = compared-given c.admit.ensures c.in-Ok.is c.count.ensures c.from-counted.ensures.0 c.from-counted.ensures.1 c.finish.ensures
