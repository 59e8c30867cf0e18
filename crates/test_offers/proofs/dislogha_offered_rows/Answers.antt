-- `test_offers::dislogha_offered_rows` meets its contract, by Call, engine/Calls.
use Rattle.engine.proofs.Calls.{asked}
use Rattle.test_offers.proofs.Call.{offered-refused, room-told, offered-given}
use Rattle.test_offers.proofs.dislogha_offered_rows.Goals as goal

pub rows_of-n-requires : goal.rows_of-n-requires
rows_of-n-requires c = asked c.admit.ensures c.in-Ok.is

pub finish-requires : goal.finish-requires
finish-requires c = room-told c.admit.ensures c.in-Ok.is c.rows_of-n.ensures

pub returns-in-Err : goal.returns-in-Err
returns-in-Err c = offered-refused c.admit.ensures c.in-Err.is

pub returns-in-Ok : goal.returns-in-Ok
returns-in-Ok c = offered-given c.admit.ensures c.in-Ok.is c.rows_of-n.ensures c.finish.ensures
