-- `engine::dislogha_begin` meets its contract, by PortionCalls.
use Rattle.engine.proofs.PortionCalls.{begin-refused, begin-accepted}
use Rattle.engine.proofs.dislogha_begin.Goals as goal

pub returns-in-Err : goal.returns-in-Err
returns-in-Err c = begin-refused c.admit.ensures c.in-Err.is

pub returns-in-Ok : goal.returns-in-Ok
returns-in-Ok c = begin-accepted c.admit.ensures c.in-Ok.is c.begin.ensures _ c.from.ensures.0 c.from.ensures.1
