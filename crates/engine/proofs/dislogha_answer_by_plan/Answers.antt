-- `engine::dislogha_answer_by_plan` meets its contract, by Calls.
use Rattle.spec_outcome.specs.Outcome.{planned, by_plan}
use Rattle.engine.proofs.Calls.{asked, room-answered, answer-refused, answer-given}
use Rattle.engine.proofs.dislogha_answer_by_plan.Goals as goal

pub answer-outcome-requires : goal.answer-outcome-requires
answer-outcome-requires c = asked c.admit.ensures c.in-Ok.is

pub conclude-requires : goal.conclude-requires
conclude-requires c = room-answered c.admit.ensures planned c.in-Ok.is c.answer-outcome.ensures

pub returns-in-Err : goal.returns-in-Err
unfolding by_plan
returns-in-Err c = answer-refused c.admit.ensures planned c.in-Err.is

pub returns-in-Ok : goal.returns-in-Ok
unfolding by_plan
returns-in-Ok c = answer-given c.admit.ensures planned c.in-Ok.is c.answer-outcome.ensures c.conclude.ensures
