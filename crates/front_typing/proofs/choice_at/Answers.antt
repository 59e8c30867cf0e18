-- `front_typing::choice_at` meets its contract, by Exits.
use Rattle.front_typing.proofs.Exits.{choice-many, choice-three}
use Rattle.front_typing.proofs.choice_at.Goals as goal

pub returns-in-Some : goal.returns-in-Some
returns-in-Some c = choice-many c.child.ensures c.in-Some.is

pub returns-in-None : goal.returns-in-None
returns-in-None c = choice-three c.child.ensures c.in-None.is c.operand.ensures c.operand-in-None.ensures c.operand-in-None-2.ensures c.choice.ensures
