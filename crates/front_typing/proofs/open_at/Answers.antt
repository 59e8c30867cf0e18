-- `front_typing::open_at` meets its contract, by Exits.
use Rattle.front_typing.proofs.Exits.{open-many, open-one}
use Rattle.front_typing.proofs.open_at.Goals as goal

pub returns-in-Some : goal.returns-in-Some
returns-in-Some c = open-many c.child.ensures c.in-Some.is

pub returns-in-None : goal.returns-in-None
returns-in-None c = open-one c.child.ensures c.in-None.is c.operand.ensures c.opening.ensures
