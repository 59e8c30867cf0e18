-- `answer_ships::gives_ships`: a bag of ships.
use mathlib.Core.Path.{ap}
use Rattle.answer_ships.proofs.Exits.{is_bag, reshaped, ships-bag, ships-other, ships-none}
use borrow.Author.Rules.{rules}
use borrow.Enum.Refused.{opened}
use Rattle.answer_ships.proofs.gives_ships.Goals as goal

pub returns-in_default : goal.returns-in_default
returns-in_default c = ships-none c.shape_at.ensures (opened c.in_default.in_default-own.keys2)

pub returns-in-List : goal.returns-in-List
returns-in-List c = ships-other (reshaped c.shape_at.ensures c.in-Elements.is) (ap is_bag c.in-List.is)

pub returns-in-Bag : goal.returns-in-Bag
returns-in-Bag c = ships-bag (reshaped c.shape_at.ensures c.in-Elements.is) c.in-Bag.is c.is_ship.ensures

pub returns-in-Set : goal.returns-in-Set
returns-in-Set c = ships-other (reshaped c.shape_at.ensures c.in-Elements.is) (ap is_bag c.in-Set.is)
