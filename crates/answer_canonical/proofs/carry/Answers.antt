-- `answer_canonical::carry` meets its contract, by WalkExits.
use mathlib.Core.Path.{refl}
use Rattle.answer_canonical.proofs.WalkExits.{carried}
use borrow.Author.Rules.{rules}
use Rattle.answer_canonical.proofs.carry.Goals as goal

pub shape_of-o : goal.shape_of-o
shape_of-o c = c.shift.auto.o

pub returns : goal.returns
returns c = carried c.ahead-src.ensures c.shift.ensures c.shift.auto.o refl c.ahead.ensures refl
