-- `answer_ships::is_number`: one word, and no truth.
use mathlib.Core.Path.{ap}
use Rattle.answer_types.specs.Shape.{is_word}
use Rattle.answer_types.proofs.ElementTypes.{other_word}
use Rattle.answer_ships.proofs.Exits.{number_word, number-none}
use borrow.Author.Rules.{rules}
use borrow.Enum.Refused.{opened}
use Rattle.answer_ships.proofs.is_number.Goals as goal

pub returns-in_default : goal.returns-in_default
returns-in_default c = number-none c.shape_at.ensures (other_word c.shape_at.result (opened c.in_default.in_default-own.keys2))

pub returns : goal.returns
returns c = number_word c.shape_at.ensures (ap is_word c.in-Word.is) c.is_truth.ensures
