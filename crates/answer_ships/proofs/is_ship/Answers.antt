-- `answer_ships::is_ship`: a row of two columns, or a record of two numbers.
use native.Mathlib.Omega.{arith}
use Rattle.answer_ships.proofs.Exits.{ship-word, ship-row, ship-fields, ship-elements, reshaped}
use borrow.Author.Rules.{rules}
use Rattle.answer_ships.proofs.is_ship.Goals as goal

pub overflow_add-h : goal.overflow_add-h
overflow_add-h c = let p = (reshaped c.shape_at.ensures c.in-Fields.is).shaped.is in omega (arith, p.0)

pub two_numbers-requires : goal.two_numbers-requires
two_numbers-requires c = (reshaped c.shape_at.ensures c.in-Fields.is).shaped.is.1

pub returns-in-Word : goal.returns-in-Word
returns-in-Word c = ship-word (reshaped c.shape_at.ensures c.in-Word.is)

pub returns-in-Words : goal.returns-in-Words
returns-in-Words c = ship-row (reshaped c.shape_at.ensures c.in-Words.is)

pub returns-in-Fields : goal.returns-in-Fields
returns-in-Fields c = ship-fields (reshaped c.shape_at.ensures c.in-Fields.is) c.two_numbers.ensures

pub returns-in-Elements : goal.returns-in-Elements
returns-in-Elements c = ship-elements (reshaped c.shape_at.ensures c.in-Elements.is)
