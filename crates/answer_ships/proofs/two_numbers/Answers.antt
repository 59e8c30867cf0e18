-- `answer_ships::two_numbers`: neither fewer nor more than two, and both numbers.
use Rattle.answer_ships.proofs.Exits.{one_field, three-fields, two_fields, first-other}
use borrow.Author.Rules.{rules}
use Rattle.answer_ships.proofs.two_numbers.Goals as goal

pub returns-then-e-d : goal.returns-then-e-d
returns-then-e-d c = one_field c.args.s.now c.args.c c.args.e c.next-d.result c.requires c.next-d.ensures c.if-e-d.true

pub returns-then-next-e : goal.returns-then-next-e
returns-then-next-e c = three-fields c.args.s.now c.args.c c.args.e c.next-d.result c.requires c.next-d.ensures c.if-e-d.false c.next.ensures
    c.if-next-e.true

pub returns-then-is_number : goal.returns-then-is_number
returns-then-is_number c = two_fields c.args.s.now c.args.c c.args.e c.next-d.result c.requires c.next-d.ensures c.if-e-d.false c.next.ensures
    c.if-next-e.false c.is_number.ensures c.if-is_number.true c.is_number-then-is_number.ensures

pub returns : goal.returns
returns c = first-other c.args.s.now c.args.c c.args.e c.next-d.result c.requires c.next-d.ensures c.if-e-d.false c.next.ensures
    c.if-next-e.false c.is_number.ensures c.if-is_number.false
