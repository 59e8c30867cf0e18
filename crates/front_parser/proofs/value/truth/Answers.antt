-- `front_parser::value::truth` meets its contract, by LeafRecords.
use Rattle.front_parser.proofs.LeafRecords.{truth-broken, truth-over, truth-is}
use Rattle.front_parser.proofs.value.truth.Goals as goal

pub returns-then-c-ne1 : goal.returns-then-c-ne1
returns-then-c-ne1 c = truth-broken c.if-c-ne1.true

pub returns-then-b-le1 : goal.returns-then-b-le1
returns-then-b-le1 c = truth-is c.if-c-ne1.false c.byte_at-b.ensures c.if-b-le1.true

pub returns-else-b-le1 : goal.returns-else-b-le1
returns-else-b-le1 c = truth-over c.if-c-ne1.false c.byte_at-b.ensures c.if-b-le1.false
