-- `front_parser::value::name` meets its contract, by LeafRecords.
use Rattle.front_parser.proofs.LeafRecords.{name-broken, name-is}
use Rattle.front_parser.proofs.value.name.Goals as goal

pub returns-then-c-ne2 : goal.returns-then-c-ne2
returns-then-c-ne2 c = name-broken c.if-c-ne2.true

pub returns : goal.returns
returns c = name-is c.short.result c.if-c-ne2.false c.short.ensures
