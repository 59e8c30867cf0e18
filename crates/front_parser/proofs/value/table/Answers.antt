-- `front_parser::value::table` meets its contract, by LeafRecords.
use Rattle.front_parser.proofs.LeafRecords.{table-broken, table_is}
use Rattle.front_parser.proofs.value.table.Goals as goal

pub returns-then-c-ne1 : goal.returns-then-c-ne1
returns-then-c-ne1 c = table-broken c.if-c-ne1.true

pub returns : goal.returns
returns c = table_is c.index.result c.if-c-ne1.false c.index.ensures
