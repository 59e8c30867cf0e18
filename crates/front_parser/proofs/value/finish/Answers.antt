-- `front_parser::value::finish` meets its contract, by LeafRecords.
use Rattle.front_parser.proofs.LeafRecords.{finished}
use Rattle.front_parser.proofs.value.finish.Goals as goal

pub returns : goal.returns
returns c = finished c.requires c.put_node.ensures
