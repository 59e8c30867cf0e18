-- `front_nodes::number` meets its contract, by ReaderExits.
use Rattle.front_nodes.proofs.ReaderExits.{number_ok, number_is}
use Rattle.front_nodes.proofs.number.Goals as goal

pub overflow_sub-result : goal.overflow_sub-result
overflow_sub-result c = number_ok c.args.a c.requires

pub returns : goal.returns
returns c = number_is c.args.a c.requires
