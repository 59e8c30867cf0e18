-- `front_nodes::bound_by` meets its contract, by ReaderExits.
use Rattle.front_nodes.proofs.ReaderExits.{recast, bound-gen, bound-bind, bound-other}
use borrow.Enum.Refused.{opened}
use Rattle.front_nodes.proofs.bound_by.Goals as goal

pub returns-in-Gen : goal.returns-in-Gen
returns-in-Gen c = bound-gen (recast c.look.ensures c.in-Gen.is)

pub returns-in-Bind : goal.returns-in-Bind
returns-in-Bind c = bound-bind (recast c.look.ensures c.in-Bind.is)

pub returns-in_default : goal.returns-in_default
returns-in_default c = bound-other c.look.ensures (opened c.in_default.in_default-own.keys3)
