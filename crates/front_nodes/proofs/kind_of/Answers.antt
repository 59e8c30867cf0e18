-- `front_nodes::kind_of` meets its contract, by ReaderExits.
use Rattle.front_nodes.proofs.ReaderExits.{kind-at, no_kind}
use Rattle.front_nodes.proofs.kind_of.Goals as goal

pub returns-in-6 : goal.returns-in-6
returns-in-6 c = kind-at c.in-6.is

pub returns-in-7 : goal.returns-in-7
returns-in-7 c = kind-at c.in-7.is

pub returns-in-8 : goal.returns-in-8
returns-in-8 c = kind-at c.in-8.is

pub returns-in-9 : goal.returns-in-9
returns-in-9 c = kind-at c.in-9.is

pub returns-in-10 : goal.returns-in-10
returns-in-10 c = kind-at c.in-10.is

pub returns-in-11 : goal.returns-in-11
returns-in-11 c = kind-at c.in-11.is

pub returns-in-12 : goal.returns-in-12
returns-in-12 c = kind-at c.in-12.is

pub returns-in_default : goal.returns-in_default
returns-in_default c = no_kind c.args.k c.in_default.in_default-own.rest
