-- `front_emit::heading_of` meets its contract, by LeafForms.
use Rattle.front_emit.proofs.LeafForms.{terms-record, terms-operator}
use Rattle.front_emit.proofs.heading_of.Goals as goal

pub returns-in-Record : goal.returns-in-Record
returns-in-Record c = terms-record c.in-Record.is

pub returns-in-Operator : goal.returns-in-Operator
returns-in-Operator c = terms-operator c.in-Operator.is c.number.ensures.0
