-- `front_parser::value::later_shape` meets its contract, by LeafRecords.
use native.Mathlib.Omega.{arith}
use Rattle.front_parser.specs.RecordKinds.{of_choice, of_open}
use Rattle.front_parser.proofs.LeafRecords.{shaped-at, shaped-over}
use Rattle.front_parser.proofs.value.later_shape.Goals as goal

pub returns-in-19 : goal.returns-in-19
returns-in-19 c = shaped-at c.in-19.is (record { is = (of_choice, omega arith) })

pub returns-in-21 : goal.returns-in-21
returns-in-21 c = shaped-at c.in-21.is (record { is = (of_open, omega arith) })

pub returns-in_default : goal.returns-in_default
returns-in_default c = shaped-over c.requires c.in_default.in_default-own.rest.0.1 c.in_default.in_default-own.rest.1
