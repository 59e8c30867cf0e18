-- `front_parser::value::look_ahead` meets its contract, by LeafRecords.
use native.Mathlib.Omega.{arith}
use Rattle.front_parser.specs.RecordKinds.{of_generator, of_binding, of_condition}
use Rattle.front_parser.proofs.LeafRecords.{looks-at, looks-term}
use Rattle.front_parser.proofs.value.look_ahead.Goals as goal

pub returns-in-16 : goal.returns-in-16
returns-in-16 c = looks-at c.in-16.is (record { is = (of_generator, omega arith) })

pub returns-in-17 : goal.returns-in-17
returns-in-17 c = looks-at c.in-17.is (record { is = (of_binding, omega arith) })

pub returns-in-18 : goal.returns-in-18
returns-in-18 c = looks-at c.in-18.is (record { is = (of_condition, omega arith) })

pub returns-in_default : goal.returns-in_default
returns-in_default c = looks-term c.in_default.in_default-own.rest.0.0.1 c.in_default.in_default-own.rest.0.1 c.in_default.in_default-own.rest.1
