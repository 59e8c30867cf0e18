-- `front_parser::value::shape_of` meets its contract, by LeafRecords.
use native.Mathlib.Omega.{arith}
use Rattle.front_parser.specs.RecordKinds.{table_kind, of_field, of_record, of_not}
use Rattle.front_parser.proofs.LeafRecords.{shaped-at, shaped-none, shaped-value, shaped-two}
use Rattle.front_parser.proofs.value.shape_of.Goals as goal

pub returns-then-k-eq0 : goal.returns-then-k-eq0
returns-then-k-eq0 c = shaped-at c.if-k-eq0.true shaped-none

pub returns-then-k-le-KIND_NAME : goal.returns-then-k-le-KIND_NAME
returns-then-k-le-KIND_NAME c = shaped-value c.if-k-eq0.false c.if-k-le-KIND_NAME.true

pub returns-in-4 : goal.returns-in-4
returns-in-4 c = shaped-at c.in-4.is (record { is = (of_field, omega arith) })

pub returns-in-5 : goal.returns-in-5
returns-in-5 c = shaped-at c.in-5.is (record { is = (of_record, omega arith) })

pub returns-in-13 : goal.returns-in-13
returns-in-13 c = shaped-at c.in-13.is (record { is = (of_not, omega arith) })

pub returns-in-15 : goal.returns-in-15
returns-in-15 c = shaped-at c.in-15.is (record { is = table_kind })

pub returns-in_default : goal.returns-in_default
returns-in_default c = shaped-two (omega arith) (omega arith)
