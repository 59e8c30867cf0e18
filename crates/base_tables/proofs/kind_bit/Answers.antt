-- `base_tables::kind_bit` meets its contract, by ByteReaders.
use Rattle.base_tables.proofs.ByteReaders.{bit-columns, bit-rows}
use Rattle.base_tables.proofs.kind_bit.Goals as goal

pub returns-then-kind-eq-KIND_COLUMNS : goal.returns-then-kind-eq-KIND_COLUMNS
returns-then-kind-eq-KIND_COLUMNS c = bit-columns c.if-kind-eq-KIND_COLUMNS.true

pub returns : goal.returns
returns c = bit-rows c.if-kind-eq-KIND_COLUMNS.false
