-- `base_tables::is_table` meets its contract, by ByteReaders.
use Rattle.base_tables.proofs.ByteReaders.{kind-rows, kind-columns}
use Rattle.base_tables.proofs.is_table.Goals as goal

pub returns-then-kind-eq-KIND_ROWS : goal.returns-then-kind-eq-KIND_ROWS
returns-then-kind-eq-KIND_ROWS c = kind-rows c.if-kind-eq-KIND_ROWS.true

pub returns : goal.returns
returns c = kind-columns c.if-kind-eq-KIND_ROWS.false
