-- `base_tables::placed`: a table of all its rows, and the place behind its last cell is not behind the data. Assumes nothing.
use Rattle.std.proofs.Common.{arith}
use Rattle.base_tables.proofs.ByteReaders.{placed-full, placed-other}
use Rattle.base_tables.proofs.placed.Goals as goal

pub returns-then-w-eq0 : goal.returns-then-w-eq0
returns-then-w-eq0 c = placed-full (λ i. omega (arith, c.type_inv.«data» i)) c.if-w-eq0.true c.rows.ensures c.place.ensures.0

pub returns : goal.returns
returns c = placed-other c.if-w-eq0.false
