-- `base_tables::cells`: the product is small. Assumes nothing.
use Rattle.std.proofs.Common.{refl, arith}
use Rattle.base_tables.proofs.ByteReaders.{few}
use Rattle.base_tables.proofs.cells.Goals as goal

pub overflow_mul-result : goal.overflow_mul-result
overflow_mul-result c = omega (arith, few c.args.columns c.args.rows c.requires.0 c.requires.1)

pub returns : goal.returns
returns c = (refl, few c.args.columns c.args.rows c.requires.0 c.requires.1)
