-- `base_tariff::charge`: the greater of rate times metres and minimum.
use native.Mathlib.Omega.{arith}
use Rattle.base_tariff.proofs.Laws.{product_small, charge-is}
use Rattle.base_tariff.proofs.charge.Goals as goal

pub overflow_mul-x : goal.overflow_mul-x
overflow_mul-x c = omega (arith, product_small c.rate_of-x.ensures c.metres_begun-m.ensures)

pub returns : goal.returns
returns c = charge-is c.rate_of-x.ensures c.metres_begun-m.ensures c.byte_at.ensures.0 c.minimum.ensures.0 c.minimum.ensures.1
    (omega arith)
