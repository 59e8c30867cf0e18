-- `base_tariff::last_upper`: the upper draught of the last step.
use native.Mathlib.Omega.{arith}
use Rattle.base_tariff.proofs.Laws.{last-is}
use Rattle.base_tariff.proofs.last_upper.Goals as goal

pub returns : goal.returns
returns c = (last-is c.args.c.now c.byte_at.ensures.0 (omega (arith, c.requires, c.byte_at.ensures.0)) c.upper.ensures.0, c.upper.ensures.1)
