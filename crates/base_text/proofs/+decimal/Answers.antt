-- `base_text::decimal` meets its contract, by Decimals.
use native.Mathlib.Omega.{arith}
use Rattle.base_text.proofs.Decimals.{decimal-one, decimal-more}
use Rattle.base_text.proofs.+decimal.Goals as goal

pub returns-then-n-lt10 : goal.returns-then-n-lt10
returns-then-n-lt10 t c = decimal-one c.if-n-lt10.true c.put.ensures

pub decimal-q-requires : goal.decimal-q-requires
decimal-q-requires t c = (omega (arith, c.decreases, c.if-n-lt10.false), tt)

pub returns : goal.returns
returns t c = decimal-more c.if-n-lt10.false c.decimal-q.ensures c.put-2.ensures
