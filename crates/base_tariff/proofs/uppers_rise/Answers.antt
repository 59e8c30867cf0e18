-- `base_tariff::uppers_rise`: the steps from the one above the loop's on decide.
use native.Mathlib.Omega.{arith}
use Rattle.spec_tariff.specs.TariffBytes.{rising}
use Rattle.base_tariff.proofs.Laws.{from_first, upper-goes, upper-stops, uppers-end}
use Rattle.base_tariff.proofs.uppers_rise.Goals as goal

pub loop-k-init : goal.loop-k-init
loop-k-init c = from_first c.args.c.now c.args.n rising

pub loop-k-preserved : goal.loop-k-preserved
loop-k-preserved c = upper-goes c.args.c.now c.args.n _ c.loop-k.invariant (omega arith) c.loop-k-test.true c.upper-x.ensures.0 c.upper.ensures.0 c.if-upper-x.false

pub returns-then-upper-x : goal.returns-then-upper-x
returns-then-upper-x c = upper-stops c.args.c.now c.args.n _ c.loop-k.invariant (omega arith) c.loop-k-test.true c.upper-x.ensures.0 c.upper.ensures.0 c.if-upper-x.true

pub returns : goal.returns
returns c = uppers-end c.args.c.now c.args.n _ c.loop-k.invariant (omega (arith, c.loop-k-test.false))
