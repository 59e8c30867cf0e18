-- `base_tariff::rates_fit`: the rates from the loop's on decide.
use Rattle.spec_tariff.specs.TariffBytes.{rates_fit}
use Rattle.base_tariff.proofs.Laws.{from_first, rate-goes, rate-stops, rates-end}
use Rattle.base_tariff.proofs.rates_fit.Goals as goal

pub loop-k-init : goal.loop-k-init
loop-k-init c = from_first c.args.c.now c.args.n rates_fit

pub loop-k-preserved : goal.loop-k-preserved
loop-k-preserved c = rate-goes c.args.c.now c.args.n c.loop-k.k c.loop-k.invariant c.loop-k-test.true c.rate.ensures.0 c.if-rate-gt-MOST_CENTS.false

pub returns-then-rate-gt-MOST_CENTS : goal.returns-then-rate-gt-MOST_CENTS
returns-then-rate-gt-MOST_CENTS c = rate-stops c.args.c.now c.args.n c.loop-k.k c.loop-k.invariant c.loop-k-test.true c.rate.ensures.0 c.if-rate-gt-MOST_CENTS.true

pub returns : goal.returns
returns c = rates-end c.args.c.now c.args.n c.loop-k.k c.loop-k.invariant c.loop-k-test.false
