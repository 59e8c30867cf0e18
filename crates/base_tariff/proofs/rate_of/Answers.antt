-- `base_tariff::rate_of`: the steps from the loop's on decide.
use Rattle.spec_tariff.specs.Tariff.{rate_of}
use Rattle.base_tariff.proofs.Laws.{from_first, rate-here, rate-later, rate-none}
use Rattle.base_tariff.proofs.rate_of.Goals as goal

pub loop-k-init : goal.loop-k-init
loop-k-init c = from_first c.args.c.now c.byte_at-n.result (λ x. rate_of x c.args.h)

pub returns-then-h-upper : goal.returns-then-h-upper
returns-then-h-upper c = rate-here c.args.c.now c.byte_at-n.ensures.0 c.args.h c.loop-k.k c.loop-k.invariant c.loop-k-test.true c.upper.ensures.0
    c.if-h-upper.true c.upper.ensures.1 c.rate.ensures.0 c.rate.ensures.1

pub loop-k-preserved : goal.loop-k-preserved
loop-k-preserved c = rate-later c.args.c.now c.byte_at-n.ensures.0 c.args.h c.loop-k.k c.loop-k.invariant c.loop-k-test.true c.upper.ensures.0 c.if-h-upper.false

pub returns : goal.returns
returns c = rate-none c.args.c.now c.byte_at-n.ensures.0 c.args.h c.loop-k.k c.loop-k.invariant c.loop-k-test.false
