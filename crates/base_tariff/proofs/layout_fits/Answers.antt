-- `base_tariff::layout_fits`: 1 to 16 steps, as many bytes as they take, uppers, rates, and the minimum.
use borrow.Author.Tests.{not-true, not-false}
use Rattle.base_tariff.proofs.Laws.{no_step, many-steps, other_length, not-rising, rate-above, by-minimum}
use mathlib.Core.Path.{ap}
use mathlib.Core.Bool.{not}
use Rattle.base_tariff.proofs.layout_fits.Goals as goal

pub returns-then-n-lt1 : goal.returns-then-n-lt1
returns-then-n-lt1 c = no_step c.args.c.now c.byte_at-n.ensures.0 c.if-n-lt1.true

pub returns-then-n-gt-MOST_STEPS : goal.returns-then-n-gt-MOST_STEPS
returns-then-n-gt-MOST_STEPS c = many-steps c.args.c.now c.byte_at-n.ensures.0 c.if-n-lt1.false c.if-n-gt-MOST_STEPS.true

pub returns-then-c-n : goal.returns-then-c-n
returns-then-c-n c = other_length c.args.c.now c.byte_at-n.ensures.0 c.if-n-lt1.false c.if-n-gt-MOST_STEPS.false c.if-c-n.true

pub returns-then-not-rise : goal.returns-then-not-rise
returns-then-not-rise c = not-rising c.args.c.now c.byte_at-n.ensures.0 c.if-n-lt1.false c.if-n-gt-MOST_STEPS.false c.if-c-n.false c.uppers_rise-rise.ensures
    (not-true c.uppers_rise-rise.result (ap not c.if-not-rise.true))

pub returns-then-not-fit : goal.returns-then-not-fit
returns-then-not-fit c = rate-above c.args.c.now c.byte_at-n.ensures.0 c.if-n-lt1.false c.if-n-gt-MOST_STEPS.false c.if-c-n.false c.uppers_rise-rise.ensures
    (not-false c.uppers_rise-rise.result (ap not c.if-not-rise.false)) c.rates_fit-fit.ensures (not-true c.rates_fit-fit.result (ap not c.if-not-fit.true))

pub returns : goal.returns
returns c = by-minimum c.args.c.now c.byte_at-n.ensures.0 c.if-n-lt1.false c.if-n-gt-MOST_STEPS.false c.if-c-n.false c.uppers_rise-rise.ensures
    (not-false c.uppers_rise-rise.result (ap not c.if-not-rise.false)) c.rates_fit-fit.ensures (not-false c.rates_fit-fit.result (ap not c.if-not-fit.false))
    c.minimum.ensures.0
