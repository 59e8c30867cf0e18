-- `base_calendars::calendars_fit`: the records from the loop's place on decide.
use native.Mathlib.Omega.{arith}
use mathlib.Core.Path.{refl}
use Rattle.base_calendars.proofs.Records.{all_fit, fifth, stops, next-within, goes}
use Rattle.base_calendars.proofs.calendars_fit.Goals as goal

pub loop-p-init : goal.loop-p-init
loop-p-init c = (omega arith, omega arith, omega arith, refl)

pub returns-then-n-eq-MOST_CALENDARS : goal.returns-then-n-eq-MOST_CALENDARS
returns-then-n-eq-MOST_CALENDARS c = fifth c.args.s.now c.loop-p.p c.loop-p.n c.loop-p.invariant.3 c.loop-p-test.true c.if-n-eq-MOST_CALENDARS.true

pub two_at-requires : goal.two_at-requires
two_at-requires c = omega (arith, c.loop-p.invariant.1, c.loop-p.invariant.2)

pub overflow_add-p : goal.overflow_add-p
overflow_add-p c = omega (arith, c.two_at.ensures.1)

pub overflow_add-p-then-record_fits : goal.overflow_add-p-then-record_fits
overflow_add-p-then-record_fits c = omega (arith, c.two_at.ensures.1, c.loop-p.invariant.1, c.loop-p.invariant.2)

pub overflow_add-n : goal.overflow_add-n
overflow_add-n c = omega (arith, c.loop-p.invariant.1)

pub loop-p-smaller : goal.loop-p-smaller
loop-p-smaller c = omega (arith, c.loop-p.invariant.1, c.if-n-eq-MOST_CALENDARS.false)

pub loop-p-preserved : goal.loop-p-preserved
loop-p-preserved c = let s = c.args.s.now in
    let l = c.loop-p in (
      next-within s l.p l.n l.invariant.3 c.loop-p-test.true (omega (arith, l.invariant.1, c.if-n-eq-MOST_CALENDARS.false)) c.record_fits.ensures
          c.if-record_fits.true c.two_at.ensures.0,
      omega (arith, l.invariant.1, c.if-n-eq-MOST_CALENDARS.false),
      omega (arith, c.two_at.ensures.1, l.invariant.2),
      goes s l.p
          l.n l.invariant.3 c.loop-p-test.true (omega (arith, l.invariant.1, c.if-n-eq-MOST_CALENDARS.false)) c.record_fits.ensures c.if-record_fits.true
          c.two_at.ensures.0,
    )

pub returns-else-record_fits : goal.returns-else-record_fits
returns-else-record_fits c = let l = c.loop-p in
    stops c.args.s.now l.p l.n l.invariant.3 c.loop-p-test.true (omega (arith, l.invariant.1, c.if-n-eq-MOST_CALENDARS.false)) c.record_fits.ensures
    c.if-record_fits.false

pub returns : goal.returns
returns c = all_fit c.args.s.now c.loop-p.p c.loop-p.n c.loop-p.invariant.3 c.loop-p-test.false
