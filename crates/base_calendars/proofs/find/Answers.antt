-- `base_calendars::find`: as many records lie before the loop's place as it has counted.
use native.Mathlib.Omega.{arith}
use mathlib.Core.Path.{refl}
use Rattle.base_calendars.proofs.Finding.{skip, beyond, ended, stands, next}
use Rattle.base_calendars.proofs.find.Goals as goal

pub returns-then-k-ge-MOST_CALENDARS : goal.returns-then-k-ge-MOST_CALENDARS
returns-then-k-ge-MOST_CALENDARS c = beyond c.args.s.now c.args.k c.if-k-ge-MOST_CALENDARS.true

pub loop-p-init : goal.loop-p-init
unfolding skip
loop-p-init c = (omega arith, omega arith, omega arith, refl)

pub returns-then-n-k : goal.returns-then-n-k
returns-then-n-k c = let l = c.loop-p in
    stands c.args.s.now l.p l.n l.invariant.3 c.two_at.ensures.0 c.min-from.ensures c.min-next.ensures c.args.k
    c.if-k-ge-MOST_CALENDARS.false c.if-n-k.true c.loop-p-test.true

pub loop-p-smaller : goal.loop-p-smaller
loop-p-smaller c = omega (arith, c.loop-p.invariant.0, c.if-k-ge-MOST_CALENDARS.false, c.if-n-k.false)

pub loop-p-preserved : goal.loop-p-preserved
loop-p-preserved c = let l = c.loop-p in (
  omega (arith, l.invariant.0, c.if-n-k.false),
  omega (arith, c.min-next.ensures),
  omega
      (arith, c.min-next.ensures, c.two_at.ensures.1, l.invariant.2),
  next c.args.s.now l.p l.n l.invariant.3 c.two_at.ensures.0
      c.min-from.ensures c.min-next.ensures,
)

pub returns : goal.returns
returns c = ended c.args.s.now c.loop-p.p c.loop-p.n c.loop-p.invariant.3 c.args.k c.loop-p.invariant.0 c.loop-p-test.false
