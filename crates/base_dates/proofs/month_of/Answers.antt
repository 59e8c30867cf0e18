-- `base_dates::month_of`: the month at which the search stands begins no later than the day.
use native.Mathlib.Omega.{arith}
use mathlib.Core.Path.{◌≡◌, subst}
use Prim.Native.Nat.{ℕ}
use Rattle.base_dates.specs.Contract.{InMonth}
use Rattle.spec_calendar.proofs.Sums.{month-first, month-next, last-month}
use Rattle.base_dates.proofs.month_of.Goals as goal

pub loop-k-init : goal.loop-k-init
loop-k-init c = omega (arith, month-first c.args.leap)

pub returns-then-n-month_start : goal.returns-then-n-month_start
returns-then-n-month_start c = let l = c.loop-k in
    record { there = omega (arith, c.loop-k-test.true); from = l.invariant; to = omega (arith, c.month_start.ensures, month-next c.args.leap l.k, c.if-n-month_start.true) }

pub returns : goal.returns
returns c = let l = c.loop-k in
    let e : l.k ≡ 11 = omega (arith, c.loop-k-test.false) in
    subst (λ (k : ℕ). InMonth c.args.leap c.args.n k) e (record { there = omega arith; from = l.invariant; to = omega (arith, last-month c.args.leap l.k e) })
