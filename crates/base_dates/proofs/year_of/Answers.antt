-- `base_dates::year_of`: the year at which the search stands begins no later than the day.
use native.Mathlib.Omega.{arith}
use mathlib.Core.Path.{◌≡◌, subst}
use Prim.Native.Nat.{ℕ, ◌/◌}
use Rattle.base_dates.specs.Contract.{InYear}
use Rattle.spec_calendar.proofs.Sums.{first-most, first_next, last-year}
use Rattle.base_dates.proofs.year_of.Goals as goal

pub loop-k-init : goal.loop-k-init
loop-k-init c = omega (arith, first-most (c.args.n / 366))

pub returns-then-n-first_day : goal.returns-then-n-first_day
returns-then-n-first_day c = let l = c.loop-k in
    record { there = omega (arith, c.loop-k-test.true); from = l.invariant; to = omega (arith, c.first_day.ensures, first_next l.k, c.if-n-first_day.true) }

pub returns : goal.returns
returns c = let l = c.loop-k in
    let e : l.k ≡ 399 = omega (arith, l.auto.k-end (omega (arith, c.requires)), c.loop-k-test.false) in
    subst (λ (k : ℕ). InYear c.args.n k) e (record { there = omega arith; from = l.invariant; to = omega (arith, last-year l.k e) })
