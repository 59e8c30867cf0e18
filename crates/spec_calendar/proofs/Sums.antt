-- Days in all of the years, and of the months of a year, before a year or month: two places in such a sum are one place.
use mathlib.Core.Path.{◌≡◌, refl}
use mathlib.Core.List.{List, [], ◌∷◌}
use mathlib.Core.Bool.{Bool, true, false}
use Prim.Native.Nat.{ℕ, zero, suc, ◌+◌, ◌*◌, ◌≤◌, ◌<◌}
use native.Mathlib.Numerals.{add-one}
use native.Mathlib.Omega.{arith}
use lib.Dec.{ltb, leb, leb→le}
use borrow.Author.Tests.{ltb-true, ltb-false}
use Rattle.spec_calendar.specs.Dates.{first_year, all_days, is_leap, leap_day, year_days, month_days, up_to, first_day, month_start}
use Rattle.spec_calendar.proofs.Table.{at}

pub up_to-step : (f : ℕ → ℕ) (j k : ℕ) → j < k → up_to f j + f j ≤ up_to f k
unfolding up_to
up_to-step f j zero h = absurd (omega arith)
up_to-step f j (suc k) h = go (ltb j k) refl (up_to-step f j k)
  where
    go : (b : Bool) → ltb j k ≡ b → (j < k → up_to f j + f j ≤ up_to f k) → up_to f j + f j ≤ up_to f k + f k
    go true e ih = omega (arith, ih (ltb-true j k e))
    go false e ih = let q : j ≡ k = omega (arith, ltb-false j k e) in rw q (omega arith)

pub up_to-far : (f : ℕ → ℕ) (j k : ℕ) → j ≤ k → up_to f j ≤ up_to f k
up_to-far f j k h = go (ltb j k) refl
  where
    go : (b : Bool) → ltb j k ≡ b → up_to f j ≤ up_to f k
    go true e = omega (arith, up_to-step f j k (ltb-true j k e))
    go false e = let q : j ≡ k = omega (arith, ltb-false j k e) in rw q (omega arith)

pub unique : (f : ℕ → ℕ) (j k a b : ℕ) → a < f j → b < f k → up_to f j + a ≡ up_to f k + b → j ≡ k
unique f j k a b p q e = go (ltb j k) (ltb k j) refl refl
  where
    go : (s t : Bool) → ltb j k ≡ s → ltb k j ≡ t → j ≡ k
    go true t x y = absurd (omega (arith, up_to-step f j k (ltb-true j k x)))
    go false true x y = absurd (omega (arith, up_to-step f k j (ltb-true k j y)))
    go false false x y = omega (arith, ltb-false j k x, ltb-false k j y)

pub leap-most : (b : Bool) → leap_day b ≤ 1
leap-most true = omega arith
leap-most false = omega arith

-- ---- years
pub first_next : (k : ℕ) → first_day (k + 1) ≡ first_day k + year_days k
unfolding first_day up_to
first_next k = simp add-one

pub first-most : (k : ℕ) → first_day k ≤ 366 * k
unfolding first_day up_to year_days
first-most zero = omega arith
first-most (suc k) = omega (arith, first-most k, leap-most (is_leap (first_year + k)))

-- "years 2000 to 2399, 146,097 days"
pub days-in-all : first_day 400 ≡ all_days
unfolding first_day up_to year_days is_leap
days-in-all = refl

pub last-year : (k : ℕ) → k ≡ 399 → first_day k + year_days k ≡ all_days
last-year k e = rw e (omega (arith, first_next 399, days-in-all))

pub year-end : (k : ℕ) → k < 400 → first_day k + year_days k ≤ all_days
unfolding first_day
year-end k h = omega (arith, up_to-step year_days k 400 h, days-in-all)

-- ---- months
pub month-first : (l : Bool) → month_start l 0 ≡ 0
unfolding month_start up_to
month-first l = refl

pub month-next : (l : Bool) (k : ℕ) → month_start l (k + 1) ≡ month_start l k + month_days l k
unfolding month_start up_to
month-next l k = simp add-one

pub year-whole : (l : Bool) → month_start l 12 ≡ 365 + leap_day l
unfolding month_start up_to month_days
year-whole true = refl
year-whole false = refl

pub last-month : (l : Bool) (k : ℕ) → k ≡ 11 → month_start l k + month_days l k ≡ month_start l 12
unfolding month_start up_to
last-month l k e = rw e

pub month-end : (l : Bool) (k : ℕ) → k < 12 → month_start l k + month_days l k ≤ month_start l 12
unfolding month_start
month-end l k h = up_to-step (month_days l) k 12 h

some : ℕ → ℕ → Bool
some k n = leb 1 n

-- no month is without days
pub month-some : (l : Bool) (k : ℕ) → k < 12 → 1 ≤ month_days l k
unfolding month_days some
month-some true k h = leb→le 1 _ (at some (31 ∷ 29 ∷ 31 ∷ 30 ∷ 31 ∷ 30 ∷ 31 ∷ 31 ∷ 30 ∷ 31 ∷ 30 ∷ 31 ∷ []) tt k h)
month-some false k h = leb→le 1 _ (at some (31 ∷ 28 ∷ 31 ∷ 30 ∷ 31 ∷ 30 ∷ 31 ∷ 31 ∷ 30 ∷ 31 ∷ 30 ∷ 31 ∷ []) tt k h)
