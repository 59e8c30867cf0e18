-- One law for each way out of the functions about dates.
use mathlib.Core.Path.{◌≡◌, refl, sym, ap, ◌∙◌}
use mathlib.Core.Bool.{Bool, true, false}
use Prim.Native.Nat.{ℕ, ◌+◌, ◌-◌, ◌%◌, ◌≤◌, ◌<◌}
use native.Mathlib.Omega.{arith}
use lib.Dec.{eqb, leb}
use borrow.Author.Tests.{eq-eqb, ne_eqb, le-ltb, lt-ltb, leb-true, leb-false}
use Rattle.spec_calendar.specs.Dates.{first_year, last_year, all_days, is_leap, leap_day, year_days, month_days, first_day, month_start, Date, on, date_exists, day_number}
use Rattle.spec_calendar.proofs.Sums.{leap-most, first-most, month-next, year-whole, month-end}
use Rattle.spec_calendar.proofs.Dates.{IsDate, Exists, there-is, is-there, Numbered, numbered_is}
use Rattle.spec_encoding.specs.Record.{require}
use Rattle.spec_hours.specs.Calls.{DayOutcome, DateOutcome, day_told, day_numbered, date_told, dated}
use Rattle.spec_hours.proofs.Calls.{day-told, date-told}
use Rattle.base_dates.specs.Contract.{InYear, InMonth}

-- ---- leap: "Gregorian"
pub leap-not : (y : ℕ) → (y % 4 ≡ 0 → ⊥) → false ≡ is_leap y
unfolding is_leap
leap-not y h = simp (ne_eqb (y % 4) 0 h)

pub leap-plain : (y : ℕ) → y % 4 ≡ 0 → (y % 100 ≡ 0 → ⊥) → true ≡ is_leap y
unfolding is_leap
leap-plain y e h = simp (eq-eqb (y % 4) 0 e, ne_eqb (y % 100) 0 h)

pub leap-century : (y : ℕ) → y % 4 ≡ 0 → y % 100 ≡ 0 → eqb (y % 400) 0 ≡ is_leap y
unfolding is_leap
leap-century y e h = simp (eq-eqb (y % 4) 0 e, eq-eqb (y % 100) 0 h)

-- ---- date_exists
pub date-not : (d : Date) → (Exists d → ⊥) → false ≡ date_exists d
date-not d h = go (date_exists d) refl
  where
    go : (b : Bool) → date_exists d ≡ b → false ≡ b
    go true e = absurd (h (there-is d e))
    go false e = refl

-- a month's days are those up to the next month's start
module _ (y m : ℕ) {l : Bool} {a e : ℕ} (el : l ≡ is_leap y) (ea : a ≡ month_start l (m - 1)) (ee : e ≡ month_start l (m - 1 + 1)) where
  days : e ≡ a + month_days (is_leap y) (m - 1)
  days = omega (arith, ee ∙ month-next l (m - 1), ea, ap (λ (b : Bool). month_days b (m - 1)) el)

  pub in_order : a ≤ e
  in_order = omega (arith, days)

  pub date-by-day : (d : ℕ) → first_year ≤ y → y ≤ last_year → 1 ≤ m → m ≤ 12 → 1 ≤ d → leb d (e - a) ≡ date_exists (on y m d)
  date-by-day d y₁ y₂ m₁ m₂ d₁ = go (leb d (e - a)) refl
    where
      go : (b : Bool) → leb d (e - a) ≡ b → b ≡ date_exists (on y m d)
      go true p =
          let i : IsDate (on y m d) = record { month-from = m₁; month-to = m₂; day-from = d₁; day-to = omega (arith, days, leb-true d (e - a) p) } in
          sym (is-there (on y m d) (record { from = y₁; to = y₂; date = i }))
      go false p = date-not (on y m d) (λ x. omega (arith, days, leb-false d (e - a) p, x.date.day-to))

-- ---- number_of
module _ {y m d : ℕ} (x : Exists (on y m d)) {l : Bool} {s : ℕ} (el : l ≡ is_leap y) (es : s ≡ month_start l (m - 1)) where
  pub day-small : s + (d - 1) < 366
  day-small =
      let b = is_leap y in
      let s = month-end b (m - 1) (omega (arith, x.date.month-from, x.date.month-to)) in
      omega (arith, es ∙ ap (λ (t : Bool). month_start t (m - 1)) el, s, year-whole b, leap-most b, x.date.day-from, x.date.day-to)

  module _ {f : ℕ} (ef : f ≡ first_day (y - first_year)) where
    pub sum-small : f + (s + (d - 1)) < 150000
    sum-small = omega (arith, day-small, ef, first-most (y - first_year), x.to)

    pub sum_is : f + (s + (d - 1)) ≡ day_number (on y m d)
    unfolding day_number
    sum_is = let p : s ≡ month_start (is_leap y) (m - 1) = es ∙ ap (λ (b : Bool). month_start b (m - 1)) el in rw (ef, p) refl

-- ---- day_number
module _ (d : Date) {b : Bool} (e : b ≡ date_exists d) where
  pub date-there : b ≡ true → Exists d
  date-there t = there-is d (sym e ∙ t)

  pub day-given : b ≡ true → {n : ℕ} → n ≡ day_number d → ◌≡◌ {A = DayOutcome} (record { number = 0; day = n }) (day_numbered d)
  day-given t q = ap (λ (k : ℕ). record { number = 0; day = k }) q ∙ sym (day-told d (sym e ∙ t))

  pub day-refused : b ≡ false → {x : ℕ} → x ≡ 41 → ◌≡◌ {A = DayOutcome} (record { number = x; day = 0 }) (day_numbered d)
  unfolding day_numbered day_told require
  day-refused f ex = rw (ex, sym e ∙ f)

-- ---- date_of
pub date-refused : (n : ℕ) → all_days ≤ n → {x : ℕ} → x ≡ 41 → ◌≡◌ {A = DateOutcome} (record { number = x; year = 0; month = 0; day = 0 }) (dated n)
unfolding dated date_told require
date-refused n h ex = rw (ex, le-ltb n all_days h)

module _ (n : ℕ) {k r : ℕ} {l : Bool} (i : InYear n k) (el : l ≡ is_leap (first_year + k)) (er : r ≡ n - first_day k) where
  pub within-year : r < month_start l 12
  unfolding year_days
  within-year = omega (arith, year-whole l, ap leap_day el, i.from, i.to)

  module _ {m s : ℕ} (j : InMonth l r m) (es : s ≡ month_start l m) where
    numbered : Numbered n (on (first_year + k) (m + 1) (r - s + 1))
    unfolding day_number
    numbered =
        let e₁ : first_year + k - first_year ≡ k = omega arith in
        let e₂ : m + 1 - 1 ≡ m = omega arith in
        record {
          from = omega arith;
          date = record {
            month-from = omega arith;
            month-to = omega (arith, j.there);
            day-from = omega arith;
            day-to = rw (e₂, ← el) (omega (arith, j.from, j.to));
          };
          number = rw (e₁, e₂, ← el) (omega (arith, i.from, j.from));
        }

    pub date-given : n < all_days → ◌≡◌ {A = DateOutcome} (record { number = 0; year = first_year + k; month = m + 1; day = r - s + 1 }) (dated n)
    date-given h =
        ap (λ (d : Date). record { number = 0; year = d.year; month = d.month; day = d.day })
        (numbered_is n (on (first_year + k) (m + 1) (r - s + 1)) numbered)
        ∙ sym (date-told n (lt-ltb n all_days h))
