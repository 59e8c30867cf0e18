-- A date's day number is below 146,097, and from day number to date and back each undoes the other.
use mathlib.Core.Path.{◌≡◌, refl, sym, ap, subst, ◌∙◌}
use mathlib.Core.Bool.{Bool, true, false, cond, ◌&&◌, and-eq-true_iff}
use Prim.Native.Nat.{ℕ, zero, suc, ◌+◌, ◌-◌, ◌≤◌, ◌<◌}
use native.Mathlib.Omega.{arith}
use lib.Dec.{ltb, leb}
use borrow.Author.Tests.{ltb-true, ltb-false, lt-ltb, leb-true, le-leb}
use Rattle.spec_calendar.specs.Dates.{first_year, last_year, all_days, is_leap, leap_day, year_days, month_days, up_to, first_day, month_start, Date, on, last_of, is_date, date_exists, day_number, day_behind, date_of, day_exists}
use Rattle.spec_calendar.proofs.Sums.{up_to-far, unique, leap-most, first_next, year-end, days-in-all, month-first, month-next, year-whole, last-month, month-end, month-some}

-- what the tests of a date say
pub record IsDate (d : Date) : Type 0 where
  pub month-from : 1 ≤ d.month
  pub month-to : d.month ≤ 12
  pub day-from : 1 ≤ d.day
  pub day-to : d.day ≤ month_days (is_leap d.year) (d.month - 1)

pub record Exists (d : Date) : Type 0 where
  pub from : first_year ≤ d.year
  pub to : d.year ≤ last_year
  pub date : IsDate d

pub date-is : (d : Date) → is_date d ≡ true → IsDate d
unfolding is_date last_of
date-is d e =
    let a = (and-eq-true_iff (leb 1 d.month) (leb d.month 12 && (leb 1 d.day && leb d.day (month_days (is_leap d.year) (d.month - 1))))).0 e in
    let b = (and-eq-true_iff (leb d.month 12) (leb 1 d.day && leb d.day (month_days (is_leap d.year) (d.month - 1)))).0 a.1 in
    let c = (and-eq-true_iff (leb 1 d.day) (leb d.day (month_days (is_leap d.year) (d.month - 1)))).0 b.1 in
    record { month-from = leb-true _ _ a.0; month-to = leb-true _ _ b.0; day-from = leb-true _ _ c.0; day-to = leb-true _ _ c.1 }

pub is-date : (d : Date) → IsDate d → is_date d ≡ true
unfolding is_date last_of
is-date d x = rw (le-leb 1 d.month x.month-from, le-leb d.month 12 x.month-to, le-leb 1 d.day x.day-from, le-leb d.day _ x.day-to)

pub there-is : (d : Date) → date_exists d ≡ true → Exists d
unfolding date_exists
there-is d e =
    let a = (and-eq-true_iff (leb first_year d.year) (leb d.year last_year && is_date d)).0 e in
    let b = (and-eq-true_iff (leb d.year last_year) (is_date d)).0 a.1 in
    record { from = leb-true _ _ a.0; to = leb-true _ _ b.0; date = date-is d b.1 }

pub is-there : (d : Date) → Exists d → date_exists d ≡ true
unfolding date_exists
is-there d x = rw (le-leb first_year d.year x.from, le-leb d.year last_year x.to, is-date d x.date)

-- ---- no two dates have one number
module _ (d : Date) (x : IsDate d) (f : first_year ≤ d.year) where
  pub part : month_start (is_leap d.year) (d.month - 1) + (d.day - 1) < year_days (d.year - first_year)
  unfolding year_days
  part =
      let e : first_year + (d.year - first_year) ≡ d.year = omega (arith, f) in
      let m = month-end (is_leap d.year) (d.month - 1) (omega (arith, x.month-from, x.month-to)) in
      rw e (omega (arith, year-whole (is_leap d.year), m, x.day-from, x.day-to))

pub one-date : (d e : Date) → IsDate d → IsDate e → first_year ≤ d.year → first_year ≤ e.year → day_number d ≡ day_number e → d ≡ e
unfolding day_number first_day month_start
one-date d e x y f g q =
    let k : d.year - first_year ≡ e.year - first_year = unique year_days (d.year - first_year) (e.year - first_year) _ _ (part d x f) (part e y g) q in
    let ey : d.year ≡ e.year = omega (arith, f, g) in
    let l : is_leap d.year ≡ is_leap e.year = ap is_leap ey in
    let p : up_to (month_days (is_leap d.year)) (d.month - 1) + (d.day - 1) ≡ up_to (month_days (is_leap d.year)) (e.month - 1) + (e.day - 1) =
    omega (arith, ap (λ (b : Bool). up_to (month_days b) (e.month - 1)) l, ap (up_to year_days) k) in
    let j : d.month - 1 ≡ e.month - 1 = unique (month_days (is_leap d.year)) (d.month - 1) (e.month - 1) (d.day - 1) (e.day - 1)
    (omega (arith, x.day-from, x.day-to))
    (omega (arith, ap (λ (b : Bool). month_days b (e.month - 1)) l, y.day-from, y.day-to)) p in
    let em : d.month ≡ e.month = omega (arith, x.month-from, y.month-from) in
    let ed : d.day ≡ e.day = omega (arith, ap (up_to (month_days (is_leap d.year))) j, x.day-from, y.day-from) in
    ap (λ (v : ℕ). on v d.month d.day) ey ∙ ap (λ (v : ℕ). on e.year v d.day) em ∙ ap (λ (v : ℕ). on e.year e.month v) ed

-- ---- the day behind has the next number
first_of : (y : ℕ) → IsDate (on y 1 1)
first_of y = record { month-from = omega arith; month-to = omega arith; day-from = omega arith; day-to = month-some (is_leap y) 0 (omega arith) }

pub record Next (d e : Date) : Type 0 where
  pub from : first_year ≤ e.year
  pub date : IsDate e
  pub number : day_number e ≡ suc (day_number d)

module _ (d : Date) (x : IsDate d) (f : first_year ≤ d.year) where
  same-month : d.day < month_days (is_leap d.year) (d.month - 1) → Next d (on d.year d.month (suc d.day))
  unfolding day_number
  same-month h = record {
    from = f;
    date = record { month-from = x.month-from; month-to = x.month-to; day-from = omega arith; day-to = h };
    number = omega (arith, x.day-from);
  }

  next-month : month_days (is_leap d.year) (d.month - 1) ≤ d.day → d.month < 12 → Next d (on d.year (suc d.month) 1)
  unfolding day_number
  next-month h m =
      let k : d.month - 1 + 1 ≡ d.month = omega (arith, x.month-from) in
      let s : suc d.month - 1 ≡ d.month = omega arith in
      let n : month_start (is_leap d.year) d.month ≡ month_start (is_leap d.year) (d.month - 1) + month_days (is_leap d.year) (d.month - 1) =
      ap (month_start (is_leap d.year)) (sym k) ∙ month-next (is_leap d.year) (d.month - 1) in
      record {
        from = f;
        date = record { month-from = omega arith; month-to = m; day-from = omega arith; day-to = rw s (month-some (is_leap d.year) d.month m) };
        number = rw s (omega (arith, n, x.day-from, x.day-to));
      }

  next-year : month_days (is_leap d.year) (d.month - 1) ≤ d.day → 12 ≤ d.month → Next d (on (suc d.year) 1 1)
  unfolding day_number year_days
  next-year h m =
      let december = last-month (is_leap d.year) (d.month - 1) (omega (arith, m, x.month-to)) in
      let s : suc d.year - first_year ≡ d.year - first_year + 1 = omega (arith, f) in
      let e : first_year + (d.year - first_year) ≡ d.year = omega (arith, f) in
      let n : first_day (d.year - first_year + 1) ≡ first_day (d.year - first_year) + (365 + leap_day (is_leap d.year)) =
      first_next (d.year - first_year) ∙ ap (λ (y : ℕ). first_day (d.year - first_year) + (365 + leap_day (is_leap y))) e in
      record {
        from = omega (arith, f);
        date = first_of (suc d.year);
        number = rw s (omega (arith, n, month-first (is_leap (suc d.year)), x.day-from, x.day-to, december, year-whole (is_leap d.year)));
      }

  pub behind : Next d (day_behind d)
  unfolding day_behind last_of
  behind = go (ltb d.day (month_days (is_leap d.year) (d.month - 1))) (ltb d.month 12) refl refl
    where
      go : (s t : Bool) → ltb d.day (month_days (is_leap d.year) (d.month - 1)) ≡ s → ltb d.month 12 ≡ t →
          Next d (cond s (on d.year d.month (suc d.day)) (cond t (on d.year (suc d.month) 1) (on (suc d.year) 1 1)))
      go true t p q = same-month (ltb-true _ _ p)
      go false true p q = next-month (ltb-false _ _ p) (ltb-true _ _ q)
      go false false p q = next-year (ltb-false _ _ p) (ltb-false _ _ q)

-- ---- each undoes the other
pub record Numbered (n : ℕ) (d : Date) : Type 0 where
  pub from : first_year ≤ d.year
  pub date : IsDate d
  pub number : day_number d ≡ n

first : Numbered 0 (on 2000 1 1)
unfolding day_number first_day month_start up_to
first = record {
  from = omega arith;
  date = first_of first_year;
  number = refl;
}

pub date-numbered : (n : ℕ) → Numbered n (date_of n)
unfolding date_of
date-numbered zero = first
date-numbered (suc n) =
    let x = date-numbered n in
    let y = behind (date_of n) x.date x.from in
    record { from = y.from; date = y.date; number = y.number ∙ ap suc x.number }

-- the date that has a number is the one that as many days lead to
pub numbered_is : (n : ℕ) (d : Date) → Numbered n d → d ≡ date_of n
numbered_is n d x = let y = date-numbered n in one-date d (date_of n) x.date y.date x.from y.from (x.number ∙ sym y.number)

pub number-below : (d : Date) → Exists d → day_number d < all_days
unfolding day_number
number-below d x = omega (arith, part d x.date x.from, year-end (d.year - first_year) (omega (arith, x.from, x.to)))

-- a day number of these years is that of a date of these years
pub year-below : (n : ℕ) → n < all_days → (date_of n).year ≤ last_year
unfolding day_number first_day
year-below n h = go (ltb (last_year) (date_of n).year) refl
  where
    go : (b : Bool) → ltb last_year (date_of n).year ≡ b → (date_of n).year ≤ last_year
    go true e =
        let far = up_to-far year_days 400 ((date_of n).year - first_year) (omega (arith, ltb-true last_year (date_of n).year e)) in
        absurd (omega (arith, far, days-in-all, (date-numbered n).number))
    go false e = ltb-false last_year (date_of n).year e

-- "calls from year, month, day to day number and back"
pub back : (d : Date) → date_exists d ≡ true → (day_exists (day_number d) ≡ true) × (date_of (day_number d) ≡ d)
back d e =
    let x = there-is d e in
    (lt-ltb _ _ (number-below d x), sym (numbered_is (day_number d) d (record { from = x.from; date = x.date; number = refl })))

pub forth : (n : ℕ) → day_exists n ≡ true → (date_exists (date_of n) ≡ true) × (day_number (date_of n) ≡ n)
forth n e =
    let x = date-numbered n in
    (is-there (date_of n) (record { from = x.from; to = year-below n (ltb-true _ _ e); date = x.date }), x.number)
