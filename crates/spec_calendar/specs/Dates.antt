-- "Day 0 is 2000-01-01, a Saturday; minute 0 is its midnight; years 2000 to 2399, 146,097 days, Gregorian." (document 02, E4)
use Rattle.std.specs.Prelude.{[], ◌∷◌, Bool, true, false, cond, not, ◌&&◌, ◌||◌, ℕ, zero, suc, ◌+◌, ◌-◌, ◌%◌, eqb, ltb, leb, get_or}

abbrev pub first_year : ℕ
first_year = 2000

abbrev pub last_year : ℕ
last_year = 2399

-- "146,097 days": that the years have so many is `days-in-all` (proofs/Sums)
abbrev pub all_days : ℕ
all_days = 146097

-- "Gregorian": each fourth year is a leap year, but of the centuries each fourth
unfoldable pub is_leap : ℕ → Bool
is_leap y = eqb (y % 4) 0 && (not (eqb (y % 100) 0) || eqb (y % 400) 0)

-- its one day more
abbrev pub leap_day : Bool → ℕ
leap_day true = 1
leap_day false = 0

-- the days of the k-th year, 2000 being year 0
unfoldable pub year_days : ℕ → ℕ
year_days k = 365 + leap_day (is_leap (first_year + k))

-- the days of the k-th month of a year, January being month 0, in a leap year or not
unfoldable pub month_days : Bool → ℕ → ℕ
month_days leap k = get_or (31 ∷ (28 + leap_day leap) ∷ 31 ∷ 30 ∷ 31 ∷ 30 ∷ 31 ∷ 31 ∷ 30 ∷ 31 ∷ 30 ∷ 31 ∷ []) k 0

-- so many days have the first k of them
unfoldable pub up_to : (ℕ → ℕ) → ℕ → ℕ
up_to f zero = 0
up_to f (suc k) = up_to f k + f k

-- "The first day number of each of the 400 years": the days of the years before it
unfoldable pub first_day : ℕ → ℕ
first_day k = up_to year_days k

-- the days of a year before its k-th month
unfoldable pub month_start : Bool → ℕ → ℕ
month_start leap k = up_to (month_days leap) k

-- "year, month, day"
pub record Date : Type 0 where
  pub year : ℕ
  pub month : ℕ
  pub day : ℕ

abbrev pub on : ℕ → ℕ → ℕ → Date
on y m d = record { year = y; month = m; day = d }

-- the last day of a date's month
unfoldable pub last_of : Date → ℕ
last_of d = month_days (is_leap d.year) (d.month - 1)

-- a date that its year has
unfoldable pub is_date : Date → Bool
is_date d = leb 1 d.month && (leb d.month 12 && (leb 1 d.day && leb d.day (last_of d)))

-- not "a date .. that does not exist in those years", which is 41
unfoldable pub date_exists : Date → Bool
date_exists d = leb first_year d.year && (leb d.year last_year && is_date d)

-- "from year, month, day to day number": the days before it, of earlier years, of earlier months, of its month
unfoldable pub day_number : Date → ℕ
day_number d = first_day (d.year - first_year) + (month_start (is_leap d.year) (d.month - 1) + (d.day - 1))

-- the day behind: of the same month, or the first of the next one, or of the next year
unfoldable pub day_behind : Date → Date
day_behind d =
    cond (ltb d.day (last_of d)) (on d.year d.month (suc d.day))
    (cond (ltb d.month 12) (on d.year (suc d.month) 1) (on (suc d.year) 1 1))

-- "and back": "Day 0 is 2000-01-01", and each day number is that of the day behind. That each of the two undoes the other where date and number
-- exist is `back` and `forth` (proofs/Dates).
unfoldable pub date_of : ℕ → Date
date_of zero = on first_year 1 1
date_of (suc n) = day_behind (date_of n)

-- not a "day number that does not exist in those years", which is 41
abbrev pub day_exists : ℕ → Bool
day_exists n = ltb n all_days

-- "0 Monday to 6 Sunday", day 0 "a Saturday"
abbrev pub weekday_of : ℕ → ℕ
weekday_of n = (n + 5) % 7
