-- Cases of the papers: leap years, days, weekdays; windows at their edges, minutes outside the years.
use mathlib.Core.Path.{◌≡◌, refl}
use mathlib.Core.List.{[], ◌∷◌}
use mathlib.Core.Bool.{true, false}
use Prim.Native.Nat.{ℕ}
use lib.IntN.{pos, negsuc}
use Rattle.spec_calendar.specs.Dates.{is_leap, year_days, month_days, up_to, first_day, month_start, on, last_of, is_date, date_exists, day_number, day_behind, date_of, weekday_of}
use Rattle.spec_calendar.specs.Hours.{Window, Calendar, holds, in_window, open_at}

-- ---- "Gregorian"
year-2000 : is_leap 2000 ≡ true
unfolding is_leap
year-2000 = refl

year-2100 : is_leap 2100 ≡ false
unfolding is_leap
year-2100 = refl

year-2104 : is_leap 2104 ≡ true
unfolding is_leap
year-2104 = refl

-- ---- "Day 0 is 2000-01-01, a Saturday"
first-date : day_number (on 2000 1 1) ≡ 0
unfolding is_leap year_days month_days up_to first_day month_start day_number
first-date = refl

leap-date : day_number (on 2000 2 29) ≡ 59
unfolding is_leap year_days month_days up_to first_day month_start day_number
leap-date = refl

last-date : day_number (on 2399 12 31) ≡ 146096
unfolding is_leap year_days month_days up_to first_day month_start day_number
last-date = refl

no-leap-date : date_exists (on 2100 2 29) ≡ false
unfolding is_leap month_days last_of is_date date_exists
no-leap-date = refl

no-month-0 : date_exists (on 2000 0 1) ≡ false
unfolding is_date date_exists
no-month-0 = refl

no-year-2400 : date_exists (on 2400 1 1) ≡ false
unfolding date_exists
no-year-2400 = refl

day-60 : date_of 60 ≡ on 2000 3 1
unfolding is_leap month_days last_of day_behind date_of
day-60 = refl

saturday : weekday_of 0 ≡ 5
saturday = refl

-- "The last day is a Friday."
friday : weekday_of 146096 ≡ 4
friday = refl

-- ---- "A window includes its first minute and not its end."
abbrev window : ℕ → ℕ → ℕ → Calendar
window w a e = record { weekday = w; first = a; end = e } ∷ []

minute-479 : open_at (window 5 480 720) (pos 479) ≡ false
unfolding holds in_window open_at
minute-479 = refl

minute-480 : open_at (window 5 480 720) (pos 480) ≡ true
unfolding holds in_window open_at
minute-480 = refl

minute-719 : open_at (window 5 480 720) (pos 719) ≡ true
unfolding holds in_window open_at
minute-719 = refl

minute-720 : open_at (window 5 480 720) (pos 720) ≡ false
unfolding holds in_window open_at
minute-720 = refl

-- no window goes over midnight
midnight : open_at (window 5 1439 1440) (pos 1440) ≡ false
unfolding holds in_window open_at
midnight = refl

-- ---- "Minutes outside the years are not open."
minute-before : open_at (window 4 0 1440) (negsuc 0) ≡ false
unfolding open_at
minute-before = refl

minute-last : open_at (window 4 0 1440) (pos 210379679) ≡ true
unfolding holds in_window open_at
minute-last = refl

minute-behind : open_at (window 5 0 1440) (pos 210379680) ≡ false
unfolding holds in_window open_at
minute-behind = refl
