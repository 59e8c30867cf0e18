-- Calendars: which minutes are open (document 02, E4).
use Rattle.std.specs.Prelude.{◌≡◌, List, [], ◌∷◌, Bool, true, false, cond, ◌&&◌, ◌||◌, ℕ, zero, suc, ◌*◌, ◌/◌, ◌%◌, eqb, ltb, leb, get_or, ℤ, pos, negsuc}
use Rattle.std.specs.Int.Signed.{le_z}
use Rattle.spec_calendar.specs.Dates.{all_days, day_exists, weekday_of}

-- "windows, each a weekday .. (0 Monday to 6 Sunday), a first minute and an end minute"
pub record Window : Type 0 where
  pub weekday : ℕ
  pub first : ℕ
  pub end : ℕ

abbrev pub Calendar : Type 0
Calendar = List Window

-- "calendars, up to 4, numbered by position from 0"
abbrev pub Calendars : Type 0
Calendars = List Calendar

-- the one of a number; "a calendar not lent", which is 42, has no window
abbrev pub calendar_of : Calendars → ℕ → Calendar
calendar_of C k = get_or C k []

-- a day's: "0 to 1,440"
abbrev pub day_minutes : ℕ
day_minutes = 1440

-- minute m of a day of weekday w lies in a window: "A window includes its first minute and not its end."
unfoldable pub holds : Window → ℕ → ℕ → Bool
holds x w m = eqb x.weekday w && (leb x.first m && ltb m x.end)

unfoldable pub in_window : Calendar → ℕ → ℕ → Bool
in_window [] w m = false
in_window (x ∷ c) w m = holds x w m || in_window c w m

-- "true when that minute lies in a window of its weekday. Minutes outside the years are not open."
unfoldable pub open_at : Calendar → ℤ → Bool
open_at c (pos t) = day_exists (t / day_minutes) && in_window c (weekday_of (t / day_minutes)) (t % day_minutes)
open_at c (negsuc n) = false

-- a minute, or none
pub data Found : Type 0 where
  at : ℕ → Found
  none : Found

-- the first open one of n minutes, t and those behind it
unfoldable pub open_among : Calendar → ℕ → ℕ → Found
open_among c zero t = none
open_among c (suc n) t = cond (open_at c (pos t)) (at t) (open_among c n (suc t))

-- the first minute from day 0 on that is not before a signed one
abbrev pub not_before : ℤ → ℕ
not_before (pos t) = t
not_before (negsuc n) = 0

-- "the first open minute at or after a given signed one, or none": so many minutes have the years, and no other is open
unfoldable pub first_open : Calendar → ℤ → Found
first_open c z = open_among c (day_minutes * all_days) (not_before z)

-- the same said of all minutes, those before day 0 and behind the years too: the least open one that is not before z,
-- "or none exactly if no such minute exists". That `first_open` is this is `first-open` (proofs/FirstMinute).
pub data FirstOpen (c : Calendar) (z : ℤ) : Found → Type 0 where
  opens : {t : ℕ} → le_z z (pos t) ≡ true → open_at c (pos t) ≡ true →
      ((u : ℤ) → le_z z u ≡ true → open_at c u ≡ true → le_z (pos t) u ≡ true) → FirstOpen c z (at t)
  never : ((u : ℤ) → le_z z u ≡ true → open_at c u ≡ true → ⊥) → FirstOpen c z none
