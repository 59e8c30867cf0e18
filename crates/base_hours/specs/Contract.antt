-- What the functions about open minutes ask and give.
use Rattle.std.specs.Prelude.{◌≡◌, Bool, true, cond, ℕ, ◌/◌, ◌%◌, ◌≤◌, ◌<◌, ltb}
use Rattle.spec_calendar.specs.Dates.{weekday_of}
use Rattle.spec_calendar.specs.Hours.{Window, Calendar, holds, in_window, Found, at, none}
use Rattle.spec_hours.specs.Calls.{OpenOutcome}
use Rattle.base_hours.specs.declared.OpenTold.{OpenTold}

-- what a call returns, as an outcome
abbrev pub open_in : OpenTold → OpenOutcome
open_in r = record { number = r.number; found = r.found; minute = r.minute }

-- so many minutes have the years
abbrev pub all_minutes : ℕ
all_minutes = 210379680

-- a minute of the years, or none
abbrev pub minute_in : ℕ → Found
minute_in t = cond (ltb t all_minutes) (at t) none

-- minute u, counted from day 0 on, lies in a window, or in one of a calendar's
abbrev pub lies_in : Window → ℕ → Bool
lies_in x u = holds x (weekday_of (u / 1440)) (u % 1440)

abbrev pub lies_in_one : Calendar → ℕ → Bool
lies_in_one c u = in_window c (weekday_of (u / 1440)) (u % 1440)

-- r is the first minute of the years, from f on, that lies in the window, or none of them is before the years' end
pub record NextPost (x : Window) (f r : ℕ) : Type 0 where
  pub from : f ≤ r
  pub first : (u : ℕ) → f ≤ u → u < r → u < all_minutes → lies_in x u ≡ true → ⊥
  pub lies : r < all_minutes → lies_in x r ≡ true

-- ... that lies in a window of the calendar
pub record LeastPost (c : Calendar) (f r : ℕ) : Type 0 where
  pub most : r ≤ all_minutes
  pub from : f ≤ r
  pub first : (u : ℕ) → f ≤ u → u < r → lies_in_one c u ≡ true → ⊥
  pub lies : r < all_minutes → lies_in_one c r ≡ true
