-- The outcomes of the three calls about days and hours, from what they are lent: number, and what is told. A refusal has every other number 0
-- (document 02, E4).
use Rattle.std.specs.Prelude.{ℕ, ltb, length, ℤ}
use Rattle.spec_calendar.specs.Dates.{Date, date_exists, day_number, day_exists, date_of}
use Rattle.spec_calendar.specs.Hours.{Found, at, none, calendar_of, first_open}
use Rattle.spec_encoding.specs.Record.{Bytes, Result, refused, got, and_then, require}
use Rattle.spec_hours.specs.CalendarBytes.{read_calendars}

-- ---- "from year, month, day to day number"
pub record DayOutcome : Type 0 where
  pub number : ℕ
  pub day : ℕ

unfoldable pub day_told : Result ℕ → DayOutcome
day_told (refused n) = record { number = n; day = 0 }
day_told (got k) = record { number = 0; day = k }

-- "41, .. from the date calls a date .. that does not exist in those years"
unfoldable pub day_numbered : Date → DayOutcome
day_numbered d = day_told (require 41 (date_exists d) (got (day_number d)))

-- ---- "and back"
pub record DateOutcome : Type 0 where
  pub number : ℕ
  pub year : ℕ
  pub month : ℕ
  pub day : ℕ

unfoldable pub date_told : Result Date → DateOutcome
date_told (refused n) = record { number = n; year = 0; month = 0; day = 0 }
date_told (got d) = record { number = 0; year = d.year; month = d.month; day = d.day }

-- "41, .. from the date calls a .. day number that does not exist in those years"
unfoldable pub dated : ℕ → DateOutcome
dated n = date_told (require 41 (day_exists n) (got (date_of n)))

-- ---- "a call giving the first open minute at or after a given signed one, or none": found is 1 where there is one
pub record OpenOutcome : Type 0 where
  pub number : ℕ
  pub found : ℕ
  pub minute : ℕ

unfoldable pub open_told : Result Found → OpenOutcome
open_told (refused n) = record { number = n; found = 0; minute = 0 }
open_told (got none) = record { number = 0; found = 0; minute = 0 }
open_told (got (at t)) = record { number = 0; found = 1; minute = t }

-- "42, a calendar not lent, .. after 41 in the first-open call"
unfoldable pub first_opened : Bytes → ℕ → ℤ → OpenOutcome
first_opened l k z = open_told (and_then (read_calendars l) (λ C. require 42 (ltb k (length C)) (got (first_open (calendar_of C k) z))))
