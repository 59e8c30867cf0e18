-- What the functions about days ask and give.
use Rattle.std.specs.Prelude.{ℕ, ◌+◌, ◌≤◌, ◌<◌, Bool}
use Rattle.spec_calendar.specs.Dates.{year_days, month_days, first_day, month_start}
use Rattle.spec_hours.specs.Calls.{DayOutcome, DateOutcome}
use Rattle.base_dates.specs.declared.DayTold.{DayTold}
use Rattle.base_dates.specs.declared.DateTold.{DateTold}

-- what a call returns, as an outcome
abbrev pub day_in : DayTold → DayOutcome
day_in r = record { number = r.number; day = r.day }

abbrev pub date_in : DateTold → DateOutcome
date_in r = record { number = r.number; year = r.year; month = r.month; day = r.day }

-- the year, and the month of a year, that has a day
pub record InYear (n k : ℕ) : Type 0 where
  pub there : k < 400
  pub from : first_day k ≤ n
  pub to : n < first_day k + year_days k

pub record InMonth (leap : Bool) (n k : ℕ) : Type 0 where
  pub there : k < 12
  pub from : month_start leap k ≤ n
  pub to : n < month_start leap k + month_days leap k
