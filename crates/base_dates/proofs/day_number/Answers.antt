-- `base_dates::day_number`: the day number, or 41.
use Rattle.spec_calendar.specs.Dates.{on}
use Rattle.base_dates.proofs.Exits.{date-there, day-given, day-refused}
use Rattle.base_dates.proofs.day_number.Goals as goal

pub number_of-requires : goal.number_of-requires
number_of-requires c = let a = c.args in
    date-there (on a.year a.month a.day) c.date_exists.ensures c.if-date_exists.true

pub returns-then-date_exists : goal.returns-then-date_exists
returns-then-date_exists c = let a = c.args in
    day-given (on a.year a.month a.day) c.date_exists.ensures c.if-date_exists.true c.number_of.ensures

pub returns : goal.returns
returns c = let a = c.args in day-refused (on a.year a.month a.day) c.date_exists.ensures c.if-date_exists.false c.number.ensures
