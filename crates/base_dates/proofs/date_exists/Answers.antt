-- `base_dates::date_exists`: outside its ranges there is no date, within them the day decides.
use native.Mathlib.Omega.{arith}
use Rattle.spec_calendar.specs.Dates.{on}
use Rattle.base_dates.proofs.Exits.{date-not, in_order, date-by-day}
use Rattle.base_dates.proofs.date_exists.Goals as goal

pub returns-then-year-lt-FIRST_YEAR : goal.returns-then-year-lt-FIRST_YEAR
returns-then-year-lt-FIRST_YEAR c = let a = c.args in date-not (on a.year a.month a.day) (λ x. omega (arith, x.from))

pub returns-then-year-gt-LAST_YEAR : goal.returns-then-year-gt-LAST_YEAR
returns-then-year-gt-LAST_YEAR c = let a = c.args in date-not (on a.year a.month a.day) (λ x. omega (arith, x.to))

pub returns-then-month-lt1 : goal.returns-then-month-lt1
returns-then-month-lt1 c = let a = c.args in date-not (on a.year a.month a.day) (λ x. omega (arith, x.date.month-from))

pub returns-then-month : goal.returns-then-month
returns-then-month c = let a = c.args in date-not (on a.year a.month a.day) (λ x. omega (arith, x.date.month-to))

pub returns-then-day-lt1 : goal.returns-then-day-lt1
returns-then-day-lt1 c = let a = c.args in
    date-not (on a.year a.month a.day) (λ x. omega (arith, x.date.day-from))

pub overflow_sub-result : goal.overflow_sub-result
overflow_sub-result c = let a = c.args in
    in_order a.year a.month c.leap-l.ensures c.month_start-2.ensures c.month_start.ensures

pub returns : goal.returns
returns c = let a = c.args in
    date-by-day a.year a.month c.leap-l.ensures c.month_start-2.ensures c.month_start.ensures a.day c.if-year-lt-FIRST_YEAR.false
    c.if-year-gt-LAST_YEAR.false c.if-month-lt1.false c.if-month.false c.if-day-lt1.false
