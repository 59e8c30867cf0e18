-- `base_dates::number_of`: the three parts of the sum.
use native.Mathlib.Omega.{arith}
use Rattle.base_dates.proofs.Exits.{day-small, sum-small, sum_is}
use Rattle.base_dates.proofs.number_of.Goals as goal

pub overflow_sub-month : goal.overflow_sub-month
overflow_sub-month c = c.requires.date.month-from

pub month_start-start-requires : goal.month_start-start-requires
month_start-start-requires c = omega (arith, c.requires.date.month-to)

pub overflow_sub-year : goal.overflow_sub-year
overflow_sub-year c = c.requires.from

pub first_day-requires : goal.first_day-requires
first_day-requires c = omega (arith, c.requires.to)

pub overflow_add-result : goal.overflow_add-result
overflow_add-result c = omega (arith, day-small c.requires c.leap.ensures c.month_start-start.ensures)

pub overflow_add-result-2 : goal.overflow_add-result-2
overflow_add-result-2 c = omega (arith, sum-small c.requires c.leap.ensures c.month_start-start.ensures c.first_day.ensures)

pub returns : goal.returns
returns c = sum_is c.requires c.leap.ensures c.month_start-start.ensures c.first_day.ensures
