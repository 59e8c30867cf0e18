-- `base_dates::month_start`: the table of a plain year, a day later from March on in a leap year.
use native.Mathlib.Omega.{arith}
use Rattle.base_dates.proofs.Tables.{month_starts, starts-most, start-later, start-early, start_plain}
use Rattle.base_dates.proofs.month_start.Goals as goal

pub overflow_add-result : goal.overflow_add-result
unfolding month_starts
overflow_add-result c = omega (arith, starts-most c.args.k c.requires)

pub returns-then-k-gt1 : goal.returns-then-k-gt1
unfolding month_starts
returns-then-k-gt1 c = start-later c.args.k c.requires c.if-k-gt1.true c.if-leap.true

pub returns-else-k-gt1 : goal.returns-else-k-gt1
unfolding month_starts
returns-else-k-gt1 c = start-early c.args.k c.requires c.if-k-gt1.false c.if-leap.true

pub returns-else-leap : goal.returns-else-leap
unfolding month_starts
returns-else-leap c = start_plain c.args.k c.requires c.if-leap.false
