-- `base_dates::date_of`: the year, the month of the year and the day of the month that have the day number, or 41.
use native.Mathlib.Omega.{arith}
use Prim.Native.Nat.{◌-◌}
use Rattle.base_dates.proofs.Exits.{date-refused, within-year, date-given}
use Rattle.base_dates.proofs.date_of.Goals as goal

pub returns-then-n-ge-DAYS : goal.returns-then-n-ge-DAYS
returns-then-n-ge-DAYS c = date-refused c.args.n c.if-n-ge-DAYS.true c.number.ensures

pub month_of-m-requires : goal.month_of-m-requires
month_of-m-requires c = within-year c.args.n c.year_of-k.ensures c.leap-l.ensures (omega (arith, c.first_day.ensures))

pub returns : goal.returns
returns c = let n = c.args.n in
    let f = c.first_day in
    date-given n {r = n - f.result} c.year_of-k.ensures c.leap-l.ensures (omega (arith, f.ensures)) c.month_of-m.ensures
    c.month_start.ensures (omega (arith, c.if-n-ge-DAYS.false))
