-- `base_windows::open_at`: no minute before day 0, none behind the years, else the windows of its weekday.
use Rattle.base_hours.proofs.Minutes.{negative, counted, before-day-0, late-day, by-window}
use Rattle.base_windows.specs.KeptCalendars.{calendar_in}
use Rattle.base_windows.proofs.open_at.Goals as goal

pub returns-then-minute-lt-FIRST_MINUTE : goal.returns-then-minute-lt-FIRST_MINUTE
returns-then-minute-lt-FIRST_MINUTE c = before-day-0 (calendar_in c.args.s.now c.args.n) c.args.minute (negative c.ranges.minute c.if-minute-lt-FIRST_MINUTE.true)

pub returns-then-day-ge-DAYS : goal.returns-then-day-ge-DAYS
returns-then-day-ge-DAYS c = late-day (calendar_in c.args.s.now c.args.n) (counted c.ranges.minute c.if-minute-lt-FIRST_MINUTE.false c.magnitude-t.ensures) c.if-day-ge-DAYS.true

pub returns : goal.returns
returns c = by-window (calendar_in c.args.s.now c.args.n) (counted c.ranges.minute c.if-minute-lt-FIRST_MINUTE.false c.magnitude-t.ensures) c.if-day-ge-DAYS.false c.weekday.ensures c.in_window.ensures
