-- `base_calendars::window_fits`: weekday and minutes within their ranges, then the end after the first.
use Rattle.base_calendars.specs.Contract.{window_in}
use Rattle.base_calendars.proofs.Windows.{late-weekday, late-first, late-end, end-after-first}
use Rattle.base_calendars.proofs.window_fits.Goals as goal

pub returns-then-x-gt-LAST_WEEKDAY : goal.returns-then-x-gt-LAST_WEEKDAY
returns-then-x-gt-LAST_WEEKDAY c = late-weekday (window_in c.args.x) c.if-x-gt-LAST_WEEKDAY.true

pub returns-then-x-gt-DAY_MINUTES : goal.returns-then-x-gt-DAY_MINUTES
returns-then-x-gt-DAY_MINUTES c = late-first (window_in c.args.x) c.if-x-gt-LAST_WEEKDAY.false c.if-x-gt-DAY_MINUTES.true

pub returns-then-x-gt-DAY_MINUTES-2 : goal.returns-then-x-gt-DAY_MINUTES-2
returns-then-x-gt-DAY_MINUTES-2 c = late-end (window_in c.args.x) c.if-x-gt-LAST_WEEKDAY.false c.if-x-gt-DAY_MINUTES.false c.if-x-gt-DAY_MINUTES-2.true

pub returns : goal.returns
returns c = end-after-first (window_in c.args.x) c.if-x-gt-LAST_WEEKDAY.false c.if-x-gt-DAY_MINUTES.false c.if-x-gt-DAY_MINUTES-2.false
