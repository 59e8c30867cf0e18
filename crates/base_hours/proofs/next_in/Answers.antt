-- `base_hours::next_in`: the next window of the weekday, the one that has begun, or that of a week on.
use Rattle.base_calendars.specs.Contract.{window_in}
use Rattle.base_hours.proofs.Windows.{no-weekday, no-minute, no-first, at-start, at_once, a-week-on}
use Rattle.base_hours.proofs.next_in.Goals as goal

pub returns-then-x-gt6 : goal.returns-then-x-gt6
returns-then-x-gt6 c = no-weekday (window_in c.args.x) c.requires c.if-x-gt6.true

pub returns-then-x : goal.returns-then-x
returns-then-x c = no-minute (window_in c.args.x) c.requires c.if-x.true

pub returns-then-x-ge-DAY_MINUTES : goal.returns-then-x-ge-DAY_MINUTES
returns-then-x-ge-DAY_MINUTES c = no-first (window_in c.args.x) c.requires c.if-x-ge-DAY_MINUTES.true

pub returns-then-f-start : goal.returns-then-f-start
returns-then-f-start c = at-start (window_in c.args.x) c.requires c.if-x-gt6.false c.if-x.false c.if-x-ge-DAY_MINUTES.false c.weekday.ensures c.if-f-start.true

pub returns-then-f-x : goal.returns-then-f-x
returns-then-f-x c = at_once (window_in c.args.x) c.requires c.if-x-gt6.false c.if-x.false c.if-x-ge-DAY_MINUTES.false c.weekday.ensures c.if-f-start.false
    c.if-f-x.true

pub returns : goal.returns
returns c = a-week-on (window_in c.args.x) c.requires c.if-x-gt6.false c.if-x.false c.if-x-ge-DAY_MINUTES.false c.weekday.ensures c.if-f-start.false
    c.if-f-x.false
