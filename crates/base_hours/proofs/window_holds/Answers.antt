-- `base_hours::window_holds`: the weekday, then the first minute, then the end.
use Rattle.base_calendars.specs.Contract.{window_in}
use Rattle.base_hours.proofs.Windows.{other-weekday, not_yet, by_end}
use Rattle.base_hours.proofs.window_holds.Goals as goal

pub returns-then-x-w : goal.returns-then-x-w
returns-then-x-w c = other-weekday (window_in c.args.x) c.args.w c.args.m c.if-x-w.true

pub returns-then-m-x : goal.returns-then-m-x
returns-then-m-x c = not_yet (window_in c.args.x) c.args.w c.args.m c.if-x-w.false c.if-m-x.true

pub returns : goal.returns
returns c = by_end (window_in c.args.x) c.args.w c.args.m c.if-x-w.false c.if-m-x.false
