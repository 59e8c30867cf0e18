-- `base_windows::keep`: the four calendars one after another.
use Rattle.spec_calendar.specs.Hours.{calendar_of}
use Rattle.spec_hours.specs.CalendarBytes.{calendars_of}
use Rattle.base_windows.proofs.Exits.{all-kept}
use Rattle.base_windows.proofs.keep.Goals as goal

pub returns : goal.returns
returns c = all-kept (calendar_of (calendars_of c.args.calendars.now)) c.args.s.now c.keep_one.ensures c.keep_one-2.ensures c.keep_one-3.ensures c.keep_one-4.ensures
