-- `base_hours::first_from`: the first minute of all windows, where the years are not over.
use mathlib.Core.Path.{ap, ◌∙◌}
use mir.Facts.{to_z-of_z}
use Rattle.spec_calendar.specs.Hours.{not_before}
use Rattle.spec_hours.specs.CalendarBytes.{windows_of}
use Rattle.base_hours.proofs.Minutes.{first-minute, years-over}
use Rattle.base_hours.proofs.first_from.Goals as goal

pub returns-then-f-lt-MINUTES : goal.returns-then-f-lt-MINUTES
returns-then-f-lt-MINUTES c = first-minute (windows_of c.args.c.now) c.args.minute (c.not_before-f.ensures ∙ ap not_before (to_z-of_z c.ranges.minute)) c.first_in.ensures

pub returns : goal.returns
returns c = years-over (windows_of c.args.c.now) c.args.minute (c.not_before-f.ensures ∙ ap not_before (to_z-of_z c.ranges.minute)) c.if-f-lt-MINUTES.false
