use lib.ListN.{length}
use Rattle.spec_hours.specs.CalendarBytes.{calendars_of}
use Rattle.front_calendars.proofs.Exits.{Passing}
use Rattle.front_calendars.proofs.calendars_lent.Given as goal

abbrev pub invariant-loop-i : goal.invariant-loop-i
invariant-loop-i l = Passing (length (calendars_of l.calendars)) l.s l.n l.i
