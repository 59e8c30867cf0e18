use Rattle.spec_hours.specs.CalendarBytes.{windows_of}
use Rattle.base_hours.proofs.Windows.{Rest}
use Rattle.base_hours.proofs.Exits.{left_from}
use Rattle.base_hours.proofs.first_in.Given as goal

abbrev pub invariant-loop-k : goal.invariant-loop-k
invariant-loop-k l = Rest (windows_of l.c) (left_from l.c l.n l.k) l.f l.r
