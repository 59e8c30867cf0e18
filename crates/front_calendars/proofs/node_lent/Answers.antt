-- `front_calendars::node_lent` meets its contract.
use lib.ListN.{length}
use Rattle.spec_hours.specs.CalendarBytes.{calendars_of}
use Rattle.front_calendars.proofs.Exits.{lent-open, lent_other}
use Rattle.front_calendars.proofs.node_lent.Goals as goal

pub returns-then-kind-eq-KIND_OPEN : goal.returns-then-kind-eq-KIND_OPEN
returns-then-kind-eq-KIND_OPEN c = let s = c.args in
    lent-open (length (calendars_of s.calendars.now)) s.s.now s.i c.node_word-w.ensures c.kind.ensures c.if-kind-eq-KIND_OPEN.true
    c.arg.ensures c.is_lent.ensures

pub returns : goal.returns
returns c = let s = c.args in
    lent_other (length (calendars_of s.calendars.now)) s.s.now s.i c.node_word-w.ensures c.kind.ensures c.if-kind-eq-KIND_OPEN.false
