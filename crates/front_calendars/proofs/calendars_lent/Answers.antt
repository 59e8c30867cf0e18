-- `front_calendars::calendars_lent`: the nodes from the loop's on decide.
use lib.ListN.{length}
use Rattle.spec_hours.specs.CalendarBytes.{calendars_of}
use Rattle.front_calendars.proofs.Exits.{pass-first, pass-stops, pass-again, pass-last}
use Rattle.front_calendars.proofs.calendars_lent.Goals as goal

pub loop-i-init : goal.loop-i-init
loop-i-init c = let a = c.args in pass-first (length (calendars_of a.calendars.now)) a.s.now a.n

pub returns-then-not-node_lent : goal.returns-then-not-node_lent
returns-then-not-node_lent c = let a = c.args in
    pass-stops (length (calendars_of a.calendars.now)) a.s.now a.n c.loop-i.invariant c.loop-i-test.true c.node_lent.ensures c.if-not-node_lent.true

pub loop-i-preserved : goal.loop-i-preserved
loop-i-preserved c = let a = c.args in
    pass-again (length (calendars_of a.calendars.now)) a.s.now a.n c.loop-i.invariant c.loop-i-test.true c.node_lent.ensures c.if-not-node_lent.false

pub returns : goal.returns
returns c = let a = c.args in pass-last (length (calendars_of a.calendars.now)) a.s.now a.n c.loop-i.invariant c.loop-i-test.false
