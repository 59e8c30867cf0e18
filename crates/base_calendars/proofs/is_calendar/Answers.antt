-- `base_calendars::is_calendar`: a header, as many bytes behind it as it says, and kind 24.
use Rattle.base_calendars.proofs.Records.{short, cut, by_kind}
use Rattle.base_calendars.proofs.is_calendar.Goals as goal

pub returns-then-s-lt-HEADER : goal.returns-then-s-lt-HEADER
returns-then-s-lt-HEADER c = short c.args.s.now c.if-s-lt-HEADER.true

pub returns-then-s-two_at : goal.returns-then-s-two_at
returns-then-s-two_at c = cut c.args.s.now c.if-s-lt-HEADER.false c.two_at.ensures.0 c.if-s-two_at.true

pub returns : goal.returns
returns c = by_kind c.args.s.now c.if-s-lt-HEADER.false c.two_at.ensures.0 c.if-s-two_at.false c.two_at-2.ensures.0
