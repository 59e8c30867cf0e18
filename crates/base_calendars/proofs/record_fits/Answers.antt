-- `base_calendars::record_fits`: a whole record of kind 24, and then its content.
use Rattle.base_calendars.proofs.Records.{end-within, by-content, no_record}
use Rattle.base_calendars.proofs.record_fits.Goals as goal

pub slice_bounds-content_fits-end : goal.slice_bounds-content_fits-end
slice_bounds-content_fits-end c = end-within c.args.s.now c.is_calendar.ensures c.if-is_calendar.true c.two_at-end.ensures.0

pub returns-then-is_calendar : goal.returns-then-is_calendar
returns-then-is_calendar c = by-content c.args.s.now c.is_calendar.ensures c.if-is_calendar.true c.two_at-end.ensures.0 c.content_fits.ensures

pub returns : goal.returns
returns c = no_record c.args.s.now c.is_calendar.ensures c.if-is_calendar.false
