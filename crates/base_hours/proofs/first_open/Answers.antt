-- `base_hours::first_open`: 41, then 42, then the first open minute of the calendar's content, or none.
use Rattle.base_calendars.proofs.Finding.{found}
use Rattle.base_hours.proofs.Exits.{broken, not-lent, minute-found, minute-none}
use Rattle.base_hours.proofs.first_open.Goals as goal

pub returns-then-not-calendars_fit : goal.returns-then-not-calendars_fit
returns-then-not-calendars_fit c = broken c.args.calendars.now c.args.k c.args.minute c.calendars_fit.ensures c.if-not-calendars_fit.true c.number.ensures

pub returns-in_default : goal.returns-in_default
returns-in_default c = not-lent c.args.calendars.now c.args.k c.args.minute c.calendars_fit.ensures c.if-not-calendars_fit.false c.find.ensures
    c.in_default.is c.number-in_default.ensures

pub slice_bounds-first_from-count : goal.slice_bounds-first_from-count
slice_bounds-first_from-count c = (found c.find.ensures c.in-Some.is).order

pub slice_bounds-first_from-start : goal.slice_bounds-first_from-start
slice_bounds-first_from-start c = (found c.find.ensures c.in-Some.is).order

pub slice_bounds-first_from-end : goal.slice_bounds-first_from-end
slice_bounds-first_from-end c = (found c.find.ensures c.in-Some.is).within

pub returns-then-t-lt-MINUTES : goal.returns-then-t-lt-MINUTES
returns-then-t-lt-MINUTES c = minute-found c.args.calendars.now c.args.k c.args.minute c.calendars_fit.ensures c.if-not-calendars_fit.false c.find.ensures
    c.in-Some.is c.ranges.minute c.first_from-t.result c.first_from-t.ensures c.if-t-lt-MINUTES.true

pub returns : goal.returns
returns c = minute-none c.args.calendars.now c.args.k c.args.minute c.calendars_fit.ensures c.if-not-calendars_fit.false c.find.ensures
    c.in-Some.is c.ranges.minute c.first_from-t.result c.first_from-t.ensures c.if-t-lt-MINUTES.false
