-- `base_windows::keep_one`: the windows of the calendar's content, and none where it is not lent.
use Rattle.base_calendars.proofs.Finding.{found}
use Rattle.base_windows.proofs.Exits.{keep-found, keep-missing}
use Rattle.base_windows.proofs.keep_one.Goals as goal

pub slice_bounds-lay-count : goal.slice_bounds-lay-count
slice_bounds-lay-count c = (found c.find.ensures c.in-Some.is).order

pub slice_bounds-lay-start : goal.slice_bounds-lay-start
slice_bounds-lay-start c = (found c.find.ensures c.in-Some.is).order

pub slice_bounds-lay-end : goal.slice_bounds-lay-end
slice_bounds-lay-end c = (found c.find.ensures c.in-Some.is).within

pub returns-in-Some : goal.returns-in-Some
returns-in-Some c = keep-found c.find.ensures c.args.s.now c.in-Some.is c.lay.ensures

pub returns-in-None : goal.returns-in-None
returns-in-None c = keep-missing c.find.ensures c.args.s.now c.in-None.is c.store.ensures
