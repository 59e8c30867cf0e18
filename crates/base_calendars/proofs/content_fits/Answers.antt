-- `base_calendars::content_fits`: not too many windows, as many bytes as they take, and each of them.
use Rattle.base_calendars.proofs.Windows.{many-windows, other_length, by-windows}
use Rattle.base_calendars.proofs.content_fits.Goals as goal

pub returns-then-n-gt-MOST_WINDOWS : goal.returns-then-n-gt-MOST_WINDOWS
returns-then-n-gt-MOST_WINDOWS c = many-windows c.args.c.now c.window_count-n.ensures.0 c.if-n-gt-MOST_WINDOWS.true

pub returns-then-c-n : goal.returns-then-c-n
returns-then-c-n c = other_length c.args.c.now c.window_count-n.ensures.0 c.if-n-gt-MOST_WINDOWS.false c.if-c-n.true

pub returns : goal.returns
returns c = by-windows c.args.c.now c.window_count-n.ensures.0 c.if-n-gt-MOST_WINDOWS.false c.if-c-n.false c.windows_fit.ensures
