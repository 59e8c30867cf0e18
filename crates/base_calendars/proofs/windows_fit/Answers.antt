-- `base_calendars::windows_fit`: the windows from the loop's on decide.
use Rattle.base_calendars.proofs.Windows.{fit-start, fit-goes, fit-stops, fit-ends}
use Rattle.base_calendars.proofs.windows_fit.Goals as goal

pub loop-k-init : goal.loop-k-init
loop-k-init c = fit-start c.args.c.now c.args.n

pub loop-k-preserved : goal.loop-k-preserved
loop-k-preserved c = fit-goes c.args.c.now c.args.n c.loop-k.k c.loop-k.invariant c.loop-k-test.true c.read_window.ensures c.window_fits.ensures c.if-not-window_fits.false

pub returns-then-not-window_fits : goal.returns-then-not-window_fits
returns-then-not-window_fits c = fit-stops c.args.c.now c.args.n c.loop-k.k c.loop-k.invariant c.loop-k-test.true c.read_window.ensures c.window_fits.ensures c.if-not-window_fits.true

pub returns : goal.returns
returns c = fit-ends c.args.c.now c.args.n c.loop-k.k c.loop-k.invariant c.loop-k-test.false
