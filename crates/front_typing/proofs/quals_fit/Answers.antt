-- `front_typing::quals_fit` meets its contract, by Exits.
use Rattle.front_typing.proofs.Exits.{quals-begin, quals-on, quals-off, quals-end}
use borrow.Author.Tests.{not-true, not-false}
use mathlib.Core.Path.{ap}
use mathlib.Core.Bool.{not}
use Rattle.front_typing.proofs.quals_fit.Goals as goal

pub loop-e-init : goal.loop-e-init
loop-e-init c = quals-begin c.prior.ensures c.start_at-e.ensures.0

pub returns-then-not-qual_fits : goal.returns-then-not-qual_fits
returns-then-not-qual_fits c = quals-off c.loop-e.invariant c.start_at-first.ensures.0 c.loop-e-test.true c.qual_fits.ensures (not-true c.qual_fits.result (ap not c.if-not-qual_fits.true))

pub loop-e-preserved : goal.loop-e-preserved
loop-e-preserved c = quals-on c.loop-e.invariant c.start_at-first.ensures.0 c.loop-e-test.true c.qual_fits.ensures (not-false c.qual_fits.result (ap not c.if-not-qual_fits.false)) c.start_at-e-in-loop-e.ensures.0

pub returns : goal.returns
returns c = quals-end c.loop-e.invariant c.start_at-first.ensures.0 c.loop-e-test.false
