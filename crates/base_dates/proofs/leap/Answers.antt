-- `base_dates::leap`: the Gregorian rule, by its three tests.
use Rattle.base_dates.proofs.Exits.{leap-not, leap-plain, leap-century}
use Rattle.base_dates.proofs.leap.Goals as goal

pub returns-then-y-ne0 : goal.returns-then-y-ne0
returns-then-y-ne0 c = leap-not c.args.y c.if-y-ne0.true

pub returns-then-y-ne0-2 : goal.returns-then-y-ne0-2
returns-then-y-ne0-2 c = leap-plain c.args.y c.if-y-ne0.false c.if-y-ne0-2.true

pub returns : goal.returns
returns c = leap-century c.args.y c.if-y-ne0.false c.if-y-ne0-2.false
