-- `engine::dislogha_round`: 49, or the seats two by two.
use Rattle.engine.proofs.RotaCalls.{round-refused, round-served}
use borrow.Author.Rules.{rules}
use mathlib.Core.Path.{ap}
use mathlib.Core.Bool.{not}
use Rattle.engine.proofs.dislogha_round.Goals as goal

pub returns-then-not-fits : goal.returns-then-not-fits
returns-then-not-fits c = round-refused c.rota_fits-fits.ensures c.number.ensures (ap not c.if-not-fits.true) c.idle-nothing.ensures

pub returns : goal.returns
returns c = round-served c.rota_fits-fits.ensures (ap not c.if-not-fits.false) c.two_seats-a.ensures c.two_seats-b.ensures
