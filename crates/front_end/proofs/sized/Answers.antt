-- `front_end::sized` meets its contract, by Exits.
use Rattle.front_end.proofs.Exits.{too_large, small-enough}
use Rattle.front_end.proofs.sized.Goals as goal

pub returns-then-z : goal.returns-then-z
returns-then-z c = too_large c.measure.ensures c.requires c.size-z.ensures c.if-z.true

pub returns : goal.returns
returns c = small-enough c.measure.ensures c.requires c.size-z.ensures c.if-z.false
