-- `front_end::judged` meets its contract, by Exits.
use Rattle.spec_calculus.proofs.Truths.{not-true, not-false}
use Rattle.front_end.proofs.Exits.{names-wrong, names-right}
use mathlib.Core.Path.{ap}
use mathlib.Core.Bool.{not}
use Rattle.front_end.proofs.judged.Goals as goal

pub returns-then-not-a : goal.returns-then-not-a
returns-then-not-a c = names-wrong c.names_hold-a.ensures (not-true c.names_hold-a.result (ap not c.if-not-a.true))

pub returns : goal.returns
returns c = names-right c.names_hold-a.ensures (not-false c.names_hold-a.result (ap not c.if-not-a.false)) c.binders.ensures c.typed.ensures
