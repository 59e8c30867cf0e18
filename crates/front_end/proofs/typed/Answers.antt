-- `front_end::typed` meets its contract, by Exits.
use Rattle.spec_calculus.proofs.Truths.{not-true, not-false}
use Rattle.front_end.proofs.Exits.{types-wrong, calendars-wrong, generators-wrong, both-fit}
use mathlib.Core.Path.{ap}
use mathlib.Core.Bool.{not}
use Rattle.front_end.proofs.typed.Goals as goal

pub returns-then-not-a : goal.returns-then-not-a
returns-then-not-a c = types-wrong c.types_fit-a.ensures c.requires (not-true c.types_fit-a.result (ap not c.if-not-a.true))

pub returns-then-not-v : goal.returns-then-not-v
returns-then-not-v c = calendars-wrong c.types_fit-a.ensures c.requires (not-false c.types_fit-a.result (ap not c.if-not-a.false)) _ c.calendars_lent-v.ensures (not-true c.calendars_lent-v.result (ap not c.if-not-v.true))

pub returns-then-not-b : goal.returns-then-not-b
returns-then-not-b c = generators-wrong c.types_fit-a.ensures c.requires (not-false c.types_fit-a.result (ap not c.if-not-a.false)) _ c.calendars_lent-v.ensures (not-false c.calendars_lent-v.result (ap not c.if-not-v.false)) c.generators_fit-b.ensures (not-true c.generators_fit-b.result (ap not c.if-not-b.true))

pub returns : goal.returns
returns c = both-fit c.types_fit-a.ensures c.requires (not-false c.types_fit-a.result (ap not c.if-not-a.false)) _ c.calendars_lent-v.ensures (not-false c.calendars_lent-v.result (ap not c.if-not-v.false)) c.generators_fit-b.ensures (not-false c.generators_fit-b.result (ap not c.if-not-b.false)) c.sized.ensures
