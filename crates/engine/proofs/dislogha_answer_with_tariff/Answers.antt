-- `engine::dislogha_answer_with_tariff` meets its contract, by TariffCalls.
use borrow.Author.Tests.{not-true, not-false}
use Rattle.spec_outcome.specs.Acceptance.{lent_as}
use Rattle.engine.proofs.TariffCalls.{tariff-scant, tariff-refused, dues-refused, dues-asked, dues-room, dues-given}
use borrow.Author.Rules.{rules}
use mathlib.Core.Path.{ap}
use mathlib.Core.Bool.{not}
use Rattle.engine.proofs.dislogha_answer_with_tariff.Goals as goal

pub returns-then-scratch-lt-WORDS : goal.returns-then-scratch-lt-WORDS
returns-then-scratch-lt-WORDS c = tariff-scant c.args.tariff.now c.args.tables.now (lent_as c.args.calendars.now c.args.question.now) c.args.scratch.now
    c.args.answer.now c.if-scratch-lt-WORDS.true c.from.ensures.0 c.from.ensures.1

pub conclude-requires : goal.conclude-requires
conclude-requires c = c.if-scratch-lt-WORDS.false

pub returns-then-not-fits : goal.returns-then-not-fits
returns-then-not-fits c = tariff-refused c.args.tariff.now c.args.tables.now (lent_as c.args.calendars.now c.args.question.now)
    c.args.scratch.now c.args.answer.now c.tariff_fits-fits.ensures c.if-scratch-lt-WORDS.false (not-true c.tariff_fits-fits.result (ap not c.if-not-fits.true))
    c.conclude.ensures

pub answer-outcome-requires : goal.answer-outcome-requires
answer-outcome-requires c = dues-asked c.args.tariff.now c.args.tables.now (lent_as c.args.calendars.now c.args.question.now) c.args.scratch.now
    c.args.answer.now c.tariff_fits-fits.ensures (not-false c.tariff_fits-fits.result (ap not c.if-not-fits.false)) c.admit.ensures c.in-Ok.is

pub conclude-requires-in-Ok : goal.conclude-requires-in-Ok
conclude-requires-in-Ok c = dues-room c.args.tariff.now c.args.tables.now (lent_as c.args.calendars.now c.args.question.now) c.args.scratch.now
    c.args.answer.now c.tariff_fits-fits.ensures (not-false c.tariff_fits-fits.result (ap not c.if-not-fits.false)) c.admit.ensures c.in-Ok.is c.answer-outcome.ensures

pub returns-in-Err : goal.returns-in-Err
returns-in-Err c = dues-refused c.args.tariff.now c.args.tables.now (lent_as c.args.calendars.now c.args.question.now) c.args.scratch.now
    c.args.answer.now c.tariff_fits-fits.ensures (not-false c.tariff_fits-fits.result (ap not c.if-not-fits.false)) c.admit.ensures c.in-Err.is

pub returns-in-Ok : goal.returns-in-Ok
returns-in-Ok c = dues-given c.args.tariff.now c.args.tables.now (lent_as c.args.calendars.now c.args.question.now) c.args.scratch.now
    c.args.answer.now c.tariff_fits-fits.ensures (not-false c.tariff_fits-fits.result (ap not c.if-not-fits.false)) c.admit.ensures c.in-Ok.is c.answer-outcome.ensures c.conclude-in-Ok.ensures
