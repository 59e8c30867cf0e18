-- `front_end::front_end` meets its contract, by Exits.
use Rattle.spec_calculus.proofs.Truths.{not-true, not-false}
use Rattle.base_refusals.specs.Numbers.{outcome_number}
use Rattle.front_parser.proofs.LeafRecords.{passed_on}
use Rattle.front_end.proofs.Exits.{data-wrong, calendars-wrong-before, question-few, question-wrong, question-right}
use mathlib.Core.Path.{ap}
use mathlib.Core.Bool.{not}
use Rattle.front_end.proofs.front_end.Goals as goal

pub returns-in_err-read_data : goal.returns-in_err-read_data
returns-in_err-read_data c = rw (passed_on _ c.from_residual.ensures.1) (data-wrong c.read_data.ensures (ap outcome_number c.in_err-read_data.was))

pub returns-then-not-x : goal.returns-then-not-x
returns-then-not-x c = calendars-wrong-before c.read_data.ensures (ap outcome_number c.in_ok-read_data.was) c.calendars_fit-x.ensures (not-true c.calendars_fit-x.result (ap not c.if-not-x.true))

pub judged-requires : goal.judged-requires
judged-requires c = question-few c.read_question.ensures c.in_ok-n.was

pub returns-in_err-n : goal.returns-in_err-n
returns-in_err-n c =
    rw (passed_on _ c.from_residual-in_err-n.ensures.1)
    (question-wrong c.read_data.ensures (ap outcome_number c.in_ok-read_data.was) _ c.calendars_fit-x.ensures (not-false c.calendars_fit-x.result (ap not c.if-not-x.false)) c.read_question.ensures c.in_err-n.was)

pub returns : goal.returns
returns c =
    question-right c.read_data.ensures (ap outcome_number c.in_ok-read_data.was) _ c.calendars_fit-x.ensures (not-false c.calendars_fit-x.result (ap not c.if-not-x.false)) c.read_question.ensures c.requires c.in_ok-n.was
    c.judged.ensures
