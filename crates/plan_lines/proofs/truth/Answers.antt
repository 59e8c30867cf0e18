-- `plan_lines::truth` meets its contract, by Exits.
use Rattle.spec_plan.specs.Lines.{ascii, truth_name, show_term}
use Rattle.plan_lines.proofs.Exits.{truth-is}
use borrow.Author.Rules.{rules}
use Rattle.plan_lines.proofs.truth.Goals as goal

pub returns-then-b : goal.returns-then-b
unfolding ascii truth_name show_term
returns-then-b c = truth-is c.if-b.true c.say.ensures

pub returns-else-b : goal.returns-else-b
unfolding ascii truth_name show_term
returns-else-b c = truth-is c.if-b.false c.say-else-b.ensures
