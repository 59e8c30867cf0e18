-- `plan_lines::operator_name` meets its contract, by Exits.
use Rattle.spec_plan.specs.Lines.{ascii}
use Rattle.plan_lines.proofs.Exits.{name-choice, name-open}
use borrow.Author.Rules.{rules}
use Rattle.plan_lines.proofs.operator_name.Goals as goal

pub returns-in-Choice : goal.returns-in-Choice
unfolding ascii
returns-in-Choice c = name-choice c.in-Choice.is c.say.ensures

pub returns-in-Open : goal.returns-in-Open
unfolding ascii
returns-in-Open c = name-open c.in-Open.is c.say-q.ensures c.decimal.ensures
