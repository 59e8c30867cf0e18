-- `plan_lines::condition` meets its contract, by Exits.
use Rattle.spec_plan.specs.Lines.{ascii}
use Rattle.plan_lines.proofs.Exits.{condition-later, condition-first}
use borrow.Author.Rules.{rules}
use Rattle.plan_lines.proofs.condition.Goals as goal

pub returns-then-later : goal.returns-then-later
unfolding ascii
returns-then-later c = condition-later c.args.s.now c.args.i c.if-later.true c.put-q.ensures c.term-r.ensures c.put.ensures

pub returns : goal.returns
unfolding ascii
returns c = condition-first c.args.s.now c.args.i c.if-later.false c.term.ensures
