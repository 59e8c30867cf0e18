-- `plan_lines::rest` meets its contract, by Exits.
use Rattle.spec_plan.specs.Lines.{ascii}
use Rattle.plan_lines.proofs.Exits.{rest-is}
use borrow.Author.Rules.{rules}
use Rattle.plan_lines.proofs.rest.Goals as goal

pub returns : goal.returns
unfolding ascii
returns c = rest-is c.args.s.now c.args.i c.args.m c.put-q.ensures c.openings-r.ensures c.closings-t.ensures c.put.ensures
