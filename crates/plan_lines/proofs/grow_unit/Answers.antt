-- `plan_lines::grow_unit` meets its contract, by Exits.
use Rattle.spec_plan.specs.Lines.{ascii}
use Rattle.plan_lines.proofs.Exits.{unit-is}
use borrow.Author.Rules.{rules}
use Rattle.plan_lines.proofs.grow_unit.Goals as goal

pub returns : goal.returns
unfolding ascii
returns c = unit-is c.args.s.now c.args.c c.args.m c.args.inner c.grower_name-q.ensures c.say-r.ensures c.rest.ensures
