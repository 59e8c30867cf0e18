-- `plan_lines::nest` meets its contract, by Exits.
use native.Mathlib.Omega.{arith}
use Rattle.spec_plan.specs.Lines.{ascii}
use Rattle.plan_lines.proofs.Exits.{nest-is}
use borrow.Author.Rules.{rules}
use Rattle.plan_lines.proofs.nest.Goals as goal

pub overflow_add-i : goal.overflow_add-i
unfolding ascii
overflow_add-i c = omega (arith, c.requires)

pub returns : goal.returns
unfolding ascii
returns c = nest-is c.args.s.now c.args.i c.args.m c.requires c.mark.ensures c.before-2.ensures c.say-q.ensures c.decimal-r.ensures c.put-t.ensures c.last.ensures
