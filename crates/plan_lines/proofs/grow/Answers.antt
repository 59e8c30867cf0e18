-- `plan_lines::grow` meets its contract, by Exits.
use Rattle.plan_lines.proofs.Exits.{grow-is}
use borrow.Author.Rules.{rules}
use Rattle.plan_lines.proofs.grow.Goals as goal

pub returns : goal.returns
returns c = grow-is c.args.s.now c.args.c c.args.m c.args.inner c.grower_name-q.ensures c.decimal-r.ensures c.rest.ensures
