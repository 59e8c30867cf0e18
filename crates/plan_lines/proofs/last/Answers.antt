-- `plan_lines::last` meets its contract, by Exits.
use Rattle.plan_lines.proofs.Exits.{last-is}
use borrow.Author.Rules.{rules}
use Rattle.plan_lines.proofs.last.Goals as goal

pub returns : goal.returns
returns c = last-is c.args.s.now c.args.c c.args.m c.monoid_name-q.ensures c.head-r.ensures c.rest.ensures
