-- `plan_lines::cell` meets its contract, by Exits.
use Rattle.spec_plan.specs.Lines.{ascii}
use Rattle.plan_lines.proofs.Exits.{cell-is}
use borrow.Author.Rules.{rules}
use Rattle.plan_lines.proofs.cell.Goals as goal

pub returns : goal.returns
unfolding ascii
returns c = cell-is c.args.m c.say-q.ensures c.decimal-r.ensures c.put-t.ensures c.slot-u.ensures c.put.ensures
