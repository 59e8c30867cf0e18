-- `plan_lines::all_lines` meets its contract, by Exits.
use native.Mathlib.Omega.{arith}
use Rattle.spec_plan.specs.Lines.{ascii}
use Rattle.plan_lines.proofs.Exits.{all-is}
use borrow.Author.Rules.{rules}
use Rattle.plan_lines.proofs.all_lines.Goals as goal

pub returns : goal.returns
unfolding ascii
returns c = all-is c.args.s.now c.say-p.ensures c.own-q.ensures c.inside-r.ensures c.say-t.ensures c.outermost.ensures c.last.ensures
