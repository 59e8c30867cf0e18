-- `form_words::branch` meets its contract, by Operands.
use Rattle.form_words.proofs.Operands.{branch-other, branch-first}
use Rattle.form_words.proofs.branch.Goals as goal

pub returns-then-other : goal.returns-then-other
returns-then-other c = branch-other c.args.s.now c.args.i c.args.e c.next-j.ensures c.if-other.true c.next.ensures c.upto.ensures

pub returns-else-other : goal.returns-else-other
returns-else-other c = branch-first c.args.s.now c.args.i c.args.e c.next-j.ensures c.if-other.false c.upto-else-other.ensures
