-- `front_nodes::child` meets its contract, by ReaderExits.
use Rattle.front_nodes.proofs.ReaderExits.{count-is, child-first, child-past, walk-begins, walk-on, child-at}
use Rattle.front_nodes.proofs.child.Goals as goal

pub returns-then-i-eq0 : goal.returns-then-i-eq0
returns-then-i-eq0 c = child-first c.if-i-eq0.true

pub returns-then-n-k : goal.returns-then-n-k
returns-then-n-k c = child-past (count-is c.args.s.now c.args.i c.node_word.ensures c.term_count-n.ensures) c.if-n-k.true

pub loop-init : goal.loop-init
loop-init c = walk-begins

pub loop-preserved : goal.loop-preserved
loop-preserved c = walk-on c.loop.invariant c.loop-test.true c.prior.ensures c.start_at-e.ensures.0

pub returns : goal.returns
returns c = child-at c.if-i-eq0.false (count-is c.args.s.now c.args.i c.node_word.ensures c.term_count-n.ensures) c.if-n-k.false c.loop.invariant c.loop-test.false c.prior-2.ensures
