-- `loop_outages::truths`: how many of the subsets before this one. Assumes nothing.
use Rattle.loop_outages.proofs.Exits.{counting-first, counting-again, counting-last}
use Rattle.loop_outages.proofs.truths.Goals as goal

pub loop-m-init : goal.loop-m-init
loop-m-init c = counting-first

pub loop-m-preserved : goal.loop-m-preserved
loop-m-preserved c = counting-again c.loop-m.invariant c.loop-m-test.true c.holds-t.ensures

pub returns : goal.returns
returns c = counting-last c.loop-m.invariant c.table-w.ensures c.requires c.loop-m-test.false
