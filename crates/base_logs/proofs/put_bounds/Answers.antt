-- `base_logs::put_bounds`: the bounds that are left. Assumes nothing.
use Rattle.base_logs.proofs.Laying.{bounding-first, bounding-next, bounding-done}
use Rattle.base_logs.proofs.put_bounds.Goals as goal

pub loop-i-init : goal.loop-i-init
loop-i-init c = bounding-first c.args.d.now c.args.p c.args.w

pub loop-i-preserved : goal.loop-i-preserved
loop-i-preserved c = bounding-next c.loop-i.invariant c.loop-i-test.true c.put.ensures

pub returns : goal.returns
returns c = bounding-done c.loop-i.invariant c.loop-i-test.false
