-- `base_hours::first_in`: the least minute of the windows before the loop's, and what the others have left.
use native.Mathlib.Omega.{arith}
use Rattle.base_hours.proofs.Exits.{least_start, least-next, least-ends}
use Rattle.base_hours.proofs.first_in.Goals as goal

pub loop-k-init : goal.loop-k-init
loop-k-init c = least_start c.args.c.now c.window_count-n.ensures.0 c.requires

pub read_window-requires : goal.read_window-requires
read_window-requires c = omega (arith, c.loop-k-test.true, c.window_count-n.ensures.1)

pub loop-k-preserved : goal.loop-k-preserved
loop-k-preserved c = least-next c.args.c.now c.window_count-n.result c.loop-k.k c.args.f c.loop-k.r c.loop-k.invariant c.loop-k-test.true c.read_window.ensures c.next_in.ensures c.min-r.ensures

pub returns : goal.returns
returns c = least-ends c.args.c.now c.window_count-n.result c.loop-k.k c.args.f c.loop-k.r c.loop-k.invariant c.loop-k-test.false
