-- `base_windows::lay`: what is left to be laid from the loop's window on comes to all of it.
use Rattle.base_windows.proofs.Exits.{lay-first, lay-again, lay-last}
use Rattle.base_windows.proofs.lay.Goals as goal

pub loop-k-init : goal.loop-k-init
loop-k-init c = lay-first _ _ _ c.window_count-n.ensures.0

pub loop-k-preserved : goal.loop-k-preserved
loop-k-preserved c = lay-again _ _ _ c.loop-k.invariant c.loop-k-test.true c.read_window.ensures c.pack.ensures c.store-in-loop-k.ensures

pub returns : goal.returns
returns c = lay-last _ _ _ c.args.s.now c.loop-k.invariant c.loop-k-test.false c.window_count-n.ensures.0 c.store.ensures
