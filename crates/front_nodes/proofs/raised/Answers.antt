-- `front_nodes::raised` meets its contract, by ReaderExits.
use Rattle.front_nodes.proofs.ReaderExits.{raised-bad, raised-same}
use Rattle.front_nodes.proofs.raised.Goals as goal

pub returns-then-i-eq0 : goal.returns-then-i-eq0
returns-then-i-eq0 c = raised-bad c.if-i-eq0.true

pub returns : goal.returns
returns c = raised-same c.if-i-eq0.false
