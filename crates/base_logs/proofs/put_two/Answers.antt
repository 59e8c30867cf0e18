-- `base_logs::put_two`: two bytes, one behind the other. Assumes nothing.
use Rattle.base_logs.proofs.Laying.{two_is}
use Rattle.base_logs.proofs.put_two.Goals as goal

pub returns : goal.returns
returns c = two_is c.args.d.now c.args.i c.args.w c.low.ensures c.low-2.ensures
