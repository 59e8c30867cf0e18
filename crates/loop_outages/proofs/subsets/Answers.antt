-- `loop_outages::subsets`: a power of two. Assumes nothing.
use native.Mathlib.Omega.{arith}
use Rattle.loop_outages.proofs.Exits.{power-low}
use Rattle.loop_outages.proofs.subsets.Goals as goal

pub returns : goal.returns
returns c = let p = power-low c.args.n c.requires in (omega (arith, p), omega (arith, p))
