-- `base_logs::time`: four bytes counted from -2^31 on. Assumes nothing.
use native.Mathlib.Omega.{arith}
use Rattle.base_logs.proofs.Times.{time-is}
use Rattle.base_logs.proofs.time.Goals as goal

pub returns : goal.returns
returns c = (time-is c.args.x (omega arith), omega arith)
