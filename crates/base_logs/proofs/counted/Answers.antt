-- `base_logs::counted`: one more for a pair. Assumes nothing.
use Rattle.base_logs.proofs.Moves.{counted-pair, counted-first, counted-second}
use Rattle.base_logs.proofs.counted.Goals as goal

pub returns-in-Pair : goal.returns-in-Pair
returns-in-Pair c = counted-pair c.args.pairs c.in-Pair.is

pub returns-in-First : goal.returns-in-First
returns-in-First c = counted-first c.args.pairs c.in-First.is

pub returns-in-Second : goal.returns-in-Second
returns-in-Second c = counted-second c.args.pairs c.in-Second.is
