-- `base_logs::next_move`: each way out is `rows_move`'s. Assumes nothing.
use Rattle.base_logs.proofs.Moves.{first-over, second-over, both_left}
use Rattle.base_logs.proofs.next_move.Goals as goal

pub returns-then-m-r : goal.returns-then-m-r
returns-then-m-r c = first-over c.args.t c.args.m c.args.n c.args.r c.if-m-r.true

pub returns-then-n-r : goal.returns-then-n-r
returns-then-n-r c = second-over c.args.t c.args.m c.args.n c.args.r c.if-m-r.false c.if-n-r.true

pub returns : goal.returns
returns c = both_left c.args.t c.args.m c.args.n c.args.r c.if-m-r.false c.if-n-r.false c.by_times.ensures
