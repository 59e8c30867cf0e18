-- `base_logs::by_times`: each way out is `times_move`'s. Assumes nothing.
use Rattle.base_logs.proofs.Moves.{move-first, move-second, move-pair}
use Rattle.base_logs.proofs.by_times.Goals as goal

pub returns-then-a-t : goal.returns-then-a-t
returns-then-a-t c = move-first c.args.t c.args.x c.args.y c.time-a.ensures.0 c.time-b.ensures.0 c.if-a-t.true

pub returns-then-b-t : goal.returns-then-b-t
returns-then-b-t c = move-second c.args.t c.args.x c.args.y c.time-a.ensures.0 c.time-b.ensures.0 c.if-b-t.true

pub returns : goal.returns
returns c = move-pair c.args.t c.args.x c.args.y c.time-a.ensures.0 c.time-b.ensures.0 c.if-a-t.false c.if-b-t.false
