-- `loop_outages::countable`: the table is there, and has few rows. Assumes nothing.
use Rattle.loop_outages.proofs.Exits.{few-rows, no_table}
use Rattle.loop_outages.proofs.countable.Goals as goal

pub returns-then-present : goal.returns-then-present
returns-then-present c = few-rows c.args.s.now c.args.k c.present.ensures c.if-present.true c.table.ensures c.rows.ensures

pub returns : goal.returns
returns c = no_table c.args.s.now c.args.k c.present.ensures c.if-present.false
