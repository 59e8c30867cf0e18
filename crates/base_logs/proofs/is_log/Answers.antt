-- `base_logs::is_log`: no table, no list, or by its times. Assumes nothing.
use Rattle.base_logs.proofs.Times.{log-absent, log-other, log-list}
use Rattle.base_logs.proofs.is_log.Goals as goal

pub returns-then-columns-eq0 : goal.returns-then-columns-eq0
returns-then-columns-eq0 c = log-absent c.args.data.now c.args.w c.columns.ensures c.if-columns-eq0.true

pub returns-then-collection-ne-LIST : goal.returns-then-collection-ne-LIST
returns-then-collection-ne-LIST c = log-other c.args.data.now c.args.w c.columns.ensures c.if-columns-eq0.false c.collection.ensures c.if-collection-ne-LIST.true

pub returns : goal.returns
returns c = log-list c.args.data.now c.args.w c.columns.ensures c.if-columns-eq0.false c.collection.ensures c.if-collection-ne-LIST.false c.never_falls.ensures
