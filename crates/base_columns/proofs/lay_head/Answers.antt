-- `base_columns::lay_head` reads columns and rows off the content. Assumes nothing.
use Rattle.base_columns.proofs.TurnedRecords.{head-asks, head-laid}
use Rattle.base_columns.proofs.lay_head.Goals as goal

pub put_head-requires : goal.put_head-requires
put_head-requires c = head-asks c.args.l.now c.args.d.now c.requires c.byte_at-columns.ensures.0

pub returns : goal.returns
returns c = head-laid c.args.l.now c.args.d.now c.requires c.byte_at-columns.ensures.0 c.two_at-rows.ensures.0 c.put_head.ensures
