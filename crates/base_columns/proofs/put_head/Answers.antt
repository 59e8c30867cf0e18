-- `base_columns::put_head`: the bytes so far are the record's; then the kind. Assumes nothing.
use Rattle.std.proofs.Common.{refl, arith}
use Rattle.base_columns.proofs.TurnedRecords.{copying-first, copying-next, head_done}
use Rattle.base_columns.proofs.put_head.Goals as goal

pub loop-j-preserved : goal.loop-j-preserved
loop-j-preserved c = copying-next c.loop-j.invariant (omega (arith, c.loop-j.invariant.long, c.loop-j-test.true, c.requires.2)) refl

pub returns : goal.returns
returns c = head_done c.args.kind c.loop-j.invariant (omega arith) c.loop-j-test.false c.requires.0 c.requires.2

pub loop-j-init : goal.loop-j-init
loop-j-init c = copying-first c.args.l.now c.args.d.now

pub shape_of-d : goal.shape_of-d
shape_of-d c = (head_done c.args.kind c.loop-j.invariant (omega arith) c.loop-j-test.false c.requires.0 c.requires.2).long
