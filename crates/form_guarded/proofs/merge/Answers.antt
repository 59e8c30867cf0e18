-- `form_guarded::merge` meets its contract: what passes the test leaves room.
use Rattle.form_guarded.proofs.Exits.{merge-ready}
use Rattle.form_guarded.proofs.merge.Goals as goal

pub merge-requires : goal.merge-requires
merge-requires c = merge-ready c.ranges.a c.ranges.b c.magnitude.ensures c.magnitude-2.ensures c.args.m c.mergeable.ensures c.if-mergeable.true
