-- `front_emit::table` meets its contract, by TermCalls, WriterExits.
use Rattle.front_emit.specs.WriterStart.{collections}
use Rattle.front_emit.proofs.WriterExits.{closes-arg, table_done}
use Rattle.front_emit.proofs.table.Goals as goal

pub returns : goal.returns
returns c = table_done (collections c.args.s.now c.args.k) c.args.k c.below.ensures c.generator-q.ensures c.leaf-r.ensures (closes-arg c.collection_number-c.ensures.0 c.close.ensures)
