-- `front_parser::value::leaf` meets its contract, by LeafRecords.
use Rattle.front_parser.proofs.LeafRecords.{passed_on, absent, present, leaf-broken, leaf-read}
use Rattle.front_parser.proofs.value.leaf.Goals as goal

pub returns-in_err-a : goal.returns-in_err-a
returns-in_err-a c = let n = absent _ c.ok_or.ensures.value c.in_err-a.was in rw (passed_on _ c.from_residual.ensures.1, n.1) (leaf-broken c.argument.ensures n.0)

pub returns : goal.returns
returns c = leaf-read c.argument.ensures (present _ c.ok_or.ensures.value c.in_ok-a.was) c.finish.ensures
