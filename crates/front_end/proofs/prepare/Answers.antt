-- `front_end::prepare` meets its contract, by PrepareExits.
use Rattle.front_parser.proofs.LeafRecords.{passed_on}
use Rattle.front_end.proofs.PrepareExits.{refused-before, root-may, then-formed}
use Rattle.front_end.proofs.prepare.Goals as goal

pub formed-requires : goal.formed-requires
formed-requires c = root-may c.front_end.ensures c.in_ok-n.was

pub returns-in_err-n : goal.returns-in_err-n
returns-in_err-n c = rw (passed_on _ c.from_residual.ensures.1) (refused-before c.front_end.ensures c.in_err-n.was)

pub returns : goal.returns
returns c = then-formed c.front_end.ensures c.in_ok-n.was c.formed.ensures
