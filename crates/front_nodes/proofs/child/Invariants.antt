use Rattle.front_nodes.proofs.ReaderExits.{Walks}
use Rattle.front_nodes.proofs.child.Given as goal

abbrev pub invariant-loop : goal.invariant-loop
invariant-loop l = Walks l.s l.i l.end l.counter l.e
