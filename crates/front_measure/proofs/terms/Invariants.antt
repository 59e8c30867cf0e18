use Prim.Native.Nat.{◌-◌}
use lib.ListN.{length}
use Rattle.front_nodes.specs.NodeTable.{children_of}
use Rattle.front_measure.proofs.PartExits.{Summed}
use Rattle.front_measure.proofs.terms.Given as goal

abbrev pub invariant-loop-c : goal.invariant-loop-c
invariant-loop-c l = Summed l.s l.i l.t l.k

abbrev pub decreases-loop-c : goal.decreases-loop-c
decreases-loop-c l = length (children_of l.s l.i) - l.k
