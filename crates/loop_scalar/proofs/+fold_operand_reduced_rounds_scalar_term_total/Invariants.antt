use Prim.Native.Nat.{◌+◌, ◌-◌, ◌*◌}
use Rattle.form_words.specs.FormTree.{left}
use Rattle.loop_scalar.proofs.Exits.{Folding, Turning}
use Rattle.loop_scalar.proofs.+fold_operand_reduced_rounds_scalar_term_total.Given as goal

abbrev pub decreases-fold : goal.decreases-fold
decreases-fold l = 8 * left l.at + 4

abbrev pub invariant-fold-loop-g : goal.invariant-fold-loop-g
invariant-fold-loop-g l = Folding l.«data» l.initial.s l.m l.at l.acc l.s l.j

abbrev pub decreases-fold-loop-g : goal.decreases-fold-loop-g
decreases-fold-loop-g l = left l.j

abbrev pub decreases-operand : goal.decreases-operand
decreases-operand l = 8 * left l.i + 3

abbrev pub decreases-reduced : goal.decreases-reduced
decreases-reduced l = 8 * left l.i

abbrev pub decreases-rounds : goal.decreases-rounds
decreases-rounds l = 8 * left l.at + 6

abbrev pub invariant-rounds-loop-r : goal.invariant-rounds-loop-r
invariant-rounds-loop-r l = Turning l.«data» l.initial.s l.m l.at l.acc l.g l.k l.s l.a l.r

abbrev pub decreases-rounds-loop-r : goal.decreases-rounds-loop-r
decreases-rounds-loop-r l = 2048 - l.r

abbrev pub decreases-scalar : goal.decreases-scalar
decreases-scalar l = 8 * left l.i + 1

abbrev pub decreases-term : goal.decreases-term
decreases-term l = 8 * left l.i + 2

abbrev pub decreases-total : goal.decreases-total
decreases-total l = 8 * left l.at + 5
