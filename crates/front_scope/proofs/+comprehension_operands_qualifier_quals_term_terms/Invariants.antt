use Prim.Native.Nat.{◌+◌, ◌*◌}
use Rattle.front_scope.proofs.+comprehension_operands_qualifier_quals_term_terms.Given as goal

abbrev pub decreases-comprehension : goal.decreases-comprehension
decreases-comprehension l = 2 * l.i + 1

abbrev pub decreases-operands : goal.decreases-operands
decreases-operands l = 2 * l.i + 1

abbrev pub decreases-qualifier : goal.decreases-qualifier
decreases-qualifier l = 2 * l.i + 1

abbrev pub decreases-quals : goal.decreases-quals
decreases-quals l = 2 * l.e + 1

abbrev pub decreases-term : goal.decreases-term
decreases-term l = 2 * l.e

abbrev pub decreases-terms : goal.decreases-terms
decreases-terms l = 2 * l.e + 1
