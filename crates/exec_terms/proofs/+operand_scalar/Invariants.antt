use Rattle.form_words.specs.FormTree.{left}
use Prim.Native.Nat.{◌+◌}
use Rattle.exec_terms.proofs.+operand_scalar.Given as goal

abbrev pub decreases-operand : goal.decreases-operand
decreases-operand l = left l.i + 1

abbrev pub decreases-scalar : goal.decreases-scalar
decreases-scalar l = left l.i
