use native.Mathlib.Omega.{arith}
use mathlib.Core.Path.{refl}
use Prim.Native.Nat.{◌+◌}
use Rattle.form_words.specs.FormTree.{left}
use Rattle.form_words.proofs.NodeWords.{recast, recast_c, next_past}
use Rattle.plan_lines.proofs.Exits.{ops-none, ops-record, ops-binary, ops-negation, ops-operator, ops-comprehension, upto-end, upto-more, inside-generator, inside-condition, inside-head}
use borrow.Author.Rules.{rules}
use Prim.Native.Nat.{ℕ, ◌<◌}
use Rattle.plan_lines.proofs.+inside_ops_ops_upto.Given as goal

abbrev pub decreases-inside : goal.decreases-inside
decreases-inside l = left l.i + 1

abbrev pub decreases-ops : goal.decreases-ops
decreases-ops l = left l.i

abbrev pub decreases-ops_upto : goal.decreases-ops_upto
decreases-ops_upto l = left l.i + 1
