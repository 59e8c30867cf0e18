use native.Mathlib.Omega.{arith}
use Rattle.form_words.specs.FormTree.{left}
use Rattle.form_words.proofs.NodeWords.{recast_c}
use Rattle.plan_lines.proofs.Exits.{head-generator, head-condition, head-head}
use borrow.Author.Rules.{rules}
use Prim.Native.Nat.{ℕ, ◌<◌}
use Rattle.plan_lines.proofs.+head.Given as goal

abbrev pub decreases-head : goal.decreases-head
decreases-head l = left l.i
