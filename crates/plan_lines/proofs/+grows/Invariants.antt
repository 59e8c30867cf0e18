use native.Mathlib.Omega.{arith}
use Rattle.form_words.specs.FormTree.{left}
use Rattle.form_words.proofs.NodeWords.{recast_c}
use Rattle.plan_lines.proofs.Exits.{grows-generator, grows-condition, grows-head}
use borrow.Author.Rules.{rules}
use Prim.Native.Nat.{ℕ, ◌<◌}
use Rattle.plan_lines.proofs.+grows.Given as goal

abbrev pub decreases-grows : goal.decreases-grows
decreases-grows l = left l.i
