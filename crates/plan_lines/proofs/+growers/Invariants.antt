use native.Mathlib.Omega.{arith}
use Rattle.form_words.specs.FormTree.{left}
use Rattle.form_words.proofs.NodeWords.{recast_c}
use Rattle.plan_lines.proofs.Exits.{growers-generator, growers-condition, growers-head}
use borrow.Author.Rules.{rules}
use Prim.Native.Nat.{ℕ, ◌<◌}
use Rattle.plan_lines.proofs.+growers.Given as goal

abbrev pub decreases-growers : goal.decreases-growers
decreases-growers l = left l.i
