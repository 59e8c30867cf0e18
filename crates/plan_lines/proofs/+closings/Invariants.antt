use native.Mathlib.Omega.{arith}
use Rattle.form_words.specs.FormTree.{left}
use Rattle.form_words.proofs.NodeWords.{recast_c}
use Rattle.spec_plan.specs.Lines.{ascii}
use Rattle.plan_lines.specs.PartTexts.{closes}
use Rattle.plan_lines.proofs.Exits.{conds-generator, conds-skip, closings-condition, closings-later, closings-none}
use borrow.Author.Rules.{rules}
use Prim.Native.Nat.{ℕ, ◌<◌}
use Rattle.plan_lines.proofs.+closings.Given as goal

abbrev pub decreases-closings : goal.decreases-closings
decreases-closings l = left l.i
