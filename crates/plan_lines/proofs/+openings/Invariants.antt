use native.Mathlib.Omega.{arith}
use Rattle.form_words.specs.FormTree.{left}
use Rattle.form_words.proofs.NodeWords.{recast_c}
use Rattle.spec_plan.specs.Lines.{ascii}
use Rattle.plan_lines.specs.PartTexts.{opens}
use Rattle.plan_lines.proofs.Exits.{conds-generator, conds-skip, openings-later, openings-first, openings-head}
use borrow.Author.Rules.{rules}
use Prim.Native.Nat.{ℕ, ◌<◌}
use Rattle.plan_lines.proofs.+openings.Given as goal

abbrev pub decreases-openings : goal.decreases-openings
decreases-openings l = left l.i
