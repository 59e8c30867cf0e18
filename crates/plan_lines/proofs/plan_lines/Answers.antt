-- `plan_lines::plan_lines` meets its contract, by PlanCall.
use native.Mathlib.Omega.{arith}
use lib.ListN.{length}
use Prim.Native.Nat.{◌<◌}
use Rattle.base_text.specs.LaidText.{text_limit}
use Rattle.plan_lines.proofs.PlanCall.{print-short, print-full}
use borrow.Author.Rules.{rules}
use Rattle.plan_lines.proofs.plan_lines.Goals as goal

pub returns-then-text-n : goal.returns-then-text-n
returns-then-text-n c = let short : length c.args.text.now < text_limit = omega arith in print-short c.make_plan.ensures c.all_lines-n.ensures short c.if-text-n.true

pub returns : goal.returns
returns c = let short : length c.args.text.now < text_limit = omega arith in print-full c.make_plan.ensures c.all_lines-n.ensures short c.if-text-n.false c.all_lines.ensures
