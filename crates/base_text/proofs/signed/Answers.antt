-- `base_text::signed` meets its contract, by Decimals, base_signed/SignedWords.
use mathlib.Core.Path.{ap, ◌∙◌}
use lib.Dec.{lit<}
use lib.IntN.{nat_abs}
use mir.Facts.{to_z-of_z}
use Rattle.spec_plan.specs.Lines.{ascii}
use Rattle.base_signed.proofs.SignedWords.{fits, lt-is}
use Rattle.base_text.proofs.Decimals.{signed-minus, signed-plus}
use borrow.Author.Rules.{rules}
use Rattle.base_text.proofs.signed.Goals as goal

pub returns-then-x-lt0 : goal.returns-then-x-lt0
unfolding ascii
returns-then-x-lt0 c = signed-minus c.args.x (c.magnitude.ensures ∙ ap nat_abs (to_z-of_z c.ranges.x)) (lt-is c.ranges.x (fits (lit< tt)) c.if-x-lt0.true) c.put-q.ensures c.decimal.ensures

pub returns : goal.returns
unfolding ascii
returns c = signed-plus c.args.x (c.magnitude-2.ensures ∙ ap nat_abs (to_z-of_z c.ranges.x)) (lt-is c.ranges.x (fits (lit< tt)) c.if-x-lt0.false) c.decimal-2.ensures
