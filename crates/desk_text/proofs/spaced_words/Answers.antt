-- `spaced_words`: a word more at each turn. Assumes nothing.
use mathlib.Core.Path.{◌≡◌, refl, ap, ◌∙◌}
use Prim.Native.Nat.{◌-◌, ◌*◌, ◌≤◌}
use native.Mathlib.Omega.{arith}
use lib.ListN.{length, take}
use mir.Facts.{to_z-of_z}
use Rattle.base_signed.proofs.SignedWords.{fits}
use Rattle.spec_plan.specs.Lines.{ascii, signed_decimal}
use Rattle.base_text.specs.LaidText.{Lays}
use Rattle.base_text.proofs.LaidText.{lays-nil, lays-as}
use Rattle.spec_desk.specs.Desk.{spaced}
use Rattle.desk_text.proofs.DeskLines.{spaced-more, spaced-all, spaced-longer, spaced-most}
use borrow.Author.Rules.{rules}
use Rattle.desk_text.proofs.spaced_words.Goals as goal

pub loop-i-init : goal.loop-i-init
unfolding ascii spaced
loop-i-init c = (refl, omega arith, lays-nil c.args.limit c.args.p c.args.text.now, omega arith)

pub loop-i-preserved : goal.loop-i-preserved
unfolding ascii spaced
loop-i-preserved c = let f = fits c.signed-arg-in-loop-i-1.given in (
  c.signed-q.auto.text ∙ c.put-q.auto.text ∙ c.loop-i.invariant.0,
  omega (arith, c.loop-i-test.true),
  spaced-more c.args.words.now c.loop-i.i c.loop-i-test.true c.loop-i.invariant.2 c.put-q.ensures (lays-as (ap signed_decimal (to_z-of_z f)) c.signed-q.ensures),
  spaced-longer c.args.words.now c.loop-i.i c.loop-i-test.true f c.loop-i.invariant.3,
)

pub returns : goal.returns
unfolding ascii spaced
returns c = record { lays = spaced-all c.args.words.now c.loop-i.i c.loop-i-test.false c.loop-i.invariant.2; words_len_bound = spaced-most c.args.words.now c.loop-i.i c.loop-i.invariant.1 c.loop-i-test.false c.loop-i.invariant.3 }
