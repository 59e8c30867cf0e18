-- `base_text::say` meets its contract, by LaidText.
use mathlib.Core.Path.{◌≡◌, refl, ◌∙◌}
use Prim.Native.Nat.{◌-◌}
use lib.ListN.{length, take}
use Rattle.base_text.specs.LaidText.{Lays}
use Rattle.base_text.proofs.LaidText.{lays-nil, said_more, said_all}
use borrow.Author.Rules.{rules}
use Rattle.base_text.proofs.say.Goals as goal

pub loop-i-init : goal.loop-i-init
loop-i-init c = (refl, lays-nil c.args.limit c.args.p c.args.text.now)

pub loop-i-preserved : goal.loop-i-preserved
loop-i-preserved c = (c.put-q.auto.text ∙ c.loop-i.invariant.0, said_more c.args.b.now c.loop-i.i c.loop-i-test.true c.loop-i.invariant.1 c.put-q.ensures)

pub shape_of-text : goal.shape_of-text
shape_of-text c = c.loop-i.invariant.0

pub returns : goal.returns
returns c = said_all c.args.b.now c.loop-i.i c.loop-i-test.false c.loop-i.invariant.1
