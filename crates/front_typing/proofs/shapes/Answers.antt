-- `front_typing::shapes` meets its contract, by Exits.
use mathlib.Core.Path.{◌≡◌, refl, ap, ◌∙◌}
use Prim.Native.Nat.{ℕ}
use mathlib.Core.List.{List}
use lib.ListN.{length}
use native.Mathlib.Omega.{arith}
use Rattle.front_typing.specs.ShapeWords.{shaped_up_to}
use Rattle.front_typing.proofs.Exits.{shaped-next, shaped-length}
use Rattle.front_typing.proofs.shapes.Goals as goal

pub loop-i-init : goal.loop-i-init
unfolding shaped_up_to
loop-i-init c = refl

pub loop-i-preserved : goal.loop-i-preserved
loop-i-preserved c = shaped-next c.args.rule c.args.s.now c.loop-i.i c.loop-i.invariant c.shape_of.ensures c.packed-w.ensures c.store.ensures

pub shape_of-s : goal.shape_of-s
shape_of-s c = ap (λ (l : List ℕ). length l) c.loop-i.invariant ∙ shaped-length c.args.rule c.args.s.now c.loop-i.i

pub returns : goal.returns
returns c = let e : c.loop-i.i ≡ c.args.n = omega arith in c.loop-i.invariant ∙ ap (shaped_up_to c.args.rule c.args.s.now) e
