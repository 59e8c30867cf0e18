-- `base_scratch::wipe` meets its contract, by Laws.
use native.Mathlib.Omega.{arith}
use mathlib.Core.Path.{refl}
use Rattle.base_scratch.proofs.Laws.{wiped-none, wiped-more, wiped-all}
use Rattle.base_scratch.proofs.wipe.Goals as goal

pub loop-i-init : goal.loop-i-init
loop-i-init c = wiped-none _ _

pub loop-i-preserved : goal.loop-i-preserved
loop-i-preserved c = wiped-more c.loop-i.invariant c.loop-i.auto.i (omega arith) refl

pub returns : goal.returns
returns c = wiped-all c.loop-i.invariant (c.loop-i.auto.i-end c.requires.0) c.loop-i-test.false
