-- `front_bounds::generators_bound` meets its contract, by CutBounds.
use native.Mathlib.Omega.{arith}
use Rattle.front_bounds.proofs.CutBounds.{repeating-first, repeating-again, repeating-last}
use Rattle.front_bounds.proofs.generators_bound.Goals as goal

pub loop-init : goal.loop-init
loop-init c = repeating-first (omega arith)

pub loop-preserved : goal.loop-preserved
loop-preserved c = repeating-again c.loop.invariant (omega arith) c.per_generator-b.ensures

pub returns : goal.returns
returns c = repeating-last c.loop.invariant (omega arith)
