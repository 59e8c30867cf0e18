-- `front_resolve::resolve`, `step` and `follow` meet their contracts: they go down by the number of the node.
use native.Mathlib.Omega.{arith}
use Rattle.front_nodes.proofs.ReaderExits.{recast, looked-inside}
use Rattle.front_resolve.proofs.Exits.{h-settled, h-out, h-name, h-field, f-other, f-bind, f-gen, stepped_by, step-cast, leads-on, leads-to, bound-cast}
use borrow.Enum.Refused.{opened}
use Rattle.front_resolve.proofs.+follow_resolve_step.Goals as goal

pub follow-returns-in-Bind : goal.follow-returns-in-Bind
follow-returns-in-Bind t c = let B = bound-cast c.bound_by.ensures c.in-Bind.is in record { is = (B.is.1, λ r R. f-bind B R); long = c.requires.1 }

pub follow-returns-in-Gen : goal.follow-returns-in-Gen
follow-returns-in-Gen t c = let B = bound-cast c.bound_by.ensures c.in-Gen.is in stepped_by (omega (arith, B.is.1, c.resolve-h.ensures.from.below)) (λ q S. f-gen B c.resolve-h.ensures c.entry-w.ensures c.first_number.ensures.0 S) c.splice.ensures

pub follow-returns-in-Other : goal.follow-returns-in-Other
follow-returns-in-Other t c = record { is = f-other c.requires.1 (bound-cast c.bound_by.ensures c.in-Other.is); long = c.requires.1 }

pub resolve-loop-k-init : goal.resolve-loop-k-init
resolve-loop-k-init t c = record { below = omega arith; long = c.requires; on = λ r H. H }

pub resolve-loop-k-smaller : goal.resolve-loop-k-smaller
resolve-loop-k-smaller t c = omega (arith, (step-cast c.step.ensures c.in-On.is).is.0)

pub resolve-loop-k-preserved : goal.resolve-loop-k-preserved
resolve-loop-k-preserved t c = leads-on c.loop-k.invariant (step-cast c.step.ensures c.in-On.is)

pub resolve-returns-in-At : goal.resolve-returns-in-At
resolve-returns-in-At t c = leads-to c.loop-k.invariant (step-cast c.step.ensures c.in-At.is)

pub step-returns-then-depth-d : goal.step-returns-then-depth-d
step-returns-then-depth-d t c = record { is = h-out (recast c.look-n.ensures c.in-Name.is) c.requires c.if-depth-d.true; long = c.requires }

pub step-returns-else-depth-d : goal.step-returns-else-depth-d
step-returns-else-depth-d t c = let H = recast c.look-n.ensures c.in-Name.is in stepped_by (omega (arith, looked-inside H)) (λ q F. h-name H c.if-depth-d.false F) c.follow.ensures

pub step-returns-in-Field : goal.step-returns-in-Field
step-returns-in-Field t c = let H = recast c.look-n.ensures c.in-Field.is in stepped_by (omega (arith, looked-inside H, c.resolve-h.ensures.from.below)) (λ q P. h-field H c.resolve-h.ensures P) (c.project.ensures.is _ c.resolve-h.ensures.from.fine.long)

pub step-returns-in_default : goal.step-returns-in_default
step-returns-in_default t c = record { is = h-settled c.requires c.look-n.ensures (opened c.in_default.in_default-own.keys3) c.form_of.ensures; long = c.requires }

pub follow-entry-w-requires : goal.follow-entry-w-requires
follow-entry-w-requires t c = c.requires.1

pub follow-resolve-h-requires : goal.follow-resolve-h-requires
follow-resolve-h-requires t c = (omega (arith, c.decreases, (bound-cast c.bound_by.ensures c.in-Gen.is).is.1), c.requires.1)

pub follow-splice-requires : goal.follow-splice-requires
follow-splice-requires t c = (c.resolve-h.ensures.from.fine, c.first_number.ensures.1)

pub resolve-step-requires : goal.resolve-step-requires
resolve-step-requires t c = (omega (arith, c.decreases, c.loop-k.invariant.below), c.loop-k.invariant.long)

pub step-follow-requires : goal.step-follow-requires
step-follow-requires t c = let H = recast c.look-n.ensures c.in-Name.is in (omega (arith, c.decreases, looked-inside H), (omega (arith, H.small), c.requires))

pub step-resolve-h-requires : goal.step-resolve-h-requires
step-resolve-h-requires t c = (omega (arith, c.decreases, looked-inside (recast c.look-n.ensures c.in-Field.is)), c.requires)

pub step-project-requires : goal.step-project-requires
step-project-requires t c = (c.resolve-h.ensures.from.fine.form, (recast c.look-n.ensures c.in-Field.is).small)
