-- `front_measure::terms` meets its contract, by PartExits, front_resolve/Exits.
use native.Mathlib.Omega.{arith}
use Rattle.front_measure.proofs.PartExits.{few-terms, terms-none, terms-next, terms-within, terms-end}
use Rattle.front_resolve.proofs.Exits.{picks-cast}
use Rattle.front_measure.proofs.terms.Goals as goal

pub loop-c-init : goal.loop-c-init
loop-c-init c = terms-none c.args.s.now c.args.i

pub overflow_add-k : goal.overflow_add-k
overflow_add-k c = omega
    (arith, few-terms c.args.s.now c.args.i, c.loop-c.invariant.within)

pub loop-c-smaller : goal.loop-c-smaller
loop-c-smaller c = omega
    (arith, terms-within c.loop-c.invariant (picks-cast c.child.ensures c.in-Some.is))

pub loop-c-preserved : goal.loop-c-preserved
loop-c-preserved c = terms-next c.loop-c.invariant
    (picks-cast c.child.ensures c.in-Some.is) c.term_count.ensures
    c.side-t.ensures

pub returns : goal.returns
returns c = terms-end c.loop-c.invariant (picks-cast c.child.ensures c.in_default.is)
