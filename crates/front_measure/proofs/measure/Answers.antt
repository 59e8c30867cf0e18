-- `front_measure::measure` meets its contract, by LoopInvariant.
use Rattle.front_measure.proofs.LoopInvariant.{going-first, going_on, going-last}
use Rattle.front_measure.proofs.measure.Goals as goal

pub loop-i-init : goal.loop-i-init
loop-i-init c = going-first c.args.s.now c.args.n

pub store-requires : goal.store-requires
store-requires c = c.weigh-w.ensures.small

pub loop-i-preserved : goal.loop-i-preserved
loop-i-preserved c = going_on c.loop-i.invariant
    c.loop-i-test.true c.weigh-w.ensures
    c.store.ensures

pub shape_of-s : goal.shape_of-s
shape_of-s c = c.loop-i.invariant.long

pub returns : goal.returns
returns c = going-last c.loop-i.invariant c.loop-i-test.false
