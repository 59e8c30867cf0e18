-- `base_tables::ones`: the bits that are still to come, and those before. Assumes nothing.
use Rattle.std.proofs.Common.{arith}
use Rattle.base_tables.proofs.Subsets.{ones-next, ones-last}
use Rattle.base_tables.proofs.ones.Goals as goal

pub loop-i-preserved : goal.loop-i-preserved
loop-i-preserved c = let l = c.loop-i in
    (ones-next l._i l.x l.n c.loop-i-test.true l.invariant.0, omega (arith, l.invariant.1))

pub returns : goal.returns
returns c = let l = c.loop-i in
    (ones-last l._i l.x l.n (omega arith) (omega (arith, c.loop-i-test.false)) l.invariant.0, omega (arith, l.invariant.1))
