-- `base_tables::kept_row`: the row is as far behind as the rows that are still to be counted say. Assumes nothing.
use Rattle.std.proofs.Common.{arith}
use Rattle.base_tables.proofs.Subsets.{kept-stop, kept_next, kept-last}
use Rattle.base_tables.proofs.kept_row.Goals as goal

pub returns-then-before-here : goal.returns-then-before-here
returns-then-before-here c = let l = c.loop-q in
    (kept-stop l.q l.x l.before c.loop-q-test.true c.if-before-here.true l.invariant, omega (arith, c.loop-q-test.true))

pub loop-q-preserved : goal.loop-q-preserved
loop-q-preserved c = let l = c.loop-q in kept_next l.q l.x l.before c.loop-q-test.true c.if-before-here.false l.invariant

pub returns : goal.returns
returns c = let l = c.loop-q in
    let e = kept-last l.q l.x l.before (omega arith) (omega (arith, c.loop-q-test.false)) l.invariant in
    (omega (arith, e, c.loop-q-test.false), omega arith)
