-- `base_logs::count_pairs`: the pairs so far, and those that are left. Assumes nothing.
use native.Mathlib.Omega.{arith}
use Rattle.base_logs.proofs.Moves.{counting-first, counting-next, counting-done, counting-few}
use Rattle.base_logs.proofs.count_pairs.Goals as goal

pub loop-r-init : goal.loop-r-init
loop-r-init c = counting-first c.args.data.now c.args.a c.args.b c.args.t c.first_rows-r.ensures

pub counted-pairs-requires : goal.counted-pairs-requires
counted-pairs-requires c = counting-few c.loop-r.invariant c.requires

pub loop-r-smaller : goal.loop-r-smaller
loop-r-smaller c = let z = counting-next c.loop-r.invariant c.rows-m.ensures c.rows-n.ensures c.loop-r-test.true c.next_move-v.ensures c.advance-r.ensures c.counted-pairs.ensures in omega (arith, z.1, z.0.standing.first-in, z.0.standing.second-in)

pub loop-r-preserved : goal.loop-r-preserved
loop-r-preserved c = (counting-next c.loop-r.invariant c.rows-m.ensures c.rows-n.ensures c.loop-r-test.true c.next_move-v.ensures c.advance-r.ensures c.counted-pairs.ensures).0

pub returns : goal.returns
returns c = counting-done c.loop-r.invariant (omega (arith, c.rows-m.ensures, c.rows-n.ensures, c.loop-r-test.false))
