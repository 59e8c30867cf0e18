-- `base_logs::lay_rows`: what is written and what is left. Assumes nothing.
use native.Mathlib.Omega.{arith}
use Rattle.base_logs.proofs.Laying.{laying-first, laying-room, laying-next, laying-done}
use Rattle.base_logs.proofs.lay_rows.Goals as goal

pub loop-r-init : goal.loop-r-init
loop-r-init c = laying-first c.args.data.now c.args.a c.args.b c.args.t c.args.d.now c.args.p c.requires.1 c.first_rows-r.ensures

pub lay_row-q-requires : goal.lay_row-q-requires
lay_row-q-requires c = laying-room c.loop-r.invariant c.rows-m.ensures c.rows-n.ensures c.loop-r-test.true c.next_move-v.ensures c.requires.0

pub loop-r-smaller : goal.loop-r-smaller
loop-r-smaller c = let z = laying-next c.loop-r.invariant c.rows-m.ensures c.rows-n.ensures c.loop-r-test.true c.next_move-v.ensures c.lay_row-q.ensures.0 c.lay_row-q.ensures.1 c.advance-r.ensures in omega (arith, z.1, z.0.standing.first-in, z.0.standing.second-in)

pub loop-r-preserved : goal.loop-r-preserved
loop-r-preserved c = (laying-next c.loop-r.invariant c.rows-m.ensures c.rows-n.ensures c.loop-r-test.true c.next_move-v.ensures c.lay_row-q.ensures.0 c.lay_row-q.ensures.1 c.advance-r.ensures).0

pub returns : goal.returns
returns c = laying-done c.loop-r.invariant (omega (arith, c.rows-m.ensures, c.rows-n.ensures, c.loop-r-test.false))
