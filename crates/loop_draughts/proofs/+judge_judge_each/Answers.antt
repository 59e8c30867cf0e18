-- `loop_draughts`: `judge` and `judge_each` meet their contracts together, by Exits.
use native.Mathlib.Omega.{arith}
use mathlib.Core.Path.{ap}
use lib.IntN.{pos}
use mir.Syntax.{w64}
use mir.Val.{of_z}
use mir.Facts.{to_z-of_z, sfits_lit}
use Rattle.base_signed.proofs.SignedWords.{fits, eq_is}
use Rattle.form_words.proofs.NodeWords.{recast_c}
use Rattle.loop_collect.proofs.HeadLoops.{ready-each, ready-test, ready-head}
use Rattle.loop_draughts.proofs.Exits.{j-generator, j-no, j-head, judge-again, each_first, each-ready, each_again, each_last}
use Rattle.loop_draughts.proofs.+judge_judge_each.Goals as goal

pub judge-judge_each-requires : goal.judge-judge_each-requires
judge-judge_each-requires t c = let w = (recast_c c.look_clause.ensures c.in-Generator.is) in (omega (arith, c.decreases, c.loop-g.invariant.low, w.inside.0), ready-each c.loop-g.invariant.ready w)

pub judge-returns-in-Generator : goal.judge-returns-in-Generator
judge-returns-in-Generator t c = c.loop-g.invariant.back _ _ (j-generator (recast_c c.look_clause.ensures c.in-Generator.is) c.judge_each.ensures)

pub judge-scalar-x-requires : goal.judge-scalar-x-requires
judge-scalar-x-requires t c = ready-test c.loop-g.invariant.ready (recast_c c.look_clause.ensures c.in-Condition.is)

pub judge-returns-then-x-eq0 : goal.judge-returns-then-x-eq0
judge-returns-then-x-eq0 t c = c.loop-g.invariant.back _ _ (j-no c.loop-g.invariant.ready (recast_c c.look_clause.ensures c.in-Condition.is) c.scalar-x.ensures (eq_is (fits c.scalar-x.type_inv) (sfits_lit {z = pos 0} tt) c.if-x-eq0.true))

pub judge-loop-g-preserved : goal.judge-loop-g-preserved
judge-loop-g-preserved t c = judge-again c.loop-g.invariant (recast_c c.look_clause.ensures c.in-Condition.is) c.scalar-x.ensures (λ e. c.if-x-eq0.false (ap (of_z w64) e))

pub judge-draught-x-requires : goal.judge-draught-x-requires
judge-draught-x-requires t c = ready-head c.loop-g.invariant.ready (recast_c c.look_clause.ensures c.in-Head.is)

pub judge-returns-in-Head : goal.judge-returns-in-Head
judge-returns-in-Head t c = c.loop-g.invariant.back _ _ (j-head (recast_c c.look_clause.ensures c.in-Head.is) c.draught-x.ensures (to_z-of_z (fits c.draught-x.type_inv)) c.one_draught.ensures)

pub judge_each-loop-r-init : goal.judge_each-loop-r-init
judge_each-loop-r-init t c = each_first

pub judge_each-returns-then-r-ge-NO_MORE : goal.judge_each-returns-then-r-ge-NO_MORE
judge_each-returns-then-r-ge-NO_MORE t c = each_last c.loop-r.invariant c.requires c.turn-r.ensures c.if-r-ge-NO_MORE.true c.slot-old.ensures c.bind.ensures

pub judge_each-judge-a-requires : goal.judge_each-judge-a-requires
judge_each-judge-a-requires t c = (omega (arith, c.decreases), each-ready c.loop-r.invariant c.requires c.turn-r.ensures c.if-r-ge-NO_MORE.false)

pub judge_each-loop-r-preserved : goal.judge_each-loop-r-preserved
judge_each-loop-r-preserved t c = each_again c.loop-r.invariant c.requires c.turn-r.ensures c.if-r-ge-NO_MORE.false c.judge-a.ensures
