-- `loop_collect`: `collect`, `each`, `flat`, `part`, `parts` and `write` meet their contracts together, by Exits, base_signed/SignedWords, form_words/NodeWords, answer_writer/Exits.
use native.Mathlib.Omega.{arith}
use mathlib.Core.Path.{ap}
use lib.IntN.{pos}
use mir.Syntax.{w64}
use mir.Val.{of_z}
use mir.Facts.{to_z-of_z, sfits_lit}
use Rattle.base_signed.proofs.SignedWords.{fits, eq_is, up}
use Rattle.form_words.proofs.NodeWords.{recast_c}
use Rattle.answer_writer.proofs.Exits.{shape-recast}
use Rattle.loop_collect.proofs.HeadLoops.{ready-each, ready-test, ready-head}
use Rattle.loop_collect.proofs.Exits.{w-past, w-word, w-row, ready-parts, w-record, ready-collect, count_most, w-collection, p-done, ready-part, next-behind, parts_again, c-generator, c-no, c-head, collect-again, go-first, go-ready, go-again, go-last}
use Rattle.loop_collect.proofs.+collect_each_flat_part_parts_write.Goals as goal

pub collect-each-requires : goal.collect-each-requires
collect-each-requires t c = let w = (recast_c c.look_clause.ensures c.in-Generator.is) in (omega (arith, c.decreases, c.loop-g.invariant.low, w.inside.0), ready-each c.loop-g.invariant.ready w)

pub collect-returns-in-Generator : goal.collect-returns-in-Generator
collect-returns-in-Generator t c = c.loop-g.invariant.back _ _ _ (c-generator (recast_c c.look_clause.ensures c.in-Generator.is) c.each.ensures)

pub collect-scalar-x-requires : goal.collect-scalar-x-requires
collect-scalar-x-requires t c = ready-test c.loop-g.invariant.ready (recast_c c.look_clause.ensures c.in-Condition.is)

pub collect-returns-then-x-eq0 : goal.collect-returns-then-x-eq0
collect-returns-then-x-eq0 t c = c.loop-g.invariant.back _ _ _ (c-no c.loop-g.invariant.ready (recast_c c.look_clause.ensures c.in-Condition.is) c.scalar-x.ensures (eq_is (fits c.scalar-x.type_inv) (sfits_lit {z = pos 0} tt) c.if-x-eq0.true))

pub collect-loop-g-preserved : goal.collect-loop-g-preserved
collect-loop-g-preserved t c = collect-again c.loop-g.invariant (recast_c c.look_clause.ensures c.in-Condition.is) c.scalar-x.ensures (λ e. c.if-x-eq0.false (ap (of_z w64) e))

pub collect-write-p-requires : goal.collect-write-p-requires
collect-write-p-requires t c = (omega (arith, c.decreases, c.loop-g.invariant.low), ready-head c.loop-g.invariant.ready (recast_c c.look_clause.ensures c.in-Head.is))

pub collect-returns-in-Head : goal.collect-returns-in-Head
collect-returns-in-Head t c = c.loop-g.invariant.back _ _ _ (c-head (recast_c c.look_clause.ensures c.in-Head.is) c.write-p.ensures c.one_more-n.ensures)

pub each-loop-r-init : goal.each-loop-r-init
each-loop-r-init t c = go-first

pub each-returns-then-r-ge-NO_MORE : goal.each-returns-then-r-ge-NO_MORE
each-returns-then-r-ge-NO_MORE t c = go-last c.loop-r.invariant c.requires c.turn-r.ensures c.if-r-ge-NO_MORE.true c.slot-old.ensures c.bind.ensures

pub each-collect-a-requires : goal.each-collect-a-requires
each-collect-a-requires t c = (omega (arith, c.decreases), go-ready c.loop-r.invariant c.requires c.turn-r.ensures c.if-r-ge-NO_MORE.false)

pub each-loop-r-preserved : goal.each-loop-r-preserved
each-loop-r-preserved t c = go-again c.loop-r.invariant c.requires c.turn-r.ensures c.if-r-ge-NO_MORE.false c.collect-a.ensures c.collect-a.auto.out

pub flat-returns-then-limit-p : goal.flat-returns-then-limit-p
flat-returns-then-limit-p t c = w-past c.requires.ready (shape-recast c.shape_at.ensures c.in-Word.is) c.if-limit-p.true c.more.ensures

pub flat-parts-requires : goal.flat-parts-requires
flat-parts-requires t c = let w = shape-recast c.shape_at.ensures c.in-Record.is in (omega (arith, c.decreases, w.inside.0, w.inside.1), ready-parts c.requires.ready w)

pub flat-returns-else-limit-p : goal.flat-returns-else-limit-p
flat-returns-else-limit-p t c = w-word c.requires.ready (shape-recast c.shape_at.ensures c.in-Word.is) c.operand-x.ensures (to_z-of_z (fits c.operand-x.type_inv)) c.put.ensures

pub flat-returns-in-Row : goal.flat-returns-in-Row
flat-returns-in-Row t c = w-row c.requires.ready (shape-recast c.shape_at.ensures c.in-Row.is) c.row.ensures

pub flat-returns-in-Record : goal.flat-returns-in-Record
flat-returns-in-Record t c = w-record c.requires.ready (shape-recast c.shape_at.ensures c.in-Record.is) c.parts.ensures

pub parts-part-q-requires : goal.parts-part-q-requires
parts-part-q-requires t c = (omega (arith, c.decreases, c.loop-j.invariant.low), ready-part c.loop-j-test.true c.loop-j.invariant.ready)

pub parts-loop-j-smaller : goal.parts-loop-j-smaller
parts-loop-j-smaller t c = omega (arith, c.loop-j.invariant.ready.top, c.loop-j-test.true, next-behind c.loop-j-test.true c.loop-j.invariant.ready c.part-q.ensures c.next-j.ensures)

pub parts-loop-j-preserved : goal.parts-loop-j-preserved
parts-loop-j-preserved t c = parts_again c.loop-j.invariant c.loop-j-test.true c.part-q.ensures c.part-q.auto.out c.next-j.ensures

pub parts-returns : goal.parts-returns
parts-returns t c = c.loop-j.invariant.back _ _ _ (p-done c.loop-j-test.false)

pub write-collect-e-requires : goal.write-collect-e-requires
write-collect-e-requires t c = let w = shape-recast c.shape_at.ensures c.in-Collection.is in (omega (arith, c.decreases, w.inside), ready-collect c.requires w)

pub write-overflow_cast-n : goal.write-overflow_cast-n
write-overflow_cast-n t c = omega (arith, count_most c.collect-e.ensures c.no_elements.ensures (ready-collect c.requires (shape-recast c.shape_at.ensures c.in-Collection.is)))

pub write-returns : goal.write-returns
write-returns t c = let w = shape-recast c.shape_at.ensures c.in-Collection.is in let b = count_most c.collect-e.ensures c.no_elements.ensures (ready-collect c.requires w) in w-collection c.requires w c.collect-e.ensures c.no_elements.ensures c.more.ensures (up (omega (arith, b))) c.lay.ensures
