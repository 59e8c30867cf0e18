-- `loop_scalar`: `fold`, `operand`, `reduced`, `rounds`, `scalar`, `term` and `total` meet their contracts together, by Exits, NodeMonoid, MergedRows, base_signed/SignedWords, form_words/NodeWords.
use native.Mathlib.Omega.{arith}
use mathlib.Core.Path.{refl, sym, ap, ◌∙◌}
use lib.IntN.{pos}
use mir.Syntax.{w64}
use mir.Val.{of_z}
use mir.Facts.{to_z-of_z, sfits_lit}
use Rattle.base_signed.proofs.SignedWords.{fits, eq_is, same-is}
use Rattle.form_words.proofs.NodeWords.{recast, recast_c, leaf-recast}
use Rattle.form_words.proofs.Operands.{truth-behind}
use Rattle.loop_scalar.proofs.Exits.{s-number, s-truth, s-row, s-cell, s-record, s-generator, s-condition, s-nothing, ready-first, ready-second, ready-operate, s-binary, ready-negated, s-negation, ready-truth, branch-behind, ready-branch, s-choice, s-open, ready-comp, s-comp, ready-turns, f-generator, ready-test, f-no, ready-head, ready-merge, f-head, fold-again, turn-first, turn-ready, turn-again, turn_last, total-folded}
use Rattle.loop_scalar.proofs.NodeMonoid.{monoid-looks}
use Rattle.loop_scalar.proofs.MergedRows.{total-ready, total-done}
use Rattle.loop_scalar.proofs.+fold_operand_reduced_rounds_scalar_term_total.Goals as goal

pub fold-rounds-requires : goal.fold-rounds-requires
fold-rounds-requires t c = let w = (recast_c c.look_clause.ensures c.in-Generator.is) in (omega (arith, c.decreases, c.loop-g.invariant.low, w.inside.0), ready-turns c.loop-g.invariant.ready w refl)

pub fold-returns-in-Generator : goal.fold-returns-in-Generator
fold-returns-in-Generator t c = total-folded (to_z-of_z c.ranges.acc) (c.loop-g.invariant.back _ _ (f-generator c.loop-g.invariant.ready (recast_c c.look_clause.ensures c.in-Generator.is) refl c.rounds.ensures (to_z-of_z (fits c.rounds.type_inv)))) refl

pub fold-term-x-requires : goal.fold-term-x-requires
fold-term-x-requires t c = let w = (recast_c c.look_clause.ensures c.in-Condition.is) in (omega (arith, c.decreases, c.loop-g.invariant.low, w.inside.0, w.inside.1), ready-test c.loop-g.invariant.ready w)

pub fold-returns-then-x-eq0 : goal.fold-returns-then-x-eq0
fold-returns-then-x-eq0 t c = total-folded (to_z-of_z c.ranges.acc) (c.loop-g.invariant.back _ _ (f-no c.loop-g.invariant.ready (recast_c c.look_clause.ensures c.in-Condition.is) c.term-x.ensures (eq_is (fits c.term-x.type_inv) (sfits_lit {z = pos 0} tt) c.if-x-eq0.true) refl)) refl

pub fold-loop-g-preserved : goal.fold-loop-g-preserved
fold-loop-g-preserved t c = fold-again c.loop-g.invariant (recast_c c.look_clause.ensures c.in-Condition.is) c.term-x.ensures (λ e. c.if-x-eq0.false (ap (of_z w64) e))

pub fold-term-x-requires-in-Head : goal.fold-term-x-requires-in-Head
fold-term-x-requires-in-Head t c = (omega (arith, c.decreases, c.loop-g.invariant.low), ready-head c.loop-g.invariant.ready (recast_c c.look_clause.ensures c.in-Head.is))

pub fold-merge-requires : goal.fold-merge-requires
fold-merge-requires t c = ready-merge c.loop-g.invariant.ready (recast_c c.look_clause.ensures c.in-Head.is) c.sort_of.ensures c.term-x-in-Head.ensures refl (to_z-of_z (fits c.term-x-in-Head.type_inv))

pub fold-returns-in-Head : goal.fold-returns-in-Head
fold-returns-in-Head t c = total-folded (to_z-of_z c.ranges.acc) (c.loop-g.invariant.back _ _ (f-head c.loop-g.invariant.ready (recast_c c.look_clause.ensures c.in-Head.is) c.sort_of.ensures c.term-x-in-Head.ensures refl (to_z-of_z (fits c.term-x-in-Head.type_inv)) (to_z-of_z (fits c.merge.type_inv) ∙ c.merge.ensures))) refl

pub operand-returns-in-Number : goal.operand-returns-in-Number
operand-returns-in-Number t c = s-number (sym (leaf-recast c.leaf_at.ensures c.in-Number.is).is) (to_z-of_z (fits c.in-Number.known_told-1-own.given.0.1)) (to_z-of_z (fits c.read_as.type_inv) ∙ c.read_as.ensures)

pub operand-returns-in-Cell : goal.operand-returns-in-Cell
operand-returns-in-Cell t c = s-cell (sym (leaf-recast c.leaf_at.ensures c.in-Cell.is).is) c.field.ensures (to_z-of_z (fits c.field.type_inv)) (to_z-of_z (fits c.read_as-in-Cell.type_inv) ∙ c.read_as-in-Cell.ensures)

pub reduced-overflow_add-i : goal.reduced-overflow_add-i
reduced-overflow_add-i t c = let p = (monoid-looks c.monoid_of.ensures c.in-Some.is).inside in omega (arith, p)

pub reduced-total-t-requires : goal.reduced-total-t-requires
reduced-total-t-requires t c = let w = (monoid-looks c.monoid_of.ensures c.in-Some.is) in (omega (arith, c.decreases, w.inside), ready-comp w (to_z-of_z (fits c.zero.type_inv) ∙ c.zero.ensures) c.requires.ready)

pub reduced-returns-in-Some : goal.reduced-returns-in-Some
reduced-returns-in-Some t c = s-comp (monoid-looks c.monoid_of.ensures c.in-Some.is) c.requires.ready c.sort_of.ensures (to_z-of_z (fits c.zero.type_inv) ∙ c.zero.ensures) c.total-t.ensures (to_z-of_z (fits c.total-t.type_inv)) c.finish-x.ensures (to_z-of_z (fits c.finish-x.type_inv)) (to_z-of_z (fits c.read_as.type_inv) ∙ c.read_as.ensures)

pub rounds-loop-r-init : goal.rounds-loop-r-init
rounds-loop-r-init t c = turn-first refl

pub rounds-returns-then-r-ge-NO_MORE : goal.rounds-returns-then-r-ge-NO_MORE
rounds-returns-then-r-ge-NO_MORE t c = turn_last c.loop-r.invariant (to_z-of_z c.ranges.acc) c.requires c.turn-r.ensures c.if-r-ge-NO_MORE.true c.slot-old.ensures c.bind.ensures

pub rounds-total-a-requires : goal.rounds-total-a-requires
rounds-total-a-requires t c = (omega (arith, c.decreases), turn-ready c.loop-r.invariant (to_z-of_z c.ranges.acc) c.requires c.turn-r.ensures c.if-r-ge-NO_MORE.false)

pub rounds-loop-r-preserved : goal.rounds-loop-r-preserved
rounds-loop-r-preserved t c = turn-again c.loop-r.invariant (to_z-of_z c.ranges.acc) c.requires c.turn-r.ensures c.if-r-ge-NO_MORE.false c.total-a.ensures (to_z-of_z (fits c.total-a.type_inv))

pub scalar-operand-a-requires : goal.scalar-operand-a-requires
scalar-operand-a-requires t c = let w = recast c.look.ensures c.in-Binary.is in (omega (arith, c.decreases, w.inside.0, w.inside.1), ready-first w c.requires)

pub scalar-operand-b-requires : goal.scalar-operand-b-requires
scalar-operand-b-requires t c = let w = recast c.look.ensures c.in-Binary.is in (omega (arith, c.decreases, w.inside.0, w.inside.1), ready-second w c.operand-a.ensures c.requires)

pub scalar-operate-requires : goal.scalar-operate-requires
scalar-operate-requires t c = ready-operate (recast c.look.ensures c.in-Binary.is) c.operands-k.ensures c.operand-a.ensures c.operand-b.ensures c.requires (to_z-of_z (fits c.operand-a.type_inv)) (to_z-of_z (fits c.operand-b.type_inv))

pub scalar-term-a-requires : goal.scalar-term-a-requires
scalar-term-a-requires t c = let w = recast c.look.ensures c.in-Negation.is in (omega (arith, c.decreases, w.inside), ready-negated w c.requires)

pub scalar-operand-c-requires : goal.scalar-operand-c-requires
scalar-operand-c-requires t c = let w = recast c.look.ensures c.in-Operator.is in (omega (arith, c.decreases, truth-behind w c.upto.ensures, w.inside.0, w.inside.1), ready-truth w c.upto.ensures c.requires)

pub scalar-operand-requires : goal.scalar-operand-requires
scalar-operand-requires t c = let w = recast c.look.ensures c.in-Operator.is in (omega (arith, c.decreases, branch-behind w c.upto.ensures c.operand-c.ensures _ c.branch-j.ensures, w.inside.0, w.inside.1), ready-branch w c.upto.ensures c.operand-c.ensures _ c.requires c.branch-j.ensures)

pub scalar-operand-t-requires : goal.scalar-operand-t-requires
scalar-operand-t-requires t c = let w = recast c.look.ensures c.in-Operator.is in (omega (arith, c.decreases, truth-behind w c.upto-in-Open.ensures, w.inside.0, w.inside.1), ready-truth w c.upto-in-Open.ensures c.requires)

pub scalar-returns-in-Number : goal.scalar-returns-in-Number
scalar-returns-in-Number t c = s-number (recast c.look.ensures c.in-Number.is).is (to_z-of_z (fits c.in-Number.known_told-1-own.given.0.1)) (to_z-of_z (fits c.read_as.type_inv) ∙ c.read_as.ensures)

pub scalar-returns-in-Truth : goal.scalar-returns-in-Truth
scalar-returns-in-Truth t c = s-truth (recast c.look.ensures c.in-Truth.is).is c.truth_word.ensures (to_z-of_z (fits c.truth_word.type_inv)) (to_z-of_z (fits c.read_as-in-Truth.type_inv) ∙ c.read_as-in-Truth.ensures)

pub scalar-returns-in-Row : goal.scalar-returns-in-Row
scalar-returns-in-Row t c = s-row (recast c.look.ensures c.in-Row.is).is

pub scalar-returns-in-Cell : goal.scalar-returns-in-Cell
scalar-returns-in-Cell t c = s-cell (recast c.look.ensures c.in-Cell.is).is c.field.ensures (to_z-of_z (fits c.field.type_inv)) (to_z-of_z (fits c.read_as-in-Cell.type_inv) ∙ c.read_as-in-Cell.ensures)

pub scalar-returns-in-Record : goal.scalar-returns-in-Record
scalar-returns-in-Record t c = s-record (recast c.look.ensures c.in-Record.is).is

pub scalar-returns-in-Binary : goal.scalar-returns-in-Binary
scalar-returns-in-Binary t c = s-binary (recast c.look.ensures c.in-Binary.is) c.operands-k.ensures c.operand-a.ensures c.operand-b.ensures c.result.ensures (to_z-of_z (fits c.operand-a.type_inv)) (to_z-of_z (fits c.operand-b.type_inv)) c.operate.ensures (to_z-of_z (fits c.operate.type_inv)) (to_z-of_z (fits c.read_as-in-Binary.type_inv) ∙ c.read_as-in-Binary.ensures)

pub scalar-returns-in-Negation : goal.scalar-returns-in-Negation
scalar-returns-in-Negation t c = s-negation (recast c.look.ensures c.in-Negation.is) c.term-a.ensures (to_z-of_z (fits c.term-a.type_inv)) c.negated.ensures (to_z-of_z (fits c.negated.type_inv)) (to_z-of_z (fits c.read_as-in-Negation.type_inv) ∙ c.read_as-in-Negation.ensures)

pub scalar-returns-in-Choice : goal.scalar-returns-in-Choice
scalar-returns-in-Choice t c = s-choice (recast c.look.ensures c.in-Operator.is) c.upto.ensures c.operand-c.ensures c.in-Choice.is (same-is (fits c.operand-c.type_inv) (sfits_lit {z = pos 0} tt)) c.branch-j.ensures c.operand.ensures (to_z-of_z (fits c.operand.type_inv))

pub scalar-returns-in-Open : goal.scalar-returns-in-Open
scalar-returns-in-Open t c = s-open (recast c.look.ensures c.in-Operator.is) c.upto-in-Open.ensures c.operand-t.ensures c.in-Open.is (to_z-of_z (fits c.operand-t.type_inv)) c.open_at.ensures c.truth_word-in-Open.ensures (to_z-of_z (fits c.truth_word-in-Open.type_inv)) (to_z-of_z (fits c.read_as-in-Open.type_inv) ∙ c.read_as-in-Open.ensures)

pub scalar-returns-in-Generator : goal.scalar-returns-in-Generator
scalar-returns-in-Generator t c = s-generator (recast c.look.ensures c.in-Generator.is).is

pub scalar-returns-in-Condition : goal.scalar-returns-in-Condition
scalar-returns-in-Condition t c = s-condition (recast c.look.ensures c.in-Condition.is).is

pub scalar-returns-in-Nothing : goal.scalar-returns-in-Nothing
scalar-returns-in-Nothing t c = s-nothing (recast c.look.ensures c.in-Nothing.is).is

pub total-quick-requires : goal.total-quick-requires
total-quick-requires t c = total-ready c.requires (to_z-of_z c.ranges.acc)

pub total-returns-in-Some : goal.total-returns-in-Some
total-returns-in-Some t c = total-done c.requires (to_z-of_z c.ranges.acc) c.quick.ensures c.in-Some.is (to_z-of_z (fits c.in-Some.known_told-1-own.given.0.1))
