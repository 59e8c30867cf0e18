-- `exec_terms`: `operand` and `scalar` meet their contracts together, by ReaderExits, base_signed/SignedWords, form_words/NodeWords.
use native.Mathlib.Omega.{arith}
use mathlib.Core.Path.{refl, sym, subst, ◌∙◌}
use lib.IntN.{pos}
use mir.Facts.{to_z-of_z, sfits_lit}
use Rattle.base_signed.proofs.SignedWords.{fits, same-is}
use Rattle.form_words.proofs.NodeWords.{look-number, look-truth, look-cell, look-binary, look-negation, look-operator, look-comprehension, leaf-recast}
use Rattle.exec_terms.specs.Contract.{ScalarPost}
use Rattle.form_words.proofs.Operands.{truth-behind, branch-past}
use Rattle.exec_terms.proofs.ReaderExits.{s-number, s-truth, s-cell, s-out, s-rest, s-operated, s-negation, s-choice, s-open, s-comp}
use Rattle.exec_terms.proofs.+operand_scalar.Goals as goal

pub operand-scalar-requires : goal.operand-scalar-requires
operand-scalar-requires t c = (omega (arith, c.decreases), tt)

pub operand-returns-in-Number : goal.operand-returns-in-Number
operand-returns-in-Number t c = s-number (sym (leaf-recast c.leaf_at.ensures c.in-Number.is).is) (to_z-of_z (fits c.in-Number.known_told-1-own.given.0.1)) (to_z-of_z (fits c.read_as.type_inv) ∙ c.read_as.ensures)

pub operand-returns-in-Cell : goal.operand-returns-in-Cell
operand-returns-in-Cell t c = s-cell (sym (leaf-recast c.leaf_at.ensures c.in-Cell.is).is) c.field.ensures (to_z-of_z (fits c.field.type_inv)) (to_z-of_z (fits c.read_as-in-Cell.type_inv) ∙ c.read_as-in-Cell.ensures)

pub operand-returns-in-Other : goal.operand-returns-in-Other
operand-returns-in-Other t c = subst (ScalarPost c.args.data.now c.args.s.now c.args.i c.args.want) (sym (to_z-of_z (fits c.scalar.type_inv))) c.scalar.ensures

pub scalar-returns-then-i-ge-FORM_WORDS : goal.scalar-returns-then-i-ge-FORM_WORDS
scalar-returns-then-i-ge-FORM_WORDS t c = s-out c.if-i-ge-FORM_WORDS.true

pub scalar-operand-a-requires : goal.scalar-operand-a-requires
scalar-operand-a-requires t c = let w = look-binary {s = c.args.s.now} c.if-i-ge-FORM_WORDS.false c.word-w.ensures c.arg-x.ensures c.kind.ensures c.in-6.is c.from_number-o.ensures refl in (omega (arith, c.decreases, w.inside.0, w.inside.1), tt)

pub scalar-operand-b-requires : goal.scalar-operand-b-requires
scalar-operand-b-requires t c = let w = look-binary {s = c.args.s.now} c.if-i-ge-FORM_WORDS.false c.word-w.ensures c.arg-x.ensures c.kind.ensures c.in-6.is c.from_number-o.ensures c.next.ensures in (omega (arith, c.decreases, w.inside.0, w.inside.1), tt)

pub scalar-scalar-a-requires : goal.scalar-scalar-a-requires
scalar-scalar-a-requires t c = let w = look-negation {s = c.args.s.now} c.if-i-ge-FORM_WORDS.false c.word-w.ensures c.arg-x.ensures c.kind.ensures c.in-7.is in (omega (arith, c.decreases, w.inside), tt)

pub scalar-operand-c-requires : goal.scalar-operand-c-requires
scalar-operand-c-requires t c = let w = look-operator {s = c.args.s.now} c.if-i-ge-FORM_WORDS.false c.word-w.ensures c.arg-x.ensures c.kind.ensures c.in-11.is c.from_number.ensures c.next-e.ensures in (omega (arith, c.decreases, truth-behind w c.upto.ensures, w.inside.0, w.inside.1), tt)

pub scalar-operand-requires : goal.scalar-operand-requires
scalar-operand-requires t c = let w = look-operator {s = c.args.s.now} c.if-i-ge-FORM_WORDS.false c.word-w.ensures c.arg-x.ensures c.kind.ensures c.in-11.is c.from_number.ensures c.next-e.ensures in (omega (arith, c.decreases, branch-past w _ c.branch-j.ensures, w.inside.0, w.inside.1), tt)

pub scalar-operand-t-requires : goal.scalar-operand-t-requires
scalar-operand-t-requires t c = let w = look-operator {s = c.args.s.now} c.if-i-ge-FORM_WORDS.false c.word-w.ensures c.arg-x.ensures c.kind.ensures c.in-11.is c.from_number.ensures c.next-e.ensures in (omega (arith, c.decreases, truth-behind w c.upto-in-Open.ensures, w.inside.0, w.inside.1), tt)

pub scalar-returns-in-1 : goal.scalar-returns-in-1
scalar-returns-in-1 t c = s-number (look-number c.if-i-ge-FORM_WORDS.false c.word-w.ensures c.arg-x.ensures c.kind.ensures c.in-1.is c.number.ensures).is (to_z-of_z (fits c.number.type_inv)) (to_z-of_z (fits c.read_as.type_inv) ∙ c.read_as.ensures)

pub scalar-returns-in-2 : goal.scalar-returns-in-2
scalar-returns-in-2 t c = s-truth (look-truth c.if-i-ge-FORM_WORDS.false c.word-w.ensures c.arg-x.ensures c.kind.ensures c.in-2.is refl).is c.truth_word.ensures (to_z-of_z (fits c.truth_word.type_inv)) (to_z-of_z (fits c.read_as-in-2.type_inv) ∙ c.read_as-in-2.ensures)

pub scalar-returns-in-4 : goal.scalar-returns-in-4
scalar-returns-in-4 t c = s-cell (look-cell c.if-i-ge-FORM_WORDS.false c.word-w.ensures c.arg-x.ensures c.kind.ensures c.in-4.is c.low-c.ensures c.low.ensures).is c.field.ensures (to_z-of_z (fits c.field.type_inv)) (to_z-of_z (fits c.read_as-in-4.type_inv) ∙ c.read_as-in-4.ensures)

pub scalar-returns-in-6 : goal.scalar-returns-in-6
scalar-returns-in-6 t c = s-operated (look-binary c.if-i-ge-FORM_WORDS.false c.word-w.ensures c.arg-x.ensures c.kind.ensures c.in-6.is c.from_number-o.ensures c.next.ensures) c.operands-k.ensures c.operand-a.ensures c.operand-b.ensures c.result.ensures (to_z-of_z (fits c.operand-a.type_inv)) (to_z-of_z (fits c.operand-b.type_inv)) c.operate.ensures.is (to_z-of_z (fits c.operate.type_inv)) (to_z-of_z (fits c.read_as-in-6.type_inv) ∙ c.read_as-in-6.ensures)

pub scalar-returns-in-7 : goal.scalar-returns-in-7
scalar-returns-in-7 t c = s-negation (look-negation c.if-i-ge-FORM_WORDS.false c.word-w.ensures c.arg-x.ensures c.kind.ensures c.in-7.is) c.scalar-a.ensures (to_z-of_z (fits c.scalar-a.type_inv)) c.negated.ensures (to_z-of_z (fits c.negated.type_inv)) (to_z-of_z (fits c.read_as-in-7.type_inv) ∙ c.read_as-in-7.ensures)

pub scalar-returns-in-Choice : goal.scalar-returns-in-Choice
scalar-returns-in-Choice t c = s-choice (look-operator {s = c.args.s.now} c.if-i-ge-FORM_WORDS.false c.word-w.ensures c.arg-x.ensures c.kind.ensures c.in-11.is c.from_number.ensures c.next-e.ensures) c.in-Choice.is c.upto.ensures c.operand-c.ensures (same-is (fits c.operand-c.type_inv) (sfits_lit {z = pos 0} tt)) c.branch-j.ensures c.operand.ensures (to_z-of_z (fits c.operand.type_inv))

pub scalar-returns-in-Open : goal.scalar-returns-in-Open
scalar-returns-in-Open t c = s-open (look-operator {s = c.args.s.now} c.if-i-ge-FORM_WORDS.false c.word-w.ensures c.arg-x.ensures c.kind.ensures c.in-11.is c.from_number.ensures c.next-e.ensures) c.in-Open.is c.upto-in-Open.ensures c.operand-t.ensures (to_z-of_z (fits c.operand-t.type_inv)) c.open_at.ensures c.truth_word-in-Open.ensures (to_z-of_z (fits c.truth_word-in-Open.type_inv)) (to_z-of_z (fits c.read_as-in-Open.type_inv) ∙ c.read_as-in-Open.ensures)

pub scalar-returns-in-8 : goal.scalar-returns-in-8
scalar-returns-in-8 t c = s-comp (look-comprehension c.if-i-ge-FORM_WORDS.false c.word-w.ensures c.arg-x.ensures c.kind.ensures c.in-8.is c.from_bits-m.ensures) c.sort_of-k.ensures c.accumulator-total.ensures (to_z-of_z (fits c.accumulator-total.type_inv)) c.finish.ensures (to_z-of_z (fits c.finish.type_inv)) (to_z-of_z (fits c.read_as-in-8.type_inv) ∙ c.read_as-in-8.ensures)

pub scalar-returns-in_default : goal.scalar-returns-in_default
scalar-returns-in_default t c = let m = c.in_default.in_default-own.rest in s-rest c.word-w.ensures c.kind.ensures m.0.0.0.0.0.0.1 m.0.0.0.0.0.1 m.0.0.0.0.1 m.0.0.0.1 m.0.0.1 m.0.1 m.1
