-- `answer_writer::shape_at` meets its contract, by Exits, form_words/NodeWords.
use mathlib.Core.Path.{refl, ap}
use Rattle.form_words.proofs.NodeWords.{look-truth, look-row, look-record, look-binary, look-negation, look-operator, look-comprehension}
use Rattle.answer_writer.specs.declared.WriteForm.TheVariants.{Word}
use Rattle.answer_writer.proofs.Exits.{shape_is, shape-out, shape-rest}
use borrow.Author.Rules.{rules}
use Rattle.answer_writer.proofs.shape_at.Goals as goal

pub returns-then-i-ge-FORM_WORDS : goal.returns-then-i-ge-FORM_WORDS
returns-then-i-ge-FORM_WORDS c = shape-out c.if-i-ge-FORM_WORDS.true

pub returns-in-2 : goal.returns-in-2
returns-in-2 c = shape_is (look-truth c.if-i-ge-FORM_WORDS.false c.word-w.ensures c.arg-a.ensures c.kind.ensures c.in-2.is refl) refl

pub returns-in-3 : goal.returns-in-3
returns-in-3 c = shape_is (look-row c.if-i-ge-FORM_WORDS.false c.word-w.ensures c.arg-a.ensures c.kind.ensures c.in-3.is c.low.ensures) refl

pub returns-in-5 : goal.returns-in-5
returns-in-5 c = shape_is (look-record c.if-i-ge-FORM_WORDS.false c.word-w.ensures c.arg-a.ensures c.kind.ensures c.in-5.is c.next.ensures) refl

pub returns-in-6 : goal.returns-in-6
returns-in-6 c = shape_is (look-binary c.if-i-ge-FORM_WORDS.false c.word-w.ensures c.arg-a.ensures c.kind.ensures c.in-6.is c.from_number.ensures refl) (ap Word c.result.ensures)

pub returns-in-7 : goal.returns-in-7
returns-in-7 c = shape_is (look-negation c.if-i-ge-FORM_WORDS.false c.word-w.ensures c.arg-a.ensures c.kind.ensures c.in-7.is) refl

pub returns-in-11 : goal.returns-in-11
returns-in-11 c = shape_is (look-operator c.if-i-ge-FORM_WORDS.false c.word-w.ensures c.arg-a.ensures c.kind.ensures c.in-11.is refl refl) refl

pub returns-in-8 : goal.returns-in-8
returns-in-8 c = shape_is (look-comprehension c.if-i-ge-FORM_WORDS.false c.word-w.ensures c.arg-a.ensures c.kind.ensures c.in-8.is c.from_bits.ensures) c.comprehension_shape.ensures

pub returns-in_default : goal.returns-in_default
returns-in_default c = let m = c.in_default.in_default-own.rest in shape-rest c.word-w.ensures c.kind.ensures m.0.0.0.0.0.0.1 m.0.0.0.0.0.1 m.0.0.0.0.1 m.0.0.0.1 m.0.0.1 m.0.1 m.1
