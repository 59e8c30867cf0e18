-- `form_words::look` meets its contract, by NodeWords, base_signed/SignedWords.
use mathlib.Core.Path.{refl, ◌∙◌}
use mir.Facts.{to_z-of_z}
use Rattle.base_signed.proofs.SignedWords.{fits}
use Rattle.form_words.proofs.NodeWords.{look-out, look-number, look-truth, look-row, look-cell, look-record, look-binary, look-negation, look-comprehension, look-generator, look-condition, look-operator, look-rest}
use Rattle.form_words.proofs.look.Goals as goal

pub returns-then-i-ge-FORM_WORDS : goal.returns-then-i-ge-FORM_WORDS
returns-then-i-ge-FORM_WORDS c = look-out c.if-i-ge-FORM_WORDS.true

pub returns-in-1 : goal.returns-in-1
returns-in-1 c = look-number c.if-i-ge-FORM_WORDS.false c.word-w.ensures c.arg-a.ensures c.kind.ensures c.in-1.is (to_z-of_z (fits c.number.type_inv) ∙ c.number.ensures)

pub returns-in-2 : goal.returns-in-2
returns-in-2 c = look-truth c.if-i-ge-FORM_WORDS.false c.word-w.ensures c.arg-a.ensures c.kind.ensures c.in-2.is refl

pub returns-in-3 : goal.returns-in-3
returns-in-3 c = look-row c.if-i-ge-FORM_WORDS.false c.word-w.ensures c.arg-a.ensures c.kind.ensures c.in-3.is c.low.ensures

pub returns-in-4 : goal.returns-in-4
returns-in-4 c = look-cell c.if-i-ge-FORM_WORDS.false c.word-w.ensures c.arg-a.ensures c.kind.ensures c.in-4.is c.low-in-4.ensures c.low-in-4-2.ensures

pub returns-in-5 : goal.returns-in-5
returns-in-5 c = look-record c.if-i-ge-FORM_WORDS.false c.word-w.ensures c.arg-a.ensures c.kind.ensures c.in-5.is c.next.ensures

pub returns-in-6 : goal.returns-in-6
returns-in-6 c = look-binary c.if-i-ge-FORM_WORDS.false c.word-w.ensures c.arg-a.ensures c.kind.ensures c.in-6.is c.from_number.ensures c.next-in-6.ensures

pub returns-in-7 : goal.returns-in-7
returns-in-7 c = look-negation c.if-i-ge-FORM_WORDS.false c.word-w.ensures c.arg-a.ensures c.kind.ensures c.in-7.is

pub returns-in-8 : goal.returns-in-8
returns-in-8 c = look-comprehension c.if-i-ge-FORM_WORDS.false c.word-w.ensures c.arg-a.ensures c.kind.ensures c.in-8.is c.from_bits.ensures

pub returns-in-9 : goal.returns-in-9
returns-in-9 c = look-generator c.if-i-ge-FORM_WORDS.false c.word-w.ensures c.arg-a.ensures c.kind.ensures c.in-9.is c.low-in-9.ensures c.low-in-9-2.ensures

pub returns-in-10 : goal.returns-in-10
returns-in-10 c = look-condition c.if-i-ge-FORM_WORDS.false c.word-w.ensures c.arg-a.ensures c.kind.ensures c.in-10.is c.next-in-10.ensures

pub returns-in-11 : goal.returns-in-11
returns-in-11 c = look-operator c.if-i-ge-FORM_WORDS.false c.word-w.ensures c.arg-a.ensures c.kind.ensures c.in-11.is c.from_number-in-11.ensures c.next-in-11.ensures

pub returns-in_default : goal.returns-in_default
returns-in_default c = let m = c.in_default.in_default-own.rest in look-rest c.word-w.ensures c.kind.ensures m.0.0.0.0.0.0.0.0.0.0.1 m.0.0.0.0.0.0.0.0.0.1 m.0.0.0.0.0.0.0.0.1 m.0.0.0.0.0.0.0.1 m.0.0.0.0.0.0.1 m.0.0.0.0.0.1 m.0.0.0.0.1 m.0.0.0.1 m.0.0.1 m.0.1 m.1
