-- `form_words::leaf_at` meets its contract, by NodeWords, base_signed/SignedWords.
use mathlib.Core.Path.{◌∙◌}
use mir.Facts.{to_z-of_z}
use Rattle.base_signed.proofs.SignedWords.{fits}
use Rattle.form_words.proofs.NodeWords.{leaf-out, leaf-number, leaf-cell, leaf-rest}
use Rattle.form_words.proofs.leaf_at.Goals as goal

pub returns-then-i-ge-FORM_WORDS : goal.returns-then-i-ge-FORM_WORDS
returns-then-i-ge-FORM_WORDS c = leaf-out c.if-i-ge-FORM_WORDS.true

pub returns-in-1 : goal.returns-in-1
returns-in-1 c = leaf-number c.if-i-ge-FORM_WORDS.false c.word-w.ensures c.arg-a.ensures c.kind.ensures c.in-1.is (to_z-of_z (fits c.number.type_inv) ∙ c.number.ensures)

pub returns-in-4 : goal.returns-in-4
returns-in-4 c = leaf-cell c.if-i-ge-FORM_WORDS.false c.word-w.ensures c.arg-a.ensures c.kind.ensures c.in-4.is c.low.ensures c.low-in-4.ensures

pub returns-in_default : goal.returns-in_default
returns-in_default c = leaf-rest c.word-w.ensures c.kind.ensures c.in_default.in_default-own.rest.0.1 c.in_default.in_default-own.rest.1
