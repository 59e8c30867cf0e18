-- `answer_types`: `width_at` and `width_fields` meet their contracts together, by Types, Widths, form_words/NodeWords.
use native.Mathlib.Omega.{arith}
use mathlib.Core.Path.{refl, sym, ap₂, ◌∙◌}
use Prim.Native.Nat.{◌+◌}
use Rattle.form_words.proofs.NodeWords.{next_past}
use Rattle.answer_types.specs.Widths.{both}
use Rattle.answer_types.proofs.Types.{reshape, as-words}
use Rattle.answer_types.proofs.Widths.{width-words, width-record, width-collection, width-none, width-first, width-more, sum-checked}
use Rattle.answer_types.proofs.+width_at_width_fields.Goals as goal

pub width_at-returns-in-Word : goal.width_at-returns-in-Word
width_at-returns-in-Word t c = width-words (as-words (reshape c.shape_at.ensures.shaped c.in-Word.is)) (omega arith)

pub width_at-returns-in-Words : goal.width_at-returns-in-Words
width_at-returns-in-Words t c = width-words (reshape c.shape_at.ensures.shaped c.in-Words.is) (omega arith)

pub width_at-returns-in-Fields : goal.width_at-returns-in-Fields
width_at-returns-in-Fields t c = width-record (reshape c.shape_at.ensures.shaped c.in-Fields.is) c.width_fields.ensures

pub width_at-returns-in-Elements : goal.width_at-returns-in-Elements
width_at-returns-in-Elements t c = width-collection (reshape c.shape_at.ensures.shaped c.in-Elements.is)

pub width_fields-returns-then-e-c : goal.width_fields-returns-then-e-c
width_fields-returns-then-e-c t c = width-none c.if-e-c.true

pub width_fields-width_fields-requires : goal.width_fields-width_fields-requires
width_fields-width_fields-requires t c = (omega (arith, c.decreases, c.if-e-c.false, c.requires, c.next.ensures, next_past c.args.s.now c.args.c (omega (arith, c.if-e-c.false, c.requires))), c.requires)

pub width_fields-returns-in_err-a : goal.width_fields-returns-in_err-a
width_fields-returns-in_err-a t c = width-first c.if-e-c.false c.requires c.width_at.ensures c.in_err-a.was c.from_residual.ensures

pub width_fields-returns-in_err-b : goal.width_fields-returns-in_err-b
width_fields-returns-in_err-b t c = width-more c.if-e-c.false c.requires c.width_at.ensures c.next.ensures c.width_fields.ensures (c.from_residual-in_err-b.ensures ∙ sym (ap₂ both c.in_ok-a.was c.in_err-b.was))

pub width_fields-returns : goal.width_fields-returns
width_fields-returns t c = width-more c.if-e-c.false c.requires c.width_at.ensures c.next.ensures c.width_fields.ensures
    (sum-checked c.in_ok-a.a c.in_ok-b.b c.checked_add.result (c.in_ok-a.a + c.in_ok-b.b) (omega arith) refl c.checked_add.ensures ∙ sym (ap₂ both c.in_ok-a.was c.in_ok-b.was))
