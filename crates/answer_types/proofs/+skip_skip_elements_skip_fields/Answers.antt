-- `answer_types`: `skip`, `skip_elements` and `skip_fields` meet their contracts together, by Types, SkipExits.
use native.Mathlib.Omega.{arith}
use Rattle.answer_types.proofs.Types.{reshape}
use Rattle.answer_types.proofs.SkipExits.{skipped, skip-word, skip-words, skip-record, skip-collection, fields-less, fields-again, fields-last, elements-again, elements-last}
use Rattle.answer_types.proofs.+skip_skip_elements_skip_fields.Goals as goal

pub skip-returns-in-Word : goal.skip-returns-in-Word
skip-returns-in-Word t c = skip-word (reshape c.requires c.in-Word.is) c.step.ensures

pub skip-returns-in-Words : goal.skip-returns-in-Words
skip-returns-in-Words t c = skip-words (reshape c.requires c.in-Words.is) c.ahead.ensures

pub skip-returns-in-Fields : goal.skip-returns-in-Fields
skip-returns-in-Fields t c = skip-record (reshape c.requires c.in-Fields.is) c.skip_fields.ensures

pub skip-returns-in-Elements : goal.skip-returns-in-Elements
skip-returns-in-Elements t c = skip-collection (reshape c.requires c.in-Elements.is) c.tally.ensures.0 c.step-in-Elements.ensures c.skip_elements.ensures

pub skip_elements-loop-preserved : goal.skip_elements-loop-preserved
skip_elements-loop-preserved t c = elements-again c.loop.invariant (omega arith) (skipped c.element_layout-t.ensures c.skip-q.ensures)

pub skip_elements-returns : goal.skip_elements-returns
skip_elements-returns t c = elements-last c.loop.invariant (omega arith)

pub skip_fields-loop-i-smaller : goal.skip_fields-loop-i-smaller
skip_fields-loop-i-smaller t c = fields-less c.loop-i.invariant c.loop-i-test.true c.requires c.next-i.ensures

pub skip_fields-loop-i-preserved : goal.skip_fields-loop-i-preserved
skip_fields-loop-i-preserved t c = fields-again c.loop-i.invariant c.loop-i-test.true c.requires (skipped c.layout_at.ensures c.skip-q.ensures) c.next-i.ensures

pub skip_fields-returns : goal.skip_fields-returns
skip_fields-returns t c = fields-last c.loop-i.invariant c.loop-i-test.false
