-- `answer_canonical`: `walk`, `walk_elements` and `walk_fields` meet their contracts together, by WalkExits, answer_types/Types.
use native.Mathlib.Omega.{arith}
use mathlib.Core.Path.{refl, ap, ◌∙◌}
use Prim.Native.Nat.{◌+◌, ◌-◌}
use Rattle.form_words.specs.FormTree.{left}
use Rattle.answer_types.proofs.Types.{reshape, as-words, laid_as}
use Rattle.answer_canonical.proofs.WalkExits.{walk-words, walk-record, walk-collection, written, written_at, WalkingFields, fields-first, fields-again, fields-less, fields-last, Walking, walk_first, walk-again, walk-last}
use borrow.Author.Rules.{rules}
use Prim.Native.Nat.{ℕ, ◌<◌}
use Rattle.answer_canonical.proofs.+walk_walk_elements_walk_fields.Goals as goal

pub walk-overflow_add-t : goal.walk-overflow_add-t
walk-overflow_add-t t c = let p = (reshape c.requires c.in-Fields.is).is in omega arith

pub walk-walk_fields-requires : goal.walk-walk_fields-requires
walk-walk_fields-requires t c = let p = (reshape c.requires c.in-Fields.is).is in (omega (arith, c.decreases, p.0), p.1)

pub walk-walk_elements-requires : goal.walk-walk_elements-requires
walk-walk_elements-requires t c = let p = (reshape c.requires c.in-Elements.is).is in (omega (arith, c.decreases, p.0, p.1, ap left c.element_layout.ensures.at_place), c.element_layout.ensures.shaped)

pub walk-shape_of-o-in-Word : goal.walk-shape_of-o-in-Word
walk-shape_of-o-in-Word t c = c.carry.auto.o

pub walk-returns-in-Word : goal.walk-returns-in-Word
walk-returns-in-Word t c = walk-words (as-words (reshape c.requires c.in-Word.is)) c.carry.ensures

pub walk-shape_of-o-in-Words : goal.walk-shape_of-o-in-Words
walk-shape_of-o-in-Words t c = c.carry-in-Words.auto.o

pub walk-returns-in-Words : goal.walk-returns-in-Words
walk-returns-in-Words t c = walk-words (reshape c.requires c.in-Words.is) c.carry-in-Words.ensures

pub walk-shape_of-o-in-Fields : goal.walk-shape_of-o-in-Fields
walk-shape_of-o-in-Fields t c = c.walk_fields.auto.o

pub walk-returns-in-Fields : goal.walk-returns-in-Fields
walk-returns-in-Fields t c = walk-record (reshape c.requires c.in-Fields.is) c.walk_fields.ensures

pub walk-shape_of-o-in-Elements : goal.walk-shape_of-o-in-Elements
walk-shape_of-o-in-Elements t c = c.walk_elements.auto.o ∙ c.carry-b.auto.o

pub walk-returns-in-Elements : goal.walk-returns-in-Elements
walk-returns-in-Elements t c = walk-collection (reshape c.requires c.in-Elements.is) (laid_as c.element_layout.ensures) c.tally-n.ensures.0 c.carry-b.ensures c.walk_elements.ensures

pub walk_elements-loop-init : goal.walk_elements-loop-init
walk_elements-loop-init t c = walk_first (omega arith)

pub walk_elements-walk-g-requires : goal.walk_elements-walk-g-requires
walk_elements-walk-g-requires t c = (omega (arith, c.decreases), c.requires)

pub walk_elements-arrange-g-requires : goal.walk_elements-arrange-g-requires
walk_elements-arrange-g-requires t c = c.requires

pub walk_elements-loop-preserved : goal.walk_elements-loop-preserved
walk_elements-loop-preserved t c = walk-again c.loop.invariant (omega arith) (c.arrange-g.auto.o ∙ c.walk-g.auto.o) (written refl c.walk-g.ensures c.arrange-g.ensures)

pub walk_elements-shape_of-o : goal.walk_elements-shape_of-o
walk_elements-shape_of-o t c = c.loop.invariant.long

pub walk_elements-returns : goal.walk_elements-returns
walk_elements-returns t c = walk-last c.loop.invariant (omega arith)

pub walk_fields-loop-i-init : goal.walk_fields-loop-i-init
walk_fields-loop-i-init t c = fields-first

pub walk_fields-walk-g-requires : goal.walk_fields-walk-g-requires
walk_fields-walk-g-requires t c = (omega (arith, c.decreases, c.loop-i.invariant.past, ap left c.layout_at-t.ensures.at_place), c.layout_at-t.ensures.shaped)

pub walk_fields-arrange-g-requires : goal.walk_fields-arrange-g-requires
walk_fields-arrange-g-requires t c = c.layout_at-t.ensures.shaped

pub walk_fields-loop-i-smaller : goal.walk_fields-loop-i-smaller
walk_fields-loop-i-smaller t c = fields-less c.loop-i.invariant c.loop-i-test.true c.requires c.next-i.ensures

pub walk_fields-loop-i-preserved : goal.walk_fields-loop-i-preserved
walk_fields-loop-i-preserved t c = fields-again c.loop-i.invariant c.loop-i-test.true c.requires c.next-i.ensures (c.arrange-g.auto.o ∙ c.walk-g.auto.o) (written_at (laid_as c.layout_at-t.ensures) (written refl c.walk-g.ensures c.arrange-g.ensures))

pub walk_fields-shape_of-o : goal.walk_fields-shape_of-o
walk_fields-shape_of-o t c = c.loop-i.invariant.long

pub walk_fields-returns : goal.walk_fields-returns
walk_fields-returns t c = fields-last c.loop-i.invariant c.loop-i-test.false
