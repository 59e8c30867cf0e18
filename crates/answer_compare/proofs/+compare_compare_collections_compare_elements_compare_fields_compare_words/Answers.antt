-- `answer_compare`: `compare`, `compare_collections`, `compare_elements`, `compare_fields` and `compare_words` meet their contracts together, by Depth, CompareExits, base_signed/SignedWords, form_words/NodeWords.
use native.Mathlib.Omega.{arith}
use mathlib.Core.Path.{refl, ◌∙◌}
use Prim.Native.Nat.{◌+◌, ◌-◌, ◌*◌}
use mir.Facts.{to_z-of_z}
use Rattle.base_signed.proofs.SignedWords.{fits}
use Rattle.answer_compare.specs.Depth.{depth_at, depths_at}
use Rattle.answer_compare.proofs.Depth.{number-deep, fields-deep, elements-deep, words-deep, first-deep}
use Rattle.form_words.proofs.NodeWords.{look-out}
use Rattle.answer_types.proofs.Types.{reshape, shape-word}
use Rattle.answer_compare.proofs.CompareExits.{cmp-is, equals, compare-word, compare-flat, words-compared, words-behind, compare-record, compare-elements, collection-decided, collection-equal, ComparingFields, fields-first, fields-decided, fields-again, fields-less, fields-last, Comparing, compare-first, elements-decided, compare-again, compare-last, compare-behind, nothing-behind}
use borrow.Author.Rules.{rules}
use Prim.Native.Nat.{ℕ, ◌<◌}
use Rattle.answer_compare.proofs.+compare_compare_collections_compare_elements_compare_fields_compare_words.Goals as goal

pub compare-returns-then-i-ge-NUMBER_AT : goal.compare-returns-then-i-ge-NUMBER_AT
compare-returns-then-i-ge-NUMBER_AT t c = compare-word (shape-word (look-out c.if-i-ge-NUMBER_AT.true) tt).shaped (to_z-of_z (fits c.word.type_inv) ∙ c.word.ensures) (to_z-of_z (fits c.word-then-i-ge-NUMBER_AT.type_inv) ∙ c.word-then-i-ge-NUMBER_AT.ensures) (cmp-is _ _ _ c.cmp.ensures)

pub compare-compare_words-requires : goal.compare-compare_words-requires
compare-compare_words-requires t c = (omega (arith, c.decreases, words-deep c.args.s.now c.shape_at.ensures c.in-Words.is), tt)

pub compare-compare_fields-requires : goal.compare-compare_fields-requires
compare-compare_fields-requires t c = let p = reshape c.shape_at.ensures.shaped c.in-Fields.is in (omega (arith, c.decreases, fields-deep c.args.s.now p), p.is.1)

pub compare-compare_collections-requires : goal.compare-compare_collections-requires
compare-compare_collections-requires t c = let p = reshape c.shape_at.ensures.shaped c.in-Elements.is in (omega (arith, c.decreases, elements-deep c.args.s.now p), tt)

pub compare-returns-in-Word : goal.compare-returns-in-Word
compare-returns-in-Word t c = compare-word (reshape c.shape_at.ensures.shaped c.in-Word.is) (to_z-of_z (fits c.word-in-Word.type_inv) ∙ c.word-in-Word.ensures) (to_z-of_z (fits c.word-in-Word-2.type_inv) ∙ c.word-in-Word-2.ensures) (cmp-is _ _ _ c.cmp-in-Word.ensures)

pub compare-returns-in-Words : goal.compare-returns-in-Words
compare-returns-in-Words t c = compare-flat (reshape c.shape_at.ensures.shaped c.in-Words.is) c.compare_words.ensures.compare_words_post

pub compare-returns-in-Fields : goal.compare-returns-in-Fields
compare-returns-in-Fields t c = compare-record (reshape c.shape_at.ensures.shaped c.in-Fields.is) c.compare_fields.ensures

pub compare-returns-in-Elements : goal.compare-returns-in-Elements
compare-returns-in-Elements t c = compare-elements (reshape c.shape_at.ensures.shaped c.in-Elements.is) c.compare_collections.ensures

pub compare_collections-returns-then-is_ne : goal.compare_collections-returns-then-is_ne
compare_collections-returns-then-is_ne t c = collection-decided (to_z-of_z (fits c.word.type_inv) ∙ c.word.ensures) (to_z-of_z (fits c.word-2.type_inv) ∙ c.word-2.ensures) (cmp-is _ _ _ c.cmp-order.ensures) c.if-is_ne.ensures

pub compare_collections-returns : goal.compare_collections-returns
compare_collections-returns t c = collection-equal (to_z-of_z (fits c.word.type_inv) ∙ c.word.ensures) (to_z-of_z (fits c.word-2.type_inv) ∙ c.word-2.ensures) (cmp-is _ _ _ c.cmp-order.ensures) (equals c.cmp-order.result c.if-is_ne.ensures) c.tally.ensures.0 c.step.ensures c.step-2.ensures c.compare_elements.ensures.compare_elements_post

pub compare_elements-loop-preserved : goal.compare_elements-loop-preserved
compare_elements-loop-preserved t c = compare-again c.loop.invariant (omega arith) c.compare-order.ensures (equals c.compare-order.result c.if-is_ne.ensures) c.skip_at-x.ensures c.skip_at-y.ensures

pub compare_elements-returns-then-is_ne : goal.compare_elements-returns-then-is_ne
compare_elements-returns-then-is_ne t c = record { compare_elements_post = elements-decided c.loop.invariant (omega arith) c.compare-order.ensures c.if-is_ne.ensures; elements_behind = nothing-behind refl c.if-is_ne.ensures }

pub compare_elements-returns : goal.compare_elements-returns
compare_elements-returns t c = record { compare_elements_post = compare-last c.loop.invariant (omega arith); elements_behind = compare-behind c.loop.invariant (omega arith) refl refl }

pub compare_fields-compare-order-requires : goal.compare_fields-compare-order-requires
compare_fields-compare-order-requires t c = (omega (arith, c.decreases, c.loop-d.invariant.deep, first-deep c.args.s.now c.loop-d-test.true c.requires), tt)

pub compare_fields-loop-d-smaller : goal.compare_fields-loop-d-smaller
compare_fields-loop-d-smaller t c = fields-less c.loop-d.invariant c.loop-d-test.true c.requires c.next-d.ensures

pub compare_fields-loop-d-preserved : goal.compare_fields-loop-d-preserved
compare_fields-loop-d-preserved t c = fields-again c.loop-d.invariant c.loop-d-test.true c.requires c.next-d.ensures c.compare-order.ensures (equals c.compare-order.result c.if-is_ne.ensures) c.skip_at-x.ensures c.skip_at-y.ensures

pub compare_fields-returns-then-is_ne : goal.compare_fields-returns-then-is_ne
compare_fields-returns-then-is_ne t c = fields-decided c.loop-d.invariant c.loop-d-test.true c.requires c.compare-order.ensures c.if-is_ne.ensures

pub compare_fields-returns : goal.compare_fields-returns
compare_fields-returns t c = fields-last c.loop-d.invariant c.loop-d-test.false

pub compare_words-compare_elements-requires : goal.compare_words-compare_elements-requires
compare_words-compare_elements-requires t c = (omega (arith, c.decreases, number-deep c.args.s.now 512 (omega arith)), tt)

pub compare_words-returns : goal.compare_words-returns
compare_words-returns t c = record { compare_words_post = words-compared c.compare_elements.ensures.compare_elements_post; words_behind = words-behind c.compare_elements.ensures.elements_behind }
