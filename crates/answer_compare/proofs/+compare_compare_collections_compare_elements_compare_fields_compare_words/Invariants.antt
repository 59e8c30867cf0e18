use native.Mathlib.Omega.{arith}
use mathlib.Core.Path.{refl, ◌∙◌}
use Prim.Native.Nat.{◌+◌, ◌-◌, ◌*◌}
use mir.Facts.{to_z-of_z}
use Rattle.base_signed.proofs.SignedWords.{fits}
use Rattle.answer_compare.specs.Depth.{depth_at, depths_at}
use Rattle.answer_compare.proofs.Depth.{number-deep, fields-deep, elements-deep, words-deep, first-deep}
use Rattle.form_words.proofs.NodeWords.{look-out}
use Rattle.answer_types.proofs.Types.{reshape, shape-word}
use Rattle.answer_compare.proofs.CompareExits.{compare-word, compare-flat, words-compared, words-behind, compare-record, compare-elements, collection-decided, collection-equal, ComparingFields, fields-first, fields-decided, fields-again, fields-less, fields-last, Comparing, compare-first, elements-decided, compare-again, compare-last, compare-behind, nothing-behind}
use borrow.Author.Rules.{rules}
use Prim.Native.Nat.{ℕ, ◌<◌}
use Rattle.answer_compare.proofs.+compare_compare_collections_compare_elements_compare_fields_compare_words.Given as goal

abbrev pub decreases-compare : goal.decreases-compare
decreases-compare l = 3 * depth_at l.s.now l.i

abbrev pub decreases-compare_collections : goal.decreases-compare_collections
decreases-compare_collections l = 3 * depth_at l.s.now l.h + 2

abbrev pub decreases-compare_elements : goal.decreases-compare_elements
decreases-compare_elements l = 3 * depth_at l.s.now l.i + 1

abbrev pub invariant-compare_elements-loop : goal.invariant-compare_elements-loop
invariant-compare_elements-loop l = Comparing l.s l.w l.i l.count l.a l.b (l.count - l.counter) l.x l.y

abbrev pub decreases-compare_fields : goal.decreases-compare_fields
decreases-compare_fields l = 3 * depths_at l.s.now l.c l.e + 1

abbrev pub invariant-compare_fields-loop-d : goal.invariant-compare_fields-loop-d
invariant-compare_fields-loop-d l = ComparingFields l.s l.w l.c l.e l.a l.b l.d l.x l.y

abbrev pub decreases-compare_fields-loop-d : goal.decreases-compare_fields-loop-d
decreases-compare_fields-loop-d l = l.e - l.d

abbrev pub decreases-compare_words : goal.decreases-compare_words
decreases-compare_words l = 2
