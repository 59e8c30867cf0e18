use native.Mathlib.Omega.{arith}
use mathlib.Core.Path.{refl, ap, ◌∙◌}
use Prim.Native.Nat.{◌+◌, ◌-◌}
use Rattle.form_words.specs.FormTree.{left}
use Rattle.answer_types.proofs.Types.{reshape, as-words, laid_as}
use Rattle.answer_canonical.proofs.WalkExits.{walk-words, walk-record, walk-collection, written, written_at, WalkingFields, fields-first, fields-again, fields-less, fields-last, Walking, walk_first, walk-again, walk-last}
use borrow.Author.Rules.{rules}
use Prim.Native.Nat.{ℕ, ◌<◌}
use Rattle.answer_canonical.proofs.+walk_walk_elements_walk_fields.Given as goal

abbrev pub decreases-walk : goal.decreases-walk
decreases-walk l = left l.t.place

abbrev pub decreases-walk_elements : goal.decreases-walk_elements
decreases-walk_elements l = left l.t.place + 1

abbrev pub invariant-walk_elements-loop : goal.invariant-walk_elements-loop
invariant-walk_elements-loop l = Walking l.s l.t.place l.count l.initial.g l.initial.o l.o (l.count - l.counter) l.g

abbrev pub decreases-walk_fields : goal.decreases-walk_fields
decreases-walk_fields l = left l.c + 1

abbrev pub invariant-walk_fields-loop-i : goal.invariant-walk_fields-loop-i
invariant-walk_fields-loop-i l = WalkingFields l.s l.c l.end l.initial.g l.initial.o l.o l.i l.g

abbrev pub decreases-walk_fields-loop-i : goal.decreases-walk_fields-loop-i
decreases-walk_fields-loop-i l = l.end - l.i
