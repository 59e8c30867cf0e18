use Prim.Native.Nat.{◌+◌, ◌-◌}
use Rattle.form_words.specs.FormTree.{left}
use Rattle.answer_types.proofs.SkipExits.{SkippingFields, Skipping}
use Rattle.answer_types.proofs.+skip_skip_elements_skip_fields.Given as goal

abbrev pub decreases-skip : goal.decreases-skip
decreases-skip l = left l.t.place

abbrev pub decreases-skip_elements : goal.decreases-skip_elements
decreases-skip_elements l = left l.i + 1

abbrev pub invariant-skip_elements-loop : goal.invariant-skip_elements-loop
invariant-skip_elements-loop l = Skipping l.s l.w l.i l.count l.p (l.count - l.counter) l.q

abbrev pub decreases-skip_fields : goal.decreases-skip_fields
decreases-skip_fields l = left l.c + 1

abbrev pub invariant-skip_fields-loop-i : goal.invariant-skip_fields-loop-i
invariant-skip_fields-loop-i l = SkippingFields l.s l.w l.c l.e l.p l.i l.q

abbrev pub decreases-skip_fields-loop-i : goal.decreases-skip_fields-loop-i
decreases-skip_fields-loop-i l = l.e - l.i
