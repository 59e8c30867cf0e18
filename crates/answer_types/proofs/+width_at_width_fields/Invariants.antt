use Prim.Native.Nat.{◌+◌}
use Rattle.form_words.specs.FormTree.{left}
use Rattle.answer_types.proofs.+width_at_width_fields.Given as goal

abbrev pub decreases-width_at : goal.decreases-width_at
decreases-width_at l = left l.i

abbrev pub decreases-width_fields : goal.decreases-width_fields
decreases-width_fields l = left l.c + 1
