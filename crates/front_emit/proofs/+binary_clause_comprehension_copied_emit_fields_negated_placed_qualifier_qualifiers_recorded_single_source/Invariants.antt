use mathlib.Core.Path.{◌≡◌}
use lib.ListN.{length}
use Prim.Native.Nat.{◌+◌, ◌-◌, ◌*◌}
use Rattle.front_resolve.specs.Resolved.{under}
use Rattle.front_emit.proofs.TermCalls.{FieldsLeft}
use Rattle.front_emit.proofs.ConditionCalls.{ClauseLeft}
use Rattle.front_emit.proofs.+binary_clause_comprehension_copied_emit_fields_negated_placed_qualifier_qualifiers_recorded_single_source.Given as goal

abbrev pub decreases-binary : goal.decreases-binary
decreases-binary l = 4096 * l.h.node + 2000

abbrev pub decreases-clause : goal.decreases-clause
decreases-clause l = 4096 * l.i + 3000

abbrev pub invariant-clause-loop-s : goal.invariant-clause-loop-s
invariant-clause-loop-s l = ClauseLeft l.ranging l.v l.initial.s l.i l.depth l.env l.initial.r l.s l.j l.d l.e l.r × (length l.s ≡ length l.initial.s)

abbrev pub decreases-clause-loop-s : goal.decreases-clause-loop-s
decreases-clause-loop-s l = l.j

abbrev pub decreases-comprehension : goal.decreases-comprehension
decreases-comprehension l = 4096 * l.h.node + 2000

abbrev pub decreases-copied : goal.decreases-copied
decreases-copied l = 4096 * l.h.node + 1900

abbrev pub decreases-emit : goal.decreases-emit
decreases-emit l = 4096 * l.i + 3000

abbrev pub decreases-fields : goal.decreases-fields
decreases-fields l = 4096 * l.h.node + 1500

abbrev pub invariant-fields-loop-c : goal.invariant-fields-loop-c
invariant-fields-loop-c l = FieldsLeft l.initial.s (under l.env l.h) l.initial.r l.s l.k l.r × (length l.s ≡ length l.initial.s)

abbrev pub decreases-fields-loop-c : goal.decreases-fields-loop-c
decreases-fields-loop-c l = 1024 - l.k

abbrev pub decreases-negated : goal.decreases-negated
decreases-negated l = 4096 * l.h.node + 2000

abbrev pub decreases-placed : goal.decreases-placed
decreases-placed l = 4096 * l.h.node + 2500

abbrev pub decreases-qualifier : goal.decreases-qualifier
decreases-qualifier l = 4096 * l.x + 3500

abbrev pub decreases-qualifiers : goal.decreases-qualifiers
decreases-qualifiers l = 4096 * l.e + 3000

abbrev pub decreases-recorded : goal.decreases-recorded
decreases-recorded l = 4096 * l.h.node + 2000

abbrev pub decreases-single : goal.decreases-single
decreases-single l = 4096 * l.h.node + 2600

abbrev pub decreases-source : goal.decreases-source
decreases-source l = 4096 * l.h.node + 2700
