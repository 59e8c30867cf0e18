use Prim.Native.Nat.{◌+◌, ◌-◌, ◌*◌}
use lib.ListN.{length}
use Rattle.front_parser.proofs.TermSequences.{TermsUpto}
use Rattle.front_parser.proofs.Questions.{PartsUpto}
use Rattle.front_parser.proofs.+compound_comprehension_content_parts_qualifier_term_terms.Given as goal

abbrev pub decreases-compound : goal.decreases-compound
decreases-compound l = 4 * length l.c.now + 2

abbrev pub decreases-comprehension : goal.decreases-comprehension
decreases-comprehension l = 4 * length l.c.now + 2

abbrev pub decreases-content : goal.decreases-content
decreases-content l = 4 * length l.c.now + 3

abbrev pub decreases-parts : goal.decreases-parts
decreases-parts l = 4 * length l.l.now + 2

abbrev pub invariant-parts-loop-used : goal.invariant-parts-loop-used
invariant-parts-loop-used l = PartsUpto l.l l.initial.s l.initial.q l.s l.at l.q

abbrev pub decreases-parts-loop-used : goal.decreases-parts-loop-used
decreases-parts-loop-used l = length l.l - l.at

abbrev pub decreases-qualifier : goal.decreases-qualifier
decreases-qualifier l = 4 * length l.l.now + 1

abbrev pub decreases-term : goal.decreases-term
decreases-term l = 4 * length l.l.now

abbrev pub decreases-terms : goal.decreases-terms
decreases-terms l = 4 * length l.l.now + 1

abbrev pub invariant-terms-loop-at : goal.invariant-terms-loop-at
invariant-terms-loop-at l = TermsUpto l.most l.l l.initial.s l.initial.q l.s l.at l.q l.count

abbrev pub decreases-terms-loop-at : goal.decreases-terms-loop-at
decreases-terms-loop-at l = length l.l - l.at
