-- `front_bounds`: `clauses_size`, `form_size`, `operator_size`, `record_fits` and `term_size` meet their contracts together, by CutBounds, base_signed/SignedWords, form_words/NodeWords.
use native.Mathlib.Omega.{arith}
use mathlib.Core.Path.{refl}
use mir.Facts.{to_z-of_z}
use Rattle.base_signed.proofs.SignedWords.{fits}
use Rattle.form_words.proofs.NodeWords.{recast, recast_c, next_past}
use Rattle.front_bounds.proofs.CutBounds.{size_number, size-none, size-cell, size-record, size-binary, size-negation, size-comprehension, size-operator, operator-terms, left_after, term-none, term-some, sizing-first, sizing-generator, sizing-condition, sizing-head, fitting-first, fitting-again, fitting-last}
use Rattle.front_bounds.proofs.+clauses_size_form_size_operator_size_record_fits_term_size.Goals as goal

pub clauses_size-loop-g-init : goal.clauses_size-loop-g-init
clauses_size-loop-g-init t c = sizing-first

pub clauses_size-overflow_add-n : goal.clauses_size-overflow_add-n
clauses_size-overflow_add-n t c = let w = (recast_c c.look_clause.ensures c.in-Generator.is).inside in omega (arith, w.0, c.loop-g.invariant.few)

pub clauses_size-overflow_add-j : goal.clauses_size-overflow_add-j
clauses_size-overflow_add-j t c = let w = (recast_c c.look_clause.ensures c.in-Generator.is).inside in omega (arith, w.0)

pub clauses_size-loop-g-smaller-in-Generator : goal.clauses_size-loop-g-smaller-in-Generator
clauses_size-loop-g-smaller-in-Generator t c = let w = (recast_c c.look_clause.ensures c.in-Generator.is).inside in omega (arith, w.0)

pub clauses_size-loop-g-preserved-in-Generator : goal.clauses_size-loop-g-preserved-in-Generator
clauses_size-loop-g-preserved-in-Generator t c = sizing-generator c.loop-g.invariant (recast_c c.look_clause.ensures c.in-Generator.is)

pub clauses_size-overflow_add-j-in-Condition : goal.clauses_size-overflow_add-j-in-Condition
clauses_size-overflow_add-j-in-Condition t c = let w = (recast_c c.look_clause.ensures c.in-Condition.is).inside in omega (arith, w.0, w.1)

pub clauses_size-form_size-t-requires : goal.clauses_size-form_size-t-requires
clauses_size-form_size-t-requires t c = let w = (recast_c c.look_clause.ensures c.in-Condition.is).inside in (omega (arith, w.0, w.1, c.loop-g.invariant.low, c.decreases), tt)

pub clauses_size-loop-g-smaller : goal.clauses_size-loop-g-smaller
clauses_size-loop-g-smaller t c = let w = (recast_c c.look_clause.ensures c.in-Condition.is).inside in omega (arith, w.0, w.1)

pub clauses_size-loop-g-preserved : goal.clauses_size-loop-g-preserved
clauses_size-loop-g-preserved t c = sizing-condition c.loop-g.invariant (recast_c c.look_clause.ensures c.in-Condition.is) c.form_size-t.ensures refl

pub clauses_size-form_size-a-requires : goal.clauses_size-form_size-a-requires
clauses_size-form_size-a-requires t c = (omega (arith, c.loop-g.invariant.low, c.decreases), tt)

pub clauses_size-returns-in-Head : goal.clauses_size-returns-in-Head
clauses_size-returns-in-Head t c = sizing-head c.loop-g.invariant (recast_c c.look_clause.ensures c.in-Head.is) c.form_size-a.ensures c.per_head.ensures c.generators_bound.ensures refl

pub form_size-overflow_add-i : goal.form_size-overflow_add-i
form_size-overflow_add-i t c = let w = (recast c.look.ensures c.in-Record.is).inside in omega arith

pub form_size-record_fits-requires : goal.form_size-record_fits-requires
form_size-record_fits-requires t c = let w = (recast c.look.ensures c.in-Record.is).inside in (omega (arith, c.decreases), w.1)

pub form_size-overflow_add-i-in-Binary : goal.form_size-overflow_add-i-in-Binary
form_size-overflow_add-i-in-Binary t c = let w = (recast c.look.ensures c.in-Binary.is).inside in omega arith

pub form_size-form_size-a-requires : goal.form_size-form_size-a-requires
form_size-form_size-a-requires t c = let w = (recast c.look.ensures c.in-Binary.is).inside in (omega (arith, c.decreases), tt)

pub form_size-form_size-b-requires : goal.form_size-form_size-b-requires
form_size-form_size-b-requires t c = let w = (recast c.look.ensures c.in-Binary.is).inside in (omega (arith, c.decreases), tt)

pub form_size-overflow_add-i-in-Negation : goal.form_size-overflow_add-i-in-Negation
form_size-overflow_add-i-in-Negation t c = let w = (recast c.look.ensures c.in-Negation.is).inside in omega arith

pub form_size-form_size-a-requires-in-Negation : goal.form_size-form_size-a-requires-in-Negation
form_size-form_size-a-requires-in-Negation t c = let w = (recast c.look.ensures c.in-Negation.is).inside in (omega (arith, c.decreases), tt)

pub form_size-overflow_add-i-in-Comprehension : goal.form_size-overflow_add-i-in-Comprehension
form_size-overflow_add-i-in-Comprehension t c = let w = (recast c.look.ensures c.in-Comprehension.is).inside in omega arith

pub form_size-clauses_size-a-requires : goal.form_size-clauses_size-a-requires
form_size-clauses_size-a-requires t c = let w = (recast c.look.ensures c.in-Comprehension.is).inside in (omega (arith, c.decreases), tt)

pub form_size-overflow_add-i-in-Operator : goal.form_size-overflow_add-i-in-Operator
form_size-overflow_add-i-in-Operator t c = let w = (recast c.look.ensures c.in-Operator.is).inside in omega arith

pub form_size-operator_size-requires : goal.form_size-operator_size-requires
form_size-operator_size-requires t c = let w = (recast c.look.ensures c.in-Operator.is).inside in (omega (arith, c.decreases), w.1)

pub form_size-returns-in-Number : goal.form_size-returns-in-Number
form_size-returns-in-Number t c = size_number (recast c.look.ensures c.in-Number.is) (to_z-of_z (fits c.in-Number.known_told-1-own.given.0.1)) c.magnitude.ensures c.checked.ensures

pub form_size-returns-in-Truth : goal.form_size-returns-in-Truth
form_size-returns-in-Truth t c = size-none c.unbounded-in-Truth.ensures c.look.ensures c.in-Truth.is

pub form_size-returns-in-Cell : goal.form_size-returns-in-Cell
form_size-returns-in-Cell t c = size-cell (recast c.look.ensures c.in-Cell.is) c.declared.ensures.is c.declared.ensures.low c.checked-in-Cell.ensures

pub form_size-returns-in-Record : goal.form_size-returns-in-Record
form_size-returns-in-Record t c = size-record (recast c.look.ensures c.in-Record.is) c.record_fits.ensures c.unbounded.ensures

pub form_size-returns-in-Binary : goal.form_size-returns-in-Binary
form_size-returns-in-Binary t c = size-binary (recast c.look.ensures c.in-Binary.is) c.form_size-a.ensures c.form_size-b.ensures c.binary_bound.ensures refl c.checked-in-Binary.ensures

pub form_size-returns-in-Negation : goal.form_size-returns-in-Negation
form_size-returns-in-Negation t c = size-negation (recast c.look.ensures c.in-Negation.is) c.form_size-a-in-Negation.ensures c.unbounded-in-Negation.ensures

pub form_size-returns-in-Comprehension : goal.form_size-returns-in-Comprehension
form_size-returns-in-Comprehension t c = size-comprehension (recast c.look.ensures c.in-Comprehension.is) c.clauses_size-a.ensures c.checked-in-Comprehension.ensures

pub form_size-returns-in-Operator : goal.form_size-returns-in-Operator
form_size-returns-in-Operator t c = size-operator (recast c.look.ensures c.in-Operator.is) c.operator_size.ensures

pub operator_size-term_size-a-requires : goal.operator_size-term_size-a-requires
operator_size-term_size-a-requires t c = (omega (arith, c.decreases), tt)

pub operator_size-term_size-b-requires : goal.operator_size-term_size-b-requires
operator_size-term_size-b-requires t c = (omega (arith, c.decreases, left_after _ _ c.next-j.ensures), tt)

pub operator_size-term_size-c-requires : goal.operator_size-term_size-c-requires
operator_size-term_size-c-requires t c = (omega (arith, c.decreases, left_after _ _ c.next-j.ensures, left_after _ _ c.next-k.ensures), tt)

pub operator_size-record_fits-rest-requires : goal.operator_size-record_fits-rest-requires
operator_size-record_fits-rest-requires t c = (omega (arith, c.decreases, left_after _ _ c.next-j.ensures, left_after _ _ c.next-k.ensures, left_after _ _ c.next.ensures), c.requires)

pub operator_size-returns : goal.operator_size-returns
operator_size-returns t c = operator-terms c.args.f c.requires c.term_size-a.ensures c.next-j.ensures c.term_size-b.ensures c.next-k.ensures c.term_size-c.ensures c.next.ensures c.record_fits-rest.ensures c.operator_bound.ensures refl c.checked.ensures

pub record_fits-loop-j-init : goal.record_fits-loop-j-init
record_fits-loop-j-init t c = fitting-first

pub record_fits-form_size-a-requires : goal.record_fits-form_size-a-requires
record_fits-form_size-a-requires t c = (omega (arith, c.loop-j.invariant.low, c.decreases), tt)

pub record_fits-loop-j-smaller : goal.record_fits-loop-j-smaller
record_fits-loop-j-smaller t c = omega (arith, c.requires, c.loop-j-test.true, c.next-j.ensures, next_past c.args.s.now c.loop-j.j (omega (arith, c.requires, c.loop-j-test.true)))

pub record_fits-loop-j-preserved : goal.record_fits-loop-j-preserved
record_fits-loop-j-preserved t c = fitting-again c.loop-j.invariant c.loop-j-test.true c.requires c.form_size-a.ensures refl c.next-j.ensures

pub record_fits-returns : goal.record_fits-returns
record_fits-returns t c = fitting-last c.loop-j.invariant c.loop-j-test.false

pub term_size-returns-then-e-i : goal.term_size-returns-then-e-i
term_size-returns-then-e-i t c = term-none c.if-e-i.true c.unbounded.ensures

pub term_size-form_size-requires : goal.term_size-form_size-requires
term_size-form_size-requires t c = (omega (arith, c.decreases), tt)

pub term_size-returns : goal.term_size-returns
term_size-returns t c = term-some c.if-e-i.false c.form_size.ensures
