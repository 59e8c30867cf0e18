-- `plan_lines`: `term` and `terms` meet their contracts together, by Exits, form_words/NodeWords, base_signed/SignedWords, base_text/LaidText.
use native.Mathlib.Omega.{arith}
use mathlib.Core.Path.{refl, ap}
use Prim.Native.Nat.{◌+◌}
use Rattle.form_words.specs.FormTree.{left}
use Rattle.form_words.proofs.NodeWords.{recast, next_past}
use mir.Facts.{to_z-of_z}
use Rattle.base_signed.proofs.SignedWords.{fits}
use Rattle.spec_plan.specs.Lines.{ascii, signed_decimal}
use Rattle.plan_lines.specs.PartTexts.{slot_text, cell_text}
use Rattle.base_text.proofs.LaidText.{lays-as}
use Rattle.plan_lines.proofs.Exits.{term-lays, term-number, term-zero, term-record, term-binary, term-negation, term-operator, terms-end, terms-more}
use borrow.Author.Rules.{rules}
use Prim.Native.Nat.{ℕ, ◌<◌}
use Rattle.plan_lines.proofs.+term_terms.Goals as goal

pub term-overflow_add-i : goal.term-overflow_add-i
unfolding ascii
term-overflow_add-i t c = let p = (recast c.look.ensures c.in-Record.is).inside in omega (arith, p.0, p.1)

pub term-terms-r-requires : goal.term-terms-r-requires
unfolding ascii
term-terms-r-requires t c = let p = (recast c.look.ensures c.in-Record.is).inside in (omega (arith, p.0, p.1, c.decreases), p.1)

pub term-overflow_add-i-in-Binary : goal.term-overflow_add-i-in-Binary
unfolding ascii
term-overflow_add-i-in-Binary t c = let p = (recast c.look.ensures c.in-Binary.is).inside in omega (arith, p.0, p.1)

pub term-term-r-requires : goal.term-term-r-requires
unfolding ascii
term-term-r-requires t c = let p = (recast c.look.ensures c.in-Binary.is).inside in (omega (arith, p.0, p.1, c.decreases), tt)

pub term-term-u-requires : goal.term-term-u-requires
unfolding ascii
term-term-u-requires t c = let p = (recast c.look.ensures c.in-Binary.is).inside in (omega (arith, p.0, p.1, c.decreases), tt)

pub term-overflow_add-i-in-Negation : goal.term-overflow_add-i-in-Negation
unfolding ascii
term-overflow_add-i-in-Negation t c = let p = (recast c.look.ensures c.in-Negation.is).inside in omega (arith, p)

pub term-term-r-requires-in-Negation : goal.term-term-r-requires-in-Negation
unfolding ascii
term-term-r-requires-in-Negation t c = let p = (recast c.look.ensures c.in-Negation.is).inside in (omega (arith, p, c.decreases), tt)

pub term-overflow_add-i-in-Operator : goal.term-overflow_add-i-in-Operator
unfolding ascii
term-overflow_add-i-in-Operator t c = let p = (recast c.look.ensures c.in-Operator.is).inside in omega (arith, p.0, p.1)

pub term-terms-r-requires-in-Operator : goal.term-terms-r-requires-in-Operator
unfolding ascii
term-terms-r-requires-in-Operator t c = let p = (recast c.look.ensures c.in-Operator.is).inside in (omega (arith, p.0, p.1, c.decreases), p.1)

pub term-returns-in-Number : goal.term-returns-in-Number
unfolding ascii
term-returns-in-Number t c = term-number (recast c.look.ensures c.in-Number.is) (lays-as (ap signed_decimal (to_z-of_z (fits c.in-Number.known_told-1-own.given.0.1))) c.signed.ensures)

pub term-returns-in-Truth : goal.term-returns-in-Truth
unfolding ascii
term-returns-in-Truth t c = term-lays (recast c.look.ensures c.in-Truth.is) (λ f l. c.truth.ensures)

pub term-returns-in-Row : goal.term-returns-in-Row
unfolding ascii
term-returns-in-Row t c = term-lays (recast c.look.ensures c.in-Row.is) (λ f l. lays-as (ap slot_text c.mark.ensures) c.slot.ensures)

pub term-returns-in-Cell : goal.term-returns-in-Cell
unfolding ascii
term-returns-in-Cell t c = term-lays (recast c.look.ensures c.in-Cell.is) (λ f l. lays-as (ap (cell_text c.in-Cell.c) c.mark-in-Cell.ensures) c.cell.ensures)

pub term-returns-in-Record : goal.term-returns-in-Record
unfolding ascii
term-returns-in-Record t c = term-record (recast c.look.ensures c.in-Record.is) c.say-q.ensures c.terms-r.ensures c.put.ensures

pub term-returns-in-Binary : goal.term-returns-in-Binary
unfolding ascii
term-returns-in-Binary t c = term-binary (recast c.look.ensures c.in-Binary.is) c.begin-q.ensures c.term-r.ensures c.put-t.ensures c.term-u.ensures c.put-in-Binary.ensures

pub term-returns-in-Negation : goal.term-returns-in-Negation
unfolding ascii
term-returns-in-Negation t c = term-negation (recast c.look.ensures c.in-Negation.is) c.say-q-in-Negation.ensures c.term-r-in-Negation.ensures c.put-in-Negation.ensures

pub term-returns-in-Operator : goal.term-returns-in-Operator
unfolding ascii
term-returns-in-Operator t c = term-operator (recast c.look.ensures c.in-Operator.is) c.operator_name-q.ensures c.terms-r-in-Operator.ensures c.put-in-Operator.ensures

pub term-returns-in-Comprehension : goal.term-returns-in-Comprehension
unfolding ascii
term-returns-in-Comprehension t c = term-lays (recast c.look.ensures c.in-Comprehension.is) (λ f l. lays-as (ap slot_text c.mark-in-Comprehension.ensures) c.slot-in-Comprehension.ensures)

pub term-returns-in-Generator : goal.term-returns-in-Generator
unfolding ascii
term-returns-in-Generator t c = term-zero (recast c.look.ensures c.in-Generator.is) (λ f. refl) c.put-in-Generator.ensures

pub term-returns-in-Condition : goal.term-returns-in-Condition
unfolding ascii
term-returns-in-Condition t c = term-zero (recast c.look.ensures c.in-Condition.is) (λ f. refl) c.put-in-Condition.ensures

pub term-returns-in-Nothing : goal.term-returns-in-Nothing
unfolding ascii
term-returns-in-Nothing t c = term-zero (recast c.look.ensures c.in-Nothing.is) (λ f. refl) c.put-in-Nothing.ensures

pub terms-returns-then-e-i : goal.terms-returns-then-e-i
unfolding ascii
terms-returns-then-e-i t c = terms-end c.args.s.now c.args.i c.args.e c.if-e-i.true

pub terms-term-r-requires : goal.terms-term-r-requires
unfolding ascii
terms-term-r-requires t c = (omega (arith, c.decreases), tt)

pub terms-terms-requires : goal.terms-terms-requires
unfolding ascii
terms-terms-requires t c = (omega (arith, c.decreases, c.requires, c.if-e-i.false, c.next.ensures, next_past c.args.s.now c.args.i (omega (arith, c.requires, c.if-e-i.false))), c.requires)

pub terms-returns : goal.terms-returns
unfolding ascii
terms-returns t c = terms-more c.args.s.now c.args.i c.args.e c.if-e-i.false c.requires c.put-q.ensures c.term-r.ensures c.next.ensures c.terms.ensures
