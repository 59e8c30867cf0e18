-- `front_emit`: `binary`, `clause`, `comprehension`, `copied`, `emit`, `fields`, `negated`, `placed`, `qualifier`, `qualifiers`, `recorded`, `single` and `source` meet their contracts together, by WriterExits, TermCalls, QualifierCalls, ConditionCalls.
use native.Mathlib.Omega.{arith}
use mathlib.Core.Path.{refl, ◌∙◌}
use Rattle.front_nodes.proofs.ReaderExits.{recast, looked-inside}
use Rattle.front_resolve.specs.Resolved.{under}
use Rattle.front_resolve.proofs.Exits.{picks-cast}
use Rattle.front_emit.proofs.WriterExits.{moved, moved_f, moved_q, one-done}
use Rattle.front_emit.proofs.TermCalls.{has-place, two-below, not-below, comp-below, ends, ends-later, two-first, two-second, two-done, not_first, not_done, headed-small, record-first, record-done, field-first, left-none, left_less, one-has-place, one-first}
use Rattle.front_emit.proofs.QualifierCalls.{copy-starts, comp-first, comp-second, comp-written, quals-end, quals-first, quals-second, quals-written, qual-skipped, qual-silent, qual-source-first, qual-condition-first}
use Rattle.front_emit.proofs.ConditionCalls.{source-comp, source-table, source-never, spliced-written, table-written, never-written, single-starts, both_first, some_first, split-cast, yields-starts, left-condition, left_one, left_and, left-some}
use Rattle.front_emit.proofs.LeafForms.{heading-other, simple-starts, simple-written}
use borrow.Enum.Refused.{opened}
use Rattle.front_emit.proofs.+binary_clause_comprehension_copied_emit_fields_negated_placed_qualifier_qualifiers_recorded_single_source.Goals as goal

pub binary-below-requires : goal.binary-below-requires
binary-below-requires t c = has-place c.requires.0

pub binary-emit-q-requires : goal.binary-emit-q-requires
binary-emit-q-requires t c = (omega (arith, c.decreases, (two-below c.requires.0 c.requires.1).0), (two-first c.requires.0 c.requires.1 c.below.ensures, c.requires.0.fine.long))

pub binary-emit-r-requires : goal.binary-emit-r-requires
binary-emit-r-requires t c = (omega (arith, c.decreases, (two-below c.requires.0 c.requires.1).1), (two-second c.requires.0 c.requires.1 c.below.ensures c.emit-q.ensures, c.requires.0.fine.long))

pub binary-close-requires : goal.binary-close-requires
binary-close-requires t c = let E = ends-later c.below.ensures (moved c.emit-q.ensures) (two-second c.requires.0 c.requires.1 c.below.ensures c.emit-q.ensures).room (moved c.emit-r.ensures) in (omega arith, omega (arith, c.number.ensures.1), E.0, E.1)

pub binary-returns : goal.binary-returns
binary-returns t c = two-done c.requires.0 c.requires.1 c.below.ensures c.emit-q.ensures c.emit-r.ensures c.number.ensures.0 c.close.ensures

pub clause-clause-r-requires : goal.clause-clause-r-requires
clause-clause-r-requires t c = let C = left-condition c.loop-s.invariant.0 c.resolve-h.ensures c.if-ranging.false in let w = (split-cast c.split_of.ensures c.in-And.is).is in (omega (arith, c.decreases, c.loop-s.invariant.0.below, c.resolve-h.ensures.from.below, (two-below C w).0), (both_first c.args.v C w, c.resolve-h.ensures.from.fine.long))

pub clause-loop-s-smaller-in-And : goal.clause-loop-s-smaller-in-And
clause-loop-s-smaller-in-And t c = let C = left-condition c.loop-s.invariant.0 c.resolve-h.ensures c.if-ranging.false in omega (arith, c.resolve-h.ensures.from.below, (two-below C (split-cast c.split_of.ensures c.in-And.is).is).1)

pub clause-loop-s-preserved-in-And : goal.clause-loop-s-preserved-in-And
clause-loop-s-preserved-in-And t c = (left_and c.loop-s.invariant.0 c.resolve-h.ensures c.if-ranging.false (split-cast c.split_of.ensures c.in-And.is) c.clause-r.ensures, c.clause-r.auto.s ∙ c.loop-s.invariant.1)

pub clause-copied-r-requires : goal.clause-copied-r-requires
clause-copied-r-requires t c = let C = left-condition c.loop-s.invariant.0 c.resolve-h.ensures c.if-ranging.false in let w = (split-cast c.split_of.ensures c.in-Some.is).is in (omega (arith, c.decreases, c.loop-s.invariant.0.below, c.resolve-h.ensures.from.below), some_first (yields-starts c.args.v w.1 C) w.0)

pub clause-loop-s-smaller : goal.clause-loop-s-smaller
clause-loop-s-smaller t c = let C = left-condition c.loop-s.invariant.0 c.resolve-h.ensures c.if-ranging.false in omega (arith, c.resolve-h.ensures.from.below, (comp-below C (split-cast c.split_of.ensures c.in-Some.is).is.0).0)

pub clause-loop-s-preserved : goal.clause-loop-s-preserved
clause-loop-s-preserved t c = (left-some c.loop-s.invariant.0 c.resolve-h.ensures c.if-ranging.false (split-cast c.split_of.ensures c.in-Some.is) c.copied-r.ensures, c.copied-r.auto.s ∙ c.loop-s.invariant.1)

pub clause-single-requires : goal.clause-single-requires
clause-single-requires t c = (omega (arith, c.decreases, c.loop-s.invariant.0.below, c.resolve-h.ensures.from.below), single-starts c.args.v (left-condition c.loop-s.invariant.0 c.resolve-h.ensures c.if-ranging.false) (split-cast c.split_of.ensures c.in-One.is).is)

pub clause-returns-in-One : goal.clause-returns-in-One
clause-returns-in-One t c = left_one c.loop-s.invariant.0 c.resolve-h.ensures c.if-ranging.false (split-cast c.split_of.ensures c.in-One.is) c.single.ensures

pub comprehension-below-requires : goal.comprehension-below-requires
comprehension-below-requires t c = has-place c.requires.0

pub comprehension-copied-q-requires : goal.comprehension-copied-q-requires
comprehension-copied-q-requires t c = (omega (arith, c.decreases), comp-first c.requires.0 c.requires.1 c.below.ensures)

pub comprehension-emit-r-requires : goal.comprehension-emit-r-requires
comprehension-emit-r-requires t c = (omega (arith, c.decreases, (comp-below c.requires.0 c.requires.1).0), (comp-second c.requires.0 c.requires.1 c.below.ensures c.copied-q.ensures.0 c.copied-q.ensures.1, c.copied-q.ensures.1.long))

pub comprehension-close-requires : goal.comprehension-close-requires
comprehension-close-requires t c = let E = ends-later c.below.ensures (moved_q c.copied-q.ensures.0) (comp-second c.requires.0 c.requires.1 c.below.ensures c.copied-q.ensures.0 c.copied-q.ensures.1).room (moved c.emit-r.ensures) in (omega arith, omega (arith, c.bits.ensures.1), E.0, E.1)

pub comprehension-returns : goal.comprehension-returns
comprehension-returns t c = comp-written c.requires.0 c.requires.1 c.below.ensures c.copied-q.ensures.0 c.copied-q.ensures.1 c.emit-r.ensures c.bits.ensures.0 c.close.ensures

pub copied-qualifiers-requires : goal.copied-qualifiers-requires
copied-qualifiers-requires t c = (omega (arith, c.decreases, (comp-below c.requires.0 c.requires.1.is).0, c.prior.ensures, c.start_at-e.ensures.1), (copy-starts c.args.s.now c.args.st c.copy.ensures c.start_at-lo.ensures.0 c.prior.ensures c.start_at-e.ensures.0 c.joined.ensures c.requires.0 c.requires.1, c.copy.ensures.long))

pub fields-returns : goal.fields-returns
fields-returns t c = left-none c.loop-c.invariant.0 (picks-cast c.child.ensures c.in_default.is)

pub fields-emit-r-requires : goal.fields-emit-r-requires
fields-emit-r-requires t c = let P = picks-cast c.child.ensures c.in-Some.is in (omega (arith, c.decreases, P.before), (field-first c.loop-c.invariant.0.starts c.requires.1 P, c.requires.0.fine.long))

pub fields-loop-c-preserved : goal.fields-loop-c-preserved
fields-loop-c-preserved t c = (left_less c.loop-c.invariant.0 c.requires.1 (picks-cast c.child.ensures c.in-Some.is) c.emit-r.ensures, c.emit-r.auto.s ∙ c.loop-c.invariant.1)

pub negated-below-requires : goal.negated-below-requires
negated-below-requires t c = has-place c.requires.0

pub negated-emit-r-requires : goal.negated-emit-r-requires
negated-emit-r-requires t c = (omega (arith, c.decreases, not-below c.requires.0 c.requires.1), (not_first c.requires.0 c.requires.1 c.below.ensures, c.requires.0.fine.long))

pub negated-close-requires : goal.negated-close-requires
negated-close-requires t c = let E = ends c.below.ensures (not_first c.requires.0 c.requires.1 c.below.ensures).room (moved c.emit-r.ensures) in (omega arith, omega arith, E.0, E.1)

pub negated-returns : goal.negated-returns
negated-returns t c = not_done c.requires.0 c.requires.1 c.below.ensures c.emit-r.ensures c.close.ensures

pub placed-simple-requires : goal.placed-simple-requires
placed-simple-requires t c = simple-starts (under c.args.env.now c.args.h) (heading-other c.heading_of.ensures c.in-None.is) (opened c.in_default.in_default-own.keys4) c.requires

pub placed-returns-in_default : goal.placed-returns-in_default
placed-returns-in_default t c = simple-written (under c.args.env.now c.args.h) (heading-other c.heading_of.ensures c.in-None.is) (opened c.in_default.in_default-own.keys4) c.simple.ensures

pub qualifier-returns-then-condition_count-eq0 : goal.qualifier-returns-then-condition_count-eq0
qualifier-returns-then-condition_count-eq0 t c = qual-skipped c.args.env.now c.args.v c.requires.0 c.condition_count.ensures c.if-condition_count-eq0.true

pub qualifier-clause-requires : goal.qualifier-clause-requires
qualifier-clause-requires t c = let L = recast c.look.ensures c.in-Gen.is in (omega (arith, c.decreases, looked-inside L), (qual-source-first c.args.env.now c.args.v c.requires.0 L, c.requires.1))

pub qualifier-clause-requires-in-Cond : goal.qualifier-clause-requires-in-Cond
qualifier-clause-requires-in-Cond t c = let L = recast c.look.ensures c.in-Cond.is in (omega (arith, c.decreases, looked-inside L), (qual-condition-first c.args.env.now c.args.v c.requires.0 L, c.requires.1))

pub qualifier-returns-in_default : goal.qualifier-returns-in_default
qualifier-returns-in_default t c = qual-silent c.args.env.now c.args.v c.requires.0 c.look.ensures (opened c.in_default.in_default-own.keys3)

pub qualifiers-returns-then-e-lo : goal.qualifiers-returns-then-e-lo
qualifiers-returns-then-e-lo t c = quals-end c.args.env.now c.args.v c.requires.0 c.if-e-lo.true

pub qualifiers-qualifiers-q-requires : goal.qualifiers-qualifiers-q-requires
qualifiers-qualifiers-q-requires t c = (omega (arith, c.decreases, c.start_at-b.ensures.1), (quals-first c.args.env.now c.args.v c.requires.0 c.if-e-lo.false refl c.start_at-b.ensures.0, c.requires.1))

pub qualifiers-qualifier-requires : goal.qualifiers-qualifier-requires
qualifiers-qualifier-requires t c = (omega (arith, c.decreases), (quals-second c.args.env.now c.args.v c.requires.0 c.if-e-lo.false refl c.start_at-b.ensures.0 c.qualifiers-q.ensures, c.requires.1))

pub qualifiers-returns : goal.qualifiers-returns
qualifiers-returns t c = quals-written c.args.env.now c.args.v c.requires.0 c.if-e-lo.false refl c.start_at-b.ensures.0 c.qualifiers-q.ensures c.qualifier.ensures

pub recorded-below-requires : goal.recorded-below-requires
recorded-below-requires t c = has-place c.requires.0

pub recorded-fields-r-requires : goal.recorded-fields-r-requires
recorded-fields-r-requires t c = (omega (arith, c.decreases), (record-first c.requires.0 c.requires.1 c.below.ensures, (_, _, c.requires.1)))

pub recorded-close-requires : goal.recorded-close-requires
recorded-close-requires t c = let E = ends c.below.ensures (record-first c.requires.0 c.requires.1 c.below.ensures).starts.room (moved_f c.fields-r.ensures) in let W = headed-small c.requires.1 in (W.0, W.1, E.0, E.1)

pub recorded-returns : goal.recorded-returns
recorded-returns t c = record-done c.requires.0 c.requires.1 c.below.ensures c.fields-r.ensures c.close.ensures

pub single-below-requires : goal.single-below-requires
single-below-requires t c = one-has-place c.requires

pub single-placed-r-requires : goal.single-placed-r-requires
single-placed-r-requires t c = (omega (arith, c.decreases), one-first c.requires c.below.ensures)

pub single-close-requires : goal.single-close-requires
single-close-requires t c = let E = ends c.below.ensures (one-first c.requires c.below.ensures).starts.room (moved c.placed-r.ensures) in (omega arith, omega arith, E.0, E.1)

pub single-returns : goal.single-returns
single-returns t c = one-done c.below.ensures c.placed-r.ensures c.close.ensures

pub source-copied-requires : goal.source-copied-requires
source-copied-requires t c = (omega (arith, c.decreases), source-comp c.args.v c.requires c.in-Comp.is)

pub source-generator-requires : goal.source-generator-requires
source-generator-requires t c = source-table c.args.v c.requires c.in-Table.is

pub source-never-requires : goal.source-never-requires
source-never-requires t c = source-never c.args.v c.requires (opened c.in_default.in_default-own.keys3)

pub source-returns-in-Comp : goal.source-returns-in-Comp
source-returns-in-Comp t c = spliced-written c.args.v (under c.args.env.now c.args.h) c.in-Comp.is c.copied.ensures.0

pub source-returns-in-Table : goal.source-returns-in-Table
source-returns-in-Table t c = table-written c.args.v (under c.args.env.now c.args.h) c.in-Table.is c.generator.ensures

pub source-returns-in_default : goal.source-returns-in_default
source-returns-in_default t c = never-written c.args.v (under c.args.env.now c.args.h) (opened c.in_default.in_default-own.keys3) c.never.ensures
