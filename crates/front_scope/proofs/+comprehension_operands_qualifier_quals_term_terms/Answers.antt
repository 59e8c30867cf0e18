-- The cycle of `term`, `terms` and `quals` meets its contracts: each part ends below its parent.
use native.Mathlib.Omega.{arith}
use Prim.Native.Nat.{◌-◌}
use mathlib.Core.Path.{refl}
use Rattle.front_scope.proofs.KindNumbers.{kind-is, kind-not, kind-outside, two-kind-at, kind-above}
use Rattle.front_scope.proofs.Exits.{term-name, term-field, term-not, term-record, term-choice, term-open, term-two, term-comp, term-bare, comp-both, terms-none, terms-more, quals-none, quals-more, qual-gen, qual-bind, qual-cond, qual-none}
use Rattle.front_scope.proofs.+comprehension_operands_qualifier_quals_term_terms.Goals as goal

pub comprehension-returns : goal.comprehension-returns
comprehension-returns t c = comp-both c.requires.0 c.start_at-b.ensures.0 c.start_at-a.ensures.0 c.quals-q.ensures c.term-h.ensures

pub qualifier-returns-in-16 : goal.qualifier-returns-in-16
qualifier-returns-in-16 t c = qual-gen c.term-k.ensures (kind-is c.args.s.now c.args.i 16 c.kind_at.ensures c.in-16.is) c.arg_at.ensures c.bound.ensures

pub qualifier-returns-in-17 : goal.qualifier-returns-in-17
qualifier-returns-in-17 t c = qual-bind c.term-k-in-17.ensures (kind-is c.args.s.now c.args.i 17 c.kind_at.ensures c.in-17.is) c.arg_at-in-17.ensures c.bound-in-17.ensures

pub qualifier-returns-in-18 : goal.qualifier-returns-in-18
qualifier-returns-in-18 t c = qual-cond c.term.ensures (kind-is c.args.s.now c.args.i 18 c.kind_at.ensures c.in-18.is)

pub qualifier-returns-in_default : goal.qualifier-returns-in_default
qualifier-returns-in_default t c = let no = kind-not c.args.s.now c.args.i c.kind_at.ensures in
    qual-none (no 16 (omega arith) c.in_default.in_default-own.rest.0.0.1, no 17 (omega arith) c.in_default.in_default-own.rest.0.1, no 18 (omega arith) c.in_default.in_default-own.rest.1)

pub quals-returns-then-e-lo : goal.quals-returns-then-e-lo
quals-returns-then-e-lo t c = quals-none c.if-e-lo.true

pub quals-returns : goal.quals-returns
quals-returns t c = quals-more c.if-e-lo.false c.start_at-b.ensures.0 c.quals-k.ensures c.qualifier.ensures

pub term-returns-in-3 : goal.term-returns-in-3
term-returns-in-3 t c = term-name c.args.seen.now (kind-is c.args.s.now (c.args.e - 1) 3 c.kind_at.ensures c.in-3.is) c.arg_at.ensures c.used.ensures

pub term-returns-in-4 : goal.term-returns-in-4
term-returns-in-4 t c = term-field c.if-e-le1.false (kind-is c.args.s.now (c.args.e - 1) 4 c.kind_at.ensures c.in-4.is) c.term.ensures

pub term-returns-in-5 : goal.term-returns-in-5
term-returns-in-5 t c = term-record c.if-e-le1.false (kind-is c.args.s.now (c.args.e - 1) 5 c.kind_at.ensures c.in-5.is) c.start_at.ensures.0 c.terms.ensures

pub term-returns-in-13 : goal.term-returns-in-13
term-returns-in-13 t c = term-not c.if-e-le1.false (kind-is c.args.s.now (c.args.e - 1) 13 c.kind_at.ensures c.in-13.is) c.term-in-13.ensures

pub term-returns-in-14 : goal.term-returns-in-14
term-returns-in-14 t c = term-comp c.if-e-le1.false (kind-is c.args.s.now (c.args.e - 1) 14 c.kind_at.ensures c.in-14.is) c.comprehension.ensures

pub term-returns-in-19 : goal.term-returns-in-19
term-returns-in-19 t c = term-choice c.if-e-le1.false (kind-is c.args.s.now (c.args.e - 1) 19 c.kind_at.ensures c.in-19.is) c.start_at-in-19.ensures.0 c.terms-in-19.ensures

pub term-returns-in-21 : goal.term-returns-in-21
term-returns-in-21 t c = term-open c.if-e-le1.false (kind-is c.args.s.now (c.args.e - 1) 21 c.kind_at.ensures c.in-21.is) c.start_at-in-21.ensures.0 c.terms-in-21.ensures

pub term-returns-in-6-to-12 : goal.term-returns-in-6-to-12
term-returns-in-6-to-12 t c = let r = c.in-6-to-12.in_default-own.rest in
    let o = two-kind-at c.args.s.now (c.args.e - 1) c.kind_at.ensures r.0.0.0.0.0.0.1 r.0.0.0.0.0.1 r.0.0.0.0.1 c.in-6-to-12.if-this-lt3-own.false c.in-6-to-12.if-this-lt13-own.true in
    term-two c.if-e-le1.false o.1 c.operands.ensures

pub term-returns-in_default : goal.term-returns-in_default
term-returns-in_default t c = term-bare (kind-outside c.args.s.now (c.args.e - 1) c.kind_at.ensures 3 14 (omega arith) (omega arith), kind-not c.args.s.now (c.args.e - 1) c.kind_at.ensures 19 (omega arith) c.in_default.in_default-own.rest.0.1, kind-not c.args.s.now (c.args.e - 1) c.kind_at.ensures 21 (omega arith) c.in_default.in_default-own.rest.1) refl

pub term-returns-in_default-2 : goal.term-returns-in_default-2
term-returns-in_default-2 t c = term-bare (kind-above c.args.s.now (c.args.e - 1) c.kind_at.ensures c.in_default.in_default-own.rest.0.0.0.1 c.in_default.in_default-own.rest.0.0.1 c.in_default.if-this-lt13-own.false, kind-not c.args.s.now (c.args.e - 1) c.kind_at.ensures 19 (omega arith) c.in_default.in_default-own.rest.0.1, kind-not c.args.s.now (c.args.e - 1) c.kind_at.ensures 21 (omega arith) c.in_default.in_default-own.rest.1) refl

pub terms-returns-then-e-lo : goal.terms-returns-then-e-lo
terms-returns-then-e-lo t c = terms-none c.if-e-lo.true

pub terms-returns : goal.terms-returns
terms-returns t c = terms-more c.if-e-lo.false c.start_at-b.ensures.0 c.terms-k.ensures c.term.ensures
