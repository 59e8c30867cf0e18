-- The rules at work: a bag over a bag, with a bound name, is rewritten to its normal form.
use mathlib.Core.Path.{◌≡◌, refl}
use mathlib.Core.Bool.{true, false}
use Prim.Native.Nat.{ℕ}
use Rattle.spec_calculus.specs.Lists.{pick, upd}
use Rattle.spec_calculus.specs.Syntax.{Collection, bag, of, Term, Quals, name, field, comp, table, qnil, gen, bind, Question, as_term}
use Rattle.spec_checks.specs.Scope.{Scope, in_scope, binders}
use Rattle.spec_checks.specs.Types.{may_stand}
use Rattle.spec_normal_form.specs.Form.{NormalForm, done}
use Rattle.spec_normal_form.specs.Form as Nf
use Rattle.spec_normal_form.specs.Normal.{normal}
use Rattle.spec_normal_form.specs.NoRule.{term_of, question_of, NoRule, behind, Ordered}
use Rattle.spec_normal_form.specs.Rules.{◌⊞◌, own_names, sub, Rule, bound_name, flat_generator, rename, Rewrites, none, onwards}
use Rattle.spec_normal_form.specs.Place.{hole, put}
use Rattle.spec_normal_form.proofs.FixedPoint.{rewriting-ends-there}

abbrev bags : ℕ → Collection
bags k = bag

-- the bag of v for b in (the bag of r for r in table 0), v = b.0
asked : Question
asked = record { monoid = of bag; quals = gen 5 (comp (of bag) (gen 3 (table 0) qnil) (name 3)) (bind 7 (field 0 (name 5)) qnil); head = name 7 }

found : NormalForm
found = record { monoid = of bag; clauses = Nf.gen 0 0 done; head = Nf.cell 0 0 }

abbrev no_name : Scope
no_name = λ y. false

steps : Rewrites bags (as_term asked) (as_term (question_of found))
unfolding asked found put ◌⊞◌ own_names sub pick upd term_of in_scope binders may_stand
steps =
    let B = of bag in
    let t : Term = field 0 (name 5) in
    let g : Quals = gen 3 (table 0) qnil in
    let a : Rule bags (as_term asked) (comp B (gen 3 (table 0) (bind 5 (name 3) (bind 7 t qnil))) (name 7)) = flat_generator no_name B qnil 5 bag g (name 3) (bind 7 t qnil) (name 7) refl (refl, tt) refl in
    let b : Rule bags (comp B (gen 3 (table 0) (bind 5 (name 3) (bind 7 t qnil))) (name 7)) (comp B (gen 3 (table 0) (bind 7 (field 0 (name 3)) qnil)) (name 7)) = bound_name (upd 5 true (upd 3 true no_name)) B g 5 (name 3) (bind 7 t qnil) (name 7) refl refl (refl, tt) in
    let c : Rule bags (comp B (gen 3 (table 0) (bind 7 (field 0 (name 3)) qnil)) (name 7)) (comp B (gen 3 (table 0) qnil) (field 0 (name 3))) = bound_name (upd 7 true (upd 3 true no_name)) B g 7 (field 0 (name 3)) qnil (name 7) refl refl tt in
    let d : Rule bags (comp B (gen 3 (table 0) qnil) (field 0 (name 3))) (comp B (gen 0 (table 0) qnil) (field 0 (name 0))) = rename no_name B qnil 3 0 (table 0) qnil (field 0 (name 3)) refl refl tt in
    onwards hole (onwards hole (onwards hole (onwards hole none a) b) c) d

asked-normal : found ≡ normal bags asked
unfolding found term_of NoRule Ordered behind upd
asked-normal = rewriting-ends-there bags asked found steps ((tt, tt), (tt, tt)) ((refl, tt), refl)
