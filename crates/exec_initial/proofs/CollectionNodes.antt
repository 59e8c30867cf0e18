-- The node of a collection: a comprehension whose monoid collects.
use mathlib.Core.Path.{◌≡◌, refl, sym, ap, subst, ◌∙◌}
use mathlib.Core.Bool.{true}
use Rattle.spec_calculus.specs.Syntax.{list, bag, set, of, sum, max, some, all}
use Rattle.spec_calculus.specs.Syntax as Sy
use Rattle.base_syntax.specs.declared.Monoid.{Monoid}
use Rattle.base_syntax.specs.declared.Monoid.TheVariants as Mo
use Rattle.base_syntax.specs.Numbers.{monoid_arg, monoid_at}
use Rattle.form_words.specs.declared.FormNode.{FormNode}
use Rattle.form_words.specs.declared.FormNode.TheVariants as N
use Rattle.base_syntax.proofs.Numbers.{monoid-back}
use Rattle.answer_writer.specs.declared.WriteForm.{WriteForm}
use Rattle.answer_writer.specs.declared.WriteForm.TheVariants as Sh
use Rattle.answer_writer.specs.Shapes.{comprehension_shape, shape_of}
use Rattle.plan_marks.specs.PlanIn.{monoid_by}
use Rattle.plan_machine.specs.AnswerText.{collects}

monoid-collects : (m : Monoid) → comprehension_shape m ≡ Sh.Collection → collects (monoid_by (N.Comprehension m)) ≡ true
unfolding collects
monoid-collects Mo.List e = refl
monoid-collects Mo.Bag e = refl
monoid-collects Mo.Set e = refl
monoid-collects Mo.Sum e = cc e
monoid-collects Mo.Max e = cc e
monoid-collects Mo.Min e = cc e
monoid-collects Mo.Some e = cc e
monoid-collects Mo.All e = cc e

-- so of a monoid that the words say
pub shape-collects : (m : Sy.Monoid) → comprehension_shape (monoid_at (monoid_arg m)) ≡ Sh.Collection → collects m ≡ true
shape-collects m e = ap collects (sym (monoid-back m)) ∙ monoid-collects (monoid_at (monoid_arg m)) e

pub collects-shape : (m : Sy.Monoid) → collects m ≡ true → comprehension_shape (monoid_at (monoid_arg m)) ≡ Sh.Collection
unfolding collects
collects-shape (of list) e = refl
collects-shape (of bag) e = refl
collects-shape (of set) e = refl
collects-shape sum e = cc e
collects-shape max e = cc e
collects-shape Sy.min e = cc e
collects-shape some e = cc e
collects-shape all e = cc e

pub record CollectionAt (n : FormNode) : Type 0 where
  pub monoid : Monoid
  pub node : n ≡ N.Comprehension monoid
  pub collects : collects (monoid_by n) ≡ true

abbrev pub IsCollection : WriteForm → Type 0
IsCollection (Sh.Word k) = ⊥
IsCollection (Sh.Row g) = ⊥
IsCollection (Sh.Record e) = ⊥
IsCollection Sh.Collection = Unit {0}

pub collection-at : (n : FormNode) → shape_of n ≡ Sh.Collection → CollectionAt n
collection-at (N.Number z) e = absurd (subst IsCollection (sym e) tt)
collection-at (N.Truth b) e = absurd (subst IsCollection (sym e) tt)
collection-at (N.Row g) e = absurd (subst IsCollection (sym e) tt)
collection-at (N.Cell c g) e = absurd (subst IsCollection (sym e) tt)
collection-at (N.Record j) e = absurd (subst IsCollection (sym e) tt)
collection-at (N.Operator f j) e = absurd (subst IsCollection (sym e) tt)
collection-at (N.Binary o j) e = absurd (subst IsCollection (sym e) tt)
collection-at N.Negation e = absurd (subst IsCollection (sym e) tt)
collection-at (N.Comprehension m) e = record { monoid = m; node = refl; collects = monoid-collects m e }
collection-at (N.Generator g k) e = absurd (subst IsCollection (sym e) tt)
collection-at (N.Condition j) e = absurd (subst IsCollection (sym e) tt)
collection-at N.Nothing e = absurd (subst IsCollection (sym e) tt)
