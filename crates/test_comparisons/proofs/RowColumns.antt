-- How many columns a row has does not show in the comparisons of a value: its cells are not ordered.
use mathlib.Core.Path.{◌≡◌, refl, sym, ap, ap₂, ◌∙◌, fun_ext}
use mathlib.Core.Bool.{true}
use mathlib.Core.List.{List, map}
use Prim.Native.Nat.{ℕ, zero, suc, ◌+◌}
use native.Mathlib.Omega.{arith}
use Rattle.base_signed.proofs.SignedWords.{no}
use Rattle.spec_calculus.specs.Syntax.{Collection, Monoid, of, sum, max, min, some, all}
use Rattle.spec_calculus.specs.Value.{Value, Values, vnil, vcons, to_list}
use Rattle.spec_calculus.specs.Value as Va
use Rattle.spec_calculus.specs.Monoid.{ordered, fold_by}
use Rattle.spec_checks.specs.Types.{Ty, Tys, number, truth, record', coll, ynil, ycons, cells}
use Rattle.spec_checks.proofs.Refold.{on_parts, refold, refolds, gathered, arrange_as}
use Rattle.spec_normal_form.specs.Form.{Form, Forms, row, cell, rec, bin, negate, app, comp, fnil, fcons}
use Rattle.spec_normal_form.specs.Form as Fo
use Rattle.answer_types.specs.Shape.{type_of, types_of, is_single}
use Rattle.answer_types.proofs.Types.{single-gives}
use Rattle.answer_heap.specs.HeapSort.{Counted}
use Rattle.answer_sort.specs.Ordering.{ordering}
use Rattle.answer_canonical.specs.Comparisons.{total, parts, own, inside, inside_each, steps}

-- values are written, and their elements ordered, by t as by u
record Same (t u : Ty) : Type 0 where
  written : (v : Value) → arrange_as t v ≡ arrange_as u v
  within : (v : Value) → inside t v ≡ inside u v
  itself : (v : Value) → own t v ≡ own u v

record SameEach (ts us : Tys) : Type 0 where
  written : (vs : Values) → refolds ordered ts vs ≡ refolds ordered us vs
  within : (vs : Values) → inside_each ts vs ≡ inside_each us vs

alike : {t : Ty} → Same t t
alike = record { written = λ v. refl; within = λ v. refl; itself = λ v. refl }

-- ---- a number or a truth
plain : (t : Ty) → true ≡ is_single t → Same t number
unfolding refold inside own
plain number e = record { written = λ v. refl; within = λ v. refl; itself = λ v. refl }
plain truth e = record { written = λ v. refl; within = λ v. refl; itself = λ v. refl }
plain (record' ts) e = no e
plain (coll c t) e = no e

back : {t u : Ty} → Same t u → Same u t
back S = record { written = λ v. sym (S.written v); within = λ v. sym (S.within v); itself = λ v. sym (S.itself v) }

both : {t u x : Ty} → Same t x → Same u x → Same t u
both S R = record { written = λ v. S.written v ∙ (back R).written v; within = λ v. S.within v ∙ (back R).within v; itself = λ v. S.itself v ∙ (back R).itself v }

-- ---- a row
cells-written : (n : ℕ) (vs : Values) → refolds ordered (cells n) vs ≡ vs
unfolding refold cells
cells-written zero vs = refl
cells-written (suc n) vnil = refl
cells-written (suc n) (vcons v vs) = ap (vcons v) (cells-written n vs)

cells-within : (n : ℕ) (vs : Values) → inside_each (cells n) vs ≡ 0
unfolding inside own cells
cells-within zero vs = refl
cells-within (suc n) vnil = refl
cells-within (suc n) (vcons v vs) = omega (arith, cells-within n vs)

rows : (m n : ℕ) → SameEach (cells m) (cells n)
rows m n = record { written = λ vs. cells-written m vs ∙ sym (cells-written n vs); within = λ vs. cells-within m vs ∙ sym (cells-within n vs) }

-- ---- records and collections
records : {ts us : Tys} → SameEach ts us → Same (record' ts) (record' us)
unfolding refold on_parts inside own
records {ts} {us} S = record { written = go; within = λ v. S.within (parts v); itself = λ v. refl }
  where
    go : (v : Value) → arrange_as (record' ts) v ≡ arrange_as (record' us) v
    go (Va.num z) = refl
    go (Va.truth b) = refl
    go (Va.rec vs) = ap Va.rec (S.written vs)
    go (Va.coll vs) = refl

more : {t u : Ty} {ts us : Tys} → Same t u → SameEach ts us → SameEach (ycons t ts) (ycons u us)
unfolding refold inside
more {t} {u} {ts} {us} S R = record { written = go; within = on }
  where
    go : (vs : Values) → refolds ordered (ycons t ts) vs ≡ refolds ordered (ycons u us) vs
    go vnil = refl
    go (vcons v vs) = ap₂ vcons (S.written v) (R.written vs)

    on : (vs : Values) → inside_each (ycons t ts) vs ≡ inside_each (ycons u us) vs
    on vnil = refl
    on (vcons v vs) = ap₂ ◌+◌ (ap₂ ◌+◌ (S.within v) (S.itself v)) (R.within vs)

map-as : {A : Type 0} {f g : Value → A} (l : List Value) → ((v : Value) → f v ≡ g v) → map f l ≡ map g l
map-as l h = ap (λ f. map f l) (fun_ext h)

collections : (c : Collection) {t u : Ty} → Same t u → Same (coll c t) (coll c u)
unfolding refold on_parts inside own
collections c {t} {u} S = record {
  written = go;
  within = λ v. ap total (map-as (to_list (parts v)) (λ w. ap₂ ◌+◌ (S.within w) (S.itself w)));
  itself = λ v. ap (λ l. (ordering c l).comparisons) (map-as (to_list (parts v)) S.written);
}
  where
    go : (v : Value) → arrange_as (coll c t) v ≡ arrange_as (coll c u) v
    go (Va.num z) = refl
    go (Va.truth b) = refl
    go (Va.rec vs) = refl
    go (Va.coll vs) = ap (fold_by ordered (of c)) (map-as (to_list vs) S.written)

gathers : (m : Monoid) {t u : Ty} → Same t u → Same (gathered m t) (gathered m u)
unfolding gathered
gathers (of c) S = collections c S
gathers sum S = alike
gathers max S = alike
gathers min S = alike
gathers some S = alike
gathers all S = alike

-- ---- whatever the columns are
module _ (C D : ℕ → ℕ) where
  mutual
    unfolding type_of

    form-same : (t : Form) → Same (type_of C t) (type_of D t)
    form-same (Fo.num z) = alike
    form-same (Fo.truth b) = alike
    form-same (row g) = records (rows (C g) (D g))
    form-same (cell i g) = alike
    form-same (rec ts) = records (forms-same ts)
    form-same (bin o t u) = alike
    form-same (negate t) = alike
    form-same (app f ts) = both (plain _ (single-gives f (types_of C ts))) (plain _ (single-gives f (types_of D ts)))
    form-same (comp m q h) = gathers m (form-same h)

    forms-same : (ts : Forms) → SameEach (types_of C ts) (types_of D ts)
    forms-same fnil = record { written = λ vs. refl; within = λ vs. refl }
    forms-same (fcons t ts) = more (form-same t) (forms-same ts)

  pub steps-same : (t : Form) (v : Value) → steps (type_of C t) v ≡ steps (type_of D t) v
  steps-same t v = let S = form-same t in ap₂ ◌+◌ (S.within v) (S.itself v)
