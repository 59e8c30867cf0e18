-- Laws of arranging: it keeps types, leaves a collection no more elements and a value without a collection as it is, and does not
-- see how many columns a row has.
use mathlib.Core.Path.{◌≡◌, refl, sym, ap, ap₂, subst, ◌∙◌, fun_ext}
use mathlib.Core.Bool.{Bool, true, false}
use mathlib.Core.List.{List, [], ◌∷◌, map}
use Prim.Native.Nat.{ℕ, suc, ◌≤◌}
use native.Mathlib.Omega.{arith}
use lib.ListN.{length}
use Rattle.spec_calculus.specs.Syntax as Sy
use Rattle.spec_calculus.specs.Syntax.{Collection, list, bag, set, Monoid, of, sum, max, some, all, Fun}
use Rattle.spec_calculus.specs.Value.{Value, Values, vnil, vcons, count, to_list, from_list}
use Rattle.spec_calculus.specs.Value as Va
use Rattle.spec_calculus.specs.Order.{le_v, put}
use Rattle.spec_calculus.specs.Monoid.{fold_by, ordered}
use Rattle.spec_calculus.proofs.Lists.{All}
use Rattle.spec_calculus.proofs.Sorting.{rearranged-sym, all-rearranged, all-repeated, sort_distinct, put-eq, put-lt, put-gt, sort-rearranges, distinct-repeats}
use Rattle.spec_calculus.proofs.Order.{V-total}
use Rattle.spec_calculus.proofs.Folds.{arranged}
use Rattle.spec_checks.specs.Types.{Ty, Tys, number, truth, record', coll, ynil, ycons, cells}
use Rattle.spec_checks.proofs.Refold.{on_parts, refold, refolds, gives, gathered, arrange_as, arrange-coll, by_parts}
use Rattle.spec_normal_form.specs.Form.{Form, Forms, row, cell, rec, bin, negate, app, comp, fnil, fcons}
use Rattle.spec_normal_form.specs.Form as Fo
use Rattle.spec_normal_form.proofs.RawArranged.{shape, shapes, arrange}
use Rattle.answer_types.specs.FlatTypes.{Flat, FlatEach}
use Rattle.answer_types.specs.Shape.{type_of, types_of}
use Rattle.answer_types.specs.TypedValues.{Of, a_number, a_truth, a_record, a_collection, OfEach, no_field, field, AllOf, no_element, element}
use Rattle.answer_types.proofs.Types.{row-width, single-has, single-gives}
use Rattle.answer_types.proofs.RawValueType.{from_all}
use Rattle.answer_types.proofs.Elements.{rearranged-count}

-- ---- elements as a list
pub count-from : (l : List Value) → count (from_list l) ≡ length l
unfolding count
count-from [] = refl
count-from (v ∷ l) = ap suc (count-from l)

-- ---- a collection has no more elements than it was made of
put_count : (v : Value) (l : List Value) → length (put le_v v l) ≤ suc (length l)
unfolding put
put_count v [] = omega arith
put_count v (w ∷ l) = go (le_v v w) (le_v w v) refl refl (put_count v l)
  where
    go : (b c : Bool) → le_v v w ≡ b → le_v w v ≡ c → length (put le_v v l) ≤ suc (length l) → length (put le_v v (w ∷ l)) ≤ suc (length (w ∷ l))
    go true true p q h = rw (put-eq le_v v w l p q) (omega arith)
    go true false p q h = rw (put-lt le_v v w l p q) (omega arith)
    go false c p q h = rw (put-gt le_v v w l p) (omega arith)

distinct-count : (l : List Value) → length (sort_distinct le_v l) ≤ length l
unfolding sort_distinct
distinct-count [] = omega arith
distinct-count (v ∷ l) = omega (arith, put_count v (sort_distinct le_v l), distinct-count l)

pub arranged-count : (c : Collection) (l : List Value) → length (arranged c l) ≤ length l
unfolding arranged
arranged-count list l = omega arith
arranged-count bag l = omega (arith, rearranged-count (sort-rearranges le_v l))
arranged-count set l = distinct-count l

-- ---- types are kept
arranged-all : (P : Value → Type 0) (c : Collection) (l : List Value) → All P l → All P (arranged c l)
unfolding arranged
arranged-all P list l h = h
arranged-all P bag l h = all-rearranged P (rearranged-sym (sort-rearranges le_v l)) h
arranged-all P set l h = (all-repeated P (distinct-repeats le_v V-total l)).1 h

mutual
  unfolding refold on_parts

  pub arrange-of : (t : Ty) (v : Value) → Of t v → Of t (arrange_as t v)
  arrange-of t v (a_number z) = a_number z
  arrange-of t v (a_truth b) = a_truth b
  arrange-of t v (a_record {ts = ts} {vs = vs} n h) = a_record n (arrange-each ts vs h)
  arrange-of t v (a_collection c {t = u} {vs = vs} h) = subst (Of (coll c u)) (sym (arrange-coll c u vs)) (a_collection c (from_all (arranged c (map (arrange_as u) (to_list vs))) (arranged-all (Of u) c (map (arrange_as u) (to_list vs)) (arrange-all u vs h))))

  arrange-each : (ts : Tys) (vs : Values) → OfEach ts vs → OfEach ts (refolds ordered ts vs)
  arrange-each ts vs no_field = no_field
  arrange-each ts vs (field {t = t} {ts = us} {v = v} {vs = ws} h k) = field (arrange-of t v h) (arrange-each us ws k)

  arrange-all : (t : Ty) (vs : Values) → AllOf t vs → All (Of t) (map (arrange_as t) (to_list vs))
  arrange-all t vs no_element = tt
  arrange-all t vs (element {v = v} {vs = ws} h k) = (arrange-of t v h, arrange-all t ws k)

pub arrange-list : (t : Ty) (l : List Value) → All (Of t) l → All (Of t) (map (arrange_as t) l)
arrange-list t [] h = tt
arrange-list t (v ∷ l) h = (arrange-of t v h.0, arrange-list t l h.1)

-- ---- a value without a collection is as it is
mutual
  unfolding refold

  pub flat-same : (t : Ty) (v : Value) → Flat t → arrange_as t v ≡ v
  flat-same number v h = refl
  flat-same truth v h = refl
  flat-same (record' ts) v h = by_parts (λ a b. a ≡ b) (λ w. refl) (λ vs. Va.rec (refolds ordered ts vs)) Va.coll (λ vs. ap Va.rec (flat-sames ts vs h)) (λ vs. refl) v
  flat-same (coll c t) v h = absurd h

  flat-sames : (ts : Tys) (vs : Values) → FlatEach ts → refolds ordered ts vs ≡ vs
  flat-sames ynil vs h = refl
  flat-sames (ycons t ts) vnil h = refl
  flat-sames (ycons t ts) (vcons v vs) h = ap₂ vcons (flat-same t v h.0) (flat-sames ts vs h.1)

-- a choice gives a number or a truth
single-same : (f : Fun) (us : Tys) (v : Value) → arrange_as (gives f us) v ≡ v
single-same f us v = flat-same (gives f us) v (single-has (gives f us) (single-gives f us)).0

gathered-same : (m : Monoid) (t u : Ty) → ((w : Value) → arrange_as t w ≡ arrange_as u w) → (v : Value) → arrange_as (gathered m t) v ≡ arrange_as (gathered m u) v
unfolding gathered refold
gathered-same (of c) t u h v = ap (λ (f : Value → Value). on_parts Va.rec (λ vs. fold_by ordered (of c) (map f (to_list vs))) v) (fun_ext h)
gathered-same sum t u h v = refl
gathered-same max t u h v = refl
gathered-same Sy.min t u h v = refl
gathered-same some t u h v = refl
gathered-same all t u h v = refl

-- ---- The type of a normal form arranges a value as the normal form does: it tells a row's columns besides.
mutual
  unfolding type_of shape refold

  pub arrange-type : (C : ℕ → ℕ) (t : Form) (v : Value) → arrange_as (type_of C t) v ≡ arrange t v
  arrange-type C (Fo.num z) v = refl
  arrange-type C (Fo.truth b) v = refl
  arrange-type C (row g) v = flat-same (record' (cells (C g))) v (row-width (C g)).0
  arrange-type C (cell i g) v = refl
  arrange-type C (rec ts) v = ap (λ r. on_parts r Va.coll v) (fun_ext λ vs. ap Va.rec (arrange-types C ts vs))
  arrange-type C (bin o t u) v = refl
  arrange-type C (negate t) v = refl
  arrange-type C (app f ts) v = single-same f (types_of C ts) v ∙ sym (single-same f (shapes ts) v)
  arrange-type C (comp m q h) v = gathered-same m (type_of C h) (shape h) (λ w. arrange-type C h w) v

  arrange-types : (C : ℕ → ℕ) (ts : Forms) (vs : Values) → refolds ordered (types_of C ts) vs ≡ refolds ordered (shapes ts) vs
  arrange-types C fnil vs = refl
  arrange-types C (fcons t ts) vnil = refl
  arrange-types C (fcons t ts) (vcons v vs) = ap₂ vcons (arrange-type C t v) (arrange-types C ts vs)
