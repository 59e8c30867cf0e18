-- Neither 46 nor the dues see in which order a bag's ships stand.
use mathlib.Core.Path.{◌≡◌, refl, ap, ◌∙◌}
use mathlib.Core.List.{List, [], ◌∷◌, map}
use mathlib.Core.Bool.{Bool, true, false, ◌&&◌}
use Prim.Native.Nat.{ℕ}
use native.Mathlib.Omega.{arith}
use Rattle.spec_calculus.specs.Syntax.{Monoid, list, bag, of}
use Rattle.spec_calculus.specs.Value.{Value, elems}
use Rattle.spec_calculus.specs.Monoid.{canonical}
use Rattle.spec_calculus.specs.Rearrangement.{Rearranged, nil, cons, swap, trans}
use Rattle.spec_calculus.proofs.Folds.{arranged-alike, elems-of, order-unseen}
use Rattle.spec_tariff.specs.Tariff.{Tariff, last_upper, in_reach}
use Rattle.spec_tariff.specs.Dues.{draught_of, draughts_fit, ship_due, dues}

and-swap : (a b c : Bool) → a && (b && c) ≡ b && (a && c)
and-swap true true c = refl
and-swap true false c = refl
and-swap false true c = refl
and-swap false false c = refl

pub draughts-rearranged : (t : Tariff) {l m : List Value} → Rearranged l m → draughts_fit t l ≡ draughts_fit t m
unfolding draughts_fit
draughts-rearranged t nil = refl
draughts-rearranged t (cons v r) = ap (λ (b : Bool). in_reach (last_upper t.steps) (draught_of v) && b) (draughts-rearranged t r)
draughts-rearranged t (swap v w l) = and-swap (in_reach (last_upper t.steps) (draught_of v)) (in_reach (last_upper t.steps) (draught_of w)) (draughts_fit t l)
draughts-rearranged t (trans r q) = draughts-rearranged t r ∙ draughts-rearranged t q

map-rearranged : (f : Value → Value) {l m : List Value} → Rearranged l m → Rearranged (map f l) (map f m)
map-rearranged f nil = nil
map-rearranged f (cons v r) = cons (f v) (map-rearranged f r)
map-rearranged f (swap v w l) = swap (f v) (f w) (map f l)
map-rearranged f (trans r q) = trans (map-rearranged f r) (map-rearranged f q)

bag-no-list : ◌≡◌ {A = Monoid} (of bag) (of list) → ⊥
bag-no-list e = let z : ◌≡◌ {A = ℕ} 0 1 = cc e in absurd (omega arith)

-- of a bag made of the ships l, in whatever order they come
pub bag-draughts : (t : Tariff) (l : List Value) → draughts_fit t (elems (canonical (of bag) l)) ≡ draughts_fit t l
bag-draughts t l = ap (draughts_fit t) (elems-of bag l) ∙ draughts-rearranged t (arranged-alike bag l)

pub bag-dues : (t : Tariff) (l : List Value) → dues t (canonical (of bag) l) ≡ canonical (of bag) (map (ship_due t) l)
unfolding dues
bag-dues t l = ap (λ (m : List Value). canonical (of bag) (map (ship_due t) m)) (elems-of bag l) ∙ order-unseen (of bag) bag-no-list (map-rearranged (ship_due t) (arranged-alike bag l))
