-- What the value of a normal form sees of the order in which rows are stored.
use mathlib.Core.Path.{◌≡◌, refl, sym, ap, ap₂, subst, ◌∙◌}
use mathlib.Core.List.{List, [], ◌∷◌, foldr}
use mathlib.Core.Bool.{Bool, true, false}
use Prim.Native.Nat.{ℕ}
use native.Mathlib.Omega.{arith}
use Rattle.spec_calculus.specs.Lists.{bind_l, guard, upd}
use Rattle.spec_calculus.specs.Syntax.{list, bag, Monoid, of, sum, max, min, some, all}
use Rattle.spec_calculus.specs.Value.{Value, vcons, as_bool, bin_v, not_v, app_v, Tables, rows_of}
use Rattle.spec_calculus.specs.Value as Va
use Rattle.spec_calculus.specs.Order.{le_v, insert}
use Rattle.spec_calculus.specs.Monoid.{Entry, start, step, finish, fold_by, ordered, canonical}
use Rattle.spec_calculus.specs.Meaning.{Env}
use Rattle.spec_calculus.specs.Rearrangement.{Rearranged, nil, trans}
use Rattle.spec_calculus.proofs.Sorting.{rearranged-path, rearranged-left, rearranged-right, bind-rearranged}
use Rattle.spec_calculus.proofs.Folds.{fold-foldr, order-unseen}
use Rattle.spec_normal_form.specs.Form.{Form, Forms, Clauses, row, cell, fnil, fcons, done, value, values, loops}
use Rattle.spec_normal_form.specs.Form as Nf

-- With every collection sorted, and all repeats kept, the value of a normal form does not depend on the order of any table's rows.
unfoldable pub sorted : Entry
sorted c v l = insert le_v v l

abbrev as_bag : Monoid → Monoid
as_bag (of c) = of bag
as_bag sum = sum
as_bag max = max
as_bag min = min
as_bag some = some
as_bag all = all

as-bag : (m : Monoid) (l : List Value) → fold_by sorted m l ≡ canonical (as_bag m) l
unfolding canonical
as-bag m l = fold-foldr sorted m l ∙ ap₂ (λ f e. finish m (foldr f e l)) (steps m) (starts m) ∙ finishes m (foldr (step ordered (as_bag m)) (start (as_bag m)) l) ∙ sym (fold-foldr ordered (as_bag m) l)
  where
    steps : (m : Monoid) → step sorted m ≡ step ordered (as_bag m)
    steps (of c) = unfold step sorted ordered in refl
    steps sum = unfold step in refl
    steps max = unfold step in refl
    steps min = unfold step in refl
    steps some = unfold step in refl
    steps all = unfold step in refl

    starts : (m : Monoid) → start m ≡ start (as_bag m)
    starts (of c) = unfold start in refl
    starts sum = refl
    starts max = refl
    starts min = refl
    starts some = refl
    starts all = refl

    finishes : (m : Monoid) (w : Value) → finish m w ≡ finish (as_bag m) w
    finishes (of c) w = unfold finish in refl
    finishes sum w = refl
    finishes max w = refl
    finishes min w = refl
    finishes some w = refl
    finishes all w = refl

sorted-unseen : (m : Monoid) {l n : List Value} → Rearranged l n → fold_by sorted m l ≡ fold_by sorted m n
sorted-unseen m {l} {n} r = as-bag m l ∙ order-unseen (as_bag m) (no-list m) r ∙ sym (as-bag m n)
  where
    no-list : (m : Monoid) → as_bag m ≡ of list → ⊥
    no-list (of c) e = let z : ◌≡◌ {A = ℕ} 0 1 = cc in omega arith
    no-list sum e = let z : ◌≡◌ {A = ℕ} 0 1 = cc in omega arith
    no-list max e = let z : ◌≡◌ {A = ℕ} 0 1 = cc in omega arith
    no-list min e = let z : ◌≡◌ {A = ℕ} 0 1 = cc in omega arith
    no-list some e = let z : ◌≡◌ {A = ℕ} 0 1 = cc in omega arith
    no-list all e = let z : ◌≡◌ {A = ℕ} 0 1 = cc in omega arith

bind-each : {A B : Type 0} (l : List A) (f g : A → List B) → ((a : A) → Rearranged (f a) (g a)) → Rearranged (bind_l l f) (bind_l l g)
unfolding bind_l
bind-each [] f g h = nil
bind-each (a ∷ l) f g h = trans (rearranged-left (bind_l l f) (h a)) (rearranged-right (g a) (bind-each l f g h))

guard-each : {A : Type 0} (b : Bool) {l m : List A} → Rearranged l m → Rearranged (guard b l) (guard b m)
unfolding guard
guard-each true r = r
guard-each false r = nil

module _ (T U : Tables) (rows : (k : ℕ) → Rearranged (rows_of T k) (rows_of U k)) where
  mutual
    unfolding value

    pub value-sorted : (f : Form) (ρ : Env) → value (fold_by sorted) T f ρ ≡ value (fold_by sorted) U f ρ
    value-sorted (Nf.num z) ρ = refl
    value-sorted (Nf.truth b) ρ = refl
    value-sorted (row g) ρ = refl
    value-sorted (cell i g) ρ = refl
    value-sorted (Nf.rec ts) ρ = ap Va.rec (values-sorted ts ρ)
    value-sorted (Nf.app f ts) ρ = ap (app_v f) (values-sorted ts ρ)
    value-sorted (Nf.bin o s t) ρ = ap₂ (bin_v o) (value-sorted s ρ) (value-sorted t ρ)
    value-sorted (Nf.negate t) ρ = ap not_v (value-sorted t ρ)
    value-sorted (Nf.comp m q h) ρ = sorted-unseen m (loops-sorted q (λ σ. value (fold_by sorted) T h σ ∷ []) (λ σ. value (fold_by sorted) U h σ ∷ []) (λ σ. rearranged-path (ap (λ v. v ∷ []) (value-sorted h σ))) ρ)

    values-sorted : (ts : Forms) (ρ : Env) → values (fold_by sorted) T ts ρ ≡ values (fold_by sorted) U ts ρ
    values-sorted fnil ρ = refl
    values-sorted (fcons t ts) ρ = ap₂ vcons (value-sorted t ρ) (values-sorted ts ρ)

    loops-sorted : (q : Clauses) (k l : Env → List Value) → ((σ : Env) → Rearranged (k σ) (l σ)) → (ρ : Env) → Rearranged (loops (fold_by sorted) T q k ρ) (loops (fold_by sorted) U q l ρ)
    loops-sorted done k l h ρ = h ρ
    loops-sorted (Nf.gen g t q) k l h ρ = trans
        (bind-rearranged (λ v. loops (fold_by sorted) T q k (upd g v ρ)) (rows t))
        (bind-each (rows_of U t) (λ v. loops (fold_by sorted) T q k (upd g v ρ)) (λ v. loops (fold_by sorted) U q l (upd g v ρ)) (λ v. loops-sorted q k l h (upd g v ρ)))
    loops-sorted (Nf.cond t q) k l h ρ = subst (λ b. Rearranged (guard (as_bool (value (fold_by sorted) T t ρ)) (loops (fold_by sorted) T q k ρ)) (guard (as_bool b) (loops (fold_by sorted) U q l ρ))) (value-sorted t ρ)
        (guard-each (as_bool (value (fold_by sorted) T t ρ)) (loops-sorted q k l h ρ))
