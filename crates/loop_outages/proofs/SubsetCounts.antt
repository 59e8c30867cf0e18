-- The numbers below 2^n leave out, by their bits, what the subsets of n rows lack: counting over either comes to the same.
use mathlib.Core.Path.{◌≡◌, refl, sym, ap, ap₂, ◌∙◌}
use mathlib.Core.List.{List, [], ◌∷◌, map}
use mathlib.Core.Bool.{Bool, true, false}
use Prim.Native.Nat.{ℕ, zero, suc, ◌+◌, ◌*◌, ◌/◌, ◌%◌, ◌^◌, ◌<◌}
use native.Mathlib.Nat.{pow-succ'}
use native.Mathlib.Omega.{arith}
use borrow.Author.Tests.{eq-eqb, ne_eqb}
use lib.ListN.{length}
use Rattle.spec_calculus.specs.Lists.{bind_l, pick}
use Rattle.spec_outages.specs.Outages.{subsets, trues}
use Rattle.base_tables.specs.Description.{kept}
use Rattle.loop_outages.specs.Contract.{count_to}

abbrev bit : Bool → ℕ
bit b = pick b 1 0

pub count_same : (b c : ℕ → Bool) (n : ℕ) → ((m : ℕ) → m < n → b m ≡ c m) → count_to b n ≡ count_to c n
unfolding count_to
count_same b c zero h = refl
count_same b c (suc n) h = ap₂ ◌+◌ (count_same b c n (λ m p. h m (omega arith))) (ap bit (h n (omega arith)))

-- the even ones and the odd ones
count-halves : (b : ℕ → Bool) (n : ℕ) → count_to b (2 * n) ≡ count_to (λ m. b (2 * m)) n + count_to (λ m. b (2 * m + 1)) n
unfolding count_to
count-halves b zero = refl
count-halves b (suc n) =
    let e : 2 * suc n ≡ suc (suc (2 * n)) = omega arith in
    let o : suc (2 * n) ≡ 2 * n + 1 = omega arith in
    ap (count_to b) e ∙ omega (arith, count-halves b n, ap (λ (m : ℕ). bit (b m)) o)

trues-first : (b : Bool) (l : List Bool) → trues (b ∷ l) ≡ bit b + trues l
unfolding trues pick
trues-first true l = omega arith
trues-first false l = omega arith

no-trues : trues [] ≡ 0
unfolding trues
no-trues = refl

trues-pairs : {A : Type 0} (g : List A → Bool) (a : A) (l : List (List A)) → trues (map g (bind_l l (λ S. (a ∷ S) ∷ S ∷ []))) ≡ trues (map (λ S. g (a ∷ S)) l) + trues (map g l)
unfolding bind_l trues
trues-pairs g a [] = omega arith
trues-pairs g a (S ∷ l) = omega (arith, trues-pairs g a l, trues-first (g (a ∷ S)) (g S ∷ map g (bind_l l (λ S. (a ∷ S) ∷ S ∷ []))), trues-first (g S) (map g (bind_l l (λ S. (a ∷ S) ∷ S ∷ []))), trues-first (g (a ∷ S)) (map (λ S. g (a ∷ S)) l), trues-first (g S) (map g l))

kept-even : {A : Type 0} (m : ℕ) (a : A) (l : List A) → kept (2 * m) (a ∷ l) ≡ a ∷ kept m l
unfolding kept pick
kept-even m a l =
    let h : 2 * m / 2 ≡ m = omega arith in
    rw (eq-eqb (2 * m % 2) 0 (omega arith)) (ap (λ (x : ℕ). a ∷ kept x l) h)

kept-odd : {A : Type 0} (m : ℕ) (a : A) (l : List A) → kept (2 * m + 1) (a ∷ l) ≡ kept m l
unfolding kept pick
kept-odd m a l =
    let h : (2 * m + 1) / 2 ≡ m = omega arith in
    rw (ne_eqb ((2 * m + 1) % 2) 0 (λ e. omega (arith, e))) (ap (λ (x : ℕ). kept x l) h)

-- Every subset once, whatever is counted.
pub count-subsets : {A : Type 0} (l : List A) (g : List A → Bool) → count_to (λ m. g (kept m l)) (2 ^ length l) ≡ trues (map g (subsets l))
unfolding count_to subsets kept
count-subsets [] g = sym (trues-first (g []) [] ∙ omega (arith, no-trues))
count-subsets (a ∷ l) g =
    ap (count_to (λ m. g (kept m (a ∷ l)))) (pow-succ' 2 (length l))
    ∙ count-halves (λ m. g (kept m (a ∷ l))) (2 ^ length l)
    ∙ ap₂ ◌+◌
    (count_same (λ m. g (kept (2 * m) (a ∷ l))) (λ m. g (a ∷ kept m l)) (2 ^ length l) (λ m p. ap g (kept-even m a l)) ∙ count-subsets l (λ S. g (a ∷ S)))
    (count_same (λ m. g (kept (2 * m + 1) (a ∷ l))) (λ m. g (kept m l)) (2 ^ length l) (λ m p. ap g (kept-odd m a l)) ∙ count-subsets l g)
    ∙ sym (trues-pairs g a (subsets l))
