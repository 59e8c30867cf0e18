-- Laws of words set to 0.
use mathlib.Core.Path.{◌≡◌, refl, sym, ap, subst, ◌∙◌}
use mathlib.Core.Bool.{Bool, true, false}
use mathlib.Core.List.{List, ◌++◌}
use mathlib.Core.Logic.{inl, inr, ⊎_elim}
use Prim.Native.Nat.{ℕ, ◌+◌, ◌-◌, ◌≤◌, ◌<◌}
use native.Mathlib.Omega.{arith}
use lib.Dec.{ltb}
use lib.ListN.{length, get_or, drop, set, replicate, length-set, length-append, length-replicate, length-drop, get_or-replicate, get_or-append}
use lib.Seq.{get_or-set_same, get_or-set_other, get_or-append-add, get_or-drop, ext_get_or}
use borrow.Author.Tests.{ltb-true, ltb-false}
use Rattle.base_scratch.specs.ZeroedWords.{WipePost}

-- ---- word by word
pub wiped-none : (s : List ℕ) (a : ℕ) → WipePost a a s s
wiped-none s a = record { long = refl; inside = λ j l h. absurd (omega arith); outside = λ j h. refl }

module _ {s₀ s t : List ℕ} {a i : ℕ} (W : WipePost a i s₀ s) (low : a ≤ i) (room : i < length s₀) (e : t ≡ set s i 0) where
  same : (j : ℕ) → (j ≡ i → ⊥) → get_or t j 0 ≡ get_or s j 0
  same j h = ap (λ (l : List ℕ). get_or l j 0) e ∙ get_or-set_other s i j 0 0 h

  at : (b : Bool) (j : ℕ) → ltb j i ≡ b → a ≤ j → j < i + 1 → get_or t j 0 ≡ 0
  at true j p l h = let k = ltb-true j i p in same j (λ q. omega arith) ∙ W.inside j l k
  at false j p l h =
      let k = ltb-false j i p in
      let z : j ≡ i = omega arith in
      let r = W.long in
      ap (λ (x : ℕ). get_or t x 0) z ∙ ap (λ (l : List ℕ). get_or l i 0) e ∙ get_or-set_same s i 0 0 (omega arith)

  pub wiped-more : WipePost a (i + 1) s₀ t
  wiped-more = record {
    long = ap length e ∙ length-set s i 0 ∙ W.long;
    inside = λ j l h. at (ltb j i) j refl l h;
    outside = λ j h. ⊎_elim (λ p. same j (λ q. omega arith) ∙ W.outside j (inl p)) (λ p. same j (λ q. omega arith) ∙ W.outside j (inr (omega arith))) h;
  }

pub wiped-all : {a b i : ℕ} {s s' : List ℕ} → WipePost a i s s' → i ≤ b → b ≤ i → WipePost a b s s'
wiped-all {a} {s = s} {s'} W h l = subst (λ (x : ℕ). WipePost a x s s') (omega arith) W

-- ---- as a list, from the front
module _ (n : ℕ) {s s' : List ℕ} (W : WipePost 0 n s s') (room : n ≤ length s) where
  abbrev zeros : List ℕ
  zeros = replicate n 0

  many : length zeros ≡ n
  many = length-replicate {A = ℕ} n 0

  whole : length s' ≡ length (zeros ++ drop n s)
  whole = W.long ∙ sym (length-append zeros (drop n s) ∙ omega (arith, many, length-drop n s))

  word : (b : Bool) (j : ℕ) → ltb j n ≡ b → get_or s' j 0 ≡ get_or (zeros ++ drop n s) j 0
  word true j p = let l = ltb-true j n p in W.inside j (omega arith) l ∙ sym (get_or-append zeros (drop n s) 0 j (omega (arith, many)) ∙ get_or-replicate n j 0 0 l)
  word false j p =
      let l = ltb-false j n p in
      let z : length zeros + (j - n) ≡ j = omega (arith, many) in
      let y : n + (j - n) ≡ j = omega arith in
      W.outside j (inr l) ∙ sym (ap (λ (x : ℕ). get_or (zeros ++ drop n s) x 0) (sym z) ∙ get_or-append-add zeros (drop n s) (j - n) 0 ∙ get_or-drop n s (j - n) 0 ∙ ap (λ (x : ℕ). get_or s x 0) y)

  pub wiped-front : s' ≡ zeros ++ drop n s
  wiped-front = ext_get_or 0 s' (zeros ++ drop n s) whole (λ j l. word (ltb j n) j refl)
