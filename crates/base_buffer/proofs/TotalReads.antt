-- Laws of reading at a place.
use mathlib.Core.Path.{◌≡◌, refl, sym, ap, ◌∙◌}
use mathlib.Core.List.{List, ◌∷◌}
use Prim.Native.Nat.{ℕ, zero, suc, ◌+◌, ◌-◌, ◌≤◌, ◌<◌, min}
use native.Mathlib.Omega.{arith}
use native.Mathlib.Nat.{suc-add}
use lib.Dec.{ltb}
use lib.ListN.{length, get_or, drop, length-drop}
use lib.Seq.{drop-drop, get_or-drop}
use lib.IntN.{ℤ, pos}
use borrow.Author.Tests.{lt-ltb, le-ltb, ltb-true, ltb-false}
use Rattle.spec_calculus.specs.Lists.{pick}
use Rattle.base_signed.proofs.SignedWords.{by-test}
use Rattle.base_buffer.specs.TotalReads.{word_at, nat_of, least, count_at, behind, times}

-- ---- steps
pub behind-in : (w : List ℤ) (p : ℕ) → p < length w → p + 1 ≡ behind w p
unfolding behind pick
behind-in w p l = rw (lt-ltb p (length w) l)

pub behind-out : (w : List ℤ) (p : ℕ) → length w ≤ p → p ≡ behind w p
unfolding behind pick
behind-out w p l = rw (le-ltb p (length w) l)

pub behind-within : (w : List ℤ) (p : ℕ) → p ≤ length w → behind w p ≤ length w
behind-within w p l = by-test (ltb p (length w)) (λ e. omega (arith, behind-in w p (ltb-true p (length w) e), ltb-true p (length w) e)) (λ e. omega (arith, behind-out w p (ltb-false p (length w) e)))

pub times_none : (n : ℕ) (F : ℕ → ℕ) (p : ℕ) → n ≤ 0 → times n F p ≡ p
unfolding times
times_none zero F p l = refl
times_none (suc n) F p l = absurd (omega arith)

pub times-some : (n : ℕ) (F : ℕ → ℕ) (p : ℕ) → 0 < n → times n F p ≡ times (n - 1) F (F p)
unfolding times
times-some zero F p l = absurd (omega arith)
times-some (suc n) F p l = let e : n ≡ suc n - 1 = omega arith in ap (λ (m : ℕ). times m F (F p)) e

pub times-sum : (m n : ℕ) (F : ℕ → ℕ) (p : ℕ) → times n F (times m F p) ≡ times (m + n) F p
unfolding times
times-sum zero n F p = ap (λ (k : ℕ). times k F p) (none n)
  where
    none : (k : ℕ) → k ≡ 0 + k
    none k = omega arith
times-sum (suc m) n F p = times-sum m n F (F p) ∙ ap (λ (k : ℕ). times k F p) (sym (suc-add m n))

pub times-within : (n : ℕ) (F : ℕ → ℕ) (L : ℕ) → ((q : ℕ) → q ≤ L → F q ≤ L) → (p : ℕ) → p ≤ L → times n F p ≤ L
unfolding times
times-within zero F L h p l = l
times-within (suc n) F L h p l = times-within n F L h (F p) (h p l)

-- ---- ahead: n steps of one word
pub ahead-out : (w : List ℤ) (p n : ℕ) → length w ≤ p → p ≡ times n (behind w) p
unfolding times
ahead-out w p zero l = refl
ahead-out w p (suc n) l = ahead-out w p n l ∙ ap (times n (behind w)) (behind-out w p l)

pub ahead_in : (w : List ℤ) (p n : ℕ) → p + n ≤ length w → p + n ≡ times n (behind w) p
unfolding times
ahead_in w p zero l = omega arith
ahead_in w p (suc n) l = next p n ∙ ahead_in w (p + 1) n (omega arith) ∙ ap (times n (behind w)) (behind-in w p (omega arith))
  where
    next : (q m : ℕ) → q + suc m ≡ q + 1 + m
    next q m = omega arith

pub ahead-cut : (w : List ℤ) (p n : ℕ) → p ≤ length w → length w - p ≤ n → length w ≡ times n (behind w) p
unfolding times
ahead-cut w p zero l m = omega arith
ahead-cut w p (suc n) l m =
    by-test
    (ltb p (length w))
    (λ e. let h = ltb-true p (length w) e in ahead-cut w (p + 1) n (omega arith) (omega arith) ∙ ap (times n (behind w)) (behind-in w p h))
    (λ e. let h = ltb-false p (length w) e in omega (arith, ahead-out w p n h, ap (times n (behind w)) (behind-out w p h)))

pub ahead_is : (w : List ℤ) (p n : ℕ) → p + min n (length w - p) ≡ times n (behind w) p
ahead_is w p n = by-test (ltb p (length w))
    (λ e. let h = ltb-true p (length w) e in by-test (ltb (length w - p) n)
    (λ f. let g = ltb-true (length w - p) n f in omega (arith, h, g, ahead-cut w p n (omega (arith, h)) (omega (arith, g))))
    (λ f. let g = ltb-false (length w - p) n f in omega (arith, h, g, ahead_in w p n (omega (arith, h, g)))))
    (λ e. let h = ltb-false p (length w) e in omega (arith, h, ahead-out w p n h))

-- ---- the lesser of two numbers
pub least_first : {m x : ℕ} (n : ℕ) → m ≡ x → m ≤ n → m ≡ least x n
unfolding least pick
least_first {m} {x} n e l = rw (le-ltb n x (omega arith)) e

pub least-second : {m x : ℕ} (n : ℕ) → m ≡ x → n < m → n ≡ least x n
unfolding least pick
least-second {m} {x} n e l = rw (lt-ltb n x (omega arith)) refl

pub least_min : {m x r : ℕ} (n : ℕ) → m ≡ x → r ≡ min m n → r ≡ least x n
least_min {m} n e q = by-test (ltb n m) (λ h. omega (arith, least-second n e (ltb-true n m h), ltb-true n m h)) (λ h. omega (arith, least_first n e (ltb-false n m h), ltb-false n m h))

pub least-none : (m n : ℕ) → n ≤ 0 → 0 ≡ least m n
least-none m n l = by-test (ltb n m) (λ e. omega (arith, least-second {m = m} n refl (ltb-true n m e))) (λ e. omega (arith, least_first {m = m} n refl (ltb-false n m e), ltb-false n m e))

-- ---- the first word of what stands at a place
pub starts : (w : List ℤ) (p : ℕ) {z : ℤ} {r : List ℤ} → drop p w ≡ z ∷ r → p < length w
starts w p e = omega (arith, sym (length-drop p w) ∙ ap length e)

pub word-at : (w : List ℤ) (p : ℕ) {z : ℤ} {r : List ℤ} → drop p w ≡ z ∷ r → word_at w p ≡ z
word-at w p e = ap (λ (n : ℕ). get_or w n (pos 0)) (none p) ∙ sym (get_or-drop p w 0 (pos 0)) ∙ ap (λ (l : List ℤ). get_or l 0 (pos 0)) e
  where
    none : (n : ℕ) → n ≡ n + 0
    none n = omega arith

pub word-past : (w : List ℤ) (p : ℕ) {z : ℤ} {r : List ℤ} → drop p w ≡ z ∷ r → drop (behind w p) w ≡ r
word-past w p e = ap (λ (n : ℕ). drop n w) (sym (behind-in w p (starts w p e))) ∙ sym (drop-drop 1 p w) ∙ ap (drop 1) e

-- a count that has so many words behind it is read as it stands
pub count_at_lem : (w : List ℤ) (p k : ℕ) {r : List ℤ} → drop p w ≡ pos k ∷ r → k ≤ length r → count_at w p ≡ k
count_at_lem w p k e l =
    ap (λ (z : ℤ). least (nat_of z) (length w - p - 1)) (word-at w p e)
    ∙ sym (least_first {m = k} (length w - p - 1) refl (omega (arith, sym (length-drop p w) ∙ ap length e)))
