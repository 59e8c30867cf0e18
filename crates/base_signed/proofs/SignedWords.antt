-- Laws of i64 arithmetic. Sizes of sums and products are in ℕ, which `omega` reads; a signed local holds the bits of its
-- number, and these laws say what they read back to.
use mathlib.Core.Path.{◌≡◌, refl, sym, ap, subst, ◌∙◌}
use mathlib.Core.Bool.{Bool, true, false, cond, not, true≢false}
use Prim.Native.Nat.{ℕ, zero, suc, ◌+◌, ◌-◌, ◌*◌, ◌^◌, ◌≤◌, ◌<◌}
use native.Mathlib.Nat.{mul-le-mul_left, mul-le-mul_right, le_trans, le_of_lt}
use native.Mathlib.Omega.{arith}
use lib.Dec.{T, ltb, eqb, ltb→lt, le→leb}
use lib.ListN.{length, get_or, set}
use lib.Seq.{get_or-set_same}
use mathlib.Core.List.{List}
use borrow.Author.Tests.{eq-eqb, ne_eqb, eqb-true, eqb-false}
use lib.IntN.{nat_abs, ℤ, pos, negsuc, neg_ℤ, ◌+ℤ◌, ◌-ℤ◌, ◌*ℤ◌}
use lib.Signed.{mag, lt_z, le_z, non_neg, ◌<ℤ◌, ◌≤ℤ◌, lt_z_yes, lt_z_no, le_z_yes, <ℤ-≤ℤ_trans, clash_ℤ}
use mir.Syntax.{w64}
use mir.Val.{SFits, Fits, to_z, of_z}
use mir.Facts.{to_z_pos, to_z-of_z, sfits_lit}
use Rattle.spec_calculus.specs.Value.{eq_z}

-- ---- sizes, in ℕ
mag-cond : (t : Bool) (x y m : ℕ) → x ≤ m → y ≤ m → mag (cond t (negsuc x) (pos y)) ≤ m
mag-cond true x y m p q = p
mag-cond false x y m p q = q

pub mag-add : (a b : ℤ) → mag (a +ℤ b) ≤ mag a + mag b + 1
mag-add (pos a) (pos b) = omega arith
mag-add (pos a) (negsuc b) = mag-cond (ltb a (suc b)) (suc b - suc a) (a - suc b) (a + b + 1) (omega arith) (omega arith)
mag-add (negsuc a) (pos b) = mag-cond (ltb b (suc a)) (suc a - suc b) (b - suc a) (a + b + 1) (omega arith) (omega arith)
mag-add (negsuc a) (negsuc b) = omega arith

pub mag-neg : (a : ℤ) → mag (neg_ℤ a) ≤ mag a + 1
mag-neg (pos zero) = omega arith
mag-neg (pos (suc n)) = omega arith
mag-neg (negsuc n) = omega arith

pub mag-sub : (a b : ℤ) → mag (a -ℤ b) ≤ mag a + mag b + 2
mag-sub a b = omega (arith, mag-add a (neg_ℤ b), mag-neg b)

neg-pos : (n : ℕ) → mag (neg_ℤ (pos n)) ≤ n
neg-pos zero = omega arith
neg-pos (suc n) = omega arith

pub mag-mul : (a b : ℤ) → mag (a *ℤ b) ≤ (mag a + 1) * (mag b + 1)
mag-mul (pos a) (pos b) = le_trans (mul-le-mul_left a (omega arith)) (mul-le-mul_right (b + 1) (omega arith))
mag-mul (pos a) (negsuc b) = le_trans (neg-pos (a * suc b)) (le_trans (mul-le-mul_left a (omega arith)) (mul-le-mul_right (b + 1) (omega arith)))
mag-mul (negsuc a) (pos b) = le_trans (neg-pos (suc a * b)) (le_trans (mul-le-mul_left (suc a) (omega arith)) (mul-le-mul_right (b + 1) (omega arith)))
mag-mul (negsuc a) (negsuc b) = le_trans (mul-le-mul_left (suc a) (omega arith)) (mul-le-mul_right (b + 1) (omega arith))

-- ---- the machine's
pub fits : {z : ℤ} → mag z < 2 ^ 63 → SFits w64 z
fits p = record { sfits = p }

module _ {a b : ℤ} (fa : SFits w64 a) (fb : SFits w64 b) where
  -- a sum that is a word is had as it is; the sum of the sizes is one way to know that
  pub sum-ok : mag (a +ℤ b) < 2 ^ 63 → SFits w64 (to_z w64 (of_z w64 a) +ℤ to_z w64 (of_z w64 b))
  sum-ok p = rw (to_z-of_z fa, to_z-of_z fb) (fits p)

  pub sum_is : mag (a +ℤ b) < 2 ^ 63 → to_z w64 (of_z w64 (to_z w64 (of_z w64 a) +ℤ to_z w64 (of_z w64 b))) ≡ a +ℤ b
  sum_is p = to_z-of_z (sum-ok p) ∙ ap (λ (x : ℤ). x +ℤ to_z w64 (of_z w64 b)) (to_z-of_z fa) ∙ ap (λ (x : ℤ). a +ℤ x) (to_z-of_z fb)

  pub add_ok : mag a + mag b + 1 < 2 ^ 63 → SFits w64 (to_z w64 (of_z w64 a) +ℤ to_z w64 (of_z w64 b))
  add_ok p = sum-ok (omega (arith, mag-add a b))

  pub add_is : mag a + mag b + 1 < 2 ^ 63 → to_z w64 (of_z w64 (to_z w64 (of_z w64 a) +ℤ to_z w64 (of_z w64 b))) ≡ a +ℤ b
  add_is p = sum_is (omega (arith, mag-add a b))

  pub sub-ok : mag a + mag b + 2 < 2 ^ 63 → SFits w64 (to_z w64 (of_z w64 a) -ℤ to_z w64 (of_z w64 b))
  sub-ok p = rw (to_z-of_z fa, to_z-of_z fb) (fits (omega (arith, mag-sub a b)))

  pub sub_is : mag a + mag b + 2 < 2 ^ 63 → to_z w64 (of_z w64 (to_z w64 (of_z w64 a) -ℤ to_z w64 (of_z w64 b))) ≡ a -ℤ b
  sub_is p = to_z-of_z (sub-ok p) ∙ ap (λ (x : ℤ). x -ℤ to_z w64 (of_z w64 b)) (to_z-of_z fa) ∙ ap (λ (x : ℤ). a -ℤ x) (to_z-of_z fb)

  pub mul_ok : (mag a + 1) * (mag b + 1) < 2 ^ 63 → SFits w64 (to_z w64 (of_z w64 a) *ℤ to_z w64 (of_z w64 b))
  mul_ok p = rw (to_z-of_z fa, to_z-of_z fb) (fits (omega (arith, mag-mul a b)))

  pub mul_is : (mag a + 1) * (mag b + 1) < 2 ^ 63 → to_z w64 (of_z w64 (to_z w64 (of_z w64 a) *ℤ to_z w64 (of_z w64 b))) ≡ a *ℤ b
  mul_is p = to_z-of_z (mul_ok p) ∙ ap (λ (x : ℤ). x *ℤ to_z w64 (of_z w64 b)) (to_z-of_z fa) ∙ ap (λ (x : ℤ). a *ℤ x) (to_z-of_z fb)

  pub lt-is : {t : Bool} → lt_z (to_z w64 (of_z w64 a)) (to_z w64 (of_z w64 b)) ≡ t → lt_z a b ≡ t
  lt-is {t} e = ap (λ (x : ℤ). lt_z x b) (sym (to_z-of_z fa)) ∙ ap (lt_z (to_z w64 (of_z w64 a))) (sym (to_z-of_z fb)) ∙ e

  pub le_is : {t : Bool} → le_z (to_z w64 (of_z w64 a)) (to_z w64 (of_z w64 b)) ≡ t → le_z a b ≡ t
  le_is {t} e = ap (λ (x : ℤ). le_z x b) (sym (to_z-of_z fa)) ∙ ap (le_z (to_z w64 (of_z w64 a))) (sym (to_z-of_z fb)) ∙ e

  pub eq_is : of_z w64 a ≡ of_z w64 b → a ≡ b
  eq_is e = sym (to_z-of_z fa) ∙ ap (to_z w64) e ∙ to_z-of_z fb

  pub ne-is : (of_z w64 a ≡ of_z w64 b → ⊥) → a ≡ b → ⊥
  ne-is h e = h (ap (of_z w64) e)

-- ---- the magnitude of a number, and of its negation
pub mag-abs : (z : ℤ) → mag z ≤ nat_abs z
mag-abs (pos n) = omega arith
mag-abs (negsuc n) = omega arith

pub natural : (z : ℤ) → lt_z z (pos 0) ≡ false → z ≡ pos (nat_abs z)
natural (pos n) e = refl
natural (negsuc n) e = absurd (let y : ◌≡◌ {A = ℕ} 0 1 = cc in omega arith)

-- 0 less a number, as the machine's words have it
pub negative_ok : {z : ℤ} → SFits w64 z → nat_abs z ≤ 2 ^ 62 + 1 → SFits w64 (to_z w64 (of_z w64 (pos 0)) -ℤ to_z w64 (of_z w64 z))
negative_ok {z} f p = sub-ok (sfits_lit {z = pos 0} tt) f (omega (arith, mag-abs z))

-- by the two outcomes of a test
pub by-test : {P : Type 0} (t : Bool) → (t ≡ true → P) → (t ≡ false → P) → P
by-test true y n = y refl
by-test false y n = n refl

-- no test has both
pub no : {P : Type 0} → true ≡ false → P
no e = absurd (true≢false e)

-- ---- equality as a test
pub eq_z-refl : (a : ℤ) → eq_z a a ≡ true
unfolding eq_z
eq_z-refl (pos a) = eq-eqb a a refl
eq_z-refl (negsuc a) = eq-eqb a a refl

pub eq_z-no : (a b : ℤ) → (a ≡ b → ⊥) → eq_z a b ≡ false
unfolding eq_z
eq_z-no (pos a) (pos b) h = ne_eqb a b (λ e. h (ap pos e))
eq_z-no (pos a) (negsuc b) h = refl
eq_z-no (negsuc a) (pos b) h = refl
eq_z-no (negsuc a) (negsuc b) h = ne_eqb a b (λ e. h (ap negsuc e))

pub eq_z-yes : (a b : ℤ) → a ≡ b → eq_z a b ≡ true
eq_z-yes a b e = subst (λ (x : ℤ). eq_z a x ≡ true) e (eq_z-refl a)

pub eq_z-same : (a b : ℤ) → eq_z a b ≡ true → a ≡ b
unfolding eq_z
eq_z-same (pos a) (pos b) e = ap pos (eqb-true a b e)
eq_z-same (pos a) (negsuc b) e = absurd (true≢false (sym e))
eq_z-same (negsuc a) (pos b) e = absurd (true≢false (sym e))
eq_z-same (negsuc a) (negsuc b) e = ap negsuc (eqb-true a b e)

-- as the machine's words are tested
module _ {a b : ℤ} (fa : SFits w64 a) (fb : SFits w64 b) where
  pub eq_yes : of_z w64 a ≡ of_z w64 b → eq_z a b ≡ true
  eq_yes e = eq_z-yes a b (eq_is fa fb e)

  pub eq_no : (of_z w64 a ≡ of_z w64 b → ⊥) → eq_z a b ≡ false
  eq_no h = eq_z-no a b (ne-is fa fb h)

-- a word tested for 0
module _ {a : ℤ} (f : SFits w64 a) where
  pub zero-yes : of_z w64 a ≡ of_z w64 (pos 0) → eq_z a (pos 0) ≡ true
  zero-yes e = eq_yes f (sfits_lit {z = pos 0} tt) e

  pub zero-no : (of_z w64 a ≡ of_z w64 (pos 0) → ⊥) → eq_z a (pos 0) ≡ false
  zero-no h = eq_no f (sfits_lit {z = pos 0} tt) h

pub same-is : {a b : ℤ} → SFits w64 a → SFits w64 b → eqb (of_z w64 a) (of_z w64 b) ≡ eq_z a b
same-is {a} {b} fa fb =
    by-test
    (eqb (of_z w64 a) (of_z w64 b))
    (λ e. e ∙ sym (eq_yes fa fb (eqb-true (of_z w64 a) (of_z w64 b) e)))
    (λ e. e ∙ sym (eq_no fa fb (eqb-false (of_z w64 a) (of_z w64 b) e)))

-- ---- order as a test
lt-le : (a b : ℤ) → T (lt_z a b) → T (le_z a b)
lt-le (pos a) (pos b) h = le→leb a b (le_of_lt (ltb→lt a b h))
lt-le (pos a) (negsuc b) h = h
lt-le (negsuc a) (pos b) h = tt
lt-le (negsuc a) (negsuc b) h = le→leb b a (le_of_lt (ltb→lt b a h))

lt_yes : (a b : ℤ) → lt_z a b ≡ true → a <ℤ b
lt_yes a b e = lt_z_yes (subst T (sym e) tt)

lt_no : (a b : ℤ) → lt_z a b ≡ false → b ≤ℤ a
lt_no a b e = lt_z_no (subst (λ (t : Bool). T (not t)) (sym e) tt)

module _ (a b c : ℤ) where
  pub lt_trans : lt_z a b ≡ true → lt_z b c ≡ true → lt_z a c ≡ true
  lt_trans p q = by-test (lt_z a c) (λ r. r) (λ r. clash_ℤ (<ℤ-≤ℤ_trans (lt_yes b c q) (lt_no a c r)) (le_z_yes (lt-le a b (subst T (sym p) tt))))

  pub ge_trans : lt_z a b ≡ false → lt_z b c ≡ false → lt_z a c ≡ false
  ge_trans p q = by-test (lt_z a c) (λ r. clash_ℤ (<ℤ-≤ℤ_trans (lt_yes a c r) (lt_no b c q)) (lt_no a b p)) (λ r. r)

-- ---- casts of a number below 2 ^ 63: to i64, and back
pub up : {x : ℕ} → x < 2 ^ 63 → to_z w64 x ≡ pos x
up p = to_z_pos w64 p

pub down-ok : {x : ℕ} → x < 2 ^ 63 → T (non_neg (to_z w64 x)) × Fits w64 (nat_abs (to_z w64 x))
down-ok {x} p = rw (up p) (tt, omega arith)

pub down_is : {x : ℕ} → x < 2 ^ 63 → nat_abs (to_z w64 x) ≡ x
down_is p = rw (up p)

-- ---- an element of a &mut [i64] that was stored is read back
pub stored : (l : List ℤ) (i : ℕ) {v : ℤ} → SFits w64 v → i < length l → to_z w64 (of_z w64 (get_or (set l i (to_z w64 (of_z w64 v))) i (pos 0))) ≡ v
stored l i {v} f p = ap (λ (x : ℤ). to_z w64 (of_z w64 x)) (get_or-set_same l i _ (pos 0) p ∙ to_z-of_z f) ∙ to_z-of_z f
