-- Numbers in decimal: one law for each way out, and their lengths.
use mathlib.Core.Path.{◌≡◌, refl, sym, ap, ◌∙◌}
use mathlib.Core.Bool.{Bool, true, false, true≢false}
use mathlib.Core.List.{List, [], ◌∷◌, ◌++◌}
use Prim.Native.Nat.{ℕ, zero, suc, ◌+◌, ◌*◌, ◌/◌, ◌%◌, ◌≤◌, ◌<◌}
use native.Mathlib.Nat.{lt_of_le_of_lt}
use native.Mathlib.Omega.{arith}
use borrow.Author.Tests.{lt-ltb, le-ltb, ltb-true, ltb-false}
use lib.Dec.{ltb, lit<}
use lib.ListN.{length, length-append}
use lib.IntN.{ℤ, pos, negsuc, nat_abs}
use lib.Signed.{lt_z, mag}
use mir.Syntax.{w64}
use mir.Val.{SFits}
use Rattle.base_signed.proofs.SignedWords.{by-test}
use Rattle.spec_plan.specs.Lines.{ascii, digits, decimal, signed_decimal}
use Rattle.base_text.specs.LaidText.{Lays, Text}
use Rattle.base_text.proofs.LaidText.{text-by, lays-two, lays-as}

-- ---- decimal
digits-one : (f n : ℕ) → n < 10 → digits f n ≡ (48 + n) ∷ []
unfolding digits
digits-one zero n l = refl
digits-one (suc f) n l = ap (λ (t : Bool). elim t [ true ↦ (48 + n) ∷ [] | false ↦ digits f (n / 10) ++ ((48 + n % 10) ∷ []) ]) (lt-ltb n 10 l)

digits_more : (f n : ℕ) → 10 ≤ n → digits (suc f) n ≡ digits f (n / 10) ++ ((48 + n % 10) ∷ [])
unfolding digits
digits_more f n l = ap (λ (t : Bool). elim t [ true ↦ (48 + n) ∷ [] | false ↦ digits f (n / 10) ++ ((48 + n % 10) ∷ []) ]) (le-ltb n 10 l)

pub decimal-one : {lim p r n : ℕ} {o o' : List ℕ} → n < 10 → Lays lim ((48 + n) ∷ []) o p o' r → Text n (λ f. digits f n) lim o p o' r
decimal-one {lim} {p} {r} {n} l X = record { is = λ f h. lays-as (sym (digits-one f n l)) X }

pub decimal-more : {lim p q r n : ℕ} {o o₁ o₂ : List ℕ} → 10 ≤ n → Text (n / 10) (λ f. digits f (n / 10)) lim o p o₁ q → Lays lim ((48 + n % 10) ∷ []) o₁ q o₂ r → Text n (λ f. digits f n) lim o p o₂ r
decimal-more {lim} {p} {q} {r} {n} l X Y = text-by (λ f h. lays-as (sym (digits_more f n l)) (lays-two (X.is f (omega arith)) Y))

-- the fuel of the definition is enough, though it is not above n
digits_same : (f n : ℕ) → n ≤ f → digits f n ≡ digits (suc f) n
digits_same zero n l = digits-one 0 n (omega arith) ∙ sym (digits-one 1 n (omega arith))
digits_same (suc f) n l = by-test (ltb n 10)
    (λ e. digits-one (suc f) n (ltb-true n 10 e) ∙ sym (digits-one (suc (suc f)) n (ltb-true n 10 e)))
    (λ e. digits_more f n (ltb-false n 10 e) ∙ ap (λ (z : List ℕ). z ++ ((48 + n % 10) ∷ [])) (digits_same f (n / 10) (omega (arith, ltb-false n 10 e))) ∙ sym (digits_more (suc f) n (ltb-false n 10 e)))

pub decimal-text : {lim p r n : ℕ} {o o' : List ℕ} → Text n (λ f. digits f n) lim o p o' r → Lays lim (decimal n) o p o' r
unfolding decimal
decimal-text {lim} {p} {r} {n} X = lays-as (sym (digits_same n n (omega arith))) (X.is (suc n) (omega arith))

-- ---- signed
minus-text : (z : ℤ) → lt_z z (pos 0) ≡ true → ascii "-" ++ decimal (nat_abs z) ≡ signed_decimal z
unfolding signed_decimal
minus-text (pos k) h = absurd (omega (arith, ltb-true k 0 h))
minus-text (negsuc k) h = refl

plus-text : (z : ℤ) → lt_z z (pos 0) ≡ false → decimal (nat_abs z) ≡ signed_decimal z
unfolding signed_decimal
plus-text (pos k) h = refl
plus-text (negsuc k) h = absurd (true≢false h)

module _ (x : ℤ) {n lim p q : ℕ} {o o₁ : List ℕ} (e : n ≡ nat_abs x) where
  pub signed-minus : {r : ℕ} {o₂ : List ℕ} → lt_z x (pos 0) ≡ true → Lays lim (ascii "-") o p o₁ q → Text n (λ f. digits f n) lim o₁ q o₂ r → Lays lim (signed_decimal x) o p o₂ r
  signed-minus h X Y = lays-as (minus-text x h) (lays-two X (lays-as (ap decimal e) (decimal-text Y)))

  pub signed-plus : lt_z x (pos 0) ≡ false → Text n (λ f. digits f n) lim o p o₁ q → Lays lim (signed_decimal x) o p o₁ q
  signed-plus h Y = lays-as (ap decimal e ∙ plus-text x h) (decimal-text Y)

-- ---- lengths: numbers below 10^(k + 1) have at most k + 1 digits
abbrev pub tens : ℕ → ℕ
tens zero = 10
tens (suc k) = 10 * tens k

digits-most : (k f n : ℕ) → n < tens k → length (digits f n) ≤ k + 1
unfolding digits
digits-most zero f n l = omega (arith, ap length (digits-one f n l))
digits-most (suc k) zero n l = omega arith
digits-most (suc k) (suc f) n l = by-test (ltb n 10)
    (λ e. omega (arith, ap length (digits-one (suc f) n (ltb-true n 10 e))))
    (λ e. omega (arith, ap length (digits_more f n (ltb-false n 10 e)), length-append (digits f (n / 10)) ((48 + n % 10) ∷ []), digits-most k f (n / 10) (omega arith)))

pub decimal-most : (k n : ℕ) → n < tens k → length (decimal n) ≤ k + 1
unfolding decimal
decimal-most k n l = digits-most k n n l

-- and a sign
pub signed-most : (k : ℕ) (z : ℤ) → mag z + 1 < tens k → length (signed_decimal z) ≤ k + 2
unfolding signed_decimal ascii
signed-most k (pos n) l = omega (arith, decimal-most k n (omega (arith, l)))
signed-most k (negsuc n) l = omega (arith, decimal-most k (suc n) (omega (arith, l)))

-- a word has at most 19 digits and a sign
pub word-most : (z : ℤ) → SFits w64 z → length (signed_decimal z) ≤ 20
word-most z f = signed-most 18 z (lt_of_le_of_lt (omega (arith, f.sfits)) top)
  where
    top : 0x8000000000000000 < tens 18
    top = lit< tt
