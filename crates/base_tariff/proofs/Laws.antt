-- A tariff's steps one by one; what keeps its layout; the charge.
use mathlib.Core.Path.{◌≡◌, refl, sym, ap, ap₂, subst, ◌∙◌}
use mathlib.Core.List.{List, ◌∷◌}
use mathlib.Core.Bool.{Bool, true, false, ◌&&◌, and-eq-true_iff}
use Prim.Native.Nat.{ℕ, zero, suc, ◌+◌, ◌-◌, ◌*◌, ◌≤◌, ◌<◌, ◌^◌, max}
use native.Mathlib.Nat.{mul-le-mul}
use native.Mathlib.Omega.{arith}
use lib.Dec.{eqb, ltb, leb}
use lib.ListN.{length, take, drop}
use lib.IntN.{ℤ, pos, negsuc, nat_abs}
use lib.Signed.{lt_z, mag}
use mir.Syntax.{w64}
use mir.Val.{SFits}
use borrow.Author.Tests.{leb-true, leb-false, ltb-true, ltb-false, eqb-true, lt-ltb, le-ltb, le-leb, lt-leb, eq-eqb, ne_eqb}
use Rattle.spec_calculus.specs.Lists.{pick}
use Rattle.spec_encoding.specs.Record.{Bytes, byte, four, length_of, kind_of, content_of, is_whole}
use Rattle.spec_outcome.specs.Directions.{is_alone}
use Rattle.spec_tariff.specs.Tariff.{TariffStep, rate_of, metres_begun, charge, last_upper, in_reach}
use Rattle.spec_tariff.specs.TariffBytes.{step_at, steps_from, tariff_of, rising, rates_fit, tariff_fits, layout_fits, is_tariff}
use Rattle.base_tariff.specs.Contract.{tariff_in, IsTariff, RatePost, ChargePost}

-- ---- the steps from the k-th of n on
module _ (c : Bytes) (n : ℕ) where
  abbrev pub rest : ℕ → List TariffStep
  rest k = steps_from c (1 + 8 * k) (n - k)

  pub rest-next : (k : ℕ) → k < n → rest k ≡ step_at c (1 + 8 * k) ∷ rest (k + 1)
  unfolding steps_from
  rest-next k h =
      let e₁ : n - k ≡ suc (n - (k + 1)) = omega arith in
      let e₂ : 1 + 8 * k + 8 ≡ 1 + 8 * (k + 1) = omega arith in
      ap (steps_from c (1 + 8 * k)) e₁ ∙ ap (λ (i : ℕ). step_at c (1 + 8 * k) ∷ steps_from c i (n - (k + 1))) e₂

  -- of a definition over steps, those from the k-th on decide
  module _ {A : Type 0} (f : List TariffStep → A) where
    pub from_first : f (steps_from c 1 n) ≡ f (rest 0)
    from_first = ap (λ (k : ℕ). f (steps_from c 1 k)) (omega arith)

    pub at_next : (k : ℕ) → k < n → f (steps_from c 1 n) ≡ f (rest k) → f (steps_from c 1 n) ≡ f (step_at c (1 + 8 * k) ∷ rest (k + 1))
    at_next k h e = e ∙ ap f (rest-next k h)

-- ---- rates_fit
module _ (c : Bytes) (n k : ℕ) (inv : rates_fit (steps_from c 1 n) ≡ rates_fit (rest c n k)) where
  module _ (h : k < n) {r : ℕ} (e : r ≡ four c (1 + 8 * k + 4)) where
    pub rate-goes : r ≤ 10000000 → rates_fit (steps_from c 1 n) ≡ rates_fit (rest c n (k + 1))
    unfolding rates_fit step_at
    rate-goes l = at_next c n rates_fit k h inv ∙ ap (λ (b : Bool). b && rates_fit (rest c n (k + 1))) (le-leb (four c (1 + 8 * k + 4)) 10000000 (omega (arith, e)))

    pub rate-stops : 10000000 < r → false ≡ rates_fit (steps_from c 1 n)
    unfolding rates_fit step_at
    rate-stops l = sym (at_next c n rates_fit k h inv ∙ ap (λ (b : Bool). b && rates_fit (rest c n (k + 1))) (lt-leb (four c (1 + 8 * k + 4)) 10000000 (omega (arith, e))))

  pub rates-end : n ≤ k → true ≡ rates_fit (steps_from c 1 n)
  unfolding steps_from rates_fit
  rates-end l = sym (inv ∙ ap (λ (j : ℕ). rates_fit (steps_from c (1 + 8 * k) j)) (let z : n - k ≡ 0 = omega arith in z))

-- ---- uppers_rise
module _ (c : Bytes) (n k : ℕ) (inv : rising (steps_from c 1 n) ≡ rising (rest c n k)) where
  module _ {j : ℕ} (e : j ≡ k + 1) (h : j < n) {x y : ℕ} (ex : x ≡ four c (1 + 8 * k)) (ey : y ≡ four c (1 + 8 * j)) where
    lower : y ≡ four c (1 + 8 * (k + 1))
    lower = ey ∙ ap (λ (i : ℕ). four c (1 + 8 * i)) e

    pair : rising (steps_from c 1 n) ≡ ltb (four c (1 + 8 * k)) (four c (1 + 8 * (k + 1))) && rising (rest c n (k + 1))
    unfolding rising step_at
    pair =
        let m : k + 1 < n = omega (arith, e, h) in
        at_next c n rising k (omega arith) inv
        ∙ ap (λ (l : List TariffStep). rising (step_at c (1 + 8 * k) ∷ l)) (rest-next c n (k + 1) m)
        ∙ ap (λ (l : List TariffStep). ltb (four c (1 + 8 * k)) (four c (1 + 8 * (k + 1))) && rising l) (sym (rest-next c n (k + 1) m))

    pub upper-goes : x < y → rising (steps_from c 1 n) ≡ rising (rest c n (j + 1 - 1))
    upper-goes l = let i : k + 1 ≡ j + 1 - 1 = omega (arith, e) in pair ∙ ap (λ (b : Bool). b && rising (rest c n (k + 1))) (lt-ltb (four c (1 + 8 * k)) (four c (1 + 8 * (k + 1))) (omega (arith, ex, lower))) ∙ ap (λ (m : ℕ). rising (rest c n m)) i

    pub upper-stops : y ≤ x → false ≡ rising (steps_from c 1 n)
    upper-stops l = sym (pair ∙ ap (λ (b : Bool). b && rising (rest c n (k + 1))) (le-ltb (four c (1 + 8 * k)) (four c (1 + 8 * (k + 1))) (omega (arith, ex, lower))))

  pub uppers-end : n ≤ k + 1 → true ≡ rising (steps_from c 1 n)
  unfolding steps_from rising
  uppers-end l = sym (inv ∙ go (n - k) (omega arith))
    where
      go : (m : ℕ) → m ≤ 1 → rising (steps_from c (1 + 8 * k) m) ≡ true
      go zero l = refl
      go (suc zero) l = refl
      go (suc (suc m)) l = absurd (omega arith)

-- ---- layout_fits
module _ (c : Bytes) {n : ℕ} (e : n ≡ byte c 0) where
  pub no_step : n < 1 → false ≡ layout_fits c
  unfolding layout_fits
  no_step h = rw (lt-leb 1 (byte c 0) (rw e at h))

  module _ (h₁ : 1 ≤ n) where
    pub many-steps : 16 < n → false ≡ layout_fits c
    unfolding layout_fits
    many-steps h = rw (le-leb 1 (byte c 0) (rw e at h₁), lt-leb (byte c 0) 16 (rw e at h))

    module _ (h₂ : n ≤ 16) where
      pub other_length : (length c ≡ 1 + 8 * n + 4 → ⊥) → false ≡ layout_fits c
      unfolding layout_fits
      other_length f = rw (le-leb 1 (byte c 0) (rw e at h₁), le-leb (byte c 0) 16 (rw e at h₂), ne_eqb (length c) (5 + 8 * byte c 0) (λ z. f (omega (arith, z, e))))

      module _ (h₃ : length c ≡ 1 + 8 * n + 4) where
        by-tariff : layout_fits c ≡ tariff_fits (tariff_of c)
        unfolding layout_fits
        by-tariff = rw (le-leb 1 (byte c 0) (rw e at h₁), le-leb (byte c 0) 16 (rw e at h₂), eq-eqb (length c) (5 + 8 * byte c 0) (omega (arith, h₃, e))) refl

        module _ {b : Bool} (eb : b ≡ rising (steps_from c 1 n)) where
          rise : rising (tariff_of c).steps ≡ b
          unfolding tariff_of
          rise = ap (λ (j : ℕ). rising (steps_from c 1 j)) (sym e) ∙ sym eb

          pub not-rising : b ≡ false → false ≡ layout_fits c
          unfolding tariff_fits
          not-rising f = sym (by-tariff ∙ ap (λ (t : Bool). t && (rates_fit (tariff_of c).steps && leb (tariff_of c).minimum 10000000)) (rise ∙ f))

          module _ (t : b ≡ true) {a : Bool} (ea : a ≡ rates_fit (steps_from c 1 n)) where
            rates : rates_fit (tariff_of c).steps ≡ a
            unfolding tariff_of
            rates = ap (λ (j : ℕ). rates_fit (steps_from c 1 j)) (sym e) ∙ sym ea

            by-rates : layout_fits c ≡ a && leb (tariff_of c).minimum 10000000
            unfolding tariff_fits
            by-rates = by-tariff ∙ ap₂ (λ (x y : Bool). x && (y && leb (tariff_of c).minimum 10000000)) (rise ∙ t) rates

            pub rate-above : a ≡ false → false ≡ layout_fits c
            rate-above f = sym (by-rates ∙ ap (λ (x : Bool). x && leb (tariff_of c).minimum 10000000) f)

            pub by-minimum : a ≡ true → {m : ℕ} → m ≡ four c (1 + 8 * n) → leb m 10000000 ≡ layout_fits c
            unfolding tariff_of
            by-minimum f {m} em = sym (by-rates ∙ ap (λ (x : Bool). x && leb (tariff_of c).minimum 10000000) f ∙ ap (λ (x : ℕ). leb x 10000000) (ap (λ (j : ℕ). four c (1 + 8 * j)) (sym e) ∙ sym em))

-- ---- is_alone
module _ (l : Bytes) where
  pub cut : length l < 4 → false ≡ is_alone 22 l
  unfolding is_alone is_whole pick
  cut h = rw (lt-leb 4 (length l) h)

  pub other-kind : {k : ℕ} → k ≡ kind_of l → (k ≡ 22 → ⊥) → false ≡ is_alone 22 l
  unfolding is_alone
  other-kind {k} e f = go (is_whole l)
    where
      go : (b : Bool) → false ≡ b && (eqb (kind_of l) 22 && eqb (length l) (4 + length_of l))
      go true = rw (ne_eqb (kind_of l) 22 (rw e at f)) refl
      go false = refl

  pub by_length : 4 ≤ length l → {k : ℕ} → k ≡ kind_of l → k ≡ 22 → {n : ℕ} → n ≡ length_of l → eqb (length l) (4 + n) ≡ is_alone 22 l
  unfolding is_alone is_whole pick
  by_length h {k} e f {n} en = go (leb (4 + length_of l) (length l)) refl
    where
      z : eqb (length l) (4 + n) ≡ eqb (length l) (4 + length_of l)
      z = ap (λ (j : ℕ). eqb (length l) (4 + j)) en

      go : (b : Bool) → leb (4 + length_of l) (length l) ≡ b → eqb (length l) (4 + n) ≡ pick (leb 4 (length l)) b false && (eqb (kind_of l) 22 && eqb (length l) (4 + length_of l))
      go true g = rw (le-leb 4 (length l) h, eq-eqb (kind_of l) 22 (sym e ∙ f)) z
      go false g = rw (le-leb 4 (length l) h) (z ∙ ne_eqb (length l) (4 + length_of l) (λ y. absurd (omega (arith, y, leb-false (4 + length_of l) (length l) g))))

  -- ---- tariff_fits
  alone : is_alone 22 l ≡ true → length l ≡ 4 + length_of l
  unfolding is_alone
  alone e =
      let p = (and-eq-true_iff (is_whole l) (eqb (kind_of l) 22 && eqb (length l) (4 + length_of l))).0 e in
      let q = (and-eq-true_iff (eqb (kind_of l) 22) (eqb (length l) (4 + length_of l))).0 p.1 in
      eqb-true (length l) (4 + length_of l) q.1

  -- `&l[4..]`
  content : is_alone 22 l ≡ true → take (length l - 4) (drop 4 l) ≡ content_of l
  content e = ap (λ (n : ℕ). take n (drop 4 l)) (let z : length l - 4 ≡ length_of l = omega (arith, alone e) in z)

  module _ {b : Bool} (eb : b ≡ is_alone 22 l) where
    pub header-within : b ≡ true → 4 ≤ length l
    header-within t = omega (arith, alone (sym eb ∙ t))

    pub by-content : b ≡ true → {f : Bool} → f ≡ layout_fits (take (length l - 4) (drop 4 l)) → f ≡ is_tariff l
    unfolding is_tariff
    by-content t {f} e = rw (sym eb ∙ t) (e ∙ ap layout_fits (content (sym eb ∙ t)))

    pub no-tariff : b ≡ false → false ≡ is_tariff l
    unfolding is_tariff
    no-tariff f = rw (sym eb ∙ f)

module _ {l : Bytes} (I : IsTariff l) where
  parts : (is_alone 22 l ≡ true) × (layout_fits (content_of l) ≡ true)
  unfolding is_tariff
  parts = (and-eq-true_iff (is_alone 22 l) (layout_fits (content_of l))).0 I.is

  pub header-in : 4 ≤ length l
  header-in = omega (arith, alone l parts.0)

  pub content-is : take (length l - 4) (drop 4 l) ≡ content_of l
  content-is = content l parts.0

  pub some-step : 1 ≤ byte (take (length l - 4) (drop 4 l)) 0
  unfolding layout_fits
  some-step = rw content-is (leb-true 1 (byte (content_of l) 0) ((and-eq-true_iff (leb 1 (byte (content_of l) 0)) (leb (byte (content_of l) 0) 16 && (eqb (length (content_of l)) (5 + 8 * byte (content_of l) 0) && tariff_fits (tariff_of (content_of l))))).0 parts.1).0)

-- ---- last_upper
last_of : (c : Bytes) (n i : ℕ) → last_upper (steps_from c i (suc n)) ≡ four c (i + 8 * n)
unfolding steps_from last_upper step_at
last_of c zero i = ap (four c) (omega arith)
last_of c (suc n) i = last_of c n (i + 8) ∙ ap (four c) (let z : i + 8 + 8 * n ≡ i + 8 * suc n = omega arith in z)

pub last-is : (c : Bytes) {n r : ℕ} → n ≡ byte c 0 → 1 ≤ n → r ≡ four c (1 + 8 * (n - 1)) → r ≡ last_upper (tariff_of c).steps
unfolding tariff_of
last-is c {n} {r} e h er =
    er ∙ sym (last_of c (n - 1) 1) ∙ ap (λ (m : ℕ). last_upper (steps_from c 1 m)) (let z : suc (n - 1) ≡ byte c 0 = omega (arith, e) in z)

-- ---- in_reach
pub below-0 : (h : ℕ) (z : ℤ) → lt_z z (pos 0) ≡ true → false ≡ in_reach h z
unfolding in_reach
below-0 h (pos n) e = absurd (omega (arith, ltb-true n 0 e))
below-0 h (negsuc n) e = refl

pub from-0 : (h : ℕ) (z : ℤ) → lt_z z (pos 0) ≡ false → {m : ℕ} → m ≡ nat_abs z → leb m h ≡ in_reach h z
unfolding in_reach
from-0 h (pos n) e q = ap (λ (x : ℕ). leb x h) q
from-0 h (negsuc n) e q = absurd (let y : ◌≡◌ {A = ℕ} 0 1 = cc e in omega arith)

-- ---- rate_of
module _ (c : Bytes) {n : ℕ} (en : n ≡ byte c 0) (h k : ℕ) (inv : rate_of (steps_from c 1 n) h ≡ rate_of (rest c n k) h) where
  all : rate_of (tariff_of c).steps h ≡ rate_of (steps_from c 1 n) h
  unfolding tariff_of
  all = ap (λ (j : ℕ). rate_of (steps_from c 1 j) h) (sym en)

  module _ (l : k < n) {u : ℕ} (eu : u ≡ four c (1 + 8 * k)) where
    at : rate_of (steps_from c 1 n) h ≡ pick (leb h (four c (1 + 8 * k))) (four c (1 + 8 * k + 4)) (rate_of (rest c n (k + 1)) h)
    unfolding rate_of step_at
    at = at_next c n (λ x. rate_of x h) k l inv

    pub rate-here : h ≤ u → u < 2 ^ 32 → {r : ℕ} → r ≡ four c (1 + 8 * k + 4) → r < 2 ^ 32 → RatePost c h r
    unfolding pick
    rate-here q s {r} er m = record {
      is = er ∙ sym (all ∙ at ∙ ap (λ (b : Bool). pick b (four c (1 + 8 * k + 4)) (rate_of (rest c n (k + 1)) h)) (le-leb h (four c (1 + 8 * k)) (omega (arith, eu))));
      small = m;
      deep = λ d. absurd (omega arith);
    }

    pub rate-later : u < h → rate_of (steps_from c 1 n) h ≡ rate_of (rest c n (k + 1)) h
    unfolding pick
    rate-later q = at ∙ ap (λ (b : Bool). pick b (four c (1 + 8 * k + 4)) (rate_of (rest c n (k + 1)) h)) (lt-leb h (four c (1 + 8 * k)) (omega (arith, eu)))

  pub rate-none : n ≤ k → RatePost c h 0
  unfolding steps_from rate_of
  rate-none l = record {
    is = sym (all ∙ inv ∙ ap (λ (j : ℕ). rate_of (steps_from c (1 + 8 * k) j) h) (let z : n - k ≡ 0 = omega arith in z));
    small = omega arith;
    deep = λ d. refl;
  }

-- ---- charge
-- a rate of a step that reaches a draught, times the metres begun of that draught
module _ {c : Bytes} {h x m : ℕ} (R : RatePost c h x) (em : m ≡ metres_begun h) where
  few : h < 2 ^ 32 → m ≤ 42949673
  unfolding metres_begun
  few l = omega (arith, em)

  pub product_small : x * m < 2 ^ 61
  product_small = go (ltb h (2 ^ 32)) refl
    where
      go : (b : Bool) → ltb h (2 ^ 32) ≡ b → x * m < 2 ^ 61
      go true e =
          let l : x * m ≤ 4294967296 * 42949673 = mul-le-mul (let s : x ≤ 4294967296 = omega (arith, R.small) in s) (few (ltb-true h (2 ^ 32) e)) in
          omega arith
      go false e = subst (λ (y : ℕ). y * m < 2 ^ 61) (sym (R.deep (ltb-false h (2 ^ 32) e))) (omega arith)

  pub charge-is : {n y r : ℕ} → n ≡ byte c 0 → y ≡ four c (1 + 8 * n) → y < 2 ^ 32 → r ≡ max (x * m) y → ChargePost c h r
  unfolding charge tariff_of
  charge-is {n} {y} {r} en ey sy er = record {
    is = er ∙ ap₂ max (ap₂ ◌*◌ R.is em) (ey ∙ ap (λ (j : ℕ). four c (1 + 8 * j)) en);
    small = omega (arith, product_small, er);
  }

-- ---- cents
pub cents-is : {l : Bytes} (I : IsTariff l) {h r : ℕ} → ChargePost (take (length l - 4) (drop 4 l)) h r → r ≡ charge (tariff_in l) h
cents-is I {h} {r} C = C.is ∙ ap (λ (c : Bytes). charge (tariff_of c) h) (content-is I)

pub magnitude-most : {z : ℤ} → SFits w64 z → nat_abs z ≤ 2 ^ 63
magnitude-most {z} f = go z f.sfits
  where
    go : (z : ℤ) → mag z < 2 ^ 63 → nat_abs z ≤ 2 ^ 63
    go (pos n) h = omega arith
    go (negsuc n) h = omega arith
