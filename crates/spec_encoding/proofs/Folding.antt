-- Folding and its undoing, wrapping differences and sums: each undoes the other on every number under 2^32.
use mathlib.Core.Path.{◌≡◌, refl, sym, ap, ◌∙◌}
use mathlib.Core.Bool.{Bool, true, false}
use Prim.Native.Nat.{ℕ, ◌+◌, ◌-◌, ◌*◌, ◌/◌, ◌%◌, ◌^◌, ◌≤◌, ◌<◌}
use native.Mathlib.Omega.{arith}
use borrow.Author.Tests.{ltb-true, ltb-false, eqb-true, eqb-false, lt-ltb, le-ltb, eq-eqb, ne_eqb}
use lib.Dec.{ltb, eqb}
use lib.IntN.{ℤ, pos, negsuc}
use Rattle.spec_calculus.specs.Lists.{pick}
use Rattle.spec_encoding.specs.Record.{signed}
use Rattle.spec_encoding.specs.Columns.{minus, plus, folded, unfolded}

-- ---- each case
signed_by : ℕ → Bool → ℤ
signed_by d b = elim b [ true ↦ pos d | false ↦ negsuc (0xffffffff - d) ]

pub fold-low : (d : ℕ) → d < 2147483648 → folded (signed d) ≡ 2 * d
unfolding signed folded signed_by
fold-low d h = ap (λ b. folded (signed_by d b)) (lt-ltb d 0x80000000 h)

pub fold-high : (d : ℕ) → 2147483648 ≤ d → folded (signed d) ≡ 2 * (4294967295 - d) + 1
unfolding signed folded signed_by
fold-high d h = ap (λ b. folded (signed_by d b)) (le-ltb d 0x80000000 h)

pub unfold-even : (w : ℕ) → w % 2 ≡ 0 → unfolded w ≡ w / 2
unfolding unfolded pick
unfold-even w h = ap (λ b. pick b (w / 2) (0xffffffff - w / 2)) (eq-eqb (w % 2) 0 h)

pub unfold-odd : (w : ℕ) → (w % 2 ≡ 0 → ⊥) → unfolded w ≡ 4294967295 - w / 2
unfolding unfolded pick
unfold-odd w h = ap (λ b. pick b (w / 2) (0xffffffff - w / 2)) (ne_eqb (w % 2) 0 h)

-- by a test's two ways
low_or_high : {P : Type 0} (d : ℕ) → (d < 2147483648 → P) → (2147483648 ≤ d → P) → P
low_or_high {P} d f g = go (ltb d 2147483648) refl
  where
    go : (t : Bool) → ltb d 2147483648 ≡ t → P
    go true e = f (ltb-true d 2147483648 e)
    go false e = g (ltb-false d 2147483648 e)

even-or-odd : {P : Type 0} (w : ℕ) → (w % 2 ≡ 0 → P) → ((w % 2 ≡ 0 → ⊥) → P) → P
even-or-odd {P} w f g = go (eqb (w % 2) 0) refl
  where
    go : (t : Bool) → eqb (w % 2) 0 ≡ t → P
    go true e = f (eqb-true (w % 2) 0 e)
    go false e = g (eqb-false (w % 2) 0 e)

-- ---- they stay under 2^32
pub folded_low : (d : ℕ) → d < 2 ^ 32 → folded (signed d) < 2 ^ 32
folded_low d h = low_or_high d (λ l. omega (arith, fold-low d l, l)) (λ l. omega (arith, fold-high d l, l))

pub unfolded-low : (w : ℕ) → w < 2 ^ 32 → unfolded w < 2 ^ 32
unfolded-low w h = even-or-odd w (λ e. omega (arith, unfold-even w e)) (λ e. omega (arith, unfold-odd w e))

pub minus-low : (x y : ℕ) → minus x y < 2 ^ 32
minus-low x y = omega arith

pub plus-low : (x y : ℕ) → plus x y < 2 ^ 32
plus-low x y = omega arith

-- ---- each undoes the other
pub unfold-fold : (d : ℕ) → d < 2 ^ 32 → unfolded (folded (signed d)) ≡ d
unfold-fold d h =
    low_or_high d
    (λ l. ap unfolded (fold-low d l) ∙ unfold-even (2 * d) (omega arith) ∙ omega arith)
    (λ l. ap unfolded (fold-high d l) ∙ unfold-odd (2 * (4294967295 - d) + 1) (λ z. omega arith) ∙ omega (arith, l))

pub fold-unfold : (w : ℕ) → w < 2 ^ 32 → folded (signed (unfolded w)) ≡ w
fold-unfold w h =
    even-or-odd w
    (λ e. ap (λ d. folded (signed d)) (unfold-even w e) ∙ fold-low (w / 2) (omega arith) ∙ omega arith)
    (λ e. ap (λ d. folded (signed d)) (unfold-odd w e) ∙ fold-high (4294967295 - w / 2) (omega arith) ∙ omega arith)

plus-minus : (x y : ℕ) → x < 2 ^ 32 → y < 2 ^ 32 → plus y (minus x y) ≡ x
plus-minus x y h g = omega arith

minus_plus : (d y : ℕ) → d < 2 ^ 32 → y < 2 ^ 32 → minus (plus y d) y ≡ d
minus_plus d y h g = omega arith

-- a cell from what is stored for it, below the cell y; what is stored for a cell from the cell
pub cell-back : (x y : ℕ) → x < 2 ^ 32 → y < 2 ^ 32 → plus y (unfolded (folded (signed (minus x y)))) ≡ x
cell-back x y h g = ap (plus y) (unfold-fold (minus x y) (minus-low x y)) ∙ plus-minus x y h g

pub stored_back : (w y : ℕ) → w < 2 ^ 32 → y < 2 ^ 32 → folded (signed (minus (plus y (unfolded w)) y)) ≡ w
stored_back w y h g = ap (λ d. folded (signed d)) (minus_plus (unfolded w) y (unfolded-low w h) g) ∙ fold-unfold w h
