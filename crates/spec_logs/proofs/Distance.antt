-- Seconds counted from a start that is early enough: distance and order are those of the counts. So what is said of seconds of any sign is shown by sums
-- of natural numbers.
use mathlib.Core.Path.{◌≡◌, refl, sym, ap, ◌∙◌}
use mathlib.Core.Bool.{Bool, true, false, cond}
use Prim.Native.Nat.{ℕ, zero, suc, ◌+◌, ◌-◌, ◌≤◌, ◌<◌}
use native.Mathlib.Omega.{arith}
use borrow.Author.Tests.{ltb-true, ltb-false, leb-true, leb-false, lt-ltb, le-ltb, le-leb, lt-leb}
use lib.Dec.{ltb, leb}
use lib.IntN.{ℤ, pos, negsuc, nat_abs, sub_ℕ, ◌-ℤ◌}
use lib.Signed.{lt_z, le_z}
use Rattle.spec_logs.specs.Logs.{near}

-- z counted from -N on
unfoldable pub since : ℕ → ℤ → ℕ
since N (pos n) = N + n
since N (negsuc n) = N - suc n

-- how far apart two numbers are
abbrev pub between : ℕ → ℕ → ℕ
between a b = (a - b) + (b - a)

difference-size : (a b : ℕ) → nat_abs (sub_ℕ a b) ≡ between a b
difference-size a b = go (ltb a b) refl
  where
    go : (t : Bool) → ltb a b ≡ t → nat_abs (cond t (negsuc (b - suc a)) (pos (a - b))) ≡ between a b
    go true e = omega (arith, ltb-true a b e)
    go false e = omega (arith, ltb-false a b e)

-- two tests that hold together
same-lt : (a b c d : ℕ) → (a < b → c < d) → (b ≤ a → d ≤ c) → ltb a b ≡ ltb c d
same-lt a b c d p q = go (ltb a b) refl
  where
    go : (t : Bool) → ltb a b ≡ t → t ≡ ltb c d
    go true e = sym (lt-ltb c d (p (ltb-true a b e)))
    go false e = sym (le-ltb c d (q (ltb-false a b e)))

same-le : (a b c d : ℕ) → (a ≤ b → c ≤ d) → (b < a → d < c) → leb a b ≡ leb c d
same-le a b c d p q = go (leb a b) refl
  where
    go : (t : Bool) → leb a b ≡ t → t ≡ leb c d
    go true e = sym (le-leb c d (p (leb-true a b e)))
    go false e = sym (lt-leb c d (q (leb-false a b e)))

module _ (N : ℕ) where
  pub apart : (x y : ℤ) → nat_abs x ≤ N → nat_abs y ≤ N → nat_abs (x -ℤ y) ≡ between (since N x) (since N y)
  unfolding since
  apart (pos a) (pos zero) h g = omega arith
  apart (pos a) (pos (suc b)) h g = difference-size a (suc b) ∙ omega arith
  apart (pos a) (negsuc b) h g = omega (arith, h, g)
  apart (negsuc a) (pos zero) h g = difference-size 0 (suc a) ∙ omega (arith, h)
  apart (negsuc a) (pos (suc b)) h g = omega (arith, h)
  apart (negsuc a) (negsuc b) h g = difference-size (suc b) (suc a) ∙ omega (arith, h, g)

  pub earlier : (x y : ℤ) → nat_abs x ≤ N → nat_abs y ≤ N → lt_z x y ≡ ltb (since N x) (since N y)
  unfolding since
  earlier (pos a) (pos b) h g = same-lt a b (N + a) (N + b) (λ l. omega arith) (λ l. omega arith)
  earlier (pos a) (negsuc b) h g = sym (le-ltb (N + a) (N - suc b) (omega arith))
  earlier (negsuc a) (pos b) h g = sym (lt-ltb (N - suc a) (N + b) (omega (arith, h)))
  earlier (negsuc a) (negsuc b) h g = same-lt b a (N - suc a) (N - suc b) (λ l. omega (arith, h, g)) (λ l. omega (arith, h, g))

  pub not-later : (x y : ℤ) → nat_abs x ≤ N → nat_abs y ≤ N → le_z x y ≡ leb (since N x) (since N y)
  unfolding since
  not-later (pos a) (pos b) h g = same-le a b (N + a) (N + b) (λ l. omega arith) (λ l. omega arith)
  not-later (pos a) (negsuc b) h g = sym (lt-leb (N + a) (N - suc b) (omega (arith, g)))
  not-later (negsuc a) (pos b) h g = sym (le-leb (N - suc a) (N + b) (omega arith))
  not-later (negsuc a) (negsuc b) h g = same-le b a (N - suc a) (N - suc b) (λ l. omega (arith, h, g)) (λ l. omega (arith, h, g))

  module _ (t : ℕ) (x y : ℤ) (h : nat_abs x ≤ N) (g : nat_abs y ≤ N) where
    pub near-is : near t x y ≡ leb (between (since N x) (since N y)) t
    unfolding near
    near-is = ap (λ (n : ℕ). leb n t) (apart x y h g)
