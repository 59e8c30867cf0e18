-- The first open minute is the least that is open and not before the given one, and there is none exactly if no such minute exists.
use mathlib.Core.Path.{◌≡◌, refl, sym, ap, subst, ◌∙◌}
use mathlib.Core.Bool.{Bool, true, false, true≢false, cond, ◌&&◌, and-eq-true_iff}
use Prim.Native.Nat.{ℕ, zero, suc, ◌+◌, ◌*◌, ◌/◌, ◌%◌, ◌≤◌, ◌<◌}
use native.Mathlib.Omega.{arith}
use lib.Dec.{ltb, leb}
use lib.IntN.{ℤ, pos, negsuc}
use lib.Signed.{le_z}
use borrow.Author.Tests.{ltb-true, ltb-false, leb-true, le-leb}
use Rattle.spec_calendar.specs.Dates.{all_days, day_exists, weekday_of}
use Rattle.spec_calendar.specs.Hours.{Calendar, day_minutes, in_window, open_at, Found, at, none, open_among, not_before, first_open, FirstOpen, opens, never}

-- "Minutes outside the years are not open."
pub before-years : (c : Calendar) (n : ℕ) → open_at c (negsuc n) ≡ false
unfolding open_at
before-years c n = refl

pub open-inside : (c : Calendar) (t : ℕ) → open_at c (pos t) ≡ true → t < day_minutes * all_days
unfolding open_at
open-inside c t e =
    let b = (and-eq-true_iff (day_exists (t / day_minutes)) (in_window c (weekday_of (t / day_minutes)) (t % day_minutes))).0 e in
    omega (arith, ltb-true (t / day_minutes) all_days b.0)

-- what a clipped minute stands for
pub at_or_after : (z : ℤ) (u : ℕ) → le_z z (pos u) ≡ leb (not_before z) u
at_or_after (pos n) u = refl
at_or_after (negsuc n) u = sym (le-leb 0 u (omega arith))

after : (z : ℤ) (u : ℕ) → le_z z (pos u) ≡ true → not_before z ≤ u
after z u e = leb-true (not_before z) u (sym (at_or_after z u) ∙ e)

-- ---- it is enough to look at the minutes from day 0 on
module _ {c : Calendar} {z : ℤ} where
  pub least : {t : ℕ} → not_before z ≤ t → open_at c (pos t) ≡ true → ((u : ℕ) → not_before z ≤ u → u < t → open_at c (pos u) ≡ true → ⊥) → FirstOpen c z (at t)
  least {t} f o h = opens (at_or_after z t ∙ le-leb (not_before z) t f) o first
    where
      first : (u : ℤ) → le_z z u ≡ true → open_at c u ≡ true → le_z (pos t) u ≡ true
      first (pos u) e q = go (ltb u t) refl
        where
          go : (b : Bool) → ltb u t ≡ b → leb t u ≡ true
          go true l = absurd (h u (after z u e) (ltb-true u t l) q)
          go false l = le-leb t u (ltb-false u t l)
      first (negsuc u) e q = absurd (true≢false (sym q ∙ before-years c u))

  pub without : ((u : ℕ) → not_before z ≤ u → open_at c (pos u) ≡ true → ⊥) → FirstOpen c z none
  without h = never all
    where
      all : (u : ℤ) → le_z z u ≡ true → open_at c u ≡ true → ⊥
      all (pos u) e q = h u (after z u e) q
      all (negsuc u) e q = true≢false (sym q ∙ before-years c u)

-- ---- the search by minutes
pub data Among (c : Calendar) (n t : ℕ) : Found → Type 0 where
  found : {u : ℕ} → t ≤ u → open_at c (pos u) ≡ true → ((v : ℕ) → t ≤ v → v < u → open_at c (pos v) ≡ true → ⊥) → Among c n t (at u)
  missing : ((v : ℕ) → t ≤ v → v < t + n → open_at c (pos v) ≡ true → ⊥) → Among c n t none

module _ (c : Calendar) where
  -- t itself is not open
  later : (t v : ℕ) → open_at c (pos t) ≡ false → t ≤ v → open_at c (pos v) ≡ true → suc t ≤ v
  later t v e l o = go (ltb t v) refl
    where
      go : (b : Bool) → ltb t v ≡ b → suc t ≤ v
      go true h = ltb-true t v h
      go false h = let q : t ≡ v = omega (arith, ltb-false t v h) in absurd (true≢false (sym o ∙ sym (ap (λ (x : ℕ). open_at c (pos x)) q) ∙ e))

  behind-it : (n t : ℕ) → open_at c (pos t) ≡ false → {r : Found} → Among c n (suc t) r → Among c (suc n) t r
  behind-it n t e (found {u = u} l o h) = found {u = u} (omega (arith, l)) o (λ v p q x. h v (later t v e p x) q x)
  behind-it n t e (missing h) = missing (λ v p q x. h v (later t v e p x) (omega (arith, q)) x)

  among : (n t : ℕ) → Among c n t (open_among c n t)
  unfolding open_among
  among zero t = missing (λ v p q x. absurd (omega arith))
  among (suc n) t = go (open_at c (pos t)) refl (among n (suc t))
    where
      go : (b : Bool) → open_at c (pos t) ≡ b → Among c n (suc t) (open_among c n (suc t)) → Among c (suc n) t (cond b (at t) (open_among c n (suc t)))
      go true e m = found {u = t} (omega arith) e (λ v p q x. absurd (omega arith))
      go false e m = behind-it n t e m

  -- as many minutes as the years have are enough
  from-among : (z : ℤ) {n : ℕ} {r : Found} → day_minutes * all_days ≤ n → Among c n (not_before z) r → FirstOpen c z r
  from-among z w (found l o h) = least l o h
  from-among z w (missing h) = without (λ u l o. h u l (omega (arith, open-inside c u o, w)) o)

  -- "the first open minute at or after a given signed one, or none exactly if no such minute exists"
  pub first-open : (z : ℤ) → FirstOpen c z (first_open c z)
  unfolding first_open
  first-open z = from-among z (omega arith) (among _ (not_before z))

  -- and nothing else is that
  both : (t u : ℕ) → le_z (pos t) (pos u) ≡ true → le_z (pos u) (pos t) ≡ true → at t ≡ at u
  both t u p q = ap at (omega (arith, leb-true t u p, leb-true u t q))

  pub only : (z : ℤ) {r s : Found} → FirstOpen c z r → FirstOpen c z s → r ≡ s
  only z (opens {t = t} l o h) (opens {t = u} l' o' h') = both t u (h (pos u) l' o') (h' (pos t) l o)
  only z (opens {t = t} l o h) (never n) = absurd (n (pos t) l o)
  only z (never n) (opens {t = u} l' o' h') = absurd (n (pos u) l' o')
  only z (never n) (never m) = refl

  pub is-first : (z : ℤ) {r : Found} → FirstOpen c z r → r ≡ first_open c z
  is-first z f = only z f (first-open z)
