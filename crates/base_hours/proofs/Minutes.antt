-- Signed minutes: open ones of the years, and the first one.
use mathlib.Core.Path.{◌≡◌, refl, sym, ap, ◌∙◌}
use mathlib.Core.Bool.{Bool, true, false, cond, and-eq-true_iff}
use Prim.Native.Nat.{ℕ, ◌/◌, ◌%◌, ◌≤◌, ◌<◌}
use native.Mathlib.Omega.{arith}
use lib.Dec.{ltb}
use lib.IntN.{ℤ, pos, negsuc, nat_abs}
use lib.Signed.{lt_z}
use borrow.Author.Tests.{ltb-true, ltb-false, lt-ltb, le-ltb}
use mir.Syntax.{w64}
use mir.Val.{SFits, to_z, of_z}
use mir.Facts.{to_z-of_z}
use Rattle.spec_calendar.specs.Dates.{all_days, day_exists, weekday_of}
use Rattle.spec_calendar.specs.Hours.{Calendar, in_window, open_at, at, none, not_before, first_open, FirstOpen}
use Rattle.spec_calendar.proofs.FirstMinute.{before-years, open-inside, least, without, is-first}
use Rattle.base_signed.proofs.SignedWords.{natural}
use Rattle.base_hours.specs.Contract.{all_minutes, minute_in, lies_in_one, LeastPost}

-- ---- a minute as the machine has it
module _ {z : ℤ} (f : SFits w64 z) where
  tested : {b : Bool} → lt_z (to_z w64 (of_z w64 z)) (pos 0) ≡ b → lt_z z (pos 0) ≡ b
  tested e = ap (λ (y : ℤ). lt_z y (pos 0)) (sym (to_z-of_z f)) ∙ e

  pub negative : lt_z (to_z w64 (of_z w64 z)) (pos 0) ≡ true → lt_z z (pos 0) ≡ true
  negative = tested

  pub counted : lt_z (to_z w64 (of_z w64 z)) (pos 0) ≡ false → {t : ℕ} → t ≡ nat_abs (to_z w64 (of_z w64 z)) → z ≡ pos t
  counted e q = natural z (tested e) ∙ ap pos (sym (q ∙ ap nat_abs (to_z-of_z f)))

-- ---- whether it is open
pub before-day-0 : (c : Calendar) (z : ℤ) → lt_z z (pos 0) ≡ true → false ≡ open_at c z
before-day-0 c (pos t) e = absurd (omega (arith, ltb-true t 0 e))
before-day-0 c (negsuc n) e = sym (before-years c n)

module _ (c : Calendar) {z : ℤ} {t : ℕ} (e : z ≡ pos t) where
  pub late-day : all_days ≤ t / 1440 → false ≡ open_at c z
  unfolding open_at
  late-day h = rw (e, le-ltb (t / 1440) all_days h)

  pub by-window : t / 1440 < all_days → {w : ℕ} {b : Bool} → w ≡ weekday_of (t / 1440) → b ≡ in_window c w (t % 1440) → b ≡ open_at c z
  unfolding open_at
  by-window h ew eb = rw (e, lt-ltb (t / 1440) all_days h) (eb ∙ ap (λ (w : ℕ). in_window c w (t % 1440)) ew)

-- ---- first_from
open-lies : (c : Calendar) (u : ℕ) → open_at c (pos u) ≡ true → lies_in_one c u ≡ true
unfolding open_at
open-lies c u e = ((and-eq-true_iff (day_exists (u / 1440)) (in_window c (weekday_of (u / 1440)) (u % 1440))).0 e).1

lies-open : (c : Calendar) (u : ℕ) → u < all_minutes → lies_in_one c u ≡ true → open_at c (pos u) ≡ true
unfolding open_at
lies-open c u h e = rw (lt-ltb (u / 1440) all_days (omega (arith, h))) e

module _ (c : Calendar) (z : ℤ) {f : ℕ} (ef : f ≡ not_before z) where
  after : {u : ℕ} → not_before z ≤ u → f ≤ u
  after p = omega (arith, p, ef)

  least-is : {r : ℕ} → LeastPost c f r → (b : Bool) → ltb r all_minutes ≡ b → FirstOpen c z (cond b (at r) none)
  least-is {r} L true e =
      let l = ltb-true r all_minutes e in
      least {t = r} (omega (arith, L.from, ef)) (lies-open c r l (L.lies l)) (λ u p q o. L.first u (after p) q (open-lies c u o))
  least-is {r} L false e =
      without (λ u p o. L.first u (after p) (omega (arith, open-inside c u o, ltb-false r all_minutes e)) (open-lies c u o))

  pub first-minute : {r : ℕ} → LeastPost c f r → minute_in r ≡ first_open c z
  first-minute {r} L = is-first c z (least-is L (ltb r all_minutes) refl)

  pub years-over : all_minutes ≤ f → minute_in all_minutes ≡ first_open c z
  years-over h = is-first c z (without (λ u p o. omega (arith, open-inside c u o, after p, h)))
