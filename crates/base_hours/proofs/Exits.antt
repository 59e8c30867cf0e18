-- One law for each way out of the functions that go through a calendar's windows or find a calendar.
use mathlib.Core.Path.{◌≡◌, sym, ap, subst, ◌∙◌}
use mathlib.Core.List.{[], ◌∷◌}
use mathlib.Core.Bool.{Bool, true, false, cond}
use Prim.Native.Nat.{ℕ, ◌+◌, ◌-◌, ◌*◌, ◌≤◌, ◌<◌, min}
use lib.Dec.{ltb}
use native.Mathlib.Omega.{arith}
use lib.ListN.{length, take, drop}
use lib.IntN.{ℤ}
use mir.Syntax.{w64}
use mir.Val.{SFits, to_z, of_z}
use mir.Facts.{to_z-of_z}
use borrow.Author.Tests.{lt-ltb, le-ltb, ltb-true, ltb-false}
use Rattle.base_signed.proofs.SignedWords.{by-test}
use Rattle.spec_calendar.specs.Hours.{Window, Calendar, Found, at, none, first_open}
use Rattle.spec_encoding.specs.Record.{Bytes, byte, got, and_then, require}
use Rattle.spec_hours.specs.CalendarBytes.{window_at, windows_from, windows_of, calendars_fit, most_calendars, calendars_of, read_calendars}
use Rattle.spec_hours.specs.Calls.{OpenOutcome, open_told, first_opened}
use Rattle.base_calendars.specs.Contract.{FindPost}
use Rattle.std.specs.Prelude.{Option, Some, None}
use Rattle.base_calendars.proofs.Windows.{windows-next}
use Rattle.base_calendars.proofs.Finding.{found, not_found}
use Rattle.base_hours.specs.Contract.{all_minutes, minute_in, NextPost, LeastPost}
use Rattle.base_hours.proofs.Windows.{Rest, all_left, sooner, later, none_left}

-- the windows from the k-th of n on
abbrev pub left_from : Bytes → ℕ → ℕ → Calendar
left_from c n k = windows_from c (1 + 5 * k) (n - k)

module _ (c : Bytes) {n : ℕ} (en : n ≡ byte c 0) where
  pub all-windows : windows_of c ≡ left_from c n 0
  unfolding windows_of
  all-windows = ap (windows_from c 1) (let e : byte c 0 ≡ n - 0 = omega (arith, en) in e)

pub no-windows : (c : Bytes) (n k : ℕ) → n ≤ k → left_from c n k ≡ []
unfolding windows_from
no-windows c n k h = ap (windows_from c (1 + 5 * k)) (let e : n - k ≡ 0 = omega (arith, h) in e)

-- ---- first_in
pub least_start : (c : Bytes) {n f : ℕ} → n ≡ byte c 0 → f < all_minutes → Rest (windows_of c) (left_from c n 0) f all_minutes
least_start c {n} {f} en h = subst (λ (d : Calendar). Rest (windows_of c) d f all_minutes) (all-windows c en) (all_left (windows_of c) h)

module _ (c : Bytes) (n k f r : ℕ) (R : Rest (windows_of c) (left_from c n k) f r) where
  module _ (l : k < n) {x : Window} (ex : x ≡ window_at c (1 + 5 * k)) {t : ℕ} (N : NextPost x f t) where
    here : Rest (windows_of c) (x ∷ left_from c n (k + 1)) f r
    here = subst (λ (d : Calendar). Rest (windows_of c) d f r) (windows-next c n k l ∙ ap (λ (y : Window). y ∷ left_from c n (k + 1)) (sym ex)) R

    pub least-next : {q : ℕ} → q ≡ min r t → Rest (windows_of c) (left_from c n (k + 1)) f q
    least-next {q} e = by-test (ltb t r)
        (λ p. let h = ltb-true t r p in subst (λ (x : ℕ). Rest (windows_of c) (left_from c n (k + 1)) f x) (omega (arith, e, h)) (sooner here N h))
        (λ p. let h = ltb-false t r p in subst (λ (x : ℕ). Rest (windows_of c) (left_from c n (k + 1)) f x) (omega (arith, e, h)) (later here N h))

  pub least-ends : n ≤ k → LeastPost (windows_of c) f r
  least-ends h = none_left (subst (λ (d : Calendar). Rest (windows_of c) d f r) (no-windows c n k h) R)

-- ---- first_open
module _ (l : Bytes) (k : ℕ) (z : ℤ) {b : Bool} (eb : b ≡ calendars_fit most_calendars l) where
  pub broken : b ≡ false → {y : ℕ} → y ≡ 41 → ◌≡◌ {A = OpenOutcome} (record { number = y; found = 0; minute = 0 }) (first_opened l k z)
  unfolding first_opened read_calendars and_then require open_told
  broken h ey = rw (ey, sym eb ∙ h)

  module _ (h : b ≡ true) {r : Option (ℕ × ℕ)} (F : FindPost l k r) where
    pub not-lent : r ≡ None → {y : ℕ} → y ≡ 42 → ◌≡◌ {A = OpenOutcome} (record { number = y; found = 0; minute = 0 }) (first_opened l k z)
    unfolding first_opened read_calendars and_then require open_told
    not-lent e ey = rw (ey, sym eb ∙ h, le-ltb k (length (calendars_of l)) (not_found F e))

    module _ {a e : ℕ} (q : r ≡ Some (a, e)) (f : SFits w64 z) (t : ℕ)
        (m : minute_in t ≡ first_open (windows_of (take (e - a) (drop a l))) (to_z w64 (of_z w64 z))) where
      lent : first_opened l k z ≡ open_told (got (minute_in t))
      unfolding first_opened read_calendars and_then require
      lent =
          rw (sym eb ∙ h, lt-ltb k (length (calendars_of l)) (found F q).lent)
          (ap (λ (x : Found). open_told (got x))
          (ap (λ (c : Calendar). first_open c z) (found F q).windows ∙ ap (first_open (windows_of (take (e - a) (drop a l)))) (sym (to_z-of_z f)) ∙ sym m))

      pub minute-found : t < all_minutes → ◌≡◌ {A = OpenOutcome} (record { number = 0; found = 1; minute = t }) (first_opened l k z)
      unfolding open_told
      minute-found p = sym (lent ∙ ap (λ (s : Bool). open_told (got (cond s (at t) none))) (lt-ltb t all_minutes p))

      pub minute-none : all_minutes ≤ t → ◌≡◌ {A = OpenOutcome} (record { number = 0; found = 0; minute = 0 }) (first_opened l k z)
      unfolding open_told
      minute-none p = sym (lent ∙ ap (λ (s : Bool). open_told (got (cond s (at t) none))) (le-ltb t all_minutes p))
