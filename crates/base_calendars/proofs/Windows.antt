-- A content's windows one by one; what keeps their layout.
use mathlib.Core.Path.{◌≡◌, sym, ap, ◌∙◌}
use mathlib.Core.List.{◌∷◌}
use mathlib.Core.Bool.{Bool, true, false, ◌&&◌}
use Prim.Native.Nat.{ℕ, suc, ◌+◌, ◌-◌, ◌*◌, ◌≤◌, ◌<◌}
use native.Mathlib.Omega.{arith}
use lib.Dec.{ltb}
use lib.ListN.{length}
use borrow.Author.Tests.{le-leb, lt-leb, eq-eqb, ne_eqb}
use Rattle.spec_calendar.specs.Hours.{Window, day_minutes}
use Rattle.spec_encoding.specs.Record.{Bytes, byte, two}
use Rattle.spec_hours.specs.CalendarBytes.{window_at, windows_from, windows_of, window_fits, windows_fit, content_fits}

-- ---- read_window
pub window-read : (c : Bytes) (i : ℕ) {w a e : ℕ} → w ≡ byte c i → a ≡ two c (i + 1) → e ≡ two c (i + 3) →
    ◌≡◌ {A = Window} (record { weekday = w; first = a; end = e }) (window_at c i)
unfolding window_at
window-read c i ew ea ee = rw (ew, ea, ee)

-- the windows from the k-th of n on
pub windows-next : (c : Bytes) (n k : ℕ) → k < n → windows_from c (1 + 5 * k) (n - k) ≡ window_at c (1 + 5 * k) ∷ windows_from c (1 + 5 * (k + 1)) (n - (k + 1))
unfolding windows_from
windows-next c n k h =
    let e₁ : n - k ≡ suc (n - (k + 1)) = omega arith in
    let e₂ : 1 + 5 * k + 5 ≡ 1 + 5 * (k + 1) = omega arith in
    ap (windows_from c (1 + 5 * k)) e₁ ∙ ap (λ (i : ℕ). window_at c (1 + 5 * k) ∷ windows_from c i (n - (k + 1))) e₂

-- ---- window_fits
module _ (x : Window) where
  pub late-weekday : 6 < x.weekday → false ≡ window_fits x
  unfolding window_fits
  late-weekday h = rw (lt-leb x.weekday 6 h)

  module _ (w : x.weekday ≤ 6) where
    pub late-first : day_minutes < x.first → false ≡ window_fits x
    unfolding window_fits
    late-first h = rw (le-leb x.weekday 6 w, lt-leb x.first day_minutes h)

    module _ (f : x.first ≤ day_minutes) where
      pub late-end : day_minutes < x.end → false ≡ window_fits x
      unfolding window_fits
      late-end h = rw (le-leb x.weekday 6 w, le-leb x.first day_minutes f, lt-leb x.end day_minutes h)

      pub end-after-first : x.end ≤ day_minutes → ltb x.first x.end ≡ window_fits x
      unfolding window_fits
      end-after-first h = rw (le-leb x.weekday 6 w, le-leb x.first day_minutes f, le-leb x.end day_minutes h)

-- ---- windows_fit: the windows from the k-th on decide, as long as those before it fit
module _ (c : Bytes) (n : ℕ) where
  pub fit-start : windows_fit (windows_from c 1 n) ≡ windows_fit (windows_from c (1 + 5 * 0) (n - 0))
  fit-start = ap (λ (k : ℕ). windows_fit (windows_from c 1 k)) (omega arith)

  module _ (k : ℕ) (inv : windows_fit (windows_from c 1 n) ≡ windows_fit (windows_from c (1 + 5 * k) (n - k))) where
    module _ (l : k < n) {x : Window} (ex : x ≡ window_at c (1 + 5 * k)) {b : Bool} (eb : b ≡ window_fits x) where
      step : windows_fit (windows_from c 1 n) ≡ b && windows_fit (windows_from c (1 + 5 * (k + 1)) (n - (k + 1)))
      unfolding windows_fit
      step =
          inv ∙ ap windows_fit (windows-next c n k l)
          ∙ ap (λ (t : Bool). t && windows_fit (windows_from c (1 + 5 * (k + 1)) (n - (k + 1)))) (sym (eb ∙ ap window_fits ex))

      pub fit-goes : b ≡ true → windows_fit (windows_from c 1 n) ≡ windows_fit (windows_from c (1 + 5 * (k + 1)) (n - (k + 1)))
      fit-goes e = step ∙ ap (λ (t : Bool). t && windows_fit (windows_from c (1 + 5 * (k + 1)) (n - (k + 1)))) e

      pub fit-stops : b ≡ false → false ≡ windows_fit (windows_from c 1 n)
      fit-stops e = sym (step ∙ ap (λ (t : Bool). t && windows_fit (windows_from c (1 + 5 * (k + 1)) (n - (k + 1)))) e)

    pub fit-ends : n ≤ k → true ≡ windows_fit (windows_from c 1 n)
    unfolding windows_from windows_fit
    fit-ends l = sym (inv ∙ ap (λ (j : ℕ). windows_fit (windows_from c (1 + 5 * k) j)) (let z : n - k ≡ 0 = omega arith in z))

-- ---- content_fits
module _ (c : Bytes) {n : ℕ} (e : n ≡ byte c 0) where
  pub many-windows : 32 < n → false ≡ content_fits c
  unfolding content_fits
  many-windows h = rw (lt-leb (byte c 0) 32 (rw e at h))

  module _ (h : n ≤ 32) where
    pub other_length : (length c ≡ 1 + 5 * n → ⊥) → false ≡ content_fits c
    unfolding content_fits
    other_length f = rw (le-leb (byte c 0) 32 (rw e at h), ne_eqb (length c) (1 + 5 * byte c 0) (rw e at f))

    pub by-windows : length c ≡ 1 + 5 * n → {b : Bool} → b ≡ windows_fit (windows_from c 1 n) → b ≡ content_fits c
    unfolding content_fits windows_of
    by-windows f g =
        rw (le-leb (byte c 0) 32 (rw e at h), eq-eqb (length c) (1 + 5 * byte c 0) (rw e at f))
        (g ∙ ap (λ (k : ℕ). windows_fit (windows_from c 1 k)) e)
