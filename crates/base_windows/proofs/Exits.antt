-- One law for each way out of the functions that lay a calendar's windows into scratch or go through those that stand there.
use mathlib.Core.Path.{◌≡◌, refl, sym, ap, ◌∙◌}
use mathlib.Core.List.{List, []}
use mathlib.Core.Bool.{Bool, true, false, ◌||◌}
use Prim.Native.Nat.{ℕ, zero, suc, ◌+◌, ◌-◌, ◌*◌, ◌%◌, ◌≤◌, ◌<◌}
use native.Mathlib.Omega.{arith}
use lib.ListN.{length, get_or, set, get_or-eq_default, take, drop}
use borrow.Author.Tests.{lt-ltb, le-ltb}
use Rattle.spec_calculus.specs.Lists.{pick}
use Rattle.spec_calendar.specs.Hours.{Window, Calendar, calendar_of, holds, in_window}
use Rattle.spec_encoding.specs.Record.{Bytes, byte}
use Rattle.spec_hours.specs.CalendarBytes.{window_at, windows_from, windows_of, calendars_of}
use Rattle.base_calendars.specs.Contract.{FindPost}
use Rattle.std.specs.Prelude.{Option, Some, None}
use Rattle.base_calendars.proofs.Windows.{windows-next}
use Rattle.base_calendars.proofs.Finding.{found, not_found}
use Rattle.base_hours.proofs.Exits.{left_from, all-windows, no-windows}
use Rattle.base_windows.specs.KeptCalendars.{count_at, window_of, windows_in, calendar_in, packed, laid_from, laid, kept_in}

pub windows-many : (c : Bytes) (i n : ℕ) → length (windows_from c i n) ≡ n
unfolding windows_from
windows-many c i zero = refl
windows-many c i (suc n) = ap suc (windows-many c (i + 5) n)

pub counted : (c : Bytes) {n : ℕ} → n ≡ byte c 0 → n ≡ length (windows_of c)
unfolding windows_of
counted c e = e ∙ sym (windows-many c 1 (byte c 0))

-- ---- lay: what is left to be laid from the loop's window on comes to all of it
module _ (c : Bytes) (a : ℕ) (s₀ : List ℕ) where
  abbrev whole : List ℕ
  whole = laid_from (a + 1) (windows_of c) s₀

  pub record Laying (n : ℕ) (s : List ℕ) (k : ℕ) : Type 0 where
    pub rest : whole ≡ laid_from (a + 1 + k) (left_from c n k) s

  pub lay-first : {n : ℕ} → n ≡ byte c 0 → Laying n s₀ 0
  lay-first {n} e = record {
    rest = ap (λ (w : Calendar). laid_from (a + 1) w s₀) (all-windows c e) ∙ ap (λ (j : ℕ). laid_from j (left_from c n 0) s₀) (omega arith);
  }

  pub lay-again : {n k : ℕ} {s t : List ℕ} {x : Window} {w : ℕ} → Laying n s k → k < n → x ≡ window_at c (1 + 5 * k) → w ≡ packed x → t ≡ set s (a + 1 + k) w → Laying n t (k + 1)
  unfolding laid_from
  lay-again {n} {k} {s} {t} L l ex ew et = record {
    rest = L.rest ∙ ap (λ (d : Calendar). laid_from (a + 1 + k) d s) (windows-next c n k l)
        ∙ ap (λ (r : List ℕ). laid_from (a + 1 + k + 1) (left_from c n (k + 1)) r) (ap (λ (y : Window). set s (a + 1 + k) (packed y)) (sym ex) ∙ ap (set s (a + 1 + k)) (sym ew) ∙ sym et)
        ∙ ap (λ (j : ℕ). laid_from j (left_from c n (k + 1)) t) (omega arith);
  }

  pub lay-last : {n k m : ℕ} (r : List ℕ) {s : List ℕ} → Laying n s k → n ≤ k → m ≡ byte c 0 → s₀ ≡ set r a m → s ≡ laid_from (a + 1) (windows_of c) (set r a (length (windows_of c)))
  unfolding laid_from
  lay-last {n} {k} r {s} L h e p =
      sym (L.rest ∙ ap (λ (d : Calendar). laid_from (a + 1 + k) d s) (no-windows c n k h)) ∙ ap (laid_from (a + 1) (windows_of c)) (p ∙ ap (set r a) (counted c e))

-- ---- keep_one
module _ {l : Bytes} {k : ℕ} {r : Option (ℕ × ℕ)} (F : FindPost l k r) (s : List ℕ) where
  pub keep-found : {a b : ℕ} → r ≡ Some (a, b) → {t : List ℕ} → let c = windows_of (take (b - a) (drop a l)) in
      t ≡ laid_from (count_at k + 1) c (set s (count_at k) (length c)) → t ≡ laid k (calendar_of (calendars_of l) k) s
  keep-found e q = q ∙ ap (λ (c : Calendar). laid k c s) (sym (found F e).windows)

  pub keep-missing : r ≡ None → {t : List ℕ} → t ≡ set s (count_at k) 0 → t ≡ laid k (calendar_of (calendars_of l) k) s
  unfolding laid_from
  keep-missing e q = q ∙ ap (λ (c : Calendar). laid k c s) (sym (get_or-eq_default (calendars_of l) [] (not_found F e)))

-- ---- in_window: those from the loop's on decide, as long as none before it holds the minute
abbrev pub left_in : List ℕ → ℕ → ℕ → ℕ → Calendar
left_in s a e k = windows_in s (a + 1 + k) (e - k)

module _ (s : List ℕ) (n w m : ℕ) where
  pub far : 4 ≤ n → false ≡ in_window (calendar_in s n) w m
  unfolding calendar_in pick in_window
  far h = sym (ap (λ (b : Bool). in_window (pick b (windows_in s (count_at n + 1) (get_or s (count_at n) 0 % 64)) []) w m) (le-ltb n 4 h))

  pub record Seeking (e k : ℕ) : Type 0 where
    pub rest : in_window (calendar_in s n) w m ≡ in_window (left_in s (count_at n) e k) w m

  pub seek-first : n < 4 → {e : ℕ} → e ≡ get_or s (count_at n) 0 % 64 → Seeking e 0
  unfolding calendar_in pick
  seek-first h {e} q = record {
    rest = ap (λ (b : Bool). in_window (pick b (windows_in s (count_at n + 1) (get_or s (count_at n) 0 % 64)) []) w m) (lt-ltb n 4 h)
        ∙ ap (λ (x : ℕ). in_window (windows_in s (count_at n + 1) x) w m) (sym q)
        ∙ ap (λ (a : ℕ). in_window (windows_in s a e) w m) (omega arith) ∙ ap (λ (x : ℕ). in_window (windows_in s (count_at n + 1 + 0) x) w m) (omega arith);
  }

  module _ {e k : ℕ} (S : Seeking e k) where
    module _ (l : k < e) {v : ℕ} (ev : v ≡ get_or s (count_at n + 1 + k) 0) {x : Window} (ex : x ≡ window_of v) {b : Bool} (eb : b ≡ holds x w m) where
      step : in_window (calendar_in s n) w m ≡ (b || in_window (left_in s (count_at n) e (k + 1)) w m)
      unfolding windows_in in_window
      step =
          let p : e - k ≡ suc (e - (k + 1)) = omega arith in
          let q : count_at n + 1 + k + 1 ≡ count_at n + 1 + (k + 1) = omega arith in
          S.rest ∙ ap (λ (j : ℕ). in_window (windows_in s (count_at n + 1 + k) j) w m) p
          ∙ ap (λ (a : ℕ). holds (window_of (get_or s (count_at n + 1 + k) 0)) w m || in_window (windows_in s a (e - (k + 1))) w m) q
          ∙ ap (λ (t : Bool). t || in_window (left_in s (count_at n) e (k + 1)) w m) (sym (eb ∙ ap (λ (y : Window). holds y w m) (ex ∙ ap window_of ev)))

      pub seek_found : b ≡ true → true ≡ in_window (calendar_in s n) w m
      seek_found h = sym (step ∙ ap (λ (t : Bool). t || in_window (left_in s (count_at n) e (k + 1)) w m) h)

      pub seek-again : b ≡ false → Seeking e (k + 1)
      seek-again h = record { rest = step ∙ ap (λ (t : Bool). t || in_window (left_in s (count_at n) e (k + 1)) w m) h }

    pub seek-last : e ≤ k → false ≡ in_window (calendar_in s n) w m
    unfolding windows_in in_window
    seek-last h = sym (S.rest ∙ ap (λ (j : ℕ). in_window (windows_in s (count_at n + 1 + k) j) w m) (let p : e - k ≡ 0 = omega arith in p))

-- ---- keep
pub all-kept : (K : ℕ → Calendar) (s : List ℕ) {s₁ s₂ s₃ s₄ : List ℕ} → s₁ ≡ laid 0 (K 0) s → s₂ ≡ laid 1 (K 1) s₁ → s₃ ≡ laid 2 (K 2) s₂ → s₄ ≡ laid 3 (K 3) s₃ → s₄ ≡ kept_in K s
all-kept K s e₁ e₂ e₃ e₄ = e₄ ∙ ap (laid 3 (K 3)) (e₃ ∙ ap (laid 2 (K 2)) (e₂ ∙ ap (laid 1 (K 1)) e₁))
