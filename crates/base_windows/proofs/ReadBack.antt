-- Calendars that keep their layout are read back from where they were laid; all other words stay as they were.
use mathlib.Core.Path.{◌≡◌, refl, sym, ap, ap₂, ◌∙◌, fun_ext}
use mathlib.Core.List.{List, [], ◌∷◌}
use mathlib.Core.Bool.{Bool, true, false, ◌&&◌, and-eq-true_iff}
use mathlib.Core.Logic.{◌⊎◌, inl, inr, ⊎_elim}
use Prim.Native.Nat.{ℕ, zero, suc, ◌+◌, ◌*◌, ◌/◌, ◌%◌, ◌≤◌, ◌<◌}
use native.Mathlib.Omega.{arith}
use lib.Dec.{ltb, leb, eqb}
use lib.ListN.{length, get_or, set, length-set, get_or-eq_default}
use lib.Seq.{get_or-set_same, get_or-set_other}
use borrow.Author.Tests.{lt-ltb, leb-true, ltb-true, ltb-false}
use Rattle.spec_calculus.specs.Lists.{pick}
use Rattle.spec_calendar.specs.Hours.{Window, Calendar, calendar_of, day_minutes}
use Rattle.spec_encoding.specs.Record.{Bytes, byte, content_of, behind}
use Rattle.spec_hours.specs.CalendarBytes.{windows_from, windows_of, window_fits, windows_fit, content_fits, is_calendar, calendars_fit, calendars_from, calendars_of, most_calendars}
use Rattle.base_scratch.specs.Map.{scratch_size, calendars_at}
use Rattle.base_windows.specs.KeptCalendars.{count_at, window_of, windows_in, calendar_in, packed, laid_from, laid, kept_in}
use Rattle.base_windows.proofs.Exits.{windows-many}

-- ---- what reading sees
module _ (s t : List ℕ) where
  windows-same : (a n : ℕ) → ((j : ℕ) → a ≤ j → j < a + n → get_or s j 0 ≡ get_or t j 0) → windows_in s a n ≡ windows_in t a n
  unfolding windows_in
  windows-same a zero h = refl
  windows-same a (suc n) h = ap₂ (λ (w : ℕ) (c : Calendar). window_of w ∷ c) (h a (omega arith) (omega arith)) (windows-same (a + 1) n (λ j l m. h j (omega arith) (omega arith)))

  -- the words from the calendars' on
  pub calendars-same : ((j : ℕ) → calendars_at ≤ j → get_or s j 0 ≡ get_or t j 0) → calendar_in s ≡ calendar_in t
  unfolding calendar_in
  calendars-same h = fun_ext λ n. ap₂ (λ (w : ℕ) (c : Calendar). pick (ltb n 4) c [])
      (h (count_at n) (omega arith))
      (ap (λ (w : ℕ). windows_in s (count_at n + 1) (w % 64)) (h (count_at n) (omega arith)) ∙ windows-same (count_at n + 1) (get_or t (count_at n) 0 % 64) (λ j l m. h j (omega arith)))

-- ---- what laying leaves
laid-long : (c : Calendar) (a : ℕ) (s : List ℕ) → length (laid_from a c s) ≡ length s
unfolding laid_from
laid-long [] a s = refl
laid-long (x ∷ c) a s = laid-long c (a + 1) (set s a (packed x)) ∙ length-set s a (packed x)

laid-other : (c : Calendar) (a j : ℕ) (s : List ℕ) → (j < a) ⊎ (a + length c ≤ j) → get_or (laid_from a c s) j 0 ≡ get_or s j 0
unfolding laid_from
laid-other [] a j s h = refl
laid-other (x ∷ c) a j s h =
    laid-other c (a + 1) j (set s a (packed x)) (⊎_elim (λ p. inl (omega arith)) (λ p. inr (omega arith)) h)
    ∙ get_or-set_other s a j (packed x) 0 (⊎_elim (λ p e. omega arith) (λ p e. omega arith) h)

-- ---- a window that fits
pub fields-small : (x : Window) → window_fits x ≡ true → (x.weekday ≤ 6) × (x.first ≤ 1440) × (x.end ≤ 1440)
unfolding window_fits
fields-small x e =
    let a = (and-eq-true_iff (leb x.weekday 6) (leb x.first day_minutes && (leb x.end day_minutes && ltb x.first x.end))).0 e in
    let b = (and-eq-true_iff (leb x.first day_minutes) (leb x.end day_minutes && ltb x.first x.end)).0 a.1 in
    let g = (and-eq-true_iff (leb x.end day_minutes) (ltb x.first x.end)).0 b.1 in
    (leb-true x.weekday 6 a.0, leb-true x.first day_minutes b.0, leb-true x.end day_minutes g.0)

low : (q f e : ℕ) → f < 2048 → q ≡ f + 2048 * e → q % 2048 ≡ f
low q f e l h = omega arith

parts-back : (w f e P : ℕ) → w < 8 → f < 2048 → e < 2048 → P ≡ w + 8 * f + 16384 * e → (P % 8 ≡ w) × (P / 8 % 2048 ≡ f) × (P / 16384 % 2048 ≡ e)
parts-back w f e P l m n q =
    let a : P % 8 ≡ w = omega arith in
    let b : P / 8 ≡ f + 2048 * e = omega arith in
    let c : P / 16384 ≡ e = omega arith in
    (a, low (P / 8) f e m b, low (P / 16384) e 0 n (omega (arith, c)))

window-back : (x : Window) → window_fits x ≡ true → window_of (packed x) ≡ x
window-back x e =
    let h = fields-small x e in
    let a : x.weekday % 8 ≡ x.weekday = omega (arith, h.0) in
    let b : x.first % 2048 ≡ x.first = omega (arith, h.1) in
    let g : x.end % 2048 ≡ x.end = omega (arith, h.2) in
    let r = parts-back x.weekday x.first x.end (packed x) (omega (arith, h.0)) (omega (arith, h.1)) (omega (arith, h.2)) (omega (arith, a, b, g)) in
    ap₂ (λ (u v : ℕ). record { weekday = u; first = v; end = packed x / 16384 % 2048 }) r.0 r.1 ∙ ap (λ (v : ℕ). record { weekday = x.weekday; first = x.first; end = v }) r.2

windows-back : (c : Calendar) (a : ℕ) (s : List ℕ) → windows_fit c ≡ true → a + length c ≤ length s → windows_in (laid_from a c s) a (length c) ≡ c
unfolding windows_in laid_from windows_fit
windows-back [] a s e l = refl
windows-back (x ∷ c) a s e l =
    let f = (and-eq-true_iff (window_fits x) (windows_fit c)).0 e in
    let t = set s a (packed x) in
    ap₂ (λ (y : Window) (d : Calendar). y ∷ d)
    (ap window_of (laid-other c (a + 1) a t (inl (omega arith)) ∙ get_or-set_same s a (packed x) 0 (omega arith)) ∙ window-back x f.0)
    (windows-back c (a + 1) t f.1 (omega (arith, length-set s a (packed x))))

-- ---- a calendar that fits
abbrev pub Fitting : Calendar → Type 0
Fitting c = (windows_fit c ≡ true) × (length c ≤ 32)

-- where the words of calendar n are as laying c left them, it is c
calendar-back : (n : ℕ) (c : Calendar) (s t : List ℕ) → n < 4 → Fitting c → scratch_size ≤ length s
    → ((j : ℕ) → count_at n ≤ j → j < count_at n + 33 → get_or t j 0 ≡ get_or (laid n c s) j 0) → calendar_in t n ≡ c
unfolding calendar_in pick
calendar-back n c s t l F m h =
    let a = count_at n in
    let z = set s a (length c) in
    let e : get_or t a 0 ≡ length c = h a (omega arith) (omega arith) ∙ laid-other c (a + 1) a z (inl (omega arith)) ∙ get_or-set_same s a (length c) 0 (omega arith) in
    let k : get_or t a 0 % 64 ≡ length c = omega (arith, e, F.1) in
    ap (λ (b : Bool). pick b (windows_in t (a + 1) (get_or t a 0 % 64)) []) (lt-ltb n 4 l)
    ∙ ap (windows_in t (a + 1)) k
    ∙ windows-same t (laid_from (a + 1) c z) (a + 1) (length c) (λ j p q. h j (omega arith) (omega (arith, F.1)))
    ∙ windows-back c (a + 1) z F.0 (omega (arith, F.1, length-set s a (length c)))

-- laying one calendar leaves the words of the others, and all others
abbrev Apart : ℕ → ℕ → Type 0
Apart n j = (j < count_at n) ⊎ (count_at n + 33 ≤ j)

one-other : (n : ℕ) (c : Calendar) (s : List ℕ) → length c ≤ 32 → (j : ℕ) → Apart n j → get_or (laid n c s) j 0 ≡ get_or s j 0
one-other n c s l j h =
    laid-other c (count_at n + 1) j (set s (count_at n) (length c)) (⊎_elim (λ p. inl (omega arith)) (λ p. inr (omega arith)) h)
    ∙ get_or-set_other s (count_at n) j (length c) 0 (⊎_elim (λ p e. omega arith) (λ p e. omega arith) h)

one-long : (n : ℕ) (c : Calendar) (s : List ℕ) → length (laid n c s) ≡ length s
one-long n c s = laid-long c (count_at n + 1) (set s (count_at n) (length c)) ∙ length-set s (count_at n) (length c)

module _ (K : ℕ → Calendar) (s : List ℕ) where
  abbrev one : List ℕ
  one = laid 0 (K 0) s

  abbrev two : List ℕ
  two = laid 1 (K 1) one

  abbrev three : List ℕ
  three = laid 2 (K 2) two

  pub kept-long : length (kept_in K s) ≡ length s
  kept-long = one-long 3 (K 3) three ∙ one-long 2 (K 2) two ∙ one-long 1 (K 1) one ∙ one-long 0 (K 0) s

  module _ (F : (n : ℕ) → Fitting (K n)) where
    abbrev past : (n : ℕ) (t : List ℕ) (j : ℕ) → Apart n j → get_or (laid n (K n) t) j 0 ≡ get_or t j 0
    past n t = one-other n (K n) t (F n).1

    -- all words but those of the calendars
    pub kept-below : (j : ℕ) → j < calendars_at → get_or (kept_in K s) j 0 ≡ get_or s j 0
    kept-below j h = past 3 three j (inl (omega arith)) ∙ past 2 two j (inl (omega arith)) ∙ past 1 one j (inl (omega arith)) ∙ past 0 s j (inl (omega arith))

    pub kept_above : (j : ℕ) → scratch_size ≤ j → get_or (kept_in K s) j 0 ≡ get_or s j 0
    kept_above j h = past 3 three j (inr (omega arith)) ∙ past 2 two j (inr (omega arith)) ∙ past 1 one j (inr (omega arith)) ∙ past 0 s j (inr (omega arith))

    pub kept_back : scratch_size ≤ length s → (n : ℕ) → n < 4 → calendar_in (kept_in K s) n ≡ K n
    kept_back m zero l = calendar-back 0 (K 0) s (kept_in K s) l (F 0) m (λ j p q. past 3 three j (inl (omega arith)) ∙ past 2 two j (inl (omega arith)) ∙ past 1 one j (inl (omega arith)))
    kept_back m (suc zero) l = calendar-back 1 (K 1) one (kept_in K s) l (F 1) (omega (arith, one-long 0 (K 0) s)) (λ j p q. past 3 three j (inl (omega arith)) ∙ past 2 two j (inl (omega arith)))
    kept_back m (suc (suc zero)) l = calendar-back 2 (K 2) two (kept_in K s) l (F 2) (omega (arith, one-long 0 (K 0) s, one-long 1 (K 1) one)) (λ j p q. past 3 three j (inl (omega arith)))
    kept_back m (suc (suc (suc zero))) l = calendar-back 3 (K 3) three (kept_in K s) l (F 3) (omega (arith, one-long 0 (K 0) s, one-long 1 (K 1) one, one-long 2 (K 2) two)) (λ j p q. refl)
    kept_back m (suc (suc (suc (suc n)))) l = absurd (omega arith)

-- ---- calendars that are lent
-- each that keeps its layout fits
content-fitting : (c : Bytes) → content_fits c ≡ true → Fitting (windows_of c)
unfolding content_fits windows_of
content-fitting c e =
    let a = (and-eq-true_iff (leb (byte c 0) 32) (eqb (length c) (1 + 5 * byte c 0) && windows_fit (windows_from c 1 (byte c 0)))).0 e in
    let b = (and-eq-true_iff (eqb (length c) (1 + 5 * byte c 0)) (windows_fit (windows_from c 1 (byte c 0)))).0 a.1 in
    (b.1, omega (arith, leb-true (byte c 0) 32 a.0, windows-many c 1 (byte c 0)))

none-fitting : Fitting []
unfolding windows_fit
none-fitting = (refl, omega arith)

first-fitting : (c : Bytes) (C : List Calendar) → content_fits c ≡ true → ((k : ℕ) → Fitting (get_or C k [])) → (k : ℕ) → Fitting (get_or (windows_of c ∷ C) k [])
first-fitting c C p h zero = content-fitting c p
first-fitting c C p h (suc k) = h k

fitting-at : (n : ℕ) (l : Bytes) → calendars_fit n l ≡ true → (k : ℕ) → Fitting (get_or (calendars_from n l) k [])
unfolding calendars_fit calendars_from
fitting-at zero l e k = none-fitting
fitting-at (suc n) [] e k = none-fitting
fitting-at (suc n) (b ∷ l) e k =
    let r = b ∷ l in
    let a = (and-eq-true_iff (is_calendar r) (content_fits (content_of r) && calendars_fit n (behind r))).0 e in
    let g = (and-eq-true_iff (content_fits (content_of r)) (calendars_fit n (behind r))).0 a.1 in
    first-fitting (content_of r) (calendars_from n (behind r)) g.0 (λ j. fitting-at n (behind r) g.1 j) k

pub few-calendars : (n : ℕ) (l : Bytes) → length (calendars_from n l) ≤ n
unfolding calendars_from
few-calendars zero l = omega arith
few-calendars (suc n) [] = omega arith
few-calendars (suc n) (b ∷ l) = omega (arith, few-calendars n (behind (b ∷ l)))

-- What was laid of calendars that keep their layout is read back, at every number.
module _ (l : Bytes) (e : calendars_fit most_calendars l ≡ true) where
  pub fitting : (n : ℕ) → Fitting (calendar_of (calendars_of l) n)
  unfolding calendars_of
  fitting = fitting-at most_calendars l e

  pub calendars-back : (s : List ℕ) → scratch_size ≤ length s → calendar_in (kept_in (calendar_of (calendars_of l)) s) ≡ calendar_of (calendars_of l)
  unfolding calendar_in pick calendars_of
  calendars-back s m = fun_ext λ n. go n (ltb n 4) refl
    where
      go : (n : ℕ) (b : Bool) → ltb n 4 ≡ b → calendar_in (kept_in (calendar_of (calendars_of l)) s) n ≡ calendar_of (calendars_of l) n
      go n true p = kept_back (calendar_of (calendars_of l)) s fitting m n (ltb-true n 4 p)
      go n false p =
          let t = kept_in (calendar_of (calendars_of l)) s in
          ap (λ (b : Bool). pick b (windows_in t (count_at n + 1) (get_or t (count_at n) 0 % 64)) []) p
          ∙ sym (get_or-eq_default (calendars_of l) [] (omega (arith, ltb-false n 4 p, few-calendars most_calendars l)))
