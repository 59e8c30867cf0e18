-- Records of calendars one by one: which are whole and of kind 24, and what decides behind them.
use mathlib.Core.Path.{◌≡◌, refl, sym, ap, ◌∙◌}
use mathlib.Core.List.{[], ◌∷◌}
use mathlib.Core.Bool.{Bool, true, false, false≢true, ◌&&◌, and-eq-true_iff, and_assoc}
use Prim.Native.Nat.{ℕ, zero, suc, ◌+◌, ◌-◌, ◌≤◌, ◌<◌}
use native.Mathlib.Nat.{add-zero}
use native.Mathlib.Omega.{arith}
use lib.Dec.{eqb, leb}
use lib.ListN.{length, take, drop, length-drop, drop_of_length-le}
use lib.Seq.{take_all, drop-drop, get_or-drop}
use borrow.Author.Tests.{leb-true, le-leb, lt-leb}
use Rattle.spec_calculus.specs.Lists.{pick}
use Rattle.spec_encoding.specs.Record.{Bytes, two, length_of, kind_of, content_of, behind, is_whole}
use Rattle.spec_hours.specs.CalendarBytes.{content_fits, is_calendar, calendars_fit}

-- ---- is_calendar
module _ (l : Bytes) where
  pub short : length l < 4 → false ≡ is_calendar l
  unfolding is_calendar is_whole pick
  short h = rw (lt-leb 4 (length l) h)

  module _ (h : 4 ≤ length l) {n : ℕ} (e : n ≡ length_of l) where
    pub cut : length l - 4 < n → false ≡ is_calendar l
    unfolding is_calendar is_whole pick
    cut g = rw (le-leb 4 (length l) h, lt-leb (4 + length_of l) (length l) (omega (arith, e, g)))

    pub by_kind : n ≤ length l - 4 → {k : ℕ} → k ≡ kind_of l → eqb k 24 ≡ is_calendar l
    unfolding is_calendar is_whole pick
    by_kind g q = rw (le-leb 4 (length l) h, le-leb (4 + length_of l) (length l) (omega (arith, e, g)), q)

  pub within : is_calendar l ≡ true → 4 + length_of l ≤ length l
  unfolding is_calendar is_whole pick
  within e = go (leb 4 (length l)) ((and-eq-true_iff (pick (leb 4 (length l)) (leb (4 + length_of l) (length l)) false) (eqb (kind_of l) 24)).0 e).0
    where
      go : (b : Bool) → pick b (leb (4 + length_of l) (length l)) false ≡ true → 4 + length_of l ≤ length l
      go true h = leb-true (4 + length_of l) (length l) h
      go false h = absurd (false≢true h)

-- ---- record_fits
abbrev pub record_fits : Bytes → Bool
record_fits l = is_calendar l && content_fits (content_of l)

module _ (l : Bytes) {b : Bool} (eb : b ≡ is_calendar l) where
  module _ (t : b ≡ true) {n : ℕ} (en : n ≡ length_of l) where
    pub end-within : 4 + n ≤ length l
    end-within = omega (arith, within l (sym eb ∙ t), en)

    -- `&s[4..end]`
    pub by-content : {f : Bool} → f ≡ content_fits (take (4 + n - 4) (drop 4 l)) → f ≡ record_fits l
    by-content e =
        let k : 4 + n - 4 ≡ length_of l = omega (arith, en) in
        rw (sym eb ∙ t) (e ∙ ap (λ (j : ℕ). content_fits (take j (drop 4 l))) k)

  pub no_record : b ≡ false → false ≡ record_fits l
  no_record f = rw (sym eb ∙ f)

-- ---- calendars_fit
-- `&s[p..]`
pub part-from : (l : Bytes) (p : ℕ) → take (length l - p) (drop p l) ≡ drop p l
part-from l p = take_all (length l - p) (drop p l) (rw length-drop (omega arith))

pub length_at : (l : Bytes) (p : ℕ) → two l p ≡ length_of (drop p l)
length_at l p = rw (get_or-drop p l 0 0, get_or-drop p l 1 0, add-zero p)

pub behind-at : (l : Bytes) (p : ℕ) {n : ℕ} → n ≡ two l p → behind (drop p l) ≡ drop (p + (4 + n)) l
behind-at l p {n} e =
    let k : 4 + length_of (drop p l) ≡ 4 + n = omega (arith, length_at l p, e) in
    ap (λ (j : ℕ). drop j (drop p l)) k ∙ drop-drop (4 + n) p l

pub fit_none : (n : ℕ) → calendars_fit n [] ≡ true
unfolding calendars_fit
fit_none zero = refl
fit_none (suc n) = refl

fit-fifth : (l : Bytes) → 0 < length l → calendars_fit 0 l ≡ false
unfolding calendars_fit
fit-fifth [] h = absurd (omega arith)
fit-fifth (b ∷ l) h = refl

fit-one : (n : ℕ) (l : Bytes) → 0 < length l → calendars_fit (suc n) l ≡ record_fits l && calendars_fit n (behind l)
unfolding calendars_fit
fit-one n [] h = absurd (omega arith)
fit-one n (b ∷ l) h = sym (and_assoc (is_calendar (b ∷ l)) (content_fits (content_of (b ∷ l))) (calendars_fit n (behind (b ∷ l))))

module _ (l : Bytes) (p n : ℕ) (inv : calendars_fit 4 l ≡ calendars_fit (4 - n) (drop p l)) where
  pub all_fit : length l ≤ p → true ≡ calendars_fit 4 l
  all_fit h = sym (inv ∙ ap (calendars_fit (4 - n)) (drop_of_length-le l h) ∙ fit_none (4 - n))

  module _ (h : p < length l) where
    some : 0 < length (drop p l)
    some = rw length-drop (omega arith)

    pub fifth : n ≡ 4 → false ≡ calendars_fit 4 l
    fifth e = sym (inv ∙ ap (λ (k : ℕ). calendars_fit k (drop p l)) (let z : 4 - n ≡ 0 = omega (arith, e) in z) ∙ fit-fifth (drop p l) some)

    module _ (m : n < 4) {b : Bool} (eb : b ≡ record_fits (take (length l - p) (drop p l))) where
      fits : b ≡ record_fits (drop p l)
      fits = eb ∙ ap record_fits (part-from l p)

      one : calendars_fit 4 l ≡ b && calendars_fit (4 - (n + 1)) (behind (drop p l))
      one =
          let z : 4 - n ≡ suc (4 - (n + 1)) = omega (arith, m) in
          inv ∙ ap (λ (k : ℕ). calendars_fit k (drop p l)) z ∙ fit-one (4 - (n + 1)) (drop p l) some
          ∙ ap (λ (t : Bool). t && calendars_fit (4 - (n + 1)) (behind (drop p l))) (sym fits)

      pub stops : b ≡ false → false ≡ calendars_fit 4 l
      stops e = sym (one ∙ ap (λ (t : Bool). t && calendars_fit (4 - (n + 1)) (behind (drop p l))) e)

      module _ (e : b ≡ true) {k : ℕ} (ek : k ≡ two l p) where
        pub next-within : p + (4 + k) ≤ length l
        next-within =
            let c = (and-eq-true_iff (is_calendar (drop p l)) (content_fits (content_of (drop p l)))).0 (sym fits ∙ e) in
            omega (arith, within (drop p l) c.0, length_at l p, ek, length-drop p l)

        pub goes : calendars_fit 4 l ≡ calendars_fit (4 - (n + 1)) (drop (p + (4 + k)) l)
        goes =
            one ∙ ap (λ (t : Bool). t && calendars_fit (4 - (n + 1)) (behind (drop p l))) e
            ∙ ap (calendars_fit (4 - (n + 1))) (behind-at l p ek)
