-- The calendar of a number stands behind as many records.
use mathlib.Core.Path.{◌≡◌, refl, sym, ap, subst, ◌∙◌}
use mathlib.Core.List.{[], ◌∷◌}
use mathlib.Core.Bool.{Bool, true, false}
use Prim.Native.Nat.{ℕ, zero, suc, ◌+◌, ◌-◌, ◌≤◌, ◌<◌}
use native.Mathlib.Numerals.{add-one}
use native.Mathlib.Omega.{arith}
use lib.Dec.{leb}
use lib.ListN.{length, get_or, take, drop, length-drop, drop_of_length-le}
use lib.Seq.{take_all, take-nil, drop-nil, drop-drop}
use borrow.Author.Tests.{leb-true, leb-false}
use Rattle.spec_encoding.specs.Record.{Bytes, two, length_of, content_of, behind}
use Rattle.spec_hours.specs.CalendarBytes.{windows_of, calendars_from, calendars_of}
use Rattle.base_calendars.specs.Contract.{Stands, FindPost}
use Rattle.std.specs.Prelude.{Option, Some, None, min}
use Rattle.base_calendars.proofs.Records.{length_at}

-- what stands behind so many records
unfoldable pub skip : ℕ → Bytes → Bytes
skip zero l = l
skip (suc j) l = skip j (behind l)

skip-next : (j : ℕ) (l : Bytes) → behind (skip j l) ≡ skip (suc j) l
unfolding skip
skip-next zero l = refl
skip-next (suc j) l = skip-next j (behind l)

skip-none : (j : ℕ) → skip j [] ≡ []
unfolding skip
skip-none zero = refl
skip-none (suc j) = ap (skip j) (drop-nil (4 + length_of [])) ∙ skip-none j

few : (n : ℕ) (l : Bytes) → length (calendars_from n l) ≤ n
unfolding calendars_from
few zero l = omega arith
few (suc n) [] = omega arith
few (suc n) (b ∷ l) = omega (arith, few n (behind (b ∷ l)))

-- ---- there is one
pub record Lies (n k : ℕ) (l : Bytes) : Type 0 where
  pub lent : k < length (calendars_from n l)
  pub windows : get_or (calendars_from n l) k [] ≡ windows_of (content_of (skip k l))

lies : (n k : ℕ) (l : Bytes) → k < n → 0 < length (skip k l) → Lies n k l
unfolding calendars_from skip
lies zero k l h g = absurd (omega arith)
lies (suc n) k [] h g = absurd (omega (arith, ap length (skip-none k)))
lies (suc n) zero (b ∷ l) h g = record { lent = omega arith; windows = refl }
lies (suc n) (suc k) (b ∷ l) h g = let i = lies n k (behind (b ∷ l)) (omega arith) g in record { lent = omega (arith, i.lent); windows = i.windows }

-- ---- there is none
ends : (n k : ℕ) (l : Bytes) → length (skip k l) ≡ 0 → length (calendars_from n l) ≤ k
unfolding calendars_from skip
ends zero k l g = omega arith
ends (suc n) k [] g = omega arith
ends (suc n) zero (b ∷ l) g = absurd (omega arith)
ends (suc n) (suc k) (b ∷ l) g = omega (arith, ends n k (behind (b ∷ l)) g)

-- ---- a part that is cut where the bytes end
cut : (q n : ℕ) (l : Bytes) → take (min (q + n) (length l) - (min q (length l))) (drop (min q (length l)) l) ≡ take n (drop q l)
cut q n l = go (leb q (length l)) (leb (q + n) (length l)) refl refl
  where
    go : (s t : Bool) → leb q (length l) ≡ s → leb (q + n) (length l) ≡ t →
        take (min (q + n) (length l) - (min q (length l))) (drop (min q (length l)) l) ≡ take n (drop q l)
    go true true a b =
        let e₁ : min q (length l) ≡ q = omega (arith, leb-true q (length l) a) in
        let e₂ : min (q + n) (length l) - q ≡ n = omega (arith, leb-true (q + n) (length l) b) in
        rw (e₁, e₂)
    go true false a b =
        let e₁ : min q (length l) ≡ q = omega (arith, leb-true q (length l) a) in
        let e₂ : min (q + n) (length l) - q ≡ length l - q = omega (arith, leb-false (q + n) (length l) b) in
        rw (e₁, e₂)
        (take_all (length l - q) (drop q l) (rw length-drop (omega arith))
        ∙ sym (take_all n (drop q l) (rw length-drop (omega (arith, leb-false (q + n) (length l) b)))))
    go false t a b =
        let e₁ : min q (length l) ≡ length l = omega (arith, leb-false q (length l) a) in
        rw (e₁, drop_of_length-le l {i = length l} (omega arith), drop_of_length-le l {i = q} (omega (arith, leb-false q (length l) a)))
        (take-nil (min (q + n) (length l) - length l) ∙ sym (take-nil n))

drop-cut : (q : ℕ) (l : Bytes) → drop (min q (length l)) l ≡ drop q l
drop-cut q l = go (leb q (length l)) refl
  where
    go : (s : Bool) → leb q (length l) ≡ s → drop (min q (length l)) l ≡ drop q l
    go true a = ap (λ (k : ℕ). drop k l) (let e : min q (length l) ≡ q = omega (arith, leb-true q (length l) a) in e)
    go false a =
        let e : min q (length l) ≡ length l = omega (arith, leb-false q (length l) a) in
        rw e (drop_of_length-le l {i = length l} (omega arith) ∙ sym (drop_of_length-le l {i = q} (omega (arith, leb-false q (length l) a))))

-- ---- find
pub beyond : (l : Bytes) (k : ℕ) → 4 ≤ k → FindPost l k None
unfolding calendars_of
beyond l k h = record { is = omega (arith, few 4 l, h) }

module _ (l : Bytes) (p n : ℕ) (inv : drop p l ≡ skip n l) where
  pub ended : (k : ℕ) → n ≤ k → length l ≤ p → FindPost l k None
  unfolding calendars_of
  ended k h g = record { is = omega (arith, ends 4 n l (ap length (sym inv ∙ drop_of_length-le l g)), h) }

  module _ {a b m : ℕ} (em : m ≡ two l p) (ea : a ≡ min (p + 4) (length l)) (eb : b ≡ min (p + 4 + m) (length l)) where
    pub stands : (k : ℕ) → k < 4 → n ≡ k → p < length l → FindPost l k (Some (a, b))
    unfolding calendars_of
    stands k h e g =
        let s : 0 < length (skip k l) = rw (← e, ← inv, length-drop) (omega arith) in
        let i = lies 4 k l h s in
        let q : content_of (skip k l) ≡ take (b - a) (drop a l) =
        ap content_of (ap (λ (j : ℕ). skip j l) (sym e) ∙ sym inv)
        ∙ ap (λ (j : ℕ). take j (drop 4 (drop p l))) (sym (length_at l p) ∙ sym em)
        ∙ ap (take m) (drop-drop 4 p l) ∙ sym (cut (p + 4) m l)
        ∙ rw (ea, eb) refl in
        record { is = record { order = omega (arith, ea, eb); within = omega (arith, eb); lent = i.lent; windows = i.windows ∙ ap windows_of q } }

    pub next : drop b l ≡ skip (n + 1) l
    next =
        let z : p + 4 + m ≡ p + (4 + length_of (drop p l)) = omega (arith, em, length_at l p) in
        ap (λ (j : ℕ). drop j l) eb ∙ drop-cut (p + 4 + m) l ∙ ap (λ (j : ℕ). drop j l) z
        ∙ sym (drop-drop (4 + length_of (drop p l)) p l) ∙ ap behind inv ∙ skip-next n l ∙ ap (λ (j : ℕ). skip j l) (sym (add-one n))

-- ---- what was found, by its form
module _ {l : Bytes} {k : ℕ} {r : Option (ℕ × ℕ)} (f : FindPost l k r) where
  pub found : {a b : ℕ} → r ≡ Some (a, b) → Stands l k a b
  found e = (subst (FindPost l k) e f).is

  pub not_found : r ≡ None → length (calendars_of l) ≤ k
  not_found e = (subst (FindPost l k) e f).is
