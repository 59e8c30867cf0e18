-- Times read down column 0, and whether they fall. Assumes nothing.
use mathlib.Core.Path.{◌≡◌, refl, sym, ap, ap₂, ◌∙◌}
use mathlib.Core.List.{[], ◌∷◌}
use mathlib.Core.Bool.{Bool, true, false, ◌&&◌}
use Prim.Native.Nat.{ℕ, zero, suc, ◌+◌, ◌-◌, ◌*◌, ◌%◌, ◌≤◌, ◌<◌, ◌^◌}
use native.Mathlib.Numerals.{add-one}
use native.Mathlib.Omega.{arith}
use lib.Dec.{eqb, ltb, leb}
use lib.ListN.{length}
use lib.IntN.{ℤ, pos, negsuc, nat_abs}
use borrow.Author.Tests.{ltb-true, ltb-false, le-leb, lt-leb, eq-eqb, ne_eqb}
use Rattle.spec_calculus.specs.Lists.{pick}
use Rattle.spec_encoding.specs.Record.{Bytes, four, signed}
use Rattle.spec_encoding.specs.Columns.{plus, unfolded, summed}
use Rattle.spec_encoding.proofs.Data.{signed-small}
use Rattle.base_signed.proofs.SignedWords.{by-test}
use Rattle.spec_logs.specs.Logs.{Log, never_falls}
use Rattle.spec_logs.proofs.Distance.{since, not-later}
use Rattle.base_tables.specs.Description.{collection_in, columns_in, rows_in, kind_in, place_in, column_place_in, stored_word_in}
use Rattle.base_logs.specs.Times.{word_below, times_from, times_in, is_log_in}

-- ---- a time counted from -2^31 on
pub time-is : (n : ℕ) → n < 2 ^ 32 → (n + 2147483648) % 4294967296 ≡ since (2 ^ 31) (signed n)
unfolding since signed
time-is n l = go (ltb n 0x80000000) refl
  where
    go : (t : Bool) → ltb n 0x80000000 ≡ t → (n + 2147483648) % 4294967296 ≡ since (2 ^ 31) (elim t [ true ↦ pos n | false ↦ negsuc (0xffffffff - n) ])
    go true e = omega (arith, ltb-true n 0x80000000 e)
    go false e = omega (arith, ltb-false n 0x80000000 e)

-- ---- word_of
module _ (d : Bytes) (w r a : ℕ) {b : Bool} (e : b ≡ eqb (kind_in w) 1) where
  pub below-columns : b ≡ true → {p n x : ℕ} → p ≡ column_place_in w 0 → n ≡ four d (p + 4 * r) → x ≡ plus a (unfolded n) → x ≡ word_below d w r a
  unfolding word_below pick
  below-columns t ep en ex = rw (← e, t) (ex ∙ ap (λ (n : ℕ). plus a (unfolded n)) (en ∙ ap (λ (p : ℕ). four d (p + 4 * r)) ep))

  pub below_rows : b ≡ false → {p x : ℕ} → p ≡ place_in w r 0 → x ≡ four d p → x ≡ word_below d w r a
  unfolding word_below pick
  below_rows t ep ex = rw (← e, t) (ex ∙ ap (four d) ep)

-- the word above row r: none above the first
unfoldable pub above_word : Bytes → ℕ → ℕ → ℕ
above_word d w zero = 0
above_word d w (suc r) = stored_word_in d w r 0

-- A walk down the column gives each row's word.
pub below-is : (d : Bytes) (w r : ℕ) → word_below d w r (above_word d w r) ≡ stored_word_in d w r 0
unfolding word_below above_word stored_word_in pick summed
below-is d w r = by-test (eqb (kind_in w) 1) (λ t. rw t (columns r t)) (λ t. rw t refl)
  where
    columns : (r : ℕ) → eqb (kind_in w) 1 ≡ true → plus (above_word d w r) (unfolded (four d (column_place_in w 0 + 4 * r))) ≡ summed d (column_place_in w 0) (suc r)
    columns zero t = refl
    columns (suc r) t = ap (λ (a : ℕ). plus a (unfolded (four d (column_place_in w 0 + 4 * suc r))))
        (ap (λ b. pick b (summed d (column_place_in w 0) (suc r)) (four d (place_in w r 0))) t)

-- ---- times from a row on
pub times-next : (d : Bytes) (w r n : ℕ) → r < n → times_from d w r (n - r) ≡ signed (stored_word_in d w r 0) ∷ times_from d w (suc r) (n - suc r)
unfolding times_from
times-next d w r n l = let e : n - r ≡ suc (n - suc r) = omega arith in ap (times_from d w r) e

pub times-over : (d : Bytes) (w r n : ℕ) → n ≤ r → times_from d w r (n - r) ≡ []
unfolding times_from
times-over d w r n l = let e : n - r ≡ 0 = omega arith in ap (times_from d w r) e

pub times-length : (d : Bytes) (w r n : ℕ) → length (times_from d w r n) ≡ n
unfolding times_from
times-length d w r zero = refl
times-length d w r (suc n) = ap suc (times-length d w (suc r) n)

-- ---- never_falls
-- none of the times that are left is earlier than the one before it, the first not earlier than `last`
unfoldable pub goes_on : ℕ → Log → Bool
goes_on last [] = true
goes_on last (x ∷ l) = leb last (since (2 ^ 31) x) && goes_on (since (2 ^ 31) x) l

falls-on : (d : Bytes) (w r n : ℕ) (z : ℤ) → nat_abs z ≤ 2 ^ 31 → never_falls (z ∷ times_from d w r n) ≡ goes_on (since (2 ^ 31) z) (times_from d w r n)
unfolding never_falls times_from goes_on
falls-on d w r zero z h = refl
falls-on d w r (suc n) z h =
    let y = signed (stored_word_in d w r 0) in
    let s = signed-small (stored_word_in d w r 0) in
    ap₂ ◌&&◌ (not-later (2 ^ 31) z y h s) (falls-on d w (suc r) n y s)

falls-from : (d : Bytes) (w r n : ℕ) → never_falls (times_from d w r n) ≡ goes_on 0 (times_from d w r n)
unfolding never_falls times_from goes_on
falls-from d w r zero = refl
falls-from d w r (suc n) =
    let y = signed (stored_word_in d w r 0) in
    falls-on d w (suc r) n y (signed-small (stored_word_in d w r 0)) ∙ ap (λ b. b && goes_on (since (2 ^ 31) y) (times_from d w (suc r) n)) (sym (le-leb 0 (since (2 ^ 31) y) (omega arith)))

pub record Falling (d : Bytes) (w n last x r : ℕ) : Type 0 where
  pub count : n ≡ rows_in w
  pub above : x ≡ above_word d w r
  pub left : never_falls (times_in d w) ≡ goes_on last (times_from d w r (n - r))

pub falling-first : (d : Bytes) (w : ℕ) {n : ℕ} → n ≡ rows_in w → Falling d w n 0 0 0
unfolding above_word
falling-first d w {n} e = record {
  count = e;
  above = refl;
  left = let z : rows_in w ≡ n - 0 = omega (arith, e) in falls-from d w 0 (rows_in w) ∙ ap (λ (k : ℕ). goes_on 0 (times_from d w 0 k)) z;
}

module _ {d : Bytes} {w n last x r : ℕ} (F : Falling d w n last x r) (l : r < n) {y t : ℕ} (ey : y ≡ word_below d w r x) (et : t ≡ since (2 ^ 31) (signed y)) where
  word-here : y ≡ stored_word_in d w r 0
  word-here = ey ∙ ap (word_below d w r) F.above ∙ below-is d w r

  time-here : t ≡ since (2 ^ 31) (signed (stored_word_in d w r 0))
  time-here = et ∙ ap (λ (n : ℕ). since (2 ^ 31) (signed n)) word-here

  left_here : never_falls (times_in d w) ≡ (leb last t && goes_on t (times_from d w (suc r) (n - suc r)))
  unfolding goes_on
  left_here = F.left ∙ ap (goes_on last) (times-next d w r n l)
      ∙ ap (λ (s : ℕ). leb last s && goes_on s (times_from d w (suc r) (n - suc r))) (sym time-here)

  pub falling-next : last ≤ t → Falling d w n t y (r + 1)
  unfolding above_word
  falling-next h = record {
    count = F.count;
    above = word-here ∙ ap (above_word d w) (sym (add-one r));
    left = left_here ∙ ap (λ b. b && goes_on t (times_from d w (suc r) (n - suc r))) (le-leb last t h)
        ∙ ap (λ (k : ℕ). goes_on t (times_from d w k (n - k))) (sym (add-one r));
  }

  pub falls-here : t < last → false ≡ never_falls (times_in d w)
  falls-here h = sym (left_here ∙ ap (λ b. b && goes_on t (times_from d w (suc r) (n - suc r))) (lt-leb last t h))

pub falls-never : {d : Bytes} {w n last x r : ℕ} → Falling d w n last x r → n ≤ r → true ≡ never_falls (times_in d w)
unfolding goes_on
falls-never {d} {w} {n} {last} {x} {r} F h = sym (F.left ∙ ap (goes_on last) (times-over d w r n h))

-- ---- is_log
module _ (d : Bytes) (w : ℕ) {c : ℕ} (ec : c ≡ columns_in w) where
  pub log-absent : c ≡ 0 → false ≡ is_log_in d w
  unfolding is_log_in
  log-absent z = rw (lt-leb 1 (columns_in w) (omega (arith, ec, z))) refl

  module _ (z : c ≡ 0 → ⊥) {k : ℕ} (ek : k ≡ collection_in w) where
    there : leb 1 (columns_in w) ≡ true
    there = le-leb 1 (columns_in w) (omega (arith, ec, z))

    pub log-other : (k ≡ 1 → ⊥) → false ≡ is_log_in d w
    unfolding is_log_in
    log-other h = rw (there, ne_eqb (collection_in w) 1 (λ e. h (ek ∙ e))) refl

    pub log-list : k ≡ 1 → {b : Bool} → b ≡ never_falls (times_in d w) → b ≡ is_log_in d w
    unfolding is_log_in
    log-list h e = rw (there, eq-eqb (collection_in w) 1 (sym ek ∙ h)) e
