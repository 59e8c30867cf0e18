-- One law for each way out of the functions that read bytes. Assumes nothing.
use Rattle.std.proofs.Common.{◌≡◌, ℕ, suc, ◌+◌, ◌-◌, ◌*◌, ◌/◌, ◌%◌, ◌^◌, ◌<◌, ◌≤◌, Bool, true, false, eqb, ltb, leb, List, length, get_or, take, drop, ℤ, pos, negsuc, ◌-ℤ◌, nat_abs, sym, refl, ap, ◌∙◌, subst, ap₂, le_trans, mul-le-mul_right, mul_comm, mul-le-mul_left, one-mul, zero-mul, mul-one, mul-add, add-one, arith, length-drop, get_or-drop, take_all, drop-drop, to_z-of_z, w64, SFits, to_z, of_z, ltb-false, ltb-true, le-ltb, lt-ltb, eq-eqb, ne_eqb, eqb-true, le-leb, leb-true, Option, Some, None, Ok, Err}
use borrow.Author.Tests.{lt-leb, eqb-false}
use Rattle.spec_calculus.specs.Lists.{pick}
use Rattle.spec_calculus.specs.Value.{bound_of}
use Rattle.base_signed.proofs.SignedWords.{up, mag-sub, by-test, no}
use Rattle.base_signed.proofs.SignedWords as Wo
use Rattle.spec_encoding.specs.Record.{Bytes, refused, got, require, two, four, signed, length_of, kind_of, content_of}
use Rattle.spec_encoding.specs.Columns.{plus, unfolded, summed}
use Rattle.spec_encoding.specs.Data.{is_kind, is_table, table_number, table_collection, table_columns, table_rows, bounds_at, fits, table_by, bounded}
use Rattle.spec_encoding.proofs.Folding.{unfold-even, unfold-odd}
use Rattle.spec_encoding.proofs.Data.{Fit, fit}
use Rattle.base_tables.specs.Description.{one_column, one_row, one_kind, one_position, kind_bit, description_of, columns_in, rows_in, kind_in, subset_in, full_in, position_in, present_in, subset_rows, kept_row, whole_in, stored_word_in, word_in, cell_in, bound_in, place_in, column_place_in, placed_in, Placed, PlacedPost, CellPost, BoundPost}
use Rattle.base_tables.specs.DataReader.{header_gives, header_at, TableRead, numbered_table, table_at}
use Rattle.base_tables.proofs.DataRecords.{passes, TableRecord, whole, whole_is, fit_is}
use Rattle.base_refusals.specs.declared.Refusal.TheVariants.{NotATable, TableOutOfRange, CellBeyondBound, TableNumberOutOfRange, TableNumberUsed}

pub few : (a b : ℕ) → a < 16 → b < 2048 → a * b < 32768
few a b p q =
    omega
    (arith, le_trans (mul-le-mul_left {m = b} {n = 2047} a (omega arith)) (mul-le-mul_right {m = a} {n = 15} 2047 (omega arith)))

-- signed_of
module _ {n : ℕ} (p : n < 2 ^ 32) where
  turned : to_z w64 ((n + 2147483648) % 4294967296) ≡ pos ((n + 2147483648) % 4294967296)
  turned = up {x = (n + 2147483648) % 4294967296} (omega arith)

  pub signed-ok : SFits w64 (to_z w64 ((n + 2147483648) % 4294967296) -ℤ pos 2147483648)
  signed-ok = rw turned (Wo.fits (omega (arith, mag-sub (pos ((n + 2147483648) % 4294967296)) (pos 2147483648))))

  low : n < 2147483648 → pos ((n + 2147483648) % 4294967296) -ℤ pos 2147483648 ≡ signed n
  unfolding signed
  low q = rw (le-ltb ((n + 2147483648) % 4294967296) 2147483648 (omega arith), lt-ltb n 2147483648 q, signed) (ap pos (omega arith))

  high : 2147483648 ≤ n → pos ((n + 2147483648) % 4294967296) -ℤ pos 2147483648 ≡ signed n
  unfolding signed
  high q = rw (lt-ltb ((n + 2147483648) % 4294967296) 2147483648 (omega arith), le-ltb n 2147483648 q, signed) (ap negsuc (omega arith))

  small : nat_abs (signed n) ≤ 2 ^ 31
  unfolding signed
  small = by-test (ltb n 2147483648) (λ y. rw (y, signed) (omega (arith, ltb-true n 2147483648 y))) (λ y. rw (y, signed) (omega (arith, ltb-false n 2147483648 y)))

  signed-turned : to_z w64 (of_z w64 (to_z w64 ((n + 2147483648) % 4294967296) -ℤ pos 2147483648)) ≡ signed n
  signed-turned =
      to_z-of_z signed-ok
      ∙ ap (λ (z : ℤ). z -ℤ pos 2147483648) turned
      ∙ by-test (ltb n 2147483648) (λ y. low (ltb-true n 2147483648 y)) (λ y. high (ltb-false n 2147483648 y))

  pub signed_is : (to_z w64 (of_z w64 (to_z w64 ((n + 2147483648) % 4294967296) -ℤ pos 2147483648)) ≡ signed n) × (nat_abs (to_z w64 (of_z w64 (to_z w64 ((n + 2147483648) % 4294967296) -ℤ pos 2147483648))) ≤ 2 ^ 31)
  signed_is = rw signed-turned (refl, small)

-- is_table, read_header
pub kind-rows : {k : ℕ} → k ≡ 20 → true ≡ is_kind k
kind-rows {k} e = rw (eq-eqb k 20 e) refl

pub kind-columns : {k : ℕ} → (k ≡ 20 → ⊥) → eqb k 23 ≡ is_kind k
kind-columns {k} e = rw (ne_eqb k 20 e) refl

pub header-bad : (s : Bytes) → (TableRecord s → ⊥) → header_gives None ≡ header_at s
unfolding header_gives header_at require
header-bad s h = rw (passes (is_table s) (whole s) h)

pub header-good : (s : Bytes) {n : ℕ} → n ≡ length_of s → TableRecord s → header_gives (Some n) ≡ header_at s
unfolding header_gives header_at require
header-good s e w = rw (whole_is s w, e)

-- well_formed
pub unfit : (c : Bytes) → (Fit c → ⊥) → false ≡ fits c
unfit c h = sym (passes (fits c) (fit c) h)

pub fits-length : (c : Bytes) {a b n k : ℕ} → a ≡ table_collection c → b ≡ table_columns c → n ≡ table_rows c → k ≡ b * n →
    (1 ≤ a) × (a ≤ 3) × (1 ≤ b) × (b ≤ 8) × (n ≤ 1024) → eqb (length c) (bounds_at + 4 * b + 4 * k) ≡ fits c
fits-length c {a} {b} {n} {k} ea eb en ek ranges = go (eqb (length c) (bounds_at + 4 * b + 4 * k)) refl
  where
    product : k ≡ table_columns c * table_rows c
    product = rw (ek, eb, en)

    go : (t : Bool) → eqb (length c) (bounds_at + 4 * b + 4 * k) ≡ t → t ≡ fits c
    go true e = sym (fit_is c (omega (arith, product, eb, eqb-true (length c) (bounds_at + 4 * b + 4 * k) e)))
    go false e = unfit c (λ f. eqb-false (length c) (bounds_at + 4 * b + 4 * k) e (omega (arith, product, eb, f.long)))

-- below, sum_down
even-difference : (n x : ℕ) → x < 4294967296 → (x + 0) % 4294967296 ≡ n / 2 → x ≡ n / 2
even-difference n x q g = omega arith

odd-difference : (n x : ℕ) → n < 4294967296 → x < 4294967296 → n % 2 ≡ 1 → (x + n) % 4294967296 ≡ n / 2 → x ≡ 4294967295 - n / 2
odd-difference n x p q o g = omega arith

unfold-is : {n h x : ℕ} → n < 2 ^ 32 → h ≡ n / 2 → x < 2 ^ 32 → (x + n % 2 * n) % 2 ^ 32 ≡ h → x ≡ unfolded n
unfold-is {n} {h} {x} p e q g = by-test (eqb (n % 2) 0)
    (λ t. let z = eqb-true (n % 2) 0 t in
    let y : n % 2 * n ≡ 0 = ap (λ (k : ℕ). k * n) z ∙ zero-mul n in
    even-difference n x q (ap (λ (k : ℕ). (x + k) % 4294967296) (sym y) ∙ g ∙ e) ∙ sym (unfold-even n z))
    (λ t. let z = eqb-false (n % 2) 0 t in
    let o : n % 2 ≡ 1 = omega (arith, z) in
    let y : n % 2 * n ≡ n = ap (λ (k : ℕ). k * n) o ∙ one-mul n in
    odd-difference n x p q o (ap (λ (k : ℕ). (x + k) % 4294967296) (sym y) ∙ g ∙ e) ∙ sym (unfold-odd n z))

pub below-is : (a n x : ℕ) {r : ℕ} → n < 2 ^ 32 → x < 2 ^ 32 → (x + n % 2 * n) % 2 ^ 32 ≡ n / 2 → r ≡ (a + x) % 2 ^ 32 → r ≡ plus a (unfolded n)
below-is a n x p q g h = h ∙ ap (plus a) (unfold-is p refl q g)

pub summed-next : (s : Bytes) (p r : ℕ) {x y n : ℕ} → x ≡ summed s p r → n ≡ four s (p + 4 * r) → y ≡ plus x (unfolded n) → y ≡ summed s p (r + 1)
unfolding summed
summed-next s p r {x} {y} {n} h e g = g ∙ ap₂ (λ a b. plus a (unfolded b)) h e ∙ ap (summed s p) (sym (add-one r))

pub summed-first : (s : Bytes) (p : ℕ) → 0 ≡ summed s p 0
unfolding summed
summed-first s p = refl

pub summed-last : (s : Bytes) (p : ℕ) {r n x : ℕ} → r ≤ n → n ≤ r → x ≡ summed s p r → x ≡ summed s p n
summed-last s p {r} {n} h g e = let q : r ≡ n = omega arith in e ∙ ap (summed s p) q

pub odd_part : (n : ℕ) → n % 2 * n ≤ n
odd_part n = omega (arith, mul-le-mul_right {m = n % 2} {n = 1} n (omega arith), one-mul n)

pub rows_few : (w : ℕ) → rows_in w < 2048
rows_few w = omega arith

-- column_place
pub column-place-is : (w c : ℕ) {r n : ℕ} → w < 2 ^ 64 → r ≡ rows_in w → (n ≡ c * r) × (n < 32768) → (w / one_position + 4 * n ≡ column_place_in w c) × (w / one_position + 4 * n < 2 ^ 60)
column-place-is w c {r} {n} f er en = (ap (λ (k : ℕ). w / one_position + 4 * k) (en.0 ∙ ap (λ (k : ℕ). c * k) er ∙ mul_comm c (rows_in w)), omega (arith, f, en.1))

-- kind_bit, describe
pub bit-columns : {k : ℕ} → k ≡ 23 → (1 ≡ kind_bit k) × (1 ≤ 1)
unfolding kind_bit pick
bit-columns {k} e = (rw (eq-eqb k 23 e), omega arith)

pub bit-rows : {k : ℕ} → (k ≡ 23 → ⊥) → (0 ≡ kind_bit k) × (0 ≤ 1)
unfolding kind_bit pick
bit-rows {k} e = (rw (ne_eqb k 23 e), omega arith)

pub describes : (k : ℕ) (c : Bytes) (p : ℕ) {a b n z b' : ℕ} → a ≡ table_collection c → b ≡ table_columns c → n ≡ table_rows c → z ≡ kind_bit k → b' ≡ table_columns c →
    a + one_column * b + one_row * n + one_kind * z + one_position * (p + 4 * b') ≡ description_of k c p
unfolding description_of
describes k c p ea eb en ez e = rw (ea, eb, en, ez, e)

-- cell
module _ {d : Bytes} {w r c : ℕ} where
  cell-is : {z : ℤ} → z ≡ cell_in d w r c → nat_abs z ≤ 2 ^ 31 → CellPost d w r c z
  cell-is e p = record { is = e; small = p; within = λ T k D. subst (λ (x : ℤ). nat_abs x ≤ bound_of T k c) (sym e) (D.within r c) }

  pub cell_below : {n : ℕ} → n ≡ rows_in w → n ≤ r → CellPost d w r c (pos 0)
  unfolding cell_in pick
  cell_below e p = cell-is (rw (le-ltb r (rows_in w) (rw e at p))) (omega arith)

  module _ {n m : ℕ} (en : n ≡ rows_in w) (p : r < n) (em : m ≡ columns_in w) where
    pub cell-beside : m ≤ c → CellPost d w r c (pos 0)
    unfolding cell_in pick
    cell-beside q = cell-is (rw (lt-ltb r (rows_in w) (rw en at p), le-ltb c (columns_in w) (rw em at q))) (omega arith)

    pub cell-inside : c < m → {x : ℕ} {z : ℤ} → (z ≡ signed x) × (nat_abs z ≤ 2 ^ 31) → x ≡ word_in d w r c → CellPost d w r c z
    unfolding cell_in pick
    cell-inside q h e = cell-is (rw (lt-ltb r (rows_in w) (rw en at p), lt-ltb c (columns_in w) (rw em at q)) (h.0 ∙ ap signed e)) h.1

-- stored_word
module _ (d : Bytes) (w r c : ℕ) {t : Bool} (e : t ≡ eqb (kind_in w) 1) where
  pub stored-summed : t ≡ true → {k x : ℕ} → k ≡ column_place_in w c → x ≡ summed d k (r + 1) → x ≡ stored_word_in d w r c
  unfolding stored_word_in pick
  stored-summed y ek ex = ex ∙ ap₂ (summed d) ek (add-one r) ∙ sym (ap (λ b. pick b (summed d (column_place_in w c) (suc r)) (four d (place_in w r c))) (sym e ∙ y))

  pub stored_row : t ≡ false → {k x : ℕ} → k ≡ place_in w r c → x ≡ four d k → x ≡ stored_word_in d w r c
  unfolding stored_word_in pick
  stored_row y ek ex = ex ∙ ap (four d) ek ∙ sym (ap (λ b. pick b (summed d (column_place_in w c) (suc r)) (four d (place_in w r c))) (sym e ∙ y))

-- bound
module _ {d : Bytes} {w c : ℕ} where
  bound_is : {b : ℕ} → b ≡ bound_in d w c → b < 2 ^ 32 → BoundPost d w c b
  bound_is e p = record { is = e; low = p; declared = λ T k D. e ∙ D.bound c }

  module _ {m : ℕ} (em : m ≡ columns_in w) where
    pub bound-beside : m ≤ c → BoundPost d w c 0
    unfolding bound_in pick
    bound-beside q = bound_is (rw (le-ltb c (columns_in w) (rw em at q))) (omega arith)

    pub bound-short : c < m → position_in w < 4 * m → BoundPost d w c 0
    unfolding bound_in pick
    bound-short q p = bound_is (rw (lt-ltb c (columns_in w) (rw em at q), lt-leb (4 * columns_in w) (position_in w) (rw em at p))) (omega arith)

    pub bound-inside : c < m → 4 * m ≤ position_in w → {b : ℕ} → (b ≡ four d (position_in w - 4 * m + 4 * c)) × (b < 2 ^ 32) → BoundPost d w c b
    unfolding bound_in pick
    bound-inside q p h =
        bound_is (rw (lt-ltb c (columns_in w) (rw em at q), le-leb (4 * columns_in w) (position_in w) (rw em at p)) (h.0 ∙ ap (λ (x : ℕ). four d (position_in w - 4 * x + 4 * c)) em)) h.1

-- cell_word
module _ (d : Bytes) (w r c : ℕ) {n x : ℕ} (e : n ≡ subset_in w) where
  pub word-full : n ≡ 0 → (x ≡ stored_word_in d w r c) × (x < 2 ^ 32) → (x ≡ word_in d w r c) × (x < 2 ^ 32)
  unfolding word_in pick
  word-full z h = (h.0 ∙ sym (ap (λ b. pick b (stored_word_in d w r c) (stored_word_in d (whole_in w) (kept_row subset_rows (subset_in w) r) c)) (eq-eqb (subset_in w) 0 (sym e ∙ z))), h.1)

  pub word_kept : (n ≡ 0 → ⊥) → {v q : ℕ} → v ≡ whole_in w → q ≡ kept_row subset_rows n r → (x ≡ stored_word_in d v q c) × (x < 2 ^ 32) → (x ≡ word_in d w r c) × (x < 2 ^ 32)
  unfolding word_in pick
  word_kept z ev eq h = (
    h.0 ∙ ap₂ (λ (y p : ℕ). stored_word_in d y p c) ev (eq ∙ ap (λ (k : ℕ). kept_row subset_rows k r) e)
        ∙ sym (ap (λ b. pick b (stored_word_in d w r c) (stored_word_in d (whole_in w) (kept_row subset_rows (subset_in w) r) c)) (ne_eqb (subset_in w) 0 (λ y. z (e ∙ y)))),
    h.1,
  )

-- placed
pub row_within : {m r n c : ℕ} → r < n → c < m → m * r + c + 1 ≤ m * n
row_within {m} {r} {n} {c} p q = omega (arith, mul-le-mul_left {m = r + 1} {n = n} m (omega arith), mul-add m r 1, mul-one m)

four_low : (d : Bytes) → ((i : ℕ) → get_or d i 0 < 256) → (p : ℕ) → four d p < 2 ^ 32
four_low d B p = omega (arith, B p, B (p + 1), B (p + 2), B (p + 2 + 1))

-- what is stored for row r in column c of a table by columns, too
column-within : {m r n c : ℕ} → r < n → c < m → n * c + r + 1 ≤ m * n
column-within {m} {r} {n} {c} p q = omega (arith, row_within {m = n} {r = c} {n = m} {c = r} q p, mul_comm m n)

stored_low : (d : Bytes) → ((i : ℕ) → get_or d i 0 < 256) → (w r c : ℕ) → stored_word_in d w r c < 2 ^ 32
unfolding stored_word_in pick summed
stored_low d B w r c = by-test (eqb (kind_in w) 1) (λ t. rw t (omega arith)) (λ t. rw t (four_low d B (place_in w r c)))

pub stored-small : (d : Bytes) (w r c : ℕ) {x : ℕ} → ((i : ℕ) → get_or d i 0 < 256) → x ≡ stored_word_in d w r c → (x ≡ stored_word_in d w r c) × (x < 2 ^ 32)
stored-small d w r c B e = (e, omega (arith, e, stored_low d B w r c))

word_low : (d : Bytes) → ((i : ℕ) → get_or d i 0 < 256) → (w r c : ℕ) → word_in d w r c < 2 ^ 32
unfolding word_in pick
word_low d B w r c = by-test (full_in w) (λ t. rw t (stored_low d B w r c)) (λ t. rw t (stored_low d B (whole_in w) (kept_row subset_rows (subset_in w) r) c))

placed-is : {d : Bytes} {w n k : ℕ} → ((i : ℕ) → get_or d i 0 < 256) → subset_in w ≡ 0 → n ≡ rows_in w → k ≡ place_in w n 0 → k ≤ length d → Placed d w
unfolding cell_in pick
placed-is {d} {w} {n} {k} B z en ek l =
    record {
      full = eq-eqb (subset_in w) 0 z;
      by_rows = λ {r} {c} p q. omega (arith, row_within {m = columns_in w} {r = r} {n = rows_in w} {c = c} p q, ap (λ (x : ℕ). place_in w x 0) en);
      by_columns = λ {r} {c} p q. omega (arith, column-within {m = columns_in w} {r = r} {n = rows_in w} {c = c} p q, ap (λ (x : ℕ). place_in w x 0) en);
      low = λ {r} {c} p q. word_low d B w r c;
      cell = λ {r} {c} p q. rw (lt-ltb r (rows_in w) p, lt-ltb c (columns_in w) q) refl;
    }

pub placed-full : {d : Bytes} {w n k : ℕ} → ((i : ℕ) → get_or d i 0 < 256) → subset_in w ≡ 0 → n ≡ rows_in w → k ≡ place_in w n 0 → PlacedPost d w (leb k (length d))
unfolding placed_in pick
placed-full {w = w} B z en ek = record {
  is = rw (eq-eqb (subset_in w) 0 z) (rw (ek, en));
  cells = λ e. placed-is B z en ek (leb-true _ _ e);
}

pub placed-other : {d : Bytes} {w : ℕ} → (subset_in w ≡ 0 → ⊥) → PlacedPost d w false
unfolding placed_in pick
placed-other {w = w} z = record { is = rw (ne_eqb (subset_in w) 0 z); cells = λ e. no (sym e) }

-- what a header's answer says of the bytes
pub found : (l : Bytes) {h : Option ℕ} {n : ℕ} → header_gives h ≡ header_at l → h ≡ Some n → (is_table l ≡ true) × (length_of l ≡ n)
unfolding header_gives header_at require
found l {n = n} e q = go (is_table l) (sym e ∙ ap header_gives q)
  where
    go : (t : Bool) → require 11 t (got (length_of l)) ≡ got n → (t ≡ true) × (length_of l ≡ n)
    go true h = (refl, cc)
    go false h = no (cc)

pub not_found : (l : Bytes) {h : Option ℕ} → header_gives h ≡ header_at l → h ≡ None → is_table l ≡ false
unfolding header_gives header_at require
not_found l e q = go (is_table l) (sym e ∙ ap header_gives q)
  where
    go : (t : Bool) → require 11 t (got (length_of l)) ≡ refused 11 → t ≡ false
    go true h = no (cc)
    go false h = refl

-- numbered_table
module _ (K : ℕ) (c : Bytes) (s : List ℕ) (p e : ℕ) {k : ℕ} (n : k ≡ table_number c) where
  pub number-high : 8 ≤ k → Err TableNumberOutOfRange ≡ numbered_table K c s p e
  unfolding numbered_table pick
  number-high h = rw (lt-leb (table_number c) 7 (rw n at h))

  module _ (l : k < 8) {u : Bool} (m : u ≡ present_in s k) where
    low-number : leb (table_number c) 7 ≡ true
    low-number = le-leb (table_number c) 7 (omega (arith, n, l))

    pub number-used : u ≡ true → Err TableNumberUsed ≡ numbered_table K c s p e
    unfolding numbered_table pick
    number-used y = rw (low-number, ← n, ← m, y)

    module _ (y : u ≡ false) {f : Bool} (g : f ≡ bounded (table_by K c)) where
      pub number-beyond : f ≡ false → Err CellBeyondBound ≡ numbered_table K c s p e
      unfolding numbered_table pick
      number-beyond z = rw (low-number, ← n, ← m, y, ← g, z)

      pub number_is : f ≡ true → {w : ℕ} → w ≡ description_of K c p → Ok (k, w, e) ≡ numbered_table K c s p e
      unfolding numbered_table pick
      number_is z v = rw (low-number, ← n, ← m, y, ← g, z, v)

-- table_at
-- `&data[p..]`
part-from : (d : Bytes) (p : ℕ) → take (length d - p) (drop p d) ≡ drop p d
part-from d p = take_all (length d - p) (drop p d) (rw length-drop (omega arith))

-- the kind of the record that begins at p
kind-at : (d : Bytes) (p : ℕ) → kind_of (drop p d) ≡ two d (p + 2)
kind-at d p = ap₂ (λ a b. a + 256 * b) (get_or-drop p d 2 0) (get_or-drop p d 3 0 ∙ ap (λ (i : ℕ). get_or d i 0) (omega arith))

module _ (d : Bytes) (s : List ℕ) (p : ℕ) {h : Option ℕ} (e : header_gives h ≡ header_at (take (length d - p) (drop p d))) where
  pub table-bad : h ≡ None → Err NotATable ≡ table_at d s p
  unfolding table_at pick
  table-bad q = rw (not_found (drop p d) (e ∙ ap header_at (part-from d p)) q)

  module _ {n : ℕ} (q : h ≡ Some n) where
    good : is_table (drop p d) ≡ true
    good = (found (drop p d) (e ∙ ap header_at (part-from d p)) q).0

    long : length_of (drop p d) ≡ n
    long = (found (drop p d) (e ∙ ap header_at (part-from d p)) q).1

    pub table-within : p ≤ length d → p + 4 + n ≤ length d
    table-within l = omega (arith, (whole (drop p d) good).within, long, length-drop p d)

    -- `&data[from..next]`
    content : take (p + 4 + n - (p + 4)) (drop (p + 4) d) ≡ content_of (drop p d)
    content =
        let k : p + 4 + n - (p + 4) ≡ n = omega arith in
        rw (k, long) (ap (take n) (sym (drop-drop 4 p d)))

    module _ {f : Bool} (g : f ≡ fits (take (p + 4 + n - (p + 4)) (drop (p + 4) d))) where
      pub table-unfit : f ≡ false → Err TableOutOfRange ≡ table_at d s p
      unfolding table_at pick
      table-unfit z = rw (good, ← content, ← g, z)

      pub table_is : f ≡ true → {K : ℕ} {r : TableRead} → K ≡ two d (p + 2) →
          r ≡ numbered_table K (take (p + 4 + n - (p + 4)) (drop (p + 4) d)) s (p + 4 + bounds_at) (p + 4 + n) → r ≡ table_at d s p
      unfolding table_at pick
      table_is z u v = rw (good, ← content, ← g, z, kind-at d p, ← u, v, long)
