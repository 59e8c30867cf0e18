-- A subset of a table's rows: which rows it has, and that the word with its bits describes them.
use Rattle.std.proofs.Common.{◌≡◌, ℕ, zero, suc, ◌+◌, ◌-◌, ◌*◌, ◌/◌, ◌%◌, ◌^◌, ◌<◌, ◌≤◌, true, false, eqb, ltb, List, [], ◌∷◌, length, get_or, ℤ, pos, sym, refl, ap, ◌∙◌, ap₂, arith, ltb-false, ltb-true, le-ltb, lt-ltb, eq-eqb, ne_eqb, eqb-true}
use native.Mathlib.Nat.{pow-succ', pow-le-pow_right}
use borrow.Author.Tests.{eqb-false}
use Rattle.spec_calculus.specs.Lists.{pick}
use Rattle.spec_calculus.specs.Value.{Value, Values, vcons, num, rec, junk, as_int, field_of, Tables, kind_of, columns_of, bound_of, rows_of}
use Rattle.spec_calculus.proofs.Lists.{All}
use Rattle.spec_encoding.specs.Record.{Bytes, signed}
use Rattle.base_signed.proofs.SignedWords.{by-test}
use Rattle.base_tables.specs.Description.{one_row, one_subset, one_position, collection_in, columns_in, rows_in, subset_in, position_in, subset_rows, ones_in, kept_row, kept, whole_in, without_in, stored_word_in, word_in, cell_in, cells_in, bound_in, collection_number, Describes}

-- ---- how many are left out
pub ones-next : (i x n : ℕ) {t : ℕ} → i < 12 → n + ones_in (12 - i) x ≡ t → n + x % 2 + ones_in (12 - (i + 1)) (x / 2) ≡ t
unfolding ones_in
ones-next i x n p h =
    let e : 12 - i ≡ suc (12 - (i + 1)) = omega arith in
    omega (arith, h, ap (λ (k : ℕ). ones_in k x) e)

pub ones-last : (i x n : ℕ) {t : ℕ} → i ≤ 12 → 12 ≤ i → n + ones_in (12 - i) x ≡ t → n ≡ t
unfolding ones_in
ones-last i x n p q h =
    let e : 12 - i ≡ 0 = omega arith in
    omega (arith, h, ap (λ (k : ℕ). ones_in k x) e)

pub ones-most : (n m : ℕ) → ones_in n m ≤ m
unfolding ones_in
ones-most zero m = omega arith
ones-most (suc n) m = omega (arith, ones-most n (m / 2))

ones_none : (n : ℕ) {m : ℕ} → m ≡ 0 → ones_in n m ≡ 0
ones_none n {m} e = omega (arith, ones-most n m, e)

-- ---- which rows are not
pub kept-stop : (q x b : ℕ) {t : ℕ} → q < 12 → b < 1 - x % 2 → q + kept_row (12 - q) x b ≡ t → q ≡ t
unfolding kept_row pick
kept-stop q x b p l h =
    let e : 12 - q ≡ suc (12 - (q + 1)) = omega arith in
    let z : kept_row (12 - q) x b ≡ 0 = ap (λ (k : ℕ). kept_row k x b) e ∙ ap (λ c. pick c 0 (suc (kept_row (12 - (q + 1)) (x / 2) (b - (1 - x % 2))))) (lt-ltb b (1 - x % 2) l) in
    omega (arith, h, z)

pub kept_next : (q x b : ℕ) {t : ℕ} → q < 12 → 1 - x % 2 ≤ b → q + kept_row (12 - q) x b ≡ t → q + 1 + kept_row (12 - (q + 1)) (x / 2) (b - (1 - x % 2)) ≡ t
unfolding kept_row pick
kept_next q x b p l h =
    let e : 12 - q ≡ suc (12 - (q + 1)) = omega arith in
    let z : kept_row (12 - q) x b ≡ suc (kept_row (12 - (q + 1)) (x / 2) (b - (1 - x % 2))) = ap (λ (k : ℕ). kept_row k x b) e ∙ ap (λ c. pick c 0 (suc (kept_row (12 - (q + 1)) (x / 2) (b - (1 - x % 2))))) (le-ltb b (1 - x % 2) l) in
    omega (arith, h, z)

pub kept-last : (q x b : ℕ) {t : ℕ} → q ≤ 12 → 12 ≤ q → q + kept_row (12 - q) x b ≡ t → q ≡ t
unfolding kept_row
kept-last q x b p l h =
    let e : 12 - q ≡ 0 = omega arith in
    omega (arith, h, ap (λ (k : ℕ). kept_row k x b) e)

-- ---- the words
-- whole
pub whole_is : (w : ℕ) {m n : ℕ} → m ≡ subset_in w → n ≡ ones_in subset_rows m → w - one_subset * m + one_row * n ≡ whole_in w
unfolding whole_in
whole_is w e h = rw (h, e) refl

-- without
pub without_is : (w m : ℕ) {n : ℕ} → n ≡ ones_in subset_rows m → w + one_subset * m - one_row * n ≡ without_in w m
unfolding without_in
without_is w m h = rw h refl

-- the fields above the rows
module _ (x n q : ℕ) (l : x < one_subset) (p : n < 4096) where
  upper-subset : subset_in (x + one_subset * n + one_position * q) ≡ n
  upper-subset = omega arith

  upper-position : position_in (x + one_subset * n + one_position * q) ≡ q
  upper-position = omega arith

-- a word that leaves none out, and its rows at least as many as m leaves out
module _ (w m : ℕ) (f : subset_in w ≡ 0) (l : m < 4096) (p : ones_in subset_rows m ≤ rows_in w) where
  abbrev v : ℕ
  v = without_in w m

  few : ones_in subset_rows m ≤ m
  few = ones-most subset_rows m

  -- the fields below the subset, rows taken off
  abbrev lower : ℕ
  lower = w % one_subset - one_row * ones_in subset_rows m

  parted : w ≡ w % one_subset + one_position * position_in w
  parted = omega (arith, f)

  fits_below : one_row * ones_in subset_rows m ≤ w % one_subset
  fits_below = omega (arith, p)

  packed : v ≡ lower + one_subset * m + one_position * position_in w
  unfolding without_in
  packed = omega (arith, parted, fits_below)

  low : lower < one_subset
  low = omega arith

  pub collection-kept : collection_in v ≡ collection_in w
  unfolding without_in
  collection-kept = omega (arith, f, l, p, few)

  pub columns-kept : columns_in v ≡ columns_in w
  unfolding without_in
  columns-kept = omega (arith, f, l, p, few)

  pub rows-kept : rows_in v + ones_in subset_rows m ≡ rows_in w
  unfolding without_in
  rows-kept = omega (arith, f, l, p, few)

  pub subset-is : subset_in v ≡ m
  subset-is = ap subset_in packed ∙ upper-subset lower m (position_in w) low l

  pub position-kept : position_in v ≡ position_in w
  position-kept = ap position_in packed ∙ upper-position lower m (position_in w) low l

  pub whole_back : whole_in v ≡ w
  unfolding whole_in
  whole_back = rw subset-is (omega (arith, packed, parted, fits_below))

-- ---- the rows of a list that m does not leave out
half-low : (m n : ℕ) → m < 2 ^ suc n → m / 2 < 2 ^ n
half-low m n l = omega (arith, l, pow-succ' 2 n)

pub kept-length : {A : Type 0} (n m : ℕ) (l : List A) → length l ≤ n → m < 2 ^ length l → length (kept m l) + ones_in n m ≡ length l
unfolding kept ones_in pick
kept-length n m [] p q = omega (arith, ones_none n {m = m} (omega (arith, q)))
kept-length zero m (a ∷ l) p q = absurd (omega arith)
kept-length (suc n) m (a ∷ l) p q = by-test (eqb (m % 2) 0)
    (λ t. rw t (omega (arith, eqb-true (m % 2) 0 t, kept-length n (m / 2) l (omega arith) (half-low m (length l) q))))
    (λ t. rw t (omega (arith, eqb-false (m % 2) 0 t, kept-length n (m / 2) l (omega arith) (half-low m (length l) q))))

kept-with : {A : Type 0} (m : ℕ) (b : A) (l : List A) → eqb (m % 2) 0 ≡ true → kept m (b ∷ l) ≡ b ∷ kept (m / 2) l
unfolding kept pick
kept-with m b l t = rw t

kept-without : {A : Type 0} (m : ℕ) (b : A) (l : List A) → eqb (m % 2) 0 ≡ false → kept m (b ∷ l) ≡ kept (m / 2) l
unfolding kept pick
kept-without m b l t = rw t

kept_here : (n m r : ℕ) → r < 1 - m % 2 → kept_row (suc n) m r ≡ 0
unfolding kept_row pick
kept_here n m r l = rw (lt-ltb r (1 - m % 2) l)

kept-behind : (n m r : ℕ) {q : ℕ} → 1 - m % 2 ≤ r → q ≡ r - (1 - m % 2) → kept_row (suc n) m r ≡ suc (kept_row n (m / 2) q)
unfolding kept_row pick
kept-behind n m r l e = rw (le-ltb r (1 - m % 2) l, e)

-- row r of them, of at most n
pub record KeptAt {A : Type 0} (a : A) (n m : ℕ) (l : List A) (r : ℕ) : Type 0 where
  pub is : get_or (kept m l) r a ≡ get_or l (kept_row n m r) a
  pub inside : kept_row n m r < length l

kept-later : {A : Type 0} {a : A} {n m r q : ℕ} (b : A) (l : List A) → get_or (kept m (b ∷ l)) r a ≡ get_or (kept (m / 2) l) q a → kept_row (suc n) m r ≡ suc (kept_row n (m / 2) q) → KeptAt a n (m / 2) l q → KeptAt a (suc n) m (b ∷ l) r
kept-later {a = a} b l e h K = record {
  is = e ∙ K.is ∙ ap (λ (i : ℕ). get_or (b ∷ l) i a) (sym h);
  inside = omega (arith, h, K.inside);
}

pub kept_at : {A : Type 0} (a : A) (n m : ℕ) (l : List A) (r : ℕ) → length l ≤ n → r < length (kept m l) → KeptAt a n m l r
unfolding kept
kept_at a n m [] r p = λ q. absurd (omega arith)
kept_at a zero m (b ∷ l) r p = λ q. absurd (omega arith)
kept_at {A} a (suc n) m (b ∷ l) r p = by-test (eqb (m % 2) 0)
    (λ t. let z = eqb-true (m % 2) 0 t in rw (kept-with m b l t) (even z t (λ q h. kept_at a n (m / 2) l q (omega arith) h) r))
    (λ t. let z = eqb-false (m % 2) 0 t in rw (kept-without m b l t) (odd z t (λ q h. kept_at a n (m / 2) l q (omega arith) h)))
  where
    Rest : Type 0
    Rest = (q : ℕ) → q < length (kept (m / 2) l) → KeptAt a n (m / 2) l q

    even : m % 2 ≡ 0 → eqb (m % 2) 0 ≡ true → Rest → (r : ℕ) → r < suc (length (kept (m / 2) l)) → KeptAt a (suc n) m (b ∷ l) r
    even z t I zero q = record {
      is = ap (λ (x : List A). get_or x 0 a) (kept-with m b l t) ∙ ap (λ (i : ℕ). get_or (b ∷ l) i a) (sym (kept_here n m 0 (omega (arith, z))));
      inside = omega (arith, kept_here n m 0 (omega (arith, z)));
    }
    even z t I (suc r) q = kept-later b l (ap (λ (x : List A). get_or x (suc r) a) (kept-with m b l t)) (kept-behind n m (suc r) {q = r} (omega (arith, z)) (omega (arith, z)))
        (I r (omega arith))

    odd : (m % 2 ≡ 0 → ⊥) → eqb (m % 2) 0 ≡ false → Rest → r < length (kept (m / 2) l) → KeptAt a (suc n) m (b ∷ l) r
    odd z t I q = kept-later b l (ap (λ (x : List A). get_or x r a) (kept-without m b l t)) (kept-behind n m r {q = r} (omega (arith, z)) (omega (arith, z)))
        (I r q)

-- what holds of all rows holds of those
pub kept-each : {A : Type 0} (P : A → Type 0) (m : ℕ) (l : List A) → All P l → All P (kept m l)
unfolding kept pick
kept-each P m [] h = tt
kept-each P m (a ∷ l) h = by-test (eqb (m % 2) 0) (λ t. rw t (h.0, kept-each P (m / 2) l h.1)) (λ t. rw t (kept-each P (m / 2) l h.1))

-- where none is left out
kept-all : (n r : ℕ) → r < n → kept_row n 0 r ≡ r
kept-all zero r p = absurd (omega arith)
kept-all (suc n) zero p = kept_here n 0 0 (omega arith)
kept-all (suc n) (suc r) p = kept-behind n 0 (suc r) {q = r} (omega arith) (omega arith) ∙ ap suc (kept-all n r (omega arith))

-- ---- what the word describes
module _ {d : Bytes} {T : Tables} {k w : ℕ} (D : Describes d T k w) (f : subset_in w ≡ 0) (few : length (rows_of T k) ≤ subset_rows) (m : ℕ) (l : m < 2 ^ length (rows_of T k)) where
  abbrev rows : List Value
  rows = rows_of T k

  abbrev u : ℕ
  u = without_in w m

  counted : length (kept m rows) + ones_in subset_rows m ≡ length rows
  counted = kept-length subset_rows m rows few l

  bits : m < 4096
  bits = omega (arith, l, pow-le-pow_right {n = 2} (omega arith) few)

  taken : ones_in subset_rows m ≤ rows_in w
  taken = omega (arith, counted, D.rows)

  pub height : rows_in u ≡ length (kept m rows)
  height = omega (arith, rows-kept w m f bits taken, counted, D.rows)

  few-kept : length (kept m rows) ≤ subset_rows
  few-kept = omega (arith, counted, few)

  word_same : (r c : ℕ) → r < length (kept m rows) → word_in d u r c ≡ word_in d w (kept_row subset_rows m r) c
  unfolding word_in pick
  word_same r c p = by-test (eqb m 0)
      (λ t. let z = eqb-true m 0 t in rw (eq-eqb (subset_in w) 0 f, eq-eqb (subset_in u) 0 (subset-is w m f bits taken ∙ z)) (ap₂ (λ (x y : ℕ). stored_word_in d x y c) (none z) (sym (ap (λ (x : ℕ). kept_row subset_rows x r) z ∙ kept-all subset_rows r (omega (arith, p, few-kept))))))
      (λ t. let n = eqb-false m 0 t in rw (eq-eqb (subset_in w) 0 f, ne_eqb (subset_in u) 0 (λ e. n (sym (subset-is w m f bits taken) ∙ e))) (ap₂ (λ (x y : ℕ). stored_word_in d x y c) (whole_back w m f bits taken) (ap (λ (x : ℕ). kept_row subset_rows x r) (subset-is w m f bits taken))))
    where
      none : m ≡ 0 → u ≡ w
      none z = unfold without_in in omega (arith, z, ones_none subset_rows {m = m} z)

  cell_same : (r c : ℕ) → r < length (kept m rows) → cell_in d u r c ≡ cell_in d w (kept_row subset_rows m r) c
  unfolding cell_in pick
  cell_same r c p =
      let K = kept_at junk subset_rows m rows r few p in
      rw (lt-ltb r (rows_in u) (omega (arith, height, p)), lt-ltb (kept_row subset_rows m r) (rows_in w) (omega (arith, D.rows, K.inside)), columns-kept w m f bits taken)
      (by-test (ltb c (columns_in w)) (λ t. rw t (ap signed (word_same r c p))) (λ t. rw t))

  cells_same : (r c n : ℕ) → r < length (kept m rows) → cells_in d u r c n ≡ cells_in d w (kept_row subset_rows m r) c n
  unfolding cells_in
  cells_same r c zero p = refl
  cells_same r c (suc n) p = ap₂ (λ (z : ℤ) (x : Values). vcons (num z) x) (cell_same r c p) (cells_same r (suc c) n p)

  cell-none : (r c : ℕ) → length (kept m rows) ≤ r → cell_in d u r c ≡ pos 0
  unfolding cell_in pick
  cell-none r c p = rw (le-ltb r (rows_in u) (omega (arith, height, p)))

  bound-kept : (c : ℕ) → bound_in d u c ≡ bound_in d w c
  unfolding bound_in
  bound-kept c = rw (columns-kept w m f bits taken, position-kept w m f bits taken) refl

  -- tables of which table k has those rows, and all else as T has it
  module _ (U : Tables) (kinds : kind_of U k ≡ kind_of T k) (widths : columns_of U k ≡ columns_of T k) (bounds : (c : ℕ) → bound_of U k c ≡ bound_of T k c) (are : rows_of U k ≡ kept m rows) where
    pub described-subset : Describes d U k u
    described-subset = record {
      collection = collection-kept w m f bits taken ∙ D.collection ∙ ap collection_number (sym kinds);
      columns = columns-kept w m f bits taken ∙ D.columns ∙ sym widths;
      most_columns = omega (arith, widths, D.most_columns);
      rows = height ∙ ap length (sym are);
      most_rows = omega (arith, ap length are, few-kept);
      row = λ r p. let q : r < length (kept m rows) = omega (arith, ap length are, p) in
          let K = kept_at junk subset_rows m rows r few q in
          ap (λ (l : List Value). get_or l r junk) are ∙ K.is ∙ D.row (kept_row subset_rows m r) K.inside
          ∙ ap rec (sym (cells_same r 0 (columns_of T k) q) ∙ ap (cells_in d u r 0) (sym widths));
      cell = λ r c p t. let q : r < length (kept m rows) = omega (arith, ap length are, p) in
          let K = kept_at junk subset_rows m rows r few q in
          cell_same r c q ∙ D.cell (kept_row subset_rows m r) c K.inside (omega (arith, widths, t)) ∙ ap (λ (v : Value). as_int (field_of c v)) (sym (ap (λ (l : List Value). get_or l r junk) are ∙ K.is));
      bound = λ c. bound-kept c ∙ D.bound c ∙ sym (bounds c);
      most_bound = λ c. omega (arith, bounds c, D.most_bound c);
      within = λ r c. by-test (ltb r (length (kept m rows)))
          (λ t. rw (cell_same r c (ltb-true r (length (kept m rows)) t), bounds c) (D.within (kept_row subset_rows m r) c))
          (λ t. rw (cell-none r c (ltb-false r (length (kept m rows)) t)) (omega arith));
    }
