-- A table's cells in the bytes of its record, and by its description. Assumes nothing.
use Rattle.std.proofs.Common.{◌≡◌, ℕ, zero, suc, ◌+◌, ◌-◌, ◌*◌, ◌^◌, ◌<◌, ◌≤◌, true, false, eqb, ltb, [], ◌∷◌, length, get_or, drop, pos, nat_abs, sym, refl, ap, ◌∙◌, ap₂, add-zero, add_assoc, mul_comm, arith, get_or-drop, get_or-take, drop-drop, ltb-false, ltb-true, le-ltb, lt-ltb, eq-eqb, ne_eqb, le-leb}
use lib.ListN.{get_or-eq_default}
use Rattle.spec_calculus.specs.Lists.{pick}
use Rattle.spec_calculus.specs.Value.{vcons, num, rec, Tables, no_table, columns_of, bound_of, rows_of}
use Rattle.spec_calculus.specs.Value as Value
use Rattle.spec_calculus.proofs.WellFormed.{all-at}
use Rattle.spec_encoding.specs.Record.{Bytes, four, signed, length_of, kind_of, content_of}
use Rattle.spec_encoding.specs.Columns.{summed}
use Rattle.spec_encoding.specs.Data.{collection_of, bounds_from, cells, table_collection, table_columns, table_rows, bounds_at, fits, table_of, cells_at, content_by_rows, content_by, table_by, bounded}
use Rattle.spec_encoding.proofs.Arrangement.{SameHead, by-head, by-fit}
use Rattle.spec_encoding.proofs.Columns.{summed_same, summed-cell, by-bound}
use Rattle.spec_encoding.proofs.Data.{rows-length, bounds-length, Fit, fit, table-read}
use Rattle.spec_encoding.proofs.ColumnBounds.{four_same, four-drop, row_at, content_cell, bound-read, cell-read, bounded-column}
use Rattle.base_signed.proofs.SignedWords.{by-test}
use Rattle.base_tables.specs.Description.{one_column, one_row, one_kind, one_position, kind_bit, description_of, collection_in, columns_in, rows_in, kind_in, subset_in, position_in, stored_word_in, word_in, cell_in, cells_in, bound_in, collection_number, Describes}
use Rattle.base_tables.proofs.DataRecords.{content-length, kind_at, content_at, ReadAt, read_whole}
use Rattle.base_tables.proofs.ByteReaders.{row_within}

-- the fields of a description
module _ (a b n z x : ℕ) (p : a ≤ 3) (q : b ≤ 8) (l : n ≤ 1024) (u : z ≤ 1) where
  abbrev packed : ℕ
  packed = a + one_column * b + one_row * n + one_kind * z + one_position * x

  collection-of : collection_in packed ≡ a
  collection-of = omega arith

  columns_of_lem : columns_in packed ≡ b
  columns_of_lem = omega arith

  rows-of : rows_in packed ≡ n
  rows-of = omega arith

  kind-of : kind_in packed ≡ z
  kind-of = omega arith

  subset-of : subset_in packed ≡ 0
  subset-of = omega arith

  position-of : position_in packed ≡ x
  position-of = omega arith

bit-most : (k : ℕ) → kind_bit k ≤ 1
unfolding kind_bit pick
bit-most k = by-test (eqb k 23) (λ t. rw t (omega arith)) (λ t. rw t (omega arith))

module _ (K : ℕ) (c : Bytes) (p : ℕ) (f : Fit c) where
  abbrev place : ℕ
  place = p + 4 * table_columns c

  collection-in : collection_in (description_of K c p) ≡ table_collection c
  unfolding description_of
  collection-in = collection-of (table_collection c) (table_columns c) (table_rows c) (kind_bit K) place f.collection-most f.columns-most f.rows_most (bit-most K)

  columns-in : columns_in (description_of K c p) ≡ table_columns c
  unfolding description_of
  columns-in = columns_of_lem (table_collection c) (table_columns c) (table_rows c) (kind_bit K) place f.collection-most f.columns-most f.rows_most (bit-most K)

  rows_in_lem : rows_in (description_of K c p) ≡ table_rows c
  unfolding description_of
  rows_in_lem = rows-of (table_collection c) (table_columns c) (table_rows c) (kind_bit K) place f.collection-most f.columns-most f.rows_most (bit-most K)

  kind-in : kind_in (description_of K c p) ≡ kind_bit K
  unfolding description_of
  kind-in = kind-of (table_collection c) (table_columns c) (table_rows c) (kind_bit K) place f.collection-most f.columns-most f.rows_most (bit-most K)

  subset-in : subset_in (description_of K c p) ≡ 0
  unfolding description_of
  subset-in = subset-of (table_collection c) (table_columns c) (table_rows c) (kind_bit K) place f.collection-most f.columns-most f.rows_most (bit-most K)

  position_in_lem : position_in (description_of K c p) ≡ place
  unfolding description_of
  position_in_lem = position-of (table_collection c) (table_columns c) (table_rows c) (kind_bit K) place f.collection-most f.columns-most f.rows_most (bit-most K)

number_of : (k : ℕ) → 1 ≤ k → k ≤ 3 → k ≡ collection_number (collection_of k)
unfolding collection_number
number_of zero p q = absurd (omega arith)
number_of (suc zero) p q = refl
number_of (suc (suc zero)) p q = refl
number_of (suc (suc (suc zero))) p q = refl
number_of (suc (suc (suc (suc k)))) p q = absurd (omega arith)

content-at : (d : Bytes) (p x : ℕ) → x < length_of (drop p d) → get_or (content_of (drop p d)) x 0 ≡ get_or d (p + 4 + x) 0
content-at d p x q =
    get_or-take (length_of (drop p d)) (drop 4 (drop p d)) x 0 q ∙ get_or-drop 4 (drop p d) x 0 ∙ get_or-drop p d (4 + x) 0 ∙ simp add_assoc

-- the cell's number, by rows and by columns
pub word-by-rows : (d : Bytes) (w r c : ℕ) {m p : ℕ} → subset_in w ≡ 0 → kind_in w ≡ 0 → columns_in w ≡ m → position_in w ≡ p → word_in d w r c ≡ four d (p + 4 * (m * r + c))
unfolding word_in stored_word_in pick
word-by-rows d w r c z k em ep = rw (eq-eqb (subset_in w) 0 z, ne_eqb (kind_in w) 1 (λ e. omega (arith, k, e))) (rw (em, ep))

word-by_columns : (d : Bytes) (w r c : ℕ) {n p : ℕ} → subset_in w ≡ 0 → kind_in w ≡ 1 → rows_in w ≡ n → position_in w ≡ p → word_in d w r c ≡ summed d (p + 4 * (n * c)) (suc r)
unfolding word_in stored_word_in pick
word-by_columns d w r c z k en ep = rw (eq-eqb (subset_in w) 0 z, eq-eqb (kind_in w) 1 k) (rw (en, ep))

pub cell-found : (d : Bytes) (w r c : ℕ) {n m : ℕ} → rows_in w ≡ n → columns_in w ≡ m → r < n → c < m → cell_in d w r c ≡ signed (word_in d w r c)
unfolding cell_in pick
cell-found d w r c en em q t = rw (lt-ltb r (rows_in w) (rw (← en) at q), lt-ltb c (columns_in w) (rw (← em) at t))

cell_below : (d : Bytes) (w r c : ℕ) {n : ℕ} → rows_in w ≡ n → n ≤ r → cell_in d w r c ≡ pos 0
unfolding cell_in pick
cell_below d w r c e p = rw (le-ltb r (rows_in w) (rw (← e) at p))

pub cell-beside : (d : Bytes) (w r c : ℕ) {m : ℕ} → columns_in w ≡ m → m ≤ c → cell_in d w r c ≡ pos 0
unfolding cell_in pick
cell-beside d w r c e p = by-test (ltb r (rows_in w)) (λ h. rw (h, le-ltb c (columns_in w) (rw (← e) at p))) (λ h. rw h)

bound-found : (d : Bytes) (w c : ℕ) {m p : ℕ} → columns_in w ≡ m → position_in w ≡ p → c < m → 4 * m ≤ p → bound_in d w c ≡ four d (p - 4 * m + 4 * c)
unfolding bound_in pick
bound-found d w c em ep t l =
    rw (lt-ltb c (columns_in w) (rw (← em) at t), le-leb (4 * columns_in w) (position_in w) (rw (← em, ← ep) at l)) (rw (em, ep))

bound-none : (d : Bytes) (w c : ℕ) {m : ℕ} → columns_in w ≡ m → m ≤ c → bound_in d w c ≡ 0
unfolding bound_in pick
bound-none d w c e p = rw (le-ltb c (columns_in w) (rw (← e) at p))

-- the same for the cells of a row, from column j on
module _ (d : Bytes) (w r : ℕ) (l : Bytes) (m : ℕ) (h : (j : ℕ) → j < m → signed (four l (4 * j)) ≡ cell_in d w r j) where
  cells-found : (n j : ℕ) → j + n ≡ m → cells n (drop (4 * j) l) ≡ cells_in d w r j n
  unfolding cells cells_in
  cells-found zero j t = refl
  cells-found (suc n) j t = ap₂ vcons (ap num (ap signed here ∙ h j (omega arith))) (ap (cells n) next ∙ cells-found n (suc j) (omega arith))
    where
      here : four (drop (4 * j) l) 0 ≡ four l (4 * j)
      here = rw (four-drop, add-zero)

      k : 4 * j + 4 ≡ 4 * suc j
      k = omega arith

      next : drop 4 (drop (4 * j) l) ≡ drop (4 * suc j) l
      next = rw (drop-drop, k)

-- where row r of the content c begins
abbrev row_bytes : Bytes → ℕ → Bytes
row_bytes c r = drop (4 * (table_columns c * r)) (drop (bounds_at + 4 * table_columns c) c)

-- the table that was read at p, with the content c
module _ {d : Bytes} {p k w e : ℕ} (R : ReadAt d p k w e) (c : Bytes) (s : c ≡ content_of (drop p d)) where
  -- its record's kind, and its content by rows
  abbrev K : ℕ
  K = kind_of (drop p d)

  abbrev f : Bytes
  f = content_by K c

  -- where its bounds begin
  abbrev from : ℕ
  from = p + 4 + bounds_at

  fitting-here : fits c ≡ true
  fitting-here = rw s R.fitting

  fit-here : Fit c
  fit-here = fit c fitting-here

  fit-rows : Fit f
  fit-rows = fit f (by-fit K c fit-here.long ∙ fitting-here)

  head : SameHead c f
  head = by-head K c fit-here.long

  keeping-here : bounded (table_of f) ≡ true
  unfolding table_by
  keeping-here = rw s R.keeping

  byte-here : (i : ℕ) → i < length c → get_or c i 0 ≡ get_or d (p + 4 + i) 0
  byte-here i q = rw s (content-at d p i (rw (s, content-length (drop p d) (read_whole R)) at q))

  -- four bytes of the content, and where they stand in the data
  four-here : (i j : ℕ) → i + 4 ≤ length c → j ≡ p + 4 + i → four c i ≡ four d j
  four-here i j q t = four_same c d i j (λ x u. byte-here (i + x) (omega arith) ∙ ap (λ k. get_or d k 0) (place x))
    where
      place : (x : ℕ) → p + 4 + (i + x) ≡ j + x
      place x = omega (arith, t)

  abbrev W : ℕ
  W = description_of K c from

  -- row r, column j: the cell in the content, and by the description
  module _ (r j : ℕ) (q : r < table_rows c) (t : j < table_columns c) where
    found_here : cell_in d W r j ≡ signed (word_in d W r j)
    found_here = cell-found d W r j (rows_in_lem K c from fit-here) (columns-in K c from fit-here) q t

    cell-by-rows : eqb K 23 ≡ false → cell_in d W r j ≡ content_cell c r j
    unfolding kind_bit pick
    cell-by-rows b =
        found_here
        ∙ ap signed
        (word-by-rows d W r j (subset-in K c from fit-here) (kind-in K c from fit-here ∙ ap (λ t. pick t 1 0) b) (columns-in K c from fit-here) (position_in_lem K c from fit-here)
        ∙ sym (four-here (bounds_at + 4 * table_columns c + 4 * (table_columns c * r + j))
        (from + 4 * table_columns c + 4 * (table_columns c * r + j)) inside (omega arith)))
      where
        inside : bounds_at + 4 * table_columns c + 4 * (table_columns c * r + j) + 4 ≤ length c
        inside = omega (arith, fit-here.long, row_within {m = table_columns c} {r = r} {n = table_rows c} {c = j} q t)

    cell-by_columns : eqb K 23 ≡ true → cell_in d W r j ≡ content_cell (content_by_rows c) r j
    unfolding kind_bit pick
    cell-by_columns b =
        found_here
        ∙ ap signed
        (word-by_columns d W r j (subset-in K c from fit-here) (kind-in K c from fit-here ∙ ap (λ t. pick t 1 0) b) (rows_in_lem K c from fit-here) (position_in_lem K c from fit-here)
        ∙ sym (summed_same c d (cells_at c + 4 * (table_rows c * j)) (from + 4 * table_columns c + 4 * (table_rows c * j)) (suc r) at))
        ∙ sym (summed-cell c fit-here.long t q)
      where
        inside : (x : ℕ) → x < suc r → cells_at c + 4 * (table_rows c * j) + 4 * x + 4 ≤ length c
        inside x u = omega (arith, fit-here.long, mul_comm (table_columns c) (table_rows c), row_within {m = table_rows c} {r = j} {n = table_columns c} {c = x} t (omega (arith, u, q)))

        at : (x : ℕ) → x < suc r → four c (cells_at c + 4 * (table_rows c * j) + 4 * x) ≡ four d (from + 4 * table_columns c + 4 * (table_rows c * j) + 4 * x)
        at x u = four-here (cells_at c + 4 * (table_rows c * j) + 4 * x) (from + 4 * table_columns c + 4 * (table_rows c * j) + 4 * x) (inside x u) (omega arith)

  module _ (r j : ℕ) (q : r < table_rows f) (t : j < table_columns f) where
    cell-here : cell_in d W r j ≡ content_cell f r j
    unfolding pick
    cell-here =
        let q' : r < table_rows c = rw head.rows at q in
        let t' : j < table_columns c = rw head.columns at t in
        by-test (eqb K 23)
        (λ b. cell-by_columns r j q' t' b ∙ sym (ap (λ b. content_cell (pick b (content_by_rows c) c) r j) b))
        (λ b. cell-by-rows r j q' t' b ∙ sym (ap (λ b. content_cell (pick b (content_by_rows c) c) r j) b))

    row_here : signed (four (row_bytes f r) (4 * j)) ≡ cell_in d W r j
    row_here =
        ap signed (four-drop (4 * (table_columns f * r)) (4 * j) (drop (bounds_at + 4 * table_columns f) f)
        ∙ four-drop (bounds_at + 4 * table_columns f) (4 * (table_columns f * r) + 4 * j) f ∙ ap (four f) place)
        ∙ sym cell-here
      where
        place : bounds_at + 4 * table_columns f + (4 * (table_columns f * r) + 4 * j) ≡ bounds_at + 4 * table_columns f + 4 * (table_columns f * r + j)
        place = omega arith

  -- the bound of column j, 0 where there is no such column
  bound-here : (j : ℕ) → bound_in d W j ≡ get_or (table_of f).bounds j 0
  unfolding table_of
  bound-here j = by-test (ltb j (table_columns c))
      (λ h. let t = ltb-true j (table_columns c) h in
      bound-found d W j (columns-in K c from fit-here) (position_in_lem K c from fit-here) t (omega arith)
      ∙ sym (four-here (bounds_at + 4 * j) (from + 4 * table_columns c - 4 * table_columns c + 4 * j) (omega (arith, fit-here.long, t)) (omega arith))
      ∙ sym (by-bound c fit-here.long t K)
      ∙ sym (bound-read f (omega (arith, head.columns, t))))
      (λ h. let t = ltb-false j (table_columns c) h in
      bound-none d W j (columns-in K c from fit-here) t
      ∙ sym (get_or-eq_default (bounds_from (table_columns f) (drop bounds_at f)) 0 (omega (arith, bounds-length (table_columns f) (drop bounds_at f), head.columns, t))))

  bound-most : (j : ℕ) → get_or (table_of f).bounds j 0 ≤ 2 ^ 31
  bound-most j = all-at (λ b. b ≤ 2 ^ 31) (table_of f).bounds 0 (table-read f (by-fit K c fit-here.long ∙ fitting-here) keeping-here).1.bounds-most (omega arith) j

  -- 43 let the cell pass
  cell-kept : (r j : ℕ) → nat_abs (cell_in d W r j) ≤ get_or (table_of f).bounds j 0
  cell-kept r j = by-test (ltb r (table_rows f))
      (λ h. by-test (ltb j (table_columns f))
      (λ k. let q = ltb-true r (table_rows f) h in let t = ltb-true j (table_columns f) k in
      rw (cell-here r j q t, bound-read f t) ((bounded-column f keeping-here t).cells r q))
      (λ k. outside (cell-beside d W r j (columns-in K c from fit-here ∙ sym head.columns) (ltb-false j (table_columns f) k))))
      (λ h. outside (cell_below d W r j (rows_in_lem K c from fit-here ∙ sym head.rows) (ltb-false r (table_rows f) h)))
    where
      outside : cell_in d W r j ≡ pos 0 → nat_abs (cell_in d W r j) ≤ get_or (table_of f).bounds j 0
      outside h = rw h (omega arith)

  described-alone : Describes d (table_of f ∷ []) 0 w
  unfolding Value.kind_of columns_of rows_of bound_of table_of
  described-alone =
      let g = fit-rows in
      let E : W ≡ w = rw s R.word in
      let l = drop (bounds_at + 4 * table_columns f) f in
      rw (← E)
      (record {
        collection = collection-in K c from fit-here ∙ sym head.collection ∙ number_of (table_collection f) g.collection-least g.collection-most;
        columns = columns-in K c from fit-here ∙ sym head.columns;
        most_columns = g.columns-most;
        rows = rows_in_lem K c from fit-here ∙ sym head.rows ∙ sym (rows-length (table_columns f) (table_rows f) l);
        most_rows = rw rows-length g.rows_most;
        row = λ r q. let u : r < table_rows f = rw rows-length at q in
            row_at (table_columns f) (table_rows f) r l u
            ∙ ap rec (cells-found d W r (row_bytes f r) (table_columns f) (λ j t. row_here r j u t) (table_columns f) 0 (omega arith));
        cell = λ r j q t. let u : r < table_rows f = rw rows-length at q in cell-here r j u t ∙ sym (cell-read f t u);
        bound = bound-here;
        most_bound = bound-most;
        within = cell-kept;
      })

-- what stands at its number is all that a description is about
module _ (T U : Tables) (k j : ℕ) (e : get_or T k no_table ≡ get_or U j no_table) where
  kind-same : Value.kind_of T k ≡ Value.kind_of U j
  unfolding Value.kind_of
  kind-same = ap (λ t. t.kind) e

  columns-same : columns_of T k ≡ columns_of U j
  unfolding columns_of
  columns-same = ap (λ t. t.columns) e

  rows_same : rows_of T k ≡ rows_of U j
  unfolding rows_of
  rows_same = ap (λ t. t.rows) e

  bound-same : (c : ℕ) → bound_of T k c ≡ bound_of U j c
  unfolding bound_of
  bound-same c = ap (λ t. get_or t.bounds c 0) e

  pub described-same : {d : Bytes} {w : ℕ} → Describes d T k w → Describes d U j w
  described-same D =
      record {
        collection = rw kind-same at D.collection;
        columns = rw columns-same at D.columns;
        most_columns = rw columns-same at D.most_columns;
        rows = rw rows_same at D.rows;
        most_rows = rw rows_same at D.most_rows;
        row = rw (rows_same, columns-same) at D.row;
        cell = rw (rows_same, columns-same) at D.cell;
        bound = λ c. D.bound c ∙ bound-same c;
        most_bound = λ c. rw bound-same at (D.most_bound c);
        within = λ r c. rw bound-same at (D.within r c);
      }

pub described-here : {d : Bytes} {p k w e : ℕ} → ReadAt d p k w e → (T : Tables) → get_or T k no_table ≡ table_by (kind_at d p) (content_at d p) → Describes d T k w
unfolding table_by
described-here {d} {p} {k} R T e = described-same (table_of (content_by (kind_at d p) (content_at d p)) ∷ []) T 0 k (sym e) (described-alone R (content_at d p) refl)

pub full-here : {d : Bytes} {p k w e : ℕ} → ReadAt d p k w e → subset_in w ≡ 0
full-here {d} {p} R = rw (← R.word) (subset-in (kind_at d p) (content_at d p) (p + 4 + bounds_at) (fit (content_at d p) R.fitting))
