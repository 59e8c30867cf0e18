-- Heads and rows in the target: what is written with what is left to write gives the three records. Assumes nothing.
use mathlib.Core.Path.{◌≡◌, refl, sym, ap, ap₂, subst, ◌∙◌}
use mathlib.Core.List.{◌∷◌, ◌++◌, map}
use Prim.Native.Nat.{ℕ, suc, ◌+◌, ◌-◌, ◌*◌, ◌/◌, ◌%◌, ◌≤◌, ◌<◌}
use native.Mathlib.Nat.{le_trans, add-zero, mul-le-mul_left, mul-le-mul_right}
use native.Mathlib.Numerals.{add-one, add-two, add-three}
use native.Mathlib.Omega.{arith}
use lib.ListN.{length, set, replicate, length-map}
use lib.Seq.{sets, length-sets}
use Rattle.spec_calculus.specs.Lists.{bind_l}
use Rattle.spec_encoding.specs.Record.{Bytes}
use Rattle.spec_encoding.specs.Columns.{bytes_of}
use Rattle.spec_logs.specs.Logs.{Paired, paired}
use Rattle.spec_logs.specs.Records.{pair_row, single_row, two_bytes}
use Rattle.spec_logs.proofs.RecordsLength.{cells-length, pair-widths, single-widths}
use Rattle.base_tables.specs.Description.{rows_in}
use Rattle.base_logs.specs.declared.Move.{Move}
use Rattle.base_logs.specs.declared.Move.TheVariants.{Pair, First, Second}
use Rattle.base_logs.specs.declared.Rows.{Rows}
use Rattle.base_logs.specs.declared.Places.{Places}
use Rattle.base_logs.specs.Times.{times_in}
use Rattle.base_logs.specs.Moves.{LogsPre, rows_move, first_rows, rows_after}
use Rattle.base_logs.specs.Laying.{bound_bytes, head_bytes, HeadPre, row_end, RowPre, row_laid, places_after, cell_bytes, rows_laid, TablesApart}
use Rattle.base_logs.proofs.Moves.{on_move, left_at, Standing, stands-first, stands_on, used-up}
use Rattle.base_logs.proofs.Stores.{one-behind, sets-comm}

-- ---- put_two
pub two_is : (d : Bytes) (i w : ℕ) {a b : ℕ} → a ≡ w % 256 → b ≡ w / 256 % 256 → set (set d i a) (i + 1) b ≡ sets d i (two_bytes w)
two_is d i w pa pb = simp (add-one, pa, pb)

-- ---- put_bounds
pub record Bounding (d₀ d : Bytes) (p w i : ℕ) : Type 0 where
  pub long : length d ≡ length d₀
  pub left : sets d (p + 4 * i) (bound_bytes (w - i)) ≡ sets d₀ p (bound_bytes w)

pub bounding-first : (d : Bytes) (p w : ℕ) → Bounding d d p w 0
bounding-first d p w = record {
  long = refl;
  left = let e : p + 4 * 0 ≡ p = omega arith in let n : w - 0 ≡ w = omega arith in ap₂ (λ (k n : ℕ). sets d k (bound_bytes n)) e n;
}

bound-next : (w i : ℕ) → i < w → bound_bytes (w - i) ≡ bytes_of 1023 ++ bound_bytes (w - (i + 1))
unfolding bound_bytes bind_l
bound-next w i l = let e : w - i ≡ suc (w - (i + 1)) = omega arith in ap (λ (n : ℕ). bind_l (replicate n 1023) bytes_of) e

pub bounding-next : {d₀ d e : Bytes} {p w i : ℕ} → Bounding d₀ d p w i → i < w → e ≡ sets d (p + 4 * i) (bytes_of 1023) → Bounding d₀ e p w (i + 1)
bounding-next {d₀} {d} {e} {p} {w} {i} B l h = record {
  long = ap length h ∙ length-sets d (p + 4 * i) (bytes_of 1023) ∙ B.long;
  left = ap (λ o. sets o (p + 4 * (i + 1)) (bound_bytes (w - (i + 1)))) h
      ∙ sym (one-behind d (p + 4 * i) (bytes_of 1023) (bound_bytes (w - (i + 1))) (omega arith))
      ∙ ap (sets d (p + 4 * i)) (sym (bound-next w i l)) ∙ B.left;
}

pub bounding-done : {d₀ d : Bytes} {p w i : ℕ} → Bounding d₀ d p w i → w ≤ i → d ≡ sets d₀ p (bound_bytes w)
unfolding bound_bytes bind_l
bounding-done {d₀} {d} {p} {w} {i} B h = sym (ap (λ (n : ℕ). sets d (p + 4 * i) (bind_l (replicate n 1023) bytes_of)) none) ∙ B.left
  where
    none : w - i ≡ 0
    none = omega (arith, h)

-- ---- put_head
pub head_few : {d : Bytes} {p w k : ℕ} → HeadPre d p w k → w * k ≤ 8192
head_few {w = w} {k} H = omega (arith, le_trans (mul-le-mul_left {m = k} {n = 1024} w H.few) (mul-le-mul_right {m = w} {n = 8} 1024 H.narrow))

module _ (d : Bytes) (p n w k : ℕ) {d₁ d₂ d₃ d₄ : Bytes} (e₁ : d₁ ≡ sets d p (two_bytes (5 + 4 * w + 4 * (w * k)))) (e₂ : d₂ ≡ sets d₁ (p + 2) (two_bytes 20))
    (e₃ : d₃ ≡ sets (set (set (set d₂ (p + 4 + 0) n) (p + 4 + 1) 1) (p + 4 + 2) w) (p + 4 + 3) (two_bytes k)) (e₄ : d₄ ≡ sets d₃ (p + 4 + 5) (bound_bytes w)) where
  abbrev L : Bytes
  L = two_bytes (5 + 4 * w + 4 * (w * k))

  -- number, collection and columns
  abbrev three : Bytes → ℕ → Bytes
  three o c = set (set (set o c n) (suc c) 1) (suc (suc c)) w

  in_place : sets (set (set (set d₂ (p + 4 + 0) n) (p + 4 + 1) 1) (p + 4 + 2) w) (p + 4 + 3) (two_bytes k)
      ≡ sets (three d₂ (p + 4)) (suc (suc (suc (p + 4)))) (two_bytes k)
  in_place = simp (add-zero (p + 4), add-one (p + 4), add-two (p + 4), add-three (p + 4))

  counted : d₃ ≡ sets (three (sets (sets d p L) (p + 2) (two_bytes 20)) (p + 4)) (suc (suc (suc (p + 4)))) (two_bytes k)
  counted =
      e₃ ∙ in_place
      ∙ ap (λ o. sets (three o (p + 4)) (suc (suc (suc (p + 4)))) (two_bytes k)) (e₂ ∙ ap (λ o. sets o (p + 2) (two_bytes 20)) e₁)

  pub head-is : d₄ ≡ sets d p (head_bytes n w k)
  unfolding head_bytes
  head-is =
      e₄ ∙ ap (λ o. sets o (p + 4 + 5) (bound_bytes w)) counted
      ∙ sym
      (one-behind d p L (two_bytes 20 ++ (n ∷ 1 ∷ w ∷ (two_bytes k ++ bound_bytes w))) (omega arith)
      ∙ one-behind (sets d p L) (p + 2) (two_bytes 20) (n ∷ 1 ∷ w ∷ (two_bytes k ++ bound_bytes w)) (omega arith)
      ∙ one-behind (three (sets (sets d p L) (p + 2) (two_bytes 20)) (p + 4)) (suc (suc (suc (p + 4)))) (two_bytes k) (bound_bytes w) (omega arith))

-- ---- lay_row
module _ (d : Bytes) (p : Places) (i j : ℕ) {v : Move} where
  pub laid-pair : v ≡ Pair → {d₁ d₂ : Bytes} → d₁ ≡ sets d p.pairs (bytes_of i) → d₂ ≡ sets d₁ (p.pairs + 4) (bytes_of j)
      → (d₂ ≡ row_laid d p i j v) × (record { pairs = p.pairs + 8; firsts = p.firsts; seconds = p.seconds } ≡ places_after p v)
  unfolding row_laid places_after
  laid-pair e h g = rw e (g ∙ ap (λ o. sets o (p.pairs + 4) (bytes_of j)) h, refl)

  pub laid-first : v ≡ First → {d₁ : Bytes} → d₁ ≡ sets d p.firsts (bytes_of i)
      → (d₁ ≡ row_laid d p i j v) × (record { pairs = p.pairs; firsts = p.firsts + 4; seconds = p.seconds } ≡ places_after p v)
  unfolding row_laid places_after
  laid-first e h = rw e (h, refl)

  pub laid-second : v ≡ Second → {d₁ : Bytes} → d₁ ≡ sets d p.seconds (bytes_of j)
      → (d₁ ≡ row_laid d p i j v) × (record { pairs = p.pairs; firsts = p.firsts; seconds = p.seconds + 4 } ≡ places_after p v)
  unfolding row_laid places_after
  laid-second e h = rw e (h, refl)

module _ {d : Bytes} {p : Places} {i j : ℕ} {v : Move} (R : RowPre d p i j v) where
  pub room-pair : v ≡ Pair → p.pairs + 8 ≤ length d
  unfolding row_end
  room-pair e = rw e at R.room

  pub room-first : v ≡ First → p.firsts + 4 ≤ length d
  unfolding row_end
  room-first e = rw e at R.room

  pub room-second : v ≡ Second → p.seconds + 4 ≤ length d
  unfolding row_end
  room-second e = rw e at R.room

-- ---- lay_rows
abbrev pair_cells : Paired → Bytes
pair_cells r = cell_bytes (map pair_row r.pairs)

abbrev first_cells : Paired → Bytes
first_cells r = cell_bytes (map single_row r.first_singles)

abbrev second_cells : Paired → Bytes
second_cells r = cell_bytes (map single_row r.second_singles)

pub pair-cells : (r : Paired) → length (pair_cells r) ≡ 8 * length r.pairs
pair-cells r = cells-length 2 (map pair_row r.pairs) (pair-widths r.pairs) ∙ omega (arith, length-map r.pairs pair_row)

pub first-cells : (r : Paired) → length (first_cells r) ≡ 4 * length r.first_singles
first-cells r = cells-length 1 (map single_row r.first_singles) (single-widths r.first_singles) ∙ omega (arith, length-map r.first_singles single_row)

module _ (o : Bytes) (q : Places) (i j : ℕ) (r : Paired) where
  abbrev P : Bytes
  P = pair_cells r

  abbrev F : Bytes
  F = first_cells r

  abbrev S : Bytes
  S = second_cells r

  -- A row's bytes, and then those of the rows behind it, are those of all.
  laid_on : (v : Move) → TablesApart o q (on_move v i j r) → rows_laid (row_laid o q i j v) (places_after q v) r ≡ rows_laid o q (on_move v i j r)
  unfolding rows_laid row_laid places_after on_move bind_l
  laid_on Pair A =
      ap (λ x. sets (sets x q.firsts F) q.seconds S)
      (sym
      (one-behind o q.pairs (bytes_of i) (bytes_of j ++ P) {j = q.pairs + 4} (omega arith)
      ∙ one-behind (sets o q.pairs (bytes_of i)) (q.pairs + 4) (bytes_of j) P (omega arith)))
  laid_on First A =
      ap (λ x. sets (sets x (q.firsts + 4) F) q.seconds S) (sets-comm o q.firsts (bytes_of i) q.pairs P (omega (arith, A.pairs_end, pair-cells r)))
      ∙ ap (λ x. sets x q.seconds S) (sym (one-behind (sets o q.pairs P) q.firsts (bytes_of i) F (omega arith)))
  laid_on Second A =
      ap (λ x. sets (sets x q.firsts F) (q.seconds + 4) S)
      (sets-comm o q.seconds (bytes_of j) q.pairs P (omega (arith, A.pairs_end, A.firsts_end, pair-cells r)))
      ∙ ap (λ x. sets x (q.seconds + 4) S)
      (sets-comm (sets o q.pairs P) q.seconds (bytes_of j) q.firsts F (omega (arith, A.firsts_end, first-cells r)))
      ∙ sym (one-behind (sets (sets o q.pairs P) q.firsts F) q.seconds (bytes_of j) S (omega arith))

  row-length-kept : (v : Move) → length (row_laid o q i j v) ≡ length o
  unfolding row_laid
  row-length-kept Pair = length-sets (sets o q.pairs (bytes_of i)) (q.pairs + 4) (bytes_of j) ∙ length-sets o q.pairs (bytes_of i)
  row-length-kept First = length-sets o q.firsts (bytes_of i)
  row-length-kept Second = length-sets o q.seconds (bytes_of j)

  apart-on : (v : Move) → TablesApart o q (on_move v i j r) → TablesApart (row_laid o q i j v) (places_after q v) r
  unfolding places_after on_move
  apart-on Pair A = record {
    pairs_end = omega (arith, A.pairs_end);
    firsts_end = A.firsts_end;
    seconds_end = omega (arith, A.seconds_end, row-length-kept Pair);
  }
  apart-on First A = record {
    pairs_end = omega (arith, A.pairs_end);
    firsts_end = omega (arith, A.firsts_end);
    seconds_end = omega (arith, A.seconds_end, row-length-kept First);
  }
  apart-on Second A = record {
    pairs_end = A.pairs_end;
    firsts_end = omega (arith, A.firsts_end);
    seconds_end = omega (arith, A.seconds_end, row-length-kept Second);
  }

  row_room : (v : Move) → TablesApart o q (on_move v i j r) → row_end q v ≤ length o
  unfolding row_end on_move
  row_room Pair A = omega (arith, A.pairs_end, A.firsts_end, A.seconds_end)
  row_room First A = omega (arith, A.pairs_end, A.firsts_end, A.seconds_end)
  row_room Second A = omega (arith, A.pairs_end, A.firsts_end, A.seconds_end)

-- so far written, and with what is left all of it
pub record Laying (l : Bytes) (a b t : ℕ) (d₀ : Bytes) (p : Places) (d : Bytes) (q : Places) (r : Rows) : Type 0 where
  pub long : length d ≡ length d₀
  pub standing : Standing l a b t r
  pub apart : TablesApart d q (left_at l a b t r.i r.j)
  pub left : rows_laid d q (left_at l a b t r.i r.j) ≡ rows_laid d₀ p (paired t (times_in l a) (times_in l b))

pub laying-first : (l : Bytes) (a b t : ℕ) (d : Bytes) (p : Places) → TablesApart d p (paired t (times_in l a) (times_in l b)) → {r : Rows} → r ≡ first_rows l a b
    → Laying l a b t d p d p r
laying-first l a b t d p A e =
    let s = stands-first l a b t e in
    record { long = refl; standing = s.0; apart = subst (TablesApart d p) (sym s.1) A; left = ap (rows_laid d p) s.1 }

module _ {l : Bytes} {a b t : ℕ} {d₀ : Bytes} {p : Places} {d : Bytes} {q : Places} {r : Rows} (L : Laying l a b t d₀ p d q r)
    {m n : ℕ} (em : m ≡ rows_in a) (en : n ≡ rows_in b) (h : r.i + r.j < m + n) {v : Move} (e : v ≡ rows_move t m n r) where
  pub laying-room : LogsPre a b t → RowPre d q r.i r.j v
  laying-room B =
      let s = stands_on l a b t r L.standing em en h {q = rows_after l a b r v} e refl in
      let z = rows_after l a b r v in
      record {
        first_few = omega (arith, L.standing.first-in, B.first_few);
        second_few = omega (arith, L.standing.second-in, B.second_few);
        room = row_room d q r.i r.j (left_at l a b t z.i z.j) v (subst (TablesApart d q) s.2 L.apart);
      }

  pub laying-next : {f : Bytes} {k : Places} {z : Rows} → f ≡ row_laid d q r.i r.j v → k ≡ places_after q v → z ≡ rows_after l a b r v
      → Laying l a b t d₀ p f k z × (r.i + r.j < z.i + z.j)
  laying-next {f} {k} {z} ed ek ez =
      let s = stands_on l a b t r L.standing em en h e ez in
      let left = left_at l a b t z.i z.j in
      let A = subst (TablesApart d q) s.2 L.apart in (
        record {
          long = ap length ed ∙ row-length-kept d q r.i r.j left v ∙ L.long;
          standing = s.0;
          apart = rw (ed, ek) (apart-on d q r.i r.j left v A);
          left = ap₂ (λ (x : Bytes) (y : Places). rows_laid x y left) ed ek ∙ laid_on d q r.i r.j left v A
              ∙ ap (rows_laid d q) (sym s.2) ∙ L.left;
        },
        s.1,
      )

pub laying-done : {l : Bytes} {a b t : ℕ} {d₀ : Bytes} {p : Places} {d : Bytes} {q : Places} {r : Rows} → Laying l a b t d₀ p d q r
    → rows_in a + rows_in b ≤ r.i + r.j → d ≡ rows_laid d₀ p (paired t (times_in l a) (times_in l b))
unfolding rows_laid bind_l
laying-done {l} {a} {b} {t} {d₀} {p} {d} {q} L h = sym (ap (rows_laid d q) (used-up l a b t L.standing h)) ∙ L.left
