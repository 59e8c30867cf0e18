-- The three records in the target, from their heads and their cells. Assumes nothing.
use mathlib.Core.Path.{◌≡◌, refl, sym, ap, ap₂, ◌∙◌}
use mathlib.Core.List.{List, ◌∷◌, ◌++◌, map}
use Prim.Native.Nat.{ℕ, ◌+◌, ◌-◌, ◌*◌, ◌≤◌}
use native.Mathlib.Omega.{arith}
use lib.ListN.{length, replicate, length-replicate, length-map}
use lib.Seq.{sets, length-sets}
use Rattle.spec_calculus.specs.Lists.{bind_l}
use Rattle.spec_calculus.proofs.Lists.{All}
use Rattle.spec_encoding.specs.Record.{Bytes}
use Rattle.spec_encoding.specs.Columns.{bytes_of}
use Rattle.spec_logs.specs.Logs.{Paired, paired}
use Rattle.spec_logs.specs.Records.{pair_row, single_row, two_bytes, list_content, list_record, records}
use Rattle.spec_logs.proofs.RecordsLength.{row-length, content-length, pair-widths, single-widths}
use Rattle.base_tables.specs.Description.{rows_in}
use Rattle.base_logs.specs.declared.Places.{Places}
use Rattle.base_logs.specs.Times.{times_in}
use Rattle.base_logs.specs.Moves.{LogsPre}
use Rattle.base_logs.specs.Laying.{bound_bytes, head_bytes, cell_bytes, rows_laid, TablesApart}
use Rattle.base_logs.proofs.Moves.{counts-in}
use Rattle.base_logs.proofs.Stores.{three-pieces}
use Rattle.base_logs.proofs.Laying.{pair-cells, first-cells}

pub head-length : (n w k : ℕ) → length (head_bytes n w k) ≡ 9 + 4 * w
unfolding head_bytes bound_bytes
head-length n w k = omega (arith, row-length (replicate w 1023), length-replicate {A = ℕ} w 1023)

record-pieces : (n w : ℕ) (rows : List (List ℕ)) → All (λ r. length r ≡ w) rows → list_record n w rows ≡ head_bytes n w (length rows) ++ cell_bytes rows
unfolding list_record list_content head_bytes bound_bytes
record-pieces n w rows h =
    ap (λ (k : ℕ). two_bytes k ++ (two_bytes 20 ++ (n ∷ 1 ∷ w ∷ (two_bytes (length rows) ++ (bind_l (replicate w 1023) bytes_of ++ cell_bytes rows)))))
    (content-length n w rows h)

-- the number of each table's rows, and where the second and the third record begin
pub record Counted (r : Paired) (p f s y z : ℕ) : Type 0 where
  pub pairs : p ≡ length r.pairs
  pub firsts : f ≡ length r.first_singles
  pub seconds : s ≡ length r.second_singles
  pub second : y ≡ 17 + 8 * p
  pub third : z ≡ y + 13 + 4 * f

module _ {r : Paired} {p f s y z : ℕ} (C : Counted r p f s y z) (d : Bytes) where
  abbrev places : Places
  places = record { pairs = 17; firsts = y + 13; seconds = z + 13 }

  abbrev H : ℕ → ℕ → ℕ → Bytes
  H n w k = head_bytes n w k

  pieces : records r ≡ (H 5 2 p ++ cell_bytes (map pair_row r.pairs)) ++ ((H 6 1 f ++ cell_bytes (map single_row r.first_singles)) ++ (H 7 1 s ++ cell_bytes (map single_row r.second_singles)))
  unfolding records
  pieces =
      ap₂ (λ a b. a ++ b)
      (record-pieces 5 2 (map pair_row r.pairs) (pair-widths r.pairs)
      ∙ ap (λ (k : ℕ). H 5 2 k ++ cell_bytes (map pair_row r.pairs)) (length-map r.pairs pair_row ∙ sym C.pairs))
      (ap₂ (λ a b. a ++ b)
      (record-pieces 6 1 (map single_row r.first_singles) (single-widths r.first_singles)
      ∙ ap (λ (k : ℕ). H 6 1 k ++ cell_bytes (map single_row r.first_singles)) (length-map r.first_singles single_row ∙ sym C.firsts))
      (record-pieces 7 1 (map single_row r.second_singles) (single-widths r.second_singles)
      ∙ ap (λ (k : ℕ). H 7 1 k ++ cell_bytes (map single_row r.second_singles)) (length-map r.second_singles single_row ∙ sym C.seconds)))

  module _ {d₁ d₂ d₃ : Bytes} (e₁ : d₁ ≡ sets d 0 (H 5 2 p)) (e₂ : d₂ ≡ sets d₁ y (H 6 1 f)) (e₃ : d₃ ≡ sets d₂ z (H 7 1 s)) where
    heads-are : d₃ ≡ sets (sets (sets d 0 (H 5 2 p)) y (H 6 1 f)) z (H 7 1 s)
    heads-are = e₃ ∙ ap (λ o. sets o z (H 7 1 s)) (e₂ ∙ ap (λ o. sets o y (H 6 1 f)) e₁)

    pub three-records : {d₄ : Bytes} → d₄ ≡ rows_laid d₃ places r → d₄ ≡ sets d 0 (records r)
    unfolding rows_laid
    three-records e₄ =
        e₄ ∙ ap (λ o. rows_laid o places r) heads-are
        ∙ three-pieces d (H 5 2 p) (cell_bytes (map pair_row r.pairs)) (H 6 1 f) (cell_bytes (map single_row r.first_singles)) (H 7 1 s)
        (cell_bytes (map single_row r.second_singles)) (sym (head-length 5 2 p))
        (omega (arith, C.second, C.pairs, pair-cells r)) (omega (arith, head-length 6 1 f))
        (omega (arith, C.third, C.firsts, first-cells r)) (omega (arith, head-length 7 1 s))
        ∙ ap (sets d 0) (sym pieces)

    heads-long : length d₃ ≡ length d
    heads-long = ap length heads-are ∙ length-sets (sets (sets d 0 (H 5 2 p)) y (H 6 1 f)) z (H 7 1 s) ∙ length-sets (sets d 0 (H 5 2 p)) y (H 6 1 f) ∙ length-sets d 0 (H 5 2 p)

    pub tables-apart : z + 13 + 4 * s ≤ length d → TablesApart d₃ places r
    tables-apart h = record {
      pairs_end = omega (arith, C.second, C.pairs);
      firsts_end = omega (arith, C.third, C.firsts);
      seconds_end = omega (arith, heads-long, C.seconds, h);
    }

-- of two logs: no more pairs than the first has rows
pub pairs-few : (l : Bytes) {a b t m p : ℕ} → LogsPre a b t → m ≡ rows_in a → p ≡ length (paired t (times_in l a) (times_in l b)).pairs → (p ≤ m) × (m ≤ 1024)
pairs-few l {a} {b} {t} L em ep = (omega (arith, (counts-in l a b t).of_first, em, ep), omega (arith, em, L.first_few))

pub counted-logs : (l : Bytes) (a b t : ℕ) {m n p : ℕ} → m ≡ rows_in a → n ≡ rows_in b → p ≡ length (paired t (times_in l a) (times_in l b)).pairs
    → Counted (paired t (times_in l a) (times_in l b)) p (m - p) (n - p) (17 + 8 * p) (17 + 8 * p + 13 + 4 * (m - p)) × (p ≤ m) × (p ≤ n)
counted-logs l a b t em en ep =
    let c = counts-in l a b t in (
      record {
        pairs = ep;
        firsts = omega (arith, c.of_first, em, ep);
        seconds = omega (arith, c.of_second, en, ep);
        second = refl;
        third = refl;
      },
      omega (arith, c.of_first, em, ep),
      omega (arith, c.of_second, en, ep),
    )
