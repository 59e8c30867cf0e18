-- How long the three records are: known from the rows of the two logs before they are paired.
use mathlib.Core.Path.{◌≡◌, refl, ◌∙◌}
use mathlib.Core.List.{List, [], ◌∷◌, ◌++◌, map}
use Prim.Native.Nat.{ℕ, ◌+◌, ◌*◌}
use native.Mathlib.Nat.{mul-zero, mul-suc}
use native.Mathlib.Omega.{arith}
use lib.ListN.{length, replicate, length-append, length-replicate, length-map}
use Rattle.spec_calculus.specs.Lists.{bind_l}
use Rattle.spec_calculus.proofs.Lists.{All}
use Rattle.spec_encoding.specs.Record.{Bytes}
use Rattle.spec_encoding.specs.Columns.{bytes_of}
use Rattle.spec_logs.specs.Logs.{Log, Pair, Paired, paired}
use Rattle.spec_logs.specs.Records.{pair_row, single_row, list_content, list_record, records}
use Rattle.spec_logs.proofs.OwnPairs.{counts-from}

abbrev pub row_bytes : List ℕ → Bytes
row_bytes r = bind_l r bytes_of

abbrev pub cell_bytes : List (List ℕ) → Bytes
cell_bytes rows = bind_l rows (λ r. bind_l r bytes_of)

pub row-length : (r : List ℕ) → length (row_bytes r) ≡ 4 * length r
unfolding bind_l
row-length [] = refl
row-length (k ∷ r) = omega (arith, row-length r)

pub cells-length : (w : ℕ) (rows : List (List ℕ)) → All (λ r. length r ≡ w) rows → length (cell_bytes rows) ≡ 4 * (w * length rows)
unfolding bind_l
cells-length w [] h = omega (arith, mul-zero w)
cells-length w (r ∷ rows) h =
    length-append (row_bytes r) (cell_bytes rows) ∙ omega (arith, row-length r, h.0, cells-length w rows h.1, mul-suc w (length rows))

-- the length of a content of w columns
pub content-length : (n w : ℕ) (rows : List (List ℕ)) → All (λ r. length r ≡ w) rows → length (list_content n w rows) ≡ 5 + 4 * w + 4 * (w * length rows)
unfolding list_content
content-length n w rows h =
    let b = row_bytes (replicate w 1023) in
    omega
    (arith, length-append b (cell_bytes rows), row-length (replicate w 1023), length-replicate {A = ℕ} w 1023, cells-length w rows h)

pub record-length : (n w : ℕ) (rows : List (List ℕ)) → All (λ r. length r ≡ w) rows → length (list_record n w rows) ≡ 9 + 4 * w + 4 * (w * length rows)
unfolding list_record
record-length n w rows h = omega (arith, content-length n w rows h)

pub pair-widths : (l : List Pair) → All (λ r. length r ≡ 2) (map pair_row l)
pair-widths [] = tt
pair-widths (p ∷ l) = (refl, pair-widths l)

pub single-widths : (l : List ℕ) → All (λ r. length r ≡ 1) (map single_row l)
single-widths [] = tt
single-widths (i ∷ l) = (refl, single-widths l)

pub pairs-long : (l : List Pair) → length (list_record 5 2 (map pair_row l)) ≡ 17 + 8 * length l
pairs-long l = omega (arith, record-length 5 2 (map pair_row l) (pair-widths l), length-map l pair_row)

pub singles-long : (n : ℕ) (l : List ℕ) → length (list_record n 1 (map single_row l)) ≡ 13 + 4 * length l
singles-long n l = omega (arith, record-length n 1 (map single_row l) (single-widths l), length-map l single_row)

pub records-long : (r : Paired) → length (records r) ≡ 43 + 8 * length r.pairs + 4 * length r.first_singles + 4 * length r.second_singles
unfolding records
records-long r =
    let P = list_record 5 2 (map pair_row r.pairs) in
    let F = list_record 6 1 (map single_row r.first_singles) in
    let S = list_record 7 1 (map single_row r.second_singles) in
    omega (arith, length-append P (F ++ S), length-append F S, pairs-long r.pairs, singles-long 6 r.first_singles, singles-long 7 r.second_singles)

pub records-length : (t : ℕ) (xs ys : Log) → length (records (paired t xs ys)) ≡ 43 + 4 * (length xs + length ys)
records-length t xs ys =
    let n = counts-from t 0 0 xs ys in
    omega (arith, records-long (paired t xs ys), n.of_first, n.of_second)
