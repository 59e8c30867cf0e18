-- What is written into the target: a record's bytes before its cells, and the cells of the three tables, each table's at its place.
use Rattle.std.specs.Prelude.{List, ◌∷◌, ◌++◌, map, ℕ, ◌+◌, ◌*◌, ◌≤◌, length, replicate}
use Rattle.std.proofs.lemmas.List.Edits.{sets}
use Rattle.spec_calculus.specs.Lists.{bind_l}
use Rattle.spec_encoding.specs.Record.{Bytes}
use Rattle.spec_encoding.specs.Columns.{bytes_of}
use Rattle.spec_logs.specs.Logs.{Paired, paired}
use Rattle.spec_logs.specs.Records.{pair_row, single_row, two_bytes}
use Rattle.base_logs.specs.declared.Move.{Move}
use Rattle.base_logs.specs.declared.Move.TheVariants.{Pair, First, Second}
use Rattle.base_logs.specs.declared.Places.{Places}
use Rattle.base_logs.specs.Times.{times_in}

-- ---- before the cells
unfoldable pub bound_bytes : ℕ → Bytes
bound_bytes w = bind_l (replicate w 1023) bytes_of

-- of number n, w columns and k rows
unfoldable pub head_bytes : ℕ → ℕ → ℕ → Bytes
head_bytes n w k = two_bytes (5 + 4 * w + 4 * (w * k)) ++ (two_bytes 20 ++ (n ∷ 1 ∷ w ∷ (two_bytes k ++ bound_bytes w)))

pub record HeadPre (d : Bytes) (p w k : ℕ) : Type 0 where
  pub narrow : w ≤ 8
  pub few : k ≤ 1024
  pub room : p + 9 + 4 * w ≤ length d

-- ---- one row
unfoldable pub row_end : Places → Move → ℕ
row_end p Pair = p.pairs + 8
row_end p First = p.firsts + 4
row_end p Second = p.seconds + 4

pub record RowPre (d : Bytes) (p : Places) (i j : ℕ) (v : Move) : Type 0 where
  pub first_few : i ≤ 1024
  pub second_few : j ≤ 1024
  pub room : row_end p v ≤ length d

unfoldable pub row_laid : Bytes → Places → ℕ → ℕ → Move → Bytes
row_laid d p i j Pair = sets (sets d p.pairs (bytes_of i)) (p.pairs + 4) (bytes_of j)
row_laid d p i j First = sets d p.firsts (bytes_of i)
row_laid d p i j Second = sets d p.seconds (bytes_of j)

unfoldable pub places_after : Places → Move → Places
places_after p Pair = record { pairs = p.pairs + 8; firsts = p.firsts; seconds = p.seconds }
places_after p First = record { pairs = p.pairs; firsts = p.firsts + 4; seconds = p.seconds }
places_after p Second = record { pairs = p.pairs; firsts = p.firsts; seconds = p.seconds + 4 }

-- ---- all rows
abbrev pub cell_bytes : List (List ℕ) → Bytes
cell_bytes rows = bind_l rows (λ r. bind_l r bytes_of)

unfoldable pub rows_laid : Bytes → Places → Paired → Bytes
rows_laid d p r = sets (sets (sets d p.pairs (cell_bytes (map pair_row r.pairs)))
    p.firsts (cell_bytes (map single_row r.first_singles))) p.seconds (cell_bytes (map single_row r.second_singles))

-- each table's rows end before the next table's begin
pub record TablesApart (d : Bytes) (p : Places) (r : Paired) : Type 0 where
  pub pairs_end : p.pairs + 8 * length r.pairs ≤ p.firsts
  pub firsts_end : p.firsts + 4 * length r.first_singles ≤ p.seconds
  pub seconds_end : p.seconds + 4 * length r.second_singles ≤ length d

abbrev pub RowsPre : Bytes → ℕ → ℕ → ℕ → Bytes → Places → Type 0
RowsPre l a b t d p = TablesApart d p (paired t (times_in l a) (times_in l b))
