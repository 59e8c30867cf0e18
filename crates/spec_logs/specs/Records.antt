-- "They are written one behind the other .. as list records of kind 20, numbered 5, 6 and 7, with every column bound 1,023" (document 02, E11): the three
-- tables as bytes, and as what is read.
use Rattle.std.specs.Prelude.{List, [], ◌∷◌, ◌++◌, map, ℕ, ◌/◌, ◌%◌, length, replicate, pos}
use Rattle.spec_calculus.specs.Lists.{bind_l}
use Rattle.spec_calculus.specs.Syntax.{list}
use Rattle.spec_calculus.specs.Value.{num, rec, from_list, Table, Tables, no_table}
use Rattle.spec_encoding.specs.Record.{Bytes}
use Rattle.spec_encoding.specs.Columns.{bytes_of}
use Rattle.spec_logs.specs.Logs.{Pair, Paired}

-- "pairs of row positions", and single ones: the columns of a row
abbrev pub pair_row : Pair → List ℕ
pair_row p = p.first ∷ p.second ∷ []

abbrev pub single_row : ℕ → List ℕ
single_row i = i ∷ []

-- "little-endian"
abbrev pub two_bytes : ℕ → Bytes
two_bytes n = n % 256 ∷ n / 256 % 256 ∷ []

-- a table's content: number n, "1 list", w columns, so many rows, "every column bound 1,023", "then the cells row by row .., four bytes each"
unfoldable pub list_content : ℕ → ℕ → List (List ℕ) → Bytes
list_content n w rows = n ∷ 1 ∷ w ∷ (two_bytes (length rows) ++ (bind_l (replicate w 1023) bytes_of ++ bind_l rows (λ r. bind_l r bytes_of)))

-- "two bytes of content length, two bytes of kind, content"
unfoldable pub list_record : ℕ → ℕ → List (List ℕ) → Bytes
list_record n w rows = two_bytes (length (list_content n w rows)) ++ (two_bytes 20 ++ list_content n w rows)

unfoldable pub records : Paired → Bytes
records r = list_record 5 2 (map pair_row r.pairs) ++ (list_record 6 1 (map single_row r.first_singles) ++ list_record 7 1 (map single_row r.second_singles))

-- ---- what they are read as: tables 5, 6 and 7, and no others
abbrev pub position_table : ℕ → List (List ℕ) → Table
position_table w rows = record { kind = list; columns = w; bounds = replicate w 1023; rows = map (λ r. rec (from_list (map (λ i. num (pos i)) r))) rows }

abbrev pub paired_tables : Paired → Tables
paired_tables r = no_table ∷ no_table ∷ no_table ∷ no_table ∷ no_table ∷ position_table 2 (map pair_row r.pairs)
    ∷ position_table 1 (map single_row r.first_singles) ∷ position_table 1 (map single_row r.second_singles) ∷ []
