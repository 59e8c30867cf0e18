-- The times of a log, read off column 0 of a described table, row by row.
use Rattle.std.specs.Prelude.{[], ◌∷◌, Bool, ◌&&◌, ℕ, zero, suc, ◌+◌, ◌*◌, eqb, leb}
use Rattle.spec_calculus.specs.Lists.{pick}
use Rattle.spec_encoding.specs.Record.{Bytes, four, signed}
use Rattle.spec_encoding.specs.Columns.{plus, unfolded}
use Rattle.spec_logs.specs.Logs.{Log, never_falls}
use Rattle.base_tables.specs.Description.{collection_in, columns_in, rows_in, kind_in, place_in, column_place_in, stored_word_in}

-- the number of the time's four bytes in row r, where above is that of the row above
unfoldable pub word_below : Bytes → ℕ → ℕ → ℕ → ℕ
word_below d w r above = pick (eqb (kind_in w) 1) (plus above (unfolded (four d (column_place_in w 0 + 4 * r)))) (four d (place_in w r 0))

-- n times, from row r on
unfoldable pub times_from : Bytes → ℕ → ℕ → ℕ → Log
times_from d w r zero = []
times_from d w r (suc n) = signed (stored_word_in d w r 0) ∷ times_from d w (suc r) n

abbrev pub times_in : Bytes → ℕ → Log
times_in d w = times_from d w 0 (rows_in w)

-- w describes a table (0 has no columns), a list, whose times do not fall
unfoldable pub is_log_in : Bytes → ℕ → Bool
is_log_in d w = leb 1 (columns_in w) && (eqb (collection_in w) 1 && never_falls (times_in d w))
