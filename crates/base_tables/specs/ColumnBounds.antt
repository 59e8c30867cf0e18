-- What the tests of a record's column bounds ask and give (document 02, E5: 43).
use Rattle.std.specs.Prelude.{◌≡◌, ℕ, ◌<◌, ◌≤◌, Bool, true, false, unsigned_abs}
use Rattle.spec_encoding.specs.Record.{Bytes}
use Rattle.spec_encoding.specs.Data.{table_columns, table_rows, fits}
use Rattle.spec_encoding.proofs.ColumnBounds.{content_cell, Column}

-- a column of a content that 12 lets pass
pub record ColumnPre (c : Bytes) (i : ℕ) : Type 0 where
  pub fitting : fits c ≡ true
  pub inside : i < table_columns c

-- the first n cells in column i are within b
abbrev pub CellsWithin : Bytes → ℕ → ℕ → ℕ → Type 0
CellsWithin c i b n = (r : ℕ) → r < n → unsigned_abs (content_cell c r i) ≤ b

pub record ColumnWithinPost (c : Bytes) (i b : ℕ) (t : Bool) : Type 0 where
  pub yes : t ≡ true → CellsWithin c i b (table_rows c)
  pub no : t ≡ false → CellsWithin c i b (table_rows c) → ⊥

pub record ColumnBoundedPost (c : Bytes) (i : ℕ) (t : Bool) : Type 0 where
  pub yes : t ≡ true → Column c i
  pub no : t ≡ false → Column c i → ⊥
