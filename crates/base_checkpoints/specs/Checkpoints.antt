-- A checkpoint is what stands in scratch for a column of a table by columns: the cells above two of its rows. A cell is read by it without the numbers above.
use Rattle.std.specs.Prelude.{◌≡◌, ℕ, ◌+◌, ◌-◌, ◌*◌, ◌/◌, ◌%◌, ◌^◌, ◌<◌, ◌≤◌, Bool, true, false, List, length, ℤ, ◌==◌, nat_le, nat_lt, slice_index, unsigned_abs}
use Rattle.spec_calculus.specs.Lists.{pick}
use Rattle.spec_encoding.specs.Record.{Bytes, signed}
use Rattle.spec_encoding.specs.Columns.{plus, summed}
use Rattle.base_scratch.specs.Map.{scratch_size, checkpoints_at, checkpoints_end}
use Rattle.base_tables.specs.Description.{columns_in, rows_in, kind_in, full_in, description_in, column_place_in, cell_in}

-- where that of column c of table n - 1 stands; a table has at most 8
abbrev pub checkpoint_at : ℕ → ℕ → ℕ
checkpoint_at n c = checkpoints_at - 8 + 8 * n + c

abbrev pub checkpoint_in : List ℕ → ℕ → ℕ → ℕ
checkpoint_in s n c = slice_index s (checkpoint_at n c)

-- the two rows
abbrev pub first_row : ℕ
first_row = 352

abbrev pub second_row : ℕ
second_row = 704

-- a table by columns that reaches to the first of them
unfoldable pub tall_in : ℕ → Bool
tall_in w = pick (kind_in w == 1) (nat_le first_row (rows_in w)) false

-- the cells above these rows of column c, one behind the other
unfoldable pub checkpoint_of : Bytes → ℕ → ℕ → ℕ
checkpoint_of d w c = summed d (column_place_in w c) first_row + 2 ^ 32 * summed d (column_place_in w c) second_row

-- every column of such a table has its checkpoint
pub record Checkpointed (d : Bytes) (s : List ℕ) : Type 0 where
  pub each : (n c : ℕ) → c < 8 → tall_in (description_in s n) ≡ true → checkpoint_in s n c ≡ checkpoint_of d (description_in s n) c

-- whether the cell in row r and column c is read by a checkpoint: it stands behind the first of the rows, of which none is left out
unfoldable pub uses_checkpoint : ℕ → ℕ → ℕ → Bool
uses_checkpoint w r c = pick (nat_lt r (rows_in w)) (pick (nat_lt c (columns_in w)) (pick (nat_lt c 8) (pick (nat_le first_row r) (pick (kind_in w == 1) (full_in w) false) false) false) false) false

-- the number of its four bytes, by the checkpoint m
unfoldable pub checkpointed_word : Bytes → ℕ → ℕ → ℕ → ℕ → ℕ
checkpointed_word d w m r c =
    pick (nat_lt r second_row)
    (plus (m % 2 ^ 32) (summed d (column_place_in w c + 4 * first_row) (r + 1 - first_row)))
    (plus (m / 2 ^ 32) (summed d (column_place_in w c + 4 * second_row) (r + 1 - second_row)))

-- the cell in row r and column c of table n - 1; where scratch is checkpointed it is `cell_in`
unfoldable pub checkpointed_cell_in : Bytes → List ℕ → ℕ → ℕ → ℕ → ℤ
checkpointed_cell_in d s n r c =
    let w = description_in s n in
    pick (uses_checkpoint w r c) (signed (checkpointed_word d w (checkpoint_in s n c) r c)) (cell_in d w r c)

-- table n - 1 is checkpointed, and every other word is as before
pub record CheckpointTablePost (d : Bytes) (s : List ℕ) (n : ℕ) (s' : List ℕ) : Type 0 where
  pub long : length s' ≡ length s
  pub below : (j : ℕ) → j < checkpoint_at n 0 → slice_index s' j ≡ slice_index s j
  pub behind : (j : ℕ) → checkpoint_at n 8 ≤ j → slice_index s' j ≡ slice_index s j
  pub checkpoints : scratch_size ≤ length s → (c : ℕ) → c < 8 → tall_in (description_in s n) ≡ true → checkpoint_in s' n c ≡ checkpoint_of d (description_in s n) c

-- all are
pub record CheckpointTablesPost (d : Bytes) (s s' : List ℕ) : Type 0 where
  pub long : length s' ≡ length s
  pub below : (j : ℕ) → j < checkpoints_at → slice_index s' j ≡ slice_index s j
  pub behind : (j : ℕ) → checkpoints_end ≤ j → slice_index s' j ≡ slice_index s j
  pub checkpointed : scratch_size ≤ length s → Checkpointed d s'

pub record CheckpointedCellPost (d : Bytes) (s : List ℕ) (n r c : ℕ) (z : ℤ) : Type 0 where
  pub is : z ≡ checkpointed_cell_in d s n r c
  pub small : unsigned_abs z ≤ 2 ^ 31
