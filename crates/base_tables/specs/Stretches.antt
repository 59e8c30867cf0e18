-- Rows of a table one behind another: a table of their own, whose first cell stands further on.
use Rattle.std.specs.Prelude.{◌≡◌, ℕ, ◌+◌, ◌^◌, ◌<◌, ◌≤◌}
use Rattle.spec_encoding.specs.Record.{Bytes}
use Rattle.base_tables.specs.Description.{columns_in, rows_in, kind_in, subset_in, position_in, cell_in}

-- by rows, all of them, and a position that can be moved
pub record Stretchable (w : ℕ) : Type 0 where
  pub by_rows : kind_in w ≡ 0
  pub full : subset_in w ≡ 0
  pub low : position_in w < 2 ^ 33

pub record StretchPre (w f m : ℕ) : Type 0 where
  pub table : Stretchable w
  pub inside : f + m ≤ rows_in w

-- v describes m rows of it from row f on
pub record StretchPost (w f m v : ℕ) : Type 0 where
  pub rows : rows_in v ≡ m
  pub columns : columns_in v ≡ columns_in w
  pub cell : (d : Bytes) (r c : ℕ) → r < m → cell_in d v r c ≡ cell_in d w (f + r) c
