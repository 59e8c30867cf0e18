-- One turn of the procedure: what becomes of the earliest rows left, and which are left then.
use Rattle.std.specs.Prelude.{ℕ, ◌+◌, ◌≤◌, leb, ℤ}
use Rattle.std.specs.Int.Signed.{lt_z}
use Rattle.spec_calculus.specs.Lists.{pick}
use Rattle.spec_encoding.specs.Record.{Bytes, signed}
use Rattle.spec_logs.specs.Logs.{near}
use Rattle.base_tables.specs.Description.{rows_in}
use Rattle.base_logs.specs.declared.Move.{Move}
use Rattle.base_logs.specs.declared.Move.TheVariants.{Pair, First, Second}
use Rattle.base_logs.specs.declared.Rows.{Rows}
use Rattle.base_logs.specs.Times.{word_below}

-- two described tables and a tolerance in their ranges
pub record LogsPre (a b t : ℕ) : Type 0 where
  pub first_few : rows_in a ≤ 1024
  pub second_few : rows_in b ≤ 1024
  pub tolerance : t ≤ 3600

unfoldable pub times_move : ℕ → ℤ → ℤ → Move
times_move t x y = pick (near t x y) Pair (pick (lt_z x y) First Second)

-- of logs of m and n rows
unfoldable pub rows_move : ℕ → ℕ → ℕ → Rows → Move
rows_move t m n r = pick (leb m r.i) Second (pick (leb n r.j) First (times_move t (signed r.x) (signed r.y)))

-- the rows of the descriptions a and b in the data d
unfoldable pub first_rows : Bytes → ℕ → ℕ → Rows
first_rows d a b = record { i = 0; x = word_below d a 0 0; j = 0; y = word_below d b 0 0 }

unfoldable pub rows_after : Bytes → ℕ → ℕ → Rows → Move → Rows
rows_after d a b r Pair = record { i = r.i + 1; x = word_below d a (r.i + 1) r.x; j = r.j + 1; y = word_below d b (r.j + 1) r.y }
rows_after d a b r First = record { i = r.i + 1; x = word_below d a (r.i + 1) r.x; j = r.j; y = r.y }
rows_after d a b r Second = record { i = r.i; x = r.x; j = r.j + 1; y = word_below d b (r.j + 1) r.y }

-- how many pairs a move makes
unfoldable pub pairs_in : Move → ℕ
pairs_in Pair = 1
pairs_in First = 0
pairs_in Second = 0
