-- The outcome of the call that pairs two logs (document 02, E11), from what it is lent: data, the numbers of the two tables, a tolerance, a target.
use Rattle.std.specs.Prelude.{◌≡◌, List, map, Bool, true, false, ◌&&◌, ℕ, ◌+◌, ◌*◌, ◌≤◌, leb, length, take}
use Rattle.spec_calculus.specs.Syntax.{Collection, list, bag, set}
use Rattle.spec_calculus.specs.Value.{as_int, field_of, Tables, kind_of, is_there, rows_of}
use Rattle.spec_encoding.specs.Record.{Bytes, Result, got, and_then, require}
use Rattle.spec_encoding.specs.Data.{read_data}
use Rattle.spec_outcome.specs.Directions.{Filled, filled}
use Rattle.spec_logs.specs.Logs.{Log, never_falls, Pair, paired}
use Rattle.spec_logs.specs.Pairing.{Pairing}
use Rattle.spec_logs.specs.Records.{records, paired_tables}

-- "seconds in column 0"
unfoldable pub log_of : Tables → ℕ → Log
log_of T k = map (λ v. as_int (field_of 0 v)) (rows_of T k)

unfoldable pub is_list : Collection → Bool
is_list list = true
is_list bag = false
is_list set = false

-- neither "a time column that falls" nor "a table that is absent or not a list", which are 53
unfoldable pub is_log : Tables → ℕ → Bool
is_log T k = is_there T k && (is_list (kind_of T k) && never_falls (log_of T k))

-- tables m and n of the data d, tolerance t, target b: "53 ..; 54, a tolerance outside its range; then 52 for this buffer; in that order, after the data"
unfoldable pub paired_logs : Bytes → ℕ → ℕ → ℕ → Bytes → Result Bytes
paired_logs d m n t b =
    and_then (read_data d) λ T.
    let l = records (paired t (log_of T m) (log_of T n)) in
    require 53 (is_log T m && is_log T n)
    (require 54 (leb t 3600)
    (require 52 (leb (length l) (length b))
    (got l)))

-- "with the buffer unchanged, as are bytes behind an answer"
unfoldable pub pair_logs : Bytes → ℕ → ℕ → ℕ → Bytes → Filled
pair_logs d m n t b = filled b (paired_logs d m n t b)

-- What an answer is, k bytes at the front of c: "two list tables .. neither falling", a tolerance in its range; the bytes are read as the tables of pairs and
-- singles; "no pairing within the tolerance has more pairs" than table 5 has rows
pub record LogsPaired (d : Bytes) (m n t k : ℕ) (c : Bytes) : Type 0 where
  pub tables : Tables
  pub read : read_data d ≡ got tables
  pub first_log : is_log tables m ≡ true
  pub second_log : is_log tables n ≡ true
  pub tolerance : t ≤ 3600
  pub long : k ≡ 43 + 4 * (length (rows_of tables m) + length (rows_of tables n))
  pub written : read_data (take k c) ≡ got (paired_tables (paired t (log_of tables m) (log_of tables n)))
  pub most : (q : List Pair) → Pairing t (log_of tables m) (log_of tables n) q → length q ≤ length (paired t (log_of tables m) (log_of tables n)).pairs
