-- "Table records, then the question from the first record that is not a whole kind 20."; "the desk program's input take[s] kind 23 wherever [it names] 20" (document
-- 02, E10).
use Rattle.std.specs.Prelude.{ℕ, zero, suc, ◌+◌, length}
use Rattle.spec_calculus.specs.Lists.{pick}
use Rattle.spec_encoding.specs.Record.{Bytes, length_of, behind}
use Rattle.spec_encoding.specs.Data.{is_table}

-- how many bytes the table records at the front have, of at most f records
unfoldable pub table_bytes : ℕ → Bytes → ℕ
table_bytes zero l = 0
table_bytes (suc f) l = pick (is_table l) (4 + length_of l + table_bytes f (behind l)) 0

-- a record has four bytes or more: there are no more records than bytes
unfoldable pub tables_end : Bytes → ℕ
tables_end b = table_bytes (length b) b
