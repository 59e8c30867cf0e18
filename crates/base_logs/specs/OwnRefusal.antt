-- The numbers that are the call's own, behind the data's: 53, 54, 52, or 0 for none.
use Rattle.std.specs.Prelude.{ℕ, ◌+◌, ◌*◌, leb}
use Rattle.spec_calculus.specs.Lists.{pick}
use Rattle.spec_encoding.specs.Record.{Bytes}
use Rattle.base_tables.specs.Description.{rows_in}
use Rattle.base_logs.specs.Times.{is_log_in}

-- of the tables that a and b describe in d, tolerance t, a target of so many bytes
unfoldable pub refusal_of : Bytes → ℕ → ℕ → ℕ → ℕ → ℕ
refusal_of d a b t room =
    pick (is_log_in d a) (pick (is_log_in d b) (pick (leb t 3600) (pick (leb (43 + 4 * (rows_in a + rows_in b)) room) 0 52) 54) 53) 53
