-- How many columns the table of a generator has: the table that its slot names.
use Rattle.std.specs.Prelude.{List, ℕ}
use Rattle.base_tables.specs.Description.{columns_in, description_in}
use Rattle.form_env.specs.NamedTables.{table_of}

unfoldable pub columns : List ℕ → ℕ → ℕ
columns s g = columns_in (description_in s (table_of s g))
