-- What `row` gives.
use Rattle.std.specs.Prelude.{◌≡◌, List, ℕ, ℤ}
use Rattle.spec_encoding.specs.Record.{Bytes}
use Rattle.form_env.specs.Environment.{env_of, tables_in, Held}
use Rattle.answer_writer.specs.LaidWords.{pt, lays, cut_words}

-- the row of generator g
pub record RowPost (d : Bytes) (s : List ℕ) (lim : ℕ) (o : List ℤ) (g p : ℕ) (o' : List ℤ) (r : ℕ) : Type 0 where
  pub is : Held d (tables_in d) s → pt o' r ≡ lays lim (cut_words (env_of (tables_in d) s g)) (pt o p)
