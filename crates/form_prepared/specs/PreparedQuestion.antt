-- An accepted question in scratch, as answering and planning find it: the tables' descriptions and their columns' checkpoints, each generator's table
-- in its slot, the words of the normal form, nothing else below them, and the calendars that it was lent.
use Rattle.std.specs.Prelude.{◌≡◌, List, ℕ, ◌≤◌, ◌<◌, length, get_or}
use Rattle.spec_encoding.specs.Record.{Bytes, got}
use Rattle.spec_encoding.specs.Data.{read_data}
use Rattle.spec_normal_form.specs.Form.{as_form}
use Rattle.spec_outcome.specs.Acceptance.{Accepted, judge}
use Rattle.base_tables.specs.DataReader.{Stored}
use Rattle.base_checkpoints.specs.Checkpoints.{Checkpointed}
use Rattle.base_scratch.specs.Map.{form_at, form_words, totals_at, scratch_size}
use Rattle.base_windows.specs.KeptCalendars.{calendar_in}
use Rattle.form_words.specs.FormWords.{Fits, CalendarsIn, Holds, flat}
use Rattle.form_env.specs.Environment.{slot_of}
use Rattle.form_env.specs.NamedTables.{Rowless, table_of, Named}

-- "A question is accepted over tables where the checker, with scratch enough, answers 0": the checks' result is a
pub record Prepared (d : Bytes) (a : Accepted) (s : List ℕ) : Type 0 where
  pub tables : read_data d ≡ got a.tables
  pub judged : judge a.tables a.lent a.question ≡ got a
  pub stored : Stored d s
  pub checkpointed : Checkpointed d s
  pub fits : Fits (as_form a.form)
  pub lent : CalendarsIn (calendar_in s) (as_form a.form)
  pub few : length (flat (as_form a.form)) ≤ form_words
  pub held : Holds s 0 (flat (as_form a.form))
  pub named : Named (table_of s) (as_form a.form)
  pub rowless : (g : ℕ) → Rowless (slot_of s g)
  pub blank : (j : ℕ) → totals_at ≤ j → j < form_at → get_or s j 0 ≡ 0
  pub long : scratch_size ≤ length s
