-- The checks in their order: "the data ..; 21; 22 and 23 in reading order ..; then 24 to 28 by number, each over the whole
-- question". "41 .. after all data refusals" (document 02, E4), so before 21: a reading;
-- "42, a calendar not lent, after 25 in a question". "A question is accepted over tables where
-- the checker, with scratch enough, answers 0."
use Rattle.std.specs.Prelude.{ℕ, length}
use Rattle.spec_calendar.specs.Hours.{calendar_of}
use Rattle.spec_calculus.specs.Syntax.{Question}
use Rattle.spec_calculus.specs.Lending.{lend}
use Rattle.spec_calculus.specs.Value.{Tables, kind_of, bound_of}
use Rattle.spec_encoding.specs.Record.{Bytes, Result, got, and_then, require}
use Rattle.spec_encoding.specs.Data.{read_data}
use Rattle.spec_encoding.specs.Reader.{read_question}
use Rattle.spec_hours.specs.CalendarBytes.{read_calendars}
use Rattle.spec_checks.specs.Scope.{names_hold}
use Rattle.spec_checks.specs.Types.{types_fit, generators_fit}
use Rattle.spec_checks.specs.Calendars.{calendars_lent}
use Rattle.spec_normal_form.specs.Form.{NormalForm}
use Rattle.spec_normal_form.specs.Normal.{normal}
use Rattle.spec_normal_form.specs.Size.{size_fits}
use Rattle.spec_normal_form.specs.Bound.{numbers_fit}

-- what is lent beside the data: the calendars, "in a buffer of their own" (document 02, E4), and the question
pub record Lent : Type 0 where
  pub calendars : Bytes
  pub question : Bytes

abbrev pub lent_as : Bytes → Bytes → Lent
lent_as c l = record { calendars = c; question = l }

-- how many calendars are lent, and the question, each kind 21 in it standing for the calendar of its number
pub record Posed : Type 0 where
  pub lent : ℕ
  pub question : Question

-- "41, a calendar record that breaks this layout or a fifth one"; "21; 22 and 23 in reading order"
unfoldable pub read_lent : Lent → Result Posed
read_lent l = and_then (read_calendars l.calendars) (λ C. and_then (read_question l.question) (λ q. got (record { lent = length C; question = lend (calendar_of C) q })))

-- what the checks hand on: built by `judge` alone
pub record Accepted : Type 0 where
  pub tables : Tables
  pub lent : ℕ
  pub question : Question
  pub form : NormalForm

abbrev pub posed_of : Accepted → Posed
posed_of a = record { lent = a.lent; question = a.question }

-- a question that was read, over tables, where k calendars are lent
unfoldable pub judge : Tables → ℕ → Question → Result Accepted
judge T k q =
    let f = normal (kind_of T) q in
    require 24 (names_hold q)
    (require 25 (types_fit T q)
    (require 42 (calendars_lent k q)
    (require 26 (generators_fit T q)
    (require 27 (size_fits f)
    (require 28 (numbers_fit (bound_of T) f)
    (got (record { tables = T; lent = k; question = q; form = f })))))))

unfoldable pub examine : Bytes → Lent → Result Accepted
examine d l = and_then (read_data d) (λ T. and_then (read_lent l) (λ p. judge T p.lent p.question))
