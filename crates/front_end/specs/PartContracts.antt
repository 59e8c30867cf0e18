-- What the parts of the front end ensure: the refusal that the definition gives, or a question that 24 to 27 let pass, in
-- scratch as the writer of its normal form needs it.
use Rattle.std.specs.Prelude.{◌≡◌, List, true, ℕ, ◌-◌, length, Ok, Err}
use Rattle.spec_calendar.specs.Hours.{Calendars, calendar_of}
use Rattle.spec_calculus.specs.Syntax.{Question}
use Rattle.spec_calculus.specs.Lending.{lend}
use Rattle.spec_calculus.specs.Value.{Tables, kind_of}
use Rattle.spec_encoding.specs.Record.{Bytes, refused, got}
use Rattle.spec_encoding.specs.Reader.{read_question}
use Rattle.spec_hours.specs.CalendarBytes.{calendars_fit, most_calendars, calendars_of}
use Rattle.spec_checks.specs.Types.{types_fit, generators_fit}
use Rattle.spec_checks.specs.Calendars.{calendars_lent}
use Rattle.spec_normal_form.specs.Form.{as_form}
use Rattle.spec_normal_form.specs.Normal.{normal}
use Rattle.spec_normal_form.specs.Size.{size_fits}
use Rattle.spec_outcome.specs.Acceptance.{Lent, judge, examine}
use Rattle.base_refusals.specs.Numbers.{number_of}
use Rattle.front_parser.specs.RecordFront.{Outcome}
use Rattle.front_emit.specs.WholeForm.{form_of, Writable}
use Rattle.front_end.specs.LoadedQuestion.{Loaded, ScopedQuestion, BehindKept}

-- 24 to 27 let the question pass; its last node may be written, and comes to the normal form
pub record PassedChecks (d : Bytes) (T : Tables) (C : Calendars) (q : Question) (s : List ℕ) (n : ℕ) : Type 0 where
  pub ready : ScopedQuestion d T q s n
  pub types : types_fit T q ≡ true
  pub calendars : calendars_lent (length C) q ≡ true
  pub generators : generators_fit T q ≡ true
  pub size : size_fits (normal (kind_of T) q) ≡ true
  pub writable : Writable s (n - 1)
  pub form : form_of s (n - 1) ≡ as_form (normal (kind_of T) q)

-- a refusal is one of these checks on the question with the calendars C lent to it, never 28
abbrev pub JudgedBy : Bytes → Tables → Calendars → Question → List ℕ → Outcome ℕ → Type 0
JudgedBy d T C q s (Err k) = (judge T (length C) (lend (calendar_of C) q) ≡ refused (number_of k)) × (number_of k ≡ 28 → ⊥)
JudgedBy d T C q s (Ok n) = PassedChecks d T C q s n

-- 27, where 24 to 26 and 42 hold
pub record SizedPost (s s' : List ℕ) (n : ℕ) (r : Outcome ℕ) : Type 0 where
  pub is : (d : Bytes) (T : Tables) (C : Calendars) (q : Question) → ScopedQuestion d T q s n → types_fit T q ≡ true → calendars_lent (length C) q ≡ true → generators_fit T q ≡ true → JudgedBy d T C q s' r
  pub away : BehindKept s s'

-- 25, 42, 26 and 27, where 24 holds and the calendars are those of the bytes c
pub record TypedPost (c : Bytes) (s s' : List ℕ) (n : ℕ) (r : Outcome ℕ) : Type 0 where
  pub is : (d : Bytes) (T : Tables) (q : Question) → ScopedQuestion d T q s n → JudgedBy d T (calendars_of c) q s' r
  pub away : BehindKept s s'

-- 24 to 27 and 42
pub record JudgedPost (c : Bytes) (s s' : List ℕ) (n : ℕ) (r : Outcome ℕ) : Type 0 where
  pub is : (d : Bytes) (T : Tables) (q : Question) → Loaded d T q s n → JudgedBy d T (calendars_of c) q s' r
  pub away : BehindKept s s'

-- data, calendars and a question that pass
pub record Fine (d : Bytes) (l : Lent) (s : List ℕ) (n : ℕ) : Type 0 where
  pub tables : Tables
  pub question : Question
  pub fit : calendars_fit most_calendars l.calendars ≡ true
  pub asked : read_question l.question ≡ got question
  pub passed : PassedChecks d tables (calendars_of l.calendars) question s n

abbrev pub FrontBy : Bytes → Lent → List ℕ → Outcome ℕ → Type 0
FrontBy d l s (Err k) = (examine d l ≡ refused (number_of k)) × (number_of k ≡ 28 → ⊥)
FrontBy d l s (Ok n) = Fine d l s n

pub record FrontEndPost (d : Bytes) (l : Lent) (s s' : List ℕ) (r : Outcome ℕ) : Type 0 where
  pub is : FrontBy d l s' r
  pub away : BehindKept s s'
