-- The checks one by one: which of them decides, in document 01's order.
use mathlib.Core.Path.{◌≡◌, ap, ◌∙◌}
use mathlib.Core.Bool.{Bool, true, false}
use Prim.Native.Nat.{ℕ}
use lib.ListN.{length}
use Rattle.spec_calendar.specs.Hours.{Calendars, calendar_of}
use Rattle.spec_calculus.specs.Syntax.{Question}
use Rattle.spec_calculus.specs.Lending.{lend}
use Rattle.spec_calculus.specs.Value.{Tables, kind_of, bound_of}
use Rattle.spec_encoding.specs.Record.{Bytes, Result, refused, got, and_then, require}
use Rattle.spec_encoding.specs.Data.{read_data}
use Rattle.spec_encoding.specs.Reader.{read_question}
use Rattle.spec_hours.specs.CalendarBytes.{read_calendars}
use Rattle.spec_checks.specs.Scope.{names_hold}
use Rattle.spec_checks.specs.Types.{types_fit, generators_fit}
use Rattle.spec_checks.specs.Calendars.{calendars_lent}
use Rattle.spec_normal_form.specs.Form.{NormalForm}
use Rattle.spec_normal_form.specs.Normal.{normal}
use Rattle.spec_normal_form.specs.Size.{size_fits}
use Rattle.spec_normal_form.specs.Bound.{numbers_fit}
use Rattle.spec_outcome.specs.Acceptance.{Lent, Posed, read_lent, Accepted, judge, examine}

-- broken data decides, then calendars or a question that cannot be read; else the question is judged over the tables
pub data-refused : (d : Bytes) (l : Lent) {k : ℕ} → read_data d ≡ refused k → examine d l ≡ refused k
unfolding examine and_then
data-refused d l e = ap (λ r. and_then r (λ T. and_then (read_lent l) (λ p. judge T p.lent p.question))) e

module _ (d : Bytes) (l : Lent) {T : Tables} (t : read_data d ≡ got T) where
  pub unread : {k : ℕ} → read_lent l ≡ refused k → examine d l ≡ refused k
  unfolding examine and_then
  unread e = ap (λ r. and_then r (λ U. and_then (read_lent l) (λ p. judge U p.lent p.question))) t ∙ ap (λ r. and_then r (λ p. judge T p.lent p.question)) e

  pub judged-as : {p : Posed} → read_lent l ≡ got p → examine d l ≡ judge T p.lent p.question
  unfolding examine and_then
  judged-as e = ap (λ r. and_then r (λ U. and_then (read_lent l) (λ p. judge U p.lent p.question))) t ∙ ap (λ r. and_then r (λ p. judge T p.lent p.question)) e

-- of what is lent beside the data, broken calendars decide, then a question that cannot be read
pub calendars-refused : (l : Lent) {k : ℕ} → read_calendars l.calendars ≡ refused k → read_lent l ≡ refused k
unfolding read_lent and_then
calendars-refused l e = ap (λ r. and_then r (λ C. and_then (read_question l.question) (λ q. got (record { lent = length C; question = lend (calendar_of C) q })))) e

module _ (l : Lent) {C : Calendars} (c : read_calendars l.calendars ≡ got C) where
  pub question-refused : {k : ℕ} → read_question l.question ≡ refused k → read_lent l ≡ refused k
  unfolding read_lent and_then
  question-refused e = ap (λ r. and_then r (λ D. and_then (read_question l.question) (λ q. got (record { lent = length D; question = lend (calendar_of D) q })))) c
      ∙ ap (λ r. and_then r (λ q. got (record { lent = length C; question = lend (calendar_of C) q }))) e

  pub question-read : {q : Question} → read_question l.question ≡ got q → read_lent l ≡ got (record { lent = length C; question = lend (calendar_of C) q })
  unfolding read_lent and_then
  question-read e = ap (λ r. and_then r (λ D. and_then (read_question l.question) (λ q. got (record { lent = length D; question = lend (calendar_of D) q })))) c
      ∙ ap (λ r. and_then r (λ q. got (record { lent = length C; question = lend (calendar_of C) q }))) e

-- a rule that holds leaves it to the next one
pub next : {A : Type 0} (n : ℕ) {b : Bool} (r : Result A) → b ≡ true → require n b r ≡ r
unfolding require
next n r e = ap (λ b. require n b r) e

stops : {A : Type 0} (n : ℕ) {b : Bool} (r : Result A) → b ≡ false → require n b r ≡ refused n
unfolding require
stops n r e = ap (λ b. require n b r) e

module _ (T : Tables) (k : ℕ) (q : Question) where
  abbrev form : NormalForm
  form = normal (kind_of T) q

  abbrev whole : Accepted
  whole = record { tables = T; lent = k; question = q; form = form }

  abbrev from28 : Result Accepted
  from28 = require 28 (numbers_fit (bound_of T) form) (got whole)

  abbrev from27 : Result Accepted
  from27 = require 27 (size_fits form) from28

  abbrev from26 : Result Accepted
  from26 = require 26 (generators_fit T q) from27

  abbrev from42 : Result Accepted
  from42 = require 42 (calendars_lent k q) from26

  abbrev from25 : Result Accepted
  from25 = require 25 (types_fit T q) from42

  pub names-decide : names_hold q ≡ false → judge T k q ≡ refused 24
  unfolding judge
  names-decide a = stops 24 from25 a

  module _ (a : names_hold q ≡ true) where
    pub types-decide : types_fit T q ≡ false → judge T k q ≡ refused 25
    unfolding judge
    types-decide b = next 24 from25 a ∙ stops 25 from42 b

    module _ (b : types_fit T q ≡ true) where
      pub calendars-decide : calendars_lent k q ≡ false → judge T k q ≡ refused 42
      unfolding judge
      calendars-decide v = next 24 from25 a ∙ next 25 from42 b ∙ stops 42 from26 v

      module _ (v : calendars_lent k q ≡ true) where
        pub generators-decide : generators_fit T q ≡ false → judge T k q ≡ refused 26
        unfolding judge
        generators-decide c = next 24 from25 a ∙ next 25 from42 b ∙ next 42 from26 v ∙ stops 26 from27 c

        module _ (c : generators_fit T q ≡ true) where
          pub size-decides : size_fits form ≡ false → judge T k q ≡ refused 27
          unfolding judge
          size-decides e = next 24 from25 a ∙ next 25 from42 b ∙ next 42 from26 v ∙ next 26 from27 c ∙ stops 27 from28 e

          module _ (e : size_fits form ≡ true) where
            abbrev at28 : judge T k q ≡ from28
            at28 = unfold judge in next 24 from25 a ∙ next 25 from42 b ∙ next 42 from26 v ∙ next 26 from27 c ∙ next 27 from28 e

            pub numbers-decide : numbers_fit (bound_of T) form ≡ false → judge T k q ≡ refused 28
            numbers-decide g = at28 ∙ stops 28 (got whole) g

            pub passes : numbers_fit (bound_of T) form ≡ true → judge T k q ≡ got whole
            passes g = at28 ∙ next 28 (got whole) g
