-- The checks on a question with calendars lent to it, by what they find of the question as it was read.
use mathlib.Core.Path.{◌≡◌, ap, ◌∙◌}
use mathlib.Core.Bool.{Bool, true, false}
use lib.ListN.{length}
use Rattle.spec_calendar.specs.Hours.{Calendars, calendar_of}
use Rattle.spec_calculus.specs.Syntax.{Question}
use Rattle.spec_calculus.specs.Lending.{lend}
use Rattle.spec_calculus.specs.Value.{Tables, kind_of, bound_of}
use Rattle.spec_encoding.specs.Record.{Bytes, refused, got, require}
use Rattle.spec_hours.specs.CalendarBytes.{calendars_fit, most_calendars, calendars_of, read_calendars}
use Rattle.spec_checks.specs.Scope.{names_hold}
use Rattle.spec_checks.specs.Types.{types_fit, generators_fit}
use Rattle.spec_checks.specs.Calendars.{calendars_lent}
use Rattle.spec_checks.proofs.Lending.{names-lent, fit-lent, generators-lent, calendars-lent}
use Rattle.spec_normal_form.specs.Form.{NormalForm}
use Rattle.spec_normal_form.specs.Normal.{normal}
use Rattle.spec_normal_form.specs.Size.{size_fits}
use Rattle.spec_normal_form.specs.Bound.{numbers_fit}
use Rattle.spec_normal_form.proofs.Lending.{lend_n, normal-lent, size-lent}
use Rattle.spec_outcome.specs.Acceptance.{judge}
use Rattle.spec_outcome.proofs.CheckOrder as Ck

-- ---- the calendars
pub calendars-read : (l : Bytes) → calendars_fit most_calendars l ≡ true → read_calendars l ≡ got (calendars_of l)
unfolding read_calendars require
calendars-read l e = ap (λ b. require 41 b (got (calendars_of l))) e

pub calendars-broken : (l : Bytes) → calendars_fit most_calendars l ≡ false → read_calendars l ≡ refused 41
unfolding read_calendars require
calendars-broken l e = ap (λ b. require 41 b (got (calendars_of l))) e

-- ---- the question
module _ (T : Tables) (C : Calendars) (q : Question) where
  abbrev pub lent : Question
  lent = lend (calendar_of C) q

  pub names : {b : Bool} → names_hold q ≡ b → names_hold lent ≡ b
  names e = names-lent (calendar_of C) q ∙ e

  types : {b : Bool} → types_fit T q ≡ b → types_fit T lent ≡ b
  types e = fit-lent (calendar_of C) T q ∙ e

  calendars : {b : Bool} → calendars_lent (length C) q ≡ b → calendars_lent (length C) lent ≡ b
  calendars e = calendars-lent (calendar_of C) (length C) q ∙ e

  generators : {b : Bool} → generators_fit T q ≡ b → generators_fit T lent ≡ b
  generators e = generators-lent (calendar_of C) T q ∙ e

  abbrev pub form : NormalForm
  form = normal (kind_of T) lent

  pub form-is : form ≡ lend_n (calendar_of C) (normal (kind_of T) q)
  form-is = normal-lent (calendar_of C) (kind_of T) q

  pub size : {b : Bool} → size_fits (normal (kind_of T) q) ≡ b → size_fits form ≡ b
  size e = ap size_fits form-is ∙ size-lent (calendar_of C) (normal (kind_of T) q) ∙ e

  pub names-decide : names_hold q ≡ false → judge T (length C) lent ≡ refused 24
  names-decide a = Ck.names-decide T (length C) lent (names a)

  module _ (a : names_hold q ≡ true) where
    pub types-decide : types_fit T q ≡ false → judge T (length C) lent ≡ refused 25
    types-decide b = Ck.types-decide T (length C) lent (names a) (types b)

    module _ (b : types_fit T q ≡ true) where
      pub calendars-decide : calendars_lent (length C) q ≡ false → judge T (length C) lent ≡ refused 42
      calendars-decide v = Ck.calendars-decide T (length C) lent (names a) (types b) (calendars v)

      module _ (v : calendars_lent (length C) q ≡ true) where
        pub generators-decide : generators_fit T q ≡ false → judge T (length C) lent ≡ refused 26
        generators-decide c = Ck.generators-decide T (length C) lent (names a) (types b) (calendars v) (generators c)

        module _ (c : generators_fit T q ≡ true) where
          pub size-decides : size_fits (normal (kind_of T) q) ≡ false → judge T (length C) lent ≡ refused 27
          size-decides e = Ck.size-decides T (length C) lent (names a) (types b) (calendars v) (generators c) (size e)

          module _ (e : size_fits (normal (kind_of T) q) ≡ true) where
            pub numbers-decide : numbers_fit (bound_of T) form ≡ false → judge T (length C) lent ≡ refused 28
            numbers-decide g = Ck.numbers-decide T (length C) lent (names a) (types b) (calendars v) (generators c) (size e) g

            pub passes : numbers_fit (bound_of T) form ≡ true → judge T (length C) lent ≡ got (record { tables = T; lent = length C; question = lent; form = form })
            passes g = Ck.passes T (length C) lent (names a) (types b) (calendars v) (generators c) (size e) g
