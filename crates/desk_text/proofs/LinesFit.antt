-- The plan of every accepted question fits into the desk's buffer, calendars lent or not.
use mathlib.Core.Path.{◌≡◌, sym, ap, ap₂, subst, ◌∙◌}
use mathlib.Core.Bool.{Bool, true, false}
use Prim.Native.Nat.{ℕ, ◌≤◌}
use native.Mathlib.Omega.{arith}
use borrow.Author.Tests.{leb-true}
use lib.ListN.{length}
use Rattle.spec_calendar.specs.Hours.{Calendar, Calendars, calendar_of}
use Rattle.spec_calculus.specs.Syntax.{Question}
use Rattle.spec_calculus.specs.Lending.{lend}
use Rattle.spec_calculus.specs.Value.{Tables, kind_of}
use Rattle.spec_encoding.specs.Record.{Bytes, Result, got, require}
use Rattle.spec_encoding.specs.Data.{read_data}
use Rattle.spec_encoding.specs.Reader.{read_question}
use Rattle.spec_hours.specs.CalendarBytes.{calendars_fit, most_calendars, calendars_of, read_calendars}
use Rattle.spec_checks.specs.Scope.{names_hold}
use Rattle.spec_checks.specs.Types.{generators_fit}
use Rattle.spec_checks.specs.Calendars.{calendars_lent}
use Rattle.spec_checks.proofs.Lending.{names-lent, generators-lent, calendars-lent}
use Rattle.spec_normal_form.specs.Form.{NormalForm, as_form}
use Rattle.spec_normal_form.specs.Normal.{normal}
use Rattle.spec_normal_form.specs.Size.{nodes, size_fits}
use Rattle.spec_normal_form.proofs.Lending.{lend_f, lend_n, normal-lent, size-lent}
use Rattle.form_words.specs.FormWords.{Fits}
use Rattle.spec_plan.specs.Planner.{plan_of}
use Rattle.spec_plan.specs.Lines.{lines}
use Rattle.spec_outcome.specs.Acceptance.{Lent, Posed, read_lent, Accepted, posed_of, judge, examine}
use Rattle.spec_outcome.proofs.Checks.{Passed, got-is, passed, handed, examined}
use Rattle.base_signed.proofs.SignedWords.{no}
use Rattle.base_windows.proofs.ReadBack.{few-calendars}
use Rattle.front_emit.proofs.NormalFits.{normal-fits}
use Rattle.front_end.proofs.AcceptedRanges.{read-ranges}
use Rattle.front_end.proofs.LentForm.{fits-lent}
use Rattle.spec_desk.specs.Desk.{plan_bytes}
use Rattle.desk_text.proofs.OperatorLengths.{lines-most}

-- what the checks hand on is what was read
module _ (T : Tables) (p : Posed) where
  abbrev Kept : Result Accepted → Type 0
  Kept r = (a : Accepted) → r ≡ got a → (a.tables ≡ T) × (posed_of a ≡ p)

  require-kept : (n : ℕ) (b : Bool) (r : Result Accepted) → Kept r → Kept (require n b r)
  unfolding require
  require-kept n true r k = k
  require-kept n false r k = λ a e. no (cc)

  got_kept : (f : NormalForm) → Kept (got (record { tables = T; lent = p.lent; question = p.question; form = f }))
  got_kept f a e =
      let h : record { tables = T; lent = p.lent; question = p.question; form = f } ≡ a = cc in
      (sym (ap (λ (x : Accepted). x.tables) h), sym (ap posed_of h))

  judge-kept : Kept (judge T p.lent p.question)
  unfolding judge
  judge-kept = require-kept 24 _ _ (require-kept 25 _ _ (require-kept 42 _ _ (require-kept 26 _ _ (require-kept 27 _ _ (require-kept 28 _ _ (got_kept _))))))

-- the calendars and the question of an accepted question, as they were read
record Reads (d : Bytes) (l : Lent) (a : Accepted) : Type 0 where
  calendars : Calendars
  asked : Question
  tables : read_data d ≡ got a.tables
  few : length calendars ≤ 256
  question : read_question l.question ≡ got asked
  posed : posed_of a ≡ record { lent = length calendars; question = lend (calendar_of calendars) asked }

few-read : (l : Bytes) (C : Calendars) → read_calendars l ≡ got C → length C ≤ 256
unfolding read_calendars calendars_of
few-read l C e =
    let h = passed 41 (calendars_fit most_calendars l) (got (calendars_of l)) C e in
    omega (arith, few-calendars most_calendars l, ap length (got-is (calendars_of l) C h.1))

accepted-reads : (d : Bytes) (l : Lent) (a : Accepted) → examine d l ≡ got a → Reads d l a
unfolding examine read_lent
accepted-reads d l a e =
    let t = handed (read_data d) _ a e in
    let p = handed (read_lent l) _ a t.1.1 in
    let c = handed (read_calendars l.calendars) _ p.0 p.1.0 in
    let q = handed (read_question l.question) _ p.0 c.1.1 in
    let k = judge-kept t.0 p.0 a p.1.1 in
    record {
      calendars = c.0;
      asked = q.0;
      tables = t.1.0 ∙ ap got (sym k.0);
      few = few-read l.calendars c.0 c.1.0;
      question = q.1.0;
      posed = k.1 ∙ sym (got-is _ p.0 q.1.1);
    }

-- the normal form is that of the question as it was read, the calendars lent to it: its numbers fit into its words
module _ (d : Bytes) (l : Lent) (a : Accepted) (P : Passed a) (R : Reads d l a) where
  abbrev K : ℕ → Calendar
  K = calendar_of R.calendars

  abbrev f : NormalForm
  f = normal (kind_of a.tables) R.asked

  question-is : a.question ≡ lend K R.asked
  question-is = ap (λ (p : Posed). p.question) R.posed

  lent_is : a.lent ≡ length R.calendars
  lent_is = ap (λ (p : Posed). p.lent) R.posed

  form-lent : a.form ≡ lend_n K f
  form-lent = P.form-is ∙ ap (normal (kind_of a.tables)) question-is ∙ normal-lent K (kind_of a.tables) R.asked

  numbers_fit_lem : Fits (as_form a.form)
  unfolding size_fits lend_f
  numbers_fit_lem =
      let names = sym (names-lent K R.asked) ∙ ap names_hold (sym question-is) ∙ P.names in
      let generators = sym (generators-lent K a.tables R.asked) ∙ ap (generators_fit a.tables) (sym question-is) ∙ P.generators in
      let calendars = sym (calendars-lent K (length R.calendars) R.asked) ∙ ap₂ calendars_lent (sym lent_is) (sym question-is) ∙ P.calendars in
      let size = sym (ap size_fits form-lent ∙ size-lent K f) ∙ P.size in
      subst (λ (g : NormalForm). Fits (as_form g)) (sym form-lent) (fits-lent K (as_form f)
      (normal-fits (kind_of a.tables) R.asked names
      (read-ranges d l.question R.tables R.question R.few calendars generators) (leb-true (nodes (as_form f)) 512 size)))

pub plan-room : (d : Bytes) (l : Lent) (a : Accepted) → examine d l ≡ got a → length (lines (plan_of a.form)) ≤ plan_bytes
plan-room d l a e =
    let P = examined d l a e in
    lines-most a.form (numbers_fit_lem d l a P (accepted-reads d l a e)) P.size
