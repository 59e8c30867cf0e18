-- One law for each way out behind the front end: 28, and the accepted question.
use mathlib.Core.Path.{◌≡◌, sym, ap, subst, ◌∙◌}
use mathlib.Core.List.{List}
use mathlib.Core.Bool.{Bool, true, false}
use mathlib.Core.Logic.{inl, inr}
use Prim.Native.Nat.{ℕ, ◌+◌, ◌-◌, ◌≤◌, ◌<◌}
use native.Mathlib.Omega.{arith}
use lib.ListN.{length, get_or}
use Rattle.std.proofs.Common.{Ok, Err}
use Rattle.std.specs.Bool.{⊤}
use Rattle.spec_calendar.specs.Hours.{Calendar, Calendars, calendar_of}
use Rattle.spec_calculus.specs.Syntax.{Question}
use Rattle.spec_hours.specs.CalendarBytes.{most_calendars, calendars_of}
use Rattle.spec_checks.specs.Scope.{names_hold}
use Rattle.spec_calculus.specs.Value.{Tables, kind_of, bound_of}
use Rattle.spec_encoding.specs.Record.{Bytes, got}
use Rattle.spec_normal_form.specs.Form.{NormalForm, as_form}
use Rattle.spec_normal_form.specs.Normal.{normal}
use Rattle.spec_normal_form.specs.Bound.{numbers_fit}
use Rattle.spec_normal_form.specs.Size.{size_fits}
use Rattle.spec_normal_form.proofs.Lending.{lend_f}
use Rattle.spec_normal_form.proofs.GeneratorNumbers.{Numbered, normal-numbered}
use Rattle.spec_normal_form.proofs.GeneratorTables as Ge
use Rattle.spec_outcome.specs.Acceptance.{Lent, lent_as, read_lent, Accepted, judge, examine}
use Rattle.spec_outcome.proofs.CheckOrder.{judged-as, question-read}
use Rattle.base_refusals.specs.declared.Refusal.{Refusal}
use Rattle.base_refusals.specs.declared.Refusal.TheVariants.{NumberOutOfBounds}
use Rattle.front_parser.specs.RecordFront.{Outcome}
use Rattle.base_scratch.specs.ZeroedWords.{WipePost}
use Rattle.base_tables.specs.DataReader.{Stored}
use Rattle.base_tables.proofs.TableWords.{stored_same}
use Rattle.base_checkpoints.specs.Checkpoints.{Checkpointed, CheckpointTablesPost}
use Rattle.base_checkpoints.proofs.Laws.{checkpointed-same}
use Rattle.base_scratch.specs.Map.{scratch_size, form_at, form_words, env_at, calendars_at}
use Rattle.base_windows.specs.KeptCalendars.{calendar_in, kept_in}
use Rattle.base_windows.proofs.ReadBack.{calendars-same, kept-long, kept-below, kept_above, few-calendars, fitting, calendars-back}
use Rattle.form_words.specs.FormWords.{Fits, Holds, flat}
use Rattle.form_words.specs.FormWords as Fw
use Rattle.form_words.proofs.ReadBack.{length-flat, words-nodes, holds_kept}
use Rattle.front_emit.specs.WholeForm.{Writable, WriteFormPost}
use Rattle.front_emit.proofs.FormInScratch.{form-held}
use Rattle.front_emit.proofs.NormalFits.{normal-fits}
use Rattle.front_bounds.specs.CutBounds.{BoundFitsPost}
use Rattle.front_bounds.proofs.CutBounds.{verdict-is}
use Rattle.form_env.specs.Environment.{tables_in, Held, declared_in}
use Rattle.form_env.specs.NamedTables.{table_of, NameTablesPost, Named}
use Rattle.form_env.proofs.BoundRows.{empty-slot, tables-in, named-declared, held-read}
use Rattle.form_env.proofs.NamedTables.{Away, names-away, all_named, none-has-row, others-stay}
use Rattle.form_prepared.specs.PreparedQuestion.{Prepared}
use Rattle.front_end.specs.LoadedQuestion.{BehindKept}
use Rattle.front_end.specs.PartContracts.{Fine, FrontBy, FrontEndPost}
use Rattle.front_end.specs.PrepareContract.{PreparePost, FormedPost}
use Rattle.front_end.proofs.PassChain.{apart-then}
use Rattle.front_end.proofs.AcceptedRanges.{read-ranges}
use Rattle.front_end.proofs.LentChecks.{calendars-read, lent, form, form-is, names as lent-names, size as lent-size, numbers-decide, passes}
use Rattle.front_end.proofs.LentForm.{fits-lent, all-lent, flat-lent}
use Rattle.front_end.proofs.MeasuredRoot.{small-form}

-- s₁ has the normal form, s₀ nothing below it but the tables, s₄ their columns' checkpoints too, s₂ the calendars too, s₃ also the generators' tables
module _ {d : Bytes} {l : Lent} {s s₁ s₀ s₄ s₂ s₃ : List ℕ} {n k : ℕ} {a : Bool} (F : Fine d l s n) (W : WriteFormPost s (n - 1) s₁ k) (long : length s₁ ≡ length s) (Z : WipePost 16 form_at s₁ s₀)
    (M : CheckpointTablesPost d s₀ s₄) (E : s₂ ≡ kept_in (calendar_of (calendars_of l.calendars)) s₄) (N : NameTablesPost s₂ s₃) (B : BoundFitsPost (declared_in d s₃) s₃ a) where
  abbrev T : Tables
  T = F.tables

  abbrev C : Calendars
  C = calendars_of l.calendars

  abbrev K : ℕ → Calendar
  K = calendar_of C

  -- what keeping the calendars leaves
  kept_low : (j : ℕ) → j < calendars_at → get_or s₂ j 0 ≡ get_or s₄ j 0
  kept_low j h = ap (λ t. get_or t j 0) E ∙ kept-below K s₄ (fitting l.calendars F.fit) j h

  kept_high : (j : ℕ) → scratch_size ≤ j → get_or s₂ j 0 ≡ get_or s₄ j 0
  kept_high j h = ap (λ t. get_or t j 0) E ∙ kept_above K s₄ (fitting l.calendars F.fit) j h

  kept-size : length s₂ ≡ length s₄
  kept-size = ap length E ∙ kept-long K s₄

  abbrev q : Question
  q = F.question

  -- the normal form of the question as it was read, and with the calendars lent to it
  abbrev g : NormalForm
  g = normal (kind_of T) q

  abbrev f : NormalForm
  f = form T C q

  lent-form : as_form f ≡ lend_f K (as_form g)
  unfolding lend_f
  lent-form = ap as_form (form-is T C q)

  same-words : flat (as_form f) ≡ flat (as_form g)
  same-words = ap flat lent-form ∙ flat-lent K (as_form g)

  names : names_hold (lent T C q) ≡ true
  names = lent-names T C q F.passed.ready.names

  size : size_fits f ≡ true
  size = lent-size T C q F.passed.size

  few-lent : length C ≤ 256
  unfolding calendars_of
  few-lent = omega (arith, few-calendars most_calendars l.calendars)

  fits : Fits (as_form f)
  fits = subst Fits (sym lent-form) (fits-lent K (as_form g) (normal-fits (kind_of T) q F.passed.ready.names
      (read-ranges d l.question F.passed.ready.loaded.tables F.asked few-lent F.passed.calendars F.passed.generators) (small-form g F.passed.size)))

  few : length (flat (as_form f)) ≤ form_words
  few = omega (arith, words-nodes (as_form f), small-form f size)

  written : k ≤ form_words
  written = omega (arith, (form-held s (n - 1) F.passed.form W).1, length-flat (as_form g), ap length same-words, few)

  wiped : Holds s₂ 0 (flat (as_form f))
  wiped = subst (Holds s₂ 0) (sym same-words)
      (holds_kept s₁ s₂ (flat (as_form g)) 0
      (λ j h i.
      kept_low (form_at + j) (omega (arith, i, ap length same-words, few)) ∙ M.below (form_at + j) (omega (arith, i, ap length same-words, few)) ∙ Z.outside (form_at + j) (inr (omega arith)))
      (form-held s (n - 1) F.passed.form W).0)

  named : Away s₂ s₃
  named = names-away N

  held : Holds s₃ 0 (flat (as_form f))
  held = holds_kept s₂ s₃ (flat (as_form f)) 0 (λ j h i. named.high j) wiped

  away : BehindKept s s₃
  away = record {
    long = named.long ∙ kept-size ∙ M.long ∙ Z.long ∙ long;
    above = λ j h.
        let e : form_at + (j - form_at) ≡ j = omega arith in
        subst (λ (i : ℕ). get_or s₃ i 0 ≡ get_or s₂ i 0) e (named.high (j - form_at)) ∙ kept_high j h ∙ M.behind j (omega arith) ∙ Z.outside j (inr (omega arith)) ∙ W.kept j (inr (omega (arith, written, h)));
  }

  front : (j : ℕ) → j < 16 → get_or s₃ j 0 ≡ get_or s j 0
  front j h = named.low j h ∙ kept_low j (omega arith) ∙ M.below j (omega arith) ∙ Z.outside j (inl h) ∙ W.kept j (inl (omega arith))

  stored : Stored d s₃
  stored = stored_same s₃ (λ j h. front j (omega arith)) F.passed.ready.loaded.stored

  checkpointed : Checkpointed d s₃
  checkpointed = checkpointed-same s₃ (λ j h. named.low j (omega arith) ∙ kept_low j (omega arith))
      (λ j h q. let e : form_at + (j - form_at) ≡ j = omega arith in subst (λ (i : ℕ). get_or s₃ i 0 ≡ get_or s₂ i 0) e (named.high (j - form_at)) ∙ kept_low j (omega arith))
      (M.checkpointed (omega (arith, Z.long, long, F.passed.ready.loaded.long)))

  room : scratch_size ≤ length s₂
  room = omega (arith, kept-size, M.long, Z.long, long, F.passed.ready.loaded.long)

  -- the calendars stand there
  hours : calendar_in s₃ ≡ K
  hours = calendars-same s₃ s₂ (λ j h. subst (λ (i : ℕ). get_or s₃ i 0 ≡ get_or s₂ i 0) (let e : form_at + (j - form_at) ≡ j = omega arith in e) (named.high (j - form_at)))
      ∙ ap calendar_in E ∙ calendars-back l.calendars F.fit s₄ (omega (arith, M.long, Z.long, long, F.passed.ready.loaded.long))

  all_there : Fw.CalendarsIn (calendar_in s₃) (as_form f)
  all_there = subst (λ (X : ℕ → Calendar). Fw.CalendarsIn X (as_form f)) (sym hours) (subst (Fw.CalendarsIn K) (sym lent-form) (all-lent K (as_form g)))

  numbered : Numbered (as_form f) 0
  numbered = normal-numbered (kind_of T) (lent T C q) names

  all-ranges : Named (table_of s₃) (as_form f)
  all-ranges = all_named (as_form f) N (omega (arith, room)) fits few wiped (small-form f size) numbered

  tables-are : tables_in d ≡ T
  tables-are = tables-in d F.passed.ready.loaded.tables

  data-held : Held d (tables_in d) s₃
  data-held = held-read (F.passed.ready.loaded.tables ∙ ap got (sym tables-are)) stored checkpointed (omega (arith, named.long, room))

  said : a ≡ numbers_fit (bound_of T) f
  said = verdict-is B (bound_of T) f numbered (subst (λ (X : Tables). Ge.Named (declared_in d s₃) (bound_of X) (as_form f)) tables-are (named-declared data-held (as_form f) all-ranges)) fits all_there few held

  read : read_lent l ≡ got (record { lent = length C; question = lent T C q })
  read = question-read l (calendars-read l.calendars F.fit) F.asked

  judged : examine d l ≡ judge T (length C) (lent T C q)
  judged = judged-as d l F.passed.ready.loaded.tables read

  too-great : a ≡ false → PreparePost d l s s₃ (Err NumberOutOfBounds)
  too-great e = record {
    is = judged ∙ numbers-decide T C q F.passed.ready.names F.passed.types F.passed.calendars F.passed.generators F.passed.size (sym said ∙ e);
    away = away;
  }

  module _ (e : a ≡ true) where
    abbrev whole : Accepted
    whole = record { tables = T; lent = length C; question = lent T C q; form = f }

    passes-all : judge T (length C) (lent T C q) ≡ got whole
    passes-all = passes T C q F.passed.ready.names F.passed.types F.passed.calendars F.passed.generators F.passed.size (sym said ∙ e)

    prepared : Prepared d whole s₃
    prepared = record {
      tables = F.passed.ready.loaded.tables;
      judged = passes-all;
      stored = stored;
      checkpointed = checkpointed;
      fits = fits;
      lent = all_there;
      few = few;
      held = held;
      named = all-ranges;
      rowless = none-has-row (as_form f) N (omega (arith, room)) fits few wiped (small-form f size) numbered
          (λ g. inl (empty-slot s₂ g (λ h. kept_low (env_at + g) (omega arith) ∙ M.below (env_at + g) (omega (arith, h)) ∙ Z.inside (env_at + g) (omega arith) (omega (arith, h)))));
      blank = λ j h i. others-stay (as_form f) N (omega (arith, room)) fits few wiped (small-form f size) numbered j h ∙ kept_low j (omega arith) ∙ M.below j (omega (arith, i)) ∙ Z.inside j (omega (arith, h)) i;
      long = omega (arith, named.long, room);
    }

    accepts : PreparePost d l s s₃ (Ok tt)
    accepts = record {
      is = record { accepted = whole; read = read; is = judged ∙ passes-all; prepared = prepared };
      away = away;
    }

-- ---- the ways out
module _ {d c : Bytes} {s s₁ s₀ s₄ s₂ s₃ : List ℕ} {n k : ℕ} {a : Bool} (W : WriteFormPost s (n - 1) s₁ k) (long : length s₁ ≡ length s) (Z : WipePost 16 form_at s₁ s₀)
    (M : CheckpointTablesPost d s₀ s₄) (E : s₂ ≡ kept_in (calendar_of (calendars_of c)) s₄) (N : NameTablesPost s₂ s₃) (B : BoundFitsPost (declared_in d s₃) s₃ a) where
  pub bound-over : a ≡ false → FormedPost d c s s₃ n (Err NumberOutOfBounds)
  bound-over e = record { is = λ l F. too-great F W long Z M E N B e }

  pub all_pass : a ≡ true → FormedPost d c s s₃ n (Ok tt)
  all_pass e = record { is = λ l F. accepts F W long Z M E N B e }

module _ {d c q : Bytes} {s t : List ℕ} {x : Outcome ℕ} (P : FrontEndPost d (lent_as c q) s t x) where
  abbrev l : Lent
  l = lent_as c q

  pub refused-before : {k : Refusal} → x ≡ Err k → PreparePost d l s t (Err k)
  refused-before e = record { is = (subst (FrontBy d l t) e P.is).0; away = P.away }

  pub fine : {n : ℕ} → x ≡ Ok n → Fine d l t n
  fine e = subst (FrontBy d l t) e P.is

  pub root-may : {n : ℕ} → x ≡ Ok n → (1 ≤ n) × Writable t (n - 1)
  root-may e = ((fine e).passed.ready.loaded.some, (fine e).passed.writable)

  pub then-formed : {n : ℕ} → x ≡ Ok n → {u : List ℕ} {r : Outcome ⊤} → FormedPost d c t u n r → PreparePost d l s u r
  then-formed e G = let Q = G.is q (fine e) in record { is = Q.is; away = apart-then P.away Q.away }
