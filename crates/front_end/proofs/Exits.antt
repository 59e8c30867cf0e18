-- One law for each way out of the front end.
use mathlib.Core.Path.{◌≡◌, refl, sym, ap, subst, ◌∙◌}
use mathlib.Core.List.{List}
use mathlib.Core.Bool.{Bool, true, false}
use Prim.Native.Nat.{ℕ, ◌-◌, ◌≤◌, ◌<◌}
use native.Mathlib.Omega.{arith}
use lib.ListN.{length}
use Rattle.std.proofs.Common.{Ok, Err}
use borrow.Author.Tests.{le-leb, lt-leb}
use Rattle.spec_calendar.specs.Hours.{Calendars}
use Rattle.spec_calculus.specs.Syntax.{Question}
use Rattle.spec_calculus.specs.Value.{Tables}
use Rattle.spec_hours.specs.CalendarBytes.{calendars_fit, most_calendars, calendars_of}
use Rattle.spec_checks.specs.Calendars.{calendars_lent}
use Rattle.spec_outcome.specs.Acceptance.{Lent}
use Rattle.spec_encoding.specs.Record.{Bytes, refused}
use Rattle.spec_encoding.specs.Data.{read_data}
use Rattle.spec_encoding.specs.Reader.{read_question}
use Rattle.spec_encoding.proofs.Refusals.{Only, data-only, question-only}
use Rattle.spec_outcome.proofs.CheckOrder.{data-refused, unread, judged-as, calendars-refused, question-refused, question-read}
use Rattle.base_refusals.specs.declared.Refusal.{Refusal}
use Rattle.base_refusals.specs.declared.Refusal.TheVariants.{NameDoesNotHold, TypeDoesNotFit, GeneratorNotAllowed, NormalFormTooLarge, CalendarOrDateOutOfRange, CalendarNotLent}
use Rattle.base_refusals.specs.Numbers.{number_of}
use Rattle.base_refusals.proofs.Numbers.{number-above}
use Rattle.front_parser.specs.RecordFront.{Outcome}
use Rattle.base_scratch.specs.Map.{scratch_size}
use Rattle.base_tables.specs.DataReader.{ReadDataPost}
use Rattle.base_tables.proofs.ReadData.{WellFormed, well-formed, not-well-formed}
use Rattle.base_tables.proofs.TableWords.{stored_same}
use Rattle.front_parser.specs.ReaderContracts.{QuestionLaid, QuestionBy, ReadQuestionPost}
use Rattle.front_scope.specs.PassContract.{NamesHoldPost}
use Rattle.front_scope.specs.Binders.{binders_of}
use Rattle.front_sizes.specs.SizeWords.{term_count}
use Rattle.front_typing.specs.ShapeWords.{Judges}
use Rattle.front_typing.proofs.QuestionTypes.{types-fit, generators-fit}
use Rattle.front_measure.specs.KeptSizes.{MeasurePost}
use Rattle.front_end.specs.LoadedQuestion.{Loaded, ScopedQuestion, BehindKept}
use Rattle.front_end.specs.PartContracts.{JudgedBy, SizedPost, TypedPost, JudgedPost, FrontBy, FrontEndPost}
use Rattle.front_calendars.specs.LentNodes.{lent_from}
use Rattle.front_calendars.proofs.LentQuestion.{question-lent}
use Rattle.front_end.proofs.LentChecks.{calendars-read, calendars-broken, names-decide, types-decide, calendars-decide, generators-decide, size-decides}
use Rattle.front_end.proofs.QuestionLimits.{question-given}
use Rattle.front_end.proofs.PassChain.{apart-then, binders-away, names-said, made-ready, ready-checked, judges-away, judges-ready}
use Rattle.front_end.proofs.MeasuredRoot.{after, size-said, root-form, root-writable}

-- ---- 27
module _ {s r : List ℕ} {n : ℕ} (M : MeasurePost s n r) (few : n ≤ 256) where
  measures-away : BehindKept s r
  measures-away = record { long = M.long; above = λ j l. M.back j (omega arith) }

  module _ {z : ℕ} (e : z ≡ (term_count r (n - 1)).size) where
    pub too_large : 512 < z → SizedPost s r n (Err NormalFormTooLarge)
    too_large h = record {
      is = λ d T C q R b v c. (size-decides T C q R.names b v c (sym (size-said M few R) ∙ lt-leb (term_count r (n - 1)).size 512 (omega (arith, e, h))), λ p. absurd (omega arith));
      away = measures-away;
    }

    pub small-enough : z ≤ 512 → SizedPost s r n (Ok n)
    small-enough h = record {
      is = λ d T C q R b v c.
          let w = sym (size-said M few R) ∙ le-leb (term_count r (n - 1)).size 512 (omega (arith, e, h)) in
          record { ready = after M few R; types = b; calendars = v; generators = c; size = w; writable = root-writable M few R w; form = root-form M few R w };
      away = measures-away;
    }

-- ---- 25, 42 and 26
module _ {s t : List ℕ} {n : ℕ} {a : Bool} (A : Judges false s n t a) (few : n ≤ 256) where
  pub types-wrong : {k : Bytes} → a ≡ false → TypedPost k s t n (Err TypeDoesNotFit)
  types-wrong {k} e = record { is = λ d T q R. (types-decide T (calendars_of k) q R.names (sym (types-fit (ready-checked R) A) ∙ e), λ h. absurd (omega arith)); away = judges-away A few }

  module _ (p : a ≡ true) (k : Bytes) {x : Bool} (X : x ≡ lent_from (length (calendars_of k)) t 0 n) where
    abbrev C : Calendars
    C = calendars_of k

    -- the nodes pass where the question does
    lent-said : {d : Bytes} {T : Tables} {q : Question} → ScopedQuestion d T q s n → x ≡ calendars_lent (length C) q
    lent-said {q = q} R = let L = (judges-ready A R).loaded in X ∙ question-lent (length C) t q n L.laid L.count

    pub calendars-wrong : x ≡ false → TypedPost k s t n (Err CalendarNotLent)
    calendars-wrong e = record {
      is = λ d T q R. (calendars-decide T C q R.names (sym (types-fit (ready-checked R) A) ∙ p) (sym (lent-said R) ∙ e), λ h. absurd (omega arith));
      away = judges-away A few;
    }

    module _ (y : x ≡ true) {u : List ℕ} {b : Bool} (B : Judges true t n u b) where
      pub generators-wrong : b ≡ false → TypedPost k s u n (Err GeneratorNotAllowed)
      generators-wrong e = record {
        is = λ d T q R. (generators-decide T C q R.names (sym (types-fit (ready-checked R) A) ∙ p) (sym (lent-said R) ∙ y) (sym (generators-fit (ready-checked (judges-ready A R)) B) ∙ e), λ h. absurd (omega arith));
        away = apart-then (judges-away A few) (judges-away B few);
      }

      pub both-fit : b ≡ true → {v : List ℕ} {r : Outcome ℕ} → SizedPost u v n r → TypedPost k s v n r
      both-fit e F = record {
        is = λ d T q R. F.is d T C q (judges-ready B (judges-ready A R)) (sym (types-fit (ready-checked R) A) ∙ p) (sym (lent-said R) ∙ y) (sym (generators-fit (ready-checked (judges-ready A R)) B) ∙ e);
        away = apart-then (apart-then (judges-away A few) (judges-away B few)) F.away;
      }

-- ---- 24
module _ {s : List ℕ} {n : ℕ} {a : Bool} (A : NamesHoldPost s n a) {k : Bytes} where
  pub names-wrong : a ≡ false → JudgedPost k s s n (Err NameDoesNotHold)
  names-wrong e = record { is = λ d T q L. (names-decide T (calendars_of k) q (sym (names-said L A) ∙ e), λ h. absurd (omega arith)); away = record { long = refl; above = λ j l. refl } }

  pub names-right : a ≡ true → {t u : List ℕ} {r : Outcome ℕ} → t ≡ binders_of s n → TypedPost k t u n r → JudgedPost k s u n r
  names-right e {t} {u} {r} w F = record {
    is = λ d T q L. F.is d T q (subst (λ x. ScopedQuestion d T q x n) (sym w) (made-ready L (sym (names-said L A) ∙ e)));
    away = apart-then (subst (BehindKept s) (sym w) (binders-away s n)) F.away;
  }

-- ---- the data, and the question
-- They are refused by other numbers than 28.
abbrev Other : ℕ → Type 0
Other n = n ≡ 28 → ⊥

data-other : (d : Bytes) {k : ℕ} → read_data d ≡ refused k → Other k
data-other d e = subst (Only Other) e (data-only Other (λ h. omega arith) (λ h. omega arith) (λ h. omega arith) (λ h. omega arith) (λ h. omega arith) (λ h. omega arith) d)

question-other : (l : Bytes) {k : ℕ} → read_question l ≡ refused k → Other k
question-other l e = subst (Only Other) e (question-only Other (λ h. omega arith) (λ h. omega arith) (λ h. omega arith) l)

module _ {d : Bytes} {s t : List ℕ} {z : ℕ} (D : ReadDataPost d s t z) where
  data-away : BehindKept s t
  data-away = record { long = D.long; above = λ j h. D.kept j (omega arith) }

  pub data-wrong : {l : Lent} {e : Refusal} → z ≡ number_of e → FrontEndPost d l s t (Err e)
  data-wrong {l} {e} h =
      let w : read_data d ≡ refused (number_of e) = not-well-formed D (λ y. number-above e (sym h ∙ y)) ∙ ap refused h in
      record { is = (data-refused d l w, data-other d w); away = data-away }

  -- ---- 41
  pub calendars-wrong-before : (y : z ≡ 0) {l : Lent} {x : Bool} → x ≡ calendars_fit most_calendars l.calendars → x ≡ false → FrontEndPost d l s t (Err CalendarOrDateOutOfRange)
  calendars-wrong-before y {l} X e = record { is = (unread d l (well-formed D y).is (calendars-refused l (calendars-broken l.calendars (sym X ∙ e))), λ h. absurd (omega arith)); away = data-away }

  module _ (y : z ≡ 0) (l : Lent) {c : Bool} (X : c ≡ calendars_fit most_calendars l.calendars) (w : c ≡ true) {u : List ℕ} {x : Outcome ℕ} (Q : ReadQuestionPost l.question t u x) where
    fit : calendars_fit most_calendars l.calendars ≡ true
    fit = sym X ∙ w

    both-away : BehindKept s u
    both-away = apart-then data-away (record { long = Q.kept.long; above = λ j h. Q.kept.above j (omega arith) })

    pub question-wrong : {k : Refusal} → x ≡ Err k → FrontEndPost d l s u (Err k)
    question-wrong e =
        let w = subst (QuestionBy (read_question l.question) u) e Q.is in
        record { is = (unread d l (well-formed D y).is (question-refused l (calendars-read l.calendars fit) w), question-other l.question w); away = both-away }

    module _ (W : WellFormed d) {n : ℕ} (H : QuestionLaid (read_question l.question) u n) where
      loaded : scratch_size ≤ length s → Loaded d W.tables H.question u n
      loaded room =
          let G = question-given l.question H.is in
          record {
            tables = W.is;
            stored = stored_same u (λ j h. Q.kept.below j (omega arith)) (D.stored W.tables W.is);
            laid = H.laid;
            count = H.count;
            some = H.some;
            few = H.few;
            small = G.1;
            deep = G.0;
            long = omega (arith, room, both-away.long);
          }

      carried : (v : List ℕ) (r : Outcome ℕ) → JudgedBy d W.tables (calendars_of l.calendars) H.question v r → FrontBy d l v r
      carried v (Err k) p = (judged-as d l W.is (question-read l (calendars-read l.calendars fit) H.is) ∙ p.0, p.1)
      carried v (Ok m) p = record { tables = W.tables; question = H.question; fit = fit; asked = H.is; passed = p }

    pub question-right : scratch_size ≤ length s → {n : ℕ} → x ≡ Ok n → {v : List ℕ} {r : Outcome ℕ} → JudgedPost l.calendars u v n r → FrontEndPost d l s v r
    question-right room {n} e {v} {r} F =
        let W = well-formed D y in
        let H : QuestionLaid (read_question l.question) u n = subst (QuestionBy (read_question l.question) u) e Q.is in
        record { is = carried W H v r (F.is d W.tables H.question (loaded W H room)); away = apart-then both-away F.away }

pub question-few : {l : Bytes} {t u : List ℕ} {x : Outcome ℕ} → ReadQuestionPost l t u x → {n : ℕ} → x ≡ Ok n → n ≤ 256
question-few {l} {t} {u} Q e = (subst (QuestionBy (read_question l) u) e Q.is).few
