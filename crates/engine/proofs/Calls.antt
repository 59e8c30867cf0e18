-- From the parts of a call to its outcome: 31, a refusal of the checks, and what a part settles behind them.
use mathlib.Core.Path.{◌≡◌, refl, sym, ap, subst, ◌∙◌}
use mathlib.Core.Bool.{Bool, true, false}
use mathlib.Core.List.{List, [], ◌++◌}
use Prim.Native.Nat.{ℕ, ◌+◌, ◌-◌, ◌≤◌, ◌<◌}
use native.Mathlib.Omega.{arith}
use lib.Dec.{ltb}
use lib.ListN.{length, get_or, drop, replicate, length-drop}
use lib.Seq.{get_or-drop, ext_get_or}
use lib.IntN.{ℤ}
use Rattle.spec_calculus.specs.Value.{Value}
use Rattle.spec_encoding.specs.Record.{Bytes, Result, refused, got, and_then}
use Rattle.spec_encoding.proofs.Refusals.{Only}
use Rattle.spec_outcome.specs.Acceptance.{Lent, Accepted, examine}
use Rattle.spec_outcome.specs.Outcome.{Outcome, Answer, scratch_words, cleared, settled, with_scratch, written, answered, checked, printed, plan_lines}
use Rattle.spec_outcome.proofs.Agreement.{scratch-short, scratch-long}
use Rattle.spec_outcome.specs.Gives.{Gives, Settles, Spares}
use Rattle.base_refusals.specs.Numbers.{number_of, outcome_number, outcome_length}
use Rattle.base_refusals.specs.declared.Refusal.{Refusal}
use Rattle.form_prepared.specs.AnswerContract.{Asked}
use Rattle.form_prepared.specs.AnswerContract as An
use Rattle.form_prepared.proofs.SettledOutcome.{settles-refused, settles-got}
use Rattle.plan_lines.specs.PlanCall.{PlanLinesPost}
use Rattle.front_end.specs.LoadedQuestion.{BehindKept}
use Rattle.front_end.specs.PrepareContract.{PreparedBy, Accepts, PreparePost}
use Rattle.std.specs.declared.result.Result.{Result as Res}
use Rattle.std.specs.declared.result.Result.TheVariants.{Ok, Err}
use Rattle.exec_portions.proofs.PortionStep.{spares_then}
use Rattle.engine.specs.Replies.{AdmittedBy, AdmitPost, Replies}
use Rattle.engine.specs.declared.Reply.{Reply}
use Rattle.engine.proofs.Outcomes.{Behind, checks-only}

-- ---- scratch
pub spares-all : (s : List ℕ) → Spares scratch_words s s
spares-all s = record { long = refl; above = λ j h. refl }

pub apart-spares : {s t : List ℕ} → BehindKept s t → Spares scratch_words s t
apart-spares A = record { long = A.long; above = λ j h. A.above j (omega arith) }

pub cleared-same : {s t : List ℕ} → Spares scratch_words s t → cleared scratch_words t ≡ cleared scratch_words s
cleared-same {s} {t} S = ap (λ (l : List ℕ). replicate scratch_words 0 ++ l) (ext_get_or 0 (drop scratch_words t) (drop scratch_words s) long word)
  where
    long : length (drop scratch_words t) ≡ length (drop scratch_words s)
    long = length-drop scratch_words t ∙ ap (λ (n : ℕ). n - scratch_words) S.long ∙ sym (length-drop scratch_words s)

    word : (j : ℕ) → j < length (drop scratch_words t) → get_or (drop scratch_words t) j 0 ≡ get_or (drop scratch_words s) j 0
    word j h = get_or-drop scratch_words t j 0 ∙ S.above (scratch_words + j) (omega arith) ∙ sym (get_or-drop scratch_words s j 0)

-- ---- 31
module _ {A : Type 0} (s : List ℕ) (b : List A) (x : Result (Answer A)) where
  pub too_short : length s < scratch_words → Gives (with_scratch scratch_words s b x) 31 0 b s
  too_short h = subst (λ (o : Outcome A). Gives o 31 0 b s) (sym (scratch-short s b x h)) (record { number = refl; size = refl; buffer = refl; scratch = refl })

-- ---- behind 31
module _ {A : Type 0} {s t u : List ℕ} {b b' : List A} {x : Result (Answer A)} {k n : ℕ} {r : Reply} (room : scratch_words ≤ length s) (S : Spares scratch_words s t) (R : Replies t u k n r) where
  pub replied : Settles x b k n b' → Gives (with_scratch scratch_words s b x) r.number r.length b' u
  replied P =
      let g = P.gives s in
      subst (λ (o : Outcome A). Gives o r.number r.length b' u) (sym (scratch-long s b x room))
      (record { number = R.number ∙ g.number; size = R.length ∙ g.size; buffer = g.buffer; scratch = R.scratch ∙ cleared-same S ∙ g.scratch })

-- ---- the checker hands on nothing
abbrev nothing : Accepted → Result (Answer ℕ)
nothing a = got (record { size = 0; front = [] })

-- ---- a refusal of the checks is every call's
module _ {A : Type 0} (part : Accepted → Result (Answer A)) (b : List A) where
  declined-by : (s : List ℕ) {t : List ℕ} {k n : ℕ} (o : Bool) (y : Result Accepted) → Gives (Behind scratch_words s [] o (and_then y nothing)) k n [] t → (k ≡ 0 → ⊥) → Gives (Behind scratch_words s b o (and_then y part)) k n b t
  unfolding settled and_then
  declined-by s true y G h = record { number = G.number; size = G.size; buffer = refl; scratch = G.scratch }
  declined-by s false (refused m) G h = record { number = G.number; size = G.size; buffer = refl; scratch = G.scratch }
  declined-by s false (got a) G h = absurd (h G.number)

  pub declined : (d : Bytes) (l : Lent) (s : List ℕ) {t : List ℕ} {k n : ℕ} → Gives (checked d l s) k n [] t → (k ≡ 0 → ⊥) → Gives (with_scratch scratch_words s b (and_then (examine d l) part)) k n b t
  unfolding checked with_scratch
  declined d l s G h = declined-by s (ltb (length s) scratch_words) (examine d l) G h

-- ---- how a call begins
module _ {d : Bytes} {l : Lent} {s : List ℕ} where
  pub admit-scant : length s < scratch_words → {r : Reply} → r.number ≡ 31 → r.length ≡ 0 → AdmitPost d l s s (Err r)
  unfolding checked
  admit-scant h {r} en ez =
      let G : Gives (checked d l s) 31 0 [] s = too_short s [] (and_then (examine d l) nothing) h in
      record { is = (record { number = en ∙ G.number; size = ez ∙ G.size; buffer = G.buffer; scratch = G.scratch }, λ z. omega (arith, z, en)) }

  module _ {t : List ℕ} {x : Res (Unit {0}) Refusal} (room : scratch_words ≤ length s) (P : PreparePost d l s t x) where
    pub admit-room : scratch_words ≤ length t
    admit-room = omega (arith, room, P.away.long)

    pub admit-refused : {e : Refusal} → x ≡ Err e → {u : List ℕ} {r : Reply} → Replies t u (number_of e) 0 r → AdmitPost d l s u (Err r)
    unfolding checked and_then
    admit-refused {e} q {u} {r} R =
        let p : examine d l ≡ refused (number_of e) = subst (PreparedBy d l t) q P.is in
        record {
          is = (
            replied {b = []} {b' = []} {x = and_then (examine d l) nothing} room (apart-spares P.away) R (subst (λ y. Settles (and_then y nothing) [] (number_of e) 0 []) (sym p) (settles-refused (number_of e) refl)),
            λ z. subst (Only (λ n. n ≡ 0 → ⊥)) p (checks-only d l) (sym R.number ∙ z),
          );
        }

    pub admit-accepted : {u : Unit {0}} → x ≡ Ok u → AdmitPost d l s t (Ok u)
    admit-accepted q = record { is = (room, subst (PreparePost d l s t) q P) }

module _ {d : Bytes} {l : Lent} {s t : List ℕ} {x : Res (Unit {0}) Reply} (B : AdmitPost d l s t x) where
  pub refuses : {r : Reply} → x ≡ Err r → Gives (checked d l s) r.number r.length [] t × (r.number ≡ 0 → ⊥)
  refuses e = subst (AdmittedBy d l s t) e B.is

  pub accepts : {u : Unit {0}} → x ≡ Ok u → (scratch_words ≤ length s) × PreparePost d l s t (Ok u)
  accepts e = subst (AdmittedBy d l s t) e B.is

  pub room-accepted : {u : Unit {0}} → x ≡ Ok u → scratch_words ≤ length t
  room-accepted e = let p = accepts e in omega (arith, p.0, p.1.away.long)

  -- the question stands in scratch for the part that answers
  pub asked : {u : Unit {0}} → x ≡ Ok u → Asked d t
  asked e = let Y : Accepts d l t = (accepts e).1.is in record { asked = l; accepted = Y.accepted; read = Y.read; prepared = Y.prepared }

  -- The checks, then a part over what they hand on.
  module _ {A : Type 0} (part : Accepted → Result (Answer A)) (b : List A) where
    pub refused-by : {r : Reply} → x ≡ Err r → Gives (with_scratch scratch_words s b (and_then (examine d l) part)) r.number r.length b t
    refused-by e = let p = refuses e in declined part b d l s p.0 p.1

    pub settled-by : {z : Unit {0}} → x ≡ Ok z → {b' : List A} {u v : List ℕ} {k n : ℕ} {r : Reply} → Spares scratch_words t u → ((y : Accepts d l t) → Settles (part y.accepted) b k n b') → Replies u v k n r
        → Gives (with_scratch scratch_words s b (and_then (examine d l) part)) r.number r.length b' v
    unfolding and_then
    settled-by e {b'} {k = k} {n} S f R =
        let p = accepts e in
        let Y : Accepts d l t = p.1.is in
        replied p.0 (spares_then (apart-spares p.1.away) S) R
        (subst (λ y. Settles (and_then y part) b k n b') (sym Y.is) (f Y))

  -- ---- the checker
  pub check-accepted : {z : Unit {0}} → x ≡ Ok z → {u : List ℕ} {r : Reply} → Replies t u 0 0 r → Gives (checked d l s) r.number r.length [] u
  unfolding checked
  check-accepted e R = settled-by nothing [] e (spares-all t) (λ y. settles-got (record { size = 0; front = [] }) refl refl) R

  -- ---- answering, by the value that is to be answered
  module _ (value : Accepted → Value) {b : List ℤ} where
    pub answer-refused : {r : Reply} → x ≡ Err r → Gives (answered scratch_words value d l s b) r.number r.length b t
    unfolding answered
    answer-refused e = refused-by (written value b) b e

    pub room-answered : {z : Unit {0}} → x ≡ Ok z → {b' : List ℤ} {u : List ℕ} {y : Res ℕ Refusal} → An.AnswerPost value d t b u b' y → scratch_words ≤ length u
    room-answered e A = omega (arith, room-accepted e, A.long)

    pub answer-given : {z : Unit {0}} → x ≡ Ok z → {b' : List ℤ} {u v : List ℕ} {y : Res ℕ Refusal} {r : Reply} → An.AnswerPost value d t b u b' y → Replies u v (outcome_number y) (outcome_length y) r → Gives (answered scratch_words value d l s b) r.number r.length b' v
    unfolding answered
    answer-given e A R =
        settled-by (written value b) b e (record { long = A.long; above = λ j h. A.above j (omega arith) })
        (λ Y. A.is l Y.accepted Y.read Y.prepared) R

  -- ---- the plan's lines
  module _ {b : List ℕ} where
    pub lines-refused : {r : Reply} → x ≡ Err r → Gives (plan_lines d l s b) r.number r.length b t
    unfolding plan_lines
    lines-refused e = refused-by (printed b) b e

    pub lines-given : {z : Unit {0}} → x ≡ Ok z → {b' : List ℕ} {u v : List ℕ} {y : Res ℕ Refusal} {r : Reply} → length u ≡ length t → PlanLinesPost t b u b' y → Replies u v (outcome_number y) (outcome_length y) r → Gives (plan_lines d l s b) r.number r.length b' v
    unfolding plan_lines
    lines-given e {b'} {u} m A R =
        let Y : Accepts d l t = (accepts e).1.is in
        settled-by (printed b) b e (record { long = m; above = λ j h. A.behind d Y.accepted Y.prepared j (omega arith) })
        (λ Z. A.is d Z.accepted Z.prepared) R
