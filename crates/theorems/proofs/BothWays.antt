-- Demand 3, over the contracts of the open calls: what a call returns and leaves is its outcome (`Gives`). For all data and
-- questions, all scratch of one length and all answer buffers of one length, whatever they held before.
use mathlib.Core.Path.{◌≡◌, sym, ap, ◌∙◌}
use mathlib.Core.List.{List, []}
use Prim.Native.Nat.{ℕ, ◌≤◌}
use native.Mathlib.Omega.{arith}
use borrow.Author.Tests.{leb-true}
use lib.Dec.{leb}
use lib.ListN.{length, take, drop}
use lib.Seq.{take_at}
use lib.IntN.{ℤ}
use Rattle.spec_calculus.specs.Syntax.{Term}
use Rattle.spec_calculus.specs.Monoid.{canonical}
use Rattle.spec_calculus.specs.Meaning.{meaning}
use Rattle.spec_calculus.proofs.Lists.{All}
use Rattle.spec_encoding.specs.Record.{Bytes, Result, got, and_then}
use Rattle.spec_encoding.proofs.Refusals.{Only, only_then, only-require}
use Rattle.spec_plan.specs.Planner.{plan_of}
use Rattle.spec_plan.specs.Operators.{plan_value}
use Rattle.spec_plan.specs.Lines.{lines}
use Rattle.spec_plan.proofs.NoQuestion.{questions, reading, plan_terms, no-question}
use Rattle.spec_outcome.specs.Acceptance.{Lent, Accepted, examine}
use Rattle.spec_outcome.specs.Outcome.{Answer, scratch_words, G, written, answered, checked, by_loops, by_plan, printed, plan_lines}
use Rattle.spec_outcome.proofs.Checks.{passed, got-is, handed, examined}
use Rattle.spec_outcome.proofs.Agreement.{same-value, words_of, outcomes-agree}
use Rattle.spec_outcome.specs.Gives.{Gives}
use Rattle.engine.specs.declared.Reply.{Reply}
use Rattle.engine.proofs.Outcomes.{refusal, answers, checks-only}

-- ---- both ways of answering
-- r is what one call returned, which left c where b was in its buffer; r', b' and c' are of the other: the same number, the same
-- length; an answer has the same first g words, and the buffer has so many; "a refusal has none", and leaves the buffer as it was
pub record SameReply (g : ℕ) (r r' : Reply) (b c b' c' : List ℤ) : Type 0 where
  pub numbers : r.number ≡ r'.number
  pub lengths : r.length ≡ r'.length
  pub answers : r.number ≡ 0 → (take g c ≡ take g c') × (g ≤ length b)
  pub refusals : (r.number ≡ 0 → ⊥) → (c ≡ b) × (c' ≡ b')

module _ (d : Bytes) (l : Lent) (s : List ℕ) (b : List ℤ) where
  plan-refusal : ((by_plan d l s b).number ≡ 0 → ⊥) → (by_plan d l s b).buffer ≡ b
  unfolding by_plan answered
  plan-refusal h = refusal scratch_words s b _ h

  -- "32: the answer buffer has fewer than G words"
  plan-room : (by_plan d l s b).number ≡ 0 → words_of (examine d l) ≤ length b
  unfolding by_plan answered written words_of
  plan-room e =
      let k : Accepted → Result (Answer ℤ) = written (λ a. plan_value canonical a.tables (plan_of a.form)) b in
      let g = answers scratch_words s b (and_then (examine d l) k) (only_then (λ n. n ≡ 0 → ⊥) (examine d l) k (checks-only d l) (λ a. only-require (λ n. n ≡ 0 → ⊥) 32 _ _ (λ z. absurd (omega (arith, z))) tt)) e in
      let h = handed (examine d l) k g.answer g.is in
      omega (arith, ap words_of h.1.0, leb-true (G h.0) (length b) (passed 32 (leb (G h.0) (length b)) _ g.answer h.1.1).0)

  loops-refusal : ((by_loops d l s b).number ≡ 0 → ⊥) → (by_loops d l s b).buffer ≡ b
  unfolding by_loops answered
  loops-refusal h = refusal scratch_words s b _ h

-- Answering by plan and answering by loops give the same number, 0 or a refusal's, the same length and the same answer words: "the
-- first G of the answer buffer".
pub both_ways : (d : Bytes) (l : Lent) (s s' : List ℕ) (b b' : List ℤ) {r r' : Reply} {c c' : List ℤ} {u u' : List ℕ} → length s ≡ length s' → length b ≡ length b'
    → Gives (by_plan d l s b) r.number r.length c u → Gives (by_loops d l s' b') r'.number r'.length c' u'
    → SameReply (words_of (examine d l)) r r' b c b' c'
both_ways d l s s' b b' e f P L =
    let D = outcomes-agree d l s s' b b' e f in
    let n = P.number ∙ D.numbers ∙ sym L.number in
    record {
      numbers = n;
      lengths = P.size ∙ D.sizes ∙ sym L.size;
      answers = λ z. let y = sym P.number ∙ z in (ap (take (words_of (examine d l))) P.buffer ∙ D.answers y ∙ sym (ap (take (words_of (examine d l))) L.buffer), plan-room d l s b y);
      refusals = λ h. (
        P.buffer ∙ plan-refusal d l s b (λ z. h (P.number ∙ z)),
        L.buffer ∙ loops-refusal d l s' b' (λ z. h (n ∙ L.number ∙ z)),
      );
    }

-- ---- the plan
-- The question's plan: with a constant for each place, no condition or head in it has a comprehension, a name or a table; and its
-- value under the operators' definitions is the value of the question as typed. Conditions and heads are read as terms of the
-- calculus for this, and the reading keeps their value (`reading-ok` in `spec_plan/proofs/NoQuestion`).
pub record Planned (d : Bytes) (l : Lent) : Type 0 where
  pub accepted : Accepted
  pub is : examine d l ≡ got accepted
  pub form : (σ : ℕ → Term) → ((n : ℕ) → questions (σ n) ≡ 0) → All (λ t. questions (reading σ t) ≡ 0) (plan_terms (plan_of accepted.form))
  pub value : plan_value canonical accepted.tables (plan_of accepted.form) ≡ meaning canonical accepted.tables accepted.question

plans : (d : Bytes) (l : Lent) (a : Accepted) → examine d l ≡ got a → Planned d l
plans d l a e = record { accepted = a; is = e; form = λ σ h. no-question σ h a.form; value = same-value a (examined d l a e) }

-- "A question is accepted over tables where the checker, with scratch enough, answers 0": it has such a plan.
pub accepted-planned : (d : Bytes) (l : Lent) (s : List ℕ) (r : Reply) {u : List ℕ} → Gives (checked d l s) r.number r.length [] u → r.number ≡ 0 → Planned d l
unfolding checked
accepted-planned d l s r C e =
    let k : Accepted → Result (Answer ℕ) = λ a. got (record { size = 0; front = [] }) in
    let g = answers scratch_words s [] (and_then (examine d l) k) (only_then (λ n. n ≡ 0 → ⊥) (examine d l) k (checks-only d l) (λ a. tt)) (sym C.number ∙ e) in
    let h = handed (examine d l) k g.answer g.is in
    plans d l h.0 h.1.0

printed-front : (b : List ℕ) (a : Accepted) (y : Answer ℕ) → printed b a ≡ got y → (y.size ≡ length (lines (plan_of a.form))) × (y.front ≡ lines (plan_of a.form))
unfolding printed
printed-front b a y e =
    let w = lines (plan_of a.form) in
    let x : Answer ℕ = record { size = length w; front = w } in
    let q = got-is x y (passed 33 (leb (length w) (length b)) (got x) y e).1 in
    (ap (λ (z : Answer ℕ). z.size) (sym q), ap (λ (z : Answer ℕ). z.front) (sym q))

-- "This is the question's plan, and the only one the engine makes or prints for it."
pub printed-planned : (d : Bytes) (l : Lent) (s b : List ℕ) (r : Reply) {c u : List ℕ} (P : Planned d l) → Gives (plan_lines d l s b) r.number r.length c u → r.number ≡ 0 → take r.length c ≡ lines (plan_of P.accepted.form)
unfolding plan_lines
printed-planned d l s b r P C e =
    let x : Result (Answer ℕ) = and_then (examine d l) (printed b) in
    let g = answers scratch_words s b x (only_then (λ n. n ≡ 0 → ⊥) (examine d l) (printed b) (checks-only d l) (printed-only b)) (sym C.number ∙ e) in
    let h = handed (examine d l) (printed b) g.answer g.is in
    let f = printed-front b h.0 g.answer h.1.1 in
    let w = g.answer.front in
    ap (take r.length) (C.buffer ∙ g.buffer) ∙ take_at w (drop (length w) b) r.length (ap length f.1 ∙ sym f.0 ∙ sym g.size ∙ sym C.size) ∙ f.1
    ∙ ap (λ (a : Accepted). lines (plan_of a.form)) (got-is h.0 P.accepted (sym h.1.0 ∙ P.is))
  where
    printed-only : (b : List ℕ) (a : Accepted) → Only (λ n. n ≡ 0 → ⊥) (printed b a)
    printed-only b a = unfold printed in only-require (λ n. n ≡ 0 → ⊥) 33 _ _ (λ z. absurd (omega (arith, z))) tt
