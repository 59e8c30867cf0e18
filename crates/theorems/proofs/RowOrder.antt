-- "Survey order must not show" (document 02, E14), over the contracts of the open calls: what a call returns and leaves is its outcome
-- (`Gives`). For all questions, all scratch of one length, and all answer buffers, of one length where only order differs, whatever
-- they held before. `spec_outcome/proofs/RowOrderBytes` has which bytes are read so.
use mathlib.Core.Path.{◌≡◌, sym, ap, subst, ◌∙◌}
use mathlib.Core.List.{List, []}
use Prim.Native.Nat.{ℕ, ◌≤◌}
use lib.ListN.{length, take}
use lib.IntN.{ℤ}
use Rattle.spec_calculus.specs.Rearrangement.{Alike}
use Rattle.spec_encoding.specs.Record.{Bytes}
use Rattle.spec_encoding.specs.Data.{read_data}
use Rattle.spec_outcome.specs.Acceptance.{Lent, examine}
use Rattle.spec_outcome.specs.Outcome.{Outcome, checked, by_loops, by_plan, plan_lines}
use Rattle.spec_outcome.specs.RowOrder.{Reordered, Rereads, Way, looping, planning, by}
use Rattle.spec_outcome.proofs.Agreement.{same_outcome, words_of}
use Rattle.spec_outcome.proofs.RowOrder.{any_order, any-order-checked, any-order-lines, any-repeats}
use Rattle.spec_outcome.specs.Gives.{Gives}
use Rattle.engine.specs.declared.Reply.{Reply}
use Rattle.theorems.proofs.BothWays.{SameReply, both_ways}

-- either way of answering has the outcome of both
as-plan : (w : Way) (d : Bytes) (l : Lent) (s : List ℕ) (b : List ℤ) → by w d l s b ≡ by_plan d l s b
as-plan looping d l s b = sym (same_outcome d l s b)
as-plan planning d l s b = λ i. by_plan d l s b

as-loops : (w : Way) (d : Bytes) (l : Lent) (s : List ℕ) (b : List ℤ) → by w d l s b ≡ by_loops d l s b
as-loops looping d l s b = λ i. by_loops d l s b
as-loops planning d l s b = same_outcome d l s b

-- one call returned r and left c in its buffer and u in scratch; the other r', c', u'
pub record SameCall {A : Type 0} (r r' : Reply) (c c' : List A) (u u' : List ℕ) : Type 0 where
  pub numbers : r.number ≡ r'.number
  pub lengths : r.length ≡ r'.length
  pub buffers : c ≡ c'
  pub scratches : u ≡ u'

pub same-call : {A : Type 0} {o p : Outcome A} {r r' : Reply} {c c' : List A} {u u' : List ℕ} → o ≡ p → Gives o r.number r.length c u → Gives p r'.number r'.length c' u' → SameCall r r' c c' u u'
same-call e P Q = record {
  numbers = P.number ∙ ap (λ (o : Outcome _). o.number) e ∙ sym Q.number;
  lengths = P.size ∙ ap (λ (o : Outcome _). o.size) e ∙ sym Q.size;
  buffers = P.buffer ∙ ap (λ (o : Outcome _). o.buffer) e ∙ sym Q.buffer;
  scratches = P.scratch ∙ ap (λ (o : Outcome _). o.scratch) e ∙ sym Q.scratch;
}

-- Data that are refused alike, or whose bags and sets have their rows in another order.
module _ (d d' : Bytes) (l : Lent) (S : Rereads Reordered (read_data d) (read_data d')) where
  -- Any two of the answering calls, with answer buffers of one length: the same number, 0 or a refusal's, the same length and the same
  -- first G words; a refusal leaves both buffers as they were.
  pub row-order-unseen : (w w' : Way) (s s' : List ℕ) (b b' : List ℤ) {r r' : Reply} {c c' : List ℤ} {u u' : List ℕ} → length s ≡ length s' → length b ≡ length b'
      → Gives (by w d l s b) r.number r.length c u → Gives (by w' d' l s' b') r'.number r'.length c' u' → SameReply (words_of (examine d l)) r r' b c b' c'
  row-order-unseen w w' s s' b b' {r} {r'} {c} {c'} {u} {u'} e f P Q = both_ways d l s s' b b' e f
      (subst (λ x. Gives x r.number r.length c u) (as-plan w d l s b) P)
      (subst (λ x. Gives x r'.number r'.length c' u') (sym (any_order d d' l S w' s' b') ∙ as-loops w' d l s' b') Q)

  -- One call, lent the same: all that it returns and leaves is the same. So it is of the checker and of the plan call.
  pub row-order-same : (w : Way) (s : List ℕ) (b : List ℤ) {r r' : Reply} {c c' : List ℤ} {u u' : List ℕ}
      → Gives (by w d l s b) r.number r.length c u → Gives (by w d' l s b) r'.number r'.length c' u' → SameCall r r' c c' u u'
  row-order-same w s b = same-call (any_order d d' l S w s b)

  pub row-order-checked : (s : List ℕ) {r r' : Reply} {u u' : List ℕ} → Gives (checked d l s) r.number r.length [] u → Gives (checked d' l s) r'.number r'.length [] u' → SameCall {A = ℕ} r r' [] [] u u'
  row-order-checked s = same-call (any-order-checked d d' l S s)

  pub row-order-lines : (s b : List ℕ) {r r' : Reply} {c c' u u' : List ℕ} → Gives (plan_lines d l s b) r.number r.length c u → Gives (plan_lines d' l s b) r'.number r'.length c' u' → SameCall r r' c c' u u'
  row-order-lines s b = same-call (any-order-lines d d' l S s b)

-- the same number, the same length and the same words before it
pub record SameBefore (r r' : Reply) (c c' : List ℤ) : Type 0 where
  pub numbers : r.number ≡ r'.number
  pub lengths : r.length ≡ r'.length
  pub answers : take r.length c ≡ take r'.length c'

-- Tables whose sets may also repeat rows, with buffers of any two lengths: where each has room for its own state's G words, number,
-- length and the words before it are the same. Behind it words may differ: G counts repeats.
pub row-repeats-unseen : (w : Way) (d d' : Bytes) (l : Lent) → Rereads Alike (read_data d) (read_data d') → (s s' : List ℕ) (b b' : List ℤ) {r r' : Reply} {c c' : List ℤ} {u u' : List ℕ} → length s ≡ length s'
    → words_of (examine d l) ≤ length b → words_of (examine d' l) ≤ length b'
    → Gives (by w d l s b) r.number r.length c u → Gives (by w d' l s' b') r'.number r'.length c' u' → SameBefore r r' c c'
row-repeats-unseen w d d' l S s s' b b' {r} {r'} {c} {c'} e g g' P Q =
    let D = any-repeats d d' l S s s' b b' e g g' w in
    record {
      numbers = P.number ∙ D.numbers ∙ sym Q.number;
      lengths = P.size ∙ D.sizes ∙ sym Q.size;
      answers = ap (λ n. take n c) P.size ∙ ap (take (by w d l s b).size) P.buffer ∙ D.answers ∙ sym (ap (take (by w d' l s' b').size) Q.buffer) ∙ sym (ap (λ n. take n c') Q.size);
    }
