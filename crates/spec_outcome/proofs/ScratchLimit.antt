-- "Every question and table that 8,192 scratch words served gets the same answer words and refusals from 2,048" (document 02, E13): a call that
-- is lent the scratch it asks for says and writes the same, however much that is and whatever stands there. theorems/proofs/ScratchLimit has
-- unfinished questions.
use mathlib.Core.Path.{◌≡◌, refl}
use mathlib.Core.List.{List, []}
use Prim.Native.Nat.{ℕ, ◌≤◌}
use lib.ListN.{length}
use lib.IntN.{ℤ}
use Rattle.spec_calculus.specs.Value.{Value}
use Rattle.spec_encoding.specs.Record.{Bytes, Result, refused, got, and_then}
use Rattle.spec_outcome.specs.Acceptance.{Lent, Accepted, examine}
use Rattle.spec_outcome.specs.Outcome.{Answer, scratch_words, settled, with_scratch, written, answered, looped, by_loops, planned, by_plan, checked_with, checked, printed, plan_lines_with, plan_lines}
use Rattle.spec_outcome.specs.ScratchLimit.{former_words, SameReply}
use Rattle.spec_outcome.proofs.Agreement.{scratch-long}

settled-alike : {A : Type 0} (m n : ℕ) (s t : List ℕ) (b : List A) (r : Result (Answer A)) → SameReply (settled m s b r) (settled n t b r)
unfolding settled
settled-alike m n s t b (refused k) = record { numbers = refl; sizes = refl; buffers = refl }
settled-alike m n s t b (got a) = record { numbers = refl; sizes = refl; buffers = refl }

any-least : {A : Type 0} {m n : ℕ} (s t : List ℕ) (b : List A) (r : Result (Answer A)) → m ≤ length s → n ≤ length t → SameReply (with_scratch m s b r) (with_scratch n t b r)
any-least {m = m} {n} s t b r h k = rw (scratch-long s b r h, scratch-long t b r k) (settled-alike m n s t b r)

-- whatever the least numbers of words are
module _ {m n : ℕ} (d : Bytes) (l : Lent) (s t : List ℕ) (h : m ≤ length s) (k : n ≤ length t) where
  pub checked-alike : SameReply (checked_with m d l s) (checked_with n d l t)
  checked-alike = any-least s t [] (and_then (examine d l) (λ a. got (record { size = 0; front = [] }))) h k

  pub answered-alike : (value : Accepted → Value) (b : List ℤ) → SameReply (answered m value d l s b) (answered n value d l t b)
  unfolding answered
  answered-alike value b = any-least s t b (and_then (examine d l) (written value b)) h k

  pub lines-alike : (b : List ℕ) → SameReply (plan_lines_with m d l s b) (plan_lines_with n d l t b)
  lines-alike b = any-least s t b (and_then (examine d l) (printed b)) h k

-- The number that was in force and the one that is: the checker, by loops, by plan, the plan call.
module _ (d : Bytes) (l : Lent) (s t : List ℕ) (h : former_words ≤ length s) (k : scratch_words ≤ length t) where
  pub checked-served : SameReply (checked_with former_words d l s) (checked d l t)
  unfolding checked
  checked-served = checked-alike d l s t h k

  pub loops-served : (b : List ℤ) → SameReply (answered former_words looped d l s b) (by_loops d l t b)
  unfolding by_loops
  loops-served = answered-alike d l s t h k looped

  pub plan-served : (b : List ℤ) → SameReply (answered former_words planned d l s b) (by_plan d l t b)
  unfolding by_plan
  plan-served = answered-alike d l s t h k planned

  pub lines-served : (b : List ℕ) → SameReply (plan_lines_with former_words d l s b) (plan_lines d l t b)
  unfolding plan_lines
  lines-served = lines-alike d l s t h k
