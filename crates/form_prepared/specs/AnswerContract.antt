-- What a part finds and leaves that answers an accepted question. Scratch is cleared by the caller.
use Rattle.std.specs.Prelude.{◌≡◌, List, ℕ, ◌≤◌, length, get_or, ℤ, Result}
use Rattle.spec_calculus.specs.Value.{Value}
use Rattle.spec_encoding.specs.Record.{Bytes, got}
use Rattle.spec_outcome.specs.Acceptance.{Lent, read_lent, Accepted, posed_of}
use Rattle.spec_outcome.specs.Outcome.{written}
use Rattle.base_scratch.specs.Map.{scratch_size}
use Rattle.base_refusals.specs.Numbers.{outcome_number, outcome_length}
use Rattle.base_refusals.specs.declared.Refusal.{Refusal}
use Rattle.form_prepared.specs.PreparedQuestion.{Prepared}
use Rattle.spec_outcome.specs.Gives.{Settles}

-- some question that was read and accepted stands in scratch
pub record Asked (d : Bytes) (s : List ℕ) : Type 0 where
  pub asked : Lent
  pub accepted : Accepted
  pub read : read_lent asked ≡ got (posed_of accepted)
  pub prepared : Prepared d accepted s

-- With whatever question stands in scratch: number, length and buffer are those that its value has. Words from 2,048 on stay.
pub record AnswerPost (value : Accepted → Value) (d : Bytes) (s : List ℕ) (o : List ℤ) (s' : List ℕ) (o' : List ℤ) (r : Result ℕ Refusal) : Type 0 where
  pub is : (l : Lent) (a : Accepted) → read_lent l ≡ got (posed_of a) → Prepared d a s → Settles (written value o a) o (outcome_number r) (outcome_length r) o'
  pub long : length s' ≡ length s
  pub above : (j : ℕ) → scratch_size ≤ j → get_or s' j 0 ≡ get_or s j 0
