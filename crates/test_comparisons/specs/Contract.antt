-- What answering with its comparisons counted asks and gives. Words from 2,048 on stay.
use Rattle.std.specs.Prelude.{◌≡◌, List, ℕ, ◌≤◌, length, get_or, ℤ, Result}
use Rattle.spec_encoding.specs.Record.{Bytes, got}
use Rattle.spec_outcome.specs.Acceptance.{Lent, read_lent, Accepted, posed_of}
use Rattle.spec_outcome.specs.Gives.{Settles}
use Rattle.base_scratch.specs.Map.{scratch_size}
use Rattle.form_prepared.specs.PreparedQuestion.{Prepared}
use Rattle.test_comparisons.specs.ComparedAnswer.{counted}
use Rattle.base_refusals.specs.Numbers.{outcome_number, outcome_length}
use Rattle.base_refusals.specs.declared.Refusal.{Refusal}

pub record CountPost (d : Bytes) (s : List ℕ) (o : List ℤ) (s' : List ℕ) (o' : List ℤ) (r : Result ℕ Refusal) : Type 0 where
  pub is : (l : Lent) (a : Accepted) → read_lent l ≡ got (posed_of a) → Prepared d a s → Settles (counted o a) o (outcome_number r) (outcome_length r) o'
  pub long : length s' ≡ length s
  pub above : (j : ℕ) → scratch_size ≤ j → get_or s' j 0 ≡ get_or s j 0
