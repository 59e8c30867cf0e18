-- What the plan call gives of an accepted question: its plan's lines, or 33.
use Rattle.std.specs.Prelude.{◌≡◌, List, ℕ, ◌≤◌, get_or, Result, Err}
use Rattle.spec_encoding.specs.Record.{Bytes}
use Rattle.spec_outcome.specs.Acceptance.{Accepted}
use Rattle.spec_outcome.specs.Outcome.{printed}
use Rattle.base_scratch.specs.Map.{scratch_size}
use Rattle.form_prepared.specs.PreparedQuestion.{Prepared}
use Rattle.spec_outcome.specs.Gives.{Settles}
use Rattle.base_refusals.specs.Numbers.{outcome_number, outcome_length}
use Rattle.base_refusals.specs.declared.Refusal.{Refusal}
use Rattle.base_refusals.specs.declared.Refusal.TheVariants.{LinesTooShort}

-- With whatever question stands in scratch: number, length and bytes are those of its plan's lines. Words from 2,048 on stay. Whatever stands there, nothing
-- is refused but by 33.
pub record PlanLinesPost (s b s' b' : List ℕ) (r : Result ℕ Refusal) : Type 0 where
  pub is : (d : Bytes) (a : Accepted) → Prepared d a s → Settles (printed b a) b (outcome_number r) (outcome_length r) b'
  pub behind : (d : Bytes) (a : Accepted) → Prepared d a s → (j : ℕ) → scratch_size ≤ j → get_or s' j 0 ≡ get_or s j 0
  pub short : (e : Refusal) → r ≡ Err e → e ≡ LinesTooShort
