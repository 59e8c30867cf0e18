-- What answering with a tariff leaves, of an accepted question that stands in scratch.
use Rattle.std.specs.Prelude.{◌≡◌, List, ℕ, ℤ, Result}
use Rattle.spec_encoding.specs.Record.{Bytes, got}
use Rattle.spec_outcome.specs.Acceptance.{Lent, read_lent, Accepted, posed_of}
use Rattle.spec_outcome.specs.Gives.{Settles}
use Rattle.spec_tariff.specs.Tariff.{Tariff}
use Rattle.spec_tariff.specs.WithTariff.{charged}
use Rattle.base_refusals.specs.Numbers.{outcome_number, outcome_length}
use Rattle.base_refusals.specs.declared.Refusal.{Refusal}
use Rattle.form_prepared.specs.PreparedQuestion.{Prepared}

-- With whatever question stands in scratch: number, length and buffer are those of its dues. Scratch stays as it was.
pub record DuesPost (t : Tariff) (d : Bytes) (s : List ℕ) (o : List ℤ) (s' : List ℕ) (o' : List ℤ) (r : Result ℕ Refusal) : Type 0 where
  pub is : (l : Lent) (a : Accepted) → read_lent l ≡ got (posed_of a) → Prepared d a s → Settles (charged o t a) o (outcome_number r) (outcome_length r) o'
  pub kept : s' ≡ s
