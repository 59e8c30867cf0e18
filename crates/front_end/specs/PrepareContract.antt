-- What preparing a question ensures: the refusal that the definition gives, or the accepted question in scratch.
use Rattle.std.specs.Prelude.{◌≡◌, List, ℕ, Ok, Err, ⊤}
use Rattle.spec_encoding.specs.Record.{Bytes, refused, got}
use Rattle.spec_outcome.specs.Acceptance.{Lent, lent_as, read_lent, Accepted, posed_of, examine}
use Rattle.base_refusals.specs.Numbers.{number_of}
use Rattle.front_parser.specs.RecordFront.{Outcome}
use Rattle.form_prepared.specs.PreparedQuestion.{Prepared}
use Rattle.front_end.specs.LoadedQuestion.{BehindKept}
use Rattle.front_end.specs.PartContracts.{Fine}

-- the question is accepted, and stands prepared in scratch
pub record Accepts (d : Bytes) (l : Lent) (s : List ℕ) : Type 0 where
  pub accepted : Accepted
  pub read : read_lent l ≡ got (posed_of accepted)
  pub is : examine d l ≡ got accepted
  pub prepared : Prepared d accepted s

abbrev pub PreparedBy : Bytes → Lent → List ℕ → Outcome ⊤ → Type 0
PreparedBy d l s (Err k) = examine d l ≡ refused (number_of k)
PreparedBy d l s (Ok u) = Accepts d l s

pub record PreparePost (d : Bytes) (l : Lent) (s s' : List ℕ) (r : Outcome ⊤) : Type 0 where
  pub is : PreparedBy d l s' r
  pub away : BehindKept s s'

-- 28, where all before it pass
pub record FormedPost (d c : Bytes) (s s' : List ℕ) (n : ℕ) (r : Outcome ⊤) : Type 0 where
  pub is : (l : Bytes) → Fine d (lent_as c l) s n → PreparePost d (lent_as c l) s s' r
