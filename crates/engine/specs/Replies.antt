-- How the open calls begin and end.
use Rattle.std.specs.Prelude.{◌≡◌, List, [], ℕ, ◌≤◌, length, Result, Ok, Err}
use Rattle.spec_encoding.specs.Record.{Bytes}
use Rattle.spec_outcome.specs.Acceptance.{Lent}
use Rattle.spec_outcome.specs.Outcome.{scratch_words, cleared, checked}
use Rattle.spec_outcome.specs.Gives.{Gives}
use Rattle.front_end.specs.PrepareContract.{PreparePost}
use Rattle.engine.specs.declared.Reply.{Reply}

-- "31: scratch under .. words. Scratch stays untouched", or a refusal of the checks: the checker's reply; else the question is accepted
abbrev pub AdmittedBy : Bytes → Lent → List ℕ → List ℕ → Result (Unit {0}) Reply → Type 0
AdmittedBy d l s s' (Err r) = Gives (checked d l s) r.number r.length [] s' × (r.number ≡ 0 → ⊥)
AdmittedBy d l s s' (Ok u) = (scratch_words ≤ length s) × PreparePost d l s s' (Ok u)

pub record AdmitPost (d : Bytes) (l : Lent) (s s' : List ℕ) (r : Result (Unit {0}) Reply) : Type 0 where
  pub is : AdmittedBy d l s s' r

-- number k and length n, and the scratch cleared
pub record Replies (s s' : List ℕ) (k n : ℕ) (r : Reply) : Type 0 where
  pub number : r.number ≡ k
  pub length : r.length ≡ n
  pub scratch : s' ≡ cleared scratch_words s
