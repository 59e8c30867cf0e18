-- "Every question and table that 8,192 scratch words served gets the same answer words and refusals from 2,048. .. This holds for unfinished questions
-- too" (document 02, E13), over the contracts of the calls that answer in portions, with the number of words that they ask for as it was and as it
-- is. spec_outcome/proofs/ScratchLimit has the other open calls.
use native.Mathlib.Omega.{arith}
use mathlib.Core.Path.{refl}
use mathlib.Core.List.{List, map}
use Prim.Native.Nat.{ℕ, ◌≤◌}
use lib.ListN.{length}
use lib.IntN.{ℤ}
use Rattle.spec_encoding.specs.Record.{Bytes}
use Rattle.spec_outcome.specs.Acceptance.{Lent}
use Rattle.spec_outcome.specs.Outcome.{scratch_words}
use Rattle.spec_outcome.specs.ScratchLimit.{former_words}
use Rattle.spec_outcome.proofs.ScratchLimit.{checked-alike}
use Rattle.engine.specs.Portions.{BeginPost, PortionPost}
use Rattle.engine.specs.Rota.{Seat, RoundPost}
use Rattle.engine.specs.declared.Reply.{Reply}
use Rattle.engine.specs.declared.Portioned.{Portioned}
use Rattle.engine.specs.declared.Round.{Round}
use Rattle.theorems.proofs.Portions.{Portions}
use Rattle.theorems.proofs.SameRun.{Twice, at_one, at_other, Served, PortionServed, PortionsServed, Begun, SeatServed, RoundServed, SameRun, begun-alike, run-alike}

-- Of `Served former_words scratch_words d d s o t p`, s is scratch that served before, t scratch that serves now.
module _ (d : Bytes) where
  alike : SameRun former_words scratch_words d d
  alike = run-alike former_words scratch_words d d refl (omega arith) (omega arith)

  -- From its beginning on: the same number and length, and where that is 0 the same question for whatever buffer is lent.
  pub begun-served : (l : Lent) {s₀ t₀ s t : List ℕ} {r r' : Reply} → BeginPost former_words d l s₀ s r → BeginPost scratch_words d l t₀ t r'
      → former_words ≤ length s₀ → scratch_words ≤ length t₀ → Begun former_words scratch_words d d s t r r'
  begun-served l {s₀} {t₀} B B' h h' = begun-alike former_words scratch_words d d refl l (checked-alike d l s₀ t₀ h h') B B'

  -- A portion of the same question says the same, and leaves the same question, from either.
  pub portion-served : {k : ℕ} {s t s' t' : List ℕ} {o p o' p' : List ℤ} {r r' : Portioned} → PortionPost former_words d k s o s' o' r → PortionPost scratch_words d k t p t' p' r'
      → Served former_words scratch_words d d s o t p → PortionServed former_words scratch_words d d s' o' t' p' r r'
  portion-served = alike.portion

  -- So do any portions, one behind another.
  pub portions-served : (xs : List Twice) {s t s' t' : List ℕ} {o p o' p' : List ℤ} → Served former_words scratch_words d d s o t p
      → Portions former_words d (map at_one xs) s o s' o' → Portions scratch_words d (map at_other xs) t p t' p'
      → PortionsServed former_words scratch_words d d xs s' o' t' p'
  portions-served = alike.portions

  -- Of each seat of a rota the same is told by a round, and each is served alike afterwards.
  pub round-served : {qs : List ℕ} {x₀ x₁ x₂ x₃ y₀ y₁ y₂ y₃ x₀' x₁' x₂' x₃' y₀' y₁' y₂' y₃' : Seat} {r r' : Round}
      → RoundPost former_words d qs x₀ x₁ x₂ x₃ y₀ y₁ y₂ y₃ r → RoundPost scratch_words d qs x₀' x₁' x₂' x₃' y₀' y₁' y₂' y₃' r'
      → SeatServed former_words scratch_words d d qs 0 x₀ x₀' → SeatServed former_words scratch_words d d qs 1 x₁ x₁'
      → SeatServed former_words scratch_words d d qs 2 x₂ x₂' → SeatServed former_words scratch_words d d qs 3 x₃ x₃'
      → RoundServed former_words scratch_words d d qs y₀ y₁ y₂ y₃ y₀' y₁' y₂' y₃' r r'
  round-served = alike.round
