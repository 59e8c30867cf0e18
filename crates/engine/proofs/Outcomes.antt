-- What an outcome's number says: a refusal leaves the buffer, and 0 is an answer that was got.
use mathlib.Core.Path.{◌≡◌, refl}
use mathlib.Core.Bool.{Bool, true, false}
use mathlib.Core.List.{List, ◌++◌}
use Prim.Native.Nat.{ℕ}
use native.Mathlib.Omega.{arith}
use borrow.Author.Tests.{ltb-true}
use lib.Dec.{ltb}
use lib.ListN.{length, drop}
use Rattle.spec_encoding.specs.Record.{Bytes, Result, refused, got}
use Rattle.spec_encoding.proofs.Refusals.{Only}
use Rattle.spec_outcome.specs.Acceptance.{Lent, Accepted, examine}
use Rattle.spec_outcome.specs.Outcome.{Outcome, Answer, settled, with_scratch}
use Rattle.spec_outcome.proofs.Checks.{examine-only}

-- an answer was got, and stands at the buffer's front
pub record Got {A : Type 0} (b : List A) (x : Result (Answer A)) (o : Outcome A) : Type 0 where
  pub answer : Answer A
  pub is : x ≡ got answer
  pub size : o.size ≡ answer.size
  pub buffer : o.buffer ≡ answer.front ++ drop (length answer.front) b

module _ {A : Type 0} (least : ℕ) (s : List ℕ) (b : List A) where
  -- what 31 gives, or what stands behind it
  abbrev pub Behind : Bool → Result (Answer A) → Outcome A
  Behind t x = elim t [ true ↦ record { number = 31; size = 0; buffer = b; scratch = s } | false ↦ settled least s b x ]

  settled-refusal : (x : Result (Answer A)) → ((settled least s b x).number ≡ 0 → ⊥) → (settled least s b x).buffer ≡ b
  unfolding settled
  settled-refusal (refused n) h = refl
  settled-refusal (got a) h = absurd (h refl)

  -- "a refusal its number and length 0, the answer or byte buffer unchanged"
  pub refusal : (x : Result (Answer A)) → ((with_scratch least s b x).number ≡ 0 → ⊥) → (with_scratch least s b x).buffer ≡ b
  unfolding with_scratch
  refusal x = go (ltb (length s) least)
    where
      go : (t : Bool) → ((Behind t x).number ≡ 0 → ⊥) → (Behind t x).buffer ≡ b
      go true h = refl
      go false h = settled-refusal x h

  settled-answer : (x : Result (Answer A)) → Only (λ n. n ≡ 0 → ⊥) x → (settled least s b x).number ≡ 0 → Got b x (settled least s b x)
  unfolding settled
  settled-answer (refused n) h e = absurd (h e)
  settled-answer (got a) h e = record { answer = a; is = refl; size = refl; buffer = refl }

  pub answers : (x : Result (Answer A)) → Only (λ n. n ≡ 0 → ⊥) x → (with_scratch least s b x).number ≡ 0 → Got b x (with_scratch least s b x)
  unfolding with_scratch
  answers x h = go (ltb (length s) least)
    where
      go : (t : Bool) → (Behind t x).number ≡ 0 → Got b x (Behind t x)
      go true e = absurd (omega (arith, e))
      go false e = settled-answer x h e

-- no check refuses by 0
examine-above : (d : Bytes) (l : Lent) → Only (λ n. ltb 0 n ≡ true) (examine d l)
examine-above d l = examine-only (λ n. ltb 0 n ≡ true) (refl, (refl, (refl, (refl, (refl, (refl, (refl, (refl, (refl, (refl, (refl, (refl, (refl, (refl, (refl, (refl, tt)))))))))))))))) d l

pub checks-only : (d : Bytes) (l : Lent) → Only (λ n. n ≡ 0 → ⊥) (examine d l)
checks-only d l = go (examine d l) (examine-above d l)
  where
    go : (x : Result Accepted) → Only (λ n. ltb 0 n ≡ true) x → Only (λ n. n ≡ 0 → ⊥) x
    go (refused n) h = λ e. absurd (omega (arith, e, ltb-true 0 n h))
    go (got a) h = tt
