-- What a part says and leaves that settles its outcome: a refusal, an answer, and so the two ways to end of a part that answers.
use mathlib.Core.Path.{◌≡◌, refl}
use mathlib.Core.List.{List, ◌++◌}
use Prim.Native.Nat.{ℕ, ◌-◌, ◌≤◌, ◌<◌}
use lib.ListN.{length, drop, replicate}
use lib.IntN.{ℤ, pos}
use borrow.Author.Tests.{lt-leb, le-leb}
use Rattle.spec_calculus.specs.Value.{Value}
use Rattle.spec_encoding.specs.Record.{refused, got, require}
use Rattle.spec_outcome.specs.Acceptance.{Accepted}
use Rattle.spec_outcome.specs.WrittenForm.{words}
use Rattle.spec_outcome.specs.Outcome.{Answer, settled, G, written}
use Rattle.spec_outcome.specs.Gives.{Settles}

module _ {A : Type 0} {b b' : List A} where
  pub settles-refused : (n : ℕ) → b' ≡ b → Settles (refused n) b n 0 b'
  unfolding settled
  settles-refused n e = record { gives = λ s. record { number = refl; size = refl; buffer = e; scratch = refl } }

  pub settles-got : (a : Answer A) {n : ℕ} → n ≡ a.size → b' ≡ a.front ++ drop (length a.front) b → Settles (got a) b 0 n b'
  unfolding settled
  settles-got a e f = record { gives = λ s. record { number = refl; size = e; buffer = f; scratch = refl } }

-- 32 and the buffer as it was, or the answer's front in it
module _ (value : Accepted → Value) (a : Accepted) (o : List ℤ) where
  -- the answer's words, then zeros up to G
  abbrev pub front_of : List ℤ
  front_of = words (value a) ++ replicate (G a - length (words (value a))) (pos 0)

  pub settles-short : length o < G a → Settles (written value o a) o 32 0 o
  unfolding written require
  settles-short l = rw (lt-leb (G a) (length o) l) (settles-refused 32 refl)

  pub settles-full : {n : ℕ} {o' : List ℤ} → G a ≤ length o → n ≡ length (words (value a)) → o' ≡ front_of ++ drop (length front_of) o → Settles (written value o a) o 0 n o'
  unfolding written require
  settles-full l e f = rw (le-leb (G a) (length o) l) (settles-got (record { size = length (words (value a)); front = front_of }) e f)
