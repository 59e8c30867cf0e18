-- What a call returns and leaves, equated with an outcome; and what a part of a call does that runs behind the checks.
use Rattle.std.specs.Prelude.{◌≡◌, List, ℕ, ◌≤◌, length, get_or}
use Rattle.spec_encoding.specs.Record.{Result}
use Rattle.spec_outcome.specs.Outcome.{Outcome, Answer, scratch_words, cleared, settled}

-- "Each open call's contract determines number, length, answer words, plan bytes and scratch from what was lent, refusals
-- too": number k, length n, the buffer b and the scratch s afterwards are those of the outcome
pub record Gives {A : Type 0} (o : Outcome A) (k n : ℕ) (b : List A) (s : List ℕ) : Type 0 where
  pub number : k ≡ o.number
  pub size : n ≡ o.size
  pub buffer : b ≡ o.buffer
  pub scratch : s ≡ o.scratch

-- a part that found b in the buffer, left b' there and says number k and length n has settled x
pub record Settles {A : Type 0} (x : Result (Answer A)) (b : List A) (k n : ℕ) (b' : List A) : Type 0 where
  pub gives : (s : List ℕ) → Gives (settled scratch_words s b x) k n b' (cleared scratch_words s)

-- "the first .. scratch words are 0, later ones unchanged": a part may leave anything in the first
pub record Spares (least : ℕ) (s s' : List ℕ) : Type 0 where
  pub long : length s' ≡ length s
  pub above : (j : ℕ) → least ≤ j → get_or s' j 0 ≡ get_or s j 0
