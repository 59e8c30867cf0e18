-- "A quarter of the scratch" (document 02, E13): what it is to get the same from another number of scratch words.
use Rattle.std.specs.Prelude.{◌≡◌, ℕ}
use Rattle.spec_outcome.specs.Outcome.{Outcome}

-- document 01: "31: scratch under 8,192 words"
abbrev pub former_words : ℕ
former_words = 8192

-- "the same answer words and refusals": number, length and the whole buffer; of scratch nothing is said
pub record SameReply {A : Type 0} (o p : Outcome A) : Type 0 where
  pub numbers : o.number ≡ p.number
  pub sizes : o.size ≡ p.size
  pub buffers : o.buffer ≡ p.buffer
