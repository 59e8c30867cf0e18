-- Reading at any place at all: a place behind the last word holds 0, and no step leads further.
use Rattle.std.specs.Prelude.{List, ℕ, zero, suc, ◌+◌, ◌-◌, ltb, length, get_or, ℤ, pos, negsuc}
use Rattle.spec_calculus.specs.Lists.{pick}

abbrev pub word_at : List ℤ → ℕ → ℤ
word_at w p = get_or w p (pos 0)

-- a word as a count; a negative one is none
abbrev pub nat_of : ℤ → ℕ
nat_of (pos n) = n
nat_of (negsuc n) = 0

-- the lesser
unfoldable pub least : ℕ → ℕ → ℕ
least m n = pick (ltb n m) n m

-- The count that stands at p. An element has at least a word, so no collection has more than there are words behind p: a word
-- that says more is no count of what stands there.
abbrev pub count_at : List ℤ → ℕ → ℕ
count_at w p = least (nat_of (word_at w p)) (length w - p - 1)

-- the place behind the word at p
unfoldable pub behind : List ℤ → ℕ → ℕ
behind w p = pick (ltb p (length w)) (p + 1) p

-- n steps F from p
unfoldable pub times : ℕ → (ℕ → ℕ) → ℕ → ℕ
times zero F p = p
times (suc n) F p = times n F (F p)
