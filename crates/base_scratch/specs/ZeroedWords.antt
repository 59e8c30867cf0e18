-- Words of scratch set to 0.
use Rattle.std.specs.Prelude.{◌≡◌, List, ◌⊎◌, ℕ, ◌≤◌, ◌<◌, length, get_or}

-- the words of s from a up to b are 0 in s', the others are as they were
pub record WipePost (a b : ℕ) (s s' : List ℕ) : Type 0 where
  pub long : length s' ≡ length s
  pub inside : (j : ℕ) → a ≤ j → j < b → get_or s' j 0 ≡ 0
  pub outside : (j : ℕ) → (j < a) ⊎ (b ≤ j) → get_or s' j 0 ≡ get_or s j 0
