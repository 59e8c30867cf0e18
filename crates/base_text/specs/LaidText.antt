-- Laying elements into a buffer, one behind the other, but none at or behind a limit. Places stop at 2^63: no slice is longer.
use Rattle.std.specs.Prelude.{◌≡◌, List, [], ◌∷◌, ℕ, ◌<◌, ltb, set}
use Rattle.base_signed.specs.Limit.{bump_to}
use Rattle.spec_calculus.specs.Lists.{pick}

-- 2^63
abbrev pub text_limit : ℕ
text_limit = 9223372036854775808

abbrev pub bump : ℕ → ℕ
bump p = bump_to text_limit p

-- the buffer, and the place of the next element
pub data Point (A : Type 0) : Type 0 where
  pt : List A → ℕ → Point A

-- an element at p, where that is below the limit; `set` changes nothing outside the buffer
unfoldable pub laid : {A : Type 0} → ℕ → ℕ → A → List A → List A
laid lim p x o = pick (ltb p lim) (set o p x) o

unfoldable pub lays : {A : Type 0} → ℕ → List A → Point A → Point A
lays lim [] (pt o p) = pt o p
lays lim (x ∷ l) (pt o p) = lays lim l (pt (laid lim p x o) (bump p))

-- l laid from p on
pub record Lays {A : Type 0} (lim : ℕ) (l o : List A) (p : ℕ) (o' : List A) (r : ℕ) : Type 0 where
  pub is : pt o' r ≡ lays lim l (pt o p)

-- what F gives at every fuel above b
pub record Text (b : ℕ) (F : ℕ → List ℕ) (lim : ℕ) (o : List ℕ) (p : ℕ) (o' : List ℕ) (r : ℕ) : Type 0 where
  pub is : (f : ℕ) → b < f → Lays lim (F f) o p o' r
