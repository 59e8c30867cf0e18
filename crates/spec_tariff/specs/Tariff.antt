-- A tariff, and the charge for a draught (document 02, E6). Draughts are in centimetres, charges in cents.
use Rattle.std.specs.Prelude.{List, [], ◌∷◌, Bool, false, ℕ, ◌+◌, ◌*◌, ◌/◌, max, leb, ℤ, pos, negsuc}
use Rattle.spec_calculus.specs.Lists.{pick}

-- "the steps, each an upper draught in centimetres, .. and a rate in cents per metre begun"
pub record TariffStep : Type 0 where
  pub upper : ℕ
  pub rate : ℕ

-- "the steps ..; a minimum charge in cents"
pub record Tariff : Type 0 where
  pub steps : List TariffStep
  pub minimum : ℕ

-- "The rate is that of the first step whose upper draught is not below the ship's"; 0 where no step's is, which 46 rules out
unfoldable pub rate_of : List TariffStep → ℕ → ℕ
rate_of [] h = 0
rate_of (x ∷ l) h = pick (leb h x.upper) x.rate (rate_of l h)

-- "metres begun are the draught divided by 100, rounded up"
unfoldable pub metres_begun : ℕ → ℕ
metres_begun h = (h + 99) / 100

-- "the charge is the greater of rate times metres and minimum"
unfoldable pub charge : Tariff → ℕ → ℕ
charge t h = max (rate_of t.steps h * metres_begun h) t.minimum

-- the upper draught of the last step
unfoldable pub last_upper : List TariffStep → ℕ
last_upper [] = 0
last_upper (x ∷ []) = x.upper
last_upper (x ∷ y ∷ l) = last_upper (y ∷ l)

-- neither "a draught below 0" nor one "above the last step", which are 46: neither below 0 nor above h
unfoldable pub in_reach : ℕ → ℤ → Bool
in_reach h (pos n) = leb n h
in_reach h (negsuc n) = false
