-- "the greatest head" (document 02, E1), and the least: the last of some whole numbers in an order.
use Rattle.std.specs.Prelude.{◌≡◌, ◌⊎◌, List, [], ◌∷◌, Bool, true, ℤ}
use Rattle.std.proofs.Math.Dec.{is_le}
use Rattle.spec_calculus.specs.Value.{Value, num}
use Rattle.spec_calculus.specs.Order.{compare_z}

abbrev pub at_most : ℤ → ℤ → Bool
at_most a b = is_le (compare_z a b)

-- P holds of one of them
abbrev pub One : {A : Type 0} → (A → Type 0) → List A → Type 0
One P [] = ⊥
One P (a ∷ l) = P a ⊎ One P l

-- w is one of these numbers, and none of them is beyond it
pub record Last (le : ℤ → ℤ → Bool) (l : List ℤ) (w : Value) : Type 0 where
  pub number : ℤ
  pub is : w ≡ num number
  pub one : One (λ a. a ≡ number) l
  pub all : (a : ℤ) → One (λ b. b ≡ a) l → le a number ≡ true
