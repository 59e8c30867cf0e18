-- Four list and environment functions that every later definition uses.
use Rattle.std.specs.Prelude.{List, [], ◌∷◌, ◌++◌, Bool, true, false, ℕ, eqb}

-- the lists that f makes of the elements, one behind the other
unfoldable pub bind_l : {A B : Type 0} → List A → (A → List B) → List B
bind_l [] f = []
bind_l (a ∷ l) f = f a ++ bind_l l f

-- a list where a test holds, else nothing
unfoldable pub guard : {A : Type 0} → Bool → List A → List A
guard true l = l
guard false l = []

-- the first where a test holds, else the second
unfoldable pub pick : {A : Type 0} → Bool → A → A → A
pick true a b = a
pick false a b = b

-- an environment in which x now stands for a
unfoldable pub upd : {A : Type 0} → ℕ → A → (ℕ → A) → ℕ → A
upd x a ρ = λ y. elim (eqb x y) [ true ↦ a | false ↦ ρ y ]
