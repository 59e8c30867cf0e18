-- What holds of the procedure holds along its run: from the rows that are left to those and one or two before them.
use mathlib.Core.Path.{◌≡◌, refl}
use mathlib.Core.List.{[], ◌∷◌}
use mathlib.Core.Bool.{Bool, true, false}
use Prim.Native.Nat.{ℕ, suc}
use lib.IntN.{ℤ}
use lib.Signed.{lt_z}
use Rattle.spec_calculus.specs.Lists.{pick}
use Rattle.spec_logs.specs.Logs.{Log, Paired, no_rows, with_pair, with_first, with_second, near, paired_from}

module _ (P : Paired → ℕ → ℕ → Log → Log → Type 0) (t : ℕ)
    (over : (i j : ℕ) → P no_rows i j [] [])
    (rest-first : (i j : ℕ) (x : ℤ) (xs : Log) (r : Paired) → P r (suc i) j xs [] → P (with_first i r) i j (x ∷ xs) [])
    (rest-second : (i j : ℕ) (y : ℤ) (ys : Log) (r : Paired) → P r i (suc j) [] ys → P (with_second j r) i j [] (y ∷ ys))
    (both : (i j : ℕ) (x : ℤ) (xs : Log) (y : ℤ) (ys : Log) (r : Paired) → near t x y ≡ true → P r (suc i) (suc j) xs ys → P (with_pair i j r) i j (x ∷ xs) (y ∷ ys))
    (first : (i j : ℕ) (x : ℤ) (xs : Log) (y : ℤ) (ys : Log) (r : Paired) → near t x y ≡ false → lt_z x y ≡ true → P r (suc i) j xs (y ∷ ys)
    → P (with_first i r) i j (x ∷ xs) (y ∷ ys))
    (second : (i j : ℕ) (x : ℤ) (xs : Log) (y : ℤ) (ys : Log) (r : Paired) → near t x y ≡ false → lt_z x y ≡ false → P r i (suc j) (x ∷ xs) ys
    → P (with_second j r) i j (x ∷ xs) (y ∷ ys)) where
  pub along : (i j : ℕ) (xs ys : Log) → P (paired_from t i j xs ys) i j xs ys
  unfolding paired_from pick
  along i j [] [] = over i j
  along i j [] (y ∷ ys) = rest-second i j y ys _ (along i (suc j) [] ys)
  along i j (x ∷ xs) [] = rest-first i j x xs _ (along (suc i) j xs [])
  along i j (x ∷ xs) (y ∷ ys) =
      go (near t x y) (lt_z x y) refl refl (along (suc i) (suc j) xs ys) (along (suc i) j xs (y ∷ ys)) (along i (suc j) (x ∷ xs) ys)
    where
      go : (n b : Bool) → near t x y ≡ n → lt_z x y ≡ b → P (paired_from t (suc i) (suc j) xs ys) (suc i) (suc j) xs ys
          → P (paired_from t (suc i) j xs (y ∷ ys)) (suc i) j xs (y ∷ ys) → P (paired_from t i (suc j) (x ∷ xs) ys) i (suc j) (x ∷ xs) ys
          → P (pick n (with_pair i j (paired_from t (suc i) (suc j) xs ys))
          (pick b (with_first i (paired_from t (suc i) j xs (y ∷ ys))) (with_second j (paired_from t i (suc j) (x ∷ xs) ys)))) i j (x ∷ xs) (y ∷ ys)
      go true b n l p q r = both i j x xs y ys _ n p
      go false true n l p q r = first i j x xs y ys _ n l q
      go false false n l p q r = second i j x xs y ys _ n l r
