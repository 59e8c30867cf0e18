-- How many steps `resolve` takes. The steps that begin with node i and end at a place of node j: the walk ends at once, or
-- goes on from a node c before it; and a name over a comprehension, or a field of a record, walks from c first and then goes
-- on from a node k before the place that was found. Each step takes at least one node, so there are at most i + 1.
use Prim.Native.Nat.{ℕ, suc, ◌+◌, ◌<◌, ◌≤◌}
use native.Mathlib.Omega.{arith}

pub data Calls : ℕ → ℕ → ℕ → Type 0 where
  ends : {i j : ℕ} → j ≤ i → Calls i j 1
  once : {i c j n : ℕ} → c < i → Calls c j n → Calls i j (suc n)
  twice : {i c h k j m n : ℕ} → c < i → Calls c h m → k < h → Calls k j n → Calls i j (suc (m + n))

taken : {i j n : ℕ} → Calls i j n → n + j ≤ i + 1
taken (ends p) = omega arith
taken (once p C) = let b = taken C in omega arith
taken (twice p C q R) = let b = taken C in let r = taken R in omega arith

pub at_most : {i j n : ℕ} → Calls i j n → n ≤ i + 1
at_most C = let b = taken C in omega arith
