-- "No pairing within the tolerance has more pairs" (document 02, E11): what a pairing is, any pairs of rows of the two logs, in any order, crossing or not.
-- And what else is said of the three tables: that they are in time order, and that no row is lost.
use Rattle.std.specs.Prelude.{◌≡◌, true, List, [], ◌∷◌, map, ℕ, suc, ◌+◌, ◌≤◌, ◌<◌, length, get_or, pos}
use Rattle.spec_calculus.proofs.Lists.{All}
use Rattle.spec_logs.specs.Logs.{Log, Pair, Paired, near}

-- two pairs that have no row in common
pub record NoRowShared (p q : Pair) : Type 0 where
  pub firsts : q.first ≡ p.first → ⊥
  pub seconds : q.second ≡ p.second → ⊥

-- each row is in one pair at most
abbrev pub Once : List Pair → Type 0
Once [] = Unit {0}
Once (p ∷ m) = All (NoRowShared p) m × Once m

-- a pair of rows that are there, "within the tolerance"
pub record Within (t : ℕ) (xs ys : Log) (p : Pair) : Type 0 where
  pub first_there : p.first < length xs
  pub second_there : p.second < length ys
  pub close : near t (get_or xs p.first (pos 0)) (get_or ys p.second (pos 0)) ≡ true

pub record Pairing (t : ℕ) (xs ys : Log) (m : List Pair) : Type 0 where
  pub once : Once m
  pub within : All (Within t xs ys) m

-- "each in time order": positions that rise, of rows that are there (from i on, before n), of a log that does not fall
abbrev pub Rising : ℕ → ℕ → List ℕ → Type 0
Rising i n [] = Unit {0}
Rising i n (k ∷ l) = (i ≤ k) × (k < n) × Rising (suc k) n l

pub record InOrder (i m j n : ℕ) (r : Paired) : Type 0 where
  pub pair_firsts : Rising i m (map (λ p. p.first) r.pairs)
  pub pair_seconds : Rising j n (map (λ p. p.second) r.pairs)
  pub first_singles_ordered : Rising i m r.first_singles
  pub second_singles_ordered : Rising j n r.second_singles

-- of each log as many rows as it has are in pairs or single
pub record NoneLost (m n : ℕ) (r : Paired) : Type 0 where
  pub of_first : length r.pairs + length r.first_singles ≡ m
  pub of_second : length r.pairs + length r.second_singles ≡ n
