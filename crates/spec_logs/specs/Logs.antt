-- "Ship's log against quay log" (document 02, E11): two logs paired. A log is the seconds of its rows, in their order; a row's position is counted from 0.
use Rattle.std.specs.Prelude.{List, [], ◌∷◌, Bool, true, ◌&&◌, ℕ, suc, leb, ℤ, nat_abs, ◌-ℤ◌}
use Rattle.std.specs.Int.Signed.{lt_z, le_z}
use Rattle.spec_calculus.specs.Lists.{pick}

abbrev pub Log : Type 0
Log = List ℤ

-- "neither falling"
unfoldable pub never_falls : Log → Bool
never_falls [] = true
never_falls (x ∷ []) = true
never_falls (x ∷ y ∷ l) = le_z x y && never_falls (y ∷ l)

-- the positions of two rows, one of each log
pub record Pair : Type 0 where
  pub first : ℕ
  pub second : ℕ

-- "three tables: pairs of row positions, singles of the first, singles of the second"
pub record Paired : Type 0 where
  pub pairs : List Pair
  pub first_singles : List ℕ
  pub second_singles : List ℕ

abbrev pub no_rows : Paired
no_rows = record { pairs = []; first_singles = []; second_singles = [] }

-- "in time order": a pair, or a single of either log, ahead of what the later rows give
abbrev pub with_pair : ℕ → ℕ → Paired → Paired
with_pair i j r = record { pairs = record { first = i; second = j } ∷ r.pairs; first_singles = r.first_singles; second_singles = r.second_singles }

abbrev pub with_first : ℕ → Paired → Paired
with_first i r = record { pairs = r.pairs; first_singles = i ∷ r.first_singles; second_singles = r.second_singles }

abbrev pub with_second : ℕ → Paired → Paired
with_second j r = record { pairs = r.pairs; first_singles = r.first_singles; second_singles = j ∷ r.second_singles }

-- "no further apart than the tolerance"
unfoldable pub near : ℕ → ℤ → ℤ → Bool
near t x y = leb (nat_abs (x -ℤ y)) t

-- "take the earliest row left in each: no further apart than the tolerance they pair, else the earlier is single; once one table is used up, the other's
-- rest is single": of logs that do not fall the earliest row left is the first one left, here at position i and at position j
unfoldable pub paired_from : ℕ → ℕ → ℕ → Log → Log → Paired
paired_from t i j [] [] = no_rows
paired_from t i j [] (y ∷ ys) = with_second j (paired_from t i (suc j) [] ys)
paired_from t i j (x ∷ xs) [] = with_first i (paired_from t (suc i) j xs [])
paired_from t i j (x ∷ xs) (y ∷ ys) =
    pick (near t x y) (with_pair i j (paired_from t (suc i) (suc j) xs ys))
    (pick (lt_z x y) (with_first i (paired_from t (suc i) j xs (y ∷ ys))) (with_second j (paired_from t i (suc j) (x ∷ xs) ys)))

-- both logs from their first rows on, with this tolerance
abbrev pub paired : ℕ → Log → Log → Paired
paired t xs ys = paired_from t 0 0 xs ys
