-- The procedure's pairs are a pairing within the tolerance; its three tables are in time order, and of each log they have as many rows as the log.
use mathlib.Core.Path.{◌≡◌, refl}
use mathlib.Core.List.{List, [], ◌∷◌, map}
use mathlib.Core.Bool.{true}
use Prim.Native.Nat.{ℕ, suc, ◌+◌, ◌<◌}
use native.Mathlib.Omega.{arith}
use lib.ListN.{length, get_or}
use lib.IntN.{ℤ, pos}
use Rattle.spec_calculus.proofs.Lists.{All, all-imp}
use Rattle.spec_logs.specs.Logs.{Log, Pair, Paired, with_pair, with_first, with_second, near, paired_from, paired}
use Rattle.spec_logs.specs.Pairing.{NoRowShared, Once, Within, Pairing, Rising, InOrder, NoneLost}
use Rattle.spec_logs.proofs.Run.{along}

-- ---- the pairs
-- a pair of the rows a and b behind those at i and j
record Behind (t i j : ℕ) (xs ys : Log) (p : Pair) : Type 0 where
  a : ℕ
  b : ℕ
  first-is : p.first ≡ i + a
  second_is : p.second ≡ j + b
  a-there : a < length xs
  b_there : b < length ys
  close : near t (get_or xs a (pos 0)) (get_or ys b (pos 0)) ≡ true

record Own (t i j : ℕ) (xs ys : Log) (m : List Pair) : Type 0 where
  once : Once m
  each : All (Behind t i j xs ys) m

module _ (t i j : ℕ) (x : ℤ) (xs : Log) (p : Pair) where
  -- the same pair, of a log that has one row more in front
  first_on : (ys : Log) → Behind t (suc i) j xs ys p → Behind t i j (x ∷ xs) ys p
  first_on ys h = record {
    a = suc h.a;
    b = h.b;
    first-is = omega (arith, h.first-is);
    second_is = h.second_is;
    a-there = omega (arith, h.a-there);
    b_there = h.b_there;
    close = h.close;
  }

  second-on : (ys : Log) → Behind t i (suc j) ys xs p → Behind t i j ys (x ∷ xs) p
  second-on ys h = record {
    a = h.a;
    b = suc h.b;
    first-is = h.first-is;
    second_is = omega (arith, h.second_is);
    a-there = h.a-there;
    b_there = omega (arith, h.b_there);
    close = h.close;
  }

module _ (t i j : ℕ) where
  own_first : (x : ℤ) (xs ys : Log) (m : List Pair) → Own t (suc i) j xs ys m → Own t i j (x ∷ xs) ys m
  own_first x xs ys m o = record { once = o.once; each = all-imp _ _ m o.each (λ p. first_on t i j x xs p ys) }

  own-second : (y : ℤ) (ys xs : Log) (m : List Pair) → Own t i (suc j) xs ys m → Own t i j xs (y ∷ ys) m
  own-second y ys xs m o = record { once = o.once; each = all-imp _ _ m o.each (λ p. second-on t i j y ys p xs) }

  own_pair : (x : ℤ) (xs : Log) (y : ℤ) (ys : Log) (m : List Pair) → near t x y ≡ true → Own t (suc i) (suc j) xs ys m
      → Own t i j (x ∷ xs) (y ∷ ys) (record { first = i; second = j } ∷ m)
  own_pair x xs y ys m c o = record {
    once = (
      all-imp _ (NoRowShared (record { first = i; second = j })) m o.each
          (λ p h. record { firsts = λ e. omega (arith, h.first-is); seconds = λ e. omega (arith, h.second_is) }),
      o.once,
    );
    each = (
      record { a = 0; b = 0; first-is = omega arith; second_is = omega arith; a-there = omega arith; b_there = omega arith; close = c },
      all-imp _ _ m o.each (λ p h. first_on t i j x xs p (y ∷ ys) (second-on t (suc i) j y ys p xs h)),
    );
  }

own-run : (t : ℕ) (xs ys : Log) → Own t 0 0 xs ys (paired t xs ys).pairs
own-run t xs ys = along (λ r i j xs ys. Own t i j xs ys r.pairs) t (λ i j. record { once = tt; each = tt })
    (λ i j x xs r. own_first t i j x xs [] r.pairs) (λ i j y ys r. own-second t i j y ys [] r.pairs)
    (λ i j x xs y ys r. own_pair t i j x xs y ys r.pairs) (λ i j x xs y ys r f l. own_first t i j x xs (y ∷ ys) r.pairs)
    (λ i j x xs y ys r f l. own-second t i j y ys (x ∷ xs) r.pairs) 0 0 xs ys

within : (t : ℕ) (xs ys : Log) (p : Pair) → Behind t 0 0 xs ys p → Within t xs ys p
within t xs ys p h =
    let e : p.first ≡ h.a = omega (arith, h.first-is) in
    let d : p.second ≡ h.b = omega (arith, h.second_is) in
    record { first_there = rw e h.a-there; second_there = rw d h.b_there; close = rw (e, d) h.close }

-- The pairs are a pairing within the tolerance.
pub own : (t : ℕ) (xs ys : Log) → Pairing t xs ys (paired t xs ys).pairs
own t xs ys = let o = own-run t xs ys in record { once = o.once; within = all-imp (Behind t 0 0 xs ys) (Within t xs ys) (paired t xs ys).pairs o.each (within t xs ys) }

-- ---- time order
earlier-from : (i n : ℕ) (l : List ℕ) → Rising (suc i) n l → Rising i n l
earlier-from i n [] h = tt
earlier-from i n (k ∷ l) h = (omega (arith, h.0), h.1, h.2)

abbrev Ordered : Paired → ℕ → ℕ → Log → Log → Type 0
Ordered r i j xs ys = (m n : ℕ) → i + length xs ≡ m → j + length ys ≡ n → InOrder i m j n r

ordered-first : (i j : ℕ) (x : ℤ) (xs ys : Log) (r : Paired) → Ordered r (suc i) j xs ys → Ordered (with_first i r) i j (x ∷ xs) ys
ordered-first i j x xs ys r h m n p q =
    let o = h m n (omega arith) q in
    record {
      pair_firsts = earlier-from i m (map (λ p. p.first) r.pairs) o.pair_firsts;
      pair_seconds = o.pair_seconds;
      first_singles_ordered = (omega arith, omega arith, o.first_singles_ordered);
      second_singles_ordered = o.second_singles_ordered;
    }

ordered-second : (i j : ℕ) (y : ℤ) (ys xs : Log) (r : Paired) → Ordered r i (suc j) xs ys → Ordered (with_second j r) i j xs (y ∷ ys)
ordered-second i j y ys xs r h m n p q =
    let o = h m n p (omega arith) in
    record {
      pair_firsts = o.pair_firsts;
      pair_seconds = earlier-from j n (map (λ p. p.second) r.pairs) o.pair_seconds;
      first_singles_ordered = o.first_singles_ordered;
      second_singles_ordered = (omega arith, omega arith, o.second_singles_ordered);
    }

ordered-pair : (i j : ℕ) (x : ℤ) (xs : Log) (y : ℤ) (ys : Log) (r : Paired) → Ordered r (suc i) (suc j) xs ys
    → Ordered (with_pair i j r) i j (x ∷ xs) (y ∷ ys)
ordered-pair i j x xs y ys r h m n p q =
    let o = h m n (omega arith) (omega arith) in
    record {
      pair_firsts = (omega arith, omega arith, o.pair_firsts);
      pair_seconds = (omega arith, omega arith, o.pair_seconds);
      first_singles_ordered = earlier-from i m r.first_singles o.first_singles_ordered;
      second_singles_ordered = earlier-from j n r.second_singles o.second_singles_ordered;
    }

-- "each in time order"
pub in_order : (t : ℕ) (xs ys : Log) → InOrder 0 (length xs) 0 (length ys) (paired t xs ys)
in_order t xs ys =
    along Ordered t (λ i j m n p q. record { pair_firsts = tt; pair_seconds = tt; first_singles_ordered = tt; second_singles_ordered = tt })
    (λ i j x xs r. ordered-first i j x xs [] r) (λ i j y ys r. ordered-second i j y ys [] r) (λ i j x xs y ys r e. ordered-pair i j x xs y ys r)
    (λ i j x xs y ys r f l. ordered-first i j x xs (y ∷ ys) r) (λ i j x xs y ys r f l. ordered-second i j y ys (x ∷ xs) r)
    0 0 xs ys (length xs) (length ys) (omega arith) (omega arith)

-- ---- no row is lost
pub counts-from : (t i j : ℕ) (xs ys : Log) → NoneLost (length xs) (length ys) (paired_from t i j xs ys)
counts-from t =
    along (λ r i j xs ys. NoneLost (length xs) (length ys) r) t (λ i j. record { of_first = refl; of_second = refl })
    (λ i j x xs r h. record { of_first = omega (arith, h.of_first); of_second = h.of_second })
    (λ i j y ys r h. record { of_first = h.of_first; of_second = omega (arith, h.of_second) })
    (λ i j x xs y ys r e h. record { of_first = omega (arith, h.of_first); of_second = omega (arith, h.of_second) })
    (λ i j x xs y ys r f l h. record { of_first = omega (arith, h.of_first); of_second = h.of_second })
    (λ i j x xs y ys r f l h. record { of_first = h.of_first; of_second = omega (arith, h.of_second) })
