-- "No pairing within the tolerance has more pairs" (document 02, E11). Along the run rows are given weights, as many in all as there are pairs, so that of any
-- two rows within the tolerance one has a weight. A pairing has each row once, so it has no more pairs than there are weights. No pair is exchanged.
use mathlib.Core.Path.{◌≡◌, refl, sym, ◌∙◌}
use mathlib.Core.List.{List, [], ◌∷◌}
use mathlib.Core.Bool.{true, false, and-eq-true_iff}
use mathlib.Core.Logic.{◌⊎◌, inl, inr, ⊎_elim}
use Prim.Native.Nat.{ℕ, zero, suc, ◌+◌, ◌≤◌, ◌<◌}
use native.Mathlib.Omega.{arith}
use borrow.Author.Tests.{le-leb, leb-true, leb-false, ltb-true, ltb-false}
use lib.ListN.{length, get_or, set}
use lib.Seq.{get_or-set_other}
use lib.IntN.{ℤ, pos, nat_abs}
use lib.Signed.{lt_z, le_z}
use Rattle.spec_calculus.proofs.Lists.{All}
use Rattle.spec_logs.specs.Logs.{Log, never_falls, Pair, Paired, near, paired}
use Rattle.spec_logs.specs.Pairing.{NoRowShared, Once, Within, Pairing}
use Rattle.spec_logs.proofs.Distance.{since, between, earlier, not-later, near-is}
use Rattle.spec_logs.proofs.Run.{along}

-- ---- order and distance
abbrev AtMost : ℤ → ℤ → Type 0
AtMost x y = le_z x y ≡ true

le_trans : (x y z : ℤ) → AtMost x y → AtMost y z → AtMost x z
le_trans x y z p q =
    let N = nat_abs x + nat_abs y + nat_abs z in
    not-later N x z (omega arith) (omega arith) ∙
    le-leb (since N x) (since N z)
    (omega (
      arith,
      leb-true (since N x) (since N y) (sym (not-later N x y (omega arith) (omega arith)) ∙ p),
      leb-true (since N y) (since N z) (sym (not-later N y z (omega arith) (omega arith)) ∙ q),
    ))

-- a row that is further than the tolerance before another is so, too, at an earlier time and before a later one
module _ (t : ℕ) (u x y v : ℤ) where
  abbrev N : ℕ
  N = nat_abs u + nat_abs x + nat_abs y + nat_abs v

  far-before : AtMost u x → near t x y ≡ false → lt_z x y ≡ true → AtMost y v → near t u v ≡ true → ⊥
  far-before p f l q c =
      omega (
        arith,
        leb-true (since N u) (since N x) (sym (not-later N u x (omega arith) (omega arith)) ∙ p),
        leb-false (between (since N x) (since N y)) t (sym (near-is N t x y (omega arith) (omega arith)) ∙ f),
        ltb-true (since N x) (since N y) (sym (earlier N x y (omega arith) (omega arith)) ∙ l),
        leb-true (since N y) (since N v) (sym (not-later N y v (omega arith) (omega arith)) ∙ q),
        leb-true (between (since N u) (since N v)) t (sym (near-is N t u v (omega arith) (omega arith)) ∙ c),
      )

  far-behind : AtMost x u → near t x y ≡ false → lt_z x y ≡ false → AtMost v y → near t u v ≡ true → ⊥
  far-behind p f l q c =
      omega (
        arith,
        leb-true (since N x) (since N u) (sym (not-later N x u (omega arith) (omega arith)) ∙ p),
        leb-false (between (since N x) (since N y)) t (sym (near-is N t x y (omega arith) (omega arith)) ∙ f),
        ltb-false (since N x) (since N y) (sym (earlier N x y (omega arith) (omega arith)) ∙ l),
        leb-true (since N v) (since N y) (sym (not-later N v y (omega arith) (omega arith)) ∙ q),
        leb-true (between (since N u) (since N v)) t (sym (near-is N t u v (omega arith) (omega arith)) ∙ c),
      )

-- ---- weights bound every pairing
total : List ℕ → ℕ
total [] = 0
total (x ∷ xs) = x + total xs

total-set : (us : List ℕ) (i : ℕ) → total us ≡ get_or us i 0 + total (set us i 0)
unfolding total
total-set [] i = refl
total-set (u ∷ us) zero = omega arith
total-set (u ∷ us) (suc i) = omega (arith, total-set us i)

abbrev Weighed : List ℕ → List ℕ → Pair → Type 0
Weighed us vs p = 1 ≤ get_or us p.first 0 + get_or vs p.second 0

still : (p : Pair) (us vs : List ℕ) (m : List Pair) → All (NoRowShared p) m → All (Weighed us vs) m → All (Weighed (set us p.first 0) (set vs p.second 0)) m
still p us vs [] d h = tt
still p us vs (q ∷ m) d h = (
  rw (get_or-set_other us p.first q.first 0 0 d.0.firsts, get_or-set_other vs p.second q.second 0 0 d.0.seconds) h.0,
  still p us vs m d.1 h.1,
)

bounded : (m : List Pair) (us vs : List ℕ) → Once m → All (Weighed us vs) m → length m ≤ total us + total vs
bounded [] us vs o h = omega arith
bounded (p ∷ m) us vs o h =
    let ih = bounded m (set us p.first 0) (set vs p.second 0) o.1 (still p us vs m o.0 h.1) in
    omega (arith, total-set us p.first, total-set vs p.second, h.0)

-- ---- logs that do not fall
abbrev at : Log → ℕ → ℤ
at l i = get_or l i (pos 0)

-- at or before every row
abbrev Before : ℤ → Log → Type 0
Before x xs = (i : ℕ) → i < length xs → AtMost x (at xs i)

falls-not : (x y : ℤ) (l : Log) → never_falls (x ∷ y ∷ l) ≡ true → AtMost x y × (never_falls (y ∷ l) ≡ true)
unfolding never_falls
falls-not x y l h = (and-eq-true_iff (le_z x y) (never_falls (y ∷ l))).0 h

pub falls-tail : (x : ℤ) (xs : Log) → never_falls (x ∷ xs) ≡ true → never_falls xs ≡ true
unfolding never_falls
falls-tail x [] h = refl
falls-tail x (y ∷ xs) h = (falls-not x y xs h).1

before-all : (x : ℤ) (xs : Log) → never_falls (x ∷ xs) ≡ true → Before x xs
before-all x [] h i p = absurd (omega arith)
before-all x (y ∷ xs) h zero p = (falls-not x y xs h).0
before-all x (y ∷ xs) h (suc i) p =
    let f = falls-not x y xs h in le_trans x y (at xs i) f.0 (before-all y xs f.1 i (omega arith))

self : (x : ℤ) → AtMost x x
self x = let N = nat_abs x in not-later N x x (omega arith) (omega arith) ∙ le-leb (since N x) (since N x) (omega arith)

first-before : (x : ℤ) (xs : Log) → never_falls (x ∷ xs) ≡ true → Before x (x ∷ xs)
first-before x xs h zero p = self x
first-before x xs h (suc i) p = before-all x xs h i (omega arith)

-- ---- the cover
-- one more row of the first log, at or before all of it, meets only weights of the second; and the same with the logs exchanged
abbrev FirstFree : ℕ → Log → Log → List ℕ → Type 0
FirstFree t xs ys vs = (x : ℤ) → Before x xs → (j : ℕ) → j < length ys → near t x (at ys j) ≡ true → 1 ≤ get_or vs j 0

abbrev SecondFree : ℕ → Log → Log → List ℕ → Type 0
SecondFree t xs ys us = (y : ℤ) → Before y ys → (i : ℕ) → i < length xs → near t (at xs i) y ≡ true → 1 ≤ get_or us i 0

abbrev Covers : ℕ → Log → Log → List ℕ → List ℕ → Type 0
Covers t xs ys us vs = (i j : ℕ) → i < length xs → j < length ys → near t (at xs i) (at ys j) ≡ true → 1 ≤ get_or us i 0 + get_or vs j 0

record Cover (t : ℕ) (xs ys : Log) (n : ℕ) : Type 0 where
  us : List ℕ
  vs : List ℕ
  cost : total us + total vs ≡ n
  covers : Covers t xs ys us vs
  free : FirstFree t xs ys vs ⊎ SecondFree t xs ys us

-- one of the logs is used up: no two rows are left
no-first : (t : ℕ) (xs ys : Log) (n : ℕ) → Cover t [] ys n → Cover t [] xs n
no-first t xs ys n c =
    record { us = c.us; vs = c.vs; cost = c.cost; covers = λ i j hi hj w. absurd (omega arith); free = inr (λ y b i hi w. absurd (omega arith)) }

no_second : (t : ℕ) (xs ys : Log) (n : ℕ) → Cover t ys [] n → Cover t xs [] n
no_second t xs ys n c =
    record { us = c.us; vs = c.vs; cost = c.cost; covers = λ i j hi hj w. absurd (omega arith); free = inl (λ x b j hj w. absurd (omega arith)) }

module _ (t : ℕ) (x : ℤ) (xs : Log) (y : ℤ) (ys : Log) (rx : never_falls (x ∷ xs) ≡ true) (ry : never_falls (y ∷ ys) ≡ true) (n : ℕ) where
  -- the rows in front pair, and the rest is free on the first side: the second row has the weight
  pair-first : (c : Cover t xs ys n) → FirstFree t xs ys c.vs → Cover t (x ∷ xs) (y ∷ ys) (suc n)
  unfolding total
  pair-first c f = record { us = 0 ∷ c.us; vs = 1 ∷ c.vs; cost = omega (arith, c.cost); covers = covers; free = inl free }
    where
      covers : Covers t (x ∷ xs) (y ∷ ys) (0 ∷ c.us) (1 ∷ c.vs)
      covers i zero hi hj w = omega arith
      covers zero (suc j) hi hj w = omega (arith, f x (before-all x xs rx) j (omega arith) w)
      covers (suc i) (suc j) hi hj w = c.covers i j (omega arith) (omega arith) w

      free : FirstFree t (x ∷ xs) (y ∷ ys) (1 ∷ c.vs)
      free u b zero hj w = omega arith
      free u b (suc j) hj w = f u (λ i h. b (suc i) (omega arith)) j (omega arith) w

  pair-second : (c : Cover t xs ys n) → SecondFree t xs ys c.us → Cover t (x ∷ xs) (y ∷ ys) (suc n)
  unfolding total
  pair-second c f = record { us = 1 ∷ c.us; vs = 0 ∷ c.vs; cost = omega (arith, c.cost); covers = covers; free = inr free }
    where
      covers : Covers t (x ∷ xs) (y ∷ ys) (1 ∷ c.us) (0 ∷ c.vs)
      covers zero j hi hj w = omega arith
      covers (suc i) zero hi hj w = omega (arith, f y (before-all y ys ry) i (omega arith) w)
      covers (suc i) (suc j) hi hj w = c.covers i j (omega arith) (omega arith) w

      free : SecondFree t (x ∷ xs) (y ∷ ys) (1 ∷ c.us)
      free v b zero hi w = omega arith
      free v b (suc i) hi w = f v (λ j h. b (suc j) (omega arith)) i (omega arith) w

  cover-pair : Cover t xs ys n → Cover t (x ∷ xs) (y ∷ ys) (suc n)
  cover-pair c = ⊎_elim (pair-first c) (pair-second c) c.free

  module _ (f : near t x y ≡ false) where
    -- the first log's row is single: it is within the tolerance of no row of the second
    cover-first : lt_z x y ≡ true → Cover t xs (y ∷ ys) n → Cover t (x ∷ xs) (y ∷ ys) n
    unfolding total
    cover-first l c = record { us = 0 ∷ c.us; vs = c.vs; cost = omega (arith, c.cost); covers = covers; free = inl free }
      where
        covers : Covers t (x ∷ xs) (y ∷ ys) (0 ∷ c.us) c.vs
        covers zero j hi hj w = absurd (far-before t x x y (at (y ∷ ys) j) (self x) f l (first-before y ys ry j hj) w)
        covers (suc i) j hi hj w = c.covers i j (omega arith) hj w

        free : FirstFree t (x ∷ xs) (y ∷ ys) c.vs
        free u b j hj w = absurd (far-before t u x y (at (y ∷ ys) j) (b 0 (omega arith)) f l (first-before y ys ry j hj) w)

    cover-second : lt_z x y ≡ false → Cover t (x ∷ xs) ys n → Cover t (x ∷ xs) (y ∷ ys) n
    unfolding total
    cover-second l c = record { us = c.us; vs = 0 ∷ c.vs; cost = omega (arith, c.cost); covers = covers; free = inr free }
      where
        covers : Covers t (x ∷ xs) (y ∷ ys) c.us (0 ∷ c.vs)
        covers i zero hi hj w = absurd (far-behind t (at (x ∷ xs) i) x y y (first-before x xs rx i hi) f l (self y) w)
        covers i (suc j) hi hj w = c.covers i j hi (omega arith) w

        free : SecondFree t (x ∷ xs) (y ∷ ys) c.us
        free v b i hi w = absurd (far-behind t (at (x ∷ xs) i) x y v (first-before x xs rx i hi) f l (b 0 (omega arith)) w)

-- ---- along the run
abbrev Covered : ℕ → Paired → Log → Log → Type 0
Covered t r xs ys = never_falls xs ≡ true → never_falls ys ≡ true → Cover t xs ys (length r.pairs)

cover : (t : ℕ) (xs ys : Log) → Covered t (paired t xs ys) xs ys
unfolding total
cover t = along (λ r i j xs ys. Covered t r xs ys) t
    (λ i j p q. record { us = []; vs = []; cost = refl; covers = λ i j hi hj w. absurd (omega arith); free = inl (λ x b j hj w. absurd (omega arith)) })
    (λ i j x xs r c p q. no_second t (x ∷ xs) xs _ (c (falls-tail x xs p) q)) (λ i j y ys r c p q. no-first t (y ∷ ys) ys _ (c p (falls-tail y ys q)))
    (λ i j x xs y ys r e c p q. cover-pair t x xs y ys p q _ (c (falls-tail x xs p) (falls-tail y ys q)))
    (λ i j x xs y ys r f l c p q. cover-first t x xs y ys p q _ f l (c (falls-tail x xs p) q))
    (λ i j x xs y ys r f l c p q. cover-second t x xs y ys p q _ f l (c p (falls-tail y ys q))) 0 0

-- the pairs of a pairing are covered
weighed : (t : ℕ) (xs ys : Log) (us vs : List ℕ) → Covers t xs ys us vs → (m : List Pair) → All (Within t xs ys) m → All (Weighed us vs) m
weighed t xs ys us vs c [] h = tt
weighed t xs ys us vs c (p ∷ m) h = (c p.first p.second h.0.first_there h.0.second_there h.0.close, weighed t xs ys us vs c m h.1)

-- "No pairing within the tolerance has more pairs."
pub most : (t : ℕ) (xs ys : Log) → never_falls xs ≡ true → never_falls ys ≡ true → (m : List Pair) → Pairing t xs ys m → length m ≤ length (paired t xs ys).pairs
most t xs ys p q m P =
    let c = cover t xs ys p q in
    omega (arith, bounded m c.us c.vs P.once (weighed t xs ys c.us c.vs c.covers m P.within), c.cost)
