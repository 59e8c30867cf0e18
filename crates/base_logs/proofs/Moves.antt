-- One turn of the procedure: by the earliest rows left, and what the rows behind it give. Assumes nothing.
use mathlib.Core.Path.{◌≡◌, refl, sym, ap, ap₂, subst, ◌∙◌}
use mathlib.Core.List.{◌∷◌}
use mathlib.Core.Bool.{Bool, true, false}
use Prim.Native.Nat.{ℕ, suc, ◌+◌, ◌-◌, ◌≤◌, ◌<◌, ◌^◌}
use native.Mathlib.Numerals.{add-one}
use native.Mathlib.Omega.{arith}
use lib.Dec.{ltb, leb}
use lib.ListN.{length}
use lib.IntN.{ℤ}
use lib.Signed.{lt_z}
use borrow.Author.Tests.{le-leb, lt-leb, lt-ltb, le-ltb, leb-true, leb-false}
use Rattle.spec_calculus.specs.Lists.{pick}
use Rattle.spec_encoding.specs.Record.{Bytes, signed}
use Rattle.spec_encoding.proofs.Data.{signed-small}
use Rattle.base_signed.proofs.SignedWords.{by-test}
use Rattle.spec_logs.specs.Logs.{Log, Paired, no_rows, with_pair, with_first, with_second, near, paired_from, paired}
use Rattle.spec_logs.specs.Pairing.{NoneLost}
use Rattle.spec_logs.proofs.Distance.{since, between, earlier, near-is}
use Rattle.spec_logs.proofs.OwnPairs.{counts-from}
use Rattle.base_tables.specs.Description.{rows_in, stored_word_in}
use Rattle.base_logs.specs.declared.Move.{Move}
use Rattle.base_logs.specs.declared.Move.TheVariants.{Pair, First, Second}
use Rattle.base_logs.specs.declared.Rows.{Rows}
use Rattle.base_logs.specs.Times.{word_below, times_from, times_in}
use Rattle.base_logs.specs.Moves.{LogsPre, times_move, rows_move, first_rows, rows_after, pairs_in}
use Rattle.base_logs.proofs.Times.{above_word, below-is, times-next, times-over, times-length}

-- ---- by_times
module _ (t m n : ℕ) {a b : ℕ} (ea : a ≡ since (2 ^ 31) (signed m)) (eb : b ≡ since (2 ^ 31) (signed n)) where
  near-here : near t (signed m) (signed n) ≡ leb (between a b) t
  near-here = near-is (2 ^ 31) t (signed m) (signed n) (signed-small m) (signed-small n) ∙ ap₂ (λ (x y : ℕ). leb (between x y) t) (sym ea) (sym eb)

  earlier-here : lt_z (signed m) (signed n) ≡ ltb a b
  earlier-here = earlier (2 ^ 31) (signed m) (signed n) (signed-small m) (signed-small n) ∙ ap₂ (λ (x y : ℕ). ltb x y) (sym ea) (sym eb)

  pub move-first : a + t < b → First ≡ times_move t (signed m) (signed n)
  unfolding times_move pick
  move-first h = rw (near-here, lt-leb (between a b) t (omega arith), earlier-here, lt-ltb a b (omega arith)) refl

  pub move-second : b + t < a → Second ≡ times_move t (signed m) (signed n)
  unfolding times_move pick
  move-second h = rw (near-here, lt-leb (between a b) t (omega arith), earlier-here, le-ltb a b (omega arith)) refl

  pub move-pair : b ≤ a + t → a ≤ b + t → Pair ≡ times_move t (signed m) (signed n)
  unfolding times_move pick
  move-pair h g = rw (near-here, le-leb (between a b) t (omega arith)) refl

-- ---- next_move
module _ (t m n : ℕ) (r : Rows) where
  pub first-over : m ≤ r.i → Second ≡ rows_move t m n r
  unfolding rows_move pick
  first-over h = rw (le-leb m r.i h)

  module _ (h : r.i < m) where
    pub second-over : n ≤ r.j → First ≡ rows_move t m n r
    unfolding rows_move pick
    second-over g = rw (lt-leb m r.i h, le-leb n r.j g)

    pub both_left : r.j < n → {v : Move} → v ≡ times_move t (signed r.x) (signed r.y) → v ≡ rows_move t m n r
    unfolding rows_move pick
    both_left g e = rw (lt-leb m r.i h, lt-leb n r.j g) e

-- ---- the procedure by moves
-- a pair or a single at these positions, ahead of what the rows behind it give
unfoldable pub on_move : Move → ℕ → ℕ → Paired → Paired
on_move Pair i j r = with_pair i j r
on_move First i j r = with_first i r
on_move Second i j r = with_second j r

-- the rows that a move leaves
unfoldable pub first_after : Move → ℕ → ℕ
first_after Pair i = suc i
first_after First i = suc i
first_after Second i = i

unfoldable pub second_after : Move → ℕ → ℕ
second_after Pair j = suc j
second_after First j = j
second_after Second j = suc j

module _ (d : Bytes) (a b t : ℕ) where
  -- what the rows from i and from j on give
  abbrev pub left_at : ℕ → ℕ → Paired
  left_at i j = paired_from t i j (times_from d a i (rows_in a - i)) (times_from d b j (rows_in b - j))

  -- what a move gives with the rows behind it
  abbrev turned : ℕ → ℕ → Move → Paired
  turned i j v = on_move v i j (left_at (first_after v i) (second_after v j))

  abbrev X : ℕ → ℤ
  X i = signed (stored_word_in d a i 0)

  abbrev Y : ℕ → ℤ
  Y j = signed (stored_word_in d b j 0)

  module _ (i j : ℕ) where
    abbrev xs : Log
    xs = times_from d a (suc i) (rows_in a - suc i)

    abbrev ys : Log
    ys = times_from d b (suc j) (rows_in b - suc j)

    first-used : rows_in a ≤ i → j < rows_in b → left_at i j ≡ turned i j Second
    unfolding on_move first_after second_after paired_from
    first-used p q =
        ap₂ (paired_from t i j) (times-over d a i (rows_in a) p) (times-next d b j (rows_in b) q)
        ∙ ap (λ l. with_second j (paired_from t i (suc j) l ys)) (sym (times-over d a i (rows_in a) p))

    second-used : i < rows_in a → rows_in b ≤ j → left_at i j ≡ turned i j First
    unfolding on_move first_after second_after paired_from
    second-used p q =
        ap₂ (paired_from t i j) (times-next d a i (rows_in a) p) (times-over d b j (rows_in b) q)
        ∙ ap (λ l. with_first i (paired_from t (suc i) j xs l)) (sym (times-over d b j (rows_in b) q))

    both-there : i < rows_in a → j < rows_in b → left_at i j ≡ turned i j (times_move t (X i) (Y j))
    unfolding on_move first_after second_after paired_from times_move pick
    both-there p q =
        ap₂ (paired_from t i j) (times-next d a i (rows_in a) p) (times-next d b j (rows_in b) q)
        ∙ go (near t (X i) (Y j)) (lt_z (X i) (Y j))
      where
        go : (n l : Bool) → pick n (with_pair i j (paired_from t (suc i) (suc j) xs ys))
            (pick l (with_first i (paired_from t (suc i) j xs (Y j ∷ ys))) (with_second j (paired_from t i (suc j) (X i ∷ xs) ys)))
            ≡ turned i j (pick n Pair (pick l First Second))
        go true l = refl
        go false true = ap (λ l. with_first i (paired_from t (suc i) j xs l)) (sym (times-next d b j (rows_in b) q))
        go false false = ap (λ l. with_second j (paired_from t i (suc j) l ys)) (sym (times-next d a i (rows_in a) p))

  -- the rows left, of which some are there
  pub record Standing (r : Rows) : Type 0 where
    pub first-in : r.i ≤ rows_in a
    pub second-in : r.j ≤ rows_in b
    pub first_word : r.x ≡ stored_word_in d a r.i 0
    pub second_word : r.y ≡ stored_word_in d b r.j 0

  module _ (r : Rows) (S : Standing r) (l : r.i + r.j < rows_in a + rows_in b) where
    -- One turn: a pair or a single, and what is left behind it.
    pub turn : left_at r.i r.j ≡ turned r.i r.j (rows_move t (rows_in a) (rows_in b) r)
    unfolding rows_move pick
    turn = by-test (leb (rows_in a) r.i)
        (λ p. rw p (first-used r.i r.j (leb-true _ _ p) (omega (arith, leb-true (rows_in a) r.i p, S.second-in, l))))
        (λ p. by-test (leb (rows_in b) r.j)
        (λ q. rw (p, q) (second-used r.i r.j (leb-false _ _ p) (leb-true _ _ q)))
        (λ q. rw (p, q)
        (both-there r.i r.j (leb-false _ _ p) (leb-false _ _ q)
        ∙ ap₂ (λ (m n : ℕ). turned r.i r.j (times_move t (signed m) (signed n))) (sym S.first_word) (sym S.second_word))))

    -- it takes a row of one log or of both, and no row that is not there
    taken : (v : Move) → first_after v r.i ≤ suc r.i × (second_after v r.j ≤ suc r.j) × (r.i + r.j < first_after v r.i + second_after v r.j)
    unfolding first_after second_after
    taken Pair = (omega arith, omega arith, omega arith)
    taken First = (omega arith, omega arith, omega arith)
    taken Second = (omega arith, omega arith, omega arith)

    pub record Moved (v : Move) : Type 0 where
      pub first-in : first_after v r.i ≤ rows_in a
      pub second-in : second_after v r.j ≤ rows_in b
      pub more : r.i + r.j < first_after v r.i + second_after v r.j

    moved-rows : Moved (rows_move t (rows_in a) (rows_in b) r)
    unfolding rows_move pick first_after second_after
    moved-rows = by-test (leb (rows_in a) r.i)
        (λ p. rw p (let h = leb-true (rows_in a) r.i p in
        record { first-in = S.first-in; second-in = omega (arith, h, S.second-in, l); more = omega arith }))
        (λ p. let h = leb-false (rows_in a) r.i p in by-test (leb (rows_in b) r.j)
        (λ q. rw (p, q) (record { first-in = omega (arith, h); second-in = S.second-in; more = omega arith }))
        (λ q. let g = leb-false (rows_in b) r.j q in
        let k = taken (times_move t (signed r.x) (signed r.y)) in
        rw (p, q) (record { first-in = omega (arith, h, k.0); second-in = omega (arith, g, k.1); more = k.2 })))

    module _ {v : Move} (e : v ≡ rows_move t (rows_in a) (rows_in b) r) where
      pub moved : Moved v
      moved = subst Moved (sym e) moved-rows

      pub turned_by : left_at r.i r.j ≡ turned r.i r.j v
      turned_by = turn ∙ ap (turned r.i r.j) (sym e)

-- ---- advance
module _ (d : Bytes) (a b : ℕ) (r : Rows) {v : Move} where
  pub after-pair : v ≡ Pair → {x y : ℕ} → x ≡ word_below d a (r.i + 1) r.x → y ≡ word_below d b (r.j + 1) r.y
      → record { i = r.i + 1; x = x; j = r.j + 1; y = y } ≡ rows_after d a b r v
  unfolding rows_after
  after-pair e ex ey = rw e (ap₂ (λ (x y : ℕ). record { i = r.i + 1; x = x; j = r.j + 1; y = y }) ex ey)

  pub after_first : v ≡ First → {x : ℕ} → x ≡ word_below d a (r.i + 1) r.x → record { i = r.i + 1; x = x; j = r.j; y = r.y } ≡ rows_after d a b r v
  unfolding rows_after
  after_first e ex = rw e (ap (λ (x : ℕ). record { i = r.i + 1; x = x; j = r.j; y = r.y }) ex)

  pub after-second : v ≡ Second → {y : ℕ} → y ≡ word_below d b (r.j + 1) r.y → record { i = r.i; x = r.x; j = r.j + 1; y = y } ≡ rows_after d a b r v
  unfolding rows_after
  after-second e ey = rw e (ap (λ (y : ℕ). record { i = r.i; x = r.x; j = r.j + 1; y = y }) ey)

-- the words of the rows behind a move are theirs
below_next : (d : Bytes) (w r : ℕ) {x : ℕ} → x ≡ stored_word_in d w r 0 → word_below d w (r + 1) x ≡ stored_word_in d w (suc r) 0
unfolding above_word
below_next d w r {x} e = ap (λ (k : ℕ). word_below d w k x) (add-one r) ∙ ap (word_below d w (suc r)) e ∙ below-is d w (suc r)

module _ (d : Bytes) (a b t : ℕ) (r : Rows) (S : Standing d a b t r) where
  -- where they stand
  pub record Stood (v : Move) (q : Rows) : Type 0 where
    pub first-is : q.i ≡ first_after v r.i
    pub second_is : q.j ≡ second_after v r.j
    pub first_word : q.x ≡ stored_word_in d a (first_after v r.i) 0
    pub second_word : q.y ≡ stored_word_in d b (second_after v r.j) 0

  stood : (v : Move) → Stood v (rows_after d a b r v)
  unfolding rows_after first_after second_after
  stood Pair = record {
    first-is = add-one r.i;
    second_is = add-one r.j;
    first_word = below_next d a r.i S.first_word;
    second_word = below_next d b r.j S.second_word;
  }
  stood First = record { first-is = add-one r.i; second_is = refl; first_word = below_next d a r.i S.first_word; second_word = S.second_word }
  stood Second = record { first-is = refl; second_is = add-one r.j; first_word = S.first_word; second_word = below_next d b r.j S.second_word }

  -- A turn leaves rows that stand, and takes one at least; m and n are the rows of the two logs.
  pub stands_on : {m n : ℕ} → m ≡ rows_in a → n ≡ rows_in b → r.i + r.j < m + n → {v : Move} {q : Rows} → v ≡ rows_move t m n r → q ≡ rows_after d a b r v
      → Standing d a b t q × (r.i + r.j < q.i + q.j) × (left_at d a b t r.i r.j ≡ on_move v r.i r.j (left_at d a b t q.i q.j))
  stands_on em en l {v} {q} e h =
      let k : r.i + r.j < rows_in a + rows_in b = omega (arith, em, en, l) in
      let f = e ∙ ap₂ (λ (m n : ℕ). rows_move t m n r) em en in
      let m = moved d a b t r S k f in
      let s = subst (Stood v) (sym h) (stood v) in (
        record {
          first-in = omega (arith, s.first-is, m.first-in);
          second-in = omega (arith, s.second_is, m.second-in);
          first_word = s.first_word ∙ ap (λ (k : ℕ). stored_word_in d a k 0) (sym s.first-is);
          second_word = s.second_word ∙ ap (λ (k : ℕ). stored_word_in d b k 0) (sym s.second_is);
        },
        omega (arith, s.first-is, s.second_is, m.more),
        turned_by d a b t r S k f ∙ ap₂ (λ (i j : ℕ). on_move v r.i r.j (left_at d a b t i j)) (sym s.first-is) (sym s.second_is),
      )

pub stands-first : (d : Bytes) (a b t : ℕ) {r : Rows} → r ≡ first_rows d a b → Standing d a b t r × (left_at d a b t r.i r.j ≡ paired t (times_in d a) (times_in d b))
unfolding first_rows above_word
stands-first d a b t {r} e = subst (λ (r : Rows). Standing d a b t r × (left_at d a b t r.i r.j ≡ paired t (times_in d a) (times_in d b))) (sym e) (
  record { first-in = omega arith; second-in = omega arith; first_word = below-is d a 0; second_word = below-is d b 0 },
  (let p : rows_in a - 0 ≡ rows_in a = omega arith in let q : rows_in b - 0 ≡ rows_in b = omega arith in
      ap₂ (λ (m n : ℕ). paired_from t 0 0 (times_from d a 0 m) (times_from d b 0 n)) p q),
)

-- both logs are used up
pub used-up : (d : Bytes) (a b t : ℕ) {r : Rows} → Standing d a b t r → rows_in a + rows_in b ≤ r.i + r.j → left_at d a b t r.i r.j ≡ no_rows
unfolding paired_from
used-up d a b t {r} S h =
    ap₂ (paired_from t r.i r.j)
    (times-over d a r.i (rows_in a) (omega (arith, S.second-in, h))) (times-over d b r.j (rows_in b) (omega (arith, S.first-in, h)))

-- ---- counted, count_pairs
module _ (p : ℕ) {v : Move} where
  pub counted-pair : v ≡ Pair → p + 1 ≡ p + pairs_in v
  unfolding pairs_in
  counted-pair e = rw e refl

  pub counted-first : v ≡ First → p ≡ p + pairs_in v
  unfolding pairs_in
  counted-first e = rw e (omega arith)

  pub counted-second : v ≡ Second → p ≡ p + pairs_in v
  unfolding pairs_in
  counted-second e = rw e (omega arith)

pairs-on : (v : Move) (i j : ℕ) (r : Paired) → length (on_move v i j r).pairs ≡ pairs_in v + length r.pairs
unfolding on_move pairs_in
pairs-on Pair i j r = omega arith
pairs-on First i j r = omega arith
pairs-on Second i j r = omega arith

-- as many pairs so far, and with those that are left all of them
pub record Counting (d : Bytes) (a b t p : ℕ) (r : Rows) : Type 0 where
  pub standing : Standing d a b t r
  pub all : p + length (left_at d a b t r.i r.j).pairs ≡ length (paired t (times_in d a) (times_in d b)).pairs

pub counting-first : (d : Bytes) (a b t : ℕ) {r : Rows} → r ≡ first_rows d a b → Counting d a b t 0 r
counting-first d a b t e =
    let s = stands-first d a b t e in
    record { standing = s.0; all = omega (arith, ap (λ (p : Paired). length p.pairs) s.1) }

pub counting-next : {d : Bytes} {a b t p k m n : ℕ} {r q : Rows} {v : Move} → Counting d a b t p r → m ≡ rows_in a → n ≡ rows_in b → r.i + r.j < m + n
    → v ≡ rows_move t m n r → q ≡ rows_after d a b r v → k ≡ p + pairs_in v → Counting d a b t k q × (r.i + r.j < q.i + q.j)
counting-next {d} {a} {b} {t} {p} {k} {m} {n} {r} {q} {v} C em en l e h g =
    let s = stands_on d a b t r C.standing em en l e h in (
      record {
        standing = s.0;
        all = omega (arith, g, C.all, ap (λ (p : Paired). length p.pairs) s.2, pairs-on v r.i r.j (left_at d a b t q.i q.j));
      },
      s.1,
    )

pub counting-done : {d : Bytes} {a b t p : ℕ} {r : Rows} → Counting d a b t p r → rows_in a + rows_in b ≤ r.i + r.j → p ≡ length (paired t (times_in d a) (times_in d b)).pairs
counting-done {d} {a} {b} {t} {p} {r} C h = omega (arith, C.all, ap (λ (p : Paired). length p.pairs) (used-up d a b t C.standing h))

-- every row of either log is counted once
pub counts-in : (d : Bytes) (a b t : ℕ) → NoneLost (rows_in a) (rows_in b) (paired t (times_in d a) (times_in d b))
counts-in d a b t =
    let c = counts-from t 0 0 (times_in d a) (times_in d b) in
    record { of_first = c.of_first ∙ times-length d a 0 (rows_in a); of_second = c.of_second ∙ times-length d b 0 (rows_in b) }

pub counting-few : {d : Bytes} {a b t p : ℕ} {r : Rows} → Counting d a b t p r → LogsPre a b t → p ≤ 1024
counting-few {d} {a} {b} {t} C L = omega (arith, C.all, (counts-in d a b t).of_first, L.first_few)
