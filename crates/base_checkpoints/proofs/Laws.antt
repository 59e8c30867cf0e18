-- A cell read by a checkpoint is the cell; checkpoints are put, and stay where their words and the descriptions do. Assumes nothing.
use Rattle.std.proofs.Common.{◌≡◌, ℕ, zero, suc, ◌+◌, ◌-◌, ◌*◌, ◌/◌, ◌%◌, ◌^◌, ◌<◌, ◌≤◌, Bool, true, false, eqb, ltb, leb, List, length, get_or, set, ℤ, nat_abs, sym, refl, ap, ◌∙◌, ap₂, inl, inr, add-zero, mul_comm, eq-or-lt_of_le, arith, length-set, get_or-set_other, get_or-set_same, ltb-false, ltb-true, le-ltb, lt-ltb, le-leb, leb-true}
use borrow.Author.Tests.{lt-leb}
use Rattle.spec_calculus.specs.Lists.{pick}
use Rattle.spec_encoding.specs.Record.{Bytes, four, signed}
use Rattle.spec_encoding.specs.Columns.{plus, unfolded, summed}
use Rattle.base_signed.proofs.SignedWords.{by-test, no}
use Rattle.base_scratch.specs.Map.{scratch_size, checkpoints_at, checkpoints_end}
use Rattle.base_tables.specs.Description.{most_tables, columns_in, rows_in, kind_in, full_in, description_in, table_in, column_place_in, stored_word_in, word_in, cell_in, CellPost}
use Rattle.base_tables.proofs.ByteReaders.{few}
use Rattle.base_tables.proofs.TableWords.{description-same}
use Rattle.base_checkpoints.specs.Checkpoints.{checkpoint_at, checkpoint_in, first_row, second_row, tall_in, checkpoint_of, Checkpointed, uses_checkpoint, checkpointed_word, checkpointed_cell_in, CheckpointTablePost, CheckpointTablesPost, CheckpointedCellPost}

-- ---- sums
plus-plus : (a b u : ℕ) → plus a (plus b u) ≡ plus (plus a b) u
plus-plus a b u = omega arith

low-zero : (a : ℕ) → a < 2 ^ 32 → a ≡ plus a 0
low-zero a p = omega arith

sum_low : (d : Bytes) (p n : ℕ) → summed d p n < 2 ^ 32
unfolding summed
sum_low d p zero = omega arith
sum_low d p (suc n) = omega arith

-- the sum down to row a + b is that down to row a and what comes behind it
summed-split : (d : Bytes) (p a b : ℕ) → summed d p (a + b) ≡ plus (summed d p a) (summed d (p + 4 * a) b)
unfolding summed
summed-split d p a zero = ap (summed d p) (add-zero a) ∙ low-zero (summed d p a) (sum_low d p a)
summed-split d p a (suc b) =
    let e : a + suc b ≡ suc (a + b) = omega arith in
    let i : p + 4 * (a + b) ≡ p + 4 * a + 4 * b = omega arith in
    ap (summed d p) e
    ∙ ap₂ (λ x k. plus x (unfolded (four d k))) (summed-split d p a b) i
    ∙ sym (plus-plus (summed d p a) (summed d (p + 4 * a) b) (unfolded (four d (p + 4 * a + 4 * b))))

-- ---- a cell by its checkpoint
checkpoint-low : (a b : ℕ) → a < 2 ^ 32 → (a + 2 ^ 32 * b) % 2 ^ 32 ≡ a
checkpoint-low a b p = omega arith

checkpoint-high : (a b : ℕ) → a < 2 ^ 32 → (a + 2 ^ 32 * b) / 2 ^ 32 ≡ b
checkpoint-high a b p = omega arith

module _ (d : Bytes) (w r c : ℕ) where
  abbrev p : ℕ
  p = column_place_in w c

  word_first : first_row ≤ r → plus (checkpoint_of d w c % 2 ^ 32) (summed d (p + 4 * first_row) (r + 1 - first_row)) ≡ summed d p (suc r)
  unfolding checkpoint_of
  word_first l =
      let e : first_row + (r + 1 - first_row) ≡ suc r = omega arith in
      ap (λ x. plus x (summed d (p + 4 * first_row) (r + 1 - first_row))) (checkpoint-low (summed d p first_row) (summed d p second_row) (sum_low d p first_row))
      ∙ sym (summed-split d p first_row (r + 1 - first_row)) ∙ ap (summed d p) e

  word-second : second_row ≤ r → plus (checkpoint_of d w c / 2 ^ 32) (summed d (p + 4 * second_row) (r + 1 - second_row)) ≡ summed d p (suc r)
  unfolding checkpoint_of
  word-second l =
      let e : second_row + (r + 1 - second_row) ≡ suc r = omega arith in
      ap (λ x. plus x (summed d (p + 4 * second_row) (r + 1 - second_row))) (checkpoint-high (summed d p first_row) (summed d p second_row) (sum_low d p first_row))
      ∙ sym (summed-split d p second_row (r + 1 - second_row)) ∙ ap (summed d p) e

  word-is : first_row ≤ r → checkpointed_word d w (checkpoint_of d w c) r c ≡ summed d p (suc r)
  unfolding checkpointed_word pick
  word-is l = by-test (ltb r second_row) (λ t. rw t (word_first l)) (λ t. rw t (word-second (ltb-false r second_row t)))

-- what using a checkpoint asks
pub record Uses (w r c : ℕ) : Type 0 where
  pub row : r < rows_in w
  pub column : c < columns_in w
  pub few : c < 8
  pub behind : first_row ≤ r
  pub kind : eqb (kind_in w) 1 ≡ true
  pub full : full_in w ≡ true

uses-by : (w r c : ℕ) → uses_checkpoint w r c ≡ true → Uses w r c
unfolding uses_checkpoint pick
uses-by w r c =
    by-test (ltb r (rows_in w))
    (λ a. by-test (ltb c (columns_in w))
    (λ b. by-test (ltb c 8)
    (λ e. by-test (leb first_row r)
    (λ f. by-test (eqb (kind_in w) 1)
    (λ h. rw (a, b, e, f, h) (λ k. record { row = ltb-true r (rows_in w) a; column = ltb-true c (columns_in w) b; few = ltb-true c 8 e; behind = leb-true first_row r f; kind = h; full = k }))
    (λ h. rw (a, b, e, f, h) (λ k. no (sym k))))
    (λ f. rw (a, b, e, f) (λ k. no (sym k))))
    (λ e. rw (a, b, e) (λ k. no (sym k))))
    (λ b. rw (a, b) (λ k. no (sym k))))
    (λ a. rw a (λ k. no (sym k)))

pub uses : {w r c : ℕ} {t : Bool} → t ≡ uses_checkpoint w r c → t ≡ true → Uses w r c
uses {w} {r} {c} e h = uses-by w r c (sym e ∙ h)

uses-tall : {w r c : ℕ} → Uses w r c → tall_in w ≡ true
unfolding tall_in pick
uses-tall {w} U = rw U.kind (le-leb first_row (rows_in w) (omega (arith, U.behind, U.row)))

uses-cell : (d : Bytes) {w r c : ℕ} → Uses w r c → cell_in d w r c ≡ signed (summed d (column_place_in w c) (suc r))
unfolding cell_in word_in stored_word_in pick
uses-cell d {w} {r} {c} U = rw (lt-ltb r (rows_in w) U.row, lt-ltb c (columns_in w) U.column, U.full, U.kind)

-- where scratch is checkpointed, what is read is the cell
pub checkpointed-is : {d : Bytes} {s : List ℕ} → Checkpointed d s → (n r c : ℕ) → checkpointed_cell_in d s n r c ≡ cell_in d (description_in s n) r c
unfolding checkpointed_cell_in pick
checkpointed-is {d} {s} M n r c =
    by-test (uses_checkpoint (description_in s n) r c)
    (λ t. let U = uses-by (description_in s n) r c t in
    rw t (ap signed (ap (λ m. checkpointed_word d (description_in s n) m r c) (M.each n c U.few (uses-tall U)) ∙ word-is d (description_in s n) r c U.behind) ∙ sym (uses-cell d U)))
    (λ t. rw t)

-- ---- which tables are checkpointed
pub tall-rows : (w : ℕ) {n : ℕ} {t : Bool} → t ≡ eqb (kind_in w) 1 → t ≡ true → n ≡ rows_in w → leb first_row n ≡ tall_in w
unfolding tall_in pick
tall-rows w e h N = rw (sym e ∙ h, N)

pub tall-none : (w : ℕ) {t : Bool} → t ≡ eqb (kind_in w) 1 → t ≡ false → false ≡ tall_in w
unfolding tall_in pick
tall-none w e h = rw (sym e ∙ h)

no_table : tall_in 0 ≡ true → ⊥
unfolding tall_in pick
no_table h = no (sym h)

-- they have a number
tall-from : (s : List ℕ) (n : ℕ) → tall_in (description_in s n) ≡ true → 1 ≤ n
unfolding description_in
tall-from s zero h = absurd (no_table h)
tall-from s (suc k) h = omega arith

tall-most : (s : List ℕ) (n : ℕ) → tall_in (description_in s n) ≡ true → n ≤ 8
unfolding description_in table_in pick
tall-most s zero h = omega arith
tall-most s (suc k) h = by-test (ltb k 8) (λ t. omega (arith, ltb-true k 8 t)) (λ t. absurd (no_table (rw t at h)))

-- ---- checkpoints that are put
pub checkpoint-is : (d : Bytes) (w c : ℕ) {p x y : ℕ} → p ≡ column_place_in w c → x ≡ summed d p first_row → y ≡ summed d p second_row → x + 2 ^ 32 * y ≡ checkpoint_of d w c
unfolding checkpoint_of
checkpoint-is d w c e X Y = ap₂ (λ a b. a + 2 ^ 32 * b) (X ∙ ap (λ k. summed d k first_row) e) (Y ∙ ap (λ k. summed d k second_row) e)

-- the first c checkpoints of table n - 1 stand in s
pub record Checkpointing (d : Bytes) (s₀ : List ℕ) (n : ℕ) (s : List ℕ) (c : ℕ) : Type 0 where
  pub long : length s ≡ length s₀
  pub below : (j : ℕ) → j < checkpoint_at n 0 → get_or s j 0 ≡ get_or s₀ j 0
  pub behind : (j : ℕ) → checkpoint_at n 8 ≤ j → get_or s j 0 ≡ get_or s₀ j 0
  pub checkpoints : scratch_size ≤ length s₀ → (i : ℕ) → i < c → checkpoint_in s n i ≡ checkpoint_of d (description_in s₀ n) i

module _ {d : Bytes} {s₀ : List ℕ} {n : ℕ} where
  pub checkpointing-first : Checkpointing d s₀ n s₀ 0
  checkpointing-first = record { long = refl; below = λ j h. refl; behind = λ j h. refl; checkpoints = λ r i h. absurd (omega arith) }

  pub checkpointing-next : {s s' : List ℕ} {c w m : ℕ} → Checkpointing d s₀ n s c → n ≤ 8 → c < 8 → w ≡ description_in s₀ n → m ≡ checkpoint_of d w c → s' ≡ set s (checkpoint_at n c) m → Checkpointing d s₀ n s' (c + 1)
  checkpointing-next {s} {s'} {c} {w} {m} I l h W M e = rw e (record {
    long = length-set s (checkpoint_at n c) m ∙ I.long;
    below = λ j q. get_or-set_other s (checkpoint_at n c) j m 0 (λ z. omega arith) ∙ I.below j q;
    behind = λ j q. get_or-set_other s (checkpoint_at n c) j m 0 (λ z. omega arith) ∙ I.behind j q;
    checkpoints = λ r i q. elim (eq-or-lt_of_le {n = i} {m = c} (omega arith)) [
      | inl z ↦ ap (λ k. get_or (set s (checkpoint_at n c) m) (checkpoint_at n k) 0) z ∙ get_or-set_same s (checkpoint_at n c) m 0 (omega (arith, I.long)) ∙ M ∙ ap (λ v. checkpoint_of d v c) W ∙ ap (checkpoint_of d (description_in s₀ n)) (sym z)
      | inr z ↦ get_or-set_other s (checkpoint_at n c) (checkpoint_at n i) m 0 (λ y. omega arith) ∙ I.checkpoints r i z
    ];
  })

  pub checkpointing-last : {s : List ℕ} {c : ℕ} → Checkpointing d s₀ n s c → 8 ≤ c → CheckpointTablePost d s₀ n s
  checkpointing-last I l = record { long = I.long; below = I.below; behind = I.behind; checkpoints = λ r c h y. I.checkpoints r c (omega arith) }

  pub checkpointing-none : {w : ℕ} {t : Bool} → w ≡ description_in s₀ n → t ≡ tall_in w → t ≡ false → CheckpointTablePost d s₀ n s₀
  checkpointing-none W e f = record { long = refl; below = λ j h. refl; behind = λ j h. refl; checkpoints = λ r c h y. no (sym (sym f ∙ e ∙ ap tall_in W ∙ y)) }

-- those of the tables below n - 1 do
pub record CheckpointedTo (d : Bytes) (s₀ s : List ℕ) (n : ℕ) : Type 0 where
  pub long : length s ≡ length s₀
  pub below : (j : ℕ) → j < checkpoints_at → get_or s j 0 ≡ get_or s₀ j 0
  pub behind : (j : ℕ) → checkpoints_end ≤ j → get_or s j 0 ≡ get_or s₀ j 0
  pub checkpoints : scratch_size ≤ length s₀ → (m c : ℕ) → m < n → c < 8 → tall_in (description_in s₀ m) ≡ true → checkpoint_in s m c ≡ checkpoint_of d (description_in s₀ m) c

module _ {d : Bytes} {s₀ : List ℕ} where
  pub to-first : CheckpointedTo d s₀ s₀ 1
  to-first = record { long = refl; below = λ j h. refl; behind = λ j h. refl; checkpoints = λ r m c l h y. absurd (omega (arith, tall-from s₀ m y)) }

  pub to-next : {s s' : List ℕ} {n : ℕ} → CheckpointedTo d s₀ s n → 1 ≤ n → n ≤ 8 → CheckpointTablePost d s n s' → CheckpointedTo d s₀ s' (n + 1)
  to-next {s} {s'} {n} I f l P =
      let D : description_in s n ≡ description_in s₀ n = description-same s s₀ (λ j h. I.below j (omega arith)) n in
      record {
        long = P.long ∙ I.long;
        below = λ j h. P.below j (omega arith) ∙ I.below j h;
        behind = λ j h. P.behind j (omega arith) ∙ I.behind j h;
        checkpoints = λ r m c q h y. elim (eq-or-lt_of_le {n = m} {m = n} (omega arith)) [
          | inl z ↦ ap (λ k. checkpoint_in s' k c) z ∙ P.checkpoints (omega (arith, I.long)) c h (ap tall_in D ∙ ap (λ k. tall_in (description_in s₀ k)) (sym z) ∙ y) ∙ ap (λ v. checkpoint_of d v c) (D ∙ ap (description_in s₀) (sym z))
          | inr z ↦ P.below (checkpoint_at m c) (omega arith) ∙ I.checkpoints r m c z h y
        ];
      }

  pub to_last : {s : List ℕ} {n : ℕ} → CheckpointedTo d s₀ s n → 8 < n → CheckpointTablesPost d s₀ s
  to_last {s} {n} I l =
      let D : (k : ℕ) → description_in s k ≡ description_in s₀ k = description-same s s₀ (λ j h. I.below j (omega arith)) in
      record {
        long = I.long;
        below = I.below;
        behind = I.behind;
        checkpointed = λ r. record { each = λ k c h y. I.checkpoints r k c (omega (arith, tall-most s k y)) h (ap tall_in (sym (D k)) ∙ y) ∙ ap (λ v. checkpoint_of d v c) (sym (D k)) };
      }

-- checkpoints stay where their words and the descriptions do
pub checkpointed-same : {d : Bytes} {s : List ℕ} (t : List ℕ) → ((j : ℕ) → j ≤ most_tables → get_or t j 0 ≡ get_or s j 0) → ((j : ℕ) → checkpoints_at ≤ j → j < checkpoints_end → get_or t j 0 ≡ get_or s j 0) → Checkpointed d s → Checkpointed d t
checkpointed-same {d} {s} t f g M = record {
  each = λ n c h y.
      let D : description_in t n ≡ description_in s n = description-same t s f n in
      g (checkpoint_at n c) (omega (arith, tall-from t n y)) (omega (arith, tall-most t n y)) ∙ M.each n c h (ap tall_in (sym D) ∙ y) ∙ ap (λ v. checkpoint_of d v c) (sym D);
}

-- ---- a cell that is read
pub place-low : (w c : ℕ) → w < 2 ^ 64 → c < 8 → column_place_in w c + 4096 < 2 ^ 60
place-low w c f h = omega (arith, few c (rows_in w) (omega arith) (omega arith), mul_comm c (rows_in w))

module _ (w r c : ℕ) {n : ℕ} (N : n ≡ rows_in w) where
  pub unused-row : n ≤ r → false ≡ uses_checkpoint w r c
  unfolding uses_checkpoint pick
  unused-row l = rw (le-ltb r (rows_in w) (rw N at l))

  module _ (l : r < n) {m : ℕ} (M : m ≡ columns_in w) where
    pub unused-column : m ≤ c → false ≡ uses_checkpoint w r c
    unfolding uses_checkpoint pick
    unused-column h = rw (lt-ltb r (rows_in w) (rw N at l), le-ltb c (columns_in w) (rw M at h))

    module _ (h : c < m) where
      pub unused-wide : 8 ≤ c → false ≡ uses_checkpoint w r c
      unfolding uses_checkpoint pick
      unused-wide f = rw (lt-ltb r (rows_in w) (rw N at l), lt-ltb c (columns_in w) (rw M at h), le-ltb c 8 f)

      module _ (f : c < 8) where
        pub unused-first : r < first_row → false ≡ uses_checkpoint w r c
        unfolding uses_checkpoint pick
        unused-first g = rw (lt-ltb r (rows_in w) (rw N at l), lt-ltb c (columns_in w) (rw M at h), lt-ltb c 8 f, lt-leb first_row r g)

        module _ (g : first_row ≤ r) {t : Bool} (e : t ≡ eqb (kind_in w) 1) where
          pub used-by : t ≡ true → {u : Bool} → u ≡ full_in w → u ≡ uses_checkpoint w r c
          unfolding uses_checkpoint pick
          used-by k v = rw (lt-ltb r (rows_in w) (rw N at l), lt-ltb c (columns_in w) (rw M at h), lt-ltb c 8 f, le-leb first_row r g, ← e, k) v

          pub unused-rows : t ≡ false → false ≡ uses_checkpoint w r c
          unfolding uses_checkpoint pick
          unused-rows k = rw (lt-ltb r (rows_in w) (rw N at l), lt-ltb c (columns_in w) (rw M at h), lt-ltb c 8 f, le-leb first_row r g, ← e, k)

module _ (d : Bytes) (w m r c : ℕ) {p y x : ℕ} (P : p ≡ column_place_in w c) where
  pub word_low : r < second_row → y ≡ summed d (p + 4 * first_row) (r + 1 - first_row) → x ≡ plus (m % 2 ^ 32) y → x ≡ checkpointed_word d w m r c
  unfolding checkpointed_word pick
  word_low l Y X = rw (lt-ltb r second_row l) (X ∙ ap (plus (m % 2 ^ 32)) (Y ∙ ap (λ k. summed d (k + 4 * first_row) (r + 1 - first_row)) P))

  pub word-high : second_row ≤ r → y ≡ summed d (p + 4 * second_row) (r + 1 - second_row) → x ≡ plus (m / 2 ^ 32) y → x ≡ checkpointed_word d w m r c
  unfolding checkpointed_word pick
  word-high l Y X = rw (le-ltb r second_row l) (X ∙ ap (plus (m / 2 ^ 32)) (Y ∙ ap (λ k. summed d (k + 4 * second_row) (r + 1 - second_row)) P))

module _ {d : Bytes} {s : List ℕ} {n r c w : ℕ} {t : Bool} (W : w ≡ description_in s n) (e : t ≡ uses_checkpoint w r c) where
  pub cell-checkpointed : t ≡ true → {m x : ℕ} {z : ℤ} → m ≡ checkpoint_in s n c → x ≡ checkpointed_word d w m r c → (z ≡ signed x) × (nat_abs z ≤ 2 ^ 31) → CheckpointedCellPost d s n r c z
  unfolding checkpointed_cell_in pick
  cell-checkpointed h M X Z = record {
    is = rw (sym (ap (λ v. uses_checkpoint v r c) W) ∙ sym e ∙ h) (Z.0 ∙ ap signed (X ∙ ap₂ (λ v k. checkpointed_word d v k r c) W M));
    small = Z.1;
  }

  pub cell_other : t ≡ false → {z : ℤ} → CellPost d w r c z → CheckpointedCellPost d s n r c z
  unfolding checkpointed_cell_in pick
  cell_other h Z = record {
    is = rw (sym (ap (λ v. uses_checkpoint v r c) W) ∙ sym e ∙ h) (Z.is ∙ ap (λ v. cell_in d v r c) W);
    small = Z.small;
  }
