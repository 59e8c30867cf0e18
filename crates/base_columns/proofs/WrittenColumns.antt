-- What numbers written in four bytes each leave, one column and all columns: a law for each step of the loops. Assumes nothing.
use Rattle.std.proofs.Common.{◌≡◌, ℕ, zero, suc, ◌+◌, ◌-◌, ◌*◌, ◌/◌, ◌%◌, ◌^◌, ◌<◌, ◌≤◌, Bool, true, false, ltb, [], ◌∷◌, length, set, sym, refl, ap, ◌∙◌, subst, ap₂, inl, inr, mul_comm, eq-or-lt_of_le, mul-le-mul_left, mul-suc, add-one, arith, length-set, get_or-set_other, get_or-set_same, ltb-false, ltb-true}
use native.Mathlib.Numerals.{add-two, add-three}
use lib.Arith.{digits_div, digits_mod}
use lib.Seq.{sets, length-sets}
use Rattle.spec_encoding.specs.Record.{Bytes, byte, four, signed}
use Rattle.spec_encoding.specs.Columns.{minus, plus, folded, unfolded, above, difference, summed, bytes_of}
use Rattle.spec_encoding.specs.Data.{bounds_at}
use Rattle.base_columns.specs.Contract.{Written, Cells, FoldPre, FoldPost, UnfoldPre, UnfoldPost, CellsPre, ByColumnsPost, ByRowsPost}

-- ---- one number
pub fold_is : (x y : ℕ) {d r : ℕ} → x < 2 ^ 32 → y < 2 ^ 32 → d < 2 ^ 32 → (d + y) % 2 ^ 32 ≡ x → r ≡ folded (signed d) → r ≡ folded (signed (minus x y))
fold_is x y {d} p q u h e = e ∙ ap (λ k. folded (signed k)) (turn d x y p q u h)
  where
    turn : (d x y : ℕ) → x < 4294967296 → y < 4294967296 → d < 4294967296 → (d + y) % 4294967296 ≡ x → d ≡ (x + (4294967296 - y)) % 4294967296
    turn d x y p q u h = omega arith

pub put_is : (d : Bytes) (i w : ℕ) {a b c e : ℕ} → a ≡ w % 256 → b ≡ w / 256 % 256 → c ≡ w / 65536 % 256 → e ≡ w / 16777216 % 256
    → set (set (set (set d i a) (i + 1) b) (i + 2) c) (i + 3) e ≡ sets d i (bytes_of w)
put_is d i w pa pb pc pe = simp (add-one, add-two, add-three, pa, pb, pc, pe)

before : (d : Bytes) (p : ℕ) (bs : Bytes) (i : ℕ) → i < p → byte (sets d p bs) i ≡ byte d i
before d p [] i h = refl
before d p (b ∷ bs) i h = before (set d p b) (suc p) bs i (omega arith) ∙ get_or-set_other d p i b 0 (λ e. omega arith)

behind : (d : Bytes) (p : ℕ) (bs : Bytes) (i : ℕ) → p + length bs ≤ i → byte (sets d p bs) i ≡ byte d i
behind d p [] i h = refl
behind d p (b ∷ bs) i h = behind (set d p b) (suc p) bs i (omega arith) ∙ get_or-set_other d p i b 0 (λ e. omega arith)

-- bytes that were stored, and bytes beside them
stored-byte : (d : Bytes) (p : ℕ) (bs : Bytes) (x : ℕ) → p + length bs ≤ length d → x < length bs → byte (sets d p bs) (p + x) ≡ byte bs x
stored-byte d p [] x h l = absurd (omega arith)
stored-byte d p (b ∷ bs) zero h l = ap (λ (i : ℕ). byte (sets d p (b ∷ bs)) i) (omega arith) ∙ before (set d p b) (suc p) bs p (omega arith) ∙ get_or-set_same d p b 0 (omega arith)
stored-byte d p (b ∷ bs) (suc x) h l = ap (λ (i : ℕ). byte (sets d p (b ∷ bs)) i) (omega arith) ∙ stored-byte (set d p b) (suc p) bs x (omega (arith, length-set d p b)) (omega arith)

beside-byte : (d : Bytes) (p w j : ℕ) → (p ≤ j → j < p + 4 → ⊥) → byte (sets d p (bytes_of w)) j ≡ byte d j
beside-byte d p w j h = go (ltb j p) refl
  where
    go : (t : Bool) → ltb j p ≡ t → byte (sets d p (bytes_of w)) j ≡ byte d j
    go true e = before d p (bytes_of w) j (ltb-true j p e)
    go false e = go' (ltb j (p + 4)) refl
      where
        go' : (t : Bool) → ltb j (p + 4) ≡ t → byte (sets d p (bytes_of w)) j ≡ byte d j
        go' true u = absurd (h (ltb-false j p e) (ltb-true j (p + 4) u))
        go' false u = behind d p (bytes_of w) j (omega (arith, ltb-false j (p + 4) u))

-- ---- a column
step-on : (step k r : ℕ) → k < r → step * k + step ≤ step * r
step-on step k r h = omega (arith, mul-suc step k, mul-le-mul_left {m = suc k} {n = r} step h)

module _ {d₀ : Bytes} {p step : ℕ} {f : ℕ → ℕ} where
  pub written-first : Written d₀ d₀ 0 p step f
  written-first = record { long = refl; here = λ r x h y. absurd (omega arith); other = λ j h. refl }

  pub written_next : {d d' : Bytes} {r w : ℕ} → Written d₀ d r p step f → 4 ≤ step → p + step * r + 4 ≤ length d → w ≡ f r → d' ≡ sets d (p + step * r) (bytes_of w) → Written d₀ d' (r + 1) p step f
  written_next {d} {d'} {r} {w} W s room e E = record {
    long = ap length E ∙ length-sets d (p + step * r) (bytes_of w) ∙ W.long;
    here = λ k x h y. elim (eq-or-lt_of_le {n = k} {m = r} (omega arith)) [
      | inl u ↦ subst (λ (k : ℕ). byte d' (p + step * k + x) ≡ byte (bytes_of (f k)) x) (sym u)
          (ap (λ v. byte v (p + step * r + x)) E ∙ stored-byte d (p + step * r) (bytes_of w) x room y ∙ ap (λ v. byte (bytes_of v) x) e)
      | inr u ↦ ap (λ v. byte v (p + step * k + x)) E ∙ beside-byte d (p + step * r) w (p + step * k + x) (λ a b. omega (arith, step-on step k r u, a, y, s)) ∙ W.here k x u y
    ];
    other = λ j h. ap (λ v. byte v j) E ∙ beside-byte d (p + step * r) w j (λ a b. h r (omega arith) a b) ∙ W.other j (λ k u. h k (omega arith));
  }

-- a column being folded: r rows are done
pub record Folding (c d₀ : Bytes) (from step to : ℕ) (d : Bytes) (y r : ℕ) : Type 0 where
  pub done : Written d₀ d r to 4 (λ r. difference c from step r)
  pub last : y ≡ above c from step r

pub record Unfolding (c d₀ : Bytes) (from to step : ℕ) (d : Bytes) (y r : ℕ) : Type 0 where
  pub done : Written d₀ d r to step (λ r. summed c from (suc r))
  pub last : y ≡ summed c from r

module _ (c d₀ : Bytes) (from step to : ℕ) where
  pub folding-first : Folding c d₀ from step to d₀ 0 0
  unfolding above
  folding-first = record { done = written-first; last = refl }

  pub unfolding-first : Unfolding c d₀ from to step d₀ 0 0
  unfolding summed
  unfolding-first = record { done = written-first; last = refl }

module _ {c d₀ : Bytes} {from step to n : ℕ} {d : Bytes} {y r : ℕ} (I : Folding c d₀ from step to d y r) (P : FoldPre c d₀ from step to n) (l : r < n) where
  pub fold-room : to + 4 * r + 4 ≤ length d
  fold-room = omega (arith, P.room, I.done.long, l)

  pub fold_next : {d' : Bytes} {x w : ℕ} → x ≡ four c (from + step * r) → w ≡ folded (signed (minus x y)) → d' ≡ sets d (to + 4 * r) (bytes_of w) → Folding c d₀ from step to d' x (r + 1)
  unfolding above difference
  fold_next {d'} {x} {w} ex ew E = record {
    done = written_next I.done (omega arith) fold-room (ew ∙ ap₂ (λ a b. folded (signed (minus a b))) ex I.last) E;
    last = ex ∙ ap (above c from step) (sym (add-one r));
  }

pub fold_done : {c d₀ : Bytes} {from step to n : ℕ} {d : Bytes} {y r : ℕ} → Folding c d₀ from step to d y r → r ≡ n → FoldPost c from step n to d₀ d
fold_done {c} {d₀} {from} {step} {to} {d = d} I e = subst (λ (k : ℕ). FoldPost c from step k to d₀ d) e I.done

module _ {c d₀ : Bytes} {from to step n : ℕ} {d : Bytes} {y r : ℕ} (I : Unfolding c d₀ from to step d y r) (P : UnfoldPre c d₀ from to step n) (l : r < n) where
  pub unfold-room : to + step * r + 4 ≤ length d
  unfold-room = omega (arith, P.room r l, I.done.long)

  pub unfold-next : {d' : Bytes} {x v : ℕ} → v ≡ four c (from + 4 * r) → x ≡ plus y (unfolded v) → d' ≡ sets d (to + step * r) (bytes_of x) → Unfolding c d₀ from to step d' x (r + 1)
  unfolding summed
  unfold-next {d'} {x} {v} ev ex E =
      let a : x ≡ summed c from (suc r) = ex ∙ ap₂ (λ a b. plus a (unfolded b)) I.last ev in record {
        done = written_next I.done P.least unfold-room a E;
        last = a ∙ ap (summed c from) (sym (add-one r));
      }

pub unfold-done : {c d₀ : Bytes} {from to step n : ℕ} {d : Bytes} {y r : ℕ} → Unfolding c d₀ from to step d y r → r ≡ n → UnfoldPost c from n to step d₀ d
unfold-done {c} {d₀} {from} {to} {step} {d = d} I e = subst (λ (k : ℕ). UnfoldPost c from k to step d₀ d) e I.done

-- ---- all columns
module _ {d₀ : Bytes} {n p : ℕ} {q f : ℕ → ℕ → ℕ} where
  pub cells-first : Cells d₀ d₀ 0 n p q f
  cells-first = record { long = refl; here = λ i r x h y z. absurd (omega arith); other = λ j h. refl }

  -- one more column, whose places are none of those before
  pub cells-next : {d d' : Bytes} {i s b : ℕ} → Cells d₀ d i n p q f → Written d d' n s b (f i) → ((r : ℕ) → r < n → s + b * r ≡ p + 4 * q i r)
      → ((k r t : ℕ) → k < i → r < n → t < n → q k r ≡ q i t → ⊥) → Cells d₀ d' (i + 1) n p q f
  cells-next {d} {d'} {i} {s} {b} C W at apart = record {
    long = W.long ∙ C.long;
    here = λ k r x h g y. elim (eq-or-lt_of_le {n = k} {m = i} (omega arith)) [
      | inl u ↦ subst (λ (k : ℕ). byte d' (p + 4 * q k r + x) ≡ byte (bytes_of (f k r)) x) (sym u) (ap (λ (z : ℕ). byte d' (z + x)) (sym (at r g)) ∙ W.here r x g y)
      | inr u ↦ W.other (p + 4 * q k r + x) (λ t v a e. apart k r t u g v (omega (arith, at t v, a, e, y))) ∙ C.here k r x u g y
    ];
    other = λ j h. W.other j (λ t v a e. h i t (omega arith) v (omega (arith, at t v, a)) (omega (arith, at t v, e))) ∙ C.other j (λ k r u. h k r (omega arith));
  }

-- places of different columns are different
one_place : (m a x b y : ℕ) → x < m → y < m → m * a + x ≡ m * b + y → (a ≡ b) × (x ≡ y)
one_place m a x b y h g e =
    let s : a * m + x ≡ b * m + y = ap (λ (k : ℕ). k + x) (mul_comm a m) ∙ e ∙ ap (λ (k : ℕ). k + y) (mul_comm m b) in
    (sym (digits_div a h) ∙ ap (λ (k : ℕ). k / m) s ∙ digits_div b g, sym (digits_mod a h) ∙ ap (λ (k : ℕ). k % m) s ∙ digits_mod b g)

-- a cell is within its columns
pub cell-within : (w n i r : ℕ) → i < w → r < n → w * r + i + 1 ≤ w * n
cell-within w n i r h g = omega (arith, mul-suc w r, mul-le-mul_left {m = suc r} {n = n} w g)

pub column-within : (w n i : ℕ) → i < w → n * i + n ≤ w * n
column-within w n i h = omega (arith, mul-suc n i, mul-le-mul_left {m = suc i} {n = w} n h, mul_comm w n)

-- columns laid so far: i are done
abbrev pub FoldingCells : Bytes → ℕ → ℕ → Bytes → Bytes → ℕ → Type 0
FoldingCells c w n d₀ d i = Cells d₀ d i n (4 + (bounds_at + 4 * w)) (λ i r. n * i + r) (λ i r. difference c (bounds_at + 4 * w + 4 * i) (4 * w) r)

abbrev pub UnfoldingCells : Bytes → ℕ → ℕ → Bytes → Bytes → ℕ → Type 0
UnfoldingCells c w n d₀ d i = Cells d₀ d i n (4 + (bounds_at + 4 * w)) (λ i r. w * r + i) (λ i r. summed c (bounds_at + 4 * w + 4 * (n * i)) (suc r))

module _ {c d₀ : Bytes} {w n : ℕ} {d : Bytes} {i : ℕ} (P : CellsPre c d₀ w n) (l : i < w) where
  module _ (I : FoldingCells c w n d₀ d i) where
    pub fold_asks : FoldPre c d (bounds_at + 4 * w + 4 * i) (4 * w) (4 + (bounds_at + 4 * w) + 4 * (n * i)) n
    fold_asks = record {
      reads = λ r h. omega (arith, P.long, cell-within w n i r l h);
      room = omega (arith, P.room, P.long, I.long, column-within w n i l);
      most = omega (arith, P.most);
    }

    pub fold-cells-next : {d' : Bytes} → Written d d' n (4 + (bounds_at + 4 * w) + 4 * (n * i)) 4 (λ r. difference c (bounds_at + 4 * w + 4 * i) (4 * w) r) → FoldingCells c w n d₀ d' (i + 1)
    fold-cells-next W = cells-next I W (λ r h. omega arith) (λ k r t u h g e. omega (arith, u, (one_place n k r i t h g e).0))

  module _ (I : UnfoldingCells c w n d₀ d i) where
    pub unfold-asks : UnfoldPre c d (bounds_at + 4 * w + 4 * (n * i)) (4 + (bounds_at + 4 * w) + 4 * i) (4 * w) n
    unfold-asks = record {
      reads = omega (arith, P.long, column-within w n i l);
      room = λ r h. omega (arith, P.room, P.long, I.long, cell-within w n i r l h);
      least = omega (arith, P.least);
      most = omega (arith, P.most);
    }

    pub unfold-cells-next : {d' : Bytes} → Written d d' n (4 + (bounds_at + 4 * w) + 4 * i) (4 * w) (λ r. summed c (bounds_at + 4 * w + 4 * (n * i)) (suc r)) → UnfoldingCells c w n d₀ d' (i + 1)
    unfold-cells-next W = cells-next I W (λ r h. omega arith) (λ k r t u h g e. omega (arith, u, (one_place w r k t i (omega arith) l e).1))

module _ {c d₀ : Bytes} {w n : ℕ} {d : Bytes} {i : ℕ} (P : CellsPre c d₀ w n) (e : i ≡ w) where
  pub fold-cells-done : FoldingCells c w n d₀ d i → ByColumnsPost c w n d₀ d
  fold-cells-done I = subst (λ (k : ℕ). FoldingCells c w n d₀ d k) e I

  pub unfold-cells-done : UnfoldingCells c w n d₀ d i → ByRowsPost c w n d₀ d
  unfold-cells-done I = subst (λ (k : ℕ). UnfoldingCells c w n d₀ d k) e I
