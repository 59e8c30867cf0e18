-- Theorem 8: every number of a normal form, and every sum, maximum and minimum on the way to it, is within its bound; so within
-- 2^62 wherever 28 does not refuse.
use mathlib.Core.Path.{◌≡◌, refl, sym, ap, subst, ◌∙◌}
use mathlib.Core.List.{List, [], ◌∷◌, ◌++◌, foldl}
use mathlib.Core.Bool.{Bool, true, false, ◌&&◌}
use Prim.Native.Nat.{ℕ, zero, suc, ◌+◌, ◌*◌, ◌^◌, ◌≤◌}
use native.Mathlib.Nat.{le_refl, le_trans, mul-le-mul, mul-le-mul_right, mul_comm, mul_left_comm, zero-add, suc-mul, one-mul, pow-succ'}
use native.Mathlib.Numerals.{one-add}
use native.Mathlib.Omega.{arith}
use borrow.Author.Tests.{leb-true, leb-false}
use lib.Dec.{eqb, leb, eqb→eq}
use lib.IntN.{pos, nat_abs}
use lib.ListN.{get_or, length, length-append}
use Rattle.spec_calculus.specs.Lists.{bind_l, guard, pick, upd}
use Rattle.spec_calculus.specs.Syntax.{Monoid, of, sum, max, min, some, all, Bin, plus, minus, times, equal, less, and, or, Fun, choice, is_open}
use Rattle.spec_calculus.specs.Value.{Value, Values, nth, scalar, choice_v, app_v, junk, as_int, as_bool, field_of, bin_v, not_v, Tables, columns_of, bound_of, rows_of}
use Rattle.spec_calculus.specs.Value as Va
use Rattle.spec_calculus.specs.Monoid.{start, greater, lesser, Entry, step, total, finish, Fold, fold_by}
use Rattle.spec_calculus.specs.Meaning.{Env}
use Rattle.spec_calculus.proofs.Lists.{All, all-zip, all-imp, all-bind, all-front, all-behind, all-guard}
use Rattle.spec_calculus.proofs.Magnitude.{abs-plus, abs-minus, abs-times, abs-greater, abs-lesser, abs-against}
use Rattle.spec_calculus.proofs.WellFormed.{WellFormedRow, CellsWithin, row-no-number, WellFormed, rows-at-most, rows-well-formed, rows-in-bounds}
use Rattle.spec_calculus.proofs.Truths.{both}
use Rattle.spec_normal_form.specs.Form.{Form, Forms, Clauses, NormalForm, as_form, num, truth, row, cell, rec, bin, negate, app, comp, fnil, fcons, done, gen, cond, value, values, loops}
use Rattle.spec_normal_form.specs.Bound.{own_gens, bin_bound, larger, app_bound, comp_bound, Declared, bound, bounds, within, within_f, within_c, declared, numbers_fit}
use Rattle.spec_normal_form.proofs.GeneratorNumbers.{Numbered}
use Rattle.spec_normal_form.proofs.GeneratorTables.{Named, NamedF, NamedC, declared-named}

-- ---- lists
-- Each element gives at most n, so a list of them gives at most its length times n.
pub bind-length : {A B : Type 0} (f : A → List B) (n : ℕ) → ((a : A) → length (f a) ≤ n) → (l : List A) → length (bind_l l f) ≤ length l * n
unfolding bind_l
bind-length f n h [] = omega arith
bind-length f n h (a ∷ l) = omega (arith, length-append (f a) (bind_l l f), h a, bind-length f n h l, suc-mul (length l) n)

guard-length : {A : Type 0} (b : Bool) (l : List A) → length (guard b l) ≤ length l
unfolding guard
guard-length true l = le_refl (length l)
guard-length false l = omega arith

-- ---- what generators stand for
-- no number itself, its fields within their columns' bounds: a row of a well formed table, or nothing yet
pub record Cells (b : ℕ → ℕ) (v : Value) : Type 0 where
  pub no_number : as_int v ≡ pos 0
  pub fields : CellsWithin b v

-- each generator's row, under what the columns of its table declare
abbrev pub RowsIn : Declared → Env → Type 0
RowsIn C ρ = (g : ℕ) → Cells (C g) (ρ g)

pub row-cells : {n : ℕ} {b : ℕ → ℕ} {v : Value} → WellFormedRow n v → CellsWithin b v → Cells b v
row-cells r w = record { no_number = row-no-number r; fields = w }

-- Where no generator has run yet.
pub cells-none : (b : ℕ → ℕ) → Cells b junk
unfolding as_int field_of
cells-none b = record { no_number = refl; fields = λ i. omega arith }

pub rows_none : (C : Declared) → RowsIn C (λ g. junk)
rows_none C g = cells-none (C g)

-- Where one more generator stands for a row of its table.
pub rows_next : {C : Declared} {b : ℕ → ℕ} {v : Value} (g : ℕ) (ρ : Env) → C g ≡ b → Cells b v → RowsIn C ρ → RowsIn C (upd g v ρ)
unfolding upd
rows_next {C} {b} {v} g ρ e r R x = go (eqb g x) refl
  where
    go : (t : Bool) → eqb g x ≡ t → Cells (C x) (elim t [ true ↦ v | false ↦ ρ x ])
    go true p = subst (λ y. Cells (C y) v) (eqb→eq g x (rw p tt)) (subst (λ c. Cells c v) (sym e) r)
    go false p = R x

-- ---- folds over heads of a given magnitude
-- read as a number, of magnitude at most b
abbrev pub WithinBound : ℕ → Value → Type 0
WithinBound b v = nat_abs (as_int v) ≤ b

-- the bound of a monoid over n heads, each within b
unfoldable pub fold_bound : Monoid → ℕ → ℕ → ℕ
fold_bound (of c) n b = 0
fold_bound sum n b = n * b
fold_bound max n b = b
fold_bound min n b = b
fold_bound some n b = 0
fold_bound all n b = 0

pub fold_more : (m : Monoid) {n k : ℕ} (b : ℕ) → n ≤ k → fold_bound m n b ≤ fold_bound m k b
unfolding fold_bound
fold_more (of c) b h = omega arith
fold_more sum b h = mul-le-mul_right b h
fold_more max b h = le_refl b
fold_more min b h = le_refl b
fold_more some b h = omega arith
fold_more all b h = omega arith

start_small : (m : Monoid) (b : ℕ) → WithinBound b (start m)
unfolding start as_int
start_small (of c) b = omega arith
start_small sum b = omega arith
start_small max b = omega arith
start_small min b = omega arith
start_small some b = omega arith
start_small all b = omega arith

-- One more head.
pub step-bound : (E : Entry) (m : Monoid) (b n : ℕ) (v w : Value) → WithinBound b v → WithinBound (fold_bound m n b) w → WithinBound (fold_bound m (suc n) b) (step E m v w)
unfolding step fold_bound as_int
step-bound E (of c) b n v w p q = omega arith
step-bound E sum b n v w p q = omega (arith, abs-plus (as_int v) (as_int w), suc-mul n b)
step-bound E max b n v w p q = abs-against greater abs-greater (as_int v) w b p q
step-bound E min b n v w p q = abs-against lesser abs-lesser (as_int v) w b p q
step-bound E some b n v w p q = omega arith
step-bound E all b n v w p q = omega arith

-- a total, and the value that it comes to
finish-small : (m : Monoid) (w : Value) (b : ℕ) → WithinBound b w → WithinBound b (finish m w)
unfolding finish as_int
finish-small (of c) w b h = h
finish-small sum w b h = h
finish-small max w b h = h
finish-small min w b h = h
finish-small some w b h = h
finish-small all w b h = h

-- a total, and one more head, as a loop takes them
abbrev pub taken : Entry → Monoid → Value → Value → Value
taken E m w v = step E m v w

module _ (E : Entry) (m : Monoid) (b : ℕ) where
  -- Heads within b, folded from the right, are within the bound of their count: a sum within length times b, a max or min within b.
  total_right : (l : List Value) → All (WithinBound b) l → WithinBound (fold_bound m (length l) b) (total E m l)
  unfolding total
  total_right [] h = start_small m (fold_bound m 0 b)
  total_right (v ∷ l) h = step-bound E m b (length l) v (total E m l) h.0 (total_right l h.1)

  pub fold-right : (l : List Value) → All (WithinBound b) l → WithinBound (fold_bound m (length l) b) (fold_by E m l)
  unfolding fold_by
  fold-right l h = finish-small m (total E m l) (fold_bound m (length l) b) (total_right l h)

  -- The same from the left, as a loop accumulates, where w is within the bound of n heads.
  pub fold-left : (n : ℕ) (w : Value) (l : List Value) → WithinBound (fold_bound m n b) w → All (WithinBound b) l → WithinBound (fold_bound m (n + length l) b) (foldl (taken E m) w l)
  fold-left n w [] p h = le_trans p (fold_more m b (omega arith))
  fold-left n w (v ∷ l) p h = le_trans (fold-left (suc n) (taken E m w v) l (step-bound E m b n v w h.0 p) h.1) (fold_more m b (omega arith))

-- ---- the heads that the loops meet
abbrev pub heads : Fold → Tables → Clauses → Form → Env → List Value
heads F T q h ρ = loops F T q (λ σ. value F T h σ ∷ []) ρ

power : (g : ℕ) → 1024 ^ (1 + g) ≡ 1024 * 1024 ^ g
power g = ap (λ (n : ℕ). 1024 ^ n) (one-add g) ∙ pow-succ' 1024 g

-- Every row of a table is within what the table's columns declare.
pub table-cells : {T : Tables} → WellFormed T → (k : ℕ) → All (Cells (bound_of T k)) (rows_of T k)
table-cells {T} W k = all-imp (λ v. WellFormedRow (columns_of T k) v × CellsWithin (bound_of T k) v) (Cells (bound_of T k)) (rows_of T k)
    (all-zip (WellFormedRow (columns_of T k)) (CellsWithin (bound_of T k)) (rows_of T k) (rows-well-formed W k) (rows-in-bounds W k)) (λ v r. row-cells r.0 r.1)

module _ (F : Fold) {T : Tables} (W : WellFormed T) where
  -- What holds of the heads wherever generators stand for rows holds of all heads.
  pub loops-all : {C : Declared} (P : Value → Type 0) (k : Env → List Value) → ((σ : Env) → RowsIn C σ → All P (k σ))
      → (q : Clauses) → NamedC C (bound_of T) q → (ρ : Env) → RowsIn C ρ → All P (loops F T q k ρ)
  unfolding loops
  loops-all P k h done N ρ R = h ρ R
  loops-all P k h (gen g t q) N ρ R = all-bind (Cells (bound_of T t)) P (λ v. loops F T q k (upd g v ρ)) (rows_of T t) (table-cells W t)
      (λ v r. loops-all P k h q N.1 (upd g v ρ) (rows_next g ρ N.0 r R))
  loops-all P k h (cond t q) N ρ R = all-guard P (as_bool (value F T t ρ)) (loops F T q k ρ) (loops-all P k h q N.1 ρ R)

  -- The loops meet at most 1,024 heads for each generator, multiplied.
  pub loops-length : (k : Env → List Value) (n : ℕ) → ((σ : Env) → length (k σ) ≤ n)
      → (q : Clauses) (ρ : Env) → length (loops F T q k ρ) ≤ n * 1024 ^ own_gens q
  unfolding loops own_gens
  loops-length k n h done ρ = omega (arith, h ρ)
  loops-length k n h (gen g t q) ρ = le_trans (bind-length (λ v. loops F T q k (upd g v ρ)) (n * 1024 ^ own_gens q) (λ v. loops-length k n h q (upd g v ρ)) (rows_of T t))
      (subst (λ (b : ℕ). length (rows_of T t) * (n * 1024 ^ own_gens q) ≤ b) (mul_left_comm 1024 n (1024 ^ own_gens q) ∙ ap (λ (b : ℕ). n * b) (sym (power (own_gens q))))
      (mul-le-mul_right (n * 1024 ^ own_gens q) (rows-at-most W t)))
  loops-length k n h (cond t q) ρ = le_trans (guard-length (as_bool (value F T t ρ)) (loops F T q k ρ)) (loops-length k n h q ρ)

-- ---- operands
-- Plus, minus and times of numbers within a and b are within the result's bound.
pub bin-bound : (o : Bin) (v w : Value) (a b : ℕ) → WithinBound a v → WithinBound b w → WithinBound (bin_bound o a b) (bin_v o v w)
unfolding bin_v bin_bound as_int
bin-bound plus v w a b p q = omega (arith, abs-plus (as_int v) (as_int w))
bin-bound minus v w a b p q = omega (arith, abs-minus (as_int v) (as_int w))
bin-bound times v w a b p q = le_trans (abs-times (as_int v) (as_int w)) (mul-le-mul p q)
bin-bound equal v w a b p q = omega arith
bin-bound less v w a b p q = omega arith
bin-bound and v w a b p q = omega arith
bin-bound or v w a b p q = omega arith

pub larger-bounds : (a b : ℕ) → (a ≤ larger a b) × (b ≤ larger a b)
unfolding larger pick
larger-bounds a b = go (leb a b) refl
  where
    go : (c : Bool) → leb a b ≡ c → (a ≤ pick c b a) × (b ≤ pick c b a)
    go true p = (leb-true a b p, le_refl b)
    go false p = (le_refl a, omega (arith, leb-false a b p))

scalar-bound : (b : ℕ) (v : Value) → WithinBound b v → WithinBound b (scalar v)
unfolding scalar as_int
scalar-bound b (Va.num z) h = h
scalar-bound b (Va.truth c) h = h
scalar-bound b (Va.rec vs) h = h
scalar-bound b (Va.coll vs) h = h

choice-bound : (c : Bool) (v w : Value) (a b : ℕ) → WithinBound a v → WithinBound b w → WithinBound (larger a b) (scalar (pick c v w))
unfolding pick
choice-bound true v w a b p q = scalar-bound (larger a b) v (le_trans p (larger-bounds a b).0)
choice-bound false v w a b p q = scalar-bound (larger a b) w (le_trans q (larger-bounds a b).1)

-- each value within the bound at its position
abbrev pub AllSmall : List ℕ → Values → Type 0
AllSmall bs vs = (i : ℕ) → WithinBound (get_or bs i 0) (nth i vs)

-- What an operator makes of values within their bounds is within its bound.
pub app-bound : (f : Fun) (bs : List ℕ) (vs : Values) → AllSmall bs vs → WithinBound (app_bound f bs) (app_v f vs)
unfolding app_v app_bound choice_v as_int
app-bound choice bs vs h = choice-bound (as_bool (nth 0 vs)) (nth 1 vs) (nth 2 vs) (get_or bs 1 0) (get_or bs 2 0) (h 1) (h 2)
app-bound (is_open n c) bs vs h = le_refl 0

comp-bound : (m : Monoid) (g b : ℕ) → fold_bound m (1024 ^ g) b ≡ comp_bound m g b
unfolding fold_bound comp_bound
comp-bound (of c) g b = refl
comp-bound sum g b = mul_comm (1024 ^ g) b
comp-bound max g b = refl
comp-bound min g b = refl
comp-bound some g b = refl
comp-bound all g b = refl

module _ (E : Entry) {T : Tables} (W : WellFormed T) where
  -- The loops meet at most 1,024 heads for each generator, multiplied: the count of a collection's elements before repeats are dropped.
  pub heads-length : (q : Clauses) (h : Form) (ρ : Env) → length (heads (fold_by E) T q h ρ) ≤ 1024 ^ own_gens q
  heads-length q h ρ = omega (arith, loops-length (fold_by E) W (λ σ. value (fold_by E) T h σ ∷ []) 1 (λ σ. omega arith) q ρ, one-mul (1024 ^ own_gens q))

  -- part of the heads, where all are within b
  module _ (m : Monoid) (q : Clauses) (h : Form) (ρ : Env) (b : ℕ) (small : All (WithinBound b) (heads (fold_by E) T q h ρ)) (p s : List Value) (e : p ++ s ≡ heads (fold_by E) T q h ρ) where
    parts-length : length p + length s ≤ 1024 ^ own_gens q
    parts-length = omega (arith, length-append p s, ap length e, heads-length q h ρ)

    part_right : WithinBound (comp_bound m (own_gens q) b) (fold_by E m s)
    part_right = subst (λ (a : ℕ). WithinBound a (fold_by E m s)) (comp-bound m (own_gens q) b)
        (le_trans (fold-right E m b s (all-behind (WithinBound b) p s (subst (All (WithinBound b)) (sym e) small))) (fold_more m b (omega (arith, parts-length))))

    part_left : (n : ℕ) (w : Value) → WithinBound (fold_bound m n b) w → WithinBound (fold_bound m (n + 1024 ^ own_gens q) b) (foldl (taken E m) w p)
    part_left n w k = le_trans (fold-left E m b n w p k (all-front (WithinBound b) p s (subst (All (WithinBound b)) (sym e) small))) (fold_more m b (omega (arith, parts-length)))

-- under what each generator's table declares
module _ (E : Entry) {T : Tables} (W : WellFormed T) {C : Declared} where
  -- where the head is within b, all heads are
  all-heads : (h : Form) (b : ℕ) → ((σ : Env) → RowsIn C σ → WithinBound b (value (fold_by E) T h σ)) → (q : Clauses) → NamedC C (bound_of T) q → (ρ : Env) → RowsIn C ρ → All (WithinBound b) (heads (fold_by E) T q h ρ)
  all-heads h b k q N ρ R = loops-all (fold_by E) W (WithinBound b) (λ σ. value (fold_by E) T h σ ∷ []) (λ σ S. (k σ S, tt)) q N ρ R

  -- Every number of a normal form is within its bound.
  mutual
    unfolding value bound as_int not_v nth

    pub value-bound : (f : Form) → Named C (bound_of T) f → (ρ : Env) → RowsIn C ρ → WithinBound (bound C f) (value (fold_by E) T f ρ)
    value-bound (num z) N ρ R = le_refl (nat_abs z)
    value-bound (truth b) N ρ R = omega arith
    value-bound (row g) N ρ R = omega (arith, ap nat_abs (R g).no_number)
    value-bound (cell i g) N ρ R = (R g).fields i
    value-bound (rec ts) N ρ R = omega arith
    value-bound (app f ts) N ρ R = app-bound f (bounds C ts) (values (fold_by E) T ts ρ) (λ i. values-bound ts N ρ R i)
    value-bound (bin o s t) N ρ R = bin-bound o (value (fold_by E) T s ρ) (value (fold_by E) T t ρ) (bound C s) (bound C t) (value-bound s N.0 ρ R) (value-bound t N.1 ρ R)
    value-bound (negate t) N ρ R = omega arith
    value-bound (comp m q h) N ρ R = part_right E W m q h ρ (bound C h) (all-heads h (bound C h) (λ σ S. value-bound h N.1 σ S) q N.0 ρ R) [] (heads (fold_by E) T q h ρ) refl

    values-bound : (ts : Forms) → NamedF C (bound_of T) ts → (ρ : Env) → RowsIn C ρ → AllSmall (bounds C ts) (values (fold_by E) T ts ρ)
    values-bound fnil N ρ R i = omega arith
    values-bound (fcons t ts) N ρ R zero = value-bound t N.0 ρ R
    values-bound (fcons t ts) N ρ R (suc i) = values-bound ts N.1 ρ R i

  module _ (m : Monoid) (q : Clauses) (h : Form) (N : Named C (bound_of T) (comp m q h)) (ρ : Env) (R : RowsIn C ρ) where
    -- Every head that the loops meet is within the head's bound.
    pub heads-small : All (WithinBound (bound C h)) (heads (fold_by E) T q h ρ)
    heads-small = all-heads h (bound C h) (value-bound h N.1) q N.0 ρ R

    module _ (p s : List Value) (e : p ++ s ≡ heads (fold_by E) T q h ρ) where
      -- A sum, maximum or minimum of the last heads is within the comprehension's bound.
      pub partial-right : WithinBound (bound C (comp m q h)) (fold_by E m s)
      unfolding bound
      partial-right = part_right E W m q h ρ (bound C h) heads-small p s e

      -- A loop that had w, within the bound of n heads, and has gone over the first heads, has a number within that of n and all heads.
      pub accumulated : (n : ℕ) (w : Value) → WithinBound (fold_bound m n (bound C h)) w → WithinBound (fold_bound m (n + 1024 ^ own_gens q) (bound C h)) (foldl (taken E m) w p)
      accumulated n w k = part_left E W m q h ρ (bound C h) heads-small p s e n w k

      -- A sum, maximum or minimum of the first heads, as a loop accumulates it from the start, is within the comprehension's bound.
      pub partial-left : WithinBound (bound C (comp m q h)) (foldl (taken E m) (start m) p)
      unfolding bound
      partial-left = subst (λ (b : ℕ). WithinBound b (foldl (taken E m) (start m) p))
          (ap (λ (n : ℕ). fold_bound m n (bound C h)) (zero-add (1024 ^ own_gens q)) ∙ comp-bound m (own_gens q) (bound C h))
          (accumulated 0 (start m) (start_small m (fold_bound m 0 (bound C h))))

-- ---- 28: what `within` says of a form it says of each part of it
module _ (C : Declared) where
  -- A form that 28 lets pass has a bound of at most 2^62.
  pub within-bound : (f : Form) → within C f ≡ true → bound C f ≤ 2 ^ 62
  unfolding within bound
  within-bound (num z) h = leb-true (nat_abs z) (2 ^ 62) h
  within-bound (truth b) h = omega arith
  within-bound (row g) h = omega arith
  within-bound (cell i g) h = leb-true (bound C (cell i g)) (2 ^ 62) h
  within-bound (rec ts) h = omega arith
  within-bound (app f ts) h = leb-true (bound C (app f ts)) (2 ^ 62) (both (leb (bound C (app f ts)) (2 ^ 62)) (within_f C ts) h).0
  within-bound (bin o s t) h = leb-true (bound C (bin o s t)) (2 ^ 62) (both (leb (bound C (bin o s t)) (2 ^ 62)) (within C s && within C t) h).0
  within-bound (negate t) h = omega arith
  within-bound (comp m q h) k = leb-true (bound C (comp m q h)) (2 ^ 62) (both (leb (bound C (comp m q h)) (2 ^ 62)) (within_c C q && within C h) k).0

  pub within-operands : (o : Bin) (s t : Form) → within C (bin o s t) ≡ true → (within C s ≡ true) × (within C t ≡ true)
  unfolding within
  within-operands o s t h = both (within C s) (within C t) (both (leb (bound C (bin o s t)) (2 ^ 62)) (within C s && within C t) h).1

  pub within-negated : (t : Form) → within C (negate t) ≡ true → within C t ≡ true
  unfolding within
  within-negated t h = h

  pub within-app : (f : Fun) (ts : Forms) → within C (app f ts) ≡ true → within_f C ts ≡ true
  unfolding within
  within-app f ts h = (both (leb (bound C (app f ts)) (2 ^ 62)) (within_f C ts) h).1

  pub within-fields : (ts : Forms) → within C (rec ts) ≡ true → within_f C ts ≡ true
  unfolding within
  within-fields ts h = h

  pub within-field : (t : Form) (ts : Forms) → within_f C (fcons t ts) ≡ true → (within C t ≡ true) × (within_f C ts ≡ true)
  unfolding within
  within-field t ts h = both (within C t) (within_f C ts) h

  pub within-comp : (m : Monoid) (q : Clauses) (h : Form) → within C (comp m q h) ≡ true → (within_c C q ≡ true) × (within C h ≡ true)
  unfolding within
  within-comp m q h k = both (within_c C q) (within C h) (both (leb (bound C (comp m q h)) (2 ^ 62)) (within_c C q && within C h) k).1

  pub within-gen : (g k : ℕ) (q : Clauses) → within_c C (gen g k q) ≡ true → within_c C q ≡ true
  unfolding within_c
  within-gen g k q h = h

  pub within-cond : (t : Form) (q : Clauses) → within_c C (cond t q) ≡ true → (within C t ≡ true) × (within_c C q ≡ true)
  unfolding within_c
  within-cond t q h = both (within C t) (within_c C q) h

-- P of a form and of each form written in it
abbrev mutual
  pub Each : (Form → Type 0) → Form → Type 0
  Each P (num z) = P (num z)
  Each P (truth b) = P (truth b)
  Each P (row g) = P (row g)
  Each P (cell i g) = P (cell i g)
  Each P (rec ts) = P (rec ts) × EachF P ts
  Each P (app f ts) = P (app f ts) × EachF P ts
  Each P (bin o s t) = P (bin o s t) × Each P s × Each P t
  Each P (negate t) = P (negate t) × Each P t
  Each P (comp m q h) = P (comp m q h) × EachC P q × Each P h

  pub EachF : (Form → Type 0) → Forms → Type 0
  EachF P fnil = Unit {0}
  EachF P (fcons t ts) = Each P t × EachF P ts

  pub EachC : (Form → Type 0) → Clauses → Type 0
  EachC P done = Unit {0}
  EachC P (gen g k q) = EachC P q
  EachC P (cond t q) = Each P t × EachC P q

module _ (C D : Declared) (P : Form → Type 0) (k : (f : Form) → Named C D f → within C f ≡ true → P f) where
  mutual
    pub each : (f : Form) → Named C D f → within C f ≡ true → Each P f
    each (num z) N h = k (num z) N h
    each (truth b) N h = k (truth b) N h
    each (row g) N h = k (row g) N h
    each (cell i g) N h = k (cell i g) N h
    each (rec ts) N h = (k (rec ts) N h, each_f ts N (within-fields C ts h))
    each (app f ts) N h = (k (app f ts) N h, each_f ts N (within-app C f ts h))
    each (bin o s t) N h = (k (bin o s t) N h, each s N.0 (within-operands C o s t h).0, each t N.1 (within-operands C o s t h).1)
    each (negate t) N h = (k (negate t) N h, each t N (within-negated C t h))
    each (comp m q f) N h = (k (comp m q f) N h, each_c q N.0 (within-comp C m q f h).0, each f N.1 (within-comp C m q f h).1)

    each_f : (ts : Forms) → NamedF C D ts → within_f C ts ≡ true → EachF P ts
    each_f fnil N h = tt
    each_f (fcons t ts) N h = (each t N.0 (within-field C t ts h).0, each_f ts N.1 (within-field C t ts h).1)

    each_c : (q : Clauses) → NamedC C D q → within_c C q ≡ true → EachC P q
    each_c done N h = tt
    each_c (gen g t q) N h = each_c q N.1 (within-gen C g t q h)
    each_c (cond t q) N h = (each t N.0 (within-cond C t q h).0, each_c q N.1 (within-cond C t q h).1)

-- ---- theorem 8
-- The number of a form, and every number on the way to it from either end, within b.
pub record Bounded (E : Entry) (T : Tables) (b : ℕ) (f : Form) (ρ : Env) : Type 0 where
  pub number : WithinBound b (value (fold_by E) T f ρ)
  pub first-heads : (m : Monoid) (q : Clauses) (h : Form) → f ≡ comp m q h → (p s : List Value) → p ++ s ≡ heads (fold_by E) T q h ρ → WithinBound b (foldl (taken E m) (start m) p)
  pub last-heads : (m : Monoid) (q : Clauses) (h : Form) → f ≡ comp m q h → (p s : List Value) → p ++ s ≡ heads (fold_by E) T q h ρ → WithinBound b (fold_by E m s)

module _ (E : Entry) {T : Tables} (W : WellFormed T) where
  -- Every number of a normal form, and every sum, maximum and minimum on the way to it, is within its bound, so within any greater b.
  pub bounded : {C : Declared} (f : Form) → Named C (bound_of T) f → (b : ℕ) → bound C f ≤ b → (ρ : Env) → RowsIn C ρ → Bounded E T b f ρ
  bounded {C} f N b l ρ R = record {
    number = le_trans (value-bound E W f N ρ R) l;
    first-heads = λ m q h e p s c. le_trans (partial-left E W m q h (subst (Named C (bound_of T)) e N) ρ R p s c) (subst (λ x. bound C x ≤ b) e l);
    last-heads = λ m q h e p s c. le_trans (partial-right E W m q h (subst (Named C (bound_of T)) e N) ρ R p s c) (subst (λ x. bound C x ≤ b) e l);
  }

  -- Where 28 does not refuse, every number in the normal form, and every sum, maximum and minimum on the way to it, is within 2^62, wherever each
  -- generator stands for a row within what its table's columns declare.
  pub numbers_fit_lem : (f : NormalForm) → Numbered (as_form f) 0 → numbers_fit (bound_of T) f ≡ true → Each (λ s. (ρ : Env) → RowsIn (declared (bound_of T) (as_form f)) ρ → Bounded E T (2 ^ 62) s ρ) (as_form f)
  unfolding numbers_fit
  numbers_fit_lem f n h = let C : Declared = declared (bound_of T) (as_form f) in
      each C (bound_of T) (λ s. (ρ : Env) → RowsIn C ρ → Bounded E T (2 ^ 62) s ρ) (λ s N k. bounded s N (2 ^ 62) (within-bound C s k)) (as_form f) (declared-named (bound_of T) (as_form f) n) h
