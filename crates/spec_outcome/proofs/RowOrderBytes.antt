-- "Survey order must not show" (document 02, E14), down to the bytes: data whose tables were written anew with their rows in another
-- state are read as tables that differ in that alone, or are refused alike.
use mathlib.Core.Path.{◌≡◌, refl, sym, ap, ap₂, subst, ◌∙◌}
use mathlib.Core.List.{List, [], ◌∷◌, ◌++◌, map}
use mathlib.Core.Bool.{Bool, true, false, not, ◌&&◌}
use Prim.Native.Nat.{ℕ, zero, suc, ◌+◌, ◌*◌}
use native.Mathlib.Omega.{arith}
use borrow.Author.Tests.{le-leb, eq-eqb}
use lib.Dec.{eqb, leb}
use lib.ListN.{length, get_or, length-append}
use lib.ListN as Li
use lib.Seq.{drop_at}
use Rattle.spec_calculus.specs.Lists.{bind_l, pick}
use Rattle.spec_calculus.specs.Syntax.{Collection, list, bag, set}
use Rattle.spec_calculus.specs.Value.{Value, vcons, num, rec, Table, Tables, no_table, columns_of, is_there, no_tables}
use Rattle.spec_calculus.specs.Rearrangement.{Rearranged, nil, cons, swap, trans, Repeated, reorder, once, under, back, chain, Alike}
use Rattle.spec_calculus.proofs.Lists.{All}
use Rattle.spec_calculus.proofs.Sorting.{rearranged-refl}
use Rattle.spec_calculus.proofs.Folds.{alike-path}
use Rattle.spec_encoding.specs.Record.{Bytes, Result, require, four, signed, kind_of, content_of, behind}
use Rattle.spec_encoding.specs.Data.{is_kind, collection_of, bounds_from, cells, rows_from, is_table, fits, table_number, table_of, table_by, bounds_fit, cells_within, rows_within, bounded, tables_from, read_data}
use Rattle.spec_outcome.specs.RowOrder.{Reordered, Restated, Restates, Rereads, joined, table_content, Counted, Rewritten, rest, same, table}
use Rattle.spec_outcome.specs.Directions.{Turned}
use Rattle.spec_outcome.proofs.Directions.{turned-reread}
use Rattle.spec_outcome.proofs.WholeRecord.{next, put, reading, reads}

-- ---- one row, all rows
cells-front : (w : ℕ) (r x : Bytes) → length r ≡ 4 * w → cells w (r ++ x) ≡ cells w r
unfolding cells
cells-front zero r x h = refl
cells-front (suc w) [] x h = absurd (omega arith)
cells-front (suc w) (a ∷ []) x h = absurd (omega arith)
cells-front (suc w) (a ∷ b ∷ []) x h = absurd (omega arith)
cells-front (suc w) (a ∷ b ∷ c ∷ []) x h = absurd (omega arith)
cells-front (suc w) (a ∷ b ∷ c ∷ e ∷ r) x h = ap (vcons (num (signed (four (a ∷ b ∷ c ∷ e ∷ []) 0)))) (cells-front w r x (omega arith))

bounds-front : (w : ℕ) (r x : Bytes) → length r ≡ 4 * w → bounds_from w (r ++ x) ≡ bounds_from w r
unfolding bounds_from
bounds-front zero r x h = refl
bounds-front (suc w) [] x h = absurd (omega arith)
bounds-front (suc w) (a ∷ []) x h = absurd (omega arith)
bounds-front (suc w) (a ∷ b ∷ []) x h = absurd (omega arith)
bounds-front (suc w) (a ∷ b ∷ c ∷ []) x h = absurd (omega arith)
bounds-front (suc w) (a ∷ b ∷ c ∷ e ∷ r) x h = ap (λ l. four (a ∷ b ∷ c ∷ e ∷ []) 0 ∷ l) (bounds-front w r x (omega arith))

abbrev row_of : ℕ → Bytes → Value
row_of w r = rec (cells w r)

rows_are : (w : ℕ) (rs : List Bytes) → All (λ r. length r ≡ 4 * w) rs → rows_from w (length rs) (joined rs) ≡ map (row_of w) rs
unfolding rows_from bind_l
rows_are w [] a = refl
rows_are w (r ∷ rs) a = ap₂ (λ v l. rec v ∷ l) (cells-front w r (joined rs) a.0) (ap (rows_from w (length rs)) (drop_at r (joined rs) (4 * w) a.0) ∙ rows_are w rs a.1)

joined_length : (w : ℕ) (rs : List Bytes) → All (λ r. length r ≡ 4 * w) rs → length (joined rs) ≡ 4 * w * length rs
unfolding bind_l
joined_length w [] a = omega arith
joined_length w (r ∷ rs) a = length-append r (joined rs) ∙ ap₂ ◌+◌ a.0 (joined_length w rs a.1) ∙ arith-step (4 * w) (length rs)
  where
    arith-step : (a n : ℕ) → a + a * n ≡ a * suc n
    arith-step a n = omega arith

-- ---- one record
-- rows that are counted right fit where there are not too many
fit-as : (j c w : ℕ) {l₀ l₁ n₀ n₁ : ℕ} (b : Bytes) (rs : List Bytes) → Counted w l₀ l₁ n₀ n₁ b rs → fits (table_content j c w n₀ n₁ b rs) ≡ true && (leb 1 c && (leb c 3 && (leb 1 w && (leb w 8 && (leb (length rs) 1024 && true)))))
unfolding fits
fit-as j c w {l₀} {l₁} {n₀} {n₁} b rs P =
    ap₂ (λ a e. a && (leb 1 c && (leb c 3 && (leb 1 w && (leb w 8 && (leb (n₀ + 256 * n₁) 1024 && e))))))
    (le-leb 5 (length (table_content j c w n₀ n₁ b rs)) (omega arith)) (eq-eqb (length (table_content j c w n₀ n₁ b rs)) (5 + 4 * w + 4 * (w * (n₀ + 256 * n₁))) exact)
    ∙ ap (λ n. true && (leb 1 c && (leb c 3 && (leb 1 w && (leb w 8 && (leb n 1024 && true)))))) P.counts
  where
    four-times : (a n : ℕ) → 4 * a * n ≡ 4 * (a * n)
    four-times a n = omega arith

    exact : length (table_content j c w n₀ n₁ b rs) ≡ 5 + 4 * w + 4 * (w * (n₀ + 256 * n₁))
    exact = omega (arith, length-append b (joined rs), P.bounds, joined_length w rs P.widths ∙ four-times w (length rs) ∙ sym (ap (λ n. 4 * (w * n)) P.counts))

-- what the bounds and rows of such a table are read as
module _ (j c w : ℕ) {l₀ l₁ n₀ n₁ : ℕ} (b : Bytes) (rs : List Bytes) (P : Counted w l₀ l₁ n₀ n₁ b rs) where
  bounds-read : (table_of (table_content j c w n₀ n₁ b rs)).bounds ≡ bounds_from w b
  unfolding table_of
  bounds-read = bounds-front w b (joined rs) P.bounds

  rows-read : (table_of (table_content j c w n₀ n₁ b rs)).rows ≡ map (row_of w) rs
  unfolding table_of
  rows-read = ap₂ (λ k l. rows_from w k l) P.counts (drop_at (j ∷ c ∷ w ∷ n₀ ∷ n₁ ∷ b) (joined rs) (5 + 4 * w) (omega (arith, P.bounds))) ∙ rows_are w rs P.widths

-- ---- all records, for any relation of rows that the reading of a row keeps
module _ (B : Collection → List Bytes → List Bytes → Type 0) (R : Collection → List Value → List Value → Type 0)
    (kept : (f : Bytes → Value) (c : Collection) (rs us : List Bytes) → B c rs us → R c (map f rs) (map f us)) (self : (c : Collection) (l : List Value) → R c l l)
    (held : (bs : List ℕ) (c : Collection) (l m : List Value) → R c l m → rows_within bs l ≡ rows_within bs m) where
  restated-self : (t : Table) → Restated R t t
  restated-self t = record { kind = refl; columns = refl; bounds = refl; rows = self t.kind t.rows }

  restates-self : (T : Tables) → Restates R T T
  restates-self [] = tt
  restates-self (t ∷ T) = (restated-self t, restates-self T)

  -- a table put at its number in both states
  restates-set : (T U : Tables) (k : ℕ) {t u : Table} → Restates R T U → Restated R t u → Restates R (Li.set T k t) (Li.set U k u)
  restates-set [] [] k S r = tt
  restates-set [] (u ∷ U) k S r = absurd S
  restates-set (t ∷ T) [] k S r = absurd S
  restates-set (t ∷ T) (u ∷ U) zero S r = (r, S.1)
  restates-set (t ∷ T) (u ∷ U) (suc k) S r = (S.0, restates-set T U k S.1 r)

  -- 51 finds the same numbers used in both states, and 43 the same cells beyond
  used-same : (T U : Tables) (k : ℕ) → Restates R T U → is_there T k ≡ is_there U k
  unfolding is_there columns_of
  used-same T U k S = ap (leb 1) (go T U k S)
    where
      go : (T U : Tables) (k : ℕ) → Restates R T U → (get_or T k no_table).columns ≡ (get_or U k no_table).columns
      go [] [] k S = refl
      go [] (u ∷ U) k S = absurd S
      go (t ∷ T) [] k S = absurd S
      go (t ∷ T) (u ∷ U) zero S = S.0.columns
      go (t ∷ T) (u ∷ U) (suc k) S = go T U k S.1

  bounded-same : (t u : Table) → Restated R t u → bounded t ≡ bounded u
  unfolding bounded
  bounded-same t u r = ap₂ ◌&&◌ (ap bounds_fit r.bounds) (held t.bounds t.kind t.rows u.rows r.rows ∙ ap (λ bs. rows_within bs u.rows) r.bounds)

  next-rereads : (a b s u z : Bool) (x y : Result Tables) → Rereads R x y → Rereads R (next a b s u z x) (next a b s u z y)
  unfolding require
  next-rereads false b s u z x y h = refl
  next-rereads true false s u z x y h = refl
  next-rereads true true false u z x y h = refl
  next-rereads true true true false z x y h = refl
  next-rereads true true true true false x y h = refl
  next-rereads true true true true true x y h = h

  -- a record in both states, of content c and table t, and of content f and table v
  record-rereads : (n : ℕ) (T U : Tables) (a : Bool) (c f : Bytes) (t v : Table) (d e : Bytes) → table_number c ≡ table_number f → fits c ≡ fits f → Restates R T U → Restated R t v
      → Rereads R (tables_from n (put T c t) d) (tables_from n (put U f v) e) → Rereads R (reading n T a c t d) (reading n U a f v e)
  record-rereads n T U a c f t v d e j g S r h =
      let y = tables_from n (put U f v) e in
      subst (Rereads R (reading n T a c t d))
      (ap₂ (λ b z. next a b (leb (table_number c) 7) (not (is_there T (table_number c))) z y) g (bounded-same t v r)
      ∙ ap₂ (λ s u. next a (fits f) s u (bounded v) y) (ap (λ k. leb k 7) j) (ap not (used-same T U (table_number c) S ∙ ap (is_there U) j)))
      (next-rereads a (fits c) (leb (table_number c) 7) (not (is_there T (table_number c))) (bounded t) (tables_from n (put T c t) d) y h)

  same-rereads : (n : ℕ) (T U : Tables) (a : Bool) (c : Bytes) (t : Table) (d e : Bytes) → Restates R T U
      → Rereads R (tables_from n (put T c t) d) (tables_from n (put U c t) e) → Rereads R (reading n T a c t d) (reading n U a c t e)
  same-rereads n T U a c t d e S h = record-rereads n T U a c c t t d e refl refl S (restated-self t) h

  -- the same bytes behind tables in two states
  rest-rereads : (n : ℕ) (T U : Tables) (d : Bytes) → Restates R T U → Rereads R (tables_from n T d) (tables_from n U d)
  unfolding tables_from
  rest-rereads zero T U [] S = S
  rest-rereads zero T U (b ∷ l) S = refl
  rest-rereads (suc n) T U [] S = S
  rest-rereads (suc n) T U (b ∷ l) S =
      let r = b ∷ l in
      let c = content_of r in
      let t = table_by (kind_of r) c in
      let l = behind r in
      same-rereads n T U (is_table r) c t l l S (rest-rereads n (put T c t) (put U c t) l (restates-set T U (table_number c) S (restated-self t)))

  module _ (j c w : ℕ) {l₀ l₁ n₀ n₁ m₀ m₁ o₀ o₁ : ℕ} (b : Bytes) (rs us : List Bytes) (P : Counted w l₀ l₁ n₀ n₁ b rs) (Q : Counted w m₀ m₁ o₀ o₁ b us) where
    rows-restated : B (collection_of c) rs us → Restated R (table_of (table_content j c w n₀ n₁ b rs)) (table_of (table_content j c w o₀ o₁ b us))
    unfolding table_of
    rows-restated o = record {
      kind = refl;
      columns = refl;
      bounds = bounds-read j c w b rs P ∙ sym (bounds-read j c w b us Q);
      rows = subst (λ x. R (collection_of c) x (table_of (table_content j c w o₀ o₁ b us)).rows) (sym (rows-read j c w b rs P)) (subst (R (collection_of c) (map (row_of w) rs)) (sym (rows-read j c w b us Q)) (kept (row_of w) (collection_of c) rs us o));
    }

    fit_same : leb (length rs) 1024 ≡ leb (length us) 1024 → fits (table_content j c w n₀ n₁ b rs) ≡ fits (table_content j c w o₀ o₁ b us)
    fit_same h = fit-as j c w b rs P ∙ ap (λ b. true && (leb 1 c && (leb c 3 && (leb 1 w && (leb w 8 && (b && true)))))) h ∙ sym (fit-as j c w b us Q)

  rewritten-from : (n : ℕ) (T U : Tables) {d e : Bytes} → Restates R T U → Rewritten B d e → Rereads R (tables_from n T d) (tables_from n U e)
  unfolding table_by pick
  rewritten-from n T U S (rest d) = rest-rereads n T U d S
  rewritten-from zero T U S (same l₀ l₁ k₀ k₁ c p E) = unfold tables_from in refl
  rewritten-from (suc n) T U S (same l₀ l₁ k₀ k₁ c {d} {e} p E) =
      let k = k₀ + 256 * k₁ in
      let t = table_by k c in
      rw (reads l₀ l₁ k₀ k₁ c d p n T, reads l₀ l₁ k₀ k₁ c e p n U)
      (same-rereads n T U (is_kind k) c t d e S (rewritten-from n (put T c t) (put U c t) (restates-set T U (table_number c) S (restated-self t)) E))
  rewritten-from zero T U S (table j c w b rs us P Q h o E) = unfold tables_from in refl
  rewritten-from (suc n) T U S (table j c w {l₀} {l₁} {n₀} {n₁} {m₀} {m₁} {o₀} {o₁} b rs us {d} {e} P Q h o E) =
      let t : Bytes = table_content j c w n₀ n₁ b rs in
      let u : Bytes = table_content j c w o₀ o₁ b us in
      let r = rows-restated j c w b rs us P Q o in
      rw (reads l₀ l₁ 20 0 t d (omega (arith, P.lengths, length-append b (joined rs))) n T, reads m₀ m₁ 20 0 u e (omega (arith, Q.lengths, length-append b (joined us))) n U)
      (record-rereads n T U true t u (table_of t) (table_of u) d e refl (fit_same j c w b rs us P Q h) S r (rewritten-from n (put T t (table_of t)) (put U u (table_of u)) (restates-set T U j S r) E))

  rewritten-read : {d e : Bytes} → Rewritten B d e → Rereads R (read_data d) (read_data e)
  unfolding read_data
  rewritten-read E = rewritten-from 8 no_tables no_tables (restates-self no_tables) E

-- ---- both relations
map-rearranged : {A B : Type 0} (f : A → B) {l m : List A} → Rearranged l m → Rearranged (map f l) (map f m)
map-rearranged f nil = nil
map-rearranged f (cons x r) = cons (f x) (map-rearranged f r)
map-rearranged f (swap x y l) = swap (f x) (f y) (map f l)
map-rearranged f (trans r s) = trans (map-rearranged f r) (map-rearranged f s)

map-repeated : {A B : Type 0} (f : A → B) {l m : List A} → Repeated l m → Repeated (map f l) (map f m)
map-repeated f (reorder r) = reorder (map-rearranged f r)
map-repeated f (once x l) = once (f x) (map f l)
map-repeated f (under x r) = under (f x) (map-repeated f r)
map-repeated f (back r) = back (map-repeated f r)
map-repeated f (chain r s) = chain (map-repeated f r) (map-repeated f s)

reordered-map : (f : Bytes → Value) (c : Collection) (rs us : List Bytes) → Reordered c rs us → Reordered c (map f rs) (map f us)
reordered-map f list rs us h = ap (map f) h
reordered-map f bag rs us h = map-rearranged f h
reordered-map f set rs us h = map-rearranged f h

reordered-self : (c : Collection) (l : List Value) → Reordered c l l
reordered-self list l = refl
reordered-self bag l = rearranged-refl l
reordered-self set l = rearranged-refl l

alike-map : (f : Bytes → Value) (c : Collection) (rs us : List Bytes) → Alike c rs us → Alike c (map f rs) (map f us)
alike-map f list rs us h = ap (map f) h
alike-map f bag rs us h = map-rearranged f h
alike-map f set rs us h = map-repeated f h

-- whether all rows are within their bounds is the same of rows in another order, and of rows that are repeated
and-swap : (a b c : Bool) → a && (b && c) ≡ b && (a && c)
and-swap true true c = refl
and-swap true false c = refl
and-swap false true c = refl
and-swap false false c = refl

and-twice : (a b : Bool) → a && (a && b) ≡ a && b
and-twice true b = refl
and-twice false b = refl

module _ (bs : List ℕ) where
  rearranged-held : {l m : List Value} → Rearranged l m → rows_within bs l ≡ rows_within bs m
  unfolding rows_within
  rearranged-held nil = refl
  rearranged-held (cons x r) = ap (λ b. cells_within 0 bs x && b) (rearranged-held r)
  rearranged-held (swap x y l) = and-swap (cells_within 0 bs x) (cells_within 0 bs y) (rows_within bs l)
  rearranged-held (trans r s) = rearranged-held r ∙ rearranged-held s

  repeated-held : {l m : List Value} → Repeated l m → rows_within bs l ≡ rows_within bs m
  unfolding rows_within
  repeated-held (reorder r) = rearranged-held r
  repeated-held (once x l) = and-twice (cells_within 0 bs x) (rows_within bs l)
  repeated-held (under x r) = ap (λ b. cells_within 0 bs x && b) (repeated-held r)
  repeated-held (back r) = sym (repeated-held r)
  repeated-held (chain r s) = repeated-held r ∙ repeated-held s

  reordered-held : (c : Collection) (l m : List Value) → Reordered c l m → rows_within bs l ≡ rows_within bs m
  reordered-held list l m h = ap (rows_within bs) h
  reordered-held bag l m h = rearranged-held h
  reordered-held set l m h = rearranged-held h

  alike-held : (c : Collection) (l m : List Value) → Alike c l m → rows_within bs l ≡ rows_within bs m
  alike-held list l m h = ap (rows_within bs) h
  alike-held bag l m h = rearranged-held h
  alike-held set l m h = repeated-held h

-- Rows of bags and sets written in another order.
pub reordered-read : {d e : Bytes} → Rewritten Reordered d e → Rereads Reordered (read_data d) (read_data e)
reordered-read E = rewritten-read Reordered Reordered reordered-map reordered-self reordered-held E

-- Rows of sets also written again, or fewer times.
pub repeated-read : {d e : Bytes} → Rewritten Alike d e → Rereads Alike (read_data d) (read_data e)
repeated-read E = rewritten-read Alike Alike alike-map (λ c l. alike-path c l l refl) alike-held E

-- Of tables of either kind (document 02, E10).
pub turned-reordered : {d d' e e' : Bytes} → Turned d d' → Rewritten Reordered d' e' → Turned e e' → Rereads Reordered (read_data d) (read_data e)
turned-reordered D W E = turned-reread Reordered Reordered (λ d e w. reordered-read w) D W E

pub turned-repeated : {d d' e e' : Bytes} → Turned d d' → Rewritten Alike d' e' → Turned e e' → Rereads Alike (read_data d) (read_data e)
turned-repeated D W E = turned-reread Alike Alike (λ d e w. repeated-read w) D W E
