-- A record turned in the target: its refusals, its head, and that the bytes which the loops leave are those of the other kind, with the target's own
-- behind them. Assumes nothing.
use Rattle.std.proofs.Common.{◌≡◌, ℕ, zero, suc, ◌+◌, ◌-◌, ◌*◌, ◌<◌, ◌≤◌, Bool, true, false, ◌&&◌, eqb, ltb, leb, ◌++◌, length, take, drop, set, sym, refl, ap, ◌∙◌, subst, ap₂, true≢false, mul_comm, arith, length-append, length-drop, length-set, get_or-drop, get_or-set_other, get_or-take, get_or-set_same, get_or-append-add, ext_get_or, ltb-false, ltb-true, eq-eqb, eqb-true, le-leb, leb-true, Option, Some, None}
use mathlib.Core.Bool.{and-eq-true_iff}
use borrow.Author.Tests.{lt-leb}
use lib.ListN.{get_or-append}
use Rattle.spec_calculus.specs.Lists.{pick}
use Rattle.spec_encoding.specs.Record.{Bytes, Result, refused, got, require, byte, two, length_of, kind_of, content_of, is_whole}
use Rattle.spec_encoding.specs.Columns.{difference, summed, bytes_of, bytes_by_columns, bytes_by_rows}
use Rattle.spec_encoding.specs.Data.{is_kind, is_table, table_number, table_columns, table_rows, fits, cells_at, content_by_columns, content_by_rows, with_kind, to_columns, to_rows, table_by, bounded}
use Rattle.spec_encoding.proofs.Data.{fit}
use Rattle.spec_encoding.proofs.Arrangement.{grid-byte, front-byte, behind-byte, both-length, by-columns-length, by-rows-length}
use Rattle.spec_encoding.proofs.Columns.{at_place}
use Rattle.spec_encoding.proofs.ColumnRecords.{content-length}
use Rattle.spec_outcome.specs.Directions.{filled, is_alone, turned, Fills}
use Rattle.base_tables.proofs.DataRecords.{passes}
use Rattle.base_tables.proofs.DataRecords as Whole
use Rattle.base_tables.proofs.ByteReaders.{found, not_found}
use Rattle.base_tables.specs.DataReader.{header_gives, header_at}
use Rattle.base_columns.proofs.WrittenColumns.{cell-within, column-within}
use Rattle.base_columns.specs.Contract.{CellsPre, ByColumnsPost, ByRowsPost, HeadPost, own_refusal, or_else, refusal_of, Turnable, LaidHead}

-- ---- refusals
unfoldable gives : ℕ → Bytes → Result Bytes
gives zero l = got l
gives (suc n) l = refused (suc n)

-- the refusals in one number
turned-gives : (k : ℕ) (turn : Bytes → Bytes) (l b : Bytes) → turned k turn l b ≡ gives (refusal_of k l (length b)) (turn l)
unfolding turned refusal_of own_refusal or_else gives require pick
turned-gives k turn l b = go (is_alone k l) (fits (content_of l)) (leb (table_number (content_of l)) 7) (bounded (table_by k (content_of l))) (leb (length l) (length b))
  where
    go : (a f m g r : Bool) → require 11 a (require 12 f (require 50 m (require 43 g (require 52 r (got (turn l))))))
        ≡ gives (pick a (or_else (pick f (pick m (pick g 0 43) 50) 12) (pick r 0 52)) 11) (turn l)
    go false f m g r = refl
    go true false m g r = refl
    go true true false g r = refl
    go true true true false r = refl
    go true true true true false = refl
    go true true true true true = refl

module _ (k : ℕ) (turn : Bytes → Bytes) (l b : Bytes) {n : ℕ} (e : n ≡ refusal_of k l (length b)) where
  pub fills-refused : (n ≡ 0 → ⊥) → Fills (filled b (turned k turn l b)) n 0 b
  unfolding filled gives
  fills-refused z = subst (λ r. Fills (filled b r) n 0 b) (sym (turned-gives k turn l b ∙ ap (λ m. gives m (turn l)) (sym e))) (go n z)
    where
      go : (n : ℕ) → (n ≡ 0 → ⊥) → Fills (filled b (gives n (turn l))) n 0 b
      go zero z = absurd (z refl)
      go (suc n) z = record { number = refl; size = refl; buffer = refl }

  pub fills-turned : n ≡ 0 → length (turn l) ≡ length l → {d : Bytes} → d ≡ turn l ++ drop (length l) b → Fills (filled b (turned k turn l b)) 0 (length l) d
  unfolding filled gives
  fills-turned z s {d} h =
      subst (λ r. Fills (filled b r) 0 (length l) d) (sym (turned-gives k turn l b ∙ ap (λ m. gives m (turn l)) (sym e ∙ z)))
      (record { number = refl; size = sym s; buffer = h ∙ ap (λ m. turn l ++ drop m b) (sym s) })

-- ---- 11
alone-parts : (k : ℕ) (l : Bytes) → is_alone k l ≡ true → (is_whole l ≡ true) × (kind_of l ≡ k) × (length l ≡ 4 + length_of l)
unfolding is_alone
alone-parts k l h =
    let p = (and-eq-true_iff (is_whole l) (eqb (kind_of l) k && eqb (length l) (4 + length_of l))).0 h in
    let q = (and-eq-true_iff (eqb (kind_of l) k) (eqb (length l) (4 + length_of l))).0 p.1 in
    (p.0, eqb-true (kind_of l) k q.0, eqb-true (length l) (4 + length_of l) q.1)

module _ (k : ℕ) (l : Bytes) (room : ℕ) where
  not-alone : (is_alone k l ≡ true → ⊥) → 11 ≡ refusal_of k l room
  unfolding refusal_of pick
  not-alone h = rw (passes (is_alone k l) (λ e. e) h)

  pub bad-header : is_kind k ≡ true → {h : Option ℕ} → header_gives h ≡ header_at l → h ≡ None → 11 ≡ refusal_of k l room
  bad-header t e q = not-alone (λ a. let p = alone-parts k l a in whole-kind p.0 (ap is_kind p.1 ∙ t) (not_found l e q))
    where
      whole-kind : is_whole l ≡ true → is_kind (kind_of l) ≡ true → is_table l ≡ false → ⊥
      whole-kind a b c = true≢false (sym (ap₂ ◌&&◌ a b) ∙ c)

  pub other-kind : (kind_of l ≡ k → ⊥) → 11 ≡ refusal_of k l room
  other-kind h = not-alone (λ a. h (alone-parts k l a).1)

  -- a record of kind k or another, with n bytes of content
  module _ {h : Option ℕ} {n : ℕ} (e : header_gives h ≡ header_at l) (q : h ≡ Some n) where
    pub more_bytes : (length l ≡ 4 + n → ⊥) → 11 ≡ refusal_of k l room
    more_bytes z = not-alone (λ a. z (omega (arith, (alone-parts k l a).2, (found l e q).1)))

    module _ (t : kind_of l ≡ k) (s : length l ≡ 4 + n) where
      exact : length l ≡ 4 + length_of l
      exact = omega (arith, s, (found l e q).1)

      is-alone : is_alone k l ≡ true
      unfolding is_alone
      is-alone = rw (((and-eq-true_iff (is_whole l) (is_kind (kind_of l))).0 (found l e q).0).0, eq-eqb (kind_of l) k t, eq-eqb (length l) (4 + length_of l) exact) refl

      -- `&l[4..]`
      part : take (length l - 4) (drop 4 l) ≡ content_of l
      part = let z : length l - 4 ≡ length_of l = omega (arith, exact) in ap (λ (m : ℕ). take m (drop 4 l)) z

      module _ {o : ℕ} (w : o ≡ own_refusal k (take (length l - 4) (drop 4 l))) where
        own_is : o ≡ own_refusal k (content_of l)
        own_is = w ∙ ap (own_refusal k) part

        pub own-refused : (o ≡ 0 → ⊥) → o ≡ refusal_of k l room
        unfolding refusal_of pick or_else
        own-refused z = rw is-alone (go o own_is z)
          where
            go : (o : ℕ) → o ≡ own_refusal k (content_of l) → (o ≡ 0 → ⊥) → o ≡ or_else (own_refusal k (content_of l)) (pick (leb (length l) room) 0 52)
            go zero e z = absurd (z refl)
            go (suc o) e z = ap (λ m. or_else m (pick (leb (length l) room) 0 52)) e

        module _ (z : o ≡ 0) where
          pub target-short : room < length l → 52 ≡ refusal_of k l room
          unfolding refusal_of pick or_else
          target-short h = rw (is-alone, sym own_is ∙ z, lt-leb (length l) room h) refl

          pub target-long : length l ≤ room → 0 ≡ refusal_of k l room
          unfolding refusal_of pick or_else
          target-long h = rw (is-alone, sym own_is ∙ z, le-leb (length l) room h) refl

pub header-within : (l : Bytes) {h : Option ℕ} {n : ℕ} → header_gives h ≡ header_at l → h ≡ Some n → 4 + n ≤ length l
header-within l e q = omega (arith, (Whole.whole l (found l e q).0).within, (found l e q).1)

-- ---- 12, 50, 43
module _ (k : ℕ) (c : Bytes) {f : Bool} (e : f ≡ fits c) where
  pub own-unfit : f ≡ false → 12 ≡ own_refusal k c
  unfolding own_refusal pick
  own-unfit h = rw (← e, h)

  module _ (h : f ≡ true) {j : ℕ} (n : j ≡ table_number c) where
    pub own-number : 8 ≤ j → 50 ≡ own_refusal k c
    unfolding own_refusal pick
    own-number g = rw (← e, h, lt-leb (table_number c) 7 (omega (arith, n, g)))

    module _ (g : j < 8) {t : Bool} (w : t ≡ bounded (table_by k c)) where
      pub own-none : t ≡ true → 0 ≡ own_refusal k c
      unfolding own_refusal pick
      own-none y = rw (← e, h, le-leb (table_number c) 7 (omega (arith, n, g)), ← w, y)

      pub own-beyond : t ≡ false → 43 ≡ own_refusal k c
      unfolding own_refusal pick
      own-beyond y = rw (← e, h, le-leb (table_number c) 7 (omega (arith, n, g)), ← w, y)

-- what no number refuses
pub turnable : (k : ℕ) (l d : Bytes) {n : ℕ} → n ≡ refusal_of k l (length d) → n ≡ 0 → Turnable l d
unfolding refusal_of own_refusal or_else pick
turnable k l d e z = go (is_alone k l) (fits (content_of l)) (leb (table_number (content_of l)) 7) (bounded (table_by k (content_of l))) (leb (length l) (length d)) refl refl refl (sym e ∙ z)
  where
    go : (a f m g r : Bool) → is_alone k l ≡ a → fits (content_of l) ≡ f → leb (length l) (length d) ≡ r
        → pick a (or_else (pick f (pick m (pick g 0 43) 50) 12) (pick r 0 52)) 11 ≡ 0 → Turnable l d
    go true true true true true a f r h =
        record { alone = (alone-parts k l a).2; fitting = f; room = leb-true (length l) (length d) r }
    go true true true true false a f r h = absurd (omega (arith, h))
    go true true true false q a f r h = absurd (omega (arith, h))
    go true true false g q a f r h = absurd (omega (arith, h))
    go true false m g q a f r h = absurd (omega (arith, h))
    go false u m g q a f r h = absurd (omega (arith, h))

-- ---- the head
pub record Copying (l d₀ d : Bytes) (j : ℕ) : Type 0 where
  pub long : length d ≡ length d₀
  pub front : (x : ℕ) → x < j → byte d x ≡ byte l x
  pub behind : (x : ℕ) → j ≤ x → byte d x ≡ byte d₀ x

pub copying-first : (l d₀ : Bytes) → Copying l d₀ d₀ 0
copying-first l d₀ = record { long = refl; front = λ x h. absurd (omega arith); behind = λ x h. refl }

pub copying-next : {l d₀ d : Bytes} {j v : ℕ} → Copying l d₀ d j → j < length d → v ≡ byte l j → Copying l d₀ (set d j v) (j + 1)
copying-next {l} {d₀} {d} {j} {v} C h e = record {
  long = length-set d j v ∙ C.long;
  front = λ x g. go x g (ltb x j) refl;
  behind = λ x g. get_or-set_other d j x v 0 (λ z. omega (arith, g, z)) ∙ C.behind x (omega arith);
}
  where
    go : (x : ℕ) → x < j + 1 → (t : Bool) → ltb x j ≡ t → byte (set d j v) x ≡ byte l x
    go x g true t = get_or-set_other d j x v 0 (λ z. omega (arith, ltb-true x j t, z)) ∙ C.front x (ltb-true x j t)
    go x g false t = let z : j ≡ x = omega (arith, g, ltb-false x j t) in subst (λ (i : ℕ). byte (set d j v) i ≡ byte l i) z (get_or-set_same d j v 0 h ∙ e)

pub head_done : {l d₀ d : Bytes} {j n : ℕ} (k : ℕ) → Copying l d₀ d j → j ≤ n → n ≤ j → 4 ≤ n → n ≤ length d₀ → HeadPost l n k d₀ (set (set d 2 k) 3 0)
head_done {l} {d₀} {d} {j} {n} k C a b f g =
    let d₁ = set d 2 k in record {
      long = length-set d₁ 3 0 ∙ length-set d 2 k ∙ C.long;
      front = λ x h y z. get_or-set_other d₁ 3 x 0 0 z ∙ get_or-set_other d 2 x k 0 y ∙ C.front x (omega arith);
      kind = get_or-set_other d₁ 3 2 0 0 (λ z. omega arith) ∙ get_or-set_same d 2 k 0 (omega (arith, C.long, f, g));
      high = get_or-set_same d₁ 3 0 0 (omega (arith, length-set d 2 k, C.long, f, g));
      behind = λ x h. get_or-set_other d₁ 3 x 0 0 (λ z. omega (arith, h, f, z)) ∙ get_or-set_other d 2 x k 0 (λ z. omega (arith, h, f, z)) ∙ C.behind x (omega arith);
    }

-- ---- bytes that are the same before p, in n numbers of m pieces from there on, and behind them
same_target : (p m n : ℕ) (d e : Bytes) → length d ≡ length e → ((j : ℕ) → j < p → byte d j ≡ byte e j)
    → ((a b x : ℕ) → a < m → b < n → x < 4 → byte d (p + 4 * (n * a + b) + x) ≡ byte e (p + 4 * (n * a + b) + x))
    → ((j : ℕ) → p + 4 * (n * m) ≤ j → byte d j ≡ byte e j) → d ≡ e
same_target p m n d e s front cells tail = ext_get_or 0 d e s (λ j h. go j (ltb j p) refl)
  where
    mid : (j : ℕ) → p ≤ j → (t : Bool) → ltb j (p + 4 * (n * m)) ≡ t → byte d j ≡ byte e j
    mid j r true q =
        at_place m n (j - p) (omega (arith, r, ltb-true j (p + 4 * (n * m)) q)) λ a b x u v y z.
        subst (λ (i : ℕ). byte d i ≡ byte e i) (omega (arith, r, z)) (cells a b x u v y)
    mid j r false q = tail j (ltb-false j (p + 4 * (n * m)) q)

    go : (j : ℕ) → (t : Bool) → ltb j p ≡ t → byte d j ≡ byte e j
    go j true q = front j (ltb-true j p q)
    go j false q = let r = ltb-false j p q in mid j r (ltb j (p + 4 * (n * m))) refl

record-byte : (k : ℕ) (l c : Bytes) (j : ℕ) → byte (with_kind k l c) (4 + j) ≡ byte c j
record-byte k l c j = let e : 4 + j ≡ suc (suc (suc (suc j))) = omega arith in ap (λ (i : ℕ). byte (with_kind k l c) i) e

-- a record of which head and cells were written
module _ (k : ℕ) (l b d₁ d G : Bytes) (T : Turnable l b) where
  abbrev c : Bytes
  c = content_of l

  abbrev p : ℕ
  p = 4 + cells_at c

  abbrev turned_to : Bytes
  turned_to = with_kind k l (take (cells_at c) c ++ G)

  long : length c ≡ cells_at c + 4 * (table_columns c * table_rows c)
  long = (fit c T.fitting).long

  whole : length l ≡ 4 + length c
  whole = T.alone ∙ ap (λ (m : ℕ). 4 + m) (sym (content-length l T.alone))

  inside : cells_at c ≤ length c
  inside = omega (arith, long)

  module _ (g : length G ≡ 4 * (table_columns c * table_rows c)) where
    turned-length : length turned_to ≡ length l
    turned-length = omega (arith, both-length (cells_at c) c G inside, g, long, whole)

    target-length : length (turned_to ++ drop (length l) b) ≡ length b
    target-length = length-append turned_to (drop (length l) b) ∙ omega (arith, turned-length, length-drop (length l) b, T.room)

    own-byte : (j : ℕ) → j < length l → byte (turned_to ++ drop (length l) b) j ≡ byte turned_to j
    own-byte j h = get_or-append turned_to (drop (length l) b) 0 j (omega (arith, turned-length, h))

    tail-byte : (j : ℕ) → length l ≤ j → byte (turned_to ++ drop (length l) b) j ≡ byte b j
    tail-byte j h =
        let e : length turned_to + (j - length l) ≡ j = omega (arith, turned-length, h) in
        let i : length l + (j - length l) ≡ j = omega (arith, h) in
        ap (λ (x : ℕ). byte (turned_to ++ drop (length l) b) x) (sym e) ∙ get_or-append-add turned_to (drop (length l) b) (j - length l) 0
        ∙ get_or-drop (length l) b (j - length l) 0 ∙ ap (λ (x : ℕ). byte b x) i

    cell-byte : (y : ℕ) → y < length G → byte (turned_to ++ drop (length l) b) (p + y) ≡ byte G y
    cell-byte y h =
        let e : 4 + cells_at c + y ≡ 4 + (cells_at c + y) = omega arith in
        own-byte (p + y) (omega (arith, h, g, long, whole)) ∙ ap (λ (x : ℕ). byte turned_to x) e
        ∙ record-byte k l (take (cells_at c) c ++ G) (cells_at c + y) ∙ behind-byte (cells_at c) c G inside y

    content-byte : (j : ℕ) → j < cells_at c → byte c j ≡ byte l (4 + j)
    content-byte j h = get_or-take (length_of l) (drop 4 l) j 0 (omega (arith, h, long, content-length l T.alone)) ∙ get_or-drop 4 l j 0

    head_byte : HeadPost l p k b d₁ → (j : ℕ) → j < p → byte d₁ j ≡ byte (turned_to ++ drop (length l) b) j
    head_byte H j h = go j h ∙ sym (own-byte j (omega (arith, h, long, whole)))
      where
        go : (j : ℕ) → j < p → byte d₁ j ≡ byte turned_to j
        go zero h = H.front 0 h (λ z. omega arith) (λ z. omega arith)
        go (suc zero) h = H.front 1 h (λ z. omega arith) (λ z. omega arith)
        go (suc (suc zero)) h = H.kind
        go (suc (suc (suc zero))) h = H.high
        go (suc (suc (suc (suc j)))) h =
            let e : suc (suc (suc (suc j))) ≡ 4 + j = omega arith in
            H.front (suc (suc (suc (suc j)))) h (λ z. omega (arith, z)) (λ z. omega (arith, z)) ∙ ap (λ (x : ℕ). byte l x) e
            ∙ sym (content-byte j (omega (arith, h))) ∙ sym (front-byte (cells_at c) c G inside j (omega (arith, h)))

-- ---- the two directions
module _ (l b d₁ d : Bytes) (T : Turnable l b) where
  abbrev w : ℕ
  w = table_columns (content_of l)

  abbrev n : ℕ
  n = table_rows (content_of l)

  abbrev at : ℕ
  at = 4 + cells_at (content_of l)

  pub columns-laid : HeadPost l at 23 b d₁ → ByColumnsPost (content_of l) w n d₁ d → d ≡ to_columns l ++ drop (length l) b
  unfolding to_columns content_by_columns bytes_by_columns
  columns-laid H C =
      let c = content_of l in
      let G = bytes_by_columns w n c (cells_at c) in
      let g = by-columns-length w n c (cells_at c) in
      same_target at w n d (to_columns l ++ drop (length l) b) (C.long ∙ H.long ∙ sym (target-length 23 l b d₁ d G T g))
      (λ j h. C.other j (λ i r u v a e. omega (arith, h, a)) ∙ head_byte 23 l b d₁ d G T g H j h)
      (λ i r x u v y. C.here i r x u v y ∙ sym (cell i r x u v y))
      (λ j h. C.other j (λ i r u v a e. omega (arith, h, e, column-within w n i u, mul_comm w n, v)) ∙ H.behind j (omega arith)
      ∙ sym (tail-byte 23 l b d₁ d G T g j (omega (arith, h, mul_comm w n, long 23 l b d₁ d G T, whole 23 l b d₁ d G T))))
    where
      cell : (i r x : ℕ) → i < w → r < n → x < 4
          → byte (to_columns l ++ drop (length l) b) (at + 4 * (n * i + r) + x) ≡ byte (bytes_of (difference (content_of l) (cells_at (content_of l) + 4 * i) (4 * w) r)) x
      cell i r x u v y =
          let c = content_of l in
          let G = bytes_by_columns w n c (cells_at c) in
          let g = by-columns-length w n c (cells_at c) in
          let e : at + 4 * (n * i + r) + x ≡ at + (4 * n * i + (4 * r + x)) = omega arith in
          ap (λ (k : ℕ). byte (to_columns l ++ drop (length l) b) k) e
          ∙ cell-byte 23 l b d₁ d G T g (4 * n * i + (4 * r + x)) (omega (arith, g, column-within w n i u, v, y))
          ∙ grid-byte (λ i r. difference c (cells_at c + 4 * i) (4 * w) r) w n i r x u v y

  pub rows-laid : HeadPost l at 20 b d₁ → ByRowsPost (content_of l) w n d₁ d → d ≡ to_rows l ++ drop (length l) b
  unfolding to_rows content_by_rows bytes_by_rows
  rows-laid H C =
      let c = content_of l in
      let G = bytes_by_rows w n c (cells_at c) in
      let g = by-rows-length w n c (cells_at c) in
      same_target at n w d (to_rows l ++ drop (length l) b) (C.long ∙ H.long ∙ sym (target-length 20 l b d₁ d G T g))
      (λ j h. C.other j (λ i r u v a e. omega (arith, h, a)) ∙ head_byte 20 l b d₁ d G T g H j h)
      (λ r i x v u y. C.here i r x u v y ∙ sym (cell i r x u v y))
      (λ j h. C.other j (λ i r u v a e. omega (arith, h, e, cell-within w n i r u v)) ∙ H.behind j (omega arith)
      ∙ sym (tail-byte 20 l b d₁ d G T g j (omega (arith, h, long 20 l b d₁ d G T, whole 20 l b d₁ d G T))))
    where
      cell : (i r x : ℕ) → i < w → r < n → x < 4
          → byte (to_rows l ++ drop (length l) b) (at + 4 * (w * r + i) + x) ≡ byte (bytes_of (summed (content_of l) (cells_at (content_of l) + 4 * (n * i)) (suc r))) x
      cell i r x u v y =
          let c = content_of l in
          let G = bytes_by_rows w n c (cells_at c) in
          let g = by-rows-length w n c (cells_at c) in
          let e : at + 4 * (w * r + i) + x ≡ at + (4 * w * r + (4 * i + x)) = omega arith in
          ap (λ (k : ℕ). byte (to_rows l ++ drop (length l) b) k) e
          ∙ cell-byte 20 l b d₁ d G T g (4 * w * r + (4 * i + x)) (omega (arith, g, cell-within w n i r u v, y))
          ∙ grid-byte (λ r i. summed c (cells_at c + 4 * (n * i)) (suc r)) n w r i x v u y

  -- what the loops ask; their lengths
  pub asks : {d₂ : Bytes} → length d₂ ≡ length b → {m k : ℕ} → m ≡ w → k ≡ n → CellsPre (content_of l) d₂ m k
  asks {d₂} s em en =
      let f = fit (content_of l) T.fitting in
      rw (em, en) (record {
        least = f.columns-least;
        most = f.columns-most;
        rows_most = f.rows_most;
        long = f.long;
        room = omega (arith, s, T.room, T.alone, content-length l T.alone);
      })

  pub head-fits : (at ≤ length l) × (at ≤ length b)
  head-fits = let f = fit (content_of l) T.fitting in
      (omega (arith, f.long, T.alone, content-length l T.alone), omega (arith, f.long, T.room, T.alone, content-length l T.alone))

pub to-columns-long : (l d : Bytes) → Turnable l d → length (to_columns l) ≡ length l
unfolding to_columns content_by_columns
to-columns-long l d T = turned-length 23 l d d d (bytes_by_columns (table_columns (content_of l)) (table_rows (content_of l)) (content_of l) (cells_at (content_of l))) T (by-columns-length (table_columns (content_of l)) (table_rows (content_of l)) (content_of l) (cells_at (content_of l)))

pub to-rows-long : (l d : Bytes) → Turnable l d → length (to_rows l) ≡ length l
unfolding to_rows content_by_rows
to-rows-long l d T = turned-length 20 l d d d (bytes_by_rows (table_columns (content_of l)) (table_rows (content_of l)) (content_of l) (cells_at (content_of l))) T (by-rows-length (table_columns (content_of l)) (table_rows (content_of l)) (content_of l) (cells_at (content_of l)))

-- ---- what the parts that lay a record read and ask: `&l[4..]` is its content
module _ (l b : Bytes) (T : Turnable l b) where
  part-is : take (length l - 4) (drop 4 l) ≡ content_of l
  part-is = let z : length l - 4 ≡ length_of l = omega (arith, T.alone) in ap (λ (m : ℕ). take m (drop 4 l)) z

  module _ {m : ℕ} (em : m ≡ byte (take (length l - 4) (drop 4 l)) 2) where
    columns-read : m ≡ table_columns (content_of l)
    columns-read = em ∙ ap (λ c. byte c 2) part-is

    pub head-asks : (4 ≤ 4 + 5 + 4 * m) × (4 + 5 + 4 * m ≤ length l) × (4 + 5 + 4 * m ≤ length b)
    head-asks = let f = head-fits l b b b T in (omega arith, omega (arith, columns-read, f.0), omega (arith, columns-read, f.1))

    pub head-laid : {k r : ℕ} {d₁ : Bytes} → r ≡ two (take (length l - 4) (drop 4 l)) 3 → HeadPost l (4 + 5 + 4 * m) k b d₁ → LaidHead l k b d₁ (m, r)
    head-laid {k} {r} {d₁} er H = record {
      head = let z : 4 + 5 + 4 * m ≡ 4 + cells_at (content_of l) = omega (arith, columns-read) in subst (λ (i : ℕ). HeadPost l i k b d₁) z H;
      columns = columns-read;
      rows = er ∙ ap (λ c. two c 3) part-is;
    }

  module _ {k : ℕ} {d₁ : Bytes} {m r : ℕ} (H : LaidHead l k b d₁ (m, r)) where
    pub cells-ask : CellsPre (take (length l - 4) (drop 4 l)) d₁ m r
    cells-ask = subst (λ c. CellsPre c d₁ m r) (sym part-is) (asks l b b b T H.head.long H.columns H.rows)

    -- the cells of what `&l[4..]` is, of so many columns and rows
    read_as : (P : Bytes → ℕ → ℕ → Type 0) → P (take (length l - 4) (drop 4 l)) m r → P (content_of l) (table_columns (content_of l)) (table_rows (content_of l))
    read_as P C = subst (λ (i : ℕ). P (content_of l) i (table_rows (content_of l))) H.columns (subst (λ (i : ℕ). P (content_of l) m i) H.rows (subst (λ c. P c m r) part-is C))

  module _ {d₁ d : Bytes} {m r : ℕ} where
    pub columns-are : LaidHead l 23 b d₁ (m, r) → ByColumnsPost (take (length l - 4) (drop 4 l)) m r d₁ d → d ≡ to_columns l ++ drop (length l) b
    columns-are H C = columns-laid l b d₁ d T H.head (read_as H (λ c w n. ByColumnsPost c w n d₁ d) C)

    pub rows_are : LaidHead l 20 b d₁ (m, r) → ByRowsPost (take (length l - 4) (drop 4 l)) m r d₁ d → d ≡ to_rows l ++ drop (length l) b
    rows_are H C = rows-laid l b d₁ d T H.head (read_as H (λ c w n. ByRowsPost c w n d₁ d) C)
