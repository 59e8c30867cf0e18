-- Rows of a stream: their places, their pads, and when two of them are the same row.
use mathlib.Core.Path.{◌≡◌, refl, sym, ap, ap₂, ◌∙◌}
use mathlib.Core.List.{[], ◌∷◌, ◌++◌, map}
use mathlib.Core.Bool.{Bool, true, false, ◌&&◌, and-true, and-false}
use Prim.Native.Nat.{ℕ, zero, suc, ◌<◌}
use native.Mathlib.Omega.{arith}
use lib.Dec.{eqb, eqb-suc-suc, eqb→eq}
use lib.ListN.{length, take, get_or, length-append, get_or-append}
use lib.Seq.{get_or_at}
use Rattle.spec_calculus.specs.Lists.{bind_l}
use Rattle.spec_calculus.specs.Value.{Value}
use Rattle.spec_calculus.proofs.Lists.{All, Some, all_append, all-bind, all-imp, all-zip}
use Rattle.spec_plan.specs.Operators.{Place, row, val, pad, Row, Stream, at, whole, number, same}

pub length-snoc : (r : Row) (p : Place) → length (r ++ p ∷ []) ≡ suc (length r)
length-snoc r p = omega (arith, length-append r (p ∷ []))

-- a place is read from the front: what stands behind it is not seen
at-get_d : (n : ℕ) (r : Row) → at n r ≡ get_or r n pad
unfolding at
at-get_d n [] = refl
at-get_d zero (p ∷ r) = refl
at-get_d (suc n) (p ∷ r) = at-get_d n r

pub at_before : (n : ℕ) (r y : Row) → n < length r → at n (r ++ y) ≡ at n r
at_before n r y h = at-get_d n (r ++ y) ∙ get_or-append r y pad n h ∙ sym (at-get_d n r)

pub at_here : (n : ℕ) (r : Row) (p : Place) (y : Row) → length r ≡ n → at n (r ++ p ∷ y) ≡ p
at_here n r p y e = at-get_d n (r ++ p ∷ y) ∙ get_or_at r p y pad n e

-- pads
pub whole_append : (r x : Row) → whole (r ++ x) ≡ (whole r && whole x)
unfolding whole
whole_append [] x = refl
whole_append (row i v ∷ r) x = whole_append r x
whole_append (val v ∷ r) x = whole_append r x
whole_append (pad ∷ r) x = refl

pub whole_row : (r : Row) (i : ℕ) (v : Value) → whole (r ++ row i v ∷ []) ≡ whole r
unfolding whole
whole_row r i v = whole_append r (row i v ∷ []) ∙ and-true (whole r)

pub whole_val : (r : Row) (v : Value) → whole (r ++ val v ∷ []) ≡ whole r
unfolding whole
whole_val r v = whole_append r (val v ∷ []) ∙ and-true (whole r)

pub whole-pad : (r : Row) → whole (r ++ pad ∷ []) ≡ false
unfolding whole
whole-pad r = whole_append r (pad ∷ []) ∙ and-false (whole r)

-- row numbers
pub eqb-self : (n : ℕ) → eqb n n ≡ true
eqb-self zero = refl
eqb-self (suc n) = eqb-suc-suc n n ∙ eqb-self n

pub eqb-off : (m n : ℕ) → (m ≡ n → ⊥) → eqb m n ≡ false
eqb-off m n h = go (eqb m n) refl
  where
    go : (b : Bool) → eqb m n ≡ b → b ≡ false
    go true e = absurd (h (eqb→eq m n (rw e tt)))
    go false e = refl

pub same_self : (r : Row) → same r r ≡ true
unfolding same
same_self [] = refl
same_self (p ∷ r) = ap₂ ◌&&◌ (eqb-self (number p)) (same_self r)

-- rows that differ in their first k places differ
same-take : (k : ℕ) (u w : Row) → same (take k u) (take k w) ≡ false → same u w ≡ false
unfolding same
same-take zero u w h = cc h
same-take (suc k) [] [] h = h
same-take (suc k) [] (q ∷ w) h = refl
same-take (suc k) (p ∷ u) [] h = refl
same-take (suc k) (p ∷ u) (q ∷ w) h = go (eqb (number p) (number q)) h (λ e. same-take k u w e)
  where
    go : (b : Bool) → (b && same (take k u) (take k w)) ≡ false → (same (take k u) (take k w) ≡ false → same u w ≡ false) → (b && same u w) ≡ false
    go true h ih = ih h
    go false h ih = refl

pub same-last : (r : Row) (p q : Place) → same (r ++ p ∷ []) (r ++ q ∷ []) ≡ eqb (number p) (number q)
unfolding same
same-last [] p q = and-true (eqb (number p) (number q))
same-last (x ∷ r) p q = ap (λ b. b && same (r ++ p ∷ []) (r ++ q ∷ [])) (eqb-self (number x)) ∙ same-last r p q

-- any two rows differ in their row numbers: what joins keep
abbrev pub Apart : Stream → Type 0
Apart [] = Unit {0}
Apart (r ∷ s) = All (λ u. same r u ≡ false) s × Apart s

apart-append : (l m : Stream) → Apart l → Apart m → All (λ u. All (λ w. same u w ≡ false) m) l → Apart (l ++ m)
apart-append [] m a b h = b
apart-append (u ∷ l) m a b h = (all_append (λ w. same u w ≡ false) l m a.0 h.0, apart-append l m a.1 b h.1)

-- what has grown from rows apart is apart, if what has grown from each is
pub apart-bind : (k : ℕ) (f : Row → Stream) (s : Stream) → Apart s → All (λ r. Apart (f r) × All (λ u. take k u ≡ r) (f r)) s → Apart (bind_l s f)
unfolding bind_l
apart-bind k f [] a h = tt
apart-bind k f (r ∷ s) a h = apart-append (f r) (bind_l s f) h.0.0 (apart-bind k f s a.1 h.1)
    (all-imp (λ u. take k u ≡ r) (λ u. All (λ w. same u w ≡ false) (bind_l s f)) (f r) h.0.1
    (λ u e. all-bind (λ x. (same r x ≡ false) × (Apart (f x) × All (λ w. take k w ≡ x) (f x))) (λ w. same u w ≡ false) f s
    (all-zip (λ x. same r x ≡ false) (λ x. Apart (f x) × All (λ w. take k w ≡ x) (f x)) s a.0 h.1)
    (λ x hx. all-imp (λ w. take k w ≡ x) (λ w. same u w ≡ false) (f x) hx.1.1 (λ w e'. same-take k u w (ap₂ same e e' ∙ hx.0)))))

-- neighbours differ in their row numbers: all that a nest needs, and what outers and nests keep
abbrev pub Front : Row → Stream → Type 0
Front r [] = Unit {0}
Front r (u ∷ s) = same r u ≡ false

abbrev pub Differ : Stream → Type 0
Differ [] = Unit {0}
Differ (r ∷ s) = Front r s × Differ s

all-front : (r : Row) (s : Stream) → All (λ u. same r u ≡ false) s → Front r s
all-front r [] h = tt
all-front r (u ∷ s) h = h.0

pub apart-differ : (s : Stream) → Apart s → Differ s
apart-differ [] a = tt
apart-differ (r ∷ s) a = (all-front r s a.0, apart-differ s a.1)

differ-append : (l m : Stream) → Differ l → Differ m → All (λ u. Front u m) l → Differ (l ++ m)
differ-append [] m a b h = b
differ-append (u ∷ []) m a b h = (h.0, b)
differ-append (u ∷ (w ∷ l)) m a b h = (a.0, differ-append (w ∷ l) m a.1 b h.1)

front-append : (k : ℕ) (r u x : Row) (l m : Stream) → Some l → All (λ w. take k w ≡ x) l → same r x ≡ false → take k u ≡ r → Front u (l ++ m)
front-append k r u x [] m n h d e = absurd n
front-append k r u x (w ∷ l) m n h d e = same-take k u w (ap₂ same e h.0 ∙ d)

-- what a row grows into: at least one row, neighbours that differ, each with the row in front
abbrev pub Grows : ℕ → (Row → Stream) → Row → Type 0
Grows k f r = Some (f r) × (Differ (f r) × All (λ u. take k u ≡ r) (f r))

module _ (k : ℕ) (f : Row → Stream) where
  front-bind : (r : Row) (s : Stream) → Front r s → All (Grows k f) s → (u : Row) → take k u ≡ r → Front u (bind_l s f)
  unfolding bind_l
  front-bind r [] d h u e = tt
  front-bind r (x ∷ s) d h u e = front-append k r u x (f x) (bind_l s f) h.0.0 h.0.1.1 d e

  pub differ-bind : (s : Stream) → Differ s → All (Grows k f) s → Differ (bind_l s f)
  unfolding bind_l
  differ-bind [] a h = tt
  differ-bind (r ∷ s) a h = differ-append (f r) (bind_l s f) h.0.1.0 (differ-bind s a.1 h.1)
      (all-imp (λ u. take k u ≡ r) (λ u. Front u (bind_l s f)) (f r) h.0.1.1 (λ u e. front-bind r s a.0 h.1 u e))

front-map : (k : ℕ) (g : Row → Row) (r : Row) (s : Stream) → take k (g r) ≡ r → Front r s → All (λ r. take k (g r) ≡ r) s → Front (g r) (map g s)
front-map k g r [] e d h = tt
front-map k g r (u ∷ s) e d h = same-take k (g r) (g u) (ap₂ same e h.0 ∙ d)

pub differ-map : (k : ℕ) (g : Row → Row) (s : Stream) → Differ s → All (λ r. take k (g r) ≡ r) s → Differ (map g s)
differ-map k g [] a h = tt
differ-map k g (r ∷ s) a h = (front-map k g r s h.0 a.0 h.1, differ-map k g s a.1 h.1)
