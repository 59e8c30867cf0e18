-- What each monoid does not see of the list of its heads; max and min are the greatest and the least head.
use mathlib.Core.Path.{◌≡◌, refl, sym, ap, ◌∙◌, subst}
use mathlib.Core.Logic.{◌≢◌, ◌⊎◌, inl, inr}
use mathlib.Core.List.{List, [], ◌∷◌, ◌++◌, foldr, append-nil, map}
use mathlib.Core.Bool.{Bool, true, false, not, ◌&&◌, ◌||◌, true≢false, or_self_left, and_self_left}
use Prim.Native.Nat.compare
use Prim.Native.Nat.{ℕ, zero, suc, compare}
use lib.Dec.{is_le, ltb, leb-zero}
use lib.IntN.{ℤ, pos, negsuc, ◌+ℤ◌, +ℤ_assoc, +ℤ_comm}
use lib.Signed.{lt_z}
use Rattle.spec_calculus.specs.Lists.{bind_l, guard, pick}
use Rattle.spec_calculus.specs.Syntax.{Collection, list, bag, set, Monoid, of, sum, max, min, some, all}
use Rattle.spec_calculus.specs.Value.{Value, Values, num, truth, rec, coll, vnil, vcons, to_list, from_list, as_int, as_bool, elems}
use Rattle.spec_calculus.specs.Order.{compare_z, le_v}
use Rattle.spec_calculus.specs.Rearrangement.{Rearranged, nil, Repeated, reorder, chain, Alike}
use Rattle.spec_calculus.specs.Greatest.{at_most, One, Last}
use Rattle.spec_calculus.specs.Monoid.{Entry, none, start, step, greater, lesser, against, total, finish, fold_by, ordered, canonical, raw}
use Rattle.spec_calculus.proofs.Lists.{All, all-imp}
use Rattle.spec_calculus.proofs.Sorting.{rearranged-path, rearranged-left, rearranged-right, repeated-left, repeated-right, repeated-twice, bind-rearranged, bind-repeated, Commuting, Idempotent, fold-rearranged, fold-repeated, IsTotal, sort, sort_distinct, le-self, by_order, insert_comm, put-comm, put-idem, sort-rearranged, distinct-repeated, same-sort, same-distinct, sort-rearranges, distinct-repeats}
use Rattle.spec_calculus.proofs.Order.{ℤ-order, order-total, V-total}

pub to-from : (l : List Value) → to_list (from_list l) ≡ l
to-from [] = refl
to-from (v ∷ l) = ap (λ m. v ∷ m) (to-from l)

pub from-to : (vs : Values) → from_list (to_list vs) ≡ vs
from-to vnil = refl
from-to (vcons v vs) = ap (vcons v) (from-to vs)

-- What a monoid sees of its heads: their list; their bag, that is not their order; their set, nor their repeats.
unfoldable pub seen_as : Monoid → Collection
seen_as (of c) = c
seen_as sum = bag
seen_as max = set
seen_as min = set
seen_as some = set
seen_as all = set

pub alike-path : {A : Type 0} (c : Collection) (l m : List A) → l ≡ m → Alike c l m
alike-path list l m h = h
alike-path bag l m h = rearranged-path h
alike-path set l m h = reorder (rearranged-path h)

pub alike-left : {A : Type 0} (d : Collection) (a b c : List A) → Alike d a b → Alike d (a ++ c) (b ++ c)
alike-left list a b c h = ap (λ l. l ++ c) h
alike-left bag a b c h = rearranged-left c h
alike-left set a b c h = repeated-left c h

pub alike_right : {A : Type 0} (d : Collection) (a b c : List A) → Alike d b c → Alike d (a ++ b) (a ++ c)
alike_right list a b c h = ap (λ l. a ++ l) h
alike_right bag a b c h = rearranged-right a h
alike_right set a b c h = repeated-right a h

-- a generator over alike lists
pub alike-over : {A B : Type 0} (d : Collection) (l m : List A) (f : A → List B) → Alike d l m → Alike d (bind_l l f) (bind_l m f)
alike-over list l m f h = ap (λ n. bind_l n f) h
alike-over bag l m f h = bind-rearranged f h
alike-over set l m f h = bind-repeated f h

-- a list as a list, bag, set has it
unfoldable pub arranged : Collection → List Value → List Value
arranged list l = l
arranged bag l = sort le_v l
arranged set l = sort_distinct le_v l

pub arranged-alike : (c : Collection) (l : List Value) → Alike c (arranged c l) l
unfolding arranged
arranged-alike list l = refl
arranged-alike bag l = sort-rearranges le_v l
arranged-alike set l = distinct-repeats le_v V-total l

pub alike-arranged : (c : Collection) (l m : List Value) → Alike c l m → arranged c l ≡ arranged c m
unfolding arranged
alike-arranged list l m h = h
alike-arranged bag l m h = sort-rearranged le_v V-total h
alike-arranged set l m h = distinct-repeated le_v V-total h

pub same-arranged : (c : Collection) (l m : List Value) → arranged c l ≡ arranged c m → Alike c l m
unfolding arranged
same-arranged list l m h = h
same-arranged bag l m h = same-sort le_v V-total l m h
same-arranged set l m h = same-distinct le_v V-total l m h

-- the heads as their monoid sees them, and lists of heads that it does not tell apart
unfoldable pub canon : Monoid → List Value → List Value
canon m l = arranged (seen_as m) l

abbrev pub Eqv : Monoid → List Value → List Value → Type 0
Eqv M l m = canon M l ≡ canon M m

pub alike-eqv : (M : Monoid) (l m : List Value) → Alike (seen_as M) l m → Eqv M l m
unfolding canon
alike-eqv M l m h = alike-arranged (seen_as M) l m h

pub eqv-alike : (M : Monoid) (l m : List Value) → Eqv M l m → Alike (seen_as M) l m
unfolding canon
eqv-alike M l m h = same-arranged (seen_as M) l m h

pub eqv-left : (M : Monoid) (a b c : List Value) → Eqv M a b → Eqv M (a ++ c) (b ++ c)
eqv-left M a b c h = alike-eqv M (a ++ c) (b ++ c) (alike-left (seen_as M) a b c (eqv-alike M a b h))

pub eqv-right : (M : Monoid) (a b c : List Value) → Eqv M b c → Eqv M (a ++ b) (a ++ c)
eqv-right M a b c h = alike-eqv M (a ++ b) (a ++ c) (alike_right (seen_as M) a b c (eqv-alike M b c h))

pub eqv-bind : {A : Type 0} (M : Monoid) (l : List A) (f g : A → List Value) → ((a : A) → Eqv M (f a) (g a)) → Eqv M (bind_l l f) (bind_l l g)
unfolding bind_l
eqv-bind M [] f g h = refl
eqv-bind M (a ∷ l) f g h = eqv-left M (f a) (g a) (bind_l l f) (h a) ∙ eqv-right M (g a) (bind_l l f) (bind_l l g) (eqv-bind M l f g h)

pub eqv-guard : (M : Monoid) (b : Bool) (l m : List Value) → Eqv M l m → Eqv M (guard b l) (guard b m)
unfolding guard
eqv-guard M true l m h = h
eqv-guard M false l m h = refl

-- a monoid's total, as the library's fold
pub total-foldr : (E : Entry) (m : Monoid) (l : List Value) → total E m l ≡ foldr (step E m) (start m) l
unfolding total
total-foldr E m [] = refl
total-foldr E m (v ∷ l) = ap (step E m v) (total-foldr E m l)

pub fold-foldr : (E : Entry) (m : Monoid) (l : List Value) → fold_by E m l ≡ finish m (foldr (step E m) (start m) l)
unfolding fold_by
fold-foldr E m l = ap (finish m) (total-foldr E m l)

-- the greater and the lesser of two whole numbers
ltb-le : (a b : ℕ) → ltb a b ≡ not (is_le (compare b a))
ltb-le a zero = rw (compare.suc-zero a, leb-zero a)
ltb-le zero (suc b) = rw (compare.suc-suc 0 b, compare.suc-zero b, leb-zero b)
ltb-le (suc a) (suc b) = rw (compare.suc-suc (suc a) b, compare.suc-suc b a) (ltb-le a b)

lt_z-le : (a b : ℤ) → lt_z a b ≡ not (at_most b a)
unfolding compare_z
lt_z-le (pos a) (pos b) = ltb-le a b
lt_z-le (pos a) (negsuc b) = refl
lt_z-le (negsuc a) (pos b) = refl
lt_z-le (negsuc a) (negsuc b) = ltb-le b a

greater-first : (a b : ℤ) → at_most b a ≡ true → greater a b ≡ a
unfolding greater pick
greater-first a b h = rw (lt_z-le a b, h)

greater-second : (a b : ℤ) → at_most b a ≡ false → greater a b ≡ b
unfolding greater pick
greater-second a b h = rw (lt_z-le a b, h)

Z-total : IsTotal at_most
Z-total = order-total compare_z ℤ-order

lesser-first : (a b : ℤ) → at_most a b ≡ true → lesser a b ≡ a
unfolding lesser pick
lesser-first a b h = rw (lt_z-le b a, h)

lesser-second : (a b : ℤ) → at_most a b ≡ false → lesser a b ≡ b
unfolding lesser pick
lesser-second a b h = rw (lt_z-le b a, h)

Z-opposite : IsTotal (λ a b. at_most b a)
Z-opposite = record { total = λ x y h. Z-total.total y x h; same = λ x y h k. Z-total.same x y k h; trans = λ x y z h k. Z-total.trans z y x k h }

-- the last of some whole numbers in an order, the first of them given apart
unfoldable last_of : (ℤ → ℤ → ℤ) → ℤ → List ℤ → ℤ
last_of op a [] = a
last_of op a (b ∷ l) = op a (last_of op b l)

each-one : {A : Type 0} (P : A → Type 0) (l : List A) → All P l → (a : A) → One (λ b. b ≡ a) l → P a
each-one P [] h a o = absurd o
each-one P (b ∷ l) h a (inl e) = subst P e h.0
each-one P (b ∷ l) h a (inr o) = each-one P l h.1 a o

-- le: an order; op: the last of two whole numbers in it
module _ (le : ℤ → ℤ → Bool) (O : IsTotal le) (op : ℤ → ℤ → ℤ) (first : (a b : ℤ) → le b a ≡ true → op a b ≡ a) (second : (a b : ℤ) → le b a ≡ false → op a b ≡ b) where
  last-left-comm : Commuting op
  last-left-comm = by_order le O op λ x y h k b. go x y h k b (le b x) (le b y) refl refl
    where
      go : (x y : ℤ) → le x y ≡ true → le y x ≡ false → (b : ℤ) (c d : Bool) → le b x ≡ c → le b y ≡ d → op x (op y b) ≡ op y (op x b)
      go x y h k b true true p q = simp (first, second)
      go x y h k b true false p q = cc (O.trans b x y p h)
      go x y h k b false true p q = simp (first, second)
      go x y h k b false false p q = simp second

  last-self : (x : ℤ) → op x x ≡ x
  last-self x = first x x (le-self le O x)

  last-idem : Idempotent op
  last-idem x b = go (le b x) refl
    where
      go : (c : Bool) → le b x ≡ c → op x (op x b) ≡ op x b
      go true p = rw (first x b p) (last-self x)
      go false p = rw (second x b p) (second x b p)

  last-comm : (x y : ℤ) → op x y ≡ op y x
  last-comm x y = go (le x y) (le y x) refl refl
    where
      go : (c d : Bool) → le x y ≡ c → le y x ≡ d → op x y ≡ op y x
      go true true p q = rw (O.same x y p q)
      go true false p q = second x y q ∙ sym (first y x p)
      go false true p q = first x y q ∙ sym (second y x p)
      go false false p q = cc (O.total x y p)

  -- a head against what max or min has so far
  against-comm : (a b : ℤ) (u : Value) → op a (against op b u) ≡ op b (against op a u)
  unfolding against
  against-comm a b (num z) = last-left-comm a b z
  against-comm a b (truth t) = last-comm a b
  against-comm a b (rec vs) = last-comm a b
  against-comm a b (coll vs) = last-comm a b

  against-idem : (a : ℤ) (u : Value) → op a (against op a u) ≡ against op a u
  unfolding against
  against-idem a (num z) = last-idem a z
  against-idem a (truth t) = last-self a
  against-idem a (rec vs) = last-self a
  against-idem a (coll vs) = last-self a

  -- all heads against each other
  last_one : (a : ℤ) (l : List ℤ) → One (λ b. b ≡ last_of op a l) (a ∷ l)
  unfolding last_of
  last_one a [] = inl refl
  last_one a (b ∷ l) = go (le (last_of op b l) a) refl (last_one b l)
    where
      go : (c : Bool) → le (last_of op b l) a ≡ c → One (λ x. x ≡ last_of op b l) (b ∷ l) → One (λ x. x ≡ op a (last_of op b l)) (a ∷ b ∷ l)
      go true p h = inl (sym (first a (last_of op b l) p))
      go false p h = inr (subst (λ z. One (λ x. x ≡ z) (b ∷ l)) (sym (second a (last_of op b l) p)) h)

  last-all : (a : ℤ) (l : List ℤ) → All (λ b. le b (last_of op a l) ≡ true) (a ∷ l)
  unfolding last_of
  last-all a [] = (le-self le O a, tt)
  last-all a (b ∷ l) = go (le (last_of op b l) a) refl (last-all b l)
    where
      go : (c : Bool) → le (last_of op b l) a ≡ c → All (λ x. le x (last_of op b l) ≡ true) (b ∷ l) → All (λ x. le x (op a (last_of op b l)) ≡ true) (a ∷ b ∷ l)
      go true p h = subst (λ z. All (λ x. le x z ≡ true) (a ∷ b ∷ l)) (sym (first a (last_of op b l) p)) (le-self le O a, all-imp _ _ (b ∷ l) h (λ x k. O.trans x (last_of op b l) a k p))
      go false p h = subst (λ z. All (λ x. le x z ≡ true) (a ∷ b ∷ l)) (sym (second a (last_of op b l) p)) (O.total (last_of op b l) a p, h)

  -- m: a monoid that starts with none and has op for its step
  module _ (m : Monoid) (s : start m ≡ none) (h : (v w : Value) → step ordered m v w ≡ num (against op (as_int v) w)) (f : (z : ℤ) → finish m (num z) ≡ num z) where
    total-last : (v : Value) (l : List Value) → total ordered m (v ∷ l) ≡ num (last_of op (as_int v) (map as_int l))
    unfolding total against last_of
    total-last v [] = h v (start m) ∙ ap (λ w. num (against op (as_int v) w)) s
    total-last v (u ∷ l) = h v (total ordered m (u ∷ l)) ∙ ap (λ w. num (against op (as_int v) w)) (total-last u l)

    fold-last : (v : Value) (l : List Value) → Last le (map as_int (v ∷ l)) (canonical m (v ∷ l))
    unfolding canonical fold_by
    fold-last v l = record {
      number = last_of op (as_int v) (map as_int l);
      is = ap (finish m) (total-last v l) ∙ f (last_of op (as_int v) (map as_int l));
      one = last_one (as_int v) (map as_int l);
      all = λ a h. each-one (λ b. le b (last_of op (as_int v) (map as_int l)) ≡ true) (map as_int (v ∷ l)) (last-all (as_int v) (map as_int l)) a h;
    }

-- "max over at least one qualifying row is the greatest head; over none it is 0", and min mirrored (document 02, E1).
pub max-greatest : (v : Value) (l : List Value) → Last at_most (map as_int (v ∷ l)) (canonical max (v ∷ l))
unfolding start step finish as_int
max-greatest v l = fold-last at_most Z-total greater greater-first greater-second max refl (λ u w. refl) (λ z. refl) v l

pub min-least : (v : Value) (l : List Value) → Last (λ a b. at_most b a) (map as_int (v ∷ l)) (canonical min (v ∷ l))
unfolding start step finish as_int
min-least v l = fold-last (λ a b. at_most b a) Z-opposite lesser lesser-first lesser-second min refl (λ u w. refl) (λ z. refl) v l

pub over_none : (canonical max [] ≡ num (pos 0)) × (canonical min [] ≡ num (pos 0))
unfolding canonical fold_by total start finish as_int
over_none = (refl, refl)

or-left-comm : Commuting ◌||◌
or-left-comm true true c = refl
or-left-comm true false c = refl
or-left-comm false true c = refl
or-left-comm false false c = refl

and-left-comm : Commuting ◌&&◌
and-left-comm true true c = refl
and-left-comm true false c = refl
and-left-comm false true c = refl
and-left-comm false false c = refl

sum-left-comm : Commuting ◌+ℤ◌
sum-left-comm a b c = sym (+ℤ_assoc a b c) ∙ ap (λ z. z +ℤ c) (+ℤ_comm a b) ∙ +ℤ_assoc b a c

entry-entry : (c : Collection) (v w u : Value) → step ordered (of c) v (step ordered (of c) w u) ≡ coll (from_list (ordered c v (ordered c w (elems u))))
unfolding step elems
entry-entry c v w u = ap (λ l. coll (from_list (ordered c v l))) (to-from (ordered c w (elems u)))

entry-comm : (c : Collection) → Commuting (ordered c) → Commuting (step ordered (of c))
entry-comm c h v w u = entry-entry c v w u ∙ ap (λ l. coll (from_list l)) (h v w (elems u)) ∙ sym (entry-entry c w v u)

-- the steps of every monoid but list may change places
pub step-comm : (m : Monoid) → m ≢ of list → Commuting (step ordered m)
unfolding step ordered against as_int as_bool
step-comm (of list) n v w u = absurd (n refl)
step-comm (of bag) n v w u = entry-comm bag (insert_comm le_v V-total) v w u
step-comm (of set) n v w u = entry-comm set (put-comm le_v V-total) v w u
step-comm sum n v w u = ap num (sum-left-comm (as_int v) (as_int w) (as_int u))
step-comm max n v w u = ap num (against-comm at_most Z-total greater greater-first greater-second (as_int v) (as_int w) u)
step-comm min n v w u = ap num (against-comm (λ a b. at_most b a) Z-opposite lesser lesser-first lesser-second (as_int v) (as_int w) u)
step-comm some n v w u = ap truth (or-left-comm (as_bool v) (as_bool w) (as_bool u))
step-comm all n v w u = ap truth (and-left-comm (as_bool v) (as_bool w) (as_bool u))

-- those of set, max, min, some and all may be made twice
pub step-idem : (m : Monoid) → seen_as m ≡ set → Idempotent (step ordered m)
unfolding step ordered seen_as against as_int as_bool
step-idem (of list) e v u = cc
step-idem (of bag) e v u = cc
step-idem (of set) e v u = entry-entry set v v u ∙ ap (λ l. coll (from_list l)) (put-idem le_v V-total v (elems u))
step-idem sum e v u = cc
step-idem max e v u = ap num (against-idem at_most Z-total greater greater-first greater-second (as_int v) u)
step-idem min e v u = ap num (against-idem (λ a b. at_most b a) Z-opposite lesser lesser-first lesser-second (as_int v) u)
step-idem some e v u = ap truth (or_self_left (as_bool v) (as_bool u))
step-idem all e v u = ap truth (and_self_left (as_bool v) (as_bool u))

-- Every monoid but list gives the same value for every order of its heads.
pub order-unseen : (m : Monoid) → m ≢ of list → {l n : List Value} → Rearranged l n → canonical m l ≡ canonical m n
unfolding canonical
order-unseen m h {l} {n} r = fold-foldr ordered m l ∙ ap (finish m) (fold-rearranged (step ordered m) (step-comm m h) (start m) r) ∙ sym (fold-foldr ordered m n)

not-list : (m : Monoid) → seen_as m ≡ set → m ≢ of list
unfolding seen_as
not-list m h e = let p : list ≡ set = sym (ap seen_as e) ∙ h in true≢false (cc)

-- Set, max, min, some and all give the same value however often each head stands.
pub repeats-unseen : (m : Monoid) → seen_as m ≡ set → {l n : List Value} → Repeated l n → canonical m l ≡ canonical m n
unfolding canonical
repeats-unseen m h {l} {n} r = fold-foldr ordered m l ∙ ap (finish m) (fold-repeated (step ordered m) (step-comm m (not-list m h)) (start m) (step-idem m h) r) ∙ sym (fold-foldr ordered m n)

-- A monoid gives the same value for lists of heads that it does not tell apart.
pub fold-eqv : (m : Monoid) (l n : List Value) → Eqv m l n → canonical m l ≡ canonical m n
unfolding seen_as
fold-eqv m l n h = go m (eqv-alike m l n h)
  where
    go : (m : Monoid) → Alike (seen_as m) l n → canonical m l ≡ canonical m n
    go (of list) r = ap (canonical (of list)) r
    go (of bag) r = order-unseen (of bag) (λ e. true≢false (cc)) r
    go (of set) r = repeats-unseen (of set) refl r
    go sum r = order-unseen sum (λ e. true≢false (cc)) r
    go max r = repeats-unseen max refl r
    go min r = repeats-unseen min refl r
    go some r = repeats-unseen some refl r
    go all r = repeats-unseen all refl r

foldr-cons : {A : Type 0} (l : List A) → foldr ◌∷◌ [] l ≡ l
foldr-cons [] = refl
foldr-cons (a ∷ l) = ap (λ m. a ∷ m) (foldr-cons l)

-- a collection is the list of what each entry makes of the ones behind it
pub fold-of : (E : Entry) (c : Collection) (l : List Value) → fold_by E (of c) l ≡ coll (from_list (foldr (E c) [] l))
unfolding fold_by total finish start step elems
fold-of E c [] = refl
fold-of E c (v ∷ l) = ap (step E (of c) v) (fold-of E c l) ∙ ap (λ m. coll (from_list (E c v m))) (to-from (foldr (E c) [] l))

-- The canonical collection is the list of heads, for a bag sorted, for a set sorted without repeats.
pub canonical-of : (c : Collection) (l : List Value) → canonical (of c) l ≡ coll (from_list (arranged c l))
unfolding canonical
canonical-of c l = fold-of ordered c l ∙ ap (λ m. coll (from_list m)) (go c)
  where
    go : (c : Collection) → foldr (ordered c) [] l ≡ arranged c l
    go list = unfold ordered arranged in foldr-cons l
    go bag = unfold ordered arranged sort in refl
    go set = unfold ordered arranged sort_distinct in refl

pub elems-of : (c : Collection) (l : List Value) → elems (canonical (of c) l) ≡ arranged c l
unfolding elems
elems-of c l = ap elems (canonical-of c l) ∙ to-from (arranged c l)

-- The raw collection is the list of heads.
pub raw_of : (c : Collection) (l : List Value) → raw (of c) l ≡ coll (from_list l)
unfolding raw
raw_of c l = fold-of (λ d v m. v ∷ m) c l ∙ ap (λ m. coll (from_list m)) (foldr-cons l)

-- The raw and the canonical value of a sum, max, min, some and all are the same.
pub raw-canonical : (m : Monoid) → ((c : Collection) → m ≢ of c) → (l : List Value) → raw m l ≡ canonical m l
unfolding raw canonical fold_by total
raw-canonical m h l = ap (finish m) (totals l)
  where
    go : (m : Monoid) → ((c : Collection) → m ≢ of c) → (v w : Value) → step (λ c x n. x ∷ n) m v w ≡ step ordered m v w
    go (of c) k v w = absurd (k c refl)
    go sum k v w = unfold step in refl
    go max k v w = unfold step in refl
    go min k v w = unfold step in refl
    go some k v w = unfold step in refl
    go all k v w = unfold step in refl

    totals : (l : List Value) → total (λ c x n. x ∷ n) m l ≡ total ordered m l
    totals [] = refl
    totals (v ∷ l) = go m h v (total (λ c x n. x ∷ n) m l) ∙ ap (step ordered m v) (totals l)

-- as many copies as there are heads that hold are as good as one, where some holds
pub some-repeated : {A : Type 0} (l : List Value) (X : List A) → Repeated (bind_l l (λ u. guard (as_bool u) X)) (guard (as_bool (canonical some l)) X)
unfolding bind_l guard canonical fold_by total finish start step as_bool
some-repeated [] X = reorder nil
some-repeated (u ∷ l) X = go (as_bool u) (as_bool (fold_by ordered some l)) (some-repeated l X)
  where
    go : (b c : Bool) → Repeated (bind_l l (λ v. guard (as_bool v) X)) (guard c X) → Repeated (guard b X ++ bind_l l (λ v. guard (as_bool v) X)) (guard (b || c) X)
    go true true r = chain (repeated-right X r) (simp append-nil at (repeated-twice X []))
    go true false r = chain (repeated-right X r) (reorder (rearranged-path (append-nil X)))
    go false c r = r

pub repeats-eqv : (M : Monoid) → seen_as M ≡ set → (l X : List Value) → Eqv M (bind_l l (λ u. guard (as_bool u) X)) (guard (as_bool (canonical some l)) X)
repeats-eqv M h l X = alike-eqv M (bind_l l (λ u. guard (as_bool u) X)) (guard (as_bool (canonical some l)) X) (subst (λ c. Alike c (bind_l l (λ u. guard (as_bool u) X)) (guard (as_bool (canonical some l)) X)) (sym h) (some-repeated l X))
