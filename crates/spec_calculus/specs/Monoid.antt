-- "Each monoid's start and its combining step belong to the monoid's own type."
use Rattle.std.specs.Prelude.{List, [], ◌∷◌, true, false, ◌&&◌, ◌||◌, ℤ, pos, ◌+ℤ◌}
use Rattle.std.specs.Int.Signed.{lt_z}
use Rattle.spec_calculus.specs.Lists.{pick}
use Rattle.spec_calculus.specs.Syntax.{Collection, list, bag, set, Monoid, of, sum, max, min, some, all}
use Rattle.spec_calculus.specs.Value.{Value, num, truth, rec, coll, vnil, from_list, as_int, as_bool, elems}
use Rattle.spec_calculus.specs.Order.{le_v, insert, put}

-- what max and min have before their first head: no number, so it reads as 0
abbrev pub none : Value
none = rec vnil

-- What a monoid has before its first head. "1 list, 2 bag, 3 set (empty); 4 sum (0); .. 6 some (false); 7 all (true)"
unfoldable pub start : Monoid → Value
start (of c) = coll vnil
start sum = num (pos 0)
start max = none
start min = none
start some = truth false
start all = truth true

unfoldable pub greater : ℤ → ℤ → ℤ
greater a b = pick (lt_z a b) b a

unfoldable pub lesser : ℤ → ℤ → ℤ
lesser a b = pick (lt_z b a) b a

-- a head's number against the number so far; alone where there is none
unfoldable pub against : (ℤ → ℤ → ℤ) → ℤ → Value → ℤ
against op a (num z) = op a z
against op a (truth b) = a
against op a (rec vs) = a
against op a (coll vs) = a

-- how one more element in front enters a collection
abbrev pub Entry : Type 0
Entry = Collection → Value → List Value → List Value

-- the combining step: one more head in front of what there is so far
unfoldable pub step : Entry → Monoid → Value → Value → Value
step E (of c) v w = coll (from_list (E c v (elems w)))
step E sum v w = num (as_int v +ℤ as_int w)
step E max v w = num (against greater (as_int v) w)
step E min v w = num (against lesser (as_int v) w)
step E some v w = truth (as_bool v || as_bool w)
step E all v w = truth (as_bool v && as_bool w)

-- a monoid over a list of heads
abbrev pub Fold : Type 0
Fold = Monoid → List Value → Value

unfoldable pub total : Entry → Fold
total E m [] = start m
total E m (v ∷ l) = step E m v (total E m l)

-- What the heads come to. "From now on max over at least one qualifying row is the greatest head; over none it is 0.", and "min, with
-- the mirrored rule" (document 02, E1)
unfoldable pub finish : Monoid → Value → Value
finish (of c) w = w
finish sum w = w
finish max w = num (as_int w)
finish min w = num (as_int w)
finish some w = w
finish all w = w

unfoldable pub fold_by : Entry → Fold
fold_by E m l = finish m (total E m l)

-- "A bag is written ascending, a set ascending without repeats." So equal bags and equal sets are equal values.
unfoldable pub ordered : Entry
ordered list v l = v ∷ l
ordered bag v l = insert le_v v l
ordered set v l = put le_v v l

unfoldable pub canonical : Fold
canonical = fold_by ordered

-- every collection in the order of the loops, with its repeats
unfoldable pub raw : Fold
raw = fold_by (λ c v l. v ∷ l)
