-- A monoid as the engine has it, and the one word that is kept of its value while it runs. That is the number
-- itself, for max and min "nothing yet" before it, the truth as 0 or 1, or how many heads a collection was made of: equal heads of a set all count.
use Rattle.std.specs.Prelude.{Bool, true, false, ℕ, ◌+◌, ◌^◌, ℤ, pos, ◌+ℤ◌}
use Rattle.std.specs.Int.Signed.{lt_z}
use Rattle.spec_calculus.specs.Lists.{pick}
use Rattle.spec_calculus.specs.Syntax.{list, bag, set, of, sum, max, min, some, all}
use Rattle.spec_calculus.specs.Syntax as Sy
use Rattle.spec_calculus.specs.Value.{Value, num, truth, rec, coll, count, eq_z}
use Rattle.base_syntax.specs.declared.Monoid.{Monoid}
use Rattle.base_syntax.specs.declared.Monoid.TheVariants.{List, Bag, Set, Sum, Max, Some, All, Min}
use Rattle.base_signed.specs.Limit.{number_limit, bump_to}

-- the monoid that each case of the enum is
abbrev pub monoid_of : Monoid → Sy.Monoid
monoid_of List = of list
monoid_of Bag = of bag
monoid_of Set = of set
monoid_of Sum = sum
monoid_of Max = max
monoid_of Some = some
monoid_of All = all
monoid_of Min = min

-- a value as one word: the first of its written form; a record is never kept so (what max and min start with: `so_far_word`)
abbrev pub first_word : Value → ℤ
first_word (num z) = z
first_word (truth false) = pos 0
first_word (truth true) = pos 1
first_word (rec vs) = pos 0
first_word (coll vs) = pos (count vs)

-- "Nothing yet", for max and min: no head has this word, since all are within 2^62 (28).
abbrev pub none_word : ℤ
none_word = pos (2 ^ 62 + 1)

unfoldable pub zero_word : Sy.Monoid → ℤ
zero_word (of c) = pos 0
zero_word sum = pos 0
zero_word max = none_word
zero_word min = none_word
zero_word some = pos 0
zero_word all = pos 1

-- of two words the second where the test says so, else the first; where one is "nothing yet", the other
unfoldable pub chosen : ℤ → ℤ → Bool → ℤ
chosen a b t = pick (eq_z a none_word) b (pick (eq_z b none_word) a (pick t b a))

unfoldable pub merge_word : Sy.Monoid → ℤ → ℤ → ℤ
merge_word (of c) a b = a +ℤ b
merge_word sum a b = a +ℤ b
merge_word max a b = chosen a b (lt_z a b)
merge_word min a b = chosen a b (lt_z b a)
merge_word some a b = pick (eq_z a (pos 0)) b a
merge_word all a b = pick (eq_z a (pos 0)) a b

-- the value's word, once no head is left: "over none it is 0"
unfoldable pub finish_word : Sy.Monoid → ℤ → ℤ
finish_word (of c) a = a
finish_word sum a = a
finish_word max a = pick (eq_z a none_word) (pos 0) a
finish_word min a = pick (eq_z a none_word) (pos 0) a
finish_word some a = a
finish_word all a = a

-- the word that one head brings: an element counts 1
unfoldable pub head_word : Sy.Monoid → Value → ℤ
head_word (of c) v = pos 1
head_word sum v = first_word v
head_word max v = first_word v
head_word min v = first_word v
head_word some v = first_word v
head_word all v = first_word v

-- the word of what max or min has so far: its number, or "nothing yet"
unfoldable pub so_far_word : Value → ℤ
so_far_word (num a) = a
so_far_word (truth b) = none_word
so_far_word (rec vs) = none_word
so_far_word (coll vs) = none_word

-- a collection's count with one more head; from 2^62 on it stays
abbrev pub one_more : ℕ → ℕ
one_more n = bump_to number_limit n
