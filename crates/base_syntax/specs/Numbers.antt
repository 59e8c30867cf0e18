-- Operators, monoids and constants as numbers: an operator's in a form word, a monoid's own of document 01, the three bits that a form
-- word keeps of that, and a constant's distance from -2^31.
use Rattle.std.specs.Prelude.{◌≡◌, List, [], ◌∷◌, true, false, ℕ, zero, suc, ◌-◌, ◌%◌, ◌<◌, ltb, ℤ, pos, negsuc, get_or}
use Rattle.spec_calendar.specs.Hours.{Calendar}
use Rattle.spec_calculus.specs.Lending.{unlent}
use Rattle.spec_calculus.specs.Syntax.{list, bag, set, of, sum, max, min, some, all, Bin, plus, minus, times, equal, less, and, or, choice, is_open}
use Rattle.spec_calculus.specs.Syntax as Sy
use Rattle.base_syntax.specs.declared.BinOp.{BinOp}
use Rattle.base_syntax.specs.declared.BinOp.TheVariants.{Plus, Minus, Times, Equal, Less, And, Or}
use Rattle.base_syntax.specs.declared.Fun.{Fun}
use Rattle.base_syntax.specs.declared.Fun.TheVariants.{Choice, Open}
use Rattle.base_syntax.specs.declared.Monoid.{Monoid}
use Rattle.base_syntax.specs.declared.Monoid.TheVariants as Mo
use Rattle.base_syntax.specs.MonoidWord.{monoid_of}

-- the operator that each case of the enum is
abbrev pub bin_of : BinOp → Bin
bin_of Plus = plus
bin_of Minus = minus
bin_of Times = times
bin_of Equal = equal
bin_of Less = less
bin_of And = and
bin_of Or = or

abbrev pub op_arg : Bin → ℕ
op_arg plus = 0
op_arg minus = 1
op_arg times = 2
op_arg equal = 3
op_arg less = 4
op_arg and = 5
op_arg or = 6

abbrev pub operators : List BinOp
operators = Plus ∷ Minus ∷ Times ∷ Equal ∷ Less ∷ And ∷ Or ∷ []

abbrev pub op_at : ℕ → BinOp
op_at a = get_or operators a Plus

-- A number is kept, in a question's words and in a form's, as its distance from -2^31 (OFFSET in the code).
abbrev pub constant_of : ℕ → ℤ
constant_of a = elim (ltb a 0x80000000) [ true ↦ negsuc (0x7fffffff - a) | false ↦ pos (a - 0x80000000) ]

-- document 02's operators, as they are read, and with K the calendar of each number
abbrev pub fun_of : Fun → Sy.Fun
fun_of Choice = choice
fun_of (Open n) = unlent n

abbrev pub lent_of : (ℕ → Calendar) → Fun → Sy.Fun
lent_of K Choice = choice
lent_of K (Open n) = is_open n (K n)

-- a calendar's number is a byte
abbrev pub fun_arg : Sy.Fun → ℕ
fun_arg choice = 0
fun_arg (is_open n c) = suc (n % 256)

abbrev pub fun_at : ℕ → Fun
fun_at zero = Choice
fun_at (suc a) = Open (a % 256)

-- an operator whose number is such a byte, and whose calendar is the one of its number
abbrev pub FitsOp : Sy.Fun → Type 0
FitsOp choice = Unit {0}
FitsOp (is_open n c) = n < 256

abbrev pub LentOp : (ℕ → Calendar) → Sy.Fun → Type 0
LentOp K choice = Unit {0}
LentOp K (is_open n c) = c ≡ K n

-- "1 list, 2 bag, 3 set ..; 4 sum ..; 5 max ..; 6 some ..; 7 all"; "monoid 8, min" (document 02, E1)
abbrev pub monoid_number : Sy.Monoid → ℕ
monoid_number (of list) = 1
monoid_number (of bag) = 2
monoid_number (of set) = 3
monoid_number sum = 4
monoid_number max = 5
monoid_number some = 6
monoid_number all = 7
monoid_number min = 8

abbrev pub monoid_code : Monoid → ℕ
monoid_code m = monoid_number (monoid_of m)

abbrev pub monoids : List Monoid
monoids = Mo.List ∷ Mo.List ∷ Mo.Bag ∷ Mo.Set ∷ Mo.Sum ∷ Mo.Max ∷ Mo.Some ∷ Mo.All ∷ Mo.Min ∷ []

abbrev pub monoid_numbered : ℕ → Monoid
monoid_numbered n = get_or monoids n Mo.List

-- three bits: the 8 of min is 0 there
abbrev pub monoid_arg : Sy.Monoid → ℕ
monoid_arg m = monoid_number m % 8

abbrev pub monoid_at : ℕ → Monoid
monoid_at zero = Mo.Min
monoid_at (suc b) = monoid_numbered (suc b)
