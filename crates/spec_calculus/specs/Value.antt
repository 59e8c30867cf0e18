-- Values, and the tables that a question ranges over.
use Rattle.std.specs.Prelude.{List, [], ◌∷◌, ℕ, zero, suc, eqb, leb, ℤ, pos, negsuc, ◌+ℤ◌, ◌-ℤ◌, ◌*ℤ◌, get_or, replicate}
use mathlib.Core.Bool.{Bool, false, ◌&&◌, ◌||◌}
use Rattle.std.specs.Int.Signed.{lt_z}
use Rattle.spec_calendar.specs.Hours.{open_at}
use Rattle.spec_calculus.specs.Lists.{pick}
use Rattle.spec_calculus.specs.Syntax.{Collection, list, Bin, plus, minus, times, equal, less, and, or, Fun, choice, is_open}

-- "Meaning is over unbounded whole numbers."
mutual
  pub data Value : Type 0 where
    num : ℤ → Value
    truth : Bool → Value
    rec : Values → Value
    coll : Values → Value

  pub data Values : Type 0 where
    vnil : Values
    vcons : Value → Values → Values

abbrev pub to_list : Values → List Value
to_list vnil = []
to_list (vcons v vs) = v ∷ to_list vs

abbrev pub from_list : List Value → Values
from_list [] = vnil
from_list (v ∷ l) = vcons v (from_list l)

unfoldable pub count : Values → ℕ
count vnil = 0
count (vcons v vs) = suc (count vs)

-- A value read as a number, a truth, a collection or a record. What refusal 25 rules out reads as 0, false, nothing, 0.
abbrev pub junk : Value
junk = num (pos 0)

unfoldable pub as_int : Value → ℤ
as_int (num z) = z
as_int (truth b) = pos 0
as_int (rec vs) = pos 0
as_int (coll vs) = pos 0

unfoldable pub as_bool : Value → Bool
as_bool (num z) = false
as_bool (truth b) = b
as_bool (rec vs) = false
as_bool (coll vs) = false

unfoldable pub elems : Value → List Value
elems (num z) = []
elems (truth b) = []
elems (rec vs) = []
elems (coll vs) = to_list vs

unfoldable pub nth : ℕ → Values → Value
nth i vnil = junk
nth zero (vcons v vs) = v
nth (suc i) (vcons v vs) = nth i vs

unfoldable pub field_of : ℕ → Value → Value
field_of i (num z) = junk
field_of i (truth b) = junk
field_of i (rec vs) = nth i vs
field_of i (coll vs) = junk

unfoldable pub eq_z : ℤ → ℤ → Bool
eq_z (pos a) (pos b) = eqb a b
eq_z (pos a) (negsuc b) = false
eq_z (negsuc a) (pos b) = false
eq_z (negsuc a) (negsuc b) = eqb a b

-- the two-term operators
unfoldable pub bin_v : Bin → Value → Value → Value
bin_v plus v w = num (as_int v +ℤ as_int w)
bin_v minus v w = num (as_int v -ℤ as_int w)
bin_v times v w = num (as_int v *ℤ as_int w)
bin_v equal v w = truth (eq_z (as_int v) (as_int w))
bin_v less v w = truth (lt_z (as_int v) (as_int w))
bin_v and v w = truth (as_bool v && as_bool w)
bin_v or v w = truth (as_bool v || as_bool w)

unfoldable pub not_v : Value → Value
not_v v = truth (mathlib.Core.Bool.not (as_bool v))

-- A number or a truth is itself; what refusal 25 rules out reads as 0.
unfoldable pub scalar : Value → Value
scalar (num z) = num z
scalar (truth b) = truth b
scalar (rec vs) = junk
scalar (coll vs) = junk

-- "a truth, then two numbers or two truths, meaning the first of the two where the truth is true and else the second" (document 02, E2)
unfoldable pub choice_v : Value → Value → Value → Value
choice_v c v w = scalar (pick (as_bool c) v w)

-- document 02's operators, over the values of their terms
unfoldable pub app_v : Fun → Values → Value
app_v choice vs = choice_v (nth 0 vs) (nth 1 vs) (nth 2 vs)
app_v (is_open n c) vs = truth (open_at c (as_int (nth 0 vs)))  -- "true when that minute lies in a window of its weekday" (E4)

-- "A table is .. one byte of collection .., one byte of columns .., rows .., then the cells row by row": each row a record. "Between its row count
-- and its cells a table record now holds one .. bound per column" (document 02, E5)
pub record Table : Type 0 where
  pub kind : Collection
  pub columns : ℕ
  pub bounds : List ℕ
  pub rows : List Value

-- "The number is written as one byte, 0 to 7"; "numbers may be skipped" (document 02, E9): each table at its number, and where no record has that number
-- a table without columns and rows
abbrev pub Tables : Type 0
Tables = List Table

abbrev pub no_table : Table
no_table = record { kind = list; columns = 0; bounds = []; rows = [] }

-- each of the eight numbers is absent
abbrev pub no_tables : Tables
no_tables = replicate 8 no_table

unfoldable pub kind_of : Tables → ℕ → Collection
kind_of T k = (get_or T k no_table).kind

unfoldable pub columns_of : Tables → ℕ → ℕ
columns_of T k = (get_or T k no_table).columns

-- whether there is a table k, which has "columns (1 to 8)": "naming an absent number is 25" (document 02, E9)
unfoldable pub is_there : Tables → ℕ → Bool
is_there T k = leb 1 (columns_of T k)

-- the bound that column i of table k declares
unfoldable pub bound_of : Tables → ℕ → ℕ → ℕ
bound_of T k i = get_or (get_or T k no_table).bounds i 0

unfoldable pub rows_of : Tables → ℕ → List Value
rows_of T k = (get_or T k no_table).rows
