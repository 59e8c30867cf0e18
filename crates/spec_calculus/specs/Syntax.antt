-- What is asked: the terms, monoids and qualifiers that document 01's records of kinds 1 to 18, and document 02's of kinds 19 and 21, stand for.
use Rattle.std.specs.Prelude.{ℕ, Bool, ℤ}
use Rattle.spec_calendar.specs.Hours.{Calendar}

-- "1 list, 2 bag, 3 set": the collection of a table, and of the first three monoids
pub data Collection : Type 0 where
  list bag set : Collection

-- "1 list, 2 bag, 3 set (empty); 4 sum (0); 5 max (0 ..); 6 some (false); 7 all (true)"; "monoid 8, min" (document 02, E1)
pub data Monoid : Type 0 where
  of : Collection → Monoid
  sum max min some all : Monoid

-- "6 plus, 7 minus, 8 times, 9 equal, 10 less, 11 and, 12 or (two terms each)"
pub data Bin : Type 0 where
  plus minus times equal less and or : Bin

-- the operators that document 02 adds, and how many terms each has: "Add kind 19, three terms" (E2); "Kind 21 holds one byte of calendar and one number term"
-- (E4): the calendar's number, and the calendar of that number as it is lent
pub data Fun : Type 0 where
  choice : Fun
  is_open : ℕ → Calendar → Fun

unfoldable pub arity : Fun → ℕ
arity choice = 3
arity (is_open n c) = 1

-- terms, and "kind 14 is one byte of monoid, any count of qualifiers, then one head term"
mutual
  pub data Term : Type 0 where
    num : ℤ → Term
    truth : Bool → Term
    name : ℕ → Term
    field : ℕ → Term → Term
    rec : Terms → Term
    bin : Bin → Term → Term → Term
    negate : Term → Term  -- "13 not"
    app : Fun → Terms → Term  -- document 02's operators
    comp : Monoid → Quals → Term → Term
    table : ℕ → Term

  pub data Terms : Type 0 where
    tnil : Terms
    tcons : Term → Terms → Terms

  -- "16 generator (2-byte name, term), 17 binding (2-byte name, term), 18 condition (term)"
  pub data Quals : Type 0 where
    qnil : Quals
    gen : ℕ → Term → Quals → Quals
    bind : ℕ → Term → Quals → Quals
    cond : Term → Quals → Quals

-- "A question is one record of kind 14."
pub record Question : Type 0 where
  pub monoid : Monoid
  pub quals : Quals
  pub head : Term

abbrev pub as_term : Question → Term
as_term q = comp q.monoid q.quals q.head
