-- Plans as data. "A plan holds no question inside a question where no condition or head in it has a comprehension, a name
-- or a table": here none can be written.
use Rattle.std.specs.Prelude.{List, Bool, ℕ, ℤ}
use Rattle.spec_calculus.specs.Syntax.{Monoid, Bin, Fun}

-- terms over the places of a row
mutual
  pub data PTerm : Type 0 where
    pnum : ℤ → PTerm
    ptruth : Bool → PTerm
    place : ℕ → PTerm  -- "$n is place n"
    pfield : ℕ → PTerm → PTerm
    prec : PTerms → PTerm
    pbin : Bin → PTerm → PTerm → PTerm
    pnegate : PTerm → PTerm
    papp : Fun → PTerms → PTerm

  pub data PTerms : Type 0 where
    pnil : PTerms
    pcons : PTerm → PTerms → PTerms

-- "table (or unit)"
pub data Source : Type 0 where
  table : ℕ → Source
  unit : Source

-- "join and outer give table (or unit) and condition; nest gives k, monoid, head, condition"
pub data Op : Type 0 where
  join : Source → PTerm → Op
  outer : Source → PTerm → Op
  nest : ℕ → Monoid → PTerm → PTerm → Op

-- "A plan starts with one", then its operators, then "reduce the last three": monoid, head, condition
pub data Plan : Type 0 where
  plan : List Op → Monoid → PTerm → PTerm → Plan
