-- How each form stands as a condition.
use Rattle.std.specs.Prelude.{◌≡◌, Bool, true, false, ℕ}
use Rattle.spec_normal_form.specs.Normal.{gives_way}
use Rattle.base_syntax.specs.MonoidWord.{monoid_of}
use Rattle.base_syntax.specs.declared.Monoid.{Monoid}
use Rattle.base_syntax.specs.declared.Monoid.TheVariants as Mo
use Rattle.base_syntax.specs.declared.BinOp.{BinOp}
use Rattle.front_resolve.specs.declared.Form.{Form}
use Rattle.front_resolve.specs.declared.Form.TheVariants.{Number, Truth, Row, Cell, Record, Two, Not, Comp, Table, Operator, Bad}
use Rattle.front_emit.specs.declared.Split.{Split}
use Rattle.front_emit.specs.declared.Split.TheVariants.{And, Some, One}

-- one condition: neither an "and" nor a comprehension that gives way
abbrev pub Single : Form → Bool → Type 0
Single (Number z) v = Unit {0}
Single (Truth b) v = Unit {0}
Single (Row g) v = Unit {0}
Single (Cell k g) v = Unit {0}
Single Record v = Unit {0}
Single (Two o a b) v = o ≡ BinOp.And → ⊥
Single (Not c) v = Unit {0}
Single (Comp m k) v = gives_way (monoid_of m) v ≡ false
Single (Table k) v = Unit {0}
Single (Operator f) v = Unit {0}
Single Bad v = Unit {0}

abbrev pub SplitIs : Form → Bool → Split → Type 0
SplitIs f v (And a b) = f ≡ Two BinOp.And a b
SplitIs f v (Some k) = (f ≡ Comp Mo.Some k) × (v ≡ true)
SplitIs f v One = Single f v

pub record SplitOfPost (f : Form) (v : Bool) (r : Split) : Type 0 where
  pub is : SplitIs f v r

-- a comprehension of m
pub record IsComp (m : Monoid) (f : Form) : Type 0 where
  pub head : ℕ
  pub is : f ≡ Comp m head
