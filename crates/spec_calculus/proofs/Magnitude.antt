-- Magnitudes of whole numbers: what plus, minus, times and the greater of two can come to. Stated in ℕ, which `omega` reads.
use mathlib.Core.Bool.{Bool, true, false, cond}
use Prim.Native.Nat.{ℕ, zero, suc, ◌+◌, ◌-◌, ◌*◌, ◌≤◌}
use native.Mathlib.Nat.{le_refl}
use native.Mathlib.Omega.{arith}
use lib.Dec.{ltb}
use lib.IntN.{ℤ, pos, negsuc, neg_ℤ, nat_abs, ◌+ℤ◌, ◌-ℤ◌, ◌*ℤ◌}
use lib.Signed.{lt_z}
use Rattle.spec_calculus.specs.Lists.{pick}
use Rattle.spec_calculus.specs.Value.{Value, num, truth, rec, coll, as_int}
use Rattle.spec_calculus.specs.Monoid.{greater, lesser, against}

abs-cond : (t : Bool) (x y m : ℕ) → suc x ≤ m → y ≤ m → nat_abs (cond t (negsuc x) (pos y)) ≤ m
abs-cond true x y m p q = p
abs-cond false x y m p q = q

pub abs-plus : (a b : ℤ) → nat_abs (a +ℤ b) ≤ nat_abs a + nat_abs b
abs-plus (pos a) (pos b) = omega arith
abs-plus (pos a) (negsuc b) = abs-cond (ltb a (suc b)) (suc b - suc a) (a - suc b) (a + suc b) (omega arith) (omega arith)
abs-plus (negsuc a) (pos b) = abs-cond (ltb b (suc a)) (suc a - suc b) (b - suc a) (suc a + b) (omega arith) (omega arith)
abs-plus (negsuc a) (negsuc b) = omega arith

pub abs_neg : (a : ℤ) → nat_abs (neg_ℤ a) ≤ nat_abs a
abs_neg (pos zero) = omega arith
abs_neg (pos (suc n)) = omega arith
abs_neg (negsuc n) = omega arith

pub abs-minus : (a b : ℤ) → nat_abs (a -ℤ b) ≤ nat_abs a + nat_abs b
abs-minus a b = omega (arith, abs-plus a (neg_ℤ b), abs_neg b)

pub abs-times : (a b : ℤ) → nat_abs (a *ℤ b) ≤ nat_abs a * nat_abs b
abs-times (pos a) (pos b) = le_refl (a * b)
abs-times (pos a) (negsuc b) = abs_neg (pos (a * suc b))
abs-times (negsuc a) (pos b) = abs_neg (pos (suc a * b))
abs-times (negsuc a) (negsuc b) = le_refl (suc a * suc b)

pub abs-pick : (t : Bool) (a b : ℤ) (m : ℕ) → nat_abs a ≤ m → nat_abs b ≤ m → nat_abs (pick t a b) ≤ m
unfolding pick
abs-pick true a b m p q = p
abs-pick false a b m p q = q

pub abs-greater : (a b : ℤ) (m : ℕ) → nat_abs a ≤ m → nat_abs b ≤ m → nat_abs (greater a b) ≤ m
unfolding greater
abs-greater a b m p q = abs-pick (lt_z a b) b a m q p

pub abs-lesser : (a b : ℤ) (m : ℕ) → nat_abs a ≤ m → nat_abs b ≤ m → nat_abs (lesser a b) ≤ m
unfolding lesser
abs-lesser a b m p q = abs-pick (lt_z b a) b a m q p

-- a head's number against what max or min has so far
pub abs-against : (op : ℤ → ℤ → ℤ) → ((a b : ℤ) (m : ℕ) → nat_abs a ≤ m → nat_abs b ≤ m → nat_abs (op a b) ≤ m) → (a : ℤ) (w : Value) (m : ℕ) → nat_abs a ≤ m → nat_abs (as_int w) ≤ m → nat_abs (against op a w) ≤ m
unfolding against as_int
abs-against op h a (num z) m p q = h a z m p q
abs-against op h a (truth t) m p q = p
abs-against op h a (rec vs) m p q = p
abs-against op h a (coll vs) m p q = p
