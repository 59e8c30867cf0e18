-- A number that was written is read back; every other is the first.
use mathlib.Core.Path.{◌≡◌, refl, sym, ap, ◌∙◌}
use Prim.Native.Nat.{ℕ, zero, suc, ◌-◌, ◌%◌}
use native.Mathlib.Omega.{arith}
use lib.ListN.{get_or-eq_default}
use Rattle.spec_calendar.specs.Hours.{Calendar}
use Rattle.spec_calculus.specs.Syntax.{list, bag, set, of, sum, max, min, some, all, Bin, plus, minus, times, equal, less, and, or, choice, is_open}
use Rattle.spec_calculus.specs.Syntax as Sy
use Rattle.base_syntax.specs.declared.BinOp.TheVariants.{Plus}
use Rattle.base_syntax.specs.declared.Fun.{Fun}
use Rattle.base_syntax.specs.declared.Fun.TheVariants.{Choice, Open}
use Rattle.base_syntax.specs.declared.Monoid.TheVariants as Mo
use Rattle.base_syntax.specs.MonoidWord.{monoid_of}
use Rattle.base_syntax.specs.Numbers.{bin_of, op_arg, operators, op_at, fun_of, lent_of, fun_arg, fun_at, FitsOp, LentOp, monoid_number, monoid_numbered, monoid_arg, monoid_at}

pub op-back : (o : Bin) → bin_of (op_at (op_arg o)) ≡ o
op-back plus = refl
op-back minus = refl
op-back times = refl
op-back equal = refl
op-back less = refl
op-back and = refl
op-back or = refl

pub fun-back : (K : ℕ → Calendar) (f : Sy.Fun) → FitsOp f → LentOp K f → lent_of K (fun_at (fun_arg f)) ≡ f
fun-back K choice w h = refl
fun-back K (is_open n c) w h = let e : n % 256 % 256 ≡ n = omega (arith, w) in ap (λ m. is_open m (K m)) e ∙ ap (is_open n) (sym h)

pub number-back : (m : Sy.Monoid) → monoid_of (monoid_numbered (monoid_number m)) ≡ m
number-back (of list) = refl
number-back (of bag) = refl
number-back (of set) = refl
number-back sum = refl
number-back max = refl
number-back min = refl
number-back some = refl
number-back all = refl

pub monoid-back : (m : Sy.Monoid) → monoid_of (monoid_at (monoid_arg m)) ≡ m
monoid-back (of list) = refl
monoid-back (of bag) = refl
monoid-back (of set) = refl
monoid-back sum = refl
monoid-back max = refl
monoid-back min = refl
monoid-back some = refl
monoid-back all = refl

-- of each of the enum's cases
pub fun-first : (f : Fun) → f ≡ Choice → 0 ≡ fun_arg (fun_of f)
fun-first f e = sym (ap (λ x. fun_arg (fun_of x)) e)

-- numbers that a match leaves
pub op-rest : (a : ℕ) → (a ≡ 1 → ⊥) → (a ≡ 2 → ⊥) → (a ≡ 3 → ⊥) → (a ≡ 4 → ⊥) → (a ≡ 5 → ⊥) → (a ≡ 6 → ⊥) → Plus ≡ op_at a
op-rest zero n1 n2 n3 n4 n5 n6 = refl
op-rest (suc a) n1 n2 n3 n4 n5 n6 = sym (get_or-eq_default operators Plus {n = suc a} (omega arith))

pub fun-choice : (a : ℕ) → a ≡ 0 → Choice ≡ fun_at a
fun-choice zero e = refl
fun-choice (suc a) e = absurd (omega arith)

pub fun-rest : (a : ℕ) → (a ≡ 0 → ⊥) → Open ((a - 1) % 256) ≡ fun_at a
fun-rest zero n = absurd (n refl)
fun-rest (suc a) n = ap (λ x. Open (x % 256)) (let e : suc a - 1 ≡ a = omega arith in e)

pub monoid-rest : (a : ℕ) → (a ≡ 2 → ⊥) → (a ≡ 3 → ⊥) → (a ≡ 4 → ⊥) → (a ≡ 5 → ⊥) → (a ≡ 6 → ⊥) → (a ≡ 7 → ⊥) → (a ≡ 8 → ⊥) → Mo.List ≡ monoid_numbered a
monoid-rest zero n2 n3 n4 n5 n6 n7 n8 = refl
monoid-rest (suc zero) n2 n3 n4 n5 n6 n7 n8 = refl
monoid-rest (suc (suc zero)) n2 n3 n4 n5 n6 n7 n8 = absurd (n2 refl)
monoid-rest (suc (suc (suc zero))) n2 n3 n4 n5 n6 n7 n8 = absurd (n3 refl)
monoid-rest (suc (suc (suc (suc zero)))) n2 n3 n4 n5 n6 n7 n8 = absurd (n4 refl)
monoid-rest (suc (suc (suc (suc (suc zero))))) n2 n3 n4 n5 n6 n7 n8 = absurd (n5 refl)
monoid-rest (suc (suc (suc (suc (suc (suc zero)))))) n2 n3 n4 n5 n6 n7 n8 = absurd (n6 refl)
monoid-rest (suc (suc (suc (suc (suc (suc (suc zero))))))) n2 n3 n4 n5 n6 n7 n8 = absurd (n7 refl)
monoid-rest (suc (suc (suc (suc (suc (suc (suc (suc zero)))))))) n2 n3 n4 n5 n6 n7 n8 = absurd (n8 refl)
monoid-rest (suc (suc (suc (suc (suc (suc (suc (suc (suc a))))))))) n2 n3 n4 n5 n6 n7 n8 = refl

-- three bits
pub bits-min : (b : ℕ) → b ≡ 0 → Mo.Min ≡ monoid_at b
bits-min zero e = refl
bits-min (suc b) e = absurd (omega arith)

pub bits-other : (b : ℕ) → (b ≡ 0 → ⊥) → monoid_numbered b ≡ monoid_at b
bits-other zero n = absurd (n refl)
bits-other (suc b) n = refl
