-- A table of n rows has 2^n subsets, and the two counts add up to them.
use mathlib.Core.Path.{◌≡◌, refl, sym, ap, ◌∙◌}
use mathlib.Core.List.{List, [], ◌∷◌, map}
use mathlib.Core.Bool.{Bool, true, false, not}
use Prim.Native.Nat.{ℕ, suc, ◌+◌, ◌*◌, ◌^◌}
use native.Mathlib.Nat.{pow-succ'}
use native.Mathlib.Omega.{arith}
use lib.ListN.{length}
use Rattle.spec_calculus.specs.Lists.{bind_l}
use Rattle.spec_calculus.specs.Value.{Tables, rows_of}
use Rattle.spec_calculus.specs.Syntax.{Question}
use Rattle.spec_outages.specs.Outages.{subsets, verdicts, trues, falses}

pair-length : {A B : Type 0} (l : List A) (f g : A → B) → length (bind_l l (λ a. f a ∷ g a ∷ [])) ≡ 2 * length l
unfolding bind_l
pair-length [] f g = refl
pair-length (a ∷ l) f g = omega (arith, pair-length l f g)

pub subsets-count : {A : Type 0} (l : List A) → length (subsets l) ≡ 2 ^ length l
unfolding subsets
subsets-count [] = refl
subsets-count (a ∷ l) = pair-length (subsets l) (λ S. a ∷ S) (λ S. S) ∙ ap (λ (n : ℕ). 2 * n) (subsets-count l) ∙ sym (pow-succ' 2 (length l))

map-length : {A B : Type 0} (f : A → B) (l : List A) → length (map f l) ≡ length l
map-length f [] = refl
map-length f (a ∷ l) = ap suc (map-length f l)

pub counts_all : (l : List Bool) → trues l + falses l ≡ length l
unfolding trues
counts_all [] = refl
counts_all (true ∷ l) = omega (arith, counts_all l)
counts_all (false ∷ l) = omega (arith, counts_all l)

-- "The counts" of a table of n rows add up to 2^n.
pub verdicts-count : (T : Tables) (k : ℕ) (q : Question) → trues (verdicts T k q) + falses (verdicts T k q) ≡ 2 ^ length (rows_of T k)
unfolding verdicts
verdicts-count T k q = counts_all (verdicts T k q) ∙ map-length _ (subsets (rows_of T k)) ∙ subsets-count (rows_of T k)
