-- A rule of a table holds at each entry where one test passes over all of them.
use mathlib.Core.Path.{◌≡◌, ◌∙◌, subst, sym}
use mathlib.Core.Bool.{Bool, true, false, ◌&&◌}
use mathlib.Core.List.{List, [], ◌∷◌}
use Prim.Native.Nat.{ℕ, zero, suc, ◌+◌, ◌<◌}
use native.Mathlib.Nat.{add-zero, zero-add, add-suc, suc-add, le_of_suc-le-suc, not-suc-le-zero}
use lib.Dec.{T}
use lib.ListN.{length, get_or}

left : (a b : Bool) → T (a && b) → T a
left true b t = tt
left false b t = t

right : (a b : Bool) → T (a && b) → T b
right true b t = t
right false b t = absurd t

-- the test passes at each entry with its place, counted from i
abbrev pub every : (ℕ → ℕ → Bool) → ℕ → List ℕ → Bool
every f i [] = true
every f i (x ∷ l) = f i x && every f (suc i) l

from : (f : ℕ → ℕ → Bool) (l : List ℕ) (i : ℕ) → T (every f i l) → (k : ℕ) → k < length l → T (f (i + k) (get_or l k 0))
from f [] i t k h = absurd (not-suc-le-zero h)
from f (x ∷ l) i t zero h = subst (λ (m : ℕ). T (f m x)) (sym (add-zero i)) (left (f i x) (every f (suc i) l) t)
from f (x ∷ l) i t (suc k) h =
    subst (λ (m : ℕ). T (f m (get_or l k 0))) (suc-add i k ∙ sym (add-suc i k))
    (from f l (suc i) (right (f i x) (every f (suc i) l) t) k (le_of_suc-le-suc h))

pub at : (f : ℕ → ℕ → Bool) (l : List ℕ) → T (every f 0 l) → (k : ℕ) → k < length l → T (f k (get_or l k 0))
at f l t k h = subst (λ (m : ℕ). T (f m (get_or l k 0))) (zero-add k) (from f l 0 t k h)
