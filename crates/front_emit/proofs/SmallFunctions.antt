-- Laws of the small functions.
use mathlib.Core.Path.{◌≡◌, refl, ap, ◌∙◌}
use mathlib.Core.Bool.{Bool}
use mathlib.Core.List.{List, [], ◌∷◌}
use Prim.Native.Nat.{ℕ, zero, suc, ◌+◌, ◌*◌, ◌<◌}
use native.Mathlib.Omega.{arith}
use lib.ListN.{length, get_or, set, length-set}
use Rattle.spec_calculus.specs.Syntax.{of}
use Rattle.spec_calculus.specs.Syntax as Sy
use Rattle.base_tables.specs.Description.{collection_in, table_in}
use Rattle.front_theory.specs.NodeForms.{enter, levels}
use Rattle.base_syntax.specs.declared.Monoid.{Monoid}
use Rattle.front_resolve.specs.Resolved.{Resolved, bit, env_of}
use Rattle.front_resolve.proofs.Exits.{env-set}
use Rattle.front_emit.specs.WriterStart.{collections, flag_in, Copies}
use Rattle.base_syntax.specs.Numbers.{monoid_arg}

-- ---- the environment in a copy
pub copy_is : {h : Resolved} {m : Monoid} {v : Bool} {n : ℕ} {w : Bool} {l : List ℕ} → length h.env ≡ levels → h.depth < levels → w ≡ flag_in v m → l ≡ set h.env h.depth (2 * n + bit w) → Copies h m v n l
copy_is {h} {n = n} {w} z d e p =
    record {
      is = ap env_of p ∙ env-set h.env h.depth n w (omega (arith, z, d)) ∙ ap (λ (b : Bool). enter h.depth n b (env_of h.env)) e;
      long = ap (λ (l : List ℕ). length l) p ∙ length-set h.env h.depth (2 * n + bit w) ∙ z;
    }

-- ---- the collection of a table
abbrev pub number_by : ℕ → ℕ
number_by c = monoid_arg (of (get_or (Sy.list ∷ Sy.list ∷ Sy.bag ∷ Sy.set ∷ []) c Sy.list))

module _ (s : List ℕ) (k : ℕ) {c w : ℕ} (e : c ≡ collection_in w) (h : w ≡ table_in s k) where
  pub described : number_by c ≡ monoid_arg (of (collections s k))
  unfolding collections
  described = ap number_by (e ∙ ap collection_in h)

pub number-list : (c : ℕ) → c < 4 → (c ≡ 2 → ⊥) → (c ≡ 3 → ⊥) → 1 ≡ number_by c
number-list zero l p q = refl
number-list (suc zero) l p q = refl
number-list (suc (suc zero)) l p q = absurd (p refl)
number-list (suc (suc (suc zero))) l p q = absurd (q refl)
number-list (suc (suc (suc (suc c)))) l p q = absurd (omega (arith, l))
