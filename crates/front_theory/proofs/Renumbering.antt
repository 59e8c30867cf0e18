-- Forms with their generator numbers changed. What two forms have in common that differ in numbers alone is seen by
-- changing the numbers of both to the same ones.
use mathlib.Core.Path.{◌≡◌, refl, ap, ap₂}
use Prim.Native.Nat.{ℕ}
use Rattle.spec_normal_form.specs.Form.{Form, Forms, Clauses, num, truth, row, cell, rec, bin, negate, app, comp, fnil, fcons, done, gen, cond, ◌⊕◌, gens}
use Rattle.spec_normal_form.specs.Size.{nodes}
use Rattle.front_theory.specs.FormWords.{words}
use Rattle.front_theory.proofs.FormCounts.{counts, counts_f, counts_c, beside, above, generator}

-- each generator number g becomes ρ g
unfoldable mutual
  pub renumber : (ℕ → ℕ) → Form → Form
  renumber ρ (num z) = num z
  renumber ρ (truth b) = truth b
  renumber ρ (row g) = row (ρ g)
  renumber ρ (cell i g) = cell i (ρ g)
  renumber ρ (rec ts) = rec (renumber_f ρ ts)
  renumber ρ (app f ts) = app f (renumber_f ρ ts)
  renumber ρ (bin o s t) = bin o (renumber ρ s) (renumber ρ t)
  renumber ρ (negate t) = negate (renumber ρ t)
  renumber ρ (comp m q h) = comp m (renumber_c ρ q) (renumber ρ h)

  pub renumber_f : (ℕ → ℕ) → Forms → Forms
  renumber_f ρ fnil = fnil
  renumber_f ρ (fcons t ts) = fcons (renumber ρ t) (renumber_f ρ ts)

  pub renumber_c : (ℕ → ℕ) → Clauses → Clauses
  renumber_c ρ done = done
  renumber_c ρ (gen g k q) = gen (ρ g) k (renumber_c ρ q)
  renumber_c ρ (cond t q) = cond (renumber ρ t) (renumber_c ρ q)

pub renumber-append : (ρ : ℕ → ℕ) (w q : Clauses) → renumber_c ρ (w ⊕ q) ≡ renumber_c ρ w ⊕ renumber_c ρ q
unfolding renumber ◌⊕◌
renumber-append ρ done q = refl
renumber-append ρ (gen g k w) q = ap (gen (ρ g) k) (renumber-append ρ w q)
renumber-append ρ (cond t w) q = ap (cond (renumber ρ t)) (renumber-append ρ w q)

-- numbers that stay the same
mutual
  unfolding renumber

  pub renumber-same : (t : Form) → renumber (λ g. g) t ≡ t
  renumber-same (num z) = refl
  renumber-same (truth b) = refl
  renumber-same (row g) = refl
  renumber-same (cell i g) = refl
  renumber-same (rec ts) = ap rec (renumber-same_f ts)
  renumber-same (app f ts) = ap (app f) (renumber-same_f ts)
  renumber-same (bin o s t) = ap₂ (bin o) (renumber-same s) (renumber-same t)
  renumber-same (negate t) = ap negate (renumber-same t)
  renumber-same (comp m q h) = ap₂ (comp m) (renumber-same_c q) (renumber-same h)

  renumber-same_f : (ts : Forms) → renumber_f (λ g. g) ts ≡ ts
  renumber-same_f fnil = refl
  renumber-same_f (fcons t ts) = ap₂ fcons (renumber-same t) (renumber-same_f ts)

  pub renumber-same_c : (q : Clauses) → renumber_c (λ g. g) q ≡ q
  renumber-same_c done = refl
  renumber-same_c (gen g k q) = ap (gen g k) (renumber-same_c q)
  renumber-same_c (cond t q) = ap₂ cond (renumber-same t) (renumber-same_c q)

-- How many generators, nodes and words there are does not depend on numbers.
mutual
  unfolding renumber gens nodes words

  pub renumber-counts : (ρ : ℕ → ℕ) (t : Form) → counts (renumber ρ t) ≡ counts t
  renumber-counts ρ (num z) = refl
  renumber-counts ρ (truth b) = refl
  renumber-counts ρ (row g) = refl
  renumber-counts ρ (cell i g) = refl
  renumber-counts ρ (rec ts) = ap above (renumber-counts_f ρ ts)
  renumber-counts ρ (app f ts) = ap above (renumber-counts_f ρ ts)
  renumber-counts ρ (bin o s t) = ap₂ (λ a b. above (beside a b)) (renumber-counts ρ s) (renumber-counts ρ t)
  renumber-counts ρ (negate t) = ap above (renumber-counts ρ t)
  renumber-counts ρ (comp m q h) = ap₂ (λ a b. above (beside a b)) (renumber-counts_c ρ q) (renumber-counts ρ h)

  renumber-counts_f : (ρ : ℕ → ℕ) (ts : Forms) → counts_f (renumber_f ρ ts) ≡ counts_f ts
  renumber-counts_f ρ fnil = refl
  renumber-counts_f ρ (fcons t ts) = ap₂ beside (renumber-counts ρ t) (renumber-counts_f ρ ts)

  pub renumber-counts_c : (ρ : ℕ → ℕ) (q : Clauses) → counts_c (renumber_c ρ q) ≡ counts_c q
  renumber-counts_c ρ done = refl
  renumber-counts_c ρ (gen g k q) = ap generator (renumber-counts_c ρ q)
  renumber-counts_c ρ (cond t q) = ap₂ (λ a b. above (beside a b)) (renumber-counts ρ t) (renumber-counts_c ρ q)
