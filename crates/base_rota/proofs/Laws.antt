-- The quotas of a rota one by one.
use native.Mathlib.Omega.{arith}
use mathlib.Core.Path.{◌≡◌, refl, sym, ap, ◌∙◌}
use mathlib.Core.List.{List, [], ◌∷◌}
use mathlib.Core.Bool.{Bool, true, false, ◌&&◌}
use Prim.Native.Nat.{ℕ, zero, suc, ◌+◌, ◌≤◌, ◌<◌}
use borrow.Author.Tests.{leb-true, le-leb, lt-leb}
use lib.Dec.{leb}
use lib.ListN.{length, get_or, drop}
use Rattle.spec_calculus.proofs.Truths.{both}
use Rattle.spec_outcome.specs.Rota.{quota_fits, quotas_fit, rota_fits}

-- ---- quota_fits
pub quota-none : {q : ℕ} → q ≡ 0 → false ≡ quota_fits q
unfolding quota_fits
quota-none e = rw (e)

pub quota-some : {q : ℕ} {b : Bool} → (q ≡ 0 → ⊥) → b ≡ leb q 1000 → b ≡ quota_fits q
unfolding quota_fits
quota-some {q} n e = rw (le-leb 1 q (omega (arith, n)), e)

-- ---- rota_fits
-- the quotas from i on decide, as long as those before it fit
pub quotas-next : (qs : List ℕ) (i : ℕ) → i < length qs → quotas_fit (drop i qs) ≡ quota_fits (get_or qs i 0) && quotas_fit (drop (suc i) qs)
unfolding quotas_fit
quotas-next [] i l = absurd (omega arith)
quotas-next (q ∷ qs) zero l = refl
quotas-next (q ∷ qs) (suc i) l = quotas-next qs i (omega arith)

pub quotas-end : (qs : List ℕ) (i : ℕ) → length qs ≤ i → quotas_fit (drop i qs) ≡ true
unfolding quotas_fit
quotas-end [] zero l = refl
quotas-end [] (suc i) l = refl
quotas-end (q ∷ qs) zero l = absurd (omega arith)
quotas-end (q ∷ qs) (suc i) l = quotas-end qs i (omega arith)

module _ (qs : List ℕ) where
  pub rota-empty : length qs ≡ 0 → false ≡ rota_fits qs
  unfolding rota_fits
  rota-empty e = rw (e)

  pub rota-long : 4 < length qs → false ≡ rota_fits qs
  unfolding rota_fits
  rota-long l = rw (lt-leb (length qs) 4 l, le-leb 1 (length qs) (omega (arith, l)))

  -- a rota of 1 to 4 seats fits where its quotas do
  pub rota-quotas : (length qs ≡ 0 → ⊥) → length qs ≤ 4 → rota_fits qs ≡ quotas_fit qs
  unfolding rota_fits
  rota-quotas n l = rw (le-leb 1 (length qs) (omega (arith, n)), le-leb (length qs) 4 l)

  -- the quota at i ends it, or leaves it to those behind
  module _ (i : ℕ) (inv : rota_fits qs ≡ quotas_fit (drop i qs)) (l : i < length qs) {b : Bool} (e : b ≡ quota_fits (get_or qs i 0)) where
    pub rota-stops : b ≡ false → false ≡ rota_fits qs
    rota-stops h = sym (inv ∙ quotas-next qs i l ∙ ap (λ t. t && quotas_fit (drop (suc i) qs)) (sym e ∙ h))

    pub rota-goes : b ≡ true → rota_fits qs ≡ quotas_fit (drop (i + 1) qs)
    rota-goes h =
        let n : suc i ≡ i + 1 = omega arith in
        inv ∙ quotas-next qs i l ∙ ap (λ t. t && quotas_fit (drop (suc i) qs)) (sym e ∙ h) ∙ ap (λ k. quotas_fit (drop k qs)) n

  pub rota-ends : (i : ℕ) → rota_fits qs ≡ quotas_fit (drop i qs) → length qs ≤ i → true ≡ rota_fits qs
  rota-ends i inv l = sym (inv ∙ quotas-end qs i l)

-- ---- what a rota that fits says of its quotas
quotas-each : (qs : List ℕ) (i : ℕ) → quotas_fit qs ≡ true → i < length qs → quota_fits (get_or qs i 0) ≡ true
unfolding quotas_fit
quotas-each [] i h l = absurd (omega arith)
quotas-each (q ∷ qs) zero h l = (both (quota_fits q) (quotas_fit qs) h).0
quotas-each (q ∷ qs) (suc i) h l = quotas-each qs i (both (quota_fits q) (quotas_fit qs) h).1 (omega arith)

-- "a quota of 1 to 1,000"
pub quota-within : (qs : List ℕ) (i : ℕ) → rota_fits qs ≡ true → i < length qs → (1 ≤ get_or qs i 0) × (get_or qs i 0 ≤ 1000)
unfolding rota_fits quota_fits
quota-within qs i h l =
    let f = (both (leb (length qs) 4) (quotas_fit qs) (both (leb 1 (length qs)) (leb (length qs) 4 && quotas_fit qs) h).1).1 in
    let q = both (leb 1 (get_or qs i 0)) (leb (get_or qs i 0) 1000) (quotas-each qs i f l) in
    (leb-true 1 (get_or qs i 0) q.0, leb-true (get_or qs i 0) 1000 q.1)
