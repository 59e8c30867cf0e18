-- A normal form numbered in written order is scoped: a number behind a term is none that the term mentions.
use mathlib.Core.Path.{◌≡◌, refl, ap, ap₂}
use mathlib.Core.Bool.{true, false, ◌&&◌, ◌||◌, not}
use Prim.Native.Nat.{ℕ, suc, ◌+◌, ◌≤◌}
use native.Mathlib.Omega.{arith}
use Rattle.spec_calculus.specs.Value.{Tables}
use Rattle.spec_calculus.specs.Monoid.{Fold}
use Rattle.spec_normal_form.specs.Form.{Form, Forms, Clauses, NormalForm, as_form, num, truth, row, cell, rec, bin, negate, comp, fnil, fcons, done, gen, cond, gens, gens_f, gens_c, normal_value, app}
use Rattle.spec_normal_form.proofs.GeneratorNumbers.{Numbered, NumberedF, NumberedC}
use Rattle.spec_plan.specs.Operators.{plan_value}
use Rattle.spec_plan.specs.Planner.{mentions, mentions_f, mentions_c, gens_of, plan_of}
use Rattle.spec_plan.proofs.StreamRows.{eqb-off}
use Rattle.spec_plan.proofs.ConditionScope.{clear, Scoped, ScopedF, ScopedC}
use Rattle.spec_plan.proofs.Unnesting.{unnesting}

module _ (x : ℕ) where
  mutual
    unfolding mentions gens

    unsaid : (t : Form) (i : ℕ) → Numbered t i → i + gens t ≤ x → mentions x t ≡ false
    unsaid (num z) i n h = refl
    unsaid (truth b) i n h = refl
    unsaid (row g) i n h = eqb-off x g (λ e. omega arith)
    unsaid (cell j g) i n h = eqb-off x g (λ e. omega arith)
    unsaid (rec ts) i n h = unsaid_f ts i n h
    unsaid (app f ts) i n h = unsaid_f ts i n h
    unsaid (bin o s t) i n h = ap₂ ◌||◌ (unsaid s i n.0 (omega arith)) (unsaid t (i + gens s) n.1 (omega arith))
    unsaid (negate t) i n h = unsaid t i n h
    unsaid (comp m q u) i n h = ap₂ ◌||◌ (unsaid_c q i n.0 (omega arith)) (unsaid u (i + gens_c q) n.1 (omega arith))

    unsaid_f : (ts : Forms) (i : ℕ) → NumberedF ts i → i + gens_f ts ≤ x → mentions_f x ts ≡ false
    unsaid_f fnil i n h = refl
    unsaid_f (fcons t ts) i n h = ap₂ ◌||◌ (unsaid t i n.0 (omega arith)) (unsaid_f ts (i + gens t) n.1 (omega arith))

    unsaid_c : (q : Clauses) (i : ℕ) → NumberedC q i → i + gens_c q ≤ x → mentions_c x q ≡ false
    unsaid_c done i n h = refl
    unsaid_c (gen g k q) i n h = unsaid_c q (suc i) n.1 (omega arith)
    unsaid_c (cond t q) i n h = ap₂ ◌||◌ (unsaid t i n.0 (omega arith)) (unsaid_c q (i + gens t) n.1 (omega arith))

behind : (t : Form) (i : ℕ) → Numbered t i → (q : Clauses) (j : ℕ) → i + gens t ≤ j → NumberedC q j → clear (gens_of q) t ≡ true
unfolding clear gens_of
behind t i n done j h m = refl
behind t i n (gen g k q) j h m = ap₂ ◌&&◌ (ap not (unsaid g t i n (let e : g ≡ j = m.0 in omega arith))) (behind t i n q (suc j) (omega arith) m.1)
behind t i n (cond u q) j h m = behind t i n q (j + gens u) (omega arith) m.1

mutual
  pub scoped : (t : Form) (i : ℕ) → Numbered t i → Scoped t
  scoped (num z) i n = tt
  scoped (truth b) i n = tt
  scoped (row g) i n = tt
  scoped (cell j g) i n = tt
  scoped (rec ts) i n = scoped_f ts i n
  scoped (app f ts) i n = scoped_f ts i n
  scoped (bin o s t) i n = (scoped s i n.0, scoped t (i + gens s) n.1)
  scoped (negate t) i n = scoped t i n
  scoped (comp m q h) i n = (scoped_c q i n.0, scoped h (i + gens_c q) n.1)

  scoped_f : (ts : Forms) (i : ℕ) → NumberedF ts i → ScopedF ts
  scoped_f fnil i n = tt
  scoped_f (fcons t ts) i n = (scoped t i n.0, scoped_f ts (i + gens t) n.1)

  scoped_c : (q : Clauses) (i : ℕ) → NumberedC q i → ScopedC q
  scoped_c done i n = tt
  scoped_c (gen g k q) i n = scoped_c q (suc i) n.1
  scoped_c (cond t q) i n = (behind t i n.0 q (i + gens t) (omega arith) n.1, (scoped t i n.0, scoped_c q (i + gens t) n.1))

-- Unnesting for every normal form that is numbered as document 01 numbers it.
pub unnesting-numbered : (F : Fold) (T : Tables) (f : NormalForm) → Numbered (as_form f) 0 → plan_value F T (plan_of f) ≡ normal_value F T f
unnesting-numbered F T f n = unnesting F T f (scoped (as_form f) 0 n)
