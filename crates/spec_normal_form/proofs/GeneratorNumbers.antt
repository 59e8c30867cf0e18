-- What the plan needs of the normal form: generators are numbered in written order, and each name's number is below the
-- count of the generators written before it.
use mathlib.Core.Path.{◌≡◌, refl, sym, subst, ◌∙◌}
use mathlib.Core.Bool.{Bool, true, false, false≢true}
use Prim.Native.Nat.{ℕ, suc, ◌+◌, ◌<◌}
use native.Mathlib.Omega.{arith}
use lib.Dec.{eqb, eqb→eq}
use Rattle.spec_calculus.specs.Lists.{upd}
use Rattle.spec_calculus.specs.Syntax.{Collection, Question}
use Rattle.spec_calculus.proofs.Lists.{upd_other}
use Rattle.spec_checks.specs.Scope.{Scope, names_hold}
use Rattle.spec_normal_form.specs.Form.{Form, Forms, Clauses, num, truth, row, cell, rec, bin, negate, app, comp, fnil, fcons, done, gen, cond, gens, gens_c, as_form}
use Rattle.spec_normal_form.specs.Normal.{normal}
use Rattle.spec_normal_form.specs.NoRule.{behind, Ordered, OrderedF, OrderedC}
use Rattle.spec_normal_form.proofs.NoRuleApplies.{normal-in-scope}

abbrev mutual
  pub Numbered : Form → ℕ → Type 0
  Numbered (num z) i = Unit {0}
  Numbered (truth b) i = Unit {0}
  Numbered (row g) i = g < i
  Numbered (cell f g) i = g < i
  Numbered (rec ts) i = NumberedF ts i
  Numbered (app f ts) i = NumberedF ts i
  Numbered (bin o s t) i = Numbered s i × Numbered t (i + gens s)
  Numbered (negate t) i = Numbered t i
  Numbered (comp m q h) i = NumberedC q i × Numbered h (i + gens_c q)

  pub NumberedF : Forms → ℕ → Type 0
  NumberedF fnil i = Unit {0}
  NumberedF (fcons t ts) i = Numbered t i × NumberedF ts (i + gens t)

  pub NumberedC : Clauses → ℕ → Type 0
  NumberedC done i = Unit {0}
  NumberedC (gen g k q) i = (g ≡ i) × NumberedC q (suc i)
  NumberedC (cond t q) i = Numbered t i × NumberedC q (i + gens t)

-- each name that holds has a number below i
abbrev Below : Scope → ℕ → Type 0
Below S i = (g : ℕ) → S g ≡ true → g < i

below_more : (S : Scope) (i k : ℕ) → Below S i → Below S (i + k)
below_more S i k a g s = let b : g < i = a g s in omega arith

below-gen : (S : Scope) (g i : ℕ) → g ≡ i → Below S i → Below (upd g true S) (suc i)
below-gen S g i e a y s = go (eqb g y) refl
  where
    go : (b : Bool) → eqb g y ≡ b → y < suc i
    go true p = let f : g ≡ y = eqb→eq g y (rw p tt) in omega arith
    go false p = let b : y < i = a y (sym (upd_other g true S y p) ∙ s) in omega arith

below-behind : (q : Clauses) (S : Scope) (i : ℕ) → OrderedC q S i → Below S i → Below (behind q S) (i + gens_c q)
unfolding behind Ordered gens
below-behind done S i x a = below_more S i 0 a
below-behind (gen g k q) S i x a = subst (λ j. Below (behind q (upd g true S)) j) (omega arith) (below-behind q (upd g true S) (suc i) x.1 (below-gen S g i x.0 a))
below-behind (cond t q) S i x a = subst (λ j. Below (behind q S) j) (omega arith) (below-behind q S (i + gens t) x.1 (below_more S i (gens t) a))

mutual
  unfolding Ordered Numbered

  numbered : (t : Form) (S : Scope) (i : ℕ) → Below S i → Ordered t S i → Numbered t i
  numbered (num z) S i a x = tt
  numbered (truth b) S i a x = tt
  numbered (row g) S i a x = a g x
  numbered (cell f g) S i a x = a g x
  numbered (rec ts) S i a x = numbered_f ts S i a x
  numbered (app f ts) S i a x = numbered_f ts S i a x
  numbered (bin o s t) S i a x = (numbered s S i a x.0, numbered t S (i + gens s) (below_more S i (gens s) a) x.1)
  numbered (negate t) S i a x = numbered t S i a x
  numbered (comp m q h) S i a x = (numbered_c q S i a x.0, numbered h (behind q S) (i + gens_c q) (below-behind q S i x.0 a) x.1)

  numbered_f : (ts : Forms) (S : Scope) (i : ℕ) → Below S i → OrderedF ts S i → NumberedF ts i
  numbered_f fnil S i a x = tt
  numbered_f (fcons t ts) S i a x = (numbered t S i a x.0, numbered_f ts S (i + gens t) (below_more S i (gens t) a) x.1)

  numbered_c : (q : Clauses) (S : Scope) (i : ℕ) → Below S i → OrderedC q S i → NumberedC q i
  numbered_c done S i a x = tt
  numbered_c (gen g k q) S i a x = (x.0, numbered_c q (upd g true S) (suc i) (below-gen S g i x.0 a) x.1)
  numbered_c (cond t q) S i a x = (numbered t S i a x.0, numbered_c q S (i + gens t) (below_more S i (gens t) a) x.1)

-- Document 01: "Generators are renumbered from 0 in written order." Where the question's names hold (24), each name in the
-- normal form is that of a generator written before it.
pub normal-numbered : (K : ℕ → Collection) (q : Question) → names_hold q ≡ true → Numbered (as_form (normal K q)) 0
normal-numbered K q h = numbered (as_form (normal K q)) (λ g. false) 0 (λ g s. absurd (false≢true s)) (normal-in-scope K q h)
