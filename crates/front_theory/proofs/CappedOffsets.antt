-- Offsets that are counted to 513 only write the same normal form, where it has at most 512 nodes.
use mathlib.Core.Path.{◌≡◌, refl, sym, ap, ap₂, subst, ◌∙◌}
use mathlib.Core.Bool.{Bool, true}
use Prim.Native.Nat.{ℕ, suc, ◌+◌, ◌<◌, ◌≤◌, min}
use native.Mathlib.Omega.{arith}
use Rattle.spec_calculus.specs.Syntax.{Collection, Question, as_term}
use Rattle.spec_checks.specs.Scope.{names_hold}
use Rattle.spec_normal_form.specs.Form.{Form, Forms, Clauses, num, truth, row, cell, rec, bin, negate, app, comp, fnil, fcons, done, gen, cond, gens, gens_f, gens_c, as_form}
use Rattle.spec_normal_form.specs.Normal.{quote, normal}
use Rattle.spec_normal_form.specs.Size.{nodes}
use Rattle.spec_normal_form.proofs.GeneratorNumbers.{Numbered, NumberedF, NumberedC, normal-numbered}
use Rattle.front_theory.specs.NodeTable.{Nodes, PostOrder}
use Rattle.front_theory.specs.NodeForms.{Env, Offsets, sem}
use Rattle.front_theory.specs.QuestionNodes.{no_names, Holds, Placed}
use Rattle.front_theory.specs.CappedOffsets.{limit, left, saturated}
use Rattle.front_theory.proofs.FormCounts.{sizes}
use Rattle.front_theory.proofs.Renumbering.{renumber, renumber_f, renumber_c}
use Rattle.front_theory.proofs.QuestionNodes.{root}

-- each generator number g becomes what is left of it
abbrev pub cap : Form → Form
cap = renumber left

-- every generator number is above 0; of a capped form: every number was below the limit
unfoldable mutual
  pub Pos : Form → Type 0
  Pos (num z) = Unit {0}
  Pos (truth b) = Unit {0}
  Pos (row g) = 0 < g
  Pos (cell i g) = 0 < g
  Pos (rec ts) = PosF ts
  Pos (app f ts) = PosF ts
  Pos (bin o s t) = Pos s × Pos t
  Pos (negate t) = Pos t
  Pos (comp m q h) = PosC q × Pos h

  pub PosF : Forms → Type 0
  PosF fnil = Unit {0}
  PosF (fcons t ts) = Pos t × PosF ts

  pub PosC : Clauses → Type 0
  PosC done = Unit {0}
  PosC (gen g k q) = (0 < g) × PosC q
  PosC (cond t q) = Pos t × PosC q

-- what is left of what is left
back-number : (g : ℕ) → 0 < left g → left (left g) ≡ g
back-number g p = omega (arith, p)

mutual
  unfolding renumber Pos

  back : (t : Form) → Pos (cap t) → cap (cap t) ≡ t
  back (num z) p = refl
  back (truth b) p = refl
  back (row g) p = ap row (back-number g p)
  back (cell i g) p = ap (cell i) (back-number g p)
  back (rec ts) p = ap rec (back_f ts p)
  back (app f ts) p = ap (app f) (back_f ts p)
  back (bin o s t) p = ap₂ (bin o) (back s p.0) (back t p.1)
  back (negate t) p = ap negate (back t p)
  back (comp m q h) p = ap₂ (comp m) (back_c q p.0) (back h p.1)

  back_f : (ts : Forms) → PosF (renumber_f left ts) → renumber_f left (renumber_f left ts) ≡ ts
  back_f fnil p = refl
  back_f (fcons t ts) p = ap₂ fcons (back t p.0) (back_f ts p.1)

  back_c : (q : Clauses) → PosC (renumber_c left q) → renumber_c left (renumber_c left q) ≡ q
  back_c done p = refl
  back_c (gen g k q) p = ap₂ (λ a b. gen a k b) (back-number g p.0) (back_c q p.1)
  back_c (cond t q) p = ap₂ cond (back t p.0) (back_c q p.1)

-- forms that are the same up to the limit are the same where one has no number from the limit on
pub cap-equal : (t u : Form) → cap t ≡ cap u → Pos (cap u) → t ≡ u
cap-equal t u e p = sym (back t (subst Pos (sym e) p)) ∙ ap cap e ∙ back u p

-- a form that is numbered from i on has numbers below i + gens alone
mutual
  unfolding renumber Pos gens

  numbered-pos : (t : Form) (i : ℕ) → Numbered t i → i + gens t ≤ limit → Pos (cap t)
  numbered-pos (num z) i a l = tt
  numbered-pos (truth b) i a l = tt
  numbered-pos (row g) i a l = omega (arith, a, l)
  numbered-pos (cell f g) i a l = omega (arith, a, l)
  numbered-pos (rec ts) i a l = numbered-pos_f ts i a l
  numbered-pos (app f ts) i a l = numbered-pos_f ts i a l
  numbered-pos (bin o s t) i a l = (numbered-pos s i a.0 (omega (arith, l)), numbered-pos t (i + gens s) a.1 (omega (arith, l)))
  numbered-pos (negate t) i a l = numbered-pos t i a l
  numbered-pos (comp m q h) i a l = (numbered-pos_c q i a.0 (omega (arith, l)), numbered-pos h (i + gens_c q) a.1 (omega (arith, l)))

  numbered-pos_f : (ts : Forms) (i : ℕ) → NumberedF ts i → i + gens_f ts ≤ limit → PosF (renumber_f left ts)
  numbered-pos_f fnil i a l = tt
  numbered-pos_f (fcons t ts) i a l = (numbered-pos t i a.0 (omega (arith, l)), numbered-pos_f ts (i + gens t) a.1 (omega (arith, l)))

  numbered-pos_c : (q : Clauses) (i : ℕ) → NumberedC q i → i + gens_c q ≤ limit → PosC (renumber_c left q)
  numbered-pos_c done i a l = tt
  numbered-pos_c (gen g k q) i a l = (omega (arith, a.0, l), numbered-pos_c q (suc i) a.1 (omega (arith, l)))
  numbered-pos_c (cond t q) i a l = (numbered-pos t i a.0 (omega (arith, l)), numbered-pos_c q (i + gens t) a.1 (omega (arith, l)))

-- Where the names of a question hold (24) and its normal form has at most 512 nodes (27), every generator number in the
-- normal form is below 513.
pub normal_pos : (K : ℕ → Collection) (q : Question) → names_hold q ≡ true → nodes (as_form (normal K q)) ≤ 512 → Pos (cap (as_form (normal K q)))
normal_pos K q h l = let t = as_form (normal K q) in let s = sizes t in numbered-pos t 0 (normal-numbered K q h) (omega (arith, l, s.0, s.1))

-- stored counts up to the limit give offsets up to the limit
pub saturated-is : (stored : ℕ → Bool → ℕ) (x : ℕ) (v : Bool) (n g : ℕ) → stored x v ≡ min g limit → left (saturated stored x v n) ≡ left (n + g)
saturated-is stored x v n g e = omega (arith, e)

-- So a table that holds such a question, with offsets that are right up to 513, writes just its normal form.
pub written : (K : ℕ → Collection) (N : Nodes) → PostOrder N → (dep : ℕ → ℕ) (off : Offsets) → Placed left K N dep off → (q : Question) (i : ℕ) (e : Env) → Holds N dep (as_term q) i 0 no_names
    → names_hold q ≡ true → nodes (as_form (normal K q)) ≤ 512 → quote (sem K N off i 0 e) 0 ≡ as_form (normal K q)
written K N P dep off O q i e H h l =
    cap-equal (quote (sem K N off i 0 e) 0) (as_form (normal K q)) (root K N P dep off left (λ n j k p. omega (arith, p)) O q i e H) (normal_pos K q h l)
