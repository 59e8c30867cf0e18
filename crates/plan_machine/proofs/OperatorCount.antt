-- How many operators a plan has: a comprehension has its nest or reduce and a loop for each generator, or one over unit.
use native.Mathlib.Omega.{arith}
use mathlib.Core.Path.{◌≡◌}
use mathlib.Core.List.{List, [], ◌∷◌}
use mathlib.Core.Bool.{Bool, true, false}
use Prim.Native.Nat.{ℕ, suc, ◌+◌, ◌*◌, ◌≤◌}
use lib.ListN.{length}
use Rattle.spec_calculus.specs.Lists.{pick}
use Rattle.spec_calculus.specs.Syntax.{Monoid}
use Rattle.spec_normal_form.specs.Form.{Form, Forms, Clauses, NormalForm, as_form, num, truth, row, cell, rec, bin, negate, app, comp, fnil, fcons, done, gen, cond}
use Rattle.spec_normal_form.specs.Size.{nodes, nodes_f, nodes_c}
use Rattle.spec_plan.specs.Planner.{free, Slots, next, next_l, Gen, gens_of, plan_gens, early, late, slot, slots, after, no_slots}
use Rattle.spec_plan.proofs.Slots.{unit-length}
use Rattle.plan_machine.specs.Program.{Program, end, loops_at, loops, end_at, inners, inners_f, inners_c, program_at, program_of}
use Rattle.plan_machine.specs.MachineWords.{before}

loops-before : (gs : List Gen) (at : ℕ → List Form) (k : ℕ) (c : Slots) (p : Program) → before (loops_at gs at k c p) ≡ length gs + before p
unfolding loops_at before
loops-before [] at k c p = omega arith
loops-before (g ∷ gs) at k c p = omega (arith, loops-before gs (λ j. at (suc j)) (suc k) (slot g k c) p)

loops-size : (gs : List Gen) (cs : List Form) (k : ℕ) (c : Slots) (p : Program) → before (loops gs cs k c p) ≡ length gs + before p
unfolding loops
loops-size gs cs k c p = loops-before gs _ k c p

-- a comprehension, its generators' loops and its inner comprehensions
program-before : (m : Monoid) (q : Clauses) (h : Form) (k : ℕ) (c : Slots)
    → ((p : Program) → length (gens_of q) + before (inners_c q (after (plan_gens q) k) (slots (plan_gens q) k c) p) ≤ 2 * nodes_c q + before p)
    → ((p : Program) → before (inners h (next_l (late q) (after (plan_gens q) k)) (slots (plan_gens q) k c) p) + 2 ≤ 2 * nodes h + before p)
    → before (program_at m q h k c) + 1 ≤ 2 * (nodes_c q + nodes h)
unfolding program_at plan_gens before
program-before m q h k c h_q h_h =
    let c₁ : Slots = slots (plan_gens q) k c in
    let k₁ : ℕ = after (plan_gens q) k in
    let e : Program = end (end_at m q h k c) in
    let p : Program = inners h (next_l (late q) k₁) c₁ e in
    omega (arith, loops-size (plan_gens q) (early q) k c (inners_c q k₁ c₁ p), unit-length (gens_of q), h_q p, h_h e)

cond-before : (b : Bool) (p q : Program) (n k : ℕ) → n + before p ≤ k → n + before q ≤ k → n + before (pick b p q) ≤ k
unfolding pick
cond-before true p q n k h g = h
cond-before false p q n k h g = g

mutual
  unfolding inners before nodes gens_of program_at

  inners-before : (t : Form) (k : ℕ) (c : Slots) (p : Program) → before (inners t k c p) + 2 ≤ 2 * nodes t + before p
  inners-before (num z) k c p = omega arith
  inners-before (truth b) k c p = omega arith
  inners-before (row g) k c p = omega arith
  inners-before (cell i g) k c p = omega arith
  inners-before (rec ts) k c p = omega (arith, inners_f-before ts k c p)
  inners-before (app f ts) k c p = omega (arith, inners_f-before ts k c p)
  inners-before (bin o s t) k c p = omega (arith, inners-before s k c (inners t (next s k) c p), inners-before t (next s k) c p)
  inners-before (negate t) k c p = omega (arith, inners-before t k c p)
  inners-before (comp m q h) k c p = omega (arith, program-before m q h k c (λ x. inners_c-before q (after (plan_gens q) k) (slots (plan_gens q) k c) x) (λ x. inners-before h (next_l (late q) (after (plan_gens q) k)) (slots (plan_gens q) k c) x))

  inners_f-before : (ts : Forms) (k : ℕ) (c : Slots) (p : Program) → before (inners_f ts k c p) ≤ 2 * nodes_f ts + before p
  inners_f-before fnil k c p = omega arith
  inners_f-before (fcons t ts) k c p = omega (arith, inners-before t k c (inners_f ts (next t k) c p), inners_f-before ts (next t k) c p)

  inners_c-before : (q : Clauses) (k : ℕ) (c : Slots) (p : Program) → length (gens_of q) + before (inners_c q k c p) ≤ 2 * nodes_c q + before p
  inners_c-before done k c p = omega arith
  inners_c-before (gen g n q) k c p = omega (arith, inners_c-before q k c p)
  inners_c-before (cond t q) k c p =
      cond-before (free t) (inners_c q k c p) (inners t k c (inners_c q (next t k) c p)) (length (gens_of q)) (2 * nodes_c (cond t q) + before p)
      (omega (arith, inners_c-before q k c p)) (omega (arith, inners-before t k c (inners_c q (next t k) c p), inners_c-before q (next t k) c p))

-- A normal form that 27 lets pass has a plan of at most 1,022 operators, the reduce counted.
pub operators-fit : (f : NormalForm) → nodes (as_form f) ≤ 512 → suc (before (program_of f)) ≤ 1022
unfolding program_of nodes
operators-fit f h =
    let q : Clauses = f.clauses in
    omega (arith, program-before f.monoid q f.head 0 no_slots (λ x. inners_c-before q (after (plan_gens q) 0) (slots (plan_gens q) 0 no_slots) x) (λ x. inners-before f.head (next_l (late q) (after (plan_gens q) 0)) (slots (plan_gens q) 0 no_slots) x))
