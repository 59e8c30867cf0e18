-- Linked words that say a program are wired.
use native.Mathlib.Omega.{arith}
use mathlib.Core.Path.{◌≡◌, ◌∙◌}
use mathlib.Core.List.{List, [], ◌∷◌}
use Prim.Native.Nat.{ℕ, ◌+◌, ◌≤◌, ◌<◌}
use Rattle.spec_calculus.proofs.Lists.{All, all-front, all-behind}
use Rattle.spec_normal_form.specs.Form.{Form, Forms, Clauses, NormalForm, num, truth, row, cell, rec, bin, negate, app, comp, fnil, fcons, done, gen, cond}
use Rattle.base_scratch.specs.Map.{form_words}
use Rattle.form_words.specs.FormWords.{size, size_c}
use Rattle.plan_machine.specs.Program.{Program, program_of}
use Rattle.plan_machine.specs.Program as Pr
use Rattle.plan_links.specs.Spots.{Spots, end, loop, inner, loop_code, end_code, comp_of, loops_at, gens_at, or_unit, inners, inners_f, inners_c, spots_of, loops_in, ends_in}
use Rattle.plan_links.specs.Links.{Linked}
use Rattle.plan_links.proofs.FormLinks.{comp-loops, comp-inners, comp-inners_c}
use Rattle.plan_links.proofs.ExecutorReady.{Planned}
use Rattle.plan_links.specs.SpotWords.{SpotsAre}
use Rattle.exec_simulation.specs.WiredProgram.{Starts, Wired}
use Rattle.exec_initial.specs.ProgramShape.{Shaped, Within}

pub wired-of : (s : List ℕ) (b : ℕ) (x : Program) (y : Spots) → Linked s b y → SpotsAre s y x → Shaped y → Within y → Wired s b x y
wired-of s b (Pr.end e) (end c) l a h w = (l, (w, a))
wired-of s b (Pr.end e) (loop i p) l a h w = absurd a
wired-of s b (Pr.end e) (inner z p) l a h w = absurd a
wired-of s b (Pr.loop x t q) (end c) l a h w = absurd a
wired-of s b (Pr.loop x t q) (loop i p) l a h w = (l.0, (l.1.0, (w.0, (a.0, wired-of s (loop_code i) q p l.1.1 a.1 h w.1))))
wired-of s b (Pr.loop x t q) (inner z p) l a h w = absurd a
wired-of s b (Pr.inner i q) (end c) l a h w = absurd a
wired-of s b (Pr.inner i q) (loop j p) l a h w = absurd a
wired-of s b (Pr.inner i q) (inner z p) l a h w = (l.0, (h.0, (wired-of s (end_code (comp_of z)) i z l.1.0 a.0 h.1.0 w.0, wired-of s b q p l.1.1 a.1 h.1.1 w.1)))

-- ---- within the words
pub within_of : (y : Spots) → All (λ i. i < form_words) (loops_in y) → All (λ c. c < form_words) (ends_in y) → Within y
unfolding loops_in ends_in
within_of (end c) l e = e.0
within_of (loop i p) l e = (l.0, within_of p l.1 e)
within_of (inner a p) l e = (within_of a (all-front (λ i. i < form_words) (loops_in a) (loops_in p) l) (all-front (λ c. c < form_words) (ends_in a) (ends_in p) e), within_of p (all-behind (λ i. i < form_words) (loops_in a) (loops_in p) l) (all-behind (λ c. c < form_words) (ends_in a) (ends_in p) e))

-- ---- the spots of a normal form
shaped-loops : (l : List ℕ) (p : Spots) → Shaped p → Shaped (loops_at l p)
unfolding loops_at
shaped-loops [] p h = h
shaped-loops (i ∷ l) p h = shaped-loops l p h

pub starts-own : (c : ℕ) (l : List ℕ) (p : Spots) → Starts (loops_at (or_unit c l) p)
unfolding loops_at or_unit
starts-own c [] p = tt
starts-own c (i ∷ l) p = tt

-- no loop in front, and a shape
abbrev Behind : Spots → Type 0
Behind p = (Starts p → ⊥) × Shaped p

mutual
  unfolding inners comp_of

  shaped-inners : (t : Form) (i : ℕ) (p : Spots) → 0 < i → Behind p → Behind (inners t i p)
  shaped-inners (num z) i p l h = h
  shaped-inners (truth b) i p l h = h
  shaped-inners (row g) i p l h = h
  shaped-inners (cell j g) i p l h = h
  shaped-inners (rec ts) i p l h = shaped-inners_f ts (i + 1) p (omega arith) h
  shaped-inners (app f ts) i p l h = shaped-inners_f ts (i + 1) p (omega arith) h
  shaped-inners (bin o t u) i p l h = shaped-inners t (i + 1) (inners u (i + 1 + size t) p) (omega arith) (shaped-inners u (i + 1 + size t) p (omega arith) h)
  shaped-inners (negate t) i p l h = shaped-inners t (i + 1) p (omega arith) h
  shaped-inners (comp m q u) i p l h =
      let b : Spots = inners_c q (i + 1) (inners u (i + 1 + size_c q) (end i)) in
      let n : comp_of (loops_at (or_unit i (gens_at q (i + 1))) b) ≡ i = comp-loops (or_unit i (gens_at q (i + 1))) b ∙ comp-inners_c q (i + 1) (inners u (i + 1 + size_c q) (end i)) ∙ comp-inners u (i + 1 + size_c q) (end i) in
      let s : Behind b = shaped-inners_c q (i + 1) (inners u (i + 1 + size_c q) (end i)) (omega arith) (shaped-inners u (i + 1 + size_c q) (end i) (omega arith) ((λ x. absurd x), tt)) in
      ((λ x. absurd x), (((λ e. omega (arith, e, n, l)), (starts-own i (gens_at q (i + 1)) b, h.0)), (shaped-loops (or_unit i (gens_at q (i + 1))) b s.1, h.1)))

  shaped-inners_f : (ts : Forms) (i : ℕ) (p : Spots) → 0 < i → Behind p → Behind (inners_f ts i p)
  shaped-inners_f fnil i p l h = h
  shaped-inners_f (fcons t ts) i p l h = shaped-inners t i (inners_f ts (i + size t) p) l (shaped-inners_f ts (i + size t) p (omega arith) h)

  shaped-inners_c : (q : Clauses) (i : ℕ) (p : Spots) → 0 < i → Behind p → Behind (inners_c q i p)
  shaped-inners_c done i p l h = h
  shaped-inners_c (gen g k q) i p l h = shaped-inners_c q (i + 1) p (omega arith) h
  shaped-inners_c (cond t q) i p l h = shaped-inners t (i + 1) (inners_c q (i + 1 + size t) p) (omega arith) (shaped-inners_c q (i + 1 + size t) p (omega arith) h)

pub spots-shaped : (q : Clauses) (u : Form) → Shaped (spots_of q u 0) × (Starts (spots_of q u 0) × (comp_of (spots_of q u 0) ≡ 0))
unfolding spots_of comp_of
spots-shaped q u =
    let b : Spots = inners_c q (0 + 1) (inners u (0 + 1 + size_c q) (end 0)) in
    let s : Behind b = shaped-inners_c q (0 + 1) (inners u (0 + 1 + size_c q) (end 0)) (omega arith) (shaped-inners u (0 + 1 + size_c q) (end 0) (omega arith) ((λ x. absurd x), tt)) in (
      shaped-loops (or_unit 0 (gens_at q (0 + 1))) b s.1,
      (
        starts-own 0 (gens_at q (0 + 1)) b,
        comp-loops (or_unit 0 (gens_at q (0 + 1))) b ∙ comp-inners_c q (0 + 1) (inners u (0 + 1 + size_c q) (end 0)) ∙ comp-inners u (0 + 1 + size_c q) (end 0),
      ),
    )

below_more : {m n : ℕ} (l : List ℕ) → m ≤ n → All (λ i. i < m) l → All (λ i. i < n) l
below_more [] p a = tt
below_more (x ∷ l) p a = (omega (arith, p, a.0), below_more l p a.1)

-- The words that planning and linking leave are wired as the program of their normal form.
pub wired-planned : (f : NormalForm) (s t : List ℕ) (r : ℕ) → Planned f s t r → Wired t 1 (program_of f) (spots_of f.clauses f.head 0)
wired-planned f s t r W =
    let p : Spots = spots_of f.clauses f.head 0 in
    wired-of t 1 (program_of f) p W.linked W.alike (spots-shaped f.clauses f.head).0 (within_of p (below_more (loops_in p) W.few W.apart.loops-within) (below_more (ends_in p) W.few W.apart.ends-within))
