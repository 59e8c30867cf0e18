-- Where the words of each comprehension and of its head end.
use native.Mathlib.Omega.{arith}
use mathlib.Core.Path.{◌≡◌, subst, ◌∙◌}
use mathlib.Core.List.{List, ◌++◌}
use Prim.Native.Nat.{ℕ, ◌+◌, ◌≤◌}
use Rattle.spec_normal_form.specs.Form.{Form, Forms, Clauses, num, truth, row, cell, rec, bin, negate, app, comp, fnil, fcons, done, gen, cond}
use Rattle.base_scratch.specs.Map.{form_words}
use Rattle.form_words.specs.NodeWord.{next}
use Rattle.form_words.specs.FormWords.{size, size_f, size_c, flat, flat_f, flat_c, Holds}
use Rattle.form_words.proofs.ReadBack.{length-flat, length-flat_c, holds-first, holds-second, next-is}

abbrev mutual
  pub Steps : List ℕ → ℕ → Form → Type 0
  Steps s i (num z) = Unit {0}
  Steps s i (truth b) = Unit {0}
  Steps s i (row g) = Unit {0}
  Steps s i (cell c g) = Unit {0}
  Steps s i (rec ts) = StepsF s (i + 1) ts
  Steps s i (app f ts) = StepsF s (i + 1) ts
  Steps s i (bin o t u) = Steps s (i + 1) t × Steps s (i + 1 + size t) u
  Steps s i (negate t) = Steps s (i + 1) t
  Steps s i (comp m q h) = (next s i ≡ i + size (comp m q h)) × ((next s (i + 1 + size_c q) ≡ i + 1 + size_c q + size h) × (StepsC s (i + 1) q × Steps s (i + 1 + size_c q) h))

  pub StepsF : List ℕ → ℕ → Forms → Type 0
  StepsF s i fnil = Unit {0}
  StepsF s i (fcons t ts) = Steps s i t × StepsF s (i + size t) ts

  pub StepsC : List ℕ → ℕ → Clauses → Type 0
  StepsC s i done = Unit {0}
  StepsC s i (gen g k q) = StepsC s (i + 1) q
  StepsC s i (cond t q) = Steps s (i + 1) t × StepsC s (i + 1 + size t) q

-- words that hold a form's words, and others with the same ends
module _ (s r : List ℕ) (n : (j : ℕ) → next r j ≡ next s j) where
  mutual
    unfolding size flat

    pub steps : (t : Form) (i : ℕ) → i + size t ≤ form_words → Holds s i (flat t) → Steps r i t
    steps (num z) i l h = tt
    steps (truth b) i l h = tt
    steps (row g) i l h = tt
    steps (cell c g) i l h = tt
    steps (rec ts) i l h = steps-each ts (i + 1) (omega (arith, l)) (subst (λ x. Holds s x (flat_f ts)) (omega arith) h.1)
    steps (app f ts) i l h = steps-each ts (i + 1) (omega (arith, l)) (subst (λ x. Holds s x (flat_f ts)) (omega arith) h.1)
    steps (bin o t u) i l h =
        let h₀ : Holds s (i + 1) (flat t ++ flat u) = subst (λ x. Holds s x (flat t ++ flat u)) (omega arith) h.1 in (
          steps t (i + 1) (omega (arith, l)) (holds-first s (flat t) (flat u) (i + 1) h₀),
          steps u (i + 1 + size t) (omega (arith, l)) (holds-second s (flat t) (flat u) (i + 1) (i + 1 + size t) (omega (arith, length-flat t)) h₀),
        )
    steps (negate t) i l h = steps t (i + 1) (omega (arith, l)) (subst (λ x. Holds s x (flat t)) (omega arith) h.1)
    steps (comp m q u) i l h =
        let h₀ : Holds s (i + 1) (flat_c q ++ flat u) = subst (λ x. Holds s x (flat_c q ++ flat u)) (omega arith) h.1 in
        let k = holds-second s (flat_c q) (flat u) (i + 1) (i + 1 + size_c q) (omega (arith, length-flat_c q)) h₀ in (
          n i ∙ next-is s (comp m q u) i l h,
          (
            n (i + 1 + size_c q) ∙ next-is s u (i + 1 + size_c q) (omega (arith, l)) k,
            (steps-clauses q (i + 1) (omega (arith, l)) (holds-first s (flat_c q) (flat u) (i + 1) h₀), steps u (i + 1 + size_c q) (omega (arith, l)) k),
          ),
        )

    steps-each : (ts : Forms) (i : ℕ) → i + size_f ts ≤ form_words → Holds s i (flat_f ts) → StepsF r i ts
    steps-each fnil i l h = tt
    steps-each (fcons t ts) i l h = (
      steps t i (omega (arith, l)) (holds-first s (flat t) (flat_f ts) i h),
      steps-each ts (i + size t) (omega (arith, l)) (holds-second s (flat t) (flat_f ts) i (i + size t) (omega (arith, length-flat t)) h),
    )

    steps-clauses : (q : Clauses) (i : ℕ) → i + size_c q ≤ form_words → Holds s i (flat_c q) → StepsC r i q
    steps-clauses done i l h = tt
    steps-clauses (gen g t q) i l h = steps-clauses q (i + 1) (omega (arith, l)) (subst (λ x. Holds s x (flat_c q)) (omega arith) h.1)
    steps-clauses (cond t q) i l h =
        let h₀ : Holds s (i + 1) (flat t ++ flat_c q) = subst (λ x. Holds s x (flat t ++ flat_c q)) (omega arith) h.1 in (
          steps t (i + 1) (omega (arith, l)) (holds-first s (flat t) (flat_c q) (i + 1) h₀),
          steps-clauses q (i + 1 + size t) (omega (arith, l)) (holds-second s (flat t) (flat_c q) (i + 1) (i + 1 + size t) (omega (arith, length-flat t)) h₀),
        )
