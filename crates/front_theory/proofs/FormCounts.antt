-- How many generators, nodes and words there are in a normal form.
use mathlib.Core.Path.{◌≡◌, refl, sym, ap, ap₂, ◌∙◌}
use mathlib.Core.List.{◌∷◌, ◌++◌, append_assoc}
use Prim.Native.Nat.{ℕ, suc, ◌+◌, ◌≤◌}
use native.Mathlib.Omega.{arith}
use lib.ListN.{length, length-append}
use Rattle.spec_normal_form.specs.Form.{Form, Forms, Clauses, num, truth, row, cell, rec, bin, negate, app, comp, fnil, fcons, done, gen, cond, ◌⊕◌, gens, gens_f, gens_c}
use Rattle.spec_normal_form.specs.Size.{nodes, nodes_f, nodes_c}
use Rattle.front_theory.specs.FormWords.{word, wcond, wgen, words, words_f, words_c, flat, flat_f, flat_c}

-- how many generators, nodes and words a form, some forms, some clauses have
pub record Counts : Type 0 where
  pub generators : ℕ
  pub size : ℕ
  pub long : ℕ

abbrev pub counts : Form → Counts
counts t = record { generators = gens t; size = nodes t; long = words t }

abbrev pub counts_f : Forms → Counts
counts_f ts = record { generators = gens_f ts; size = nodes_f ts; long = words_f ts }

abbrev pub counts_c : Clauses → Counts
counts_c q = record { generators = gens_c q; size = nodes_c q; long = words_c q }

-- two parts side by side, and one node above
abbrev pub beside : Counts → Counts → Counts
beside a b = record { generators = a.generators + b.generators; size = a.size + b.size; long = a.long + b.long }

abbrev pub above : Counts → Counts
above a = record { generators = a.generators; size = 1 + a.size; long = suc a.long }

-- and one generator in front
abbrev pub generator : Counts → Counts
generator a = record { generators = suc a.generators; size = 2 + a.size; long = suc a.long }

abbrev these : ℕ → ℕ → ℕ → Counts
these a b c = record { generators = a; size = b; long = c }

same-counts : {a b : Counts} → a.generators ≡ b.generators → a.size ≡ b.size → a.long ≡ b.long → a ≡ b
same-counts {a} {b} p q r = ap (λ n. these n a.size a.long) p ∙ ap (λ n. these b.generators n a.long) q ∙ ap (these b.generators b.size) r

-- Clauses one behind the other.
pub counts-append : (w q : Clauses) → counts_c (w ⊕ q) ≡ beside (counts_c w) (counts_c q)
unfolding gens nodes words ◌⊕◌
counts-append done q = same-counts (omega arith) (omega arith) (omega arith)
counts-append (gen g k w) q = ap generator (counts-append w q) ∙ same-counts (omega arith) (omega arith) (omega arith)
counts-append (cond t w) q = ap (λ a. above (beside (counts t) a)) (counts-append w q) ∙ same-counts (omega arith) (omega arith) (omega arith)

pub flat_append : (w q : Clauses) → flat_c (w ⊕ q) ≡ flat_c w ++ flat_c q
unfolding flat ◌⊕◌
flat_append done q = refl
flat_append (gen g k w) q = ap (λ l. word (wgen g k) 0 ∷ l) (flat_append w q)
flat_append (cond t w) q = ap (λ l. word wcond (words t) ∷ (flat t ++ l)) (flat_append w q) ∙ ap (λ l. word wcond (words t) ∷ l) (sym (append_assoc (flat t) (flat_c w) (flat_c q)))

-- at most as many generators as words, and at most as many words as nodes
mutual
  unfolding gens words nodes

  pub sizes : (t : Form) → (gens t ≤ words t) × (words t ≤ nodes t)
  sizes (num z) = (omega arith, omega arith)
  sizes (truth b) = (omega arith, omega arith)
  sizes (row g) = (omega arith, omega arith)
  sizes (cell i g) = (omega arith, omega arith)
  sizes (rec ts) = let a = sizes_f ts in (omega (arith, a.0), omega (arith, a.1))
  sizes (app f ts) = let a = sizes_f ts in (omega (arith, a.0), omega (arith, a.1))
  sizes (bin o s t) = let a = sizes s in let b = sizes t in (omega (arith, a.0, b.0), omega (arith, a.1, b.1))
  sizes (negate t) = let a = sizes t in (omega (arith, a.0), omega (arith, a.1))
  sizes (comp m q h) = let a = sizes_c q in let b = sizes h in (omega (arith, a.0, b.0), omega (arith, a.1, b.1))

  pub sizes_f : (ts : Forms) → (gens_f ts ≤ words_f ts) × (words_f ts ≤ nodes_f ts)
  sizes_f fnil = (omega arith, omega arith)
  sizes_f (fcons t ts) = let a = sizes t in let b = sizes_f ts in (omega (arith, a.0, b.0), omega (arith, a.1, b.1))

  pub sizes_c : (q : Clauses) → (gens_c q ≤ words_c q) × (words_c q ≤ nodes_c q)
  sizes_c done = (omega arith, omega arith)
  sizes_c (gen g k q) = let a = sizes_c q in (omega (arith, a.0), omega (arith, a.1))
  sizes_c (cond t q) = let a = sizes t in let b = sizes_c q in (omega (arith, a.0, b.0), omega (arith, a.1, b.1))

-- a form has as many words as its words are
mutual
  unfolding flat words

  pub flat-length : (t : Form) → length (flat t) ≡ words t
  flat-length (num z) = refl
  flat-length (truth b) = refl
  flat-length (row g) = refl
  flat-length (cell i g) = refl
  flat-length (rec ts) = ap suc (flat-length_f ts)
  flat-length (app f ts) = ap suc (flat-length_f ts)
  flat-length (bin o s t) = ap suc (length-append (flat s) (flat t) ∙ ap₂ ◌+◌ (flat-length s) (flat-length t))
  flat-length (negate t) = ap suc (flat-length t)
  flat-length (comp m q h) = ap suc (length-append (flat_c q) (flat h) ∙ ap₂ ◌+◌ (flat-length_c q) (flat-length h))

  pub flat-length_f : (ts : Forms) → length (flat_f ts) ≡ words_f ts
  flat-length_f fnil = refl
  flat-length_f (fcons t ts) = length-append (flat t) (flat_f ts) ∙ ap₂ ◌+◌ (flat-length t) (flat-length_f ts)

  pub flat-length_c : (q : Clauses) → length (flat_c q) ≡ words_c q
  flat-length_c done = refl
  flat-length_c (gen g k q) = ap suc (flat-length_c q)
  flat-length_c (cond t q) = ap suc (length-append (flat t) (flat_c q) ∙ ap₂ ◌+◌ (flat-length t) (flat-length_c q))
