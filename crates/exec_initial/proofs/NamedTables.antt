-- The generators of a form: by their places each has its table named, where the form says so of all; all below a number decide.
use mathlib.Core.Path.{◌≡◌, refl, sym, ap, subst, ◌∙◌}
use mathlib.Core.List.{List}
use Prim.Native.Nat.{ℕ, suc, ◌+◌, ◌≤◌, ◌<◌}
use native.Mathlib.Omega.{arith}
use borrow.Author.Tests.{ltb-true, ltb-false}
use lib.Dec.{ltb}
use Rattle.spec_normal_form.specs.Form.{Form, Forms, Clauses, num, truth, row, cell, rec, bin, negate, app, comp, fnil, fcons, done, gen, cond}
use Rattle.spec_normal_form.proofs.Ranges.{Below, BelowF, BelowC}
use Rattle.spec_normal_form.proofs.GeneratorTables as Ge
use Rattle.form_words.specs.declared.FormNode.{FormNode}
use Rattle.form_words.specs.declared.FormNode.TheVariants as N
use Rattle.form_words.specs.NodeWord.{node_at}
use Rattle.form_words.specs.FormWords.{size, size_f, size_c}
use Rattle.base_signed.proofs.SignedWords.{by-test}
use Rattle.plan_marks.proofs.FormInWords.{Lies, LiesF, LiesC}
use Rattle.plan_links.proofs.GeneratorRanks.{number_in}
use Rattle.form_env.specs.NamedTables.{Named, NamedF, NamedC}

-- C says which table each generator at places i up to e ranges over
abbrev Says : (ℕ → ℕ) → List ℕ → ℕ → ℕ → Type 0
Says C s i e = (j : ℕ) → i ≤ j → j < e → (g k : ℕ) → node_at s j ≡ N.Generator g k → C g ≡ suc k

module _ (C : ℕ → ℕ) (s : List ℕ) where
  says_none : (i e : ℕ) → e ≤ i → Says C s i e
  says_none i e l j a b g k h = absurd (omega arith)

  says_plain : (i : ℕ) {n : FormNode} → node_at s i ≡ n → number_in n ≡ 0 → Says C s i (i + 1)
  says_plain i d z j a b g k h =
      let e : j ≡ i = omega arith in
      absurd (omega (arith, ap number_in (sym h ∙ ap (node_at s) e ∙ d), z))

  says-gen : (i : ℕ) {g k : ℕ} → node_at s i ≡ N.Generator g k → C g ≡ suc k → Says C s i (i + 1)
  says-gen i {g} {k} d z j a b x y h =
      let e : j ≡ i = omega arith in
      go (sym d ∙ ap (node_at s) (sym e) ∙ h)
    where
      go : N.Generator g k ≡ N.Generator x y → C x ≡ suc y
      go p =
          let q : g ≡ x = cc p in
          let r : k ≡ y = cc p in
          ap C (sym q) ∙ z ∙ ap suc r

  says_both : {i m e : ℕ} → Says C s i m → Says C s m e → Says C s i e
  says_both {i} {m} X Y j a b g k h = by-test (ltb j m) (λ t. X j a (ltb-true j m t) g k h) (λ t. Y j (ltb-false j m t) b g k h)

  says-to : {i e d : ℕ} → e ≡ d → Says C s i e → Says C s i d
  says-to {i} p X = subst (Says C s i) p X

  mutual
    unfolding size

    says-term : (t : Form) (i : ℕ) → Lies s i t → Named C t → Says C s i (i + size t)
    says-term (num z) i h w = says_plain i h refl
    says-term (truth b) i h w = says_plain i h refl
    says-term (row g) i h w = says_plain i h.0 refl
    says-term (cell j g) i h w = says_plain i h.0 refl
    says-term (rec ts) i h w = says-to (omega arith) (says_both (says_plain i h.0 refl) (says-terms ts (i + 1) h.1 w))
    says-term (app f ts) i h w = says-to (omega arith) (says_both (says_plain i h.0 refl) (says-terms ts (i + 1) h.1 w))
    says-term (bin o t u) i h w = says-to (omega arith) (says_both (says_plain i h.0 refl) (says_both (says-term t (i + 1) h.1.0 w.0) (says-term u (i + 1 + size t) h.1.1 w.1)))
    says-term (negate t) i h w = says-to (omega arith) (says_both (says_plain i h.0 refl) (says-term t (i + 1) h.1 w))
    says-term (comp m q u) i h w = says-to (omega arith) (says_both (says_plain i h.0 refl) (says_both (says-clauses q (i + 1) h.1.0 w.0) (says-term u (i + 1 + size_c q) h.1.1.1 w.1)))

    says-terms : (ts : Forms) (i : ℕ) → LiesF s i ts → NamedF C ts → Says C s i (i + size_f ts)
    says-terms fnil i h w = says_none i (i + size_f fnil) (omega arith)
    says-terms (fcons t ts) i h w = says-to (omega arith) (says_both (says-term t i h.1.0 w.0) (says-terms ts (i + size t) h.1.1 w.1))

    says-clauses : (q : Clauses) (i : ℕ) → LiesC s i q → NamedC C q → Says C s i (i + size_c q)
    says-clauses done i h w = says_none i (i + size_c done) (omega arith)
    says-clauses (gen g k q) i h w = says-to (omega arith) (says_both (says-gen i h.0 w.0) (says-clauses q (i + 1) h.1.1 w.1))
    says-clauses (cond t q) i h w = says-to (omega arith) (says_both (says_plain i h.0 refl) (says_both (says-term t (i + 1) h.1.0 w.0) (says-clauses q (i + 1 + size t) h.1.1 w.1)))

  pub tables-named : (t : Form) → Lies s 0 t → Named C t → (i g k : ℕ) → i < size t → node_at s i ≡ N.Generator g k → C g ≡ suc k
  tables-named t h w i g k l e = says-term t 0 h w i (omega arith) (omega (arith, l)) g k e

-- ---- what is said of the generators below m is said of a form that has no other
module _ {A : Type 0} (C D B : ℕ → A) (m : ℕ) (same : (g : ℕ) → g < m → D g ≡ C g) where
  mutual
    pub named-below : (t : Form) → Below m t → Ge.Named C B t → Ge.Named D B t
    named-below (num z) l h = tt
    named-below (truth b) l h = tt
    named-below (row g) l h = tt
    named-below (cell i g) l h = tt
    named-below (rec ts) l h = named-below_f ts l h
    named-below (app f ts) l h = named-below_f ts l h
    named-below (bin o t u) l h = (named-below t l.0 h.0, named-below u l.1 h.1)
    named-below (negate t) l h = named-below t l h
    named-below (comp o q u) l h = (named-below_c q l.0 h.0, named-below u l.1 h.1)

    named-below_f : (ts : Forms) → BelowF m ts → Ge.NamedF C B ts → Ge.NamedF D B ts
    named-below_f fnil l h = tt
    named-below_f (fcons t ts) l h = (named-below t l.0 h.0, named-below_f ts l.1 h.1)

    named-below_c : (q : Clauses) → BelowC m q → Ge.NamedC C B q → Ge.NamedC D B q
    named-below_c done l h = tt
    named-below_c (gen g k q) l h = (same g l.0 ∙ h.0, named-below_c q l.1 h.1)
    named-below_c (cond t q) l h = (named-below t l.0 h.0, named-below_c q l.1 h.1)
