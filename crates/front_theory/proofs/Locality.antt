-- What a node comes to depends on the entries of the comprehensions around it alone, and on no fuel: the comparison of `Comparison`,
-- through the view that tells everything apart.
use mathlib.Core.Path.{◌≡◌, refl, sym, ap, ap₂, fun_ext, ◌∙◌}
use mathlib.Core.Bool.{Bool}
use Prim.Native.Nat.{ℕ, suc, ◌+◌, ◌<◌, ◌≤◌}
use native.Mathlib.Omega.{arith}
use Rattle.spec_calculus.specs.Syntax.{Collection}
use Rattle.spec_calculus.proofs.Lists.{upd-hit, upd-miss}
use Rattle.spec_normal_form.specs.Form.{Form, Clauses}
use Rattle.spec_normal_form.specs.Normal.{Sem, Sems, row, fields, both, nested, plain, snil, scons}
use Rattle.front_theory.specs.NodeTable.{Nodes, PostOrder}
use Rattle.front_theory.specs.NodeForms.{Entry, Env, enter, Offsets, bound_of, sem_of, sem_at, sem}
use Rattle.front_theory.proofs.Renumbering.{renumber-same, renumber-same_c}
use Rattle.front_theory.proofs.Comparison.{View, seen, SameForm, SameClauses, Near, NearL, CloseO, NearA, bound-near, sem-near, at-near}

abbrev pub exact : View
exact = seen (λ n. n) (λ n j k e. ap (λ a. a + k) e)

pub alike-equal : (t u : Form) → SameForm exact t u → t ≡ u
alike-equal t u e = sym (renumber-same t) ∙ e ∙ renumber-same u

alike-equal_c : (w q : Clauses) → SameClauses exact w q → w ≡ q
alike-equal_c w q e = sym (renumber-same_c w) ∙ e ∙ renumber-same_c q

mutual
  unfolding Near

  pub near-equal : (d y : Sem) → Near exact d y → d ≡ y
  near-equal (row g) y s = ap row s.1 ∙ sym s.2
  near-equal (fields ds) y s = ap fields (near-equal_l ds s.0 s.1) ∙ sym s.2
  near-equal (both a b) y s = ap₂ both (near-equal a s.0 s.2) (near-equal b s.1 s.3) ∙ sym s.4
  near-equal (nested m q h) y s =
      ap₂ (nested m) (fun_ext λ b. fun_ext λ n. alike-equal_c (q b n) (s.0 b n) (s.2 b n n refl)) (fun_ext λ b. fun_ext λ n. near-equal (h b n) (s.1 b n) (s.3 b b n n refl refl)) ∙ sym s.4
  near-equal (plain f) y s = ap plain (fun_ext λ n. alike-equal (f n) (s.0 n) (s.1 n n refl)) ∙ sym s.2

  near-equal_l : (ds es : Sems) → NearL exact ds es → ds ≡ es
  near-equal_l snil es s = sym s
  near-equal_l (scons d ds) es s = ap₂ scons (near-equal d s.0 s.2) (near-equal_l ds s.1 s.3) ∙ sym s.4

-- Environments that agree on the entries below depth D.
abbrev pub Agree : ℕ → Env → Env → Type 0
Agree D e e' = (d : ℕ) → d < D → e d ≡ e' d

-- below the entered depth nothing changes
pub agree-enter : (D n : ℕ) (v : Bool) (e : Env) → Agree D (enter D n v e) e
agree-enter D n v e d l = upd-miss D (record { base = n; flag = v }) e d l

pub at-enter : (D n : ℕ) (v : Bool) (e : Env) → enter D n v e D ≡ record { base = n; flag = v }
at-enter D n v e = upd-hit D (record { base = n; flag = v }) e

abbrev close : {D : ℕ} {e e' : Env} → Agree D e e' → (d : ℕ) → d < D → ((e d).flag ≡ (e' d).flag) × ((e d).base ≡ (e' d).base)
close a d l = (ap (λ (r : Entry). r.flag) (a d l), ap (λ (r : Entry). r.base) (a d l))

same-offsets : (off : Offsets) → CloseO exact off off
same-offsets off x b c n j v p = ap₂ (off x) v p

module _ (K : ℕ → Collection) (N : Nodes) (P : PostOrder N) (off : Offsets) where
  -- at any two fuels above i, in any two environments that agree below D
  pub at_local : (f g i : ℕ) → i < f → i < g → (D : ℕ) (e e' : Env) → Agree D e e' → sem_at K N off f i D e ≡ sem_at K N off g i D e'
  at_local f g i l k D e e' a = near-equal (sem_at K N off f i D e) (sem_at K N off g i D e') (at-near K N P exact off off (same-offsets off) f g i l k D e e' (close a))

  readings : (f g i : ℕ) → i ≤ f → i ≤ g → NearA exact i (λ j. sem_at K N off f j) (λ j. sem_at K N off g j)
  readings f g i l k c p D e e' E = at-near K N P exact off off (same-offsets off) f g c (omega (arith, l, p)) (omega (arith, k, p)) D e e' E

  -- the same of what qualifier x binds at depth d
  pub bound-local : (f x d : ℕ) → x ≤ f → (e e' : Env) → Agree (suc d) e e' → bound_of off (λ j. sem_at K N off f j) x d e (N x) ≡ bound_of off (λ j. sem_at K N off f j) x d e' (N x)
  bound-local f x d l e e' a = near-equal (bound_of off (λ j. sem_at K N off f j) x d e (N x)) (bound_of off (λ j. sem_at K N off f j) x d e' (N x))
      (bound-near exact off off (same-offsets off) (λ j. sem_at K N off f j) (λ j. sem_at K N off f j) x d e e' (N x) (readings f f x l l) (close a) (P x))

  -- A node at depth D sees the entries below D alone.
  pub sem-local : (i D : ℕ) (e e' : Env) → Agree D e e' → sem K N off i D e ≡ sem K N off i D e'
  unfolding sem
  sem-local i D e e' a = at_local (suc i) (suc i) i (omega arith) (omega arith) D e e' a

  -- What a node comes to, from what the nodes before it come to: from here on no fuel.
  pub sem_is : (i D : ℕ) (e : Env) → sem K N off i D e ≡ sem_of K N off (sem K N off) (N i) D e
  unfolding sem sem_at
  sem_is i D e = near-equal (sem_of K N off (λ j. sem_at K N off i j) (N i) D e) (sem_of K N off (sem K N off) (N i) D e)
      (sem-near K N P exact off off (same-offsets off) (λ j. sem_at K N off i j) (sem K N off) i
      (λ c p a u u' E. at-near K N P exact off off (same-offsets off) i (suc c) c p (omega arith) a u u' E) (N i) (P i) D e e (λ d l. (refl, refl)))
