-- Scratches with the same words of a normal form, and behind it of the calendars, hold the same trees.
use mathlib.Core.Path.{◌≡◌, refl, ap, subst}
use mathlib.Core.List.{List}
use Prim.Native.Nat.{ℕ, zero, suc, ◌+◌, ◌-◌, min}
use native.Mathlib.Omega.{arith}
use lib.Dec.{leb}
use lib.ListN.{get_or}
use Rattle.spec_calculus.specs.Lists.{pick}
use Rattle.spec_normal_form.specs.Form.{fnil, fcons}
use Rattle.base_scratch.specs.Map.{form_at, form_words}
use Rattle.base_windows.specs.KeptCalendars.{calendar_in}
use Rattle.base_windows.proofs.ReadBack.{calendars-same}
use Rattle.form_words.specs.NodeWord.{word_at, below_of, next, node_of, node_at}
use Rattle.form_words.specs.FormTree.{clause_of, form_by, clauses_by, head_by, form_tree, forms_tree, clauses_tree, head_tree}

module _ (s t : List ℕ) (w : (i : ℕ) → word_at s i ≡ word_at t i) where
  pub next-same : (i : ℕ) → next s i ≡ next t i
  unfolding next
  next-same i = ap (λ x. min (i + 1 + below_of x) form_words) (w i)

  pub hours-same : calendar_in s ≡ calendar_in t
  hours-same = calendars-same s t (λ j l. subst (λ x. get_or s x 0 ≡ get_or t x 0) (omega arith) (w (j - form_at)))

  pub node-same : (i : ℕ) → node_at s i ≡ node_at t i
  unfolding node_at node_of
  node-same i = rw (w i, next-same i, next-same (i + 1))

  mutual
    unfolding form_tree

    pub form-same : (f i : ℕ) → form_tree f s i ≡ form_tree f t i
    form-same zero i = refl
    form-same (suc f) i =
        λ p. form_by (hours-same p) (λ j. form-same f j p) (λ j e. forms-same f j e p) (λ j. clauses-same f j p) (λ j. head-same f j p) i (node-same i p)

    pub forms-same : (f i e : ℕ) → forms_tree f s i e ≡ forms_tree f t i e
    forms-same zero i e = refl
    forms-same (suc f) i e = λ p. pick (leb e i) fnil (fcons (form-same f i p) (forms-same f (next-same i p) e p))

    pub clauses-same : (f i : ℕ) → clauses_tree f s i ≡ clauses_tree f t i
    clauses-same zero i = refl
    clauses-same (suc f) i = λ p. clauses_by (λ j. form-same f j p) (λ j. clauses-same f j p) i (clause_of (node-same i p))

    pub head-same : (f i : ℕ) → head_tree f s i ≡ head_tree f t i
    head-same zero i = refl
    head-same (suc f) i = λ p. head_by (λ j. form-same f j p) (λ j. head-same f j p) i (clause_of (node-same i p))
