-- The operands of an operator, by their places: the form of each, and nothing where there is none.
use mathlib.Core.Path.{◌≡◌, refl, sym, ap, subst, ◌∙◌}
use mathlib.Core.Bool.{Bool, true, false, and-eq-true_iff}
use mathlib.Core.List.{List}
use Prim.Native.Nat.{ℕ, zero, suc, ◌+◌, ◌≤◌, ◌<◌}
use native.Mathlib.Omega.{arith}
use borrow.Author.Tests.{ltb-true, ltb-false, lt-ltb, le-ltb}
use lib.Dec.{ltb}
use lib.IntN.{pos}
use Rattle.spec_calculus.specs.Lists.{pick}
use Rattle.spec_calculus.specs.Value.{Tables, nth}
use Rattle.spec_calculus.specs.Monoid.{Fold}
use Rattle.spec_calculus.specs.Meaning.{Env}
use Rattle.spec_normal_form.specs.Form.{Form, Forms, num, fnil, fcons, value, values}
use Rattle.spec_normal_form.specs.Bound.{Declared, bound, within, within_f}
use Rattle.spec_normal_form.proofs.GeneratorTables.{Named, NamedF}
use Rattle.base_signed.proofs.SignedWords.{by-test}
use Rattle.base_scratch.specs.Map.{form_words}
use Rattle.form_words.specs.NodeWord.{next, upto_place, branch_place}
use Rattle.base_syntax.specs.declared.Fun.{Fun}
use Rattle.form_words.specs.declared.FormNode.TheVariants.{Operator}
use Rattle.form_words.specs.Look.{Looks}
use Rattle.form_words.specs.FormTree.{form_tree, forms_tree, left}
use Rattle.form_words.proofs.NodeWords.{next_past, look-out, form-is, forms-end, forms-more}

-- operand k; 0 where there is none, as the values have it
unfoldable pub form_nth : ℕ → Forms → Form
form_nth k fnil = num (pos 0)
form_nth zero (fcons t ts) = t
form_nth (suc k) (fcons t ts) = form_nth k ts

pub nth-form : (F : Fold) (T : Tables) (k : ℕ) (ts : Forms) (ρ : Env) → nth k (values F T ts ρ) ≡ value F T (form_nth k ts) ρ
unfolding value nth form_nth
nth-form F T k fnil ρ = refl
nth-form F T zero (fcons t ts) ρ = refl
nth-form F T (suc k) (fcons t ts) ρ = nth-form F T k ts ρ

pub within-nth : (C : Declared) (k : ℕ) (ts : Forms) → within_f C ts ≡ true → within C (form_nth k ts) ≡ true
unfolding within bound form_nth
within-nth C k fnil h = refl
within-nth C zero (fcons t ts) h = ((and-eq-true_iff (within C t) (within_f C ts)).0 h).0
within-nth C (suc k) (fcons t ts) h = within-nth C k ts ((and-eq-true_iff (within C t) (within_f C ts)).0 h).1

pub named-nth : {A : Type 0} (C D : ℕ → A) (k : ℕ) (ts : Forms) → NamedF C D ts → Named C D (form_nth k ts)
unfolding form_nth
named-nth C D k fnil N = tt
named-nth C D zero (fcons t ts) N = N.0
named-nth C D (suc k) (fcons t ts) N = named-nth C D k ts N.1

-- the place of operand k of those from i on
abbrev pub skip : List ℕ → ℕ → ℕ → ℕ
skip s zero i = i
skip s (suc k) i = skip s k (next s i)

pub upto-in : {i e : ℕ} → i < e → upto_place i e ≡ i
unfolding pick
upto-in {i} {e} p = rw (lt-ltb i e p)

pub upto-out : {i e : ℕ} → e ≤ i → upto_place i e ≡ form_words
unfolding pick
upto-out {i} {e} p = rw (le-ltb i e p)

-- the form at a place of the words
pub record FormAt (s : List ℕ) (j : ℕ) (t : Form) : Type 0 where
  pub fuel : ℕ
  pub enough : left j < fuel
  pub is : t ≡ form_tree fuel s j

module _ (s : List ℕ) (e : ℕ) (p : e ≤ form_words) where
  pub skip-out : (k i : ℕ) → e ≤ i → e ≤ skip s k i
  unfolding next
  skip-out zero i l = l
  skip-out (suc k) i l = skip-out k (next s i) (omega (arith, p, l))

  none-at : {j : ℕ} → e ≤ j → FormAt s (upto_place j e) (num (pos 0))
  none-at {j} l = subst (λ (x : ℕ). FormAt s x (num (pos 0))) (sym (upto-out l)) (record { fuel = 1; enough = omega arith; is = sym (form-is (look-out {i = form_words} (omega arith)) 0) })

  none : (k f i : ℕ) → e ≤ i → FormAt s (upto_place (skip s k i) e) (form_nth k (forms_tree (suc f) s i e))
  unfolding form_nth
  none k f i q = subst (λ (ts : Forms). FormAt s (upto_place (skip s k i) e) (form_nth k ts)) (sym (forms-end f s i e q)) (none-at (skip-out k i q))

  pub operand_at : (k f i : ℕ) → left i + 1 < f → FormAt s (upto_place (skip s k i) e) (form_nth k (forms_tree f s i e))
  unfolding form_nth
  operand_at k zero i l = absurd (omega (arith, l))
  operand_at zero (suc f) i l = by-test (ltb i e)
      (λ t. let q = ltb-true i e t in subst (λ (ts : Forms). FormAt s (upto_place i e) (form_nth 0 ts)) (sym (forms-more f s i e q)) (subst (λ (x : ℕ). FormAt s x (form_tree f s i)) (sym (upto-in q)) (record { fuel = f; enough = omega (arith, l); is = refl })))
      (λ t. none 0 f i (ltb-false i e t))
  operand_at (suc k) (suc f) i l = by-test (ltb i e)
      (λ t. let q = ltb-true i e t in
      subst (λ (ts : Forms). FormAt s (upto_place (skip s k (next s i)) e) (form_nth (suc k) ts)) (sym (forms-more f s i e q)) (operand_at k f (next s i) (omega (arith, next_past s i (omega (arith, q, p)), l, q, p))))
      (λ t. none (suc k) f i (ltb-false i e t))

-- ---- branch
module _ (s : List ℕ) (i e : ℕ) {j r : ℕ} (J : j ≡ next s i) where
  pub branch-other : {o : Bool} {l : ℕ} → o ≡ true → l ≡ next s j → r ≡ upto_place l e → r ≡ branch_place s i e o
  unfolding pick
  branch-other h q k = rw h (k ∙ ap (λ (x : ℕ). upto_place x e) (q ∙ ap (next s) J))

  pub branch-first : {o : Bool} → o ≡ false → r ≡ upto_place j e → r ≡ branch_place s i e o
  unfolding pick
  branch-first h k = rw h (k ∙ ap (λ (x : ℕ). upto_place x e) J)

-- ---- where they stand
pub skip-past : (s : List ℕ) (k i : ℕ) → i ≤ form_words → (i ≤ skip s k i) × (skip s k i ≤ form_words)
unfolding next
skip-past s zero i l = (omega arith, l)
skip-past s (suc k) i l = let q = skip-past s k (next s i) (omega arith) in (omega (arith, q.0, l), q.1)

pub upto-past : {i j : ℕ} (e : ℕ) → (i ≤ j) × (j ≤ form_words) → i ≤ upto_place j e
upto-past {i} {j} e l = by-test (ltb j e) (λ t. rw (upto-in (ltb-true j e t)) l.0) (λ t. rw (upto-out (ltb-false j e t)) (omega (arith, l.0, l.1)))

module _ {s : List ℕ} {i : ℕ} {o : Fun} {e : ℕ} (L : Looks s i (Operator o e)) where
  pub operand-behind : (k : ℕ) → i < upto_place (skip s k (i + 1)) e
  operand-behind k = omega (arith, upto-past {i = i + 1} e (skip-past s k (i + 1) (omega (arith, L.inside.0, L.inside.1))))

  pub truth-behind : {j : ℕ} → j ≡ upto_place (i + 1) e → i < j
  truth-behind h = subst (λ (x : ℕ). i < x) (sym h) (operand-behind 0)

  pub branch-past : {j : ℕ} (b : Bool) → j ≡ branch_place s (i + 1) e b → i < j
  unfolding pick
  branch-past true h = subst (λ (x : ℕ). i < x) (sym h) (operand-behind 2)
  branch-past false h = subst (λ (x : ℕ). i < x) (sym h) (operand-behind 1)
