-- A normal form, numbered in written order, is its own normal form.
use mathlib.Core.Path.{◌≡◌, refl, sym, ap, subst, fun_ext, ◌∙◌}
use mathlib.Core.Bool.{Bool, true, false, ◌||◌}
use Prim.Native.Nat.{ℕ, suc, ◌+◌}
use native.Mathlib.Omega.{arith}
use lib.Dec.{eqb, eqb→eq}
use Rattle.spec_calculus.specs.Lists.{upd}
use Rattle.spec_calculus.specs.Syntax.{Collection, Bin, plus, minus, times, equal, less, and, or, Question, as_term}
use Rattle.spec_calculus.specs.Value.{Tables}
use Rattle.spec_checks.specs.Scope.{Scope}
use Rattle.spec_checks.specs.Types.{types_fit}
use Rattle.spec_normal_form.specs.Form.{Form, Forms, Clauses, NormalForm, as_form, fnil, fcons, done, ◌⊕◌, gens, gens_c}
use Rattle.spec_normal_form.specs.Form as Nf
use Rattle.spec_normal_form.specs.Normal.{Sem, row, quote, quotes, idempotent, one, condition, Splice, ranges, part, binary, before, SemEnv, norm, norms, walk, nowhere, normal}
use Rattle.spec_normal_form.proofs.WriteOut.{in_front, splice_of, condition-stays, normal-is-quote}
use Rattle.spec_normal_form.specs.NoRule.{term_of, terms_of, quals_of, question_of, NotAnd, Stays, NoRule, NoRuleL, NoRuleQ, behind, Ordered, OrderedF, OrderedC}
use Rattle.spec_normal_form.proofs.NoRuleApplies.{normal-no-rule, normal-ordered}
use Rattle.spec_normal_form.proofs.EndedIsNormal.{no-rule-form}
use Rattle.spec_normal_form.specs.Rules.{Rewrites}
use Rattle.spec_normal_form.proofs.Context.{same-form, normal-kept}

upd-row : (g n : ℕ) → g ≡ n → upd g (row n) (λ i. row i) ≡ (λ i. row i)
unfolding upd
upd-row g n e = fun_ext (λ y. go y (eqb g y) refl)
  where
    go : (y : ℕ) (b : Bool) → eqb g y ≡ b → upd g (row n) (λ i. row i) y ≡ row y
    go y true p = rw (p, upd) (ap row (sym e ∙ eqb→eq g y (rw p tt)))
    go y false p = rw (p, upd)

-- The two operands of any operator stand one behind the other.
pub quote-binary : (o : Bin) (d e : Sem) (n : ℕ) → quote (binary o d e) n ≡ Nf.bin o (quote d n) (quote e (n + gens (quote d n)))
unfolding quote binary
quote-binary plus d e n = refl
quote-binary minus d e n = refl
quote-binary times d e n = refl
quote-binary equal d e n = refl
quote-binary less d e n = refl
quote-binary and d e n = refl
quote-binary or d e n = refl

condition-binary : (o : Bin) (d e : Sem) (b : Bool) (n : ℕ) → NotAnd o → condition (binary o d e) b n ≡ one (quote (binary o d e) n)
unfolding quote binary condition
condition-binary plus d e b n s = refl
condition-binary minus d e b n s = refl
condition-binary times d e b n s = refl
condition-binary equal d e b n s = refl
condition-binary less d e b n s = refl
condition-binary and d e b n s = absurd s
condition-binary or d e b n s = refl

module _ (K : ℕ → Collection) where
  cond-fixed : (t : Form) (b : Bool) (n : ℕ) → Stays b (term_of t) → quote (norm K (term_of t) nowhere) n ≡ t → condition (norm K (term_of t) nowhere) b n ≡ one t
  unfolding norm quote condition term_of part
  cond-fixed (Nf.num z) b n s e = refl
  cond-fixed (Nf.truth x) b n s e = refl
  cond-fixed (Nf.row g) b n s e = refl
  cond-fixed (Nf.cell i g) b n s e = refl
  cond-fixed (Nf.rec ts) b n s e = ap one e
  cond-fixed (Nf.app f ts) b n s e = ap one e
  cond-fixed (Nf.bin o t u) b n s e = condition-binary o (norm K (term_of t) nowhere) (norm K (term_of u) nowhere) b n s ∙ ap one e
  cond-fixed (Nf.negate t) b n s e = ap one e
  cond-fixed (Nf.comp m q h) b n s e =
      let w : Bool → ℕ → Splice = λ c j. walk K (quals_of q) (c || idempotent m) (λ ε. norm K (term_of h) ε) nowhere j in
      condition-stays m (λ c j. (w c j).clauses) (λ c j. (w c j).head) b n s ∙ ap one e

  mutual
    unfolding norm quote term_of part NoRule Ordered before ◌⊕◌ gens ranges

    fixed : (t : Form) (S : Scope) (n : ℕ) → NoRule (term_of t) → Ordered t S n → quote (norm K (term_of t) nowhere) n ≡ t
    fixed (Nf.num z) S n p o = refl
    fixed (Nf.truth b) S n p o = refl
    fixed (Nf.row g) S n p o = refl
    fixed (Nf.cell i g) S n p o = refl
    fixed (Nf.rec ts) S n p o = ap Nf.rec (fixeds ts S n p o)
    fixed (Nf.app f ts) S n p o = ap (Nf.app f) (fixeds ts S n p o)
    fixed (Nf.bin c s t) S n p o =
        quote-binary c (norm K (term_of s) nowhere) (norm K (term_of t) nowhere) n
        ∙ ap (λ x. Nf.bin c x (quote (norm K (term_of t) nowhere) (n + gens x))) (fixed s S n p.0 o.0) ∙ ap (Nf.bin c s) (fixed t S (n + gens s) p.1 o.1)
    fixed (Nf.negate t) S n p o = ap Nf.negate (fixed t S n p o)
    fixed (Nf.comp m q h) S n p o =
        ap (λ r. Nf.comp m r.clauses (quote r.head (n + gens_c r.clauses))) (walk-fixed q (idempotent m) S n p.0 o.0 (λ ε. norm K (term_of h) ε))
        ∙ ap (Nf.comp m q) (fixed h (behind q S) (n + gens_c q) p.1 o.1)

    fixeds : (ts : Forms) (S : Scope) (n : ℕ) → NoRuleL (terms_of ts) → OrderedF ts S n → quotes (norms K (terms_of ts) nowhere) n ≡ ts
    fixeds fnil S n p o = refl
    fixeds (fcons t ts) S n p o = ap (λ x. fcons x (quotes (norms K (terms_of ts) nowhere) (n + gens x))) (fixed t S n p.0 o.0) ∙ ap (fcons t) (fixeds ts S (n + gens t) p.1 o.1)

    walk-fixed : (q : Clauses) (b : Bool) (S : Scope) (n : ℕ) → NoRuleQ (quals_of q) b → OrderedC q S n → (h : SemEnv → Sem) → walk K (quals_of q) b h nowhere n ≡ splice_of (h nowhere) q
    walk-fixed done b S n p o h = refl
    walk-fixed (Nf.gen g k q) b S n p o h =
        ap (λ ε. in_front (Nf.gen n k done) (walk K (quals_of q) b h ε (n + 1))) (upd-row g n o.0)
        ∙ ap (λ j. in_front (Nf.gen n k done) (walk K (quals_of q) b h nowhere j)) (omega arith)
        ∙ ap (in_front (Nf.gen n k done)) (walk-fixed q b (upd g true S) (suc n) p.1 o.1 h)
        ∙ ap (λ i. splice_of (h nowhere) (Nf.gen i k q)) (sym o.0)
    walk-fixed (Nf.cond t q) b S n p o h =
        ap (λ w. before w n (λ j. walk K (quals_of q) b h nowhere j)) (cond-fixed t b n p.0 (fixed t S n p.1 o.0))
        ∙ ap (λ j. in_front (one t) (walk K (quals_of q) b h nowhere j)) (omega arith)
        ∙ ap (in_front (one t)) (walk-fixed q b S (n + gens t) p.2 o.1 h)

-- A question to which no rule applies and whose generators are numbered from 0 in written order is its own normal form.
pub normal-fixed : (K : ℕ → Collection) (f : NormalForm) → NoRule (as_term (question_of f)) → Ordered (as_form f) (λ g. true) 0 → normal K (question_of f) ≡ f
unfolding term_of
normal-fixed K f p o = same-form (normal K (question_of f)) f (normal-is-quote K (question_of f) ∙ fixed K (as_form f) (λ g. true) 0 p o)

-- So the normal form of the normal form is itself.
pub normal-twice : (K : ℕ → Collection) (q : Question) → normal K (question_of (normal K q)) ≡ normal K q
normal-twice K q = normal-fixed K (normal K q) (normal-no-rule K q) (normal-ordered K q)

-- Document 01: "Applied until none applies .. Generators are renumbered from 0 in written order." Whoever does so, in
-- whatever order, ends with the normal form.
pub rewriting-ends-there : (K : ℕ → Collection) (q : Question) (f : NormalForm) → Rewrites K (as_term q) (as_term (question_of f)) → NoRule (as_term (question_of f)) → Ordered (as_form f) (λ g. true) 0 → f ≡ normal K q
rewriting-ends-there K q f w p o = sym (normal-kept K q (question_of f) w ∙ normal-fixed K f p o)

-- The same of a question r whose types fit (25): it can be written as a form, and if its generators are numbered from 0 in
-- written order, it is the normal form.
pub typed-rewriting-ends-there : (K : ℕ → Collection) (T : Tables) (q r : Question) → Rewrites K (as_term q) (as_term r) → types_fit T r ≡ true → NoRule (as_term r)
    → (f : NormalForm) × (question_of f ≡ r) × (Ordered (as_form f) (λ g. true) 0 → f ≡ normal K q)
typed-rewriting-ends-there K T q r w h p =
    let g = no-rule-form T r h p in
    let f = g.0 in
    let e = sym g.1 in
    (f, g.1, λ o. rewriting-ends-there K q f (subst (λ u. Rewrites K (as_term q) (as_term u)) e w) (subst (λ u. NoRule (as_term u)) e p) o)
