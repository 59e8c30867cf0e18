-- Each of document 01's rules leaves what a term comes to the same.
use mathlib.Core.Path.{◌≡◌, refl, sym, ap, fun_ext, ◌∙◌}
use mathlib.Core.Bool.{Bool, true, false, ◌||◌, false≢true}
use mathlib.Core.List.{◌++◌}
use Prim.Native.Nat.{ℕ, zero, suc, ◌+◌}
use native.Mathlib.Omega.{arith}
use Rattle.spec_calculus.specs.Lists.{upd}
use Rattle.spec_calculus.specs.Syntax.{Collection, list, bag, set, Monoid, of, sum, max, min, some, all, and, Term, Terms, Quals, name, field, rec, bin, comp, table, tnil, tcons, qnil, gen, bind, cond}
use Rattle.spec_calculus.proofs.Lists.{upd-hit}
use Rattle.spec_calculus.proofs.Truths.{or_right}
use Rattle.spec_checks.specs.Scope.{Scope, in_scope, binders, binders_q}
use Rattle.spec_checks.specs.Types.{may_stand}
use Rattle.spec_normal_form.specs.Form.{done, ◌⊕◌, gens, gens_c}
use Rattle.spec_normal_form.specs.Form as Nf
use Rattle.spec_normal_form.specs.Normal.{Sem, row, nested, idempotent, gives_way, condition, Splice, ranges, nth, part, binary, before, SemEnv, norm, walk}
use Rattle.spec_normal_form.specs.Rules.{◌⊞◌, own_names, term_at, ReadsOnly, only, sub, sub_q, Fresh, Rule, bound_name, record_field, bare_table, and_condition, flat_generator, some_condition, rename}
use Rattle.spec_normal_form.proofs.WriteOut.{in_front, before-append}
use Rattle.spec_normal_form.proofs.Locality.{upd-grows, Agree, agree-upd, agree-out, comp-cong, norm-agree, walk-agree}
use Rattle.spec_normal_form.proofs.Substitution.{fresh-split, sub-ok, walk-sub}

-- a set stands only where repeats do not count
may-stand-idempotent : (c : Collection) (m : Monoid) → may_stand c m ≡ true → idempotent (of c) ≡ true → idempotent m ≡ true
unfolding may_stand idempotent
may-stand-idempotent list m h e = absurd (false≢true e)
may-stand-idempotent bag m h e = absurd (false≢true e)
may-stand-idempotent set (of list) h e = h
may-stand-idempotent set (of bag) h e = h
may-stand-idempotent set (of set) h e = h
may-stand-idempotent set sum h e = h
may-stand-idempotent set max h e = h
may-stand-idempotent set min h e = h
may-stand-idempotent set some h e = h
may-stand-idempotent set all h e = h

or-absorbs : (b x y : Bool) → (x ≡ true → y ≡ true) → ((b || y) || x) ≡ (b || y)
or-absorbs true x y h = refl
or-absorbs false true y h = sym (rw (h refl))
or-absorbs false false true h = refl
or-absorbs false false false h = refl

module _ (K : ℕ → Collection) where
  -- qualifiers in front of a rest: first their clauses, then the rest over what the head comes to behind them
  splice-walk : (q : Quals) (S : Scope) → Fresh S (own_names q) → (r : Quals) (b : Bool) (t h : SemEnv → Sem) (k : Sem → ℕ → Splice) (δ₀ : SemEnv)
      → ((ε : SemEnv) (j : ℕ) → Agree S ε δ₀ → walk K r b h ε j ≡ k (t ε) j) → (δ : SemEnv) (n : ℕ) → Agree S δ δ₀
      → before (walk K q b t δ n).clauses n (k (walk K q b t δ n).head) ≡ walk K (q ⊞ r) b h δ n
  unfolding norm before ◌⊞◌ ◌⊕◌ gens own_names
  splice-walk qnil S a r b t h k δ₀ e δ n g = ap (k (t δ)) (omega arith) ∙ sym (e δ n g)
  splice-walk (gen x u q) S a r b t h k δ₀ e δ n g =
      let s = ranges (norm K u δ) b n in
      let i = n + gens_c s.clauses in
      let w = walk K q b t (upd x s.head δ) i in
      before-append s.clauses w.clauses n (k w.head) ∙ ap (in_front s.clauses) (splice-walk q S a.1 r b t h k δ₀ e (upd x s.head δ) i (agree-out S x s.head δ δ₀ a.0 g))
  splice-walk (bind x u q) S a r b t h k δ₀ e δ n g = splice-walk q S a.1 r b t h k δ₀ e (upd x (norm K u δ) δ) n (agree-out S x (norm K u δ) δ δ₀ a.0 g)
  splice-walk (cond u q) S a r b t h k δ₀ e δ n g =
      let v = condition (norm K u δ) b n in
      let i = n + gens_c v in
      let w = walk K q b t δ i in
      before-append v w.clauses n (k w.head) ∙ ap (in_front v) (splice-walk q S a r b t h k δ₀ e δ i g)

  -- in any place of a comprehension's qualifiers
  walk-prefix : (q a c : Quals) (b : Bool) (h g : SemEnv → Sem) → ((δ : SemEnv) (n : ℕ) → walk K a b h δ n ≡ walk K c b g δ n) → (δ : SemEnv) (n : ℕ) → walk K (q ⊞ a) b h δ n ≡ walk K (q ⊞ c) b g δ n
  unfolding norm ◌⊞◌
  walk-prefix qnil a c b h g e δ n = e δ n
  walk-prefix (gen x t q) a c b h g e δ n = ap (before (ranges (norm K t δ) b n).clauses n) (fun_ext λ j. walk-prefix q a c b h g e (upd x (ranges (norm K t δ) b n).head δ) j)
  walk-prefix (bind x t q) a c b h g e δ n = walk-prefix q a c b h g e (upd x (norm K t δ) δ) n
  walk-prefix (cond t q) a c b h g e δ n = ap (before (condition (norm K t δ) b n) n) (fun_ext λ j. walk-prefix q a c b h g e δ j)

  comp-prefix : (m : Monoid) (q a c : Quals) (h g : Term) → ((b : Bool) (δ : SemEnv) (n : ℕ) → walk K a (b || idempotent m) (λ ε. norm K h ε) δ n ≡ walk K c (b || idempotent m) (λ ε. norm K g ε) δ n)
      → (δ : SemEnv) → norm K (comp m (q ⊞ a) h) δ ≡ norm K (comp m (q ⊞ c) g) δ
  unfolding norm
  comp-prefix m q a c h g e δ = comp-cong K m (q ⊞ a) (q ⊞ c) (λ ε. norm K h ε) (λ ε. norm K g ε) δ δ (λ b n. walk-prefix q a c (b || idempotent m) (λ ε. norm K h ε) (λ ε. norm K g ε) (e b) δ n)

  -- (1)
  bind-walk : (S : Scope) (b : Bool) (x : ℕ) (s : Term) (q₃ : Quals) (h : Term) → S x ≡ true → in_scope s S ≡ true → Fresh S (binders_q q₃ ++ binders h) → (d : Sem) (δ : SemEnv) (n : ℕ) → norm K s δ ≡ d
      → walk K (sub_q x s q₃) b (λ ε. norm K (sub x s h) ε) δ n ≡ walk K q₃ b (λ ε. norm K h ε) (upd x d δ) n
  bind-walk S b x s q₃ h sx u a d δ n e =
      let f = fresh-split S (binders_q q₃) (binders h) a in
      walk-sub K S x sx s u d q₃ f.0 b (λ ε. norm K (sub x s h) ε) (λ ε. norm K h ε) (λ μ g. sub-ok K S x sx s u d h f.1 μ g) δ n e

  -- (2)
  field-ok : (i : ℕ) (ts : Terms) (δ : SemEnv) → norm K (field i (rec ts)) δ ≡ norm K (term_at i ts) δ
  unfolding norm part nth term_at
  field-ok i tnil δ = refl
  field-ok zero (tcons t ts) δ = refl
  field-ok (suc i) (tcons t ts) δ = field-ok i ts δ

  -- (3)
  table-ok : (k x : ℕ) (δ : SemEnv) → norm K (table k) δ ≡ norm K (comp (of (K k)) (gen x (table k) qnil) (name x)) δ
  unfolding norm ranges before ◌⊕◌
  table-ok k x δ = ap (nested (of (K k)) (λ b n. Nf.gen n k done)) (fun_ext λ b. fun_ext λ n. sym (upd-hit x (row n) δ))

  -- (4)
  and-walk : (b : Bool) (s t : Term) (q₃ : Quals) (h : SemEnv → Sem) (δ : SemEnv) (n : ℕ) → walk K (cond (bin and s t) q₃) b h δ n ≡ walk K (cond s (cond t q₃)) b h δ n
  unfolding norm condition before binary
  and-walk b s t q₃ h δ n = let w = condition (norm K s δ) b n in before-append w (condition (norm K t δ) b (n + gens_c w)) n (λ j. walk K q₃ b h δ j)

  -- (5)
  gen-walk : (S : Scope) (b : Bool) (m i : Monoid) → (idempotent i ≡ true → idempotent m ≡ true) → (x : ℕ) (q₂ : Quals) (t : Term) (q₃ : Quals) (h : Term) → Fresh S (own_names q₂) → ReadsOnly q₃ h (upd x true S) → (δ : SemEnv) (n : ℕ)
      → walk K (gen x (comp i q₂ t) q₃) (b || idempotent m) (λ ε. norm K h ε) δ n ≡ walk K (q₂ ⊞ bind x t q₃) (b || idempotent m) (λ ε. norm K h ε) δ n
  unfolding norm ranges
  gen-walk S b m i f x q₂ t q₃ h a u δ n =
      let c = b || idempotent m in
      let H : SemEnv → Sem = λ ε. norm K h ε in
      let G : SemEnv → Sem = λ ε. norm K t ε in
      let k : Sem → ℕ → Splice = λ d j. walk K q₃ c H (upd x d δ) j in
      ap (λ z. before (walk K q₂ z G δ n).clauses n (k (walk K q₂ z G δ n).head)) (or-absorbs b (idempotent i) (idempotent m) f)
      ∙ splice-walk q₂ S a (bind x t q₃) c G H k δ
      (λ ε j g. walk-agree K q₃ (λ R. in_scope h R) (upd x true S) u c H H (λ R v μ ν o. norm-agree K h R v μ ν o) (upd x (norm K t ε) ε) (upd x (norm K t ε) δ) j (agree-upd S x (norm K t ε) ε δ g))
      δ n (λ y s. refl)

  -- (6)
  some_walk : (S : Scope) (b : Bool) → b ≡ true → (q₂ : Quals) (t : Term) (q₃ : Quals) (h : Term) → Fresh S (own_names q₂) → ReadsOnly q₃ h S → (δ : SemEnv) (n : ℕ)
      → walk K (cond (comp some q₂ t) q₃) b (λ ε. norm K h ε) δ n ≡ walk K (q₂ ⊞ cond t q₃) b (λ ε. norm K h ε) δ n
  unfolding norm condition gives_way idempotent before
  some_walk S false p q₂ t q₃ h a u δ n = absurd (false≢true p)
  some_walk S true p q₂ t q₃ h a u δ n =
      let H : SemEnv → Sem = λ ε. norm K h ε in
      let G : SemEnv → Sem = λ ε. norm K t ε in
      let s = walk K q₂ true G δ n in
      let k : Sem → ℕ → Splice = λ d j. before (condition d true j) j (λ i. walk K q₃ true H δ i) in
      before-append s.clauses (condition s.head true (n + gens_c s.clauses)) n (λ j. walk K q₃ true H δ j)
      ∙ splice-walk q₂ S a (cond t q₃) true G H k δ
      (λ ε j g. ap (before (condition (norm K t ε) true j) j) (fun_ext λ i. walk-agree K q₃ (λ R. in_scope h R) S u true H H (λ R v μ ν o. norm-agree K h R v μ ν o) ε δ i g))
      δ n (λ y v. refl)

  -- renaming
  rename-walk : (S : Scope) (b : Bool) (x y : ℕ) (t : Term) (q₃ : Quals) (h : Term) → S y ≡ false → ReadsOnly q₃ h (upd x true S) → Fresh (only x y) (binders_q q₃ ++ binders h) → (δ : SemEnv) (n : ℕ)
      → walk K (gen x t q₃) b (λ ε. norm K h ε) δ n ≡ walk K (gen y t (sub_q x (name y) q₃)) b (λ ε. norm K (sub x (name y) h) ε) δ n
  unfolding norm in_scope
  rename-walk S b x y t q₃ h o u a δ n =
      let s = ranges (norm K t δ) b n in
      let d = s.head in
      let H : SemEnv → Sem = λ ε. norm K h ε in
      ap (before s.clauses n) (fun_ext λ j. sym (
      bind-walk (only x y) b x (name y) q₃ h (upd-hit x true (upd y true (λ z. false))) (upd-grows x (upd y true (λ z. false)) y (upd-hit y true (λ z. false))) a d (upd y d δ) j (upd-hit y d δ)
      ∙ walk-agree K q₃ (λ R. in_scope h R) (upd x true S) u b H H (λ R v μ ν g. norm-agree K h R v μ ν g) (upd x d (upd y d δ)) (upd x d δ) j (agree-upd S x d (upd y d δ) δ (agree-out S y d δ δ o (λ z g. refl)))))

  -- Each rule leaves what a term comes to the same, whatever its names stand for.
  pub rule-keeps : {s t : Term} → Rule K s t → (δ : SemEnv) → norm K s δ ≡ norm K t δ
  unfolding norm
  rule-keeps (bound_name S m q₁ x s q₃ h sx u a) δ = comp-prefix m q₁ (bind x s q₃) (sub_q x s q₃) h (sub x s h) (λ b ε n. sym (bind-walk S (b || idempotent m) x s q₃ h sx u a (norm K s ε) ε n refl)) δ
  rule-keeps (record_field i ts) δ = field-ok i ts δ
  rule-keeps (bare_table k x) δ = table-ok k x δ
  rule-keeps (and_condition m q₁ s t q₃ h) δ = comp-prefix m q₁ (cond (bin and s t) q₃) (cond s (cond t q₃)) h h (λ b ε n. and-walk (b || idempotent m) s t q₃ (λ μ. norm K h μ) ε n) δ
  rule-keeps (flat_generator S m q₁ x c q₂ t q₃ h v a u) δ = comp-prefix m q₁ (gen x (comp (of c) q₂ t) q₃) (q₂ ⊞ bind x t q₃) h h (λ b ε n. gen-walk S b m (of c) (may-stand-idempotent c m v) x q₂ t q₃ h a u ε n) δ
  rule-keeps (some_condition S m q₁ q₂ t q₃ h v a u) δ = comp-prefix m q₁ (cond (comp some q₂ t) q₃) (q₂ ⊞ cond t q₃) h h (λ b ε n. some_walk S (b || idempotent m) (or_right b (idempotent m) v) q₂ t q₃ h a u ε n) δ
  rule-keeps (rename S m q₁ x y t q₃ h o u a) δ = comp-prefix m q₁ (gen x t q₃) (gen y t (sub_q x (name y) q₃)) h (sub x (name y) h) (λ b ε n. rename-walk S (b || idempotent m) x y t q₃ h o u a ε n) δ
