-- What a term comes to depends on the names that it reads, and on nothing else.
use mathlib.Core.Path.{◌≡◌, refl, ap, ap₂, fun_ext, ◌∙◌}
use mathlib.Core.Bool.{Bool, true, false, ◌||◌}
use mathlib.Mathlib.Data.Bool.Basic.{and_elim_left, and_elim_right}
use Prim.Native.Nat.{ℕ}
use lib.Dec.{eqb, eqb→eq}
use Rattle.spec_calculus.specs.Lists.{upd}
use Rattle.spec_calculus.specs.Syntax.{Collection, Monoid, Term, Terms, Quals, num, truth, name, field, rec, bin, negate, app, comp, table, tnil, tcons, qnil, gen, bind, cond}
use Rattle.spec_calculus.proofs.Lists.{upd_other}
use Rattle.spec_checks.specs.Scope.{Scope, in_scope, in_scopes, in_scope_q}
use Rattle.spec_normal_form.specs.Form.{done}
use Rattle.spec_normal_form.specs.Form as Nf
use Rattle.spec_normal_form.specs.Normal.{Sem, fields, nested, plain, scons, quote, idempotent, condition, ranges, part, binary, before, SemEnv, norm, norms, walk, applied}
use Rattle.spec_normal_form.proofs.WriteOut.{splice_of}

-- scopes grow
abbrev pub Grows : Scope → Scope → Type 0
Grows S R = (g : ℕ) → S g ≡ true → R g ≡ true

pub upd-grows : (x : ℕ) (S : Scope) → Grows S (upd x true S)
unfolding upd
upd-grows x S g s = go (eqb x g) refl
  where
    go : (b : Bool) → eqb x g ≡ b → upd x true S g ≡ true
    go true p = rw (p, upd)
    go false p = rw (p, upd) s

-- environments that agree on the names of S
abbrev pub Agree : Scope → SemEnv → SemEnv → Type 0
Agree S δ ε = (y : ℕ) → S y ≡ true → δ y ≡ ε y

pub agree-upd : (S : Scope) (x : ℕ) (d : Sem) (δ ε : SemEnv) → Agree S δ ε → Agree (upd x true S) (upd x d δ) (upd x d ε)
unfolding upd
agree-upd S x d δ ε h y = go (eqb x y) refl
  where
    go : (b : Bool) → eqb x y ≡ b → upd x true S y ≡ true → upd x d δ y ≡ upd x d ε y
    go true p = rw (p, upd) (λ s. refl)
    go false p = rw (p, upd) (h y)

pub agree-out : (S : Scope) (x : ℕ) (d : Sem) (δ ε : SemEnv) → S x ≡ false → Agree S δ ε → Agree S (upd x d δ) ε
agree-out S x d δ ε n h y s = go (eqb x y) refl
  where
    go : (b : Bool) → eqb x y ≡ b → upd x d δ y ≡ ε y
    go true p = let e : x ≡ y = eqb→eq x y (rw p tt) in let f : S x ≡ S y = ap S e in cc
    go false p = upd_other x d δ y p ∙ h y s

module _ (K : ℕ → Collection) where
  -- comprehensions whose qualifiers come to the same
  pub comp-cong : (m : Monoid) (a c : Quals) (h g : SemEnv → Sem) (δ ε : SemEnv) → ((b : Bool) (n : ℕ) → walk K a (b || idempotent m) h δ n ≡ walk K c (b || idempotent m) g ε n)
      → nested m (λ b n. (walk K a (b || idempotent m) h δ n).clauses) (λ b n. (walk K a (b || idempotent m) h δ n).head) ≡ nested m (λ b n. (walk K c (b || idempotent m) g ε n).clauses) (λ b n. (walk K c (b || idempotent m) g ε n).head)
  comp-cong m a c h g δ ε e = ap₂ (nested m) (fun_ext λ b. fun_ext λ n. ap (λ s. s.clauses) (e b n)) (fun_ext λ b. fun_ext λ n. ap (λ s. s.head) (e b n))

  mutual
    unfolding norm in_scope

    pub norm-agree : (t : Term) (S : Scope) → in_scope t S ≡ true → (δ ε : SemEnv) → Agree S δ ε → norm K t δ ≡ norm K t ε
    norm-agree (num z) S u δ ε a = refl
    norm-agree (truth b) S u δ ε a = refl
    norm-agree (name x) S u δ ε a = a x u
    norm-agree (field i t) S u δ ε a = ap (part i) (norm-agree t S u δ ε a)
    norm-agree (rec ts) S u δ ε a = ap fields (norms-agree ts S u δ ε a)
    norm-agree (app f ts) S u δ ε a = ap (applied f) (norms-agree ts S u δ ε a)
    norm-agree (bin o s t) S u δ ε a = ap₂ (binary o) (norm-agree s S (and_elim_left (in_scope s S) (in_scope t S) u) δ ε a) (norm-agree t S (and_elim_right (in_scope s S) (in_scope t S) u) δ ε a)
    norm-agree (negate t) S u δ ε a = ap (λ d. plain (λ n. Nf.negate (quote d n))) (norm-agree t S u δ ε a)
    norm-agree (comp m qs t) S u δ ε a = comp-cong m qs qs (λ μ. norm K t μ) (λ μ. norm K t μ) δ ε
        (λ b n. walk-agree qs (λ R. in_scope t R) S u (b || idempotent m) (λ μ. norm K t μ) (λ μ. norm K t μ) (λ R v μ ν f. norm-agree t R v μ ν f) δ ε n a)
    norm-agree (table k) S u δ ε a = refl

    norms-agree : (ts : Terms) (S : Scope) → in_scopes ts S ≡ true → (δ ε : SemEnv) → Agree S δ ε → norms K ts δ ≡ norms K ts ε
    norms-agree tnil S u δ ε a = refl
    norms-agree (tcons t ts) S u δ ε a = ap₂ scons (norm-agree t S (and_elim_left (in_scope t S) (in_scopes ts S) u) δ ε a) (norms-agree ts S (and_elim_right (in_scope t S) (in_scopes ts S) u) δ ε a)

    pub walk-agree : (qs : Quals) (k : Scope → Bool) (S : Scope) → in_scope_q qs k S ≡ true → (b : Bool) (h g : SemEnv → Sem)
        → ((R : Scope) → k R ≡ true → (δ ε : SemEnv) → Agree R δ ε → h δ ≡ g ε) → (δ ε : SemEnv) (n : ℕ) → Agree S δ ε → walk K qs b h δ n ≡ walk K qs b g ε n
    walk-agree qnil k S u b h g r δ ε n a = ap (λ d. splice_of d done) (r S u δ ε a)
    walk-agree (gen x t qs) k S u b h g r δ ε n a =
        let s = ranges (norm K t ε) b n in
        ap (λ d. before (ranges d b n).clauses n (λ j. walk K qs b h (upd x (ranges d b n).head δ) j)) (norm-agree t S (and_elim_left (in_scope t S) (in_scope_q qs k (upd x true S)) u) δ ε a)
        ∙ ap (before s.clauses n) (fun_ext λ j. walk-agree qs k (upd x true S) (and_elim_right (in_scope t S) (in_scope_q qs k (upd x true S)) u) b h g r (upd x s.head δ) (upd x s.head ε) j (agree-upd S x s.head δ ε a))
    walk-agree (bind x t qs) k S u b h g r δ ε n a =
        ap (λ d. walk K qs b h (upd x d δ) n) (norm-agree t S (and_elim_left (in_scope t S) (in_scope_q qs k (upd x true S)) u) δ ε a)
        ∙ walk-agree qs k (upd x true S) (and_elim_right (in_scope t S) (in_scope_q qs k (upd x true S)) u) b h g r (upd x (norm K t ε) δ) (upd x (norm K t ε) ε) n (agree-upd S x (norm K t ε) δ ε a)
    walk-agree (cond t qs) k S u b h g r δ ε n a =
        ap (λ d. before (condition d b n) n (λ j. walk K qs b h δ j)) (norm-agree t S (and_elim_left (in_scope t S) (in_scope_q qs k S) u) δ ε a)
        ∙ ap (before (condition (norm K t ε) b n) n) (fun_ext λ j. walk-agree qs k S (and_elim_right (in_scope t S) (in_scope_q qs k S) u) b h g r δ ε j a)
