-- A term put in the place of a name, and what comes of it.
use mathlib.Core.Path.{◌≡◌, refl, sym, ap, ap₂, fun_ext, ◌∙◌}
use mathlib.Core.Bool.{Bool, true, false, ◌||◌, true≢false}
use mathlib.Core.List.{List, [], ◌∷◌, ◌++◌}
use Prim.Native.Nat.{ℕ}
use lib.Dec.{eqb, eqb→eq}
use Rattle.spec_calculus.specs.Lists.{pick, upd}
use Rattle.spec_calculus.specs.Syntax.{Collection, Term, Terms, Quals, num, truth, name, field, rec, bin, negate, app, comp, table, tnil, tcons, qnil, gen, bind, cond}
use Rattle.spec_calculus.proofs.Lists.{upd_same, upd_other}
use Rattle.spec_checks.specs.Scope.{Scope, in_scope, binders, binders_l, binders_q}
use Rattle.spec_normal_form.specs.Form.{done}
use Rattle.spec_normal_form.specs.Form as Nf
use Rattle.spec_normal_form.specs.Normal.{Sem, fields, plain, scons, quote, idempotent, condition, ranges, part, binary, applied, before, SemEnv, norm, norms, walk}
use Rattle.spec_normal_form.specs.Rules.{sub, sub_l, sub_q, Fresh}
use Rattle.spec_normal_form.proofs.WriteOut.{splice_of}
use Rattle.spec_normal_form.proofs.Locality.{agree-out, comp-cong, norm-agree}

pub fresh-split : (S : Scope) (l m : List ℕ) → Fresh S (l ++ m) → Fresh S l × Fresh S m
fresh-split S [] m a = (tt, a)
fresh-split S (y ∷ l) m a = let b = fresh-split S l m a.1 in ((a.0, b.0), b.1)

upd-swap : (x y : ℕ) (d e : Sem) (δ : SemEnv) → ¬ (x ≡ y) → upd x d (upd y e δ) ≡ upd y e (upd x d δ)
upd-swap x y d e δ n = fun_ext (λ z. go z (eqb x z) (eqb y z) refl refl)
  where
    go : (z : ℕ) (b c : Bool) → eqb x z ≡ b → eqb y z ≡ c → upd x d (upd y e δ) z ≡ upd y e (upd x d δ) z
    go z true true p q = absurd (n (eqb→eq x z (rw p tt) ∙ sym (eqb→eq y z (rw q tt))))
    go z true false p q = upd_same x d (upd y e δ) z p ∙ sym (upd_other y e (upd x d δ) z q ∙ upd_same x d δ z p)
    go z false true p q = upd_other x d (upd y e δ) z p ∙ upd_same y e δ z q ∙ sym (upd_same y e (upd x d δ) z q)
    go z false false p q = upd_other x d (upd y e δ) z p ∙ upd_other y e δ z q ∙ sym (upd_other y e (upd x d δ) z q ∙ upd_other x d δ z p)

-- Where no name that is bound inside is x or a name that s reads (S has them all), what comes of it is the same as with x
-- standing for what s comes to.
module _ (K : ℕ → Collection) (S : Scope) (x : ℕ) (sx : S x ≡ true) (s : Term) (us : in_scope s S ≡ true) (d : Sem) where
  name-sub : (y : ℕ) (δ : SemEnv) → norm K s δ ≡ d → norm K (pick (eqb x y) s (name y)) δ ≡ upd x d δ y
  unfolding norm pick upd
  name-sub y δ e = go (eqb x y) refl
    where
      go : (b : Bool) → eqb x y ≡ b → norm K (pick (eqb x y) s (name y)) δ ≡ upd x d δ y
      go true p = rw (p, upd) e
      go false p = rw (p, upd)

  -- another name leaves s and x alone
  still : (y : ℕ) (e : Sem) (δ : SemEnv) → S y ≡ false → norm K s δ ≡ d → norm K s (upd y e δ) ≡ d
  still y e δ n p = norm-agree K s S us (upd y e δ) δ (agree-out S y e δ δ n (λ z t. refl)) ∙ p

  swap : (y : ℕ) (e : Sem) (δ : SemEnv) → S y ≡ false → upd x d (upd y e δ) ≡ upd y e (upd x d δ)
  swap y e δ n = upd-swap x y d e δ (λ p. true≢false (sym sx ∙ ap S p ∙ n))

  mutual
    unfolding norm sub binders

    pub sub-ok : (t : Term) → Fresh S (binders t) → (δ : SemEnv) → norm K s δ ≡ d → norm K (sub x s t) δ ≡ norm K t (upd x d δ)
    sub-ok (num z) c δ e = refl
    sub-ok (truth b) c δ e = refl
    sub-ok (name y) c δ e = name-sub y δ e
    sub-ok (field i t) c δ e = ap (part i) (sub-ok t c δ e)
    sub-ok (rec ts) c δ e = ap fields (sub_l-ok ts c δ e)
    sub-ok (app f ts) c δ e = ap (applied f) (sub_l-ok ts c δ e)
    sub-ok (bin o t u) c δ e = let f = fresh-split S (binders t) (binders u) c in ap₂ (binary o) (sub-ok t f.0 δ e) (sub-ok u f.1 δ e)
    sub-ok (negate t) c δ e = ap (λ z. plain (λ n. Nf.negate (quote z n))) (sub-ok t c δ e)
    sub-ok (comp m qs h) c δ e =
        let f = fresh-split S (binders_q qs) (binders h) c in
        comp-cong K m (sub_q x s qs) qs (λ μ. norm K (sub x s h) μ) (λ μ. norm K h μ) δ (upd x d δ)
        (λ b n. walk-sub qs f.0 (b || idempotent m) (λ μ. norm K (sub x s h) μ) (λ μ. norm K h μ) (λ μ g. sub-ok h f.1 μ g) δ n e)
    sub-ok (table k) c δ e = refl

    sub_l-ok : (ts : Terms) → Fresh S (binders_l ts) → (δ : SemEnv) → norm K s δ ≡ d → norms K (sub_l x s ts) δ ≡ norms K ts (upd x d δ)
    sub_l-ok tnil c δ e = refl
    sub_l-ok (tcons t ts) c δ e = let f = fresh-split S (binders t) (binders_l ts) c in ap₂ scons (sub-ok t f.0 δ e) (sub_l-ok ts f.1 δ e)

    pub walk-sub : (qs : Quals) → Fresh S (binders_q qs) → (b : Bool) (h g : SemEnv → Sem) → ((μ : SemEnv) → norm K s μ ≡ d → h μ ≡ g (upd x d μ)) → (δ : SemEnv) (n : ℕ) → norm K s δ ≡ d → walk K (sub_q x s qs) b h δ n ≡ walk K qs b g (upd x d δ) n
    walk-sub qnil c b h g r δ n e = ap (λ z. splice_of z done) (r δ e)
    walk-sub (gen y t qs) c b h g r δ n e =
        let f = fresh-split S (binders t) (y ∷ binders_q qs) c in
        let u = ranges (norm K t (upd x d δ)) b n in
        ap (λ z. before (ranges z b n).clauses n (λ j. walk K (sub_q x s qs) b h (upd y (ranges z b n).head δ) j)) (sub-ok t f.0 δ e)
        ∙ ap (before u.clauses n) (fun_ext λ j. walk-sub qs f.1.1 b h g r (upd y u.head δ) j (still y u.head δ f.1.0 e) ∙ ap (λ ε. walk K qs b g ε j) (swap y u.head δ f.1.0))
    walk-sub (bind y t qs) c b h g r δ n e =
        let f = fresh-split S (binders t) (y ∷ binders_q qs) c in
        let u = norm K t (upd x d δ) in
        ap (λ z. walk K (sub_q x s qs) b h (upd y z δ) n) (sub-ok t f.0 δ e)
        ∙ walk-sub qs f.1.1 b h g r (upd y u δ) n (still y u δ f.1.0 e) ∙ ap (λ ε. walk K qs b g ε n) (swap y u δ f.1.0)
    walk-sub (cond t qs) c b h g r δ n e =
        let f = fresh-split S (binders t) (binders_q qs) c in
        ap (λ z. before (condition z b n) n (λ j. walk K (sub_q x s qs) b h δ j)) (sub-ok t f.0 δ e)
        ∙ ap (before (condition (norm K t (upd x d δ)) b n) n) (fun_ext λ j. walk-sub qs f.1 b h g r δ j e)
