-- Names from a number on, below a number, and apart: what lists of binders, scopes and renamed terms have of them.
use mathlib.Core.Path.{◌≡◌, refl, sym, ap, ap₂, subst, ◌∙◌}
use mathlib.Core.Bool.{Bool, true, false}
use mathlib.Core.List.{List, [], ◌∷◌, ◌++◌}
use Prim.Native.Nat.{ℕ, suc, ◌+◌, ◌≤◌, ◌<◌}
use native.Mathlib.Omega.{arith}
use lib.Dec.{eqb, eqb→eq, ltb, ltb→lt, nltb→le}
use lib.ListN.{length}
use Rattle.spec_calculus.specs.Lists.{pick, upd}
use Rattle.spec_calculus.specs.Syntax.{Monoid, Term, Terms, Quals, num, truth, name, field, rec, bin, negate, app, comp, table, tnil, tcons, qnil, gen, bind, cond}
use Rattle.spec_calculus.specs.Value.{Tables}
use Rattle.spec_calculus.proofs.Lists.{upd_same, upd_other, upd-hit}
use Rattle.spec_checks.specs.Scope.{Scope, in_scope, binders, binders_l, binders_q}
use Rattle.spec_checks.specs.Types.{Ty, Typed, has, Context}
use Rattle.spec_checks.proofs.Judgement.{Has, HasQ}
use Rattle.spec_normal_form.specs.Rules.{◌⊞◌, sub, sub_l, sub_q, Fresh, only, ReadsOnly}
use Rattle.spec_normal_form.proofs.Substitution.{fresh-split}
use Rattle.spec_rewriting.proofs.Places.{◌⊟◌}
use Rattle.spec_rewriting.proofs.Weights.{weigh, weigh_q, Weights, less-upd, less-out, weigh-less, weigh_q-less, weigh-sub, weigh_q-sub}
use Rattle.spec_rewriting.proofs.Types.{Holds, holds-upd, has_q-scope, has-scope, has_sub, has_q-sub}

-- n, n + 1, n + 2 ..
abbrev pub Up : ℕ → List ℕ → Type 0
Up n [] = Unit {0}
Up n (x ∷ l) = (x ≡ n) × Up (suc n) l

-- all below n
abbrev pub Under : ℕ → List ℕ → Type 0
Under n [] = Unit {0}
Under n (x ∷ l) = (x < n) × Under n l

pub up-append : (n : ℕ) (a b : List ℕ) → Up n a → Up (n + length a) b → Up n (a ++ b)
up-append n [] b p q = subst (λ j. Up j b) (omega arith) q
up-append n (x ∷ a) b p q = (p.0, up-append (suc n) a b p.1 (subst (λ j. Up j b) (omega arith) q))

pub up_split : (n : ℕ) (a b : List ℕ) → Up n (a ++ b) → Up n a × Up (n + length a) b
up_split n [] b p = (tt, subst (λ j. Up j b) (omega arith) p)
up_split n (x ∷ a) b p = let s = up_split (suc n) a b p.1 in ((p.0, s.0), subst (λ j. Up j b) (omega arith) s.1)

pub under_split : (n : ℕ) (a b : List ℕ) → Under n (a ++ b) → Under n a × Under n b
under_split n [] b p = (tt, p)
under_split n (x ∷ a) b p = let s = under_split n a b p.1 in ((p.0, s.0), s.1)

pub under-append : (n : ℕ) (a b : List ℕ) → Under n a → Under n b → Under n (a ++ b)
under-append n [] b p q = q
under-append n (x ∷ a) b p q = (p.0, under-append n a b p.1 q)

pub under_more : (n j : ℕ) (l : List ℕ) → n ≤ j → Under n l → Under j l
under_more n j [] e p = tt
under_more n j (x ∷ l) e p = (omega (arith, e, p.0), under_more n j l e p.1)

-- a scope that holds nothing from n on knows none of them
pub fresh_up : (S : Scope) (n : ℕ) (l : List ℕ) → ((y : ℕ) → n ≤ y → S y ≡ false) → Up n l → Fresh S l
fresh_up S n [] e p = tt
fresh_up S n (x ∷ l) e p = (e x (omega (arith, p.0)), fresh_up S (suc n) l (λ y g. e y (omega (arith, g))) p.1)

differ : (x y : ℕ) → ¬ (x ≡ y) → eqb x y ≡ false
differ x y n = go (eqb x y) refl
  where
    go : (c : Bool) → eqb x y ≡ c → eqb x y ≡ false
    go true p = absurd (n (eqb→eq x y (rw p tt)))
    go false p = p

pub apart : (x y : ℕ) → x < y → eqb x y ≡ false
apart x y l = differ x y (λ e. absurd (omega (arith, l, e)))

pub apart-back : (x y : ℕ) → y < x → eqb x y ≡ false
apart-back x y l = differ x y (λ e. absurd (omega (arith, l, e)))

-- the names below n
abbrev pub below : ℕ → Scope
below n = λ y. ltb y n

pub below_in : (n y : ℕ) → y < n → below n y ≡ true
below_in n y l = go (ltb y n) refl
  where
    go : (c : Bool) → ltb y n ≡ c → ltb y n ≡ true
    go true p = p
    go false p = let g : n ≤ y = nltb→le y n (rw p tt) in absurd (omega (arith, l, g))

pub below_out : (n y : ℕ) → n ≤ y → below n y ≡ false
below_out n y l = go (ltb y n) refl
  where
    go : (c : Bool) → ltb y n ≡ c → ltb y n ≡ false
    go true p = let g : y < n = ltb→lt y n (rw p tt) in absurd (omega (arith, l, g))
    go false p = p

-- every name with a type is below n
abbrev pub Below : Context → ℕ → Type 0
Below Γ n = (y : ℕ) (τ : Ty) → Γ y ≡ has τ → y < n

pub below_holds : (Γ : Context) (n : ℕ) → Below Γ n → Holds Γ (below n)
below_holds Γ n b y τ h = below_in n y (b y τ h)

pub below-upd : (Γ : Context) (n j x : ℕ) (w : Typed) → Below Γ n → n ≤ j → x < j → Below (upd x w Γ) j
unfolding upd
below-upd Γ n j x w b e l y τ = go (eqb x y) refl
  where
    go : (c : Bool) → eqb x y ≡ c → upd x w Γ y ≡ has τ → y < j
    go true p h = let g = eqb→eq x y (rw p tt) in omega (arith, g, l)
    go false p h = let g = b y τ (sym (upd_other x w Γ y p) ∙ h) in omega (arith, g, e)

pub below_more : (Γ : Context) (n j : ℕ) → Below Γ n → n ≤ j → Below Γ j
below_more Γ n j b e y τ h = let g = b y τ h in omega (arith, g, e)

-- only x and a, both before what comes
pub only_out : (x a n : ℕ) → x < n → a < n → (y : ℕ) → n ≤ y → only x a y ≡ false
only_out x a n p q y l =
    upd_other x true (upd a true (λ z. false)) y (apart x y (omega (arith, p, l))) ∙ upd_other a true (λ z. false) y (apart a y (omega (arith, q, l)))

pub only-first : (x a : ℕ) → only x a x ≡ true
only-first x a = upd-hit x true (upd a true (λ z. false))

pub only-second : (x a : ℕ) → only x a a ≡ true
only-second x a = go (eqb x a) refl
  where
    go : (c : Bool) → eqb x a ≡ c → only x a a ≡ true
    go true p = upd_same x true (upd a true (λ z. false)) a p
    go false p = upd_other x true (upd a true (λ z. false)) a p ∙ upd-hit a true (λ z. false)

pick-name : (c : Bool) (x y : ℕ) → binders (pick c (name x) (name y)) ≡ []
unfolding pick binders
pick-name true x y = refl
pick-name false x y = refl

-- a name in the place of a name binds nothing more
mutual
  unfolding sub binders

  pub binders-sub : (t : Term) (x y : ℕ) → binders (sub x (name y) t) ≡ binders t
  binders-sub (num z) x y = refl
  binders-sub (truth b) x y = refl
  binders-sub (name z) x y = pick-name (eqb x z) y z
  binders-sub (field i t) x y = binders-sub t x y
  binders-sub (rec ts) x y = binders_l-sub ts x y
  binders-sub (app f ts) x y = binders_l-sub ts x y
  binders-sub (bin o s t) x y = ap₂ (λ a b. a ++ b) (binders-sub s x y) (binders-sub t x y)
  binders-sub (negate t) x y = binders-sub t x y
  binders-sub (comp m q h) x y = ap₂ (λ a b. a ++ b) (binders_q-sub q x y) (binders-sub h x y)
  binders-sub (table k) x y = refl

  binders_l-sub : (ts : Terms) (x y : ℕ) → binders_l (sub_l x (name y) ts) ≡ binders_l ts
  binders_l-sub tnil x y = refl
  binders_l-sub (tcons t ts) x y = ap₂ (λ a b. a ++ b) (binders-sub t x y) (binders_l-sub ts x y)

  pub binders_q-sub : (q : Quals) (x y : ℕ) → binders_q (sub_q x (name y) q) ≡ binders_q q
  binders_q-sub qnil x y = refl
  binders_q-sub (gen z t q) x y = ap₂ (λ a b. a ++ (z ∷ b)) (binders-sub t x y) (binders_q-sub q x y)
  binders_q-sub (bind z t q) x y = ap₂ (λ a b. a ++ (z ∷ b)) (binders-sub t x y) (binders_q-sub q x y)
  binders_q-sub (cond t q) x y = ap₂ (λ a b. a ++ b) (binders-sub t x y) (binders_q-sub q x y)

pub ⊞-assoc : (a b c : Quals) → (a ⊞ b) ⊞ c ≡ a ⊞ (b ⊞ c)
unfolding ◌⊞◌
⊞-assoc qnil b c = refl
⊞-assoc (gen x t a) b c = ap (gen x t) (⊞-assoc a b c)
⊞-assoc (bind x t a) b c = ap (bind x t) (⊞-assoc a b c)
⊞-assoc (cond t a) b c = ap (cond t) (⊞-assoc a b c)

pub ⊟-assoc : (a b c : Terms) → (a ⊟ b) ⊟ c ≡ a ⊟ (b ⊟ c)
unfolding ◌⊟◌
⊟-assoc tnil b c = refl
⊟-assoc (tcons t a) b c = ap (tcons t) (⊟-assoc a b c)

-- The rest of a comprehension, behind a name x below n, with a from n on in its place: all else in the rest is bound from a + 1 on.
module _ (T : Tables) where
  -- what is left of a comprehension: its types, and that it weighs at most that much, whatever names weigh
  abbrev pub Rest : Monoid → Context → Ty → Quals → Term → Type 0
  Rest m Γ σ q h = (Δ : Context) × HasQ T m Γ q Δ × Has T Δ h σ

  pub rest-scope : (m : Monoid) (Γ : Context) (σ : Ty) (q : Quals) (h : Term) → Rest m Γ σ q h → (S : Scope) → Holds Γ S → ReadsOnly q h S
  rest-scope m Γ σ q h r S e = has_q-scope T q m Γ r.0 r.1 (λ R. in_scope h R) (λ R f. has-scope T h r.0 σ r.2 R f) S e

  module _ (m : Monoid) (Γ : Context) (n : ℕ) (b : Below Γ n) (x a : ℕ) (g : n ≤ a) (w : Ty) (σ : Ty) (q : Quals) (h : Term)
      (c : Fresh (only x a) (binders_q q ++ binders h)) where
    freshes : Fresh (only x a) (binders_q q) × Fresh (only x a) (binders h)
    freshes = fresh-split (only x a) (binders_q q) (binders h) c

    pub rest-renamed : Rest m (upd x (has w) Γ) σ q h → Rest m (upd a (has w) Γ) σ (sub_q x (name a) q) (sub x (name a) h)
    unfolding in_scope
    rest-renamed r =
        let Γ₁ = upd a (has w) Γ in
        let Δ₁ = upd x (has w) Γ in
        let e : (y : ℕ) (τ : Ty) → eqb x y ≡ false → Δ₁ y ≡ has τ → Γ₁ y ≡ has τ = λ y τ p i. let j : Γ y ≡ has τ = sym (upd_other x (has w) Γ y p)
        ∙ i in upd_other a (has w) Γ y (apart-back a y (let k = b y τ j in omega (arith, k, g))) ∙ j in
        let f : (τ : Ty) → Δ₁ x ≡ has τ → Γ₁ a ≡ has τ = λ τ i. upd-hit a (has w) Γ ∙ sym (upd-hit x (has w) Γ) ∙ i in
        let s = has_q-sub T (only x a) x (only-first x a) (name a) (only-second x a) q m freshes.0 Γ₁ Δ₁ (e, f) r.0 r.1 in
        (s.0, s.1, has_sub T (only x a) x (only-first x a) (name a) (only-second x a) h freshes.1 s.0 r.0 s.2 σ r.2)

    -- d no heavier than e
    pub rest-weight : Rest m (upd x (has w) Γ) σ q h → (d e : ℕ) → d ≤ e → (ρ : Weights)
        → weigh_q (sub_q x (name a) q) (λ μ. weigh (sub x (name a) h) μ) (upd a d ρ) ≤ weigh_q q (λ μ. weigh h μ) (upd x e ρ)
    unfolding in_scope weigh
    rest-weight r d e i ρ =
        let ρ₁ = upd a d ρ in
        let S = upd x true (below n) in
        let u = weigh_q-sub (only x a) x (only-first x a) (name a) (only-second x a) q freshes.0 (λ μ. weigh (sub x (name a) h) μ) (λ μ. weigh h μ)
        (λ μ ν j. weigh-sub (only x a) x (only-first x a) (name a) (only-second x a) h freshes.1 μ ν j) ρ₁ (upd x d ρ₁) (
          λ y p. subst (λ z. ρ₁ y ≤ z) (sym (upd_other x d ρ₁ y p)) (omega arith),
          subst (λ z. ρ₁ a ≤ z) (sym (upd-hit x d ρ₁)) (subst (λ z. z ≤ d) (sym (upd-hit a d ρ)) (omega arith)),
        ) in
        let v = weigh_q-less q (λ R. in_scope h R) S (rest-scope m (upd x (has w) Γ) σ q h r S (holds-upd Γ (below n) x w (below_holds Γ n b))) (λ μ. weigh h μ)
        (λ μ. weigh h μ) (λ R j μ ν k. weigh-less h R j μ ν k)
        (upd x d ρ₁) (upd x e ρ) (less-upd (below n) x d e ρ₁ ρ i (less-out (below n) a d ρ ρ (below_out n a g) (λ y j. omega arith))) in
        omega (arith, u, v)
