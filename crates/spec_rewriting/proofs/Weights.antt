-- How much work the rules may still have with a term: what a name weighs is what it stands for. Each rule makes it less, renaming makes it no more.
use mathlib.Core.Path.{◌≡◌, refl, sym, ap, subst, ◌∙◌}
use mathlib.Core.Bool.{Bool, true, false, true≢false}
use mathlib.Core.List.{[], ◌∷◌}
use mathlib.Mathlib.Data.Bool.Basic.{and_elim_left, and_elim_right}
use Prim.Native.Nat.{ℕ, suc, ◌+◌, ◌≤◌}
use native.Mathlib.Omega.{arith}
use lib.Dec.{eqb, eqb→eq}
use Rattle.spec_calculus.specs.Lists.{pick, upd}
use Rattle.spec_calculus.specs.Syntax.{Term, Terms, Quals, num, truth, name, field, rec, bin, negate, app, comp, table, tnil, tcons, qnil, gen, bind, cond}
use Rattle.spec_calculus.proofs.Lists.{upd_other}
use Rattle.spec_checks.specs.Scope.{Scope, in_scope, in_scopes, in_scope_q, binders, binders_l, binders_q}
use Rattle.spec_normal_form.specs.Rules.{◌⊞◌, own_names, sub, sub_l, sub_q, Fresh}
use Rattle.spec_normal_form.proofs.Substitution.{fresh-split}

abbrev pub Weights : Type 0
Weights = ℕ → ℕ

unfoldable mutual
  pub weigh : Term → Weights → ℕ
  weigh (num z) ρ = 1
  weigh (truth b) ρ = 1
  weigh (name x) ρ = ρ x
  weigh (field i t) ρ = suc (weigh t ρ)
  weigh (rec ts) ρ = suc (weigh_l ts ρ)
  weigh (app f ts) ρ = suc (weigh_l ts ρ)
  weigh (bin o s t) ρ = suc (suc (weigh s ρ + weigh t ρ))
  weigh (negate t) ρ = suc (weigh t ρ)
  weigh (comp m q h) ρ = suc (weigh_q q (λ σ. weigh h σ) ρ)
  weigh (table k) ρ = 1

  pub weigh_l : Terms → Weights → ℕ
  weigh_l tnil ρ = 0
  weigh_l (tcons t ts) ρ = suc (weigh t ρ + weigh_l ts ρ)

  pub weigh_q : Quals → (Weights → ℕ) → Weights → ℕ
  weigh_q qnil k ρ = k ρ
  weigh_q (gen x t q) k ρ = suc (weigh t ρ + weigh_q q k (upd x (weigh t ρ) ρ))
  weigh_q (bind x t q) k ρ = suc (weigh t ρ + weigh_q q k (upd x (weigh t ρ) ρ))
  weigh_q (cond t q) k ρ = suc (weigh t ρ + weigh_q q k ρ)

-- no name of S weighs more
abbrev pub Less : Scope → Weights → Weights → Type 0
Less S ρ σ = (y : ℕ) → S y ≡ true → ρ y ≤ σ y

pub less-upd : (S : Scope) (x a b : ℕ) (ρ σ : Weights) → a ≤ b → Less S ρ σ → Less (upd x true S) (upd x a ρ) (upd x b σ)
unfolding upd
less-upd S x a b ρ σ e l y = go (eqb x y) refl
  where
    go : (c : Bool) → eqb x y ≡ c → upd x true S y ≡ true → upd x a ρ y ≤ upd x b σ y
    go true p = rw (p, upd) (λ s. e)
    go false p = rw (p, upd) (l y)

pub less-out : (S : Scope) (x a : ℕ) (ρ σ : Weights) → S x ≡ false → Less S ρ σ → Less S (upd x a ρ) σ
less-out S x a ρ σ n l y s = go (eqb x y) refl
  where
    go : (c : Bool) → eqb x y ≡ c → upd x a ρ y ≤ σ y
    go true p = absurd (true≢false (sym s ∙ ap S (sym (eqb→eq x y (rw p tt))) ∙ n))
    go false p = subst (λ z. z ≤ σ y) (sym (upd_other x a ρ y p)) (l y s)

mutual
  unfolding weigh in_scope

  pub weigh-less : (t : Term) (S : Scope) → in_scope t S ≡ true → (ρ σ : Weights) → Less S ρ σ → weigh t ρ ≤ weigh t σ
  weigh-less (num z) S u ρ σ l = omega arith
  weigh-less (truth b) S u ρ σ l = omega arith
  weigh-less (name x) S u ρ σ l = l x u
  weigh-less (field i t) S u ρ σ l = omega (arith, weigh-less t S u ρ σ l)
  weigh-less (rec ts) S u ρ σ l = omega (arith, weigh_l-less ts S u ρ σ l)
  weigh-less (app f ts) S u ρ σ l = omega (arith, weigh_l-less ts S u ρ σ l)
  weigh-less (bin o s t) S u ρ σ l = omega
      (arith, weigh-less s S (and_elim_left (in_scope s S) (in_scope t S) u) ρ σ l, weigh-less t S (and_elim_right (in_scope s S) (in_scope t S) u) ρ σ l)
  weigh-less (negate t) S u ρ σ l = omega (arith, weigh-less t S u ρ σ l)
  weigh-less (comp m q h) S u ρ σ l = omega
      (arith, weigh_q-less q (λ R. in_scope h R) S u (λ μ. weigh h μ) (λ μ. weigh h μ) (λ R v μ ν f. weigh-less h R v μ ν f) ρ σ l)
  weigh-less (table k) S u ρ σ l = omega arith

  weigh_l-less : (ts : Terms) (S : Scope) → in_scopes ts S ≡ true → (ρ σ : Weights) → Less S ρ σ → weigh_l ts ρ ≤ weigh_l ts σ
  weigh_l-less tnil S u ρ σ l = omega arith
  weigh_l-less (tcons t ts) S u ρ σ l = omega
      (arith, weigh-less t S (and_elim_left (in_scope t S) (in_scopes ts S) u) ρ σ l, weigh_l-less ts S (and_elim_right (in_scope t S) (in_scopes ts S) u) ρ σ l)

  pub weigh_q-less : (q : Quals) (k : Scope → Bool) (S : Scope) → in_scope_q q k S ≡ true → (f g : Weights → ℕ)
      → ((R : Scope) → k R ≡ true → (ρ σ : Weights) → Less R ρ σ → f ρ ≤ g σ)
      → (ρ σ : Weights) → Less S ρ σ → weigh_q q f ρ ≤ weigh_q q g σ
  weigh_q-less qnil k S u f g r ρ σ l = r S u ρ σ l
  weigh_q-less (gen x t q) k S u f g r ρ σ l =
      let a = weigh-less t S (and_elim_left (in_scope t S) (in_scope_q q k (upd x true S)) u) ρ σ l in
      omega (
        arith,
        a,
        weigh_q-less q k (upd x true S) (and_elim_right (in_scope t S) (in_scope_q q k (upd x true S)) u) f g r (upd x (weigh t ρ) ρ)
            (upd x (weigh t σ) σ) (less-upd S x (weigh t ρ) (weigh t σ) ρ σ a l),
      )
  weigh_q-less (bind x t q) k S u f g r ρ σ l =
      let a = weigh-less t S (and_elim_left (in_scope t S) (in_scope_q q k (upd x true S)) u) ρ σ l in
      omega (
        arith,
        a,
        weigh_q-less q k (upd x true S) (and_elim_right (in_scope t S) (in_scope_q q k (upd x true S)) u) f g r (upd x (weigh t ρ) ρ)
            (upd x (weigh t σ) σ) (less-upd S x (weigh t ρ) (weigh t σ) ρ σ a l),
      )
  weigh_q-less (cond t q) k S u f g r ρ σ l =
      omega (
        arith,
        weigh-less t S (and_elim_left (in_scope t S) (in_scope_q q k S) u) ρ σ l,
        weigh_q-less q k S (and_elim_right (in_scope t S) (in_scope_q q k S) u) f g r ρ σ l,
      )

-- s in the place of x weighs no more than x does
module _ (S : Scope) (x : ℕ) (sx : S x ≡ true) (s : Term) (us : in_scope s S ≡ true) where
  abbrev pub Sub : Weights → Weights → Type 0
  Sub ρ σ = ((y : ℕ) → eqb x y ≡ false → ρ y ≤ σ y) × (weigh s ρ ≤ σ x)

  sub-upd : (y a b : ℕ) (ρ σ : Weights) → S y ≡ false → a ≤ b → Sub ρ σ → Sub (upd y a ρ) (upd y b σ)
  unfolding upd
  sub-upd y a b ρ σ n e l = (λ z p. go z p (eqb y z) refl, at_x (eqb y x) refl)
    where
      go : (z : ℕ) → eqb x z ≡ false → (c : Bool) → eqb y z ≡ c → upd y a ρ z ≤ upd y b σ z
      go z p true q = rw (q, upd) e
      go z p false q = rw (q, upd) (l.0 z p)

      at_x : (c : Bool) → eqb y x ≡ c → weigh s (upd y a ρ) ≤ upd y b σ x
      at_x true q = absurd (true≢false (sym sx ∙ ap S (sym (eqb→eq y x (rw q tt))) ∙ n))
      at_x false q = let i = weigh-less s S us (upd y a ρ) ρ (less-out S y a ρ ρ n (λ z v. omega arith)) in subst (λ z. weigh s (upd y a ρ) ≤ z)
          (sym (upd_other y b σ x q)) (omega (arith, i, l.1))

  sub-name : (y : ℕ) (ρ σ : Weights) → Sub ρ σ → weigh (pick (eqb x y) s (name y)) ρ ≤ σ y
  unfolding weigh pick
  sub-name y ρ σ l = go (eqb x y) refl
    where
      go : (c : Bool) → eqb x y ≡ c → weigh (pick (eqb x y) s (name y)) ρ ≤ σ y
      go true p = rw p (subst (λ z. weigh s ρ ≤ σ z) (eqb→eq x y (rw p tt)) l.1)
      go false p = rw p (l.0 y p)

  mutual
    unfolding weigh sub binders

    pub weigh-sub : (t : Term) → Fresh S (binders t) → (ρ σ : Weights) → Sub ρ σ → weigh (sub x s t) ρ ≤ weigh t σ
    weigh-sub (num z) c ρ σ l = omega arith
    weigh-sub (truth b) c ρ σ l = omega arith
    weigh-sub (name y) c ρ σ l = sub-name y ρ σ l
    weigh-sub (field i t) c ρ σ l = omega (arith, weigh-sub t c ρ σ l)
    weigh-sub (rec ts) c ρ σ l = omega (arith, weigh_l-sub ts c ρ σ l)
    weigh-sub (app f ts) c ρ σ l = omega (arith, weigh_l-sub ts c ρ σ l)
    weigh-sub (bin o t u) c ρ σ l = let f = fresh-split S (binders t) (binders u) c in omega (arith, weigh-sub t f.0 ρ σ l, weigh-sub u f.1 ρ σ l)
    weigh-sub (negate t) c ρ σ l = omega (arith, weigh-sub t c ρ σ l)
    weigh-sub (comp m q h) c ρ σ l =
        let f = fresh-split S (binders_q q) (binders h) c in
        omega (arith, weigh_q-sub q f.0 (λ μ. weigh (sub x s h) μ) (λ μ. weigh h μ) (λ μ ν i. weigh-sub h f.1 μ ν i) ρ σ l)
    weigh-sub (table k) c ρ σ l = omega arith

    weigh_l-sub : (ts : Terms) → Fresh S (binders_l ts) → (ρ σ : Weights) → Sub ρ σ → weigh_l (sub_l x s ts) ρ ≤ weigh_l ts σ
    weigh_l-sub tnil c ρ σ l = omega arith
    weigh_l-sub (tcons t ts) c ρ σ l = let f = fresh-split S (binders t) (binders_l ts) c in omega (arith, weigh-sub t f.0 ρ σ l, weigh_l-sub ts f.1 ρ σ l)

    pub weigh_q-sub : (q : Quals) → Fresh S (binders_q q) → (f g : Weights → ℕ) → ((ρ σ : Weights) → Sub ρ σ → f ρ ≤ g σ) → (ρ σ : Weights) → Sub ρ σ
        → weigh_q (sub_q x s q) f ρ ≤ weigh_q q g σ
    weigh_q-sub qnil c f g r ρ σ l = r ρ σ l
    weigh_q-sub (gen y t q) c f g r ρ σ l =
        let d = fresh-split S (binders t) (y ∷ binders_q q) c in
        let a = weigh-sub t d.0 ρ σ l in
        omega (
          arith,
          a,
          weigh_q-sub q d.1.1 f g r (upd y (weigh (sub x s t) ρ) ρ) (upd y (weigh t σ) σ)
              (sub-upd y (weigh (sub x s t) ρ) (weigh t σ) ρ σ d.1.0 a l),
        )
    weigh_q-sub (bind y t q) c f g r ρ σ l =
        let d = fresh-split S (binders t) (y ∷ binders_q q) c in
        let a = weigh-sub t d.0 ρ σ l in
        omega (
          arith,
          a,
          weigh_q-sub q d.1.1 f g r (upd y (weigh (sub x s t) ρ) ρ) (upd y (weigh t σ) σ)
              (sub-upd y (weigh (sub x s t) ρ) (weigh t σ) ρ σ d.1.0 a l),
        )
    weigh_q-sub (cond t q) c f g r ρ σ l =
        let d = fresh-split S (binders t) (binders_q q) c in
        omega (arith, weigh-sub t d.0 ρ σ l, weigh_q-sub q d.1 f g r ρ σ l)

-- Qualifiers in front of a rest, where the head behind them weighs at most L: the rest adds at most F to what it weighs.
pub weigh-splice : (q : Quals) (S : Scope) → Fresh S (own_names q) → (r : Quals) (k f : Weights → ℕ) (L F : ℕ) (ρ₀ : Weights)
    → ((ε : Weights) → Less S ε ρ₀ → f ε ≤ L → weigh_q r k ε ≤ f ε + F)
    → (ρ : Weights) → Less S ρ ρ₀ → weigh_q q f ρ ≤ L → weigh_q (q ⊞ r) k ρ ≤ weigh_q q f ρ + F
unfolding weigh ◌⊞◌ own_names
weigh-splice qnil S a r k f L F ρ₀ e ρ l b = e ρ l b
weigh-splice (gen x t q) S a r k f L F ρ₀ e ρ l b = omega
    (arith, weigh-splice q S a.1 r k f L F ρ₀ e (upd x (weigh t ρ) ρ) (less-out S x (weigh t ρ) ρ ρ₀ a.0 l) (omega (arith, b)))
weigh-splice (bind x t q) S a r k f L F ρ₀ e ρ l b = omega
    (arith, weigh-splice q S a.1 r k f L F ρ₀ e (upd x (weigh t ρ) ρ) (less-out S x (weigh t ρ) ρ ρ₀ a.0 l) (omega (arith, b)))
weigh-splice (cond t q) S a r k f L F ρ₀ e ρ l b = omega (arith, weigh-splice q S a r k f L F ρ₀ e ρ l (omega (arith, b)))
