-- The rules keep types: names not read may have any, a term stands for a name of its type, qualifiers may stand where their comprehension may.
use mathlib.Core.Path.{◌≡◌, refl, sym, ap, subst, ◌∙◌}
use mathlib.Core.Bool.{Bool, true, false, true≢false, false≢true, ◌&&◌}
use mathlib.Core.List.{[], ◌∷◌}
use mathlib.Mathlib.Data.Bool.Basic.{and_elim_left, and_elim_right}
use Prim.Native.Nat.{ℕ}
use lib.Dec.{eqb, eqb→eq}
use Rattle.spec_calculus.specs.Lists.{pick, upd}
use Rattle.spec_calculus.specs.Syntax.{Collection, list, bag, set, Monoid, of, sum, max, min, some, all, Term, Terms, Quals, num, truth, name, field, rec, bin, negate, app, comp, table, tnil, tcons, qnil, gen, bind, cond}
use Rattle.spec_calculus.specs.Value.{Tables}
use Rattle.spec_calculus.proofs.Lists.{upd_other}
use Rattle.spec_checks.specs.Scope.{Scope, in_scope, in_scopes, in_scope_q, binders, binders_l, binders_q}
use Rattle.spec_checks.specs.Types.{Ty, Tys, Typed, has, Context, may_stand}
use Rattle.spec_checks.proofs.Judgement.{Has, HasL, HasQ}
use Rattle.spec_normal_form.specs.Normal.{idempotent}
use Rattle.spec_normal_form.specs.Rules.{◌⊞◌, own_names, sub, sub_l, sub_q, Fresh}
use Rattle.spec_normal_form.proofs.Substitution.{fresh-split}

-- on the names of S, Δ gives the types that Γ gives
abbrev pub Ext : Scope → Context → Context → Type 0
Ext S Γ Δ = (y : ℕ) (τ : Ty) → S y ≡ true → Γ y ≡ has τ → Δ y ≡ has τ

pub ext-upd : (S : Scope) (x : ℕ) (w : Typed) (Γ Δ : Context) → Ext S Γ Δ → Ext (upd x true S) (upd x w Γ) (upd x w Δ)
unfolding upd
ext-upd S x w Γ Δ e y τ = go (eqb x y) refl
  where
    go : (c : Bool) → eqb x y ≡ c → upd x true S y ≡ true → upd x w Γ y ≡ has τ → upd x w Δ y ≡ has τ
    go true p = rw (p, upd) (λ s h. h)
    go false p = rw (p, upd) (e y τ)

-- a name that is not in S may have any type
pub ext-out : (S : Scope) (x : ℕ) (w : Typed) (Γ Δ : Context) → S x ≡ false → Ext S Γ Δ → Ext S Γ (upd x w Δ)
ext-out S x w Γ Δ n e y τ s h = go (eqb x y) refl
  where
    go : (c : Bool) → eqb x y ≡ c → upd x w Δ y ≡ has τ
    go true p = absurd (true≢false (sym s ∙ ap S (sym (eqb→eq x y (rw p tt))) ∙ n))
    go false p = upd_other x w Δ y p ∙ e y τ s h

-- S has every name that has a type
abbrev pub Holds : Context → Scope → Type 0
Holds Γ S = (y : ℕ) (τ : Ty) → Γ y ≡ has τ → S y ≡ true

pub holds-upd : (Γ : Context) (S : Scope) (x : ℕ) (σ : Ty) → Holds Γ S → Holds (upd x (has σ) Γ) (upd x true S)
unfolding upd
holds-upd Γ S x σ e y τ = go (eqb x y) refl
  where
    go : (c : Bool) → eqb x y ≡ c → upd x (has σ) Γ y ≡ has τ → upd x true S y ≡ true
    go true p = rw (p, upd) (λ h. refl)
    go false p = rw (p, upd) (e y τ)

both_true : (a b : Bool) → a ≡ true → b ≡ true → a && b ≡ true
both_true true b p q = q
both_true false b p q = p

module _ (T : Tables) where
  mutual
    unfolding in_scope

    pub has-scope : (t : Term) (Γ : Context) (τ : Ty) → Has T Γ t τ → (S : Scope) → Holds Γ S → in_scope t S ≡ true
    has-scope (num z) Γ τ a S e = refl
    has-scope (truth b) Γ τ a S e = refl
    has-scope (name x) Γ τ a S e = e x τ a
    has-scope (field i t) Γ τ a S e = has-scope t Γ _ a.1 S e
    has-scope (rec ts) Γ τ a S e = has_l-scope ts Γ a.0 a.1 S e
    has-scope (app f ts) Γ τ a S e = has_l-scope ts Γ a.0 a.1 S e
    has-scope (bin o s t) Γ τ a S e = both_true (in_scope s S) (in_scope t S) (has-scope s Γ _ a.0 S e) (has-scope t Γ _ a.1 S e)
    has-scope (negate t) Γ τ a S e = has-scope t Γ _ a.0 S e
    has-scope (comp m q h) Γ τ a S e = has_q-scope q m Γ a.0 a.2 (λ R. in_scope h R) (λ R f. has-scope h a.0 a.1 a.3 R f) S e
    has-scope (table k) Γ τ a S e = refl

    has_l-scope : (ts : Terms) (Γ : Context) (us : Tys) → HasL T Γ ts us → (S : Scope) → Holds Γ S → in_scopes ts S ≡ true
    has_l-scope tnil Γ us a S e = refl
    has_l-scope (tcons t ts) Γ us a S e = both_true (in_scope t S) (in_scopes ts S) (has-scope t Γ a.0 a.2 S e) (has_l-scope ts Γ a.1 a.3 S e)

    pub has_q-scope : (q : Quals) (m : Monoid) (Γ Δ : Context) → HasQ T m Γ q Δ → (k : Scope → Bool) → ((R : Scope) → Holds Δ R → k R ≡ true) → (S : Scope)
        → Holds Γ S → in_scope_q q k S ≡ true
    has_q-scope qnil m Γ Δ a k r S e = r S (subst (λ Θ. Holds Θ S) a e)
    has_q-scope (gen x t q) m Γ Δ a k r S e =
        both_true (in_scope t S) (in_scope_q q k (upd x true S)) (has-scope t Γ _ a.2 S e)
        (has_q-scope q m (upd x (has a.1) Γ) Δ a.4 k r (upd x true S) (holds-upd Γ S x a.1 e))
    has_q-scope (bind x t q) m Γ Δ a k r S e =
        both_true (in_scope t S) (in_scope_q q k (upd x true S)) (has-scope t Γ _ a.1 S e)
        (has_q-scope q m (upd x (has a.0) Γ) Δ a.2 k r (upd x true S) (holds-upd Γ S x a.0 e))
    has_q-scope (cond t q) m Γ Δ a k r S e = both_true (in_scope t S) (in_scope_q q k S) (has-scope t Γ _ a.0 S e) (has_q-scope q m Γ Δ a.1 k r S e)

  mutual
    unfolding in_scope

    pub has-ext : (t : Term) (S : Scope) → in_scope t S ≡ true → (Γ Δ : Context) → Ext S Γ Δ → (τ : Ty) → Has T Γ t τ → Has T Δ t τ
    has-ext (num z) S u Γ Δ e τ a = a
    has-ext (truth b) S u Γ Δ e τ a = a
    has-ext (name x) S u Γ Δ e τ a = e x τ u a
    has-ext (field i t) S u Γ Δ e τ a = (a.0, has-ext t S u Γ Δ e _ a.1, a.2)
    has-ext (rec ts) S u Γ Δ e τ a = (a.0, has_l-ext ts S u Γ Δ e a.0 a.1, a.2)
    has-ext (app f ts) S u Γ Δ e τ a = (a.0, has_l-ext ts S u Γ Δ e a.0 a.1, a.2)
    has-ext (bin o s t) S u Γ Δ e τ a = (
      has-ext s S (and_elim_left (in_scope s S) (in_scope t S) u) Γ Δ e _ a.0,
      has-ext t S (and_elim_right (in_scope s S) (in_scope t S) u) Γ Δ e _ a.1,
      a.2,
    )
    has-ext (negate t) S u Γ Δ e τ a = (has-ext t S u Γ Δ e _ a.0, a.1)
    has-ext (comp m q h) S u Γ Δ e τ a =
        let b = has_q-ext q m (λ R. in_scope h R) S u Γ Δ e a.0 a.2 in
        (b.0, a.1, b.1, has-ext h b.2 b.3 a.0 b.0 b.4 a.1 a.3, a.4)
    has-ext (table k) S u Γ Δ e τ a = a

    has_l-ext : (ts : Terms) (S : Scope) → in_scopes ts S ≡ true → (Γ Δ : Context) → Ext S Γ Δ → (us : Tys) → HasL T Γ ts us → HasL T Δ ts us
    has_l-ext tnil S u Γ Δ e us a = a
    has_l-ext (tcons t ts) S u Γ Δ e us a = (
      a.0,
      a.1,
      has-ext t S (and_elim_left (in_scope t S) (in_scopes ts S) u) Γ Δ e a.0 a.2,
      has_l-ext ts S (and_elim_right (in_scope t S) (in_scopes ts S) u) Γ Δ e a.1 a.3,
      a.4,
    )

    pub has_q-ext : (q : Quals) (m : Monoid) (k : Scope → Bool) (S : Scope) → in_scope_q q k S ≡ true → (Γ Δ : Context) → Ext S Γ Δ → (Γ₁ : Context)
        → HasQ T m Γ q Γ₁
        → (Δ₁ : Context) × HasQ T m Δ q Δ₁ × (R : Scope) × (k R ≡ true) × Ext R Γ₁ Δ₁
    has_q-ext qnil m k S u Γ Δ e Γ₁ a = (Δ, refl, S, u, subst (λ Θ. Ext S Θ Δ) a e)
    has_q-ext (gen x t q) m k S u Γ Δ e Γ₁ a =
        let w = has a.1 in
        let b = has_q-ext q m k (upd x true S) (and_elim_right (in_scope t S) (in_scope_q q k (upd x true S)) u) (upd x w Γ) (upd x w Δ) (ext-upd S x w Γ Δ e) Γ₁
        a.4 in
        (b.0, (a.0, a.1, has-ext t S (and_elim_left (in_scope t S) (in_scope_q q k (upd x true S)) u) Γ Δ e _ a.2, a.3, b.1), b.2, b.3, b.4)
    has_q-ext (bind x t q) m k S u Γ Δ e Γ₁ a =
        let w = has a.0 in
        let b = has_q-ext q m k (upd x true S) (and_elim_right (in_scope t S) (in_scope_q q k (upd x true S)) u) (upd x w Γ) (upd x w Δ) (ext-upd S x w Γ Δ e) Γ₁
        a.2 in
        (b.0, (a.0, has-ext t S (and_elim_left (in_scope t S) (in_scope_q q k (upd x true S)) u) Γ Δ e _ a.1, b.1), b.2, b.3, b.4)
    has_q-ext (cond t q) m k S u Γ Δ e Γ₁ a =
        let b = has_q-ext q m k S (and_elim_right (in_scope t S) (in_scope_q q k S) u) Γ Δ e Γ₁ a.1 in
        (b.0, (has-ext t S (and_elim_left (in_scope t S) (in_scope_q q k S) u) Γ Δ e _ a.0, b.1), b.2, b.3, b.4)

  -- s in the place of x
  module _ (S : Scope) (x : ℕ) (sx : S x ≡ true) (s : Term) (us : in_scope s S ≡ true) where
    abbrev pub SubT : Context → Context → Type 0
    SubT Γ Δ = ((y : ℕ) (τ : Ty) → eqb x y ≡ false → Δ y ≡ has τ → Γ y ≡ has τ) × ((τ : Ty) → Δ x ≡ has τ → Has T Γ s τ)

    sub_t-upd : (y : ℕ) (w : Typed) (Γ Δ : Context) → S y ≡ false → SubT Γ Δ → SubT (upd y w Γ) (upd y w Δ)
    unfolding upd
    sub_t-upd y w Γ Δ n e = (λ z τ p. go z τ p (eqb y z) refl, λ τ h. at_x τ (eqb y x) refl h)
      where
        go : (z : ℕ) (τ : Ty) → eqb x z ≡ false → (c : Bool) → eqb y z ≡ c → upd y w Δ z ≡ has τ → upd y w Γ z ≡ has τ
        go z τ p true q = rw (q, upd) (λ h. h)
        go z τ p false q = rw (q, upd) (e.0 z τ p)

        at_x : (τ : Ty) (c : Bool) → eqb y x ≡ c → upd y w Δ x ≡ has τ → Has T (upd y w Γ) s τ
        at_x τ true q h = absurd (true≢false (sym sx ∙ ap S (sym (eqb→eq y x (rw q tt))) ∙ n))
        at_x τ false q h = has-ext s S us Γ (upd y w Γ) (ext-out S y w Γ Γ n (λ z υ v i. i)) τ (e.1 τ (sym (upd_other y w Δ x q) ∙ h))

    sub-name : (y : ℕ) (Γ Δ : Context) → SubT Γ Δ → (τ : Ty) → Δ y ≡ has τ → Has T Γ (pick (eqb x y) s (name y)) τ
    unfolding pick
    sub-name y Γ Δ e τ h = go (eqb x y) refl
      where
        go : (c : Bool) → eqb x y ≡ c → Has T Γ (pick (eqb x y) s (name y)) τ
        go true p = subst (λ z. Has T Γ z τ) (ap (λ c. pick c s (name y)) (sym p)) (e.1 τ (ap Δ (eqb→eq x y (rw p tt)) ∙ h))
        go false p = subst (λ z. Has T Γ z τ) (ap (λ c. pick c s (name y)) (sym p)) (e.0 y τ p h)

    mutual
      unfolding sub binders

      pub has_sub : (t : Term) → Fresh S (binders t) → (Γ Δ : Context) → SubT Γ Δ → (τ : Ty) → Has T Δ t τ → Has T Γ (sub x s t) τ
      has_sub (num z) c Γ Δ e τ a = a
      has_sub (truth b) c Γ Δ e τ a = a
      has_sub (name y) c Γ Δ e τ a = sub-name y Γ Δ e τ a
      has_sub (field i t) c Γ Δ e τ a = (a.0, has_sub t c Γ Δ e _ a.1, a.2)
      has_sub (rec ts) c Γ Δ e τ a = (a.0, has_l-sub ts c Γ Δ e a.0 a.1, a.2)
      has_sub (app f ts) c Γ Δ e τ a = (a.0, has_l-sub ts c Γ Δ e a.0 a.1, a.2)
      has_sub (bin o t u) c Γ Δ e τ a = let f = fresh-split S (binders t)
          (binders u) c in (has_sub t f.0 Γ Δ e _ a.0, has_sub u f.1 Γ Δ e _ a.1, a.2)
      has_sub (negate t) c Γ Δ e τ a = (has_sub t c Γ Δ e _ a.0, a.1)
      has_sub (comp m q h) c Γ Δ e τ a =
          let f = fresh-split S (binders_q q) (binders h) c in
          let b = has_q-sub q m f.0 Γ Δ e a.0 a.2 in
          (b.0, a.1, b.1, has_sub h f.1 b.0 a.0 b.2 a.1 a.3, a.4)
      has_sub (table k) c Γ Δ e τ a = a

      has_l-sub : (ts : Terms) → Fresh S (binders_l ts) → (Γ Δ : Context) → SubT Γ Δ → (us : Tys) → HasL T Δ ts us → HasL T Γ (sub_l x s ts) us
      has_l-sub tnil c Γ Δ e us a = a
      has_l-sub (tcons t ts) c Γ Δ e us a = let f = fresh-split S (binders t)
          (binders_l ts) c in (a.0, a.1, has_sub t f.0 Γ Δ e a.0 a.2, has_l-sub ts f.1 Γ Δ e a.1 a.3, a.4)

      pub has_q-sub : (q : Quals) (m : Monoid) → Fresh S (binders_q q) → (Γ Δ : Context) → SubT Γ Δ → (Δ₁ : Context) → HasQ T m Δ q Δ₁
          → (Γ₁ : Context) × HasQ T m Γ (sub_q x s q) Γ₁ × SubT Γ₁ Δ₁
      has_q-sub qnil m c Γ Δ e Δ₁ a = (Γ, refl, subst (λ Θ. SubT Γ Θ) a e)
      has_q-sub (gen y t q) m c Γ Δ e Δ₁ a =
          let d = fresh-split S (binders t) (y ∷ binders_q q) c in
          let w = has a.1 in
          let b = has_q-sub q m d.1.1 (upd y w Γ) (upd y w Δ) (sub_t-upd y w Γ Δ d.1.0 e) Δ₁ a.4 in
          (b.0, (a.0, a.1, has_sub t d.0 Γ Δ e _ a.2, a.3, b.1), b.2)
      has_q-sub (bind y t q) m c Γ Δ e Δ₁ a =
          let d = fresh-split S (binders t) (y ∷ binders_q q) c in
          let w = has a.0 in
          let b = has_q-sub q m d.1.1 (upd y w Γ) (upd y w Δ) (sub_t-upd y w Γ Δ d.1.0 e) Δ₁ a.2 in
          (b.0, (a.0, has_sub t d.0 Γ Δ e _ a.1, b.1), b.2)
      has_q-sub (cond t q) m c Γ Δ e Δ₁ a =
          let d = fresh-split S (binders t) (binders_q q) c in
          let b = has_q-sub q m d.1 Γ Δ e Δ₁ a.1 in
          (b.0, (has_sub t d.0 Γ Δ e _ a.0, b.1), b.2)

  -- qualifiers in front of others
  pub has_q-append : (q r : Quals) (m : Monoid) (Γ Δ Θ : Context) → HasQ T m Γ q Δ → HasQ T m Δ r Θ → HasQ T m Γ (q ⊞ r) Θ
  unfolding ◌⊞◌
  has_q-append qnil r m Γ Δ Θ a b = subst (λ Ξ. HasQ T m Ξ r Θ) (sym a) b
  has_q-append (gen x t q) r m Γ Δ Θ a b = (a.0, a.1, a.2, a.3, has_q-append q r m (upd x (has a.1) Γ) Δ Θ a.4 b)
  has_q-append (bind x t q) r m Γ Δ Θ a b = (a.0, a.1, has_q-append q r m (upd x (has a.0) Γ) Δ Θ a.2 b)
  has_q-append (cond t q) r m Γ Δ Θ a b = (a.0, has_q-append q r m Γ Δ Θ a.1 b)

  -- in a comprehension of n, whose generators may be those of one of m
  pub has_q-moved : (m n : Monoid) → ((c : Collection) → may_stand c m ≡ true → may_stand c n ≡ true) → (q : Quals) (Γ Δ : Context) → HasQ T m Γ q Δ
      → HasQ T n Γ q Δ
  has_q-moved m n f qnil Γ Δ a = a
  has_q-moved m n f (gen x t q) Γ Δ a = (a.0, a.1, a.2, f a.0 a.3, has_q-moved m n f q (upd x (has a.1) Γ) Δ a.4)
  has_q-moved m n f (bind x t q) Γ Δ a = (a.0, a.1, has_q-moved m n f q (upd x (has a.0) Γ) Δ a.2)
  has_q-moved m n f (cond t q) Γ Δ a = (a.0, has_q-moved m n f q Γ Δ a.1)

  -- behind qualifiers the names that they do not bind have the types that they had
  pub has_q-behind : (q : Quals) (m : Monoid) (S : Scope) → Fresh S (own_names q) → (Γ₀ Γ Δ : Context) → Ext S Γ₀ Γ → HasQ T m Γ q Δ → Ext S Γ₀ Δ
  unfolding own_names
  has_q-behind qnil m S c Γ₀ Γ Δ e a = subst (λ Θ. Ext S Γ₀ Θ) a e
  has_q-behind (gen x t q) m S c Γ₀ Γ Δ e a = has_q-behind q m S c.1 Γ₀ (upd x (has a.1) Γ) Δ (ext-out S x (has a.1) Γ₀ Γ c.0 e) a.4
  has_q-behind (bind x t q) m S c Γ₀ Γ Δ e a = has_q-behind q m S c.1 Γ₀ (upd x (has a.0) Γ) Δ (ext-out S x (has a.0) Γ₀ Γ c.0 e) a.2
  has_q-behind (cond t q) m S c Γ₀ Γ Δ e a = has_q-behind q m S c Γ₀ Γ Δ e a.1

-- what may stand in a collection that may stand in m may itself stand in m
pub may-stand-in : (d c : Collection) (m : Monoid) → may_stand c m ≡ true → may_stand d (of c) ≡ true → may_stand d m ≡ true
unfolding may_stand
may-stand-in list c m h e = refl
may-stand-in bag list m h e = absurd (false≢true e)
may-stand-in bag bag m h e = h
may-stand-in bag set (of list) h e = h
may-stand-in bag set (of bag) h e = refl
may-stand-in bag set (of set) h e = refl
may-stand-in bag set sum h e = refl
may-stand-in bag set max h e = refl
may-stand-in bag set min h e = refl
may-stand-in bag set some h e = refl
may-stand-in bag set all h e = refl
may-stand-in set list m h e = absurd (false≢true e)
may-stand-in set bag m h e = absurd (false≢true e)
may-stand-in set set m h e = h

-- where repeats do not count any generator may stand
pub may-stand-anywhere : (d : Collection) (m : Monoid) → idempotent m ≡ true → may_stand d m ≡ true
unfolding may_stand idempotent
may-stand-anywhere list m h = refl
may-stand-anywhere bag (of list) h = h
may-stand-anywhere bag (of bag) h = refl
may-stand-anywhere bag (of set) h = refl
may-stand-anywhere bag sum h = refl
may-stand-anywhere bag max h = refl
may-stand-anywhere bag min h = refl
may-stand-anywhere bag some h = refl
may-stand-anywhere bag all h = refl
may-stand-anywhere set (of list) h = h
may-stand-anywhere set (of bag) h = h
may-stand-anywhere set (of set) h = refl
may-stand-anywhere set sum h = h
may-stand-anywhere set max h = refl
may-stand-anywhere set min h = refl
may-stand-anywhere set some h = refl
may-stand-anywhere set all h = refl
