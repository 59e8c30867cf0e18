-- Steps inside a part are steps of the whole.
use mathlib.Core.Path.{◌≡◌, refl, sym, ap, subst, ◌∙◌}
use mathlib.Core.Bool.{Bool, true, false, ◌||◌, false≢true}
use Prim.Native.Nat.{ℕ}
use Rattle.spec_calculus.specs.Syntax.{Collection, Monoid, Bin, Fun, Term, Terms, Quals, num, truth, name, field, rec, bin, negate, app, comp, table, tnil, tcons, qnil, gen, bind, cond}
use Rattle.spec_normal_form.specs.Normal.{idempotent}
use Rattle.spec_normal_form.specs.Place.{Place, Places, PlaceQ, put, put_l, put_q}
use Rattle.spec_normal_form.specs.Place as Pl
use Rattle.spec_normal_form.specs.Rules.{Rule, bound_name, record_field, bare_table, and_condition, flat_generator, some_condition, rename, ◌⊞◌}
use Rattle.spec_normal_form.specs.NoRule.{NoRule, NoRuleL, NoRuleQ}
use Rattle.spec_rewriting.specs.Steps.{is_hole, is_source, is_source_l, is_source_q, Stands, Change, by_rule, rename_binding, Step, at, First, FirstL, FirstQ, FirstQual, is_renaming, LeftToRight, next, renamed, Leads, none, onwards}

infixr 60 ◌⊟◌
unfoldable pub ◌⊟◌ : Terms → Terms → Terms
tnil ⊟ r = r
tcons t q ⊟ r = tcons t (q ⊟ r)

abbrev past_l : Terms → Places → Places
past_l tnil p = p
past_l (tcons t q) p = Pl.there t (past_l q p)

abbrev past_q : Quals → PlaceQ → PlaceQ
past_q qnil p = p
past_q (gen x t q) p = Pl.past_gen x t (past_q q p)
past_q (bind x t q) p = Pl.past_bind x t (past_q q p)
past_q (cond t q) p = Pl.past_cond t (past_q q p)

put_l-past : (q : Terms) (p : Places) (r : Term) → put_l (past_l q p) r ≡ q ⊟ put_l p r
unfolding put ◌⊟◌
put_l-past tnil p r = refl
put_l-past (tcons t q) p r = ap (tcons t) (put_l-past q p r)

put_q-past : (q : Quals) (p : PlaceQ) (r : Term) → put_q (past_q q p) r ≡ q ⊞ put_q p r
unfolding put ◌⊞◌
put_q-past qnil p r = refl
put_q-past (gen x t q) p r = ap (gen x t) (put_q-past q p r)
put_q-past (bind x t q) p r = ap (bind x t) (put_q-past q p r)
put_q-past (cond t q) p r = ap (cond t) (put_q-past q p r)

source_l-past : (q : Terms) (p : Places) → is_source_l (past_l q p) ≡ is_source_l p
source_l-past tnil p = refl
source_l-past (tcons t q) p = source_l-past q p

source_q-past : (q : Quals) (p : PlaceQ) → is_source_q (past_q q p) ≡ is_source_q p
source_q-past qnil p = refl
source_q-past (gen x t q) p = source_q-past q p
source_q-past (bind x t q) p = source_q-past q p
source_q-past (cond t q) p = source_q-past q p

first_l-past : (q : Terms) (p : Places) → NoRuleL q → FirstL p → FirstL (past_l q p)
unfolding NoRule
first_l-past tnil p a f = f
first_l-past (tcons t q) p a f = (a.0, first_l-past q p a.1 f)

first_q-past : (q : Quals) (p : PlaceQ) (b : Bool) → NoRuleQ q b → FirstQ p b → FirstQ (past_q q p) b
unfolding NoRule
first_q-past qnil p b a f = f
first_q-past (gen x t q) p b a f = (a.0, first_q-past q p b a.1 f)
first_q-past (bind x t q) p b a f = absurd a
first_q-past (cond t q) p b a f = (a.0, a.1, first_q-past q p b a.2 f)

-- b says whether (3) is among the rules
abbrev pub Among : Bool → Term → Type 0
Among b (num z) = Unit {0}
Among b (truth x) = Unit {0}
Among b (name x) = Unit {0}
Among b (field i t) = Unit {0}
Among b (rec ts) = Unit {0}
Among b (bin o s t) = Unit {0}
Among b (negate t) = Unit {0}
Among b (app f ts) = Unit {0}
Among b (comp m q h) = Unit {0}
Among b (table k) = b ≡ true

-- without (3) a rule stands anywhere
stands-anywhere : (r : Term) (b c : Bool) → Among false r → Stands c r × Among b r
stands-anywhere (num z) b c a = (tt, tt)
stands-anywhere (truth x) b c a = (tt, tt)
stands-anywhere (name x) b c a = (tt, tt)
stands-anywhere (field i t) b c a = (tt, tt)
stands-anywhere (rec ts) b c a = (tt, tt)
stands-anywhere (bin o s t) b c a = (tt, tt)
stands-anywhere (negate t) b c a = (tt, tt)
stands-anywhere (app f ts) b c a = (tt, tt)
stands-anywhere (comp m q h) b c a = (tt, tt)
stands-anywhere (table k) b c a = absurd (false≢true a)

-- A step of the strategy, where o says whether it may be more than new names, and b whether it may be (3).
pub data Move (K : ℕ → Collection) (o b : Bool) : Term → Term → Type 0 where
  by : {r s : Term} (p : Place) (a : Rule K r s) → o ≡ true → Stands (is_source p) r → Among b r → First p → FirstQual a → Move K o b (put p r) (put p s)
  named : {r s : Term} (p : Place) (a : Change K r s) → is_renaming a ≡ true → Move K o b (put p r) (put p s)

abbrev pub Moves : (ℕ → Collection) → Bool → Bool → Term → Term → Type 0
Moves K o b = Leads (Move K o b)

renaming-stands : {K : ℕ → Collection} {r s : Term} (a : Change K r s) → is_renaming a ≡ true → (c : Bool) → Stands c r
renaming-stands (by_rule (bound_name S m q₁ x s q₃ h u v w)) e c = tt
renaming-stands (by_rule (record_field i ts)) e c = tt
renaming-stands (by_rule (bare_table k x)) e c = absurd (false≢true e)
renaming-stands (by_rule (and_condition m q₁ s t q₃ h)) e c = tt
renaming-stands (by_rule (flat_generator S m q₁ x d q₂ t q₃ h u v w)) e c = tt
renaming-stands (by_rule (some_condition S m q₁ q₂ t q₃ h u v w)) e c = tt
renaming-stands (by_rule (rename S m q₁ x y t q₃ h u v w)) e c = tt
renaming-stands (rename_binding S m q₁ x y t q₃ h u v w) e c = tt

pub then : {R : Term → Term → Type 0} {r s t : Term} → Leads R r s → Leads R s t → Leads R r t
then l none = l
then l (onwards m a) = onwards (then l m) a

pub map_steps : {R Q : Term → Term → Type 0} (f : Term → Term) → ((t u : Term) → R t u → Q (f t) (f u)) → {t u : Term} → Leads R t u → Leads Q (f t) (f u)
map_steps f g none = none
map_steps f g (onwards {r} {s} l a) = onwards (map_steps f g l) (g r s a)

-- a place inside a part, as a place of the whole
abbrev Lifts : Bool → Bool → Bool → Bool → (Place → Place) → Type 0
Lifts o b o₁ b₁ P = (p : Place) (r : Term) → o ≡ true → Stands (is_source p) r → Among b r → First p
    → (o₁ ≡ true) × Stands (is_source (P p)) r × Among b₁ r × First (P p)

module _ {K : ℕ → Collection} where
  -- each step of the strategy is a step
  strategy-step : (t u : Term) → LeftToRight K t u → Step K t u
  strategy-step t u (next p a v e f) = at p (by_rule a) v
  strategy-step t u (renamed p a e) = at p a (renaming-stands a e (is_source p))

  pub strategy-steps : {t u : Term} → Leads (LeftToRight K) t u → Leads (Step K) t u
  strategy-steps l = map_steps (λ t. t) strategy-step l

  move-next : (t u : Term) → Move K true true t u → LeftToRight K t u
  move-next t u (by p a e v w f g) = next p a v f g
  move-next t u (named p a e) = renamed p a e

  pub strategic : {t u : Term} → Moves K true true t u → Leads (LeftToRight K) t u
  strategic l = map_steps (λ t. t) move-next l

  lift-step : (o b o₁ b₁ : Bool) (f : Term → Term) (P : Place → Place) → ((p : Place) (r : Term) → put (P p) r ≡ f (put p r)) → Lifts o b o₁ b₁ P → (t u : Term)
      → Move K o b t u → Move K o₁ b₁ (f t) (f u)
  lift-step o b o₁ b₁ f P e w t u (by {r} {s} p a d v i k g) =
      let x = w p r d v i k in
      subst (λ z. Move K o₁ b₁ z (f (put p s))) (e p r) (subst (λ z. Move K o₁ b₁ (put (P p) r) z) (e p s) (by (P p) a x.0 x.1 x.2 x.3 g))
  lift-step o b o₁ b₁ f P e w t u (named {r} {s} p a d) = subst (λ z. Move K o₁ b₁ z (f (put p s))) (e p r)
      (subst (λ z. Move K o₁ b₁ (put (P p) r) z) (e p s) (named (P p) a d))

  lift : (o b o₁ b₁ : Bool) (f : Term → Term) (P : Place → Place) → ((p : Place) (r : Term) → put (P p) r ≡ f (put p r)) → Lifts o b o₁ b₁ P → {t u : Term}
      → Moves K o b t u → Moves K o₁ b₁ (f t) (f u)
  lift o b o₁ b₁ f P e w l = map_steps f (λ t u a. lift-step o b o₁ b₁ f P e w t u a) l

  -- new names alone are steps of every kind, and rules without (3) are rules
  pub by_names : {o b : Bool} {t u : Term} → Moves K false false t u → Moves K o b t u
  by_names {o} {b} l = lift false false o b (λ t. t) (λ p. p) (λ p r. refl) (λ p r e v i f. absurd (false≢true e)) l

  pub by-rules : {t u : Term} → Moves K true false t u → Moves K true true t u
  by-rules l = lift true false true true (λ t. t) (λ p. p) (λ p r. refl) (λ p r e v i f. (e, v, (stands-anywhere r true (is_source p) i).1, f)) l

  pub in_field : {o b : Bool} (i : ℕ) {t u : Term} → Moves K o b t u → Moves K o b (field i t) (field i u)
  unfolding put
  in_field {o} {b} i l = lift o b o b (field i) (λ p. Pl.field i p) (λ p r. refl) (λ p r e v j f. (e, v, j, f)) l

  pub in-negate : {o b : Bool} {t u : Term} → Moves K o b t u → Moves K o b (negate t) (negate u)
  unfolding put
  in-negate {o} {b} l = lift o b o b negate (λ p. Pl.negate p) (λ p r. refl) (λ p r e v j f. (e, v, j, f)) l

  pub in_left : {o b : Bool} (c : Bin) (z : Term) {t u : Term} → Moves K o b t u → Moves K o b (bin c t z) (bin c u z)
  unfolding put
  in_left {o} {b} c z l = lift o b o b (λ t. bin c t z) (λ p. Pl.bin_left c p z) (λ p r. refl) (λ p r e v j f. (e, v, j, f)) l

  -- what stands before is at its end, where rules are applied
  pub in_right : {o b : Bool} (c : Bin) (z : Term) → (o ≡ true → NoRule z) → {t u : Term} → Moves K o b t u → Moves K o b (bin c z t) (bin c z u)
  unfolding put
  in_right {o} {b} c z d l = lift o b o b (λ t. bin c z t) (λ p. Pl.bin_right c z p) (λ p r. refl) (λ p r e v j f. (e, v, j, (d e, f))) l

  pub in_head : {o b : Bool} (m : Monoid) (q : Quals) → (o ≡ true → NoRuleQ q (idempotent m)) → {t u : Term} → Moves K o b t u
      → Moves K o b (comp m q t) (comp m q u)
  unfolding put
  in_head {o} {b} m q d l = lift o b o b (λ t. comp m q t) (λ p. Pl.head m q p) (λ p r. refl) (λ p r e v j f. (e, v, j, (d e, f))) l

  pub in-rec : {o b : Bool} (q z : Terms) → (o ≡ true → NoRuleL q) → {t u : Term} → Moves K o b t u → Moves K o b (rec (q ⊟ tcons t z)) (rec (q ⊟ tcons u z))
  unfolding put
  in-rec {o} {b} q z d l =
      lift o b o b (λ t. rec (q ⊟ tcons t z)) (λ p. Pl.rec (past_l q (Pl.here p z))) (λ p r. ap rec (put_l-past q (Pl.here p z) r))
      (λ p r e v j f. (e, subst (λ c. Stands c r) (sym (source_l-past q (Pl.here p z))) v, j, first_l-past q (Pl.here p z) (d e) f)) l

  pub in_app : {o b : Bool} (g : Fun) (q z : Terms) → (o ≡ true → NoRuleL q) → {t u : Term} → Moves K o b t u
      → Moves K o b (app g (q ⊟ tcons t z)) (app g (q ⊟ tcons u z))
  unfolding put
  in_app {o} {b} g q z d l =
      lift o b o b (λ t. app g (q ⊟ tcons t z)) (λ p. Pl.app g (past_l q (Pl.here p z))) (λ p r. ap (app g) (put_l-past q (Pl.here p z) r))
      (λ p r e v j f. (e, subst (λ c. Stands c r) (sym (source_l-past q (Pl.here p z))) v, j, first_l-past q (Pl.here p z) (d e) f)) l

  -- a part of a qualifier that stands behind q
  in-qual : (o b b₁ : Bool) (m : Monoid) (q : Quals) → (o ≡ true → NoRuleQ q (idempotent m)) → (f : Term → Quals) (P : Place → PlaceQ) (h : Term)
      → ((p : Place) (r : Term) → put_q (P p) r ≡ f (put p r))
      → ((p : Place) (r : Term) → Stands (is_source p) r → Among b r → Stands (is_source_q (P p)) r × Among b₁ r)
      → ((p : Place) → First p → FirstQ (P p) (idempotent m))
      → {t u : Term} → Moves K o b t u → Moves K o b₁ (comp m (q ⊞ f t) h) (comp m (q ⊞ f u) h)
  unfolding put
  in-qual o b b₁ m q d f P h e w g l =
      lift o b o b₁ (λ t. comp m (q ⊞ f t) h) (λ p. Pl.quals m (past_q q (P p)) h) (λ p r. ap (λ z. comp m z h) (put_q-past q (P p) r ∙ ap (λ z. q ⊞ z) (e p r)))
      (λ p r i v j k. let s = w p r v
      j in (i, subst (λ c. Stands c r) (sym (source_q-past q (P p))) s.0, s.1, first_q-past q (P p) (idempotent m) (d i) (g p k))) l

  pub in-gen : {o b : Bool} (m : Monoid) (q : Quals) → (o ≡ true → NoRuleQ q (idempotent m)) → (x : ℕ) (r : Quals) (h : Term) {t u : Term} → Moves K o false t u
      → Moves K o b (comp m (q ⊞ gen x t r) h) (comp m (q ⊞ gen x u r) h)
  unfolding put
  in-gen {o} {b} m q d x r h l = in-qual o false b m q d (λ t. gen x t r) (λ p. Pl.gen x p r) h (λ p s. refl)
      (λ p s v j. stands-anywhere s b (is_hole p || is_source p) j) (λ p k. k) l

  pub in-bind : {o b : Bool} (m : Monoid) (q : Quals) → (o ≡ true → NoRuleQ q (idempotent m)) → (x : ℕ) (r : Quals) (h : Term) {t u : Term} → Moves K o b t u
      → Moves K o b (comp m (q ⊞ bind x t r) h) (comp m (q ⊞ bind x u r) h)
  unfolding put
  in-bind {o} {b} m q d x r h l = in-qual o b b m q d (λ t. bind x t r) (λ p. Pl.bind x p r) h (λ p s. refl) (λ p s v j. (v, j)) (λ p k. k) l

  pub in-cond : {o b : Bool} (m : Monoid) (q : Quals) → (o ≡ true → NoRuleQ q (idempotent m)) → (r : Quals) (h : Term) {t u : Term} → Moves K o b t u
      → Moves K o b (comp m (q ⊞ cond t r) h) (comp m (q ⊞ cond u r) h)
  unfolding put
  in-cond {o} {b} m q d r h l = in-qual o b b m q d (λ t. cond t r) (λ p. Pl.cond p r) h (λ p s. refl) (λ p s v j. (v, j)) (λ p k. k) l
