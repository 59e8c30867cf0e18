-- "Applied until none applies": one rule at one place of a question, or a new name there, such steps one after another, and a strategy: from left to right.
use Rattle.std.specs.Prelude.{◌≡◌, Bool, true, false, ◌||◌, ◌++◌, ℕ}
use Rattle.spec_calculus.specs.Lists.{upd}
use Rattle.spec_calculus.specs.Syntax.{Collection, Monoid, Term, Quals, num, truth, name, field, rec, bin, negate, app, comp, table, bind}
use Rattle.spec_checks.specs.Scope.{Scope, binders, binders_q}
use Rattle.spec_normal_form.specs.Normal.{idempotent}
use Rattle.spec_normal_form.specs.Place.{Place, Places, PlaceQ, put}
use Rattle.spec_normal_form.specs.Place as Pl
use Rattle.spec_normal_form.specs.Rules.{Rule, bound_name, record_field, bare_table, and_condition, flat_generator, some_condition, rename, Fresh, ReadsOnly, only, ◌⊞◌, sub, sub_q}
use Rattle.spec_normal_form.specs.NoRule.{IsTable, Stays, NoRule, NoRuleQ}

abbrev pub is_hole : Place → Bool
is_hole Pl.hole = true
is_hole (Pl.field i p) = false
is_hole (Pl.rec p) = false
is_hole (Pl.bin_left o p t) = false
is_hole (Pl.bin_right o t p) = false
is_hole (Pl.negate p) = false
is_hole (Pl.app f p) = false
is_hole (Pl.quals m p h) = false
is_hole (Pl.head m q p) = false

-- whether this place is a generator's term
abbrev mutual
  pub is_source : Place → Bool
  is_source Pl.hole = false
  is_source (Pl.field i p) = is_source p
  is_source (Pl.rec p) = is_source_l p
  is_source (Pl.bin_left o p t) = is_source p
  is_source (Pl.bin_right o t p) = is_source p
  is_source (Pl.negate p) = is_source p
  is_source (Pl.app f p) = is_source_l p
  is_source (Pl.quals m p h) = is_source_q p
  is_source (Pl.head m q p) = is_source p

  pub is_source_l : Places → Bool
  is_source_l (Pl.here p ts) = is_source p
  is_source_l (Pl.there t p) = is_source_l p

  pub is_source_q : PlaceQ → Bool
  is_source_q (Pl.gen x p q) = is_hole p || is_source p
  is_source_q (Pl.bind x p q) = is_source p
  is_source_q (Pl.cond p q) = is_source p
  is_source_q (Pl.past_gen x t p) = is_source_q p
  is_source_q (Pl.past_bind x t p) = is_source_q p
  is_source_q (Pl.past_cond t p) = is_source_q p

-- (3) is about "a table that is not a generator's term": c says whether it is one. The other rules look at no place.
abbrev pub Stands : Bool → Term → Type 0
Stands c (num z) = Unit {0}
Stands c (truth x) = Unit {0}
Stands c (name x) = Unit {0}
Stands c (field i t) = Unit {0}
Stands c (rec ts) = Unit {0}
Stands c (bin o s t) = Unit {0}
Stands c (negate t) = Unit {0}
Stands c (app f ts) = Unit {0}
Stands c (comp m q h) = Unit {0}
Stands c (table k) = c ≡ false

-- A rule; or a binding's name x becomes y, which is not read behind it (unless it is x) and, like x, not bound there, as with a generator's in `rename`.
pub data Change (K : ℕ → Collection) : Term → Term → Type 0 where
  by_rule : {r s : Term} → Rule K r s → Change K r s
  rename_binding : (S : Scope) (m : Monoid) (q₁ : Quals) (x y : ℕ) (t : Term) (q₃ : Quals) (h : Term) → S y ≡ false → ReadsOnly q₃ h (upd x true S)
      → Fresh (only x y) (binders_q q₃ ++ binders h)
      → Change K (comp m (q₁ ⊞ bind x t q₃) h) (comp m (q₁ ⊞ bind y t (sub_q x (name y) q₃)) (sub x (name y) h))

-- one step, at one place
pub data Step (K : ℕ → Collection) : Term → Term → Type 0 where
  at : {r s : Term} (p : Place) → Change K r s → Stands (is_source p) r → Step K (put p r) (put p s)

-- The strategy, from left to right: what stands wholly before the place in written order has ended (`NoRule`). What stands around it need not have ended ..
abbrev mutual
  pub First : Place → Type 0
  First Pl.hole = Unit {0}
  First (Pl.field i p) = First p
  First (Pl.rec p) = FirstL p
  First (Pl.bin_left o p t) = First p
  First (Pl.bin_right o t p) = NoRule t × First p
  First (Pl.negate p) = First p
  First (Pl.app f p) = FirstL p
  First (Pl.quals m p h) = FirstQ p (idempotent m)
  First (Pl.head m q p) = NoRuleQ q (idempotent m) × First p

  pub FirstL : Places → Type 0
  FirstL (Pl.here p ts) = First p
  FirstL (Pl.there t p) = NoRule t × FirstL p

  -- b: directly in set, max, min, some or all
  pub FirstQ : PlaceQ → Bool → Type 0
  FirstQ (Pl.gen x p q) b = First p
  FirstQ (Pl.bind x p q) b = First p
  FirstQ (Pl.cond p q) b = First p
  FirstQ (Pl.past_gen x t p) b = IsTable t × FirstQ p b
  FirstQ (Pl.past_bind x t p) b = ⊥
  FirstQ (Pl.past_cond t p) b = Stays b t × NoRule t × FirstQ p b

-- .. and so have the qualifiers before the one that the rule is about
abbrev pub FirstQual : {K : ℕ → Collection} {r s : Term} → Rule K r s → Type 0
FirstQual (bound_name S m q₁ x s q₃ h a b c) = NoRuleQ q₁ (idempotent m)
FirstQual (record_field i ts) = Unit {0}
FirstQual (bare_table k x) = Unit {0}
FirstQual (and_condition m q₁ s t q₃ h) = NoRuleQ q₁ (idempotent m)
FirstQual (flat_generator S m q₁ x c q₂ t q₃ h a b d) = NoRuleQ q₁ (idempotent m)
FirstQual (some_condition S m q₁ q₂ t q₃ h a b c) = NoRuleQ q₁ (idempotent m)
FirstQual (rename S m q₁ x y t q₃ h a b c) = NoRuleQ q₁ (idempotent m)

abbrev pub is_renaming : {K : ℕ → Collection} {r s : Term} → Change K r s → Bool
is_renaming (by_rule (bound_name S m q₁ x s q₃ h a b c)) = false
is_renaming (by_rule (record_field i ts)) = false
is_renaming (by_rule (bare_table k x)) = false
is_renaming (by_rule (and_condition m q₁ s t q₃ h)) = false
is_renaming (by_rule (flat_generator S m q₁ x c q₂ t q₃ h a b d)) = false
is_renaming (by_rule (some_condition S m q₁ q₂ t q₃ h a b c)) = false
is_renaming (by_rule (rename S m q₁ x y t q₃ h a b c)) = true
is_renaming (rename_binding S m q₁ x y t q₃ h a b c) = true

-- One step of the strategy. A name may change at any place; what asks for it is a copy that would capture it, and the numbers of generators at the end.
pub data LeftToRight (K : ℕ → Collection) : Term → Term → Type 0 where
  next : {r s : Term} (p : Place) (a : Rule K r s) → Stands (is_source p) r → First p → FirstQual a → LeftToRight K (put p r) (put p s)
  renamed : {r s : Term} (p : Place) (a : Change K r s) → is_renaming a ≡ true → LeftToRight K (put p r) (put p s)

-- steps of a kind, one after another
pub data Leads (R : Term → Term → Type 0) (t : Term) : Term → Type 0 where
  none : Leads R t t
  onwards : {r s : Term} → Leads R t r → R r s → Leads R t s
