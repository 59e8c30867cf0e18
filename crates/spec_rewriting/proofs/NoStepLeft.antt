-- Where no rule applies (`NoRule`), no step is left but a new name.
use mathlib.Core.Path.{◌≡◌, refl, sym, subst, ◌∙◌}
use mathlib.Core.Bool.{Bool, true, ◌||◌, true≢false}
use mathlib.Core.Logic.{◌⊎◌, inl, inr}
use Prim.Native.Nat.{ℕ}
use Rattle.spec_calculus.specs.Syntax.{Collection, Term, Quals, qnil, gen, bind, cond, Question, as_term}
use Rattle.spec_normal_form.specs.Normal.{idempotent, gives_way, normal}
use Rattle.spec_normal_form.specs.Place.{Place, Places, PlaceQ, put, put_l, put_q}
use Rattle.spec_normal_form.specs.Place as Pl
use Rattle.spec_normal_form.specs.Rules.{Rule, bound_name, record_field, bare_table, and_condition, flat_generator, some_condition, rename, ◌⊞◌}
use Rattle.spec_normal_form.specs.NoRule.{IsTable, NoRule, NoRuleL, NoRuleQ, question_of}
use Rattle.spec_normal_form.proofs.NoRuleApplies.{normal-no-rule}
use Rattle.spec_rewriting.specs.Steps.{is_hole, is_source, is_source_l, is_source_q, Stands, Change, by_rule, rename_binding, is_renaming}

-- what stands where c says whether that is a generator's term: no rule applies to it, or it is a generator's table
abbrev Ended : Bool → Term → Type 0
Ended c r = NoRule r ⊎ ((c ≡ true) × IsTable r)

ended-source : (p : Place) (r : Term) → IsTable (put p r) → Ended (is_hole p || is_source p) r
unfolding put
ended-source Pl.hole r a = inr (refl, a)
ended-source (Pl.field i p) r a = absurd a
ended-source (Pl.rec p) r a = absurd a
ended-source (Pl.bin_left o p t) r a = absurd a
ended-source (Pl.bin_right o t p) r a = absurd a
ended-source (Pl.negate p) r a = absurd a
ended-source (Pl.app f p) r a = absurd a
ended-source (Pl.quals m p h) r a = absurd a
ended-source (Pl.head m q p) r a = absurd a

mutual
  unfolding put NoRule

  ended-place : (p : Place) (r : Term) → NoRule (put p r) → Ended (is_source p) r
  ended-place Pl.hole r a = inl a
  ended-place (Pl.field i p) r a = ended-place p r a.1
  ended-place (Pl.rec p) r a = ended-place_l p r a
  ended-place (Pl.app f p) r a = ended-place_l p r a
  ended-place (Pl.bin_left o p t) r a = ended-place p r a.0
  ended-place (Pl.bin_right o t p) r a = ended-place p r a.1
  ended-place (Pl.negate p) r a = ended-place p r a
  ended-place (Pl.quals m p h) r a = ended-place_q p r (idempotent m) a.0
  ended-place (Pl.head m q p) r a = ended-place p r a.1

  ended-place_l : (p : Places) (r : Term) → NoRuleL (put_l p r) → Ended (is_source_l p) r
  ended-place_l (Pl.here p ts) r a = ended-place p r a.0
  ended-place_l (Pl.there t p) r a = ended-place_l p r a.1

  ended-place_q : (p : PlaceQ) (r : Term) (b : Bool) → NoRuleQ (put_q p r) b → Ended (is_source_q p) r
  ended-place_q (Pl.gen x p q) r b a = ended-source p r a.0
  ended-place_q (Pl.bind x p q) r b a = absurd a
  ended-place_q (Pl.cond p q) r b a = ended-place p r a.1
  ended-place_q (Pl.past_gen x t p) r b a = ended-place_q p r b a.1
  ended-place_q (Pl.past_bind x t p) r b a = absurd a
  ended-place_q (Pl.past_cond t p) r b a = ended-place_q p r b a.2

-- of qualifiers, those behind
ended-behind : (q r : Quals) (b : Bool) → NoRuleQ (q ⊞ r) b → NoRuleQ r b
unfolding NoRule ◌⊞◌
ended-behind qnil r b a = a
ended-behind (gen x t q) r b a = ended-behind q r b a.1
ended-behind (bind x t q) r b a = absurd a
ended-behind (cond t q) r b a = ended-behind q r b a.2

-- no rule's left side has ended; (3)'s has, where it is a generator's term, and there it does not stand
ended-rule : {K : ℕ → Collection} {r s : Term} (a : Rule K r s) (c : Bool) → Stands c r → Ended c r → is_renaming (by_rule a) ≡ true
unfolding NoRule gives_way
ended-rule (bound_name S m q₁ x s q₃ h u v w) c d (inl e) = absurd (ended-behind q₁ (bind x s q₃) (idempotent m) e.0)
ended-rule (bound_name S m q₁ x s q₃ h u v w) c d (inr e) = absurd e.1
ended-rule (record_field i ts) c d (inl e) = absurd e.0
ended-rule (record_field i ts) c d (inr e) = absurd e.1
ended-rule (bare_table k x) c d (inl e) = absurd e
ended-rule (bare_table k x) c d (inr e) = absurd (true≢false (sym e.0 ∙ d))
ended-rule (and_condition m q₁ s t q₃ h) c d (inl e) = absurd (ended-behind q₁ _ (idempotent m) e.0).0
ended-rule (and_condition m q₁ s t q₃ h) c d (inr e) = absurd e.1
ended-rule (flat_generator S m q₁ x i q₂ t q₃ h u v w) c d (inl e) = absurd (ended-behind q₁ _ (idempotent m) e.0).0
ended-rule (flat_generator S m q₁ x i q₂ t q₃ h u v w) c d (inr e) = absurd e.1
ended-rule (some_condition S m q₁ q₂ t q₃ h u v w) c d (inl e) = absurd (true≢false (sym u ∙ (ended-behind q₁ _ (idempotent m) e.0).0))
ended-rule (some_condition S m q₁ q₂ t q₃ h u v w) c d (inr e) = absurd e.1
ended-rule (rename S m q₁ x y t q₃ h u v w) c d e = refl

-- Where `NoRule` holds, whatever changes at whatever place is a name.
pub only-names-change : {K : ℕ → Collection} {r s : Term} (p : Place) (a : Change K r s) → Stands (is_source p) r → NoRule (put p r) → is_renaming a ≡ true
only-names-change {r = r} p (by_rule a) d e = ended-rule a (is_source p) d (ended-place p r e)
only-names-change p (rename_binding S m q₁ x y t q₃ h u v w) d e = refl

-- So it is with the normal form: "until none applies". Beside `normal-no-rule`, which this rests on: a rule that a captured name blocks has not ended.
pub normal-ended : (K : ℕ → Collection) (q : Question) {r s : Term} (p : Place) (a : Change K r s) → Stands (is_source p) r
    → put p r ≡ as_term (question_of (normal K q)) → is_renaming a ≡ true
normal-ended K q p a d e = only-names-change p a d (subst (λ t. NoRule t) (sym e) (normal-no-rule K q))
