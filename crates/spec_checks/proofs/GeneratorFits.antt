-- The rule of refusal 26: a generator that may stand in a monoid sees its collection as the list of heads that made it.
use mathlib.Core.Path.{◌≡◌, refl, sym, ap, ◌∙◌, subst}
use mathlib.Core.List.{List}
use mathlib.Core.Bool.{true, true≢false}
use Rattle.spec_calculus.specs.Lists.{bind_l}
use Rattle.spec_calculus.specs.Syntax.{Collection, list, bag, set, Monoid, of, sum, max, min, some, all}
use Rattle.spec_calculus.specs.Value.{Value, elems}
use Rattle.spec_calculus.specs.Monoid.{canonical}
use Rattle.spec_calculus.specs.Rearrangement.{Alike, reorder}
use Rattle.spec_calculus.proofs.Folds.{seen_as, alike-path, alike-over, canon, arranged, arranged-alike, elems-of, Eqv, alike-eqv}
use Rattle.spec_checks.specs.Types.{may_stand}

-- Where a generator over a set may stand, every generator may.
pub may_stand-any : (c : Collection) (M : Monoid) → may_stand set M ≡ true → may_stand c M ≡ true
unfolding may_stand
may_stand-any list M h = refl
may_stand-any bag (of list) h = cc
may_stand-any bag (of bag) h = refl
may_stand-any bag (of set) h = refl
may_stand-any bag sum h = refl
may_stand-any bag max h = refl
may_stand-any bag min h = refl
may_stand-any bag some h = refl
may_stand-any bag all h = refl
may_stand-any set M h = h

-- A generator that may stand in a collection may stand where that collection's may.
pub may_stand-trans : (a b : Collection) (M : Monoid) → may_stand a (of b) ≡ true → may_stand b M ≡ true → may_stand a M ≡ true
unfolding may_stand
may_stand-trans list b M p q = refl
may_stand-trans bag list M p q = cc
may_stand-trans bag bag M p q = q
may_stand-trans bag set M p q = may_stand-any bag M q
may_stand-trans set list M p q = cc
may_stand-trans set bag M p q = cc
may_stand-trans set set M p q = q

-- A generator over a set may stand in the monoids that see their heads as a set.
pub may_stand-set : (M : Monoid) → may_stand set M ≡ true → seen_as M ≡ set
unfolding may_stand seen_as
may_stand-set (of list) h = cc
may_stand-set (of bag) h = cc
may_stand-set (of set) h = refl
may_stand-set sum h = cc
may_stand-set max h = refl
may_stand-set min h = refl
may_stand-set some h = refl
may_stand-set all h = refl

-- What a collection does not tell apart, a monoid in which its generators may stand does not either.
pub fit-alike : {A : Type 0} (c : Collection) (M : Monoid) → may_stand c M ≡ true → (l n : List A) → Alike c l n → Alike (seen_as M) l n
unfolding may_stand seen_as
fit-alike list M h l n r = alike-path (seen_as M) l n r
fit-alike bag (of list) h l n r = absurd (true≢false (sym h))
fit-alike bag (of bag) h l n r = r
fit-alike bag (of set) h l n r = reorder r
fit-alike bag sum h l n r = r
fit-alike bag max h l n r = reorder r
fit-alike bag min h l n r = reorder r
fit-alike bag some h l n r = reorder r
fit-alike bag all h l n r = reorder r
fit-alike set M h l n r = subst (λ c. Alike c l n) (sym (may_stand-set M h)) r

-- A generator over a collection that may stand in M sees the collection as its list of heads.
pub fit-eqv : (c : Collection) (M : Monoid) → may_stand c M ≡ true → (l : List Value) (f : Value → List Value) → Eqv M (bind_l l f) (bind_l (elems (canonical (of c) l)) f)
fit-eqv c M h l f = sym (alike-eqv M (bind_l (arranged c l) f) (bind_l l f) (alike-over (seen_as M) (arranged c l) l f (fit-alike c M h (arranged c l) l (arranged-alike c l)))) ∙ ap (λ n. canon M (bind_l n f)) (sym (elems-of c l))
