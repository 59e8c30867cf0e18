-- The monoids that do not see repeats, where a "some" condition gives way, are those in which a generator over a set may
-- stand.
use mathlib.Core.Path.{◌≡◌, refl, sym, ◌∙◌}
use mathlib.Core.Bool.{Bool, true, false, ◌||◌}
use Rattle.spec_calculus.specs.Syntax.{Collection, list, bag, set, Monoid, of, sum, max, min, some, all}
use Rattle.spec_calculus.proofs.Folds.{seen_as}
use Rattle.spec_checks.specs.Types.{may_stand}
use Rattle.spec_checks.proofs.GeneratorFits.{may_stand-any, may_stand-set}
use Rattle.spec_normal_form.specs.Normal.{idempotent}

pub idempotent-set : (m : Monoid) → idempotent m ≡ may_stand set m
unfolding idempotent may_stand
idempotent-set (of list) = refl
idempotent-set (of bag) = refl
idempotent-set (of set) = refl
idempotent-set sum = refl
idempotent-set max = refl
idempotent-set min = refl
idempotent-set some = refl
idempotent-set all = refl

-- where b says that "some" gives way, M does not see repeats
abbrev pub Safe : Bool → Monoid → Type 0
Safe b M = b ≡ true → idempotent M ≡ true

pub or-safe : (b c : Bool) (M : Monoid) → Safe b M → Safe c M → Safe (b || c) M
or-safe true c M p q = p
or-safe false c M p q = q

pub false-safe : (M : Monoid) → Safe false M
false-safe M p = cc

pub safe-set : (M : Monoid) → Safe true M → seen_as M ≡ set
safe-set M p = may_stand-set M (sym (idempotent-set M) ∙ p refl)

-- every generator that may stand in m may stand in M
abbrev pub Within : Monoid → Monoid → Type 0
Within m M = (a : Collection) → may_stand a m ≡ true → may_stand a M ≡ true

-- everything may stand where repeats are not seen
pub idempotent-within : (m M : Monoid) → idempotent M ≡ true → Within m M
idempotent-within m M p a q = may_stand-any a M (sym (idempotent-set M) ∙ p)

pub within-safe : (m M : Monoid) → Within m M → Safe (idempotent m) M
within-safe m M w p = idempotent-set M ∙ w set (sym (idempotent-set m) ∙ p)
