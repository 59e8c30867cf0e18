-- One more, up to a limit.
use mathlib.Core.Path.{◌≡◌, sym, ◌∙◌}
use Prim.Native.Nat.{ℕ, ◌+◌, ◌≤◌, ◌<◌, min}
use native.Mathlib.Omega.{arith}
use borrow.Author.Tests.{lt-ltb, le-ltb, ltb-true, ltb-false}
use lib.Dec.{ltb}
use Rattle.spec_calculus.specs.Lists.{pick}
use Rattle.base_signed.specs.Limit.{bump_to}
use Rattle.base_signed.proofs.SignedWords.{by-test}

pub bump-more : {limit : ℕ} (p : ℕ) → p < limit → p + 1 ≡ bump_to limit p
unfolding bump_to pick
bump-more {limit} p l = rw (lt-ltb p limit l)

pub bump-full : {limit : ℕ} (p : ℕ) → limit ≤ p → p ≡ bump_to limit p
unfolding bump_to pick
bump-full {limit} p l = rw (le-ltb p limit l)

pub bump-min : {limit : ℕ} (p : ℕ) → p ≤ limit → bump_to limit p ≡ min (p + 1) limit
bump-min {limit} p l = by-test (ltb p limit)
    (λ h. sym (bump-more p (ltb-true p limit h)) ∙ omega (arith, ltb-true p limit h))
    (λ h. sym (bump-full p (ltb-false p limit h)) ∙ omega (arith, ltb-false p limit h))

pub bump-up : (limit p : ℕ) → p ≤ bump_to limit p
bump-up limit p = by-test (ltb p limit) (λ h. omega (arith, bump-more p (ltb-true p limit h))) (λ h. omega (arith, bump-full p (ltb-false p limit h)))
