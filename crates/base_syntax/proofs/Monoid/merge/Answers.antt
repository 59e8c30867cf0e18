-- `base_syntax::Monoid::merge` meets its contract, by base_signed/SignedWords.
use mathlib.Core.Path.{◌≡◌, refl, sym, ap, ap₂, subst, ◌∙◌}
use mathlib.Core.Bool.{Bool}
use Prim.Native.Nat.{◌<◌, ◌^◌}
use lib.IntN.{ℤ, ◌+ℤ◌}
use lib.Signed.{mag, lt_z}
use mir.Syntax.{w64}
use mir.Val.{SFits, to_z, of_z}
use mir.Facts.{to_z-of_z}
use Rattle.spec_calculus.specs.Lists.{pick}
use Rattle.base_signed.proofs.SignedWords.{fits, sum-ok, sum_is, zero-yes, zero-no}
use Rattle.base_syntax.specs.declared.Monoid.{Monoid}
use Rattle.base_syntax.specs.MonoidWord.{monoid_of, chosen, merge_word}
use Rattle.base_syntax.proofs.Monoid.merge.Goals as goal
use Rattle.base_syntax.proofs.Monoid.merge.Goals.{Start}

-- What an arm owes. x: the case that the match found.
module _ (c : Start) {x : Monoid} (e : c.args.self ≡ x) where
  found : merge_word (monoid_of c.args.self) c.args.a c.args.b ≡ merge_word (monoid_of x) c.args.a c.args.b
  found = ap (λ (s : Monoid). merge_word (monoid_of s) c.args.a c.args.b) e

  -- an arm that answers one of the two words, r
  answers : {r : ℤ} → SFits w64 r → r ≡ merge_word (monoid_of x) c.args.a c.args.b → to_z w64 (of_z w64 r) ≡ merge_word (monoid_of c.args.self) c.args.a c.args.b
  answers f q = to_z-of_z f ∙ q ∙ sym found

  -- an arm that adds
  module _ (q : merge_word (monoid_of x) c.args.a c.args.b ≡ c.args.a +ℤ c.args.b) where
    small : mag (c.args.a +ℤ c.args.b) < 2 ^ 63
    small = subst (λ (r : ℤ). mag r < 2 ^ 63) (found ∙ q) c.requires

    adds-ok : SFits w64 (to_z w64 (of_z w64 c.args.a) +ℤ to_z w64 (of_z w64 c.args.b))
    adds-ok = sum-ok c.ranges.a c.ranges.b small

    adds : to_z w64 (of_z w64 (to_z w64 (of_z w64 c.args.a) +ℤ to_z w64 (of_z w64 c.args.b))) ≡ merge_word (monoid_of c.args.self) c.args.a c.args.b
    adds = sum_is c.ranges.a c.ranges.b small ∙ sym q ∙ sym found

-- a test t that came out as u
picked : {t u : Bool} (p q : ℤ) → t ≡ u → pick u p q ≡ pick t p q
picked p q h = sym (ap (λ (v : Bool). pick v p q) h)

pub overflow_add-result : goal.overflow_add-result
unfolding merge_word pick
overflow_add-result c = adds-ok (goal.at.overflow_add-result c).Start c.in-List.is refl

pub overflow_add-result-in-Bag : goal.overflow_add-result-in-Bag
unfolding merge_word pick
overflow_add-result-in-Bag c = adds-ok (goal.at.overflow_add-result-in-Bag c).Start c.in-Bag.is refl

pub overflow_add-result-in-Set : goal.overflow_add-result-in-Set
unfolding merge_word pick
overflow_add-result-in-Set c = adds-ok (goal.at.overflow_add-result-in-Set c).Start c.in-Set.is refl

pub overflow_add-result-in-Sum : goal.overflow_add-result-in-Sum
unfolding merge_word pick
overflow_add-result-in-Sum c = adds-ok (goal.at.overflow_add-result-in-Sum c).Start c.in-Sum.is refl

pub returns-in-List : goal.returns-in-List
unfolding merge_word pick
returns-in-List c = adds (goal.at.returns-in-List c).Start c.in-List.is refl

pub returns-in-Bag : goal.returns-in-Bag
unfolding merge_word pick
returns-in-Bag c = adds (goal.at.returns-in-Bag c).Start c.in-Bag.is refl

pub returns-in-Set : goal.returns-in-Set
unfolding merge_word pick
returns-in-Set c = adds (goal.at.returns-in-Set c).Start c.in-Set.is refl

pub returns-in-Sum : goal.returns-in-Sum
unfolding merge_word pick
returns-in-Sum c = adds (goal.at.returns-in-Sum c).Start c.in-Sum.is refl

pub returns-in-Max : goal.returns-in-Max
unfolding merge_word pick
returns-in-Max c = answers (goal.at.returns-in-Max c).Start c.in-Max.is (fits c.choose.type_inv) (c.choose.ensures ∙ ap₂ (λ (x y : ℤ). chosen x y (lt_z x y)) (to_z-of_z c.ranges.a) (to_z-of_z c.ranges.b))

pub returns-then-a-eq0 : goal.returns-then-a-eq0
unfolding merge_word pick
returns-then-a-eq0 c = answers (goal.at.returns-then-a-eq0 c).Start c.in-Some.is c.ranges.b (picked c.args.b c.args.a (zero-yes c.ranges.a c.if-a-eq0.true))

pub returns-else-a-eq0 : goal.returns-else-a-eq0
unfolding merge_word pick
returns-else-a-eq0 c = answers (goal.at.returns-else-a-eq0 c).Start c.in-Some.is c.ranges.a (picked c.args.b c.args.a (zero-no c.ranges.a c.if-a-eq0.false))

pub returns-then-a-eq0-2 : goal.returns-then-a-eq0-2
unfolding merge_word pick
returns-then-a-eq0-2 c = answers (goal.at.returns-then-a-eq0-2 c).Start c.in-All.is c.ranges.a (picked c.args.a c.args.b (zero-yes c.ranges.a c.if-a-eq0-2.true))

pub returns-else-a-eq0-2 : goal.returns-else-a-eq0-2
unfolding merge_word pick
returns-else-a-eq0-2 c = answers (goal.at.returns-else-a-eq0-2 c).Start c.in-All.is c.ranges.b (picked c.args.a c.args.b (zero-no c.ranges.a c.if-a-eq0-2.false))

pub returns-in-Min : goal.returns-in-Min
unfolding merge_word pick
returns-in-Min c = answers (goal.at.returns-in-Min c).Start c.in-Min.is (fits c.choose-in-Min.type_inv) (c.choose-in-Min.ensures ∙ ap₂ (λ (x y : ℤ). chosen x y (lt_z y x)) (to_z-of_z c.ranges.a) (to_z-of_z c.ranges.b))
