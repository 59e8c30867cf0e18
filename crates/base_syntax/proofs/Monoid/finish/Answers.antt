-- `base_syntax::Monoid::finish` meets its contract, by base_signed/SignedWords.
use mathlib.Core.Path.{◌≡◌, sym, ap, ◌∙◌}
use mathlib.Core.Bool.{Bool}
use lib.IntN.{ℤ, pos}
use mir.Syntax.{w64}
use mir.Val.{SFits, to_z, of_z}
use mir.Facts.{to_z-of_z, sfits_lit}
use Rattle.spec_calculus.specs.Lists.{pick}
use Rattle.spec_calculus.specs.Value.{eq_z}
use Rattle.base_signed.proofs.SignedWords.{eq_yes, eq_no}
use Rattle.base_syntax.specs.declared.Monoid.{Monoid}
use Rattle.base_syntax.specs.MonoidWord.{none_word, monoid_of, finish_word}
use Rattle.base_syntax.proofs.Monoid.finish.Goals as goal

-- What an arm owes. x: the case that the match found.
answers : {s x : Monoid} (a : ℤ) {r : ℤ} → s ≡ x → SFits w64 r → r ≡ finish_word (monoid_of x) a → to_z w64 (of_z w64 r) ≡ finish_word (monoid_of s) a
answers a e f q = to_z-of_z f ∙ q ∙ sym (ap (λ (s : Monoid). finish_word (monoid_of s) a) e)

module _ {a : ℤ} (f : SFits w64 a) where
  is_none : of_z w64 a ≡ of_z w64 none_word → pos 0 ≡ pick (eq_z a none_word) (pos 0) a
  unfolding pick
  is_none e = sym (ap (λ (t : Bool). pick t (pos 0) a) (eq_yes f (sfits_lit {z = none_word} tt) e))

  no_none : (of_z w64 a ≡ of_z w64 none_word → ⊥) → a ≡ pick (eq_z a none_word) (pos 0) a
  unfolding pick
  no_none h = sym (ap (λ (t : Bool). pick t (pos 0) a) (eq_no f (sfits_lit {z = none_word} tt) h))

pub returns-then-a-eq-NONE : goal.returns-then-a-eq-NONE
unfolding finish_word
returns-then-a-eq-NONE c = answers c.args.a c.in-Max.is (sfits_lit {z = pos 0} tt) (is_none c.ranges.a c.if-a-eq-NONE.true)

pub returns-else-a-eq-NONE : goal.returns-else-a-eq-NONE
unfolding finish_word
returns-else-a-eq-NONE c = answers c.args.a c.in-Max.is c.ranges.a (no_none c.ranges.a c.if-a-eq-NONE.false)

pub returns-then-a-eq-NONE-2 : goal.returns-then-a-eq-NONE-2
unfolding finish_word
returns-then-a-eq-NONE-2 c = answers c.args.a c.in-Min.is (sfits_lit {z = pos 0} tt) (is_none c.ranges.a c.if-a-eq-NONE-2.true)

pub returns-else-a-eq-NONE-2 : goal.returns-else-a-eq-NONE-2
unfolding finish_word
returns-else-a-eq-NONE-2 c = answers c.args.a c.in-Min.is c.ranges.a (no_none c.ranges.a c.if-a-eq-NONE-2.false)
