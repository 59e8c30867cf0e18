-- `base_syntax::choose` meets its contract, by base_signed/SignedWords.
use mathlib.Core.Path.{◌≡◌, sym, ap, ◌∙◌}
use mathlib.Core.Bool.{Bool}
use lib.IntN.{ℤ}
use mir.Syntax.{w64}
use mir.Val.{SFits, of_z}
use mir.Facts.{to_z-of_z, sfits_lit}
use Rattle.spec_calculus.specs.Lists.{pick}
use Rattle.base_signed.proofs.SignedWords.{eq_yes, eq_no}
use Rattle.base_syntax.specs.MonoidWord.{none_word, chosen}
use Rattle.base_syntax.proofs.choose.Goals as goal

module _ {a b : ℤ} (fa : SFits w64 a) (fb : SFits w64 b) (t : Bool) where
  none_first : of_z w64 a ≡ of_z w64 none_word → b ≡ chosen a b t
  unfolding chosen pick
  none_first e = sym (rw (eq_yes fa (sfits_lit {z = none_word} tt) e))

  module _ (p : of_z w64 a ≡ of_z w64 none_word → ⊥) where
    none-second : of_z w64 b ≡ of_z w64 none_word → a ≡ chosen a b t
    unfolding chosen pick
    none-second e = sym (rw (eq_no fa (sfits_lit {z = none_word} tt) p, eq_yes fb (sfits_lit {z = none_word} tt) e))

    neither : (of_z w64 b ≡ of_z w64 none_word → ⊥) → pick t b a ≡ chosen a b t
    unfolding chosen pick
    neither q = sym (rw (eq_no fa (sfits_lit {z = none_word} tt) p, eq_no fb (sfits_lit {z = none_word} tt) q))

pub returns-then-a-eq-NONE : goal.returns-then-a-eq-NONE
unfolding pick
returns-then-a-eq-NONE c = to_z-of_z c.ranges.b ∙ none_first c.ranges.a c.ranges.b c.args.second c.if-a-eq-NONE.true

pub returns-then-b-eq-NONE : goal.returns-then-b-eq-NONE
unfolding pick
returns-then-b-eq-NONE c = to_z-of_z c.ranges.a ∙ none-second c.ranges.a c.ranges.b c.args.second c.if-a-eq-NONE.false c.if-b-eq-NONE.true

pub returns-then-second : goal.returns-then-second
unfolding pick
returns-then-second c = to_z-of_z c.ranges.b ∙ sym (ap (λ (t : Bool). pick t c.args.b c.args.a) c.if-second.true) ∙ neither c.ranges.a c.ranges.b c.args.second c.if-a-eq-NONE.false c.if-b-eq-NONE.false

pub returns-else-second : goal.returns-else-second
unfolding pick
returns-else-second c = to_z-of_z c.ranges.a ∙ sym (ap (λ (t : Bool). pick t c.args.b c.args.a) c.if-second.false) ∙ neither c.ranges.a c.ranges.b c.args.second c.if-a-eq-NONE.false c.if-b-eq-NONE.false
