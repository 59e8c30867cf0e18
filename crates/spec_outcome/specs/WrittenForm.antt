-- The written form. "The answer is signed 64-bit words: a number one word; a truth 0 or 1; a record its fields in turn; a
-- collection its count, then its elements." Order and repeats are the fold's affair.
use Rattle.std.specs.Prelude.{List, [], ◌∷◌, ◌++◌, Bool, true, false, ℤ, pos}
use Rattle.spec_calculus.specs.Value.{Value, Values, num, truth, rec, coll, vnil, vcons, count}

unfoldable pub truth_word : Bool → ℤ
truth_word false = pos 0
truth_word true = pos 1

unfoldable mutual
  pub words : Value → List ℤ
  words (num z) = z ∷ []
  words (truth b) = truth_word b ∷ []
  words (rec vs) = words_l vs
  words (coll vs) = pos (count vs) ∷ words_l vs

  pub words_l : Values → List ℤ
  words_l vnil = []
  words_l (vcons v vs) = words v ++ words_l vs
