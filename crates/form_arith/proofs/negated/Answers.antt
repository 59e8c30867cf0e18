-- `form_arith::negated` meets its contract, by Exits, base_signed/SignedWords.
use mir.Facts.{to_z-of_z}
use Rattle.base_signed.proofs.SignedWords.{fits}
use Rattle.form_arith.proofs.Exits.{negated-is}
use Rattle.form_arith.proofs.negated.Goals as goal

pub returns : goal.returns
returns c = negated-is c.ranges.a (to_z-of_z (fits c.truth_word.type_inv)) c.truth_word.ensures
