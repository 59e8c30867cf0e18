-- The dues see nothing of the data but what it is read as, nor the order in which rows of bags and sets stand: "The same records in another order give the same
-- answer" (document 02, E9), "with the same answers" (E10), "Survey order must not show" (E14).
use mathlib.Core.Path.{◌≡◌, refl, ap, ap₂, ◌∙◌}
use mathlib.Core.List.{List}
use Prim.Native.Nat.{ℕ}
use lib.Dec.{leb}
use lib.ListN.{length}
use lib.IntN.{ℤ}
use Rattle.spec_calculus.specs.Value.{Value, Tables, elems}
use Rattle.spec_encoding.specs.Record.{Bytes, Result, refused, got, and_then, require}
use Rattle.spec_encoding.specs.Data.{read_data}
use Rattle.spec_checks.specs.Types.{Typed, may_stand}
use Rattle.spec_outcome.specs.WrittenForm.{words}
use Rattle.spec_outcome.specs.Acceptance.{Lent, Posed, Accepted, examine}
use Rattle.spec_outcome.specs.Outcome.{Answer, scratch_words, with_scratch, G, looped}
use Rattle.spec_outcome.specs.RowOrder.{Reordered, Restates, Rereads}
use Rattle.spec_outcome.proofs.RowOrder.{reordered-restates, accepted, value_same, typed-same, G-same, same-results}
use Rattle.spec_outcome.proofs.SameTables.{examined-same}
use Rattle.spec_tariff.specs.Tariff.{Tariff}
use Rattle.spec_tariff.specs.TariffBytes.{read_tariff}
use Rattle.spec_tariff.specs.Dues.{gives_ships, question_type, draughts_fit, dues}
use Rattle.spec_tariff.specs.WithTariff.{charged, charged_with, with_tariff}

-- what is made of a question's type, its G and its value
abbrev charged_as : List ℤ → Tariff → Typed → ℕ → Value → Result (Answer ℤ)
charged_as b t y g v =
    let ws = words (dues t v) in
    require 45 (gives_ships y) (require 32 (leb g (length b)) (require 46 (draughts_fit t (elems v)) (got (record { size = length ws; front = ws }))))

module _ (T U : Tables) (S : Restates Reordered T U) where
  charged-ordered : (b : List ℤ) (t : Tariff) (p : Posed) → charged b t (accepted T p) ≡ charged b t (accepted U p)
  unfolding charged question_type
  charged-ordered b t p =
      let q = p.question in
      ap (λ y. charged_as b t y (G (accepted T p)) (looped (accepted T p))) (typed-same T U (reordered-restates T U S) may_stand q)
      ∙ ap₂ (charged_as b t (question_type U q)) (G-same T U S p) (value_same T U (reordered-restates T U S) q)

-- whatever each accepted question is made of, the tariff is read first
by-tariff : (l d d' : Bytes) (q : Lent) (s : List ℕ) (b : List ℤ) → ((t : Tariff) → and_then (examine d q) (charged b t) ≡ and_then (examine d' q) (charged b t)) → with_tariff l d q s b ≡ with_tariff l d' q s b
unfolding with_tariff charged_with and_then
by-tariff l d d' q s b h = ap (with_scratch scratch_words s b) (go (read_tariff l))
  where
    go : (r : Result Tariff) → and_then r (λ t. and_then (examine d q) (charged b t)) ≡ and_then r (λ t. and_then (examine d' q) (charged b t))
    go (refused n) = refl
    go (got t) = h t

pub dues-ordered : (l d d' : Bytes) (q : Lent) (s : List ℕ) (b : List ℤ) → Rereads Reordered (read_data d) (read_data d') → with_tariff l d q s b ≡ with_tariff l d' q s b
dues-ordered l d d' q s b S = by-tariff l d d' q s b (λ t. same-results d d' q S (charged b t) (λ T U R. charged-ordered T U R b t))

pub dues-same : (l d d' : Bytes) (q : Lent) (s : List ℕ) (b : List ℤ) → read_data d ≡ read_data d' → with_tariff l d q s b ≡ with_tariff l d' q s b
dues-same l d d' q s b e = by-tariff l d d' q s b (λ t. ap (λ r. and_then r (charged b t)) (examined-same d d' q e))
