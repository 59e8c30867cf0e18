-- What charging ships in the answer buffer asks and gives.
use Rattle.std.specs.Prelude.{◌≡◌, List, map, ◌++◌, ℕ, zero, suc, ◌+◌, ◌≤◌, ◌<◌, length, get_or, set, ℤ, pos, nat_abs}
use Rattle.spec_calculus.specs.Syntax.{of, bag}
use Rattle.spec_calculus.specs.Value.{Value, coll, from_list}
use Rattle.spec_calculus.specs.Monoid.{canonical}
use Rattle.spec_calculus.proofs.Lists.{All}
use Rattle.spec_encoding.specs.Record.{Bytes}
use Rattle.spec_checks.specs.Types as Ty
use Rattle.spec_outcome.specs.WrittenForm.{words}
use Rattle.spec_tariff.specs.Tariff.{Tariff, charge}
use Rattle.spec_tariff.specs.Dues.{ship_due}
use Rattle.base_signed.specs.Limit.{number_limit}
use Rattle.base_tariff.specs.Contract.{IsTariff}
use Rattle.form_words.specs.FormTree.{left}
use Rattle.answer_types.specs.Shape.{type_at}
use Rattle.answer_types.specs.TypedValues.{Of}
use Rattle.answer_ships.proofs.PreparedShips.{ship_type}

-- the word at p as a draught gives way to its cents; `set` changes nothing outside the buffer
unfoldable pub charged_at : Tariff → ℕ → List ℤ → List ℤ
charged_at t p o = set o p (pos (charge t (nat_abs (get_or o p (pos 0)))))

-- n draughts, the first at p, one word between them
unfoldable pub charged_from : Tariff → ℕ → ℕ → List ℤ → List ℤ
charged_from t p zero o = o
charged_from t p (suc n) o = charged_from t (p + 2) n (charged_at t p o)

pub record ChargePre (l : Bytes) (n : ℕ) : Type 0 where
  pub tariff : IsTariff l
  pub few : n ≤ number_limit

-- Where scratch stands for a bag of ships and the raw words of n of them stand in front, the words of their dues do afterwards.
pub record SettleDuesPost (s : List ℕ) (t : Tariff) (n : ℕ) (o o' : List ℤ) (r : ℕ) : Type 0 where
  pub is :
      (f : ℕ) → left 0 < f → type_at f s 0 ≡ Ty.coll bag ship_type → (l : List Value) → length l ≡ n → All (Of ship_type) l → (R : List ℤ) → o ≡ words (coll (from_list l)) ++ R →
      let ws = words (canonical (of bag) (map (ship_due t) l)) in (o' ≡ ws ++ R) × (r ≡ length ws) × (length ws ≡ length (words (coll (from_list l))))
