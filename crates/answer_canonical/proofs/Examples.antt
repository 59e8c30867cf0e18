-- The definitions, computed: raw words, and the written words that the walk is to make of them.
use mathlib.Core.Path.{◌≡◌, refl}
use mathlib.Core.List.{List, [], ◌∷◌}
use Prim.Native.Nat.{ℕ}
use lib.IntN.{pos}
use Rattle.spec_calculus.specs.Syntax.{bag, set}
use Rattle.spec_calculus.specs.Value.{Value, num, rec, coll, from_list}
use Rattle.spec_calculus.specs.Value as Value
use Rattle.spec_calculus.specs.Order as Order
use Rattle.spec_calculus.specs.Monoid as Monoid
use Rattle.spec_checks.specs.Types.{Ty, number, record', ynil, ycons}
use Rattle.spec_checks.specs.Types as Types
use Rattle.spec_checks.proofs.Refold.{arrange_as}
use Rattle.spec_checks.proofs.Refold as Refold
use Rattle.spec_outcome.specs.WrittenForm.{words}
use Rattle.spec_outcome.specs.WrittenForm as Written
use Rattle.answer_types.specs.TypedValues.{Of, a_number, a_collection, no_element, element}

abbrev n : ℕ → Value
n k = num (pos k)

abbrev listed : List Value → Value
listed l = coll (from_list l)

-- a set of bags of numbers, one of them twice
abbrev bags : Value
bags = listed (listed (n 5 ∷ n 3 ∷ []) ∷ listed (n 3 ∷ n 5 ∷ []) ∷ listed (n 9 ∷ []) ∷ [])

abbrev set_of_bags : Ty
set_of_bags = Types.coll set (Types.coll bag number)

pub bags-typed : Of set_of_bags bags
bags-typed = a_collection set (element (a_collection bag (element (a_number _) (element (a_number _) no_element)))
    (element (a_collection bag (element (a_number _) (element (a_number _) no_element))) (element (a_collection bag (element (a_number _) no_element)) no_element)))

pub bags-raw : words bags ≡ pos 3 ∷ pos 2 ∷ pos 5 ∷ pos 3 ∷ pos 2 ∷ pos 3 ∷ pos 5 ∷ pos 1 ∷ pos 9 ∷ []
unfolding Written.words Value.count
bags-raw = refl

pub bags-written : words (arrange_as set_of_bags bags) ≡ pos 2 ∷ pos 1 ∷ pos 9 ∷ pos 2 ∷ pos 3 ∷ pos 5 ∷ []
unfolding Written.words Value.count Value.elems Order.then Order.compare_z Order.compare_v Order.le_v Order.insert Order.put Monoid.start Monoid.step Monoid.total Monoid.finish Monoid.fold_by Monoid.ordered Refold.refold Refold.on_parts
bags-written = refl

-- "Berth row (1, 90) twice, .. As a set comprehension over the same rows: 1 1 110, with G 5."
abbrev berths : Value
berths = listed (rec (from_list (n 1 ∷ n 110 ∷ [])) ∷ rec (from_list (n 1 ∷ n 110 ∷ [])) ∷ [])

pub berths-written : words (arrange_as (Types.coll set (record' (ycons number (ycons number ynil)))) berths) ≡ pos 1 ∷ pos 1 ∷ pos 110 ∷ []
unfolding Written.words Value.count Value.elems Order.then Order.compare_z Order.compare_v Order.le_v Order.insert Order.put Monoid.start Monoid.step Monoid.total Monoid.finish Monoid.fold_by Monoid.ordered Refold.refold Refold.on_parts
berths-written = refl
