-- The dues on an answer: "a question giving a bag of records (ship, draught), all numbers", and "the bag (ship, cents)" (document 02, E6).
use Rattle.std.specs.Prelude.{List, [], ◌∷◌, map, Bool, true, false, ◌&&◌, ℤ, pos, nat_abs}
use Rattle.spec_calculus.specs.Syntax.{list, bag, set, of, Question, as_term}
use Rattle.spec_calculus.specs.Value.{Value, num, rec, vnil, vcons, as_int, elems, field_of, Tables}
use Rattle.spec_calculus.specs.Monoid.{canonical}
use Rattle.spec_checks.specs.Types.{Ty, Tys, number, truth, record', coll, ynil, ycons, Typed, wrong, has, type_of, may_stand}
use Rattle.spec_tariff.specs.Tariff.{Tariff, charge, last_upper, in_reach}

-- ---- "a question of another type", which is 45
unfoldable pub number_type : Ty → Bool
number_type number = true
number_type truth = false
number_type (record' ts) = false
number_type (coll c t) = false

-- "(ship, draught), all numbers": two fields, both numbers
unfoldable pub ship_fields : Tys → Bool
ship_fields ynil = false
ship_fields (ycons s ynil) = false
ship_fields (ycons s (ycons t ynil)) = number_type s && number_type t
ship_fields (ycons s (ycons t (ycons u us))) = false

-- such a record
unfoldable pub is_ship : Ty → Bool
is_ship number = false
is_ship truth = false
is_ship (record' ts) = ship_fields ts
is_ship (coll c t) = false

-- "a bag of records"
unfoldable pub is_ships : Ty → Bool
is_ships number = false
is_ships truth = false
is_ships (record' ts) = false
is_ships (coll list t) = false
is_ships (coll bag t) = is_ship t
is_ships (coll set t) = false

unfoldable pub gives_ships : Typed → Bool
gives_ships wrong = false
gives_ships (has t) = is_ships t

-- the type of a question that 24 to 26 let pass
unfoldable pub question_type : Tables → Question → Typed
question_type T q = type_of may_stand T (as_term q) (λ x. wrong)

-- ---- ships and their dues
-- the draught of a record (ship, draught)
abbrev pub draught_of : Value → ℤ
draught_of v = as_int (field_of 1 v)

-- no "draught below 0 or above the last step", which is 46
unfoldable pub draughts_fit : Tariff → List Value → Bool
draughts_fit t [] = true
draughts_fit t (v ∷ l) = in_reach (last_upper t.steps) (draught_of v) && draughts_fit t l

-- "(ship, cents)": of a draught that 46 lets pass, which is not below 0
unfoldable pub ship_due : Tariff → Value → Value
ship_due t v = rec (vcons (field_of 0 v) (vcons (num (pos (charge t (nat_abs (draught_of v))))) vnil))

-- "the bag (ship, cents)" of a bag of ships: ordered as every bag is, so by what is charged
unfoldable pub dues : Tariff → Value → Value
dues t v = canonical (of bag) (map (ship_due t) (elems v))
