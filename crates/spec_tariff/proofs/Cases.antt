-- Cases of the charge, of tariffs as bytes, and of dues on an answer.
use mathlib.Core.Path.{◌≡◌, refl}
use mathlib.Core.List.{List, [], ◌∷◌, ◌++◌, map}
use mathlib.Core.Bool.{true}
use Prim.Native.Nat.{ℕ, zero, suc}
use lib.ListN.{length, replicate}
use lib.IntN.{ℤ, pos, negsuc}
use Rattle.spec_calculus.specs.Syntax.{Collection, list, bag, set, of, less, Term, num, truth, name, field, rec, bin, table, tnil, tcons, Quals, qnil, gen, cond, Question}
use Rattle.spec_calculus.specs.Value.{Value, vnil, vcons, Tables, kind_of}
use Rattle.spec_calculus.specs.Value as Va
use Rattle.spec_calculus.specs.Cases.{small, table_of, table_zero}
use Rattle.spec_calculus.specs.Lists as Lists
use Rattle.spec_calculus.specs.Order as Order
use Rattle.spec_calculus.specs.Monoid as Monoid
use Rattle.spec_calculus.specs.Meaning as Meaning
use Rattle.spec_encoding.specs.Record.{Bytes, Result, refused, got}
use Rattle.spec_encoding.specs.Record as Record
use Rattle.spec_checks.specs.Types as Types
use Rattle.spec_normal_form.specs.Form as Form
use Rattle.spec_normal_form.specs.Normal as Normal
use Rattle.spec_normal_form.specs.Normal.{normal}
use Rattle.spec_outcome.specs.WrittenForm as Written
use Rattle.spec_outcome.specs.Acceptance.{Lent, lent_as, Accepted}
use Rattle.spec_outcome.specs.Outcome.{Answer}
use Rattle.spec_outcome.specs.Outcome as Outcome
use Rattle.spec_outcome.specs.Directions as Directions
use Rattle.spec_tariff.specs.Tariff.{TariffStep, Tariff, rate_of, metres_begun, charge, last_upper, in_reach}
use Rattle.spec_tariff.specs.TariffBytes.{step_at, steps_from, tariff_of, rising, rates_fit, tariff_fits, layout_fits, is_tariff, read_tariff}
use Rattle.spec_tariff.specs.Dues.{number_type, ship_fields, is_ship, is_ships, gives_ships, question_type, draughts_fit, ship_due, dues}
use Rattle.spec_tariff.specs.WithTariff.{charged, charged_with, with_tariff}

-- ---- the charge: 1,000 up to 4 m, 1,500 up to 8 m, at least 3,000
abbrev step : ℕ → ℕ → TariffStep
step u r = record { upper = u; rate = r }

abbrev port : Tariff
port = record { steps = step 400 1000 ∷ step 800 1500 ∷ []; minimum = 3000 }

unfoldable charging : Unit {0}
unfolding Lists.pick rate_of metres_begun charge last_upper in_reach
charging = tt

-- "divided by 100, rounded up"; "the greater of rate times metres and minimum"; "not below the ship's"
charges : map (charge port) (0 ∷ 100 ∷ 300 ∷ 301 ∷ 400 ∷ 401 ∷ 800 ∷ []) ≡ 3000 ∷ 3000 ∷ 3000 ∷ 4000 ∷ 4000 ∷ 7500 ∷ 12000 ∷ []
unfolding charging
charges = refl

-- the dearest metre of all, at the deepest draught
dearest : charge (record { steps = step 4294967295 10000000 ∷ []; minimum = 0 }) 4294967295 ≡ 429496730000000
unfolding charging
dearest = refl

-- ---- bytes
-- two bytes of length, kind 22, so many steps, and the numbers
abbrev bytes_of : ℕ → ℕ → List ℕ → Bytes
bytes_of n k l = n ∷ 0 ∷ 22 ∷ 0 ∷ k ∷ Lists.bind_l l small

unfoldable reading : Unit {0}
unfolding Lists.bind_l Lists.pick Record.is_whole Record.require Directions.is_alone step_at steps_from tariff_of rising rates_fit tariff_fits layout_fits is_tariff read_tariff
reading = tt

whole : read_tariff (bytes_of 21 2 (4 ∷ 100 ∷ 8 ∷ 150 ∷ 30 ∷ [])) ≡ got (record { steps = step 4 100 ∷ step 8 150 ∷ []; minimum = 30 })
unfolding reading
whole = refl

-- the first upper draught may be 0, rates may fall and be 0
first-0 : read_tariff (bytes_of 21 2 (0 ∷ 77 ∷ 8 ∷ 0 ∷ 0 ∷ [])) ≡ got (record { steps = step 0 77 ∷ step 8 0 ∷ []; minimum = 0 })
unfolding reading
first-0 = refl

-- "rising strictly"
not-rising : read_tariff (bytes_of 21 2 (8 ∷ 100 ∷ 8 ∷ 150 ∷ 30 ∷ [])) ≡ refused 44
unfolding reading
not-rising = refl

-- "1 to 16"
no_step : read_tariff (bytes_of 5 0 (30 ∷ [])) ≡ refused 44
unfolding reading
no_step = refl

-- n steps with the upper draughts from u on, and the minimum
unfoldable rungs : ℕ → ℕ → List ℕ
rungs zero u = 0 ∷ []
rungs (suc n) u = u ∷ 1 ∷ rungs n (suc u)

sixteen : layout_fits (16 ∷ Lists.bind_l (rungs 16 1) small) ≡ true
unfolding reading rungs
sixteen = refl

seventeen : read_tariff (bytes_of 141 17 (rungs 17 1)) ≡ refused 44
unfolding reading rungs
seventeen = refl

-- a step fewer than it says, a byte behind it, more bytes than there are, nothing at all, another kind
cut_short : read_tariff (bytes_of 13 2 (4 ∷ 100 ∷ 30 ∷ [])) ≡ refused 44
unfolding reading
cut_short = refl

byte-behind : read_tariff (bytes_of 13 1 (4 ∷ 100 ∷ 30 ∷ []) ++ (0 ∷ [])) ≡ refused 44
unfolding reading
byte-behind = refl

longer : read_tariff (bytes_of 14 1 (4 ∷ 100 ∷ 30 ∷ [])) ≡ refused 44
unfolding reading
longer = refl

nothing : read_tariff [] ≡ refused 44
unfolding reading
nothing = refl

of-a_table : read_tariff (13 ∷ 0 ∷ 20 ∷ 0 ∷ 1 ∷ Lists.bind_l (4 ∷ 100 ∷ 30 ∷ []) small) ≡ refused 44
unfolding reading
of-a_table = refl

-- "at most 10,000,000": 10,000,001 is 0x989681
ten-million : read_tariff (13 ∷ 0 ∷ 22 ∷ 0 ∷ 1 ∷ 1 ∷ 0 ∷ 0 ∷ 0 ∷ 0x80 ∷ 0x96 ∷ 0x98 ∷ 0 ∷ 0x80 ∷ 0x96 ∷ 0x98 ∷ 0 ∷ []) ≡ got (record { steps = step 1 10000000 ∷ []; minimum = 10000000 })
unfolding reading
ten-million = refl

rate-above : read_tariff (13 ∷ 0 ∷ 22 ∷ 0 ∷ 1 ∷ 1 ∷ 0 ∷ 0 ∷ 0 ∷ 0x81 ∷ 0x96 ∷ 0x98 ∷ 0 ∷ 0 ∷ 0 ∷ 0 ∷ 0 ∷ []) ≡ refused 44
unfolding reading
rate-above = refl

minimum-above : read_tariff (13 ∷ 0 ∷ 22 ∷ 0 ∷ 1 ∷ 1 ∷ 0 ∷ 0 ∷ 0 ∷ 0 ∷ 0 ∷ 0 ∷ 0 ∷ 0x81 ∷ 0x96 ∷ 0x98 ∷ 0 ∷ []) ≡ refused 44
unfolding reading
minimum-above = refl

-- ---- dues
-- a bag table 0 of ships with their draughts
abbrev ship : ℤ → ℤ → Value
ship a b = Va.rec (vcons (Va.num a) (vcons (Va.num b) vnil))

abbrev ships : List Value → Tables
ships rows = table_zero (table_of bag rows)

-- the question c{ h | b <- table 0, qs }, b being name 0, accepted over T
abbrev asked : Tables → Collection → (Quals → Quals) → Term → Accepted
asked T c qs h =
    let q : Question = record { monoid = of c; quals = gen 0 (table 0) (qs qnil); head = h } in
    record { tables = T; lent = 0; question = q; form = normal (kind_of T) q }

abbrev all : Quals → Quals
all q = q

unfoldable dueing : Unit {0}
unfolding charging Lists.bind_l Lists.guard Lists.upd Va.count Va.as_int Va.as_bool Va.elems Va.nth Va.field_of Va.bin_v Va.kind_of Va.columns_of Va.is_there Va.rows_of Order.then Order.compare_z Order.le_v Order.compare_v Order.insert Monoid.start Monoid.step Monoid.total Monoid.finish Monoid.fold_by Monoid.ordered Monoid.canonical Monoid.raw Meaning.meaning Meaning.eval Record.require Types.cells Types.type_at Types.field_type Types.of_number Types.of_truth Types.bin_type Types.gathers Types.comp_type Types.ranges Types.record'' Types.cons_type Types.may_stand Types.type_of Form.◌⊕◌ Form.normal_value Form.gens Form.value Normal.idempotent Normal.condition Normal.ranges Normal.nth Normal.part Normal.binary Normal.before Normal.normal Normal.quote Normal.norm Written.words Outcome.G number_type ship_fields is_ship is_ships gives_ships question_type draughts_fit ship_due dues charged
dueing = tt

abbrev answer : List ℤ → Result (Answer ℤ)
answer ws = got (record { size = length ws; front = ws })

-- a row of a two-column table is such a record, also where the head is its name alone
rows : charged (replicate 5 (pos 0)) port (asked (ships (ship (pos 2) (pos 401) ∷ ship (pos 1) (pos 0) ∷ [])) bag all (name 0)) ≡ answer (pos 2 ∷ pos 1 ∷ pos 3000 ∷ pos 2 ∷ pos 7500 ∷ [])
unfolding dueing
rows = refl

-- "writes the bag (ship, cents)": ordered by what is charged
by-charge : charged (replicate 5 (pos 0)) (record { steps = step 500 1000 ∷ step 1000 1 ∷ []; minimum = 0 }) (asked (ships (ship (pos 1) (pos 450) ∷ ship (pos 1) (pos 550) ∷ [])) bag all (name 0))
    ≡ answer (pos 2 ∷ pos 1 ∷ pos 6 ∷ pos 1 ∷ pos 5000 ∷ [])
unfolding dueing
by-charge = refl

-- "after 32": a negative draught, and a word too few; then the same with room
short : charged (replicate 2 (pos 0)) port (asked (ships (ship (pos 1) (negsuc 0) ∷ [])) bag all (name 0)) ≡ refused 32
unfolding dueing
short = refl

below-0 : charged (replicate 3 (pos 0)) port (asked (ships (ship (pos 1) (negsuc 0) ∷ [])) bag all (name 0)) ≡ refused 46
unfolding dueing
below-0 = refl

-- "above the last step", in the last row
above-last : charged (replicate 5 (pos 0)) port (asked (ships (ship (pos 1) (pos 800) ∷ ship (pos 2) (pos 801) ∷ [])) bag all (name 0)) ≡ refused 46
unfolding dueing
above-last = refl

-- a row that a condition drops is not judged
dropped : charged (replicate 3 (pos 0)) port (asked (ships (ship (pos 1) (negsuc 4) ∷ ship (pos 2) (pos 5) ∷ [])) bag (λ q. cond (bin less (num (pos 0)) (field 1 (name 0))) q) (name 0)) ≡ answer (pos 1 ∷ pos 2 ∷ pos 3000 ∷ [])
unfolding dueing
dropped = refl

-- "a question of another type": a list, a set; one field, three; a record in a record; a truth; whatever rows there are, and before 32
of-a-list : charged [] port (asked (ships []) list all (name 0)) ≡ refused 45
unfolding dueing
of-a-list = refl

three-fields : charged [] port (asked (ships []) bag all (rec (tcons (num (pos 1)) (tcons (num (pos 2)) (tcons (num (pos 3)) tnil))))) ≡ refused 45
unfolding dueing
three-fields = refl

of-a-set : charged [] port (asked (ships []) set all (name 0)) ≡ refused 45
unfolding dueing
of-a-set = refl

one_field : charged [] port (asked (ships []) bag all (rec (tcons (num (pos 1)) tnil))) ≡ refused 45
unfolding dueing
one_field = refl

record-inside : charged [] port (asked (ships []) bag all (rec (tcons (rec (tcons (num (pos 1)) tnil)) (tcons (num (pos 5)) tnil)))) ≡ refused 45
unfolding dueing
record-inside = refl

a_truth : charged [] port (asked (ships []) bag all (rec (tcons (num (pos 1)) (tcons (truth true) tnil)))) ≡ refused 45
unfolding dueing
a_truth = refl

-- ---- the order of refusals: a tariff and data that are both refused, and too little scratch
abbrev nothing_lent : Lent
nothing_lent = lent_as [] []

tariff-first : charged_with [] (1 ∷ []) nothing_lent [] ≡ refused 44
unfolding reading Record.and_then charged_with
tariff-first = refl

scratch-first : (with_tariff [] (1 ∷ []) nothing_lent [] []).number ≡ 31
unfolding Outcome.with_scratch with_tariff
scratch-first = refl
