-- The values of a type. No record is without fields ("5 record (1 to 8 terms)", and a table has 1 to 8 columns): so every value has
-- at least a word.
use Rattle.std.specs.Prelude.{Bool, ℤ}
use Rattle.spec_calculus.specs.Syntax.{Collection}
use Rattle.spec_calculus.specs.Value.{Value, Values, num, truth, rec, coll, vnil, vcons}
use Rattle.spec_checks.specs.Types.{Ty, Tys, number, record', ynil, ycons}

-- at least one field
abbrev pub Some : Tys → Type 0
Some ynil = ⊥
Some (ycons t ts) = Unit {0}

mutual
  pub data Of : Ty → Value → Type 0 where
    a_number : (z : ℤ) → Of number (num z)
    a_truth : (b : Bool) → Of Ty.truth (truth b)
    a_record : {ts : Tys} {vs : Values} → Some ts → OfEach ts vs → Of (record' ts) (rec vs)
    a_collection : (c : Collection) {t : Ty} {vs : Values} → AllOf t vs → Of (Ty.coll c t) (coll vs)

  -- field by field
  pub data OfEach : Tys → Values → Type 0 where
    no_field : OfEach ynil vnil
    field : {t : Ty} {ts : Tys} {v : Value} {vs : Values} → Of t v → OfEach ts vs → OfEach (ycons t ts) (vcons v vs)

  pub data AllOf : Ty → Values → Type 0 where
    no_element : {t : Ty} → AllOf t vnil
    element : {t : Ty} {v : Value} {vs : Values} → Of t v → AllOf t vs → AllOf t (vcons v vs)
