-- The bound on the comparisons of a whole answer: "at most 3 times n times the binary digits of n comparisons of two elements" (document 02, E3) for each
-- bag and each set of n elements in it, added up as its steps are (`steps` in answer_canonical/specs/Comparisons).
use Rattle.std.specs.Prelude.{map, ℕ, ◌+◌, length}
use Rattle.spec_calculus.specs.Syntax.{Collection, list, bag, set}
use Rattle.spec_calculus.specs.Value.{Value, Values, vnil, vcons, to_list}
use Rattle.spec_calculus.specs.Monoid.{raw}
use Rattle.spec_checks.specs.Types.{Ty, Tys, number, record', ynil, ycons}
use Rattle.spec_checks.specs.Types as Ty
use Rattle.spec_normal_form.specs.Form.{as_form, normal_value}
use Rattle.spec_outcome.specs.Acceptance.{Accepted}
use Rattle.answer_types.specs.Shape.{type_of}
use Rattle.answer_sort.specs.Ordering.{most_comparisons}
use Rattle.answer_canonical.specs.Comparisons.{total, parts}

-- of n elements: a list is left as it stands
unfoldable pub most_by : Collection → ℕ → ℕ
most_by list n = 0
most_by bag n = most_comparisons n
most_by set n = most_comparisons n

-- of the value's own elements; of those of its parts
unfoldable pub most_own : Ty → Value → ℕ
most_own number v = 0
most_own Ty.truth v = 0
most_own (record' ts) v = 0
most_own (Ty.coll c t) v = most_by c (length (to_list (parts v)))

unfoldable mutual
  pub most_inside : Ty → Value → ℕ
  most_inside number v = 0
  most_inside Ty.truth v = 0
  most_inside (record' ts) v = most_inside_each ts (parts v)
  most_inside (Ty.coll c t) v = total (map (λ w. most_inside t w + most_own t w) (to_list (parts v)))

  pub most_inside_each : Tys → Values → ℕ
  most_inside_each ynil vs = 0
  most_inside_each (ycons t ts) vnil = 0
  most_inside_each (ycons t ts) (vcons v vs) = most_inside t v + most_own t v + most_inside_each ts vs

abbrev pub most_steps : Ty → Value → ℕ
most_steps t v = most_inside t v + most_own t v

-- of an answer's raw value, as `comparisons_of`
abbrev pub most_of : Accepted → ℕ
most_of a = most_steps (type_of (λ g. 0) (as_form a.form)) (normal_value raw a.tables a.form)
