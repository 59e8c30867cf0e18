-- All ordering steps of one value added up: those of its parts, each of which has been brought to its written form when it is ordered,
-- and its own. Each step hands its own count back; no open call tells them.
use Rattle.std.specs.Prelude.{List, [], ◌∷◌, map, ℕ, ◌+◌}
use Rattle.spec_calculus.specs.Value.{Value, Values, num, truth, rec, coll, vnil, vcons, to_list}
use Rattle.spec_checks.specs.Types.{Ty, Tys, number, record', ynil, ycons}
use Rattle.spec_checks.specs.Types as Ty
use Rattle.spec_checks.proofs.Refold.{arrange_as}
use Rattle.answer_heap.specs.HeapSort.{Counted}
use Rattle.answer_sort.specs.Ordering.{ordering}

unfoldable pub total : List ℕ → ℕ
total [] = 0
total (k ∷ l) = k + total l

abbrev pub parts : Value → Values
parts (num z) = vnil
parts (truth b) = vnil
parts (rec vs) = vs
parts (coll vs) = vs

-- the value's own step: its elements are ordered as they are written
unfoldable pub own : Ty → Value → ℕ
own number v = 0
own Ty.truth v = 0
own (record' ts) v = 0
own (Ty.coll c t) v = (ordering c (map (arrange_as t) (to_list (parts v)))).comparisons

-- the steps of its parts
unfoldable mutual
  pub inside : Ty → Value → ℕ
  inside number v = 0
  inside Ty.truth v = 0
  inside (record' ts) v = inside_each ts (parts v)
  inside (Ty.coll c t) v = total (map (λ w. inside t w + own t w) (to_list (parts v)))

  pub inside_each : Tys → Values → ℕ
  inside_each ynil vs = 0
  inside_each (ycons t ts) vnil = 0
  inside_each (ycons t ts) (vcons v vs) = inside t v + own t v + inside_each ts vs

abbrev pub steps : Ty → Value → ℕ
steps t v = inside t v + own t v
