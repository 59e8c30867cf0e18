-- The starred cases: the values of their normal forms.
use mathlib.Core.Path.{◌≡◌, refl}
use Rattle.spec_calculus.specs.Lists.{bind_l, guard, pick, upd}
use Rattle.spec_calculus.specs.Value.{nth, field_of, as_int, as_bool, elems, eq_z, bin_v, scalar, choice_v, app_v, count, kind_of, rows_of}
use Rattle.spec_calculus.specs.Order.{then, compare_z, compare_v, le_v, insert, put}
use Rattle.spec_calculus.specs.Monoid.{start, greater, lesser, against, step, total, finish, fold_by, ordered, canonical}
use Rattle.spec_calculus.specs.Cases.{Case, answers, prints, refuses, reads, declines, starred}
use Rattle.spec_calculus.proofs.Lists.{All}
use Rattle.spec_normal_form.specs.Form.{◌⊕◌, gens, value, normal_value}
use Rattle.spec_normal_form.specs.Normal.{quote, idempotent, gives_way, condition, ranges, part, binary, before, norm, normal}
use Rattle.spec_normal_form.specs.Normal as Nm

abbrev pub Normalised : Case → Type 0
Normalised (answers T q v ws g) = normal_value canonical T (normal (kind_of T) q) ≡ v
Normalised (prints T q s) = Unit {0}
Normalised (refuses T q n) = Unit {0}
Normalised (reads d T) = Unit {0}
Normalised (declines d n) = Unit {0}

pub starred-normalised : All Normalised starred
unfolding bind_l guard pick upd nth field_of as_int as_bool elems eq_z bin_v scalar choice_v app_v count kind_of rows_of then compare_z compare_v le_v insert put start greater lesser against step total finish fold_by ordered canonical ◌⊕◌ gens value normal_value quote idempotent gives_way condition ranges Nm.nth part binary before norm normal
starred-normalised = (refl, (tt, (refl, (refl, (refl, (refl, (refl, (refl, (refl, (refl, (refl, (refl, (refl, (refl, (refl, (refl, (tt, (tt, (refl, (refl, (refl, (tt, (tt, (tt, (refl, (tt, (refl, (tt, (tt, (refl, (tt, (tt, (tt, (tt, (refl, (tt, (refl, (tt, (refl, (tt, (refl, (tt, (tt, (tt, (tt, (tt, (tt, (tt, (tt, (tt, (tt, (tt, (tt, (tt, (refl, (tt, (tt, (tt, (tt, (tt, (tt, (tt, (tt, (tt, (tt, (tt, (tt, (tt, (tt, (tt, tt))))))))))))))))))))))))))))))))))))))))))))))))))))))))))))))))))))))
