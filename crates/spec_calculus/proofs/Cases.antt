-- The starred cases: their values as typed.
use mathlib.Core.Path.{◌≡◌, refl}
use Rattle.spec_calculus.specs.Lists.{bind_l, guard, pick, upd}
use Rattle.spec_calculus.specs.Value.{nth, field_of, as_int, as_bool, elems, eq_z, bin_v, scalar, choice_v, app_v, count, kind_of, rows_of}
use Rattle.spec_calculus.specs.Order.{then, compare_z, compare_v, le_v, insert, put}
use Rattle.spec_calculus.specs.Monoid.{start, greater, lesser, against, step, total, finish, fold_by, ordered, canonical}
use Rattle.spec_calculus.specs.Meaning.{eval, meaning}
use Rattle.spec_calculus.specs.Cases.{Case, answers, prints, refuses, reads, declines, starred}
use Rattle.spec_calculus.proofs.Lists.{All}

abbrev pub Meant : Case → Type 0
Meant (answers T q v ws g) = meaning canonical T q ≡ v
Meant (prints T q s) = Unit {0}
Meant (refuses T q n) = Unit {0}
Meant (reads d T) = Unit {0}
Meant (declines d n) = Unit {0}

pub starred-meant : All Meant starred
unfolding bind_l guard pick upd nth field_of as_int as_bool elems eq_z bin_v scalar choice_v app_v count kind_of rows_of then compare_z compare_v le_v insert put start greater lesser against step total finish fold_by ordered canonical eval meaning
starred-meant = (refl, (tt, (refl, (refl, (refl, (refl, (refl, (refl, (refl, (refl, (refl, (refl, (refl, (refl, (refl, (refl, (tt, (tt, (refl, (refl, (refl, (tt, (tt, (tt, (refl, (tt, (refl, (tt, (tt, (refl, (tt, (tt, (tt, (tt, (refl, (tt, (refl, (tt, (refl, (tt, (refl, (tt, (tt, (tt, (tt, (tt, (tt, (tt, (tt, (tt, (tt, (tt, (tt, (tt, (refl, (tt, (tt, (tt, (tt, (tt, (tt, (tt, (tt, (tt, (tt, (tt, (tt, (tt, (tt, (tt, tt))))))))))))))))))))))))))))))))))))))))))))))))))))))))))))))))))))))
