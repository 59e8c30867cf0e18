-- The starred cases: 28 passes what is answered and refuses what it is to refuse.
use mathlib.Core.Path.{◌≡◌, refl}
use mathlib.Core.Bool.{Bool, true, not}
use lib.Dec.{eqb}
use Rattle.spec_calculus.specs.Lists.{pick, upd}
use Rattle.spec_calculus.specs.Syntax.{Question}
use Rattle.spec_calculus.specs.Value.{Tables, kind_of, bound_of}
use Rattle.spec_calculus.specs.Cases.{Case, answers, prints, refuses, reads, declines, starred}
use Rattle.spec_calculus.proofs.Lists.{All}
use Rattle.spec_normal_form.specs.Form.{◌⊕◌, gens}
use Rattle.spec_normal_form.specs.Normal.{quote, idempotent, gives_way, condition, ranges, part, binary, before, norm, normal}
use Rattle.spec_normal_form.specs.Normal as Nm
use Rattle.spec_normal_form.specs.Bound.{own_gens, bin_bound, larger, app_bound, comp_bound, bound, within, tables_of, declared, numbers_fit}

abbrev passes28 : Tables → Question → Bool
passes28 T q = numbers_fit (bound_of T) (normal (kind_of T) q)

abbrev pub Fits : Case → Type 0
Fits (answers T q v ws g) = passes28 T q ≡ true
Fits (prints T q s) = passes28 T q ≡ true
Fits (refuses T q n) = passes28 T q ≡ not (eqb n 28)
Fits (reads d T) = Unit {0}
Fits (declines d n) = Unit {0}

pub starred-fit : All Fits starred
unfolding pick upd kind_of bound_of ◌⊕◌ gens quote idempotent gives_way condition ranges Nm.nth part binary before norm normal own_gens bin_bound larger app_bound comp_bound bound within tables_of declared numbers_fit
starred-fit = (refl, (refl, (refl, (refl, (refl, (refl, (refl, (refl, (refl, (refl, (refl, (refl, (refl, (refl, (refl, (refl, (refl, (refl, (refl, (refl, (refl, (refl, (refl, (refl, (refl, (refl, (refl, (refl, (refl, (refl, (refl, (refl, (refl, (refl, (refl, (refl, (refl, (refl, (refl, (refl, (refl, (refl, (tt, (tt, (tt, (tt, (tt, (tt, (tt, (tt, (tt, (tt, (tt, (tt, (refl, (refl, (refl, (refl, (tt, (tt, (tt, (tt, (tt, (tt, (tt, (tt, (tt, (tt, (tt, (tt, tt))))))))))))))))))))))))))))))))))))))))))))))))))))))))))))))))))))))
