-- The starred cases: the values of their plans, and their lines.
use mathlib.Core.Path.{◌≡◌, refl}
use Rattle.spec_calculus.specs.Lists.{bind_l, guard, pick, upd}
use Rattle.spec_calculus.specs.Value.{nth, field_of, as_int, as_bool, elems, eq_z, bin_v, scalar, choice_v, app_v, count, kind_of, rows_of}
use Rattle.spec_calculus.specs.Order.{then, compare_z, compare_v, le_v, insert, put}
use Rattle.spec_calculus.specs.Monoid.{start, greater, lesser, against, step, total, finish, fold_by, ordered, canonical}
use Rattle.spec_calculus.specs.Cases.{Case, answers, prints, refuses, reads, declines, starred}
use Rattle.spec_calculus.proofs.Lists.{All}
use Rattle.spec_normal_form.specs.Form.{◌⊕◌, gens}
use Rattle.spec_normal_form.specs.Normal.{quote, idempotent, gives_way, condition, ranges, part, binary, before, norm, normal}
use Rattle.spec_normal_form.specs.Normal as Nm
use Rattle.spec_plan.specs.Operators.{value_of, at, eval_p, meets, whole, source_rows, numbered, matches, kept, matches_or_pad, number, same, enter, heads, groups, close, apply, exec, one, plan_value}
use Rattle.spec_plan.specs.Planner.{free, mentions, next, term, next_l, term_l, joined, conj, source, gens_of, conds_of, or_unit, plan_gens, sift, early, late, slot, slots, after, mentioned, last_of, home, grows_at, grows, ops, plan_of}
use Rattle.spec_plan.specs.Lines.{ascii, digits, decimal, signed_decimal, monoid_name, bin_name, fun_name, truth_name, show_term, show_source, show_last, show_op, show_ops, lines}

-- the definitions that a plan's making and running compute with
unfoldable pub planning : Unit {0}
unfolding upd pick kind_of ◌⊕◌ gens quote idempotent gives_way condition ranges Nm.nth part binary before norm normal free mentions next term next_l term_l joined conj source gens_of conds_of or_unit plan_gens sift early late slot slots after mentioned last_of home grows_at grows ops plan_of
planning = tt

unfoldable pub running : Unit {0}
unfolding bind_l guard pick nth field_of as_int as_bool elems eq_z bin_v scalar choice_v app_v count rows_of then compare_z compare_v le_v insert put start greater lesser against step total finish fold_by ordered canonical value_of at eval_p meets whole source_rows numbered matches kept matches_or_pad number same enter heads groups close apply exec one plan_value
running = tt

unfoldable pub printing : Unit {0}
unfolding ascii digits decimal signed_decimal monoid_name bin_name fun_name truth_name show_term show_source show_last show_op show_ops lines
printing = tt

abbrev pub Planned : Case → Type 0
Planned (answers T q v ws g) = plan_value canonical T (plan_of (normal (kind_of T) q)) ≡ v
Planned (prints T q s) = lines (plan_of (normal (kind_of T) q)) ≡ ascii s
Planned (refuses T q n) = Unit {0}
Planned (reads d T) = Unit {0}
Planned (declines d n) = Unit {0}

pub starred-planned : All Planned starred
unfolding planning running printing
starred-planned = (refl, (refl, (refl, (refl, (refl, (refl, (refl, (refl, (refl, (refl, (refl, (refl, (refl, (refl, (refl, (refl, (refl, (tt, (refl, (refl, (refl, (tt, (tt, (tt, (refl, (refl, (refl, (refl, (refl, (refl, (tt, (tt, (tt, (tt, (refl, (tt, (refl, (tt, (refl, (tt, (refl, (tt, (tt, (tt, (tt, (tt, (tt, (tt, (tt, (tt, (tt, (tt, (tt, (tt, (refl, (refl, (tt, (tt, (tt, (tt, (tt, (tt, (tt, (tt, (tt, (tt, (tt, (tt, (tt, (tt, tt))))))))))))))))))))))))))))))))))))))))))))))))))))))))))))))))))))))
