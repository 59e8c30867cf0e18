-- The starred cases together: number, value as typed, the normal form's value, the plan's value, written words and G; the plan's
-- lines.
use mathlib.Core.Path.{◌≡◌, refl}
use Rattle.spec_calculus.specs.Value.{kind_of}
use Rattle.spec_calculus.specs.Monoid.{canonical}
use Rattle.spec_calculus.specs.Meaning.{meaning}
use Rattle.spec_calculus.specs.Cases.{Case, answers, prints, refuses, reads, declines, starred}
use Rattle.spec_calculus.proofs.Lists.{All}
use Rattle.spec_encoding.specs.Record.{refused, got}
use Rattle.spec_encoding.specs.Data.{read_data}
use Rattle.spec_normal_form.specs.Form.{normal_value}
use Rattle.spec_normal_form.specs.Normal.{normal}
use Rattle.spec_plan.specs.Planner.{plan_of}
use Rattle.spec_plan.specs.Operators.{plan_value}
use Rattle.spec_plan.specs.Lines.{ascii, lines}
use Rattle.spec_outcome.specs.WrittenForm.{words}
use Rattle.spec_outcome.specs.Acceptance.{Lent, Accepted, judge, examine}
use Rattle.spec_outcome.specs.Outcome.{G}
use Rattle.spec_calculus.specs.Lists as Lists
use Rattle.spec_calculus.specs.Value as Value
use Rattle.spec_calculus.specs.Order as Order
use Rattle.spec_calculus.specs.Monoid as Monoid
use Rattle.spec_calculus.specs.Meaning as Meaning
use Rattle.spec_encoding.specs.Record as Record
use Rattle.spec_encoding.specs.Data as Data
use Rattle.spec_checks.specs.Scope as Scope
use Rattle.spec_checks.specs.Types as Types
use Rattle.spec_checks.specs.Calendars as Calendars
use Rattle.spec_normal_form.specs.Form as Form
use Rattle.spec_normal_form.specs.Normal as Normal
use Rattle.spec_normal_form.specs.Size as Size
use Rattle.spec_normal_form.specs.Bound as Bound
use Rattle.spec_plan.specs.Operators as Operators
use Rattle.spec_plan.specs.Planner as Planner
use Rattle.spec_plan.specs.Lines as Lines
use Rattle.spec_outcome.specs.WrittenForm as Written
use Rattle.spec_outcome.specs.Acceptance as Accepted
use Rattle.spec_outcome.specs.Outcome as Outcome

-- all the definitions that the cases compute with
unfoldable definitions : Unit {0}
unfolding Lists.bind_l Lists.guard Lists.pick Lists.upd Value.count Value.as_int Value.as_bool Value.elems Value.nth Value.field_of Value.eq_z Value.bin_v Value.not_v Value.scalar Value.choice_v Value.app_v Value.kind_of Value.columns_of Value.is_there Value.bound_of Value.rows_of Order.then Order.compare_z Order.compare_b Order.le_v Order.compare_v Order.insert Order.put Monoid.start Monoid.greater Monoid.lesser Monoid.against Monoid.step Monoid.total Monoid.finish Monoid.fold_by Monoid.ordered Monoid.canonical Monoid.raw Meaning.meaning Meaning.eval Record.and_then Record.require Record.signed Record.is_whole Data.bounds_from Data.cells Data.rows_from Data.fits Data.table_of Data.table_by Data.bounds_fit Data.cells_within Data.rows_within Data.bounded Data.tables_from Data.read_data Scope.member Scope.distinct Scope.names_hold Scope.in_scope Scope.binders Types.cells Types.type_at Types.field_type Types.of_number Types.of_truth Types.bin_type Types.of_three Types.choice_type Types.app_type Types.gathers Types.comp_type Types.ranges Types.typed_as Types.record'' Types.all_typed Types.cons_type Types.may_stand Types.is_typed Types.types_fit Calendars.named_lent_op Calendars.named_lent_t Calendars.calendars_lent Types.generators_fit Types.type_of Form.◌⊕◌ Form.normal_value Form.gens Form.value Normal.idempotent Normal.gives_way Normal.condition Normal.ranges Normal.nth Normal.part Normal.binary Normal.before Normal.normal Normal.quote Normal.norm Size.size_fits Size.nodes Bound.own_gens Bound.bin_bound Bound.larger Bound.app_bound Bound.comp_bound Bound.bound Bound.tables_of Bound.declared Bound.numbers_fit Bound.within Operators.value_of Operators.at Operators.meets Operators.whole Operators.source_rows Operators.numbered Operators.matches Operators.kept Operators.matches_or_pad Operators.number Operators.same Operators.enter Operators.heads Operators.groups Operators.close Operators.apply Operators.exec Operators.one Operators.plan_value Operators.eval_p Planner.next_l Planner.term_l Planner.joined Planner.conj Planner.source Planner.gens_of Planner.conds_of Planner.or_unit Planner.plan_gens Planner.sift Planner.early Planner.late Planner.slot Planner.slots Planner.after Planner.mentioned Planner.last_of Planner.home Planner.grows_at Planner.grows Planner.plan_of Planner.free Planner.mentions Planner.next Planner.term Planner.ops Lines.ascii Lines.digits Lines.decimal Lines.signed_decimal Lines.monoid_name Lines.bin_name Lines.fun_name Lines.truth_name Lines.show_term Lines.show_source Lines.show_last Lines.show_op Lines.show_ops Lines.lines Written.truth_word Written.words Accepted.judge Accepted.examine Outcome.settled Outcome.with_scratch Outcome.G Outcome.written Outcome.answered Outcome.checked Outcome.by_loops Outcome.by_plan Outcome.printed Outcome.plan_lines
definitions = tt

-- With four calendars lent: accepted, with this value as typed, of the normal form and of the plan, these words and this G; accepted, with these lines; or
-- refused so. Data that are read as these tables, or refused so whatever the question is.
abbrev pub Holds : Case → Type 0
Holds (answers T q v ws g) =
    let a : Accepted = record { tables = T; lent = 4; question = q; form = normal (kind_of T) q } in
    (judge T 4 q ≡ got a) × (meaning canonical T q ≡ v) × (normal_value canonical T a.form ≡ v) × (plan_value canonical T (plan_of a.form) ≡ v) × (words v ≡ ws) × (G a ≡ g)
Holds (prints T q s) =
    let f = normal (kind_of T) q in
    (judge T 4 q ≡ got (record { tables = T; lent = 4; question = q; form = f })) × (lines (plan_of f) ≡ ascii s)
Holds (refuses T q n) = judge T 4 q ≡ refused n
Holds (reads d T) = read_data d ≡ got T
Holds (declines d n) = (l : Lent) → examine d l ≡ refused n

-- every row of the table holds: document 01's starred cases as document 02 leaves them, and E1's, E2's, E5's and E9's own
pub starred-hold : All Holds starred
unfolding definitions
starred-hold = ((refl, refl, refl, refl, refl, refl), ((refl, refl), ((refl, refl, refl, refl, refl, refl), ((refl, refl, refl, refl, refl, refl), ((refl, refl, refl, refl, refl, refl), ((refl, refl, refl, refl, refl, refl), ((refl, refl, refl, refl, refl, refl), ((refl, refl, refl, refl, refl, refl), ((refl, refl, refl, refl, refl, refl), ((refl, refl, refl, refl, refl, refl), ((refl, refl, refl, refl, refl, refl), ((refl, refl, refl, refl, refl, refl), ((refl, refl, refl, refl, refl, refl), ((refl, refl, refl, refl, refl, refl), ((refl, refl, refl, refl, refl, refl), ((refl, refl, refl, refl, refl, refl), ((refl, refl), (refl, ((refl, refl, refl, refl, refl, refl), ((refl, refl, refl, refl, refl, refl), ((refl, refl, refl, refl, refl, refl), (refl, (refl, (refl, ((refl, refl, refl, refl, refl, refl), ((refl, refl), ((refl, refl, refl, refl, refl, refl), ((refl, refl), ((refl, refl), ((refl, refl, refl, refl, refl, refl), (refl, (refl, (refl, (refl, ((refl, refl, refl, refl, refl, refl), (refl, ((refl, refl, refl, refl, refl, refl), (refl, ((refl, refl, refl, refl, refl, refl), (refl, ((refl, refl, refl, refl, refl, refl), (refl, (refl, (λ l. refl, (refl, (λ l. refl, (λ l. refl, (λ l. refl, (λ l. refl, (λ l. refl, (λ l. refl, (λ l. refl, (refl, (refl, ((refl, refl, refl, refl, refl, refl), ((refl, refl), (refl, (refl, (λ l. refl, (λ l. refl, (λ l. refl, (λ l. refl, (λ l. refl, (λ l. refl, (λ l. refl, (λ l. refl, (λ l. refl, (λ l. refl, (λ l. refl, (λ l. refl, tt))))))))))))))))))))))))))))))))))))))))))))))))))))))))))))))))))))))
