-- What is printed, computed: 01's listing from its bytes, all columns declared 2^31, an input that has no byte, an open minute, the least and the greatest word.
use mathlib.Core.Path.{◌≡◌, refl}
use mathlib.Core.List.{[], ◌∷◌}
use Rattle.spec_encoding.specs.Record.{Bytes}
use lib.IntN.{pos, negsuc}
use Rattle.spec_plan.specs.Lines.{ascii, signed_decimal}
use Rattle.spec_desk.specs.Desk.{desk}
use Rattle.spec_calculus.specs.Lists as Lists
use Rattle.spec_calculus.specs.Value as Value
use Rattle.spec_calculus.specs.Order as Order
use Rattle.spec_calculus.specs.Monoid as Monoid
use Rattle.spec_calculus.specs.Meaning as Meaning
use Rattle.spec_calculus.specs.Lending as Lending
use Rattle.spec_encoding.specs.Record as Record
use Rattle.spec_encoding.specs.Data as Data
use Rattle.spec_encoding.specs.Reader as Reader
use Rattle.spec_hours.specs.CalendarBytes as CalendarBytes
use Rattle.spec_checks.specs.Scope as Scope
use Rattle.spec_checks.specs.Types as Types
use Rattle.spec_checks.specs.Calendars as Calendars
use Rattle.spec_normal_form.specs.Form as Form
use Rattle.spec_normal_form.specs.Normal as Normal
use Rattle.spec_normal_form.specs.Size as Size
use Rattle.spec_normal_form.specs.Bound as Bound
use Rattle.spec_plan.specs.Planner as Planner
use Rattle.spec_plan.specs.Lines as Lines
use Rattle.spec_outcome.specs.WrittenForm as Written
use Rattle.spec_outcome.specs.Acceptance as Accepted
use Rattle.spec_outcome.specs.Outcome as Outcome
use Rattle.spec_desk.specs.TablesEnd as Split
use Rattle.spec_desk.specs.Desk as Desk

-- all the definitions that the cases compute with
unfoldable definitions : Unit {0}
unfolding Lists.bind_l Lists.guard Lists.pick Lists.upd Value.count Value.as_int Value.as_bool Value.elems Value.nth Value.field_of Value.eq_z Value.bin_v Value.not_v Value.kind_of Value.columns_of Value.is_there Value.bound_of Value.rows_of Order.then Order.compare_z Order.compare_b Order.compare_v Order.le_v Order.insert Order.put Monoid.start Monoid.greater Monoid.against Monoid.step Monoid.total Monoid.finish Monoid.fold_by Monoid.ordered Monoid.canonical Monoid.raw Meaning.eval Meaning.meaning Record.and_then Record.require Record.signed Record.is_whole Data.bounds_from Data.cells Data.rows_from Data.fits Data.table_of Data.table_by Data.bounds_fit Data.cells_within Data.rows_within Data.bounded Data.tables_from Data.read_data Reader.no_more Reader.as_term Reader.one_term Reader.filled Reader.terms Reader.in_front Reader.on_part Reader.parts Reader.comprehends Reader.named Reader.content Reader.at_record Reader.read_part Reader.read_question Lending.lend_op Lending.lend_t Lending.lend CalendarBytes.calendars_fit CalendarBytes.calendars_from CalendarBytes.calendars_of CalendarBytes.read_calendars Calendars.named_lent_op Calendars.named_lent_t Calendars.calendars_lent Scope.in_scope Scope.binders Scope.member Scope.distinct Scope.names_hold Types.cells Types.type_at Types.field_type Types.of_number Types.of_truth Types.bin_type Types.gathers Types.comp_type Types.ranges Types.typed_as Types.record'' Types.all_typed Types.of_one Types.app_type Types.cons_type Types.type_of Types.may_stand Types.is_typed Types.types_fit Types.generators_fit Form.◌⊕◌ Form.gens Form.value Form.normal_value Normal.quote Normal.idempotent Normal.gives_way Normal.condition Normal.ranges Normal.nth Normal.part Normal.binary Normal.before Normal.norm Normal.normal Size.nodes Size.size_fits Bound.own_gens Bound.bin_bound Bound.comp_bound Bound.bound Bound.within Bound.tables_of Bound.declared Bound.numbers_fit Planner.free Planner.mentions Planner.next Planner.term Planner.next_l Planner.term_l Planner.joined Planner.conj Planner.source Planner.gens_of Planner.conds_of Planner.or_unit Planner.plan_gens Planner.sift Planner.early Planner.late Planner.slot Planner.slots Planner.after Planner.mentioned Planner.last_of Planner.home Planner.grows_at Planner.grows Planner.ops Planner.plan_of Lines.ascii Lines.digits Lines.decimal Lines.signed_decimal Lines.monoid_name Lines.bin_name Lines.truth_name Lines.show_term Lines.show_source Lines.show_last Lines.show_op Lines.show_ops Lines.lines Written.truth_word Written.words Accepted.judge Accepted.read_lent Accepted.examine Outcome.settled Outcome.with_scratch Outcome.G Outcome.written Outcome.answered Outcome.checked Outcome.by_loops Outcome.by_plan Outcome.printed Outcome.plan_lines Split.table_bytes Split.tables_end Desk.spaced Desk.answer_line Desk.refusal_line Desk.plan_and_answer Desk.or_refusal Desk.asked Desk.desk
definitions = tt

-- the berths (table 0), the bollards (table 1), the question
unfoldable pub listing : Bytes
listing =
    29 ∷ 0 ∷ 20 ∷ 0 ∷ 0 ∷ 2 ∷ 2 ∷ 2 ∷ 0 ∷ 0 ∷ 0 ∷ 0 ∷ 128 ∷ 0 ∷ 0 ∷ 0 ∷ 128 ∷ 1 ∷ 0 ∷ 0 ∷ 0 ∷ 90 ∷ 0 ∷ 0 ∷ 0 ∷ 2 ∷ 0 ∷ 0 ∷ 0 ∷ 70 ∷ 0 ∷ 0 ∷ 0
    ∷ 29 ∷ 0 ∷ 20 ∷ 0 ∷ 1 ∷ 2 ∷ 2 ∷ 2 ∷ 0 ∷ 0 ∷ 0 ∷ 0 ∷ 128 ∷ 0 ∷ 0 ∷ 0 ∷ 128 ∷ 1 ∷ 0 ∷ 0 ∷ 0 ∷ 50 ∷ 0 ∷ 0 ∷ 0 ∷ 1 ∷ 0 ∷ 0 ∷ 0 ∷ 60 ∷ 0 ∷ 0 ∷ 0
    ∷ 84 ∷ 0 ∷ 14 ∷ 0 ∷ 2 ∷ 7 ∷ 0 ∷ 16 ∷ 0 ∷ 0 ∷ 0 ∷ 1 ∷ 0 ∷ 15 ∷ 0 ∷ 0 ∷ 68 ∷ 0 ∷ 5 ∷ 0 ∷ 7 ∷ 0 ∷ 4 ∷ 0 ∷ 0 ∷ 2 ∷ 0 ∷ 3 ∷ 0 ∷ 0 ∷ 0 ∷ 53 ∷ 0 ∷ 14 ∷ 0 ∷ 4 ∷ 7 ∷ 0 ∷ 16 ∷ 0 ∷ 1 ∷ 0 ∷ 1 ∷ 0 ∷ 15 ∷ 0 ∷ 1 ∷ 26 ∷ 0 ∷ 18 ∷ 0 ∷ 22 ∷ 0 ∷ 9 ∷ 0 ∷ 7 ∷ 0 ∷ 4 ∷ 0 ∷ 0 ∷ 2 ∷ 0 ∷ 3 ∷ 0 ∷ 1 ∷ 0 ∷ 7 ∷ 0 ∷ 4 ∷ 0 ∷ 0 ∷ 2 ∷ 0 ∷ 3 ∷ 0 ∷ 0 ∷ 0 ∷ 7 ∷ 0 ∷ 4 ∷ 0 ∷ 1 ∷ 2 ∷ 0 ∷ 3 ∷ 0 ∷ 1 ∷ 0 ∷ []

pub listing-printed : desk listing ≡ ascii "one\njoin 0 true\nouter 1 (= (. 0 $1) (. 0 $0))\nnest 1 sum (. 1 $1) true\nreduce bag (rec (. 0 $0) $1) true\nanswer 2 1 110 2 0\n"
unfolding definitions listing
listing-printed = refl

pub nothing-printed : desk [] ≡ ascii "refused 22\n"
unfolding definitions
nothing-printed = refl

-- "the desk program lends no calendar" (document 02, E4): some minute 0 that is open by calendar 0
pub open-refused : desk (14 ∷ 0 ∷ 14 ∷ 0 ∷ 6 ∷ 9 ∷ 0 ∷ 21 ∷ 0 ∷ 0 ∷ 4 ∷ 0 ∷ 1 ∷ 0 ∷ 0 ∷ 0 ∷ 0 ∷ 0 ∷ []) ≡ ascii "refused 42\n"
unfolding definitions
open-refused = refl

-- the ends of the words
pub least-shown : signed_decimal (negsuc 0x7fffffffffffffff) ≡ ascii "-9223372036854775808"
unfolding definitions
least-shown = refl

pub greatest-shown : signed_decimal (pos 0x7fffffffffffffff) ≡ ascii "9223372036854775807"
unfolding definitions
greatest-shown = refl
