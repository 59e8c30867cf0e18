-- The listing's question, run: how many rows are offered, and what the machine is done with.
use mathlib.Core.Path.{◌≡◌, refl}
use mathlib.Core.List.{[]}
use Prim.Native.Nat.{ℕ}
use Rattle.spec_calculus.specs.Value.{Value, Tables, vnil, vcons, coll, kind_of}
use Rattle.spec_calculus.specs.Monoid.{raw}
use Rattle.spec_calculus.specs.Cases.{pair, harbour, berths, twice, bollards, listing}
use Rattle.spec_normal_form.specs.Form.{NormalForm}
use Rattle.spec_normal_form.specs.Normal.{normal}
use Rattle.spec_plan.specs.Planner.{plan_of}
use Rattle.spec_plan.proofs.Cases.{planning, running}
use Rattle.plan_machine.specs.Program.{end_of, loops_at, loops, end_at, inners, program_at, program_of}
use Rattle.plan_machine.specs.Machine.{behind, merge, takes, zero_of, rows_for, done, on_rows, enter_then, back, begin, offer, run}
use Rattle.plan_machine.specs.Offers.{wholes, offers_at, offers_in, plan_offers}

-- the question's normal form over these tables
abbrev form_of : Tables → NormalForm
form_of T = normal (kind_of T) listing

unfoldable offering : Unit {0}
unfolding planning running raw end_of loops_at loops end_at inners program_at program_of behind merge takes zero_of rows_for on_rows enter_then back begin offer run wholes offers_at offers_in plan_offers
offering = tt

-- two berths are offered to the one row, two bollards to each berth; then n rows offered leave this
abbrev Offers : Tables → ℕ → Type 0
Offers T n = plan_offers raw T (plan_of (form_of T)) ≡ n

abbrev Leaves : Tables → ℕ → Value → Type 0
Leaves T n v = run T n (begin T (program_of (form_of T))) ≡ done v

pub listing-run : Offers (harbour berths bollards) 6 × Leaves (harbour berths bollards) 6 (coll (vcons (pair 1 110) (vcons (pair 2 0) vnil)))
unfolding offering
listing-run = (refl, refl)

-- a berth twice: its bollards are summed anew
pub twice-run : Offers (harbour twice bollards) 6 × Leaves (harbour twice bollards) 6 (coll (vcons (pair 1 110) (vcons (pair 1 110) vnil)))
unfolding offering
twice-run = (refl, refl)

-- no bollards: a berth's row goes on behind the nest, though none was offered to it
pub none-run : Offers (harbour berths []) 2 × Leaves (harbour berths []) 2 (coll (vcons (pair 1 0) (vcons (pair 2 0) vnil)))
unfolding offering
none-run = (refl, refl)
