-- `front_end::formed` meets its contract, by Exits, PrepareExits.
use Rattle.spec_calculus.proofs.Truths.{not-true, not-false}
use Rattle.front_end.proofs.PrepareExits.{bound-over, all_pass}
use mathlib.Core.Path.{ap}
use mathlib.Core.Bool.{not}
use Rattle.front_end.proofs.formed.Goals as goal

pub returns-then-not-a : goal.returns-then-not-a
returns-then-not-a c = bound-over c.write_form.ensures c.write_form.auto.s c.wipe.ensures c.checkpoint_tables.ensures c.keep.ensures c.name_tables.ensures
    c.bound_fits-a.ensures (not-true c.bound_fits-a.result (ap not c.if-not-a.true))

pub returns : goal.returns
returns c = all_pass c.write_form.ensures c.write_form.auto.s c.wipe.ensures c.checkpoint_tables.ensures c.keep.ensures c.name_tables.ensures
    c.bound_fits-a.ensures (not-false c.bound_fits-a.result (ap not c.if-not-a.false))
