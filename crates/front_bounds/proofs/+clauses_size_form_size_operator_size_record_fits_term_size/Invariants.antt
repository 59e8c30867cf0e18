use Prim.Native.Nat.{◌+◌}
use Rattle.form_words.specs.FormTree.{left}
use Rattle.form_env.specs.Environment.{declared_in}
use Rattle.front_bounds.proofs.CutBounds.{Sizing, Fitting}
use Rattle.front_bounds.proofs.+clauses_size_form_size_operator_size_record_fits_term_size.Given as goal

abbrev pub decreases-clauses_size : goal.decreases-clauses_size
decreases-clauses_size l = left l.i + 1

abbrev pub invariant-clauses_size-loop-g : goal.invariant-clauses_size-loop-g
invariant-clauses_size-loop-g l = Sizing (declared_in l.«data» l.s) l.s l.i l.m l.j l.n l.fits

abbrev pub decreases-clauses_size-loop-g : goal.decreases-clauses_size-loop-g
decreases-clauses_size-loop-g l = left l.j

abbrev pub decreases-form_size : goal.decreases-form_size
decreases-form_size l = left l.i

abbrev pub decreases-operator_size : goal.decreases-operator_size
decreases-operator_size l = left l.i + 2

abbrev pub decreases-record_fits : goal.decreases-record_fits
decreases-record_fits l = left l.i + 1

abbrev pub invariant-record_fits-loop-j : goal.invariant-record_fits-loop-j
invariant-record_fits-loop-j l = Fitting (declared_in l.«data» l.s) l.s l.i l.e l.j l.fits

abbrev pub decreases-record_fits-loop-j : goal.decreases-record_fits-loop-j
decreases-record_fits-loop-j l = left l.j

abbrev pub decreases-term_size : goal.decreases-term_size
decreases-term_size l = left l.i + 1
