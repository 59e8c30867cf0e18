-- `front_bounds::bound_fits` meets its contract, by CutBounds.
use Rattle.front_bounds.proofs.CutBounds.{verdict}
use Rattle.front_bounds.proofs.bound_fits.Goals as goal

pub returns : goal.returns
returns c = verdict c.form_size.ensures
