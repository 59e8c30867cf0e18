-- `front_emit::write_form` meets its contract, by FormInScratch.
use mathlib.Core.Path.{refl}
use lib.ListN.{replicate}
use Rattle.front_emit.proofs.FormInScratch.{whole-starts, whole-done}
use Rattle.front_emit.proofs.write_form.Goals as goal

pub emit-r-requires : goal.emit-r-requires
emit-r-requires c = (whole-starts c.requires (replicate 32 0), refl)

pub returns : goal.returns
returns c = whole-done c.requires (replicate 32 0) c.emit-r.ensures
