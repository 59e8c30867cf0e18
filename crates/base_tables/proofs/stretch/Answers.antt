-- `base_tables::stretch` meets its contract, by Stretches. Assumes nothing.
use Rattle.std.proofs.Common.{ℕ, ◌*◌, refl, ap, ◌∙◌}
use Rattle.base_tables.proofs.Stretches.{stretched}
use Rattle.base_tables.proofs.stretch.Goals as goal

pub returns : goal.returns
returns c = stretched c.requires c.rows.ensures (c.cells.ensures.0 ∙ ap (λ (n : ℕ). n * c.args.f) c.columns.ensures) c.cells.ensures.1 refl
