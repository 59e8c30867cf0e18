-- `base_tariff::reach`: the last step's upper draught of the content.
use mathlib.Core.Path.{ap, ◌∙◌}
use Rattle.spec_encoding.specs.Record.{Bytes}
use Rattle.spec_tariff.specs.Tariff.{last_upper}
use Rattle.spec_tariff.specs.TariffBytes.{tariff_of}
use Rattle.base_tariff.proofs.Laws.{header-in, content-is, some-step}
use Rattle.base_tariff.proofs.reach.Goals as goal

pub slice_bounds-last_upper-count : goal.slice_bounds-last_upper-count
slice_bounds-last_upper-count c = header-in c.requires

pub slice_bounds-last_upper-start : goal.slice_bounds-last_upper-start
slice_bounds-last_upper-start c = header-in c.requires

pub last_upper-requires : goal.last_upper-requires
last_upper-requires c = some-step c.requires

pub returns : goal.returns
returns c = c.last_upper.ensures.0 ∙ ap (λ (x : Bytes). last_upper (tariff_of x).steps) (content-is c.requires)
