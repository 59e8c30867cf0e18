-- `engine::dislogha_first_open`: the outcome of base_hours', over the minute that was given.
use mathlib.Core.Path.{ap, ◌∙◌}
use mir.Facts.{to_z-of_z}
use Rattle.spec_hours.specs.Calls.{first_opened}
use borrow.Author.Rules.{rules}
use Rattle.engine.proofs.dislogha_first_open.Goals as goal

pub returns : goal.returns
returns c = c.first_open.ensures ∙ ap (first_opened c.args.calendars.now c.args.calendar) (to_z-of_z c.ranges.minute)
