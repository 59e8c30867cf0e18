-- `plan_lines::grower_name` meets its contract, by base_text/LaidText.
use mathlib.Core.Path.{sym, ap}
use Rattle.spec_plan.specs.Lines.{ascii}
use Rattle.plan_lines.specs.PartTexts.{grower_text}
use Rattle.base_text.proofs.LaidText.{lays-as}
use borrow.Author.Rules.{rules}
use Rattle.plan_lines.proofs.grower_name.Goals as goal

pub returns-then-inner : goal.returns-then-inner
unfolding ascii
returns-then-inner c = lays-as (ap grower_text (sym c.if-inner.true)) c.say.ensures

pub returns-else-inner : goal.returns-else-inner
unfolding ascii
returns-else-inner c = lays-as (ap grower_text (sym c.if-inner.false)) c.say-else-inner.ensures
