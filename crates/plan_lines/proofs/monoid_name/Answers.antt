-- `plan_lines::monoid_name` meets its contract, by base_text/LaidText.
use mathlib.Core.Path.{sym, ap}
use Rattle.spec_plan.specs.Lines.{ascii, monoid_name}
use Rattle.plan_lines.specs.PartTexts.{monoid_text}
use Rattle.base_text.proofs.LaidText.{lays-as}
use borrow.Author.Rules.{rules}
use Rattle.plan_lines.proofs.monoid_name.Goals as goal

pub returns-in-List : goal.returns-in-List
unfolding ascii monoid_name
returns-in-List c = lays-as (ap monoid_text (sym c.in-List.is)) c.say.ensures

pub returns-in-Bag : goal.returns-in-Bag
unfolding ascii monoid_name
returns-in-Bag c = lays-as (ap monoid_text (sym c.in-Bag.is)) c.say-in-Bag.ensures

pub returns-in-Set : goal.returns-in-Set
unfolding ascii monoid_name
returns-in-Set c = lays-as (ap monoid_text (sym c.in-Set.is)) c.say-in-Set.ensures

pub returns-in-Sum : goal.returns-in-Sum
unfolding ascii monoid_name
returns-in-Sum c = lays-as (ap monoid_text (sym c.in-Sum.is)) c.say-in-Sum.ensures

pub returns-in-Max : goal.returns-in-Max
unfolding ascii monoid_name
returns-in-Max c = lays-as (ap monoid_text (sym c.in-Max.is)) c.say-in-Max.ensures

pub returns-in-Some : goal.returns-in-Some
unfolding ascii monoid_name
returns-in-Some c = lays-as (ap monoid_text (sym c.in-Some.is)) c.say-in-Some.ensures

pub returns-in-All : goal.returns-in-All
unfolding ascii monoid_name
returns-in-All c = lays-as (ap monoid_text (sym c.in-All.is)) c.say-in-All.ensures

pub returns-in-Min : goal.returns-in-Min
unfolding ascii monoid_name
returns-in-Min c = lays-as (ap monoid_text (sym c.in-Min.is)) c.say-in-Min.ensures
