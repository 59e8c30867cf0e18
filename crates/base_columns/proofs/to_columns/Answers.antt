-- `base_columns::to_columns`: a refusal or the record in the target, as the outcome has them. Assumes nothing.
use Rattle.std.proofs.Common.{refl}
use Rattle.std.proofs.lemmas.Result.{err_from_is_err_and}
use Rattle.spec_encoding.specs.Data.{to_columns}
use Rattle.spec_outcome.specs.Directions.{table_to_columns}
use Rattle.base_refusals.proofs.Numbers.{number-above}
use Rattle.base_columns.proofs.TurnedRecords.{fills-refused, fills-turned, turnable, to-columns-long}
use Rattle.base_columns.proofs.to_columns.Goals as goal

pub returns-in_err-refusal : goal.returns-in_err-refusal
unfolding table_to_columns
returns-in_err-refusal c = let p = err_from_is_err_and c.from_residual.result c.from_residual.ensures.1 in
    rw (p.1, p.2) (fills-refused 20 to_columns c.args.source.now c.args.target.now c.in_err-refusal.ensures (number-above _))

pub lay_columns-requires : goal.lay_columns-requires
lay_columns-requires c = turnable 20 c.args.source.now c.args.target.now c.in_ok-refusal.ensures refl

pub returns : goal.returns
unfolding table_to_columns
returns c = let T = turnable 20 c.args.source.now c.args.target.now c.in_ok-refusal.ensures refl in
    fills-turned 20 to_columns c.args.source.now c.args.target.now c.in_ok-refusal.ensures refl (to-columns-long c.args.source.now c.args.target.now T) c.lay_columns.ensures
