-- `base_dates::first_day`: each entry of the table is the first day of its year.
use Rattle.base_dates.proofs.Tables.{first_days, rule}
use Rattle.base_dates.proofs.first_day.Goals as goal

pub returns : goal.returns
unfolding first_days
returns c = rule c.args.k c.requires
