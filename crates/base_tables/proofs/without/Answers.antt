-- `base_tables::without`: the bits put into the word, and their number taken off its rows. Assumes nothing.
use Rattle.base_tables.proofs.Subsets.{without_is}
use Rattle.base_tables.proofs.without.Goals as goal

pub returns : goal.returns
returns c = without_is c.args.w c.args.m c.ones.ensures.0
