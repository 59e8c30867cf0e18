-- `base_tables::whole`: the bits taken out of the word, and their number added to its rows. Assumes nothing.
use Rattle.base_tables.proofs.Subsets.{whole_is}
use Rattle.base_tables.proofs.whole.Goals as goal

pub returns : goal.returns
returns c = whole_is c.args.w c.requires c.ones.ensures.0
