-- `base_tariff::metres_begun`: divided by 100, rounded up.
use Rattle.spec_tariff.specs.Tariff.{metres_begun}
use borrow.Author.Rules.{rules}
use Rattle.base_tariff.proofs.metres_begun.Goals as goal

pub returns : goal.returns
unfolding metres_begun
returns c = search rules
