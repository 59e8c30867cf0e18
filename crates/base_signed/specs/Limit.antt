-- "28: a number in the normal form with bound over 2^62." Counts and places in a buffer stop there too.
use Rattle.std.specs.Prelude.{ℕ, ◌+◌, ltb}
use Rattle.spec_calculus.specs.Lists.{pick}

abbrev pub number_limit : ℕ
number_limit = 4611686018427387904

-- one more, but none above a limit
unfoldable pub bump_to : ℕ → ℕ → ℕ
bump_to limit p = pick (ltb p limit) (p + 1) p
