-- Which nodes name a calendar that is lent, or none.
use Rattle.std.specs.Prelude.{List, Bool, true, ◌&&◌, ℕ, zero, suc, ◌+◌, eqb, ltb}
use Rattle.spec_calculus.specs.Lists.{pick}
use Rattle.front_words.specs.NodeWord.{node_kind_of, node_word}
use Rattle.front_words.specs.NodeTree.{arg_at}

-- node i, where k calendars are lent: "Kind 21 holds one byte of calendar", which is its node's argument
unfoldable pub lent_at : ℕ → List ℕ → ℕ → Bool
lent_at k s i = pick (eqb (node_kind_of (node_word s i)) 21) (ltb (arg_at s i) k) true

-- n nodes from i on
unfoldable pub lent_from : ℕ → List ℕ → ℕ → ℕ → Bool
lent_from k s i zero = true
lent_from k s i (suc n) = lent_at k s i && lent_from k s (i + 1) n
