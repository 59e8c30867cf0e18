-- For each name a word: one more than the node that binds it, and 0 where none does.
use Rattle.std.specs.Prelude.{List, ℕ, ◌+◌, ltb, get_or, set}
use Rattle.spec_calculus.specs.Lists.{pick}
use Rattle.base_scratch.specs.Map.{binders_at, names}

unfoldable pub binder_word : List ℕ → ℕ → ℕ
binder_word s x = pick (ltb x names) (get_or s (binders_at + x) 0) 0

abbrev pub put_binder : List ℕ → ℕ → ℕ → List ℕ
put_binder s x w = set s (binders_at + x) w
