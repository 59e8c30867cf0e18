-- What is left of the words w and the scratch s that were lent: "too long" leaves both as they were, a reply as answering does.
use Rattle.std.specs.Prelude.{List, ℕ, leb, length, take, drop, ℤ}
use Rattle.spec_calculus.specs.Lists.{pick}
use Rattle.spec_encoding.specs.Record.{Bytes}
use Rattle.spec_outcome.specs.Outcome.{scratch_words, cleared, by_loops}
use Rattle.spec_desk.specs.TablesEnd.{tables_end}
use Rattle.spec_desk.specs.Desk.{alone}

unfoldable pub words_left : Bytes → List ℕ → List ℤ → List ℤ
words_left b s w = pick (leb (length b) 65536) (by_loops (take (tables_end b) b) (alone (drop (tables_end b) b)) s w).buffer w

unfoldable pub scratch_left : Bytes → List ℕ → List ℕ
scratch_left b s = pick (leb (length b) 65536) (cleared scratch_words s) s
