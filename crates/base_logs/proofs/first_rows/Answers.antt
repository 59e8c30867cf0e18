-- `base_logs::first_rows`: both logs from row 0 on. Assumes nothing.
use mathlib.Core.Path.{ap₂}
use Prim.Native.Nat.{ℕ}
use Rattle.base_logs.specs.Moves.{first_rows}
use Rattle.base_logs.proofs.first_rows.Goals as goal

pub returns : goal.returns
unfolding first_rows
returns c = ap₂ (λ (x y : ℕ). record { i = 0; x = x; j = 0; y = y }) c.word_of.ensures c.word_of-2.ensures
