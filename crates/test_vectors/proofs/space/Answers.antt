-- `space`: its bytes are as many as its type says, each 0.
use Rattle.std.proofs.Common.{◌≡◌, length, replicate, ℕ}
use mathlib.Core.Path.{refl, sym}
use lib.ListN.{length-replicate}
use Rattle.test_vectors.proofs.space.Goals as goal

zeros : (n : ℕ) → (n ≡ length {A = ℕ} (replicate n 0)) × (replicate {A = ℕ} n 0 ≡ replicate n 0)
zeros n = (sym (length-replicate n 0), refl)

pub returns : goal.returns
returns c = zeros 524288
