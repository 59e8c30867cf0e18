-- The counts see nothing of the data but what it is read as: "The same records in another order give the same answer" (document 02, E9), "with the same
-- answers" (E10). The order of rows is not looked at: "outage counts .. are not covered" (E14).
use mathlib.Core.Path.{◌≡◌, ap}
use mathlib.Core.List.{List}
use Prim.Native.Nat.{ℕ}
use lib.IntN.{ℤ}
use Rattle.spec_encoding.specs.Record.{Bytes, and_then}
use Rattle.spec_encoding.specs.Data.{read_data}
use Rattle.spec_outcome.specs.Acceptance.{Lent}
use Rattle.spec_outcome.specs.Outcome.{scratch_words, with_scratch}
use Rattle.spec_outcome.proofs.SameTables.{examined-same}
use Rattle.spec_outages.specs.Outages.{outages, count_outages}

pub outages-same : (d d' : Bytes) (l : Lent) (k : ℕ) (s : List ℕ) (b : List ℤ) → read_data d ≡ read_data d' → count_outages d l k s b ≡ count_outages d' l k s b
unfolding count_outages
outages-same d d' l k s b e = ap (λ r. with_scratch scratch_words s b (and_then r (outages k b))) (examined-same d d' l e)
