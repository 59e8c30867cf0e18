-- Outages counted (document 02, E12), over the contract of the call: what it returns and leaves is the same over data that are read as the same tables, in another
-- order of their records (E9) or stored in the other kind (E10).
use mathlib.Core.Path.{◌≡◌}
use mathlib.Core.List.{List}
use Prim.Native.Nat.{ℕ}
use lib.IntN.{ℤ}
use Rattle.spec_encoding.specs.Record.{Bytes}
use Rattle.spec_encoding.specs.Data.{read_data}
use Rattle.spec_outcome.specs.Acceptance.{Lent}
use Rattle.spec_outcome.specs.Gives.{Gives}
use Rattle.spec_outages.specs.Outages.{count_outages}
use Rattle.spec_outages.proofs.SameOutages.{outages-same}
use Rattle.engine.specs.declared.Reply.{Reply}
use Rattle.theorems.proofs.RowOrder.{SameCall, same-call}

pub same-outages : (d d' : Bytes) (l : Lent) (k : ℕ) (s : List ℕ) (b : List ℤ) {r r' : Reply} {c c' : List ℤ} {u u' : List ℕ} → read_data d ≡ read_data d'
    → Gives (count_outages d l k s b) r.number r.length c u → Gives (count_outages d' l k s b) r'.number r'.length c' u' → SameCall r r' c c' u u'
same-outages d d' l k s b e = same-call (outages-same d d' l k s b e)
