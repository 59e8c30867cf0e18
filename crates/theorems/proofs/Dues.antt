-- Dues on an answer (document 02, E6), over the contract of the call: what it returns and leaves is the same over data that are read as the same tables, in another
-- order of their records (E9) or stored in the other kind (E10), and over tables whose bags and sets have their rows in another order (E14).
use mathlib.Core.Path.{◌≡◌}
use mathlib.Core.List.{List}
use Prim.Native.Nat.{ℕ}
use lib.IntN.{ℤ}
use Rattle.spec_encoding.specs.Record.{Bytes}
use Rattle.spec_encoding.specs.Data.{read_data}
use Rattle.spec_outcome.specs.Acceptance.{Lent}
use Rattle.spec_outcome.specs.RowOrder.{Reordered, Rereads}
use Rattle.spec_outcome.specs.Gives.{Gives}
use Rattle.spec_tariff.specs.WithTariff.{with_tariff}
use Rattle.spec_tariff.proofs.SameDues.{dues-same, dues-ordered}
use Rattle.engine.specs.declared.Reply.{Reply}
use Rattle.theorems.proofs.RowOrder.{SameCall, same-call}

module _ (f d d' : Bytes) (l : Lent) (s : List ℕ) (b : List ℤ) {r r' : Reply} {c c' : List ℤ} {u u' : List ℕ} (P : Gives (with_tariff f d l s b) r.number r.length c u) (Q : Gives (with_tariff f d' l s b) r'.number r'.length c' u') where
  pub same-dues : read_data d ≡ read_data d' → SameCall r r' c c' u u'
  same-dues e = same-call (dues-same f d d' l s b e) P Q

  pub row-order-dues : Rereads Reordered (read_data d) (read_data d') → SameCall r r' c c' u u'
  row-order-dues S = same-call (dues-ordered f d d' l s b S) P Q
