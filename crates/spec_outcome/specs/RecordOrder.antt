-- "The same records in another order give the same answer" (document 02, E9): data as the records that it is made of. The same records in another order are a
-- `Rearranged` list of them.
use Rattle.std.specs.Prelude.{◌≡◌, List, [], ◌∷◌, ℕ, ◌+◌, ◌*◌, length}
use Rattle.spec_encoding.specs.Record.{Bytes}
use Rattle.spec_outcome.specs.RowOrder.{record_bytes}

-- "two bytes of content length, two bytes of kind, content; little-endian": a record that is not "cut short"
pub record WholeRecord : Type 0 where
  pub length₀ : ℕ
  pub length₁ : ℕ
  pub kind₀ : ℕ
  pub kind₁ : ℕ
  pub content : Bytes
  pub counted : length₀ + 256 * length₁ ≡ length content

-- "Data is .. such records", one behind the other
abbrev pub data_of : List WholeRecord → Bytes
data_of [] = []
data_of (r ∷ rs) = record_bytes r.length₀ r.length₁ r.kind₀ r.kind₁ r.content (data_of rs)
