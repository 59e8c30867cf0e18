-- What later code uses: what `read_data` answers. Assumes nothing.
use Rattle.std.proofs.Common.{◌≡◌, ℕ, ◌<◌, List, sym, refl, ap, ◌∙◌, arith}
use Rattle.spec_calculus.specs.Value.{Tables}
use Rattle.spec_encoding.specs.Record.{Bytes, Result, refused, got}
use Rattle.spec_encoding.specs.Data.{read_data}
use Rattle.spec_encoding.proofs.Refusals.{Only, data-only}
use Rattle.base_tables.specs.DataReader.{refusal_number, ReadDataPost}

-- data that is not refused
pub record WellFormed (d : Bytes) : Type 0 where
  pub tables : Tables
  pub is : read_data d ≡ got tables

module _ {d : Bytes} {s s' : List ℕ} {r : ℕ} (R : ReadDataPost d s s' r) where
  pub well-formed : r ≡ 0 → WellFormed d
  unfolding refusal_number
  well-formed z =
      go (read_data d) refl (data-only (λ n. 0 < n) (omega arith) (omega arith) (omega arith) (omega arith) (omega arith) (omega arith) d) R.number
    where
      go : (S : Result Tables) → read_data d ≡ S → Only (λ n. 0 < n) S → r ≡ refusal_number S → WellFormed d
      go (refused x) e h n = absurd (omega arith)
      go (got T) e h n = record { tables = T; is = e }

  pub not-well-formed : (r ≡ 0 → ⊥) → read_data d ≡ refused r
  unfolding refusal_number
  not-well-formed z = go (read_data d) refl R.number
    where
      go : (S : Result Tables) → read_data d ≡ S → r ≡ refusal_number S → read_data d ≡ refused r
      go (refused x) e n = e ∙ ap refused (sym n)
      go (got T) e n = absurd (z n)
