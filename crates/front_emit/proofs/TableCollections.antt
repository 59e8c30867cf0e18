-- Where the scratch describes the tables that were read, it says each one's collection.
use mathlib.Core.Path.{◌≡◌, sym, ap, fun_ext, ◌∙◌}
use mathlib.Core.List.{List}
use mathlib.Core.Bool.{false}
use Prim.Native.Nat.{ℕ}
use Rattle.spec_calculus.specs.Syntax.{list}
use Rattle.spec_calculus.specs.Value.{Table, Tables, kind_of, is_there}
use Rattle.spec_calculus.proofs.WellFormed.{WellFormed, absent_none}
use Rattle.spec_encoding.specs.Record.{Bytes, got}
use Rattle.spec_encoding.specs.Data.{collection_of, read_data}
use Rattle.spec_encoding.proofs.Data.{read-well-formed}
use Rattle.base_tables.specs.Description.{collection_in}
use Rattle.base_tables.specs.DataReader.{Stored}
use Rattle.base_tables.proofs.TableWords.{by_number, described-in, undescribed}
use Rattle.base_signed.proofs.SignedWords.{by-test}
use Rattle.front_emit.specs.WriterStart.{collections}

no_table : {T : Tables} → WellFormed T → (k : ℕ) → is_there T k ≡ false → list ≡ kind_of T k
unfolding kind_of
no_table W k h = ap (λ (t : Table). t.kind) (sym (absent_none W k h))

pub collections-are : {d : Bytes} {T : Tables} {s : List ℕ} → Stored d s → read_data d ≡ got T → collections s ≡ kind_of T
unfolding collections
collections-are {d} {T} {s} S e = fun_ext λ k. by-test (is_there T k)
    (λ p. ap collection_of (described-in S e k p).collection ∙ by_number (kind_of T k))
    (λ p. ap (λ w. collection_of (collection_in w)) (undescribed S e k p) ∙ no_table (read-well-formed d e) k p)
