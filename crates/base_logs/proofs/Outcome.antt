-- From what the parts found and wrote to the outcome of the call. Assumes nothing.
use mathlib.Core.Path.{◌≡◌, refl, sym, ap, ap₂, subst, ◌∙◌}
use mathlib.Core.List.{List}
use mathlib.Core.Bool.{Bool, true, false, ◌&&◌}
use Prim.Native.Nat.{ℕ, zero, suc, ◌+◌, ◌*◌, ◌≤◌}
use native.Mathlib.Omega.{arith}
use borrow.Author.Tests.{leb-true}
use lib.Dec.{leb}
use lib.ListN.{length}
use lib.Seq.{sets}
use Rattle.spec_calculus.specs.Lists.{pick}
use Rattle.spec_calculus.specs.Value.{Tables}
use Rattle.spec_calculus.proofs.WellFormed.{rows-at-most}
use Rattle.spec_encoding.specs.Record.{Bytes, Result, refused, got, and_then, require}
use Rattle.spec_encoding.specs.Data.{read_data}
use Rattle.spec_encoding.proofs.Data.{read-well-formed}
use Rattle.spec_encoding.proofs.Refusals.{Only, data-only}
use Rattle.spec_outcome.specs.Directions.{filled, Fills}
use Rattle.spec_logs.specs.Logs.{paired}
use Rattle.spec_logs.specs.Records.{records}
use Rattle.spec_logs.specs.PairLogs.{log_of, is_log, paired_logs, pair_logs}
use Rattle.spec_logs.proofs.RecordsLength.{records-length}
use Rattle.spec_logs.proofs.PairLogs.{log-length}
use Rattle.base_tables.specs.Description.{rows_in, table_in}
use Rattle.base_tables.specs.DataReader.{refusal_number, Stored, ReadDataPost}
use Rattle.base_logs.specs.Times.{times_in, is_log_in}
use Rattle.base_logs.specs.Moves.{LogsPre}
use Rattle.base_logs.specs.OwnRefusal.{refusal_of}
use Rattle.base_logs.proofs.Stores.{sets-front}
use Rattle.base_logs.proofs.DescribedLogs.{DescribedLog, described-log-in}

-- ---- the data is refused
module _ (d : Bytes) (m n t : ℕ) (b : Bytes) {s s' : List ℕ} {k : ℕ} (R : ReadDataPost d s s' k) where
  pub data-refused : (k ≡ 0 → ⊥) → Fills (pair_logs d m n t b) k 0 b
  unfolding pair_logs paired_logs and_then filled refusal_number
  data-refused z = go (read_data d) R.number
    where
      tested : Tables → Result Bytes
      tested T =
          let x = records (paired t (log_of T m) (log_of T n)) in
          require 53 (is_log T m && is_log T n) (require 54 (leb t 3600) (require 52 (leb (length x) (length b)) (got x)))

      go : (r : Result Tables) → k ≡ refusal_number r → Fills (filled b (and_then r tested)) k 0 b
      go (refused j) e = record { number = e; size = refl; buffer = refl }
      go (got T) e = absurd (z e)

  -- ---- or it is read
  pub record ReadTables : Type 0 where
    pub tables : Tables
    pub read : read_data d ≡ got tables
    pub stored : Stored d s'

  pub data-read : k ≡ 0 → ReadTables
  unfolding refusal_number
  data-read z =
      go (read_data d) refl R.number
      (data-only (λ j. 1 ≤ j) (omega arith) (omega arith) (omega arith) (omega arith) (omega arith) (omega arith) d)
    where
      go : (r : Result Tables) → read_data d ≡ r → k ≡ refusal_number r → Only (λ j. 1 ≤ j) r → ReadTables
      go (refused j) e g p = absurd (omega (arith, z, g, p))
      go (got T) e g p = record { tables = T; read = e; stored = R.stored T e }

-- the two tables that were asked for, by their descriptions
pub record Found (d : Bytes) (m n x y : ℕ) : Type 0 where
  pub tables : Tables
  pub read : read_data d ≡ got tables
  pub first : DescribedLog d tables m x
  pub second : DescribedLog d tables n y

pub logs-found : (d : Bytes) (m n t : ℕ) (b : Bytes) {s s' : List ℕ} {k x y : ℕ} → ReadDataPost d s s' k → k ≡ 0 → x ≡ table_in s' m → y ≡ table_in s' n → Found d m n x y
logs-found d m n t b R z ex ey =
    let r = data-read d m n t b R z in
    record { tables = r.tables; read = r.read; first = described-log-in r.stored r.read m ex; second = described-log-in r.stored r.read n ey }

-- ---- the call's own refusals, in one number
unfoldable gives : ℕ → Bytes → Result Bytes
gives zero l = got l
gives (suc n) l = refused (suc n)

module _ (d : Bytes) (m n t : ℕ) (b : Bytes) {x y : ℕ} (D : Found d m n x y) where
  abbrev T : Tables
  T = D.tables

  abbrev A : DescribedLog d T m x
  A = D.first

  abbrev B : DescribedLog d T n y
  B = D.second

  abbrev three : Bytes
  three = records (paired t (times_in d x) (times_in d y))

  three-are : three ≡ records (paired t (log_of T m) (log_of T n))
  three-are = ap₂ (λ p q. records (paired t p q)) A.times B.times

  pub three-long : length three ≡ 43 + 4 * (rows_in x + rows_in y)
  three-long =
      ap length three-are ∙ records-length t (log_of T m) (log_of T n) ∙ omega (arith, log-length T m, log-length T n, A.rows, B.rows)

  paired-gives : paired_logs d m n t b ≡ gives (refusal_of d x y t (length b)) three
  unfolding paired_logs and_then refusal_of gives require pick
  paired-gives =
      ap (λ r. and_then r tested) D.read ∙ ap₂ (λ f s. found (f && s) (records (paired t (log_of T m) (log_of T n)))) (sym A.is) (sym B.is)
      ∙ ap (found (is_log_in d x && is_log_in d y)) (sym three-are)
      ∙ ap (λ (k : ℕ). require 53 (is_log_in d x && is_log_in d y) (require 54 (leb t 3600) (require 52 (leb k (length b)) (got three)))) three-long
      ∙ go (is_log_in d x) (is_log_in d y) (leb t 3600) (leb (43 + 4 * (rows_in x + rows_in y)) (length b))
    where
      found : Bool → Bytes → Result Bytes
      found f l = require 53 f (require 54 (leb t 3600) (require 52 (leb (length l) (length b)) (got l)))

      tested : Tables → Result Bytes
      tested T = found (is_log T m && is_log T n) (records (paired t (log_of T m) (log_of T n)))

      go : (f s u r : Bool) → require 53 (f && s) (require 54 u (require 52 r (got three))) ≡ gives (pick f (pick s (pick u (pick r 0 52) 54) 53) 53) three
      go false s u r = refl
      go true false u r = refl
      go true true false r = refl
      go true true true false = refl
      go true true true true = refl

  module _ {k : ℕ} (e : k ≡ refusal_of d x y t (length b)) where
    pub own-refused : (k ≡ 0 → ⊥) → Fills (pair_logs d m n t b) k 0 b
    unfolding pair_logs filled gives
    own-refused z = subst (λ r. Fills (filled b r) k 0 b) (sym (paired-gives ∙ ap (λ (j : ℕ). gives j three) (sym e))) (go k z)
      where
        go : (k : ℕ) → (k ≡ 0 → ⊥) → Fills (filled b (gives k three)) k 0 b
        go zero z = absurd (z refl)
        go (suc k) z = record { number = refl; size = refl; buffer = refl }

    module _ (z : k ≡ 0) where
      -- nothing refuses: a tolerance in its range, and room
      own-passed : (t ≤ 3600) × (43 + 4 * (rows_in x + rows_in y) ≤ length b)
      unfolding refusal_of pick
      own-passed = go (is_log_in d x) (is_log_in d y) (leb t 3600) (leb (43 + 4 * (rows_in x + rows_in y)) (length b)) refl refl (sym e ∙ z)
        where
          go : (f s u r : Bool) → leb t 3600 ≡ u → leb (43 + 4 * (rows_in x + rows_in y)) (length b) ≡ r → ◌≡◌ {A = ℕ} (pick f (pick s (pick u (pick r 0 52) 54) 53) 53) 0
              → (t ≤ 3600) × (43 + 4 * (rows_in x + rows_in y) ≤ length b)
          go true true true true u r g = (leb-true t 3600 u, leb-true (43 + 4 * (rows_in x + rows_in y)) (length b) r)
          go true true true false u r g = absurd (omega (arith, g))
          go true true false r' u r g = absurd (omega (arith, g))
          go true false u' r' u r g = absurd (omega (arith, g))
          go false s u' r' u r g = absurd (omega (arith, g))

      pub own_room : LogsPre x y t × (43 + 4 * (rows_in x + rows_in y) ≤ length b)
      own_room =
          let W = read-well-formed d D.read in
          let p = own-passed in (
            record {
              first_few = omega (arith, A.rows, rows-at-most W m);
              second_few = omega (arith, B.rows, rows-at-most W n);
              tolerance = p.0;
            },
            p.1,
          )

      pub logs-paired : {c : Bytes} {j : ℕ} → c ≡ sets b 0 three → j ≡ 43 + 4 * (rows_in x + rows_in y) → Fills (pair_logs d m n t b) 0 j c
      unfolding pair_logs filled gives
      logs-paired {c} {j} ec ej =
          subst (λ r. Fills (filled b r) 0 j c) (sym (paired-gives ∙ ap (λ (k : ℕ). gives k three) (sym e ∙ z)))
          (record { number = refl; size = ej ∙ sym three-long; buffer = ec ∙ sets-front b three (omega (arith, three-long, own-passed.1)) })
