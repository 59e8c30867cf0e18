-- What the outcome of the call says where it is an answer, and by which numbers it refuses.
use mathlib.Core.Path.{◌≡◌, refl, sym, ap, ap₂, subst, ◌∙◌}
use mathlib.Core.List.{◌++◌}
use mathlib.Core.Bool.{true, ◌&&◌, and-eq-true_iff}
use Prim.Native.Nat.{ℕ, ◌≤◌}
use native.Mathlib.Omega.{arith}
use borrow.Author.Tests.{leb-true}
use lib.Dec.{leb}
use lib.ListN.{length, take, drop, length-map}
use lib.Seq.{take-append_seam}
use Rattle.spec_calculus.specs.Value.{as_int, field_of, Tables, kind_of, is_there, rows_of}
use Rattle.spec_calculus.proofs.WellFormed.{rows-at-most}
use Rattle.spec_encoding.specs.Record.{Bytes, Result, refused, got, and_then, require}
use Rattle.spec_encoding.specs.Data.{read_data}
use Rattle.spec_encoding.proofs.Data.{read-well-formed, require-got}
use Rattle.spec_encoding.proofs.Refusals.{Only, only_then, only-require, data-only}
use Rattle.spec_outcome.specs.Directions.{filled, Fills}
use Rattle.spec_logs.specs.Logs.{never_falls, paired}
use Rattle.spec_logs.specs.Records.{records}
use Rattle.spec_logs.specs.PairLogs.{log_of, is_list, is_log, paired_logs, pair_logs, LogsPaired}
use Rattle.spec_logs.proofs.MostPairs.{most}
use Rattle.spec_logs.proofs.RecordsLength.{records-length}
use Rattle.spec_logs.proofs.RecordsRead.{records-read}

pub log-length : (T : Tables) (k : ℕ) → length (log_of T k) ≡ length (rows_of T k)
unfolding log_of
log-length T k = length-map (rows_of T k) (λ v. as_int (field_of 0 v))

-- A log has at most 1,024 rows, as every table.
pub log-few : (d : Bytes) {T : Tables} → read_data d ≡ got T → (k : ℕ) → length (log_of T k) ≤ 1024
log-few d {T} h k = subst (λ (i : ℕ). i ≤ 1024) (sym (log-length T k)) (rows-at-most (read-well-formed d h) k)

log-rises : (T : Tables) (k : ℕ) → is_log T k ≡ true → never_falls (log_of T k) ≡ true
unfolding is_log
log-rises T k h =
    let p = (and-eq-true_iff (is_there T k) (is_list (kind_of T k) && never_falls (log_of T k))).0 h in
    ((and-eq-true_iff (is_list (kind_of T k)) (never_falls (log_of T k))).0 p.1).1

-- what was paired has passed every refusal
record Passed (d : Bytes) (m n t : ℕ) (b l : Bytes) : Type 0 where
  tables : Tables
  read : read_data d ≡ got tables
  first_log : is_log tables m ≡ true
  second_log : is_log tables n ≡ true
  tolerance : t ≤ 3600
  bytes : records (paired t (log_of tables m) (log_of tables n)) ≡ l

passed : (d : Bytes) (m n t : ℕ) (b l : Bytes) → paired_logs d m n t b ≡ got l → Passed d m n t b l
unfolding paired_logs and_then
passed d m n t b l h = go (read_data d) refl h
  where
    tested : Tables → Result Bytes
    tested T =
        let x = records (paired t (log_of T m) (log_of T n)) in
        require 53 (is_log T m && is_log T n) (require 54 (leb t 3600) (require 52 (leb (length x) (length b)) (got x)))

    go : (r : Result Tables) → read_data d ≡ r → and_then r tested ≡ got l → Passed d m n t b l
    go (refused k) e h = absurd (let z : ◌≡◌ {A = ℕ} 0 1 = cc h in omega arith)
    go (got T) e h =
        require-got 53 (is_log T m && is_log T n) _ l h λ logs h₁.
        require-got 54 (leb t 3600) _ l h₁ λ tolerance h₂.
        require-got 52 _ _ l h₂ λ room h₃.
        let p = (and-eq-true_iff (is_log T m) (is_log T n)).0 logs in
        record { tables = T; read = e; first_log = p.0; second_log = p.1; tolerance = leb-true t 3600 tolerance; bytes = cc h₃ }

-- ---- numbers
-- The call refuses by no number but the data's, 53, 54 and 52.
module _ (P : ℕ → Type 0) (p11 : P 11) (p12 : P 12) (p13 : P 13) (p43 : P 43) (p50 : P 50) (p51 : P 51) (p52 : P 52) (p53 : P 53) (p54 : P 54) where
  pub logs-only : (d : Bytes) (m n t : ℕ) (b : Bytes) → Only P (paired_logs d m n t b)
  unfolding paired_logs
  logs-only d m n t b =
      only_then P (read_data d) _ (data-only P p11 p12 p13 p43 p50 p51 d)
      (λ T. only-require P 53 _ _ p53 (only-require P 54 _ _ p54 (only-require P 52 _ _ p52 tt)))

positive : (d : Bytes) (m n t : ℕ) (b : Bytes) → Only (λ k. 1 ≤ k) (paired_logs d m n t b)
positive =
    logs-only (λ k. 1 ≤ k) (omega arith) (omega arith) (omega arith) (omega arith) (omega arith) (omega arith) (omega arith) (omega arith) (omega arith)

-- ---- an answer: number 0, k bytes at the front of c
module _ (d : Bytes) (m n t : ℕ) (b : Bytes) {k : ℕ} {c : Bytes} where
  answer-is : (l : Bytes) → Passed d m n t b l → k ≡ length l → c ≡ l ++ drop (length l) b → LogsPaired d m n t k c
  answer-is l A size bytes =
      let T = A.tables in
      let xs = log_of T m in
      let ys = log_of T n in
      let front : take k c ≡ l = ap₂ take size bytes ∙ take-append_seam l (drop (length l) b) in
      record {
        tables = T;
        read = A.read;
        first_log = A.first_log;
        second_log = A.second_log;
        tolerance = A.tolerance;
        long = size ∙ ap length (sym A.bytes) ∙ records-length t xs ys ∙ omega (arith, log-length T m, log-length T n);
        written = ap read_data (front ∙ sym A.bytes) ∙ records-read t xs ys (log-few d A.read m) (log-few d A.read n);
        most = most t xs ys (log-rises T m A.first_log) (log-rises T n A.second_log);
      }

  pub paired-answer : Fills (pair_logs d m n t b) 0 k c → LogsPaired d m n t k c
  unfolding pair_logs filled
  paired-answer F = go (paired_logs d m n t b) refl (positive d m n t b) F
    where
      go : (r : Result Bytes) → paired_logs d m n t b ≡ r → Only (λ k. 1 ≤ k) r → Fills (filled b r) 0 k c → LogsPaired d m n t k c
      go (refused j) e p F = absurd (omega (arith, p, F.number))
      go (got l) e p F = answer-is l (passed d m n t b l e) F.size F.buffer
