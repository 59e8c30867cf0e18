-- The data that the desk splits off is never refused by 11, "a record cut short or not kind 20", for "the question" begins
-- at "the first record that is not a whole kind 20". Assumes nothing.
use mathlib.Core.Path.{◌≡◌, refl, sym, ap, subst, ◌∙◌}
use mathlib.Core.Bool.{Bool, true, false, not}
use mathlib.Core.List.{List, [], ◌∷◌}
use Prim.Native.Nat.{ℕ, zero, suc, ◌+◌}
use native.Mathlib.Omega.{arith}
use borrow.Author.Tests.{ltb-true, ltb-false, eqb-false}
use lib.Dec.{ltb, leb, eqb}
use lib.ListN.{length, take, drop, length-append}
use lib.Seq.{length-take-le, get_or-take, take-add, drop_at}
use Rattle.base_signed.proofs.SignedWords.{by-test}
use Rattle.spec_calculus.specs.Value.{Tables, is_there, no_tables}
use Rattle.spec_calculus.proofs.Lists.{All}
use Rattle.spec_encoding.specs.Record.{Bytes, Result, refused, got, require, length_of, kind_of, content_of, behind}
use Rattle.spec_encoding.specs.Data.{is_kind, is_table, fits, table_number, table_by, bounded, tables_from, read_data}
use Rattle.spec_encoding.proofs.Refusals.{Only, only_then, only-require}
use Rattle.base_tables.proofs.DataRecords.{TableRecord, whole, whole_is, tables-one, tables-none}
use Rattle.spec_hours.specs.CalendarBytes.{calendars_fit, read_calendars}
use Rattle.spec_outcome.specs.Acceptance.{examine}
use Rattle.spec_outcome.specs.Outcome.{Outcome, Answer, scratch_words, settled, with_scratch, checked}
use Rattle.spec_outcome.proofs.Agreement.{scratch-short, scratch-long}
use Rattle.spec_outcome.proofs.Checks.{question_numbers, examine-behind}
use Rattle.spec_desk.specs.Desk.{alone}
use Rattle.spec_desk.specs.TablesEnd.{tables_end}
use Rattle.desk_text.proofs.TablesEnd.{end_more, end_none}

-- ---- a table record at the front, and k bytes behind it
module _ (l : Bytes) (w : TableRecord l) (k : ℕ) where
  abbrev kept : Bytes
  kept = take (4 + length_of l + k) l

  same_length : length_of kept ≡ length_of l
  same_length = omega (arith, get_or-take (4 + length_of l + k) l 0 0 (omega arith), get_or-take (4 + length_of l + k) l 1 0 (omega arith))

  same_kind : kind_of kept ≡ kind_of l
  same_kind = omega (arith, get_or-take (4 + length_of l + k) l 2 0 (omega arith), get_or-take (4 + length_of l + k) l 3 0 (omega arith))

  long : length (take (4 + length_of l) l) ≡ 4 + length_of l
  long = length-take-le (4 + length_of l) l w.within

  kept_whole : TableRecord kept
  kept_whole = record {
    within = omega (arith, same_length, long, ap length (take-add (4 + length_of l) k l), length-append (take (4 + length_of l) l) (take k (behind l)));
    kind = ap is_kind same_kind ∙ w.kind;
  }

  kept-behind : behind kept ≡ take k (behind l)
  kept-behind = ap (λ (n : ℕ). drop (4 + n) kept) same_length ∙ ap (drop (4 + length_of l)) (take-add (4 + length_of l) k l) ∙ drop_at (take (4 + length_of l) l) (take k (behind l)) (4 + length_of l) long

-- ---- the numbers that refuse it
-- a rule that is kept refuses nothing
only-met : {A : Type 0} (P : ℕ → Type 0) (n : ℕ) {b : Bool} (r : Result A) → b ≡ true → Only P r → Only P (require n b r)
unfolding require
only-met P n r e h = subst (λ (t : Bool). Only P (require n t r)) (sym e) h

module _ (P : ℕ → Type 0) (p12 : P 12) (p13 : P 13) (p43 : P 43) (p50 : P 50) (p51 : P 51) where
  ninth : (T : Tables) (l : Bytes) → Only P (tables_from zero T l)
  unfolding tables_from
  ninth T [] = tt
  ninth T (b ∷ l) = p13

  one_more : (n : ℕ) (T : Tables) (l : Bytes) → TableRecord l → ((U : Tables) → Only P (tables_from n U (behind l))) → Only P (tables_from (suc n) T l)
  one_more n T l w h =
      let c = content_of l in
      subst (Only P) (sym (tables-one n T l (omega (arith, w.within))))
      (only-met P 11 _ (whole_is l w)
      (only-require P 12 (fits c) _ p12
      (only-require P 50 (leb (table_number c) 7) _ p50
      (only-require P 51 (not (is_there T (table_number c))) _ p51
      (only-require P 43 (bounded (table_by (kind_of l) c)) _ p43 (h _))))))

  tables-split : (n : ℕ) (T : Tables) (l : Bytes) → Only P (tables_from n T (take (tables_end l) l))
  tables-split zero T l = ninth T (take (tables_end l) l)
  tables-split (suc n) T l = by-test (is_table l)
      (λ e.
      let w = whole l e in
      let k = tables_end (behind l) in
      subst (λ (m : ℕ). Only P (tables_from (suc n) T (take m l))) (sym (end_more l e))
      (one_more n T (kept l w k) (kept_whole l w k) (λ U. subst (λ (r : Bytes). Only P (tables_from n U r)) (sym (kept-behind l w k)) (tables-split n U (behind l)))))
      (λ e. subst (λ (m : ℕ). Only P (tables_from (suc n) T (take m l))) (sym (end_none l e)) (subst (Only P) (sym (tables-none (suc n) T)) tt))

  -- the checks, over the input as the desk splits it
  pub split-only : All P question_numbers → (b : Bytes) → Only P (examine (take (tables_end b) b) (alone (drop (tables_end b) b)))
  unfolding read_data read_calendars calendars_fit require
  split-only p b = examine-behind P p (take (tables_end b) b) (alone (drop (tables_end b) b)) (tables-split 8 no_tables b) tt

-- ---- the checker's number
settled_only : {A : Type 0} (P : ℕ → Type 0) → P 0 → (s : List ℕ) (b : List A) (r : Result (Answer A)) → Only P r → P (settled scratch_words s b r).number
unfolding settled
settled_only P p0 s b (refused n) h = h
settled_only P p0 s b (got a) h = p0

number-only : {A : Type 0} (P : ℕ → Type 0) → P 0 → P 31 → (s : List ℕ) (b : List A) (r : Result (Answer A)) → Only P r → P (with_scratch scratch_words s b r).number
number-only {A} P p0 p31 s b r h = by-test (ltb (length s) scratch_words)
    (λ e. subst (λ (o : Outcome A). P o.number) (sym (scratch-short s b r (ltb-true (length s) scratch_words e))) p31)
    (λ e. subst (λ (o : Outcome A). P o.number) (sym (scratch-long s b r (ltb-false (length s) scratch_words e))) (settled_only P p0 s b r h))

abbrev Other : ℕ → Type 0
Other n = eqb n 11 ≡ false

-- whatever the input and the scratch, it is not 11
pub never-eleven : (b : Bytes) (s : List ℕ) → (checked (take (tables_end b) b) (alone (drop (tables_end b) b)) s).number ≡ 11 → ⊥
unfolding checked
never-eleven b s = eqb-false _ 11 (number-only Other refl refl s [] _ (only_then Other (examine (take (tables_end b) b) (alone (drop (tables_end b) b))) _ (split-only Other refl refl refl refl refl (refl, (refl, (refl, (refl, (refl, (refl, (refl, (refl, (refl, tt))))))))) b) (λ a. tt)))
