-- "The engine reads either kind, with the same answers"; of the two directions "each undoes the other, for every well formed table" (document 02, E10),
-- over the contracts of the open calls.
use mathlib.Core.Path.{◌≡◌, sym, ap, ap₂, subst, ◌∙◌}
use mathlib.Core.List.{List, [], ◌++◌, map}
use Prim.Native.Nat.{ℕ, ◌≤◌, ◌<◌}
use lib.ListN.{length, take, drop}
use lib.IntN.{ℤ}
use Rattle.spec_encoding.specs.Record.{Bytes}
use Rattle.spec_encoding.specs.Data.{Octets, to_columns, to_rows}
use Rattle.spec_outcome.specs.Acceptance.{Lent}
use Rattle.spec_outcome.specs.Outcome.{scratch_words, checked, plan_lines}
use Rattle.spec_outcome.specs.RowOrder.{Way, by}
use Rattle.spec_outcome.specs.Gives.{Gives}
use Rattle.spec_outcome.specs.Directions.{Filled, filled, table_to_columns, table_to_rows, Fills, Turned, columns, rows}
use Rattle.spec_outcome.proofs.Directions.{turned-read, Passes, turned-passes, answered-zero, columns-then-rows, rows-then-columns}
use Rattle.base_signed.specs.Limit.{number_limit}
use Rattle.engine.specs.Portions.{BeginPost}
use Rattle.engine.specs.declared.Reply.{Reply}
use Rattle.theorems.proofs.RowOrder.{SameCall}
use Rattle.theorems.proofs.Portions.{Portions, given}
use Rattle.theorems.proofs.SameRun.{Twice, at_one, at_other, Begun, SameRun}
use Rattle.theorems.proofs.SameTables.{same-answered, same-checked, same_lines, SameWhole, same-begun, same-run, same-portions}

-- ---- data in which tables are turned into the other kind
module _ {d e : Bytes} (E : Turned d e) (l : Lent) where
  -- One call, lent the same but for the kinds of tables: all that it returns and leaves is the same; where the data are refused, too.
  pub turned_same : (w : Way) (s : List ℕ) (b : List ℤ) {r r' : Reply} {c c' : List ℤ} {u u' : List ℕ}
      → Gives (by w d l s b) r.number r.length c u → Gives (by w e l s b) r'.number r'.length c' u' → SameCall r r' c c' u u'
  turned_same = same-answered d e l (turned-read E)

  pub turned-check : (s : List ℕ) {r r' : Reply} {u u' : List ℕ}
      → Gives (checked d l s) r.number r.length [] u → Gives (checked e l s) r'.number r'.length [] u' → SameCall {A = ℕ} r r' [] [] u u'
  turned-check = same-checked d e l (turned-read E)

  pub turned-plan : (s b : List ℕ) {r r' : Reply} {c c' u u' : List ℕ}
      → Gives (plan_lines d l s b) r.number r.length c u → Gives (plan_lines e l s b) r'.number r'.length c' u' → SameCall r r' c c' u u'
  turned-plan = same_lines d e l (turned-read E)

  -- A question is begun over either, or refused by the same number.
  pub turned-begun : (s : List ℕ) {r r' : Reply} {u u' : List ℕ}
      → BeginPost scratch_words d l s u r → BeginPost scratch_words e l s u' r' → Begun scratch_words scratch_words d e u u' r r'
  turned-begun = same-begun d e l (turned-read E)

  -- A portion of it says the same and leaves the same question, so do any portions, one behind another, and a round (`portion`, `portions`, `round` of `SameRun`).
  pub turned-run : SameRun scratch_words scratch_words d e
  turned-run = same-run d e (turned-read E)

  -- Any portions from its beginning on say the same, and where they are enough, buffer and scratch are the same in the end.
  pub turned-portions : (s : List ℕ) {r r' : Reply} {u u' : List ℕ} → BeginPost scratch_words d l s u r → BeginPost scratch_words e l s u' r' → r.number ≡ 0
      → (lent : List ℤ) → length lent < number_limit → (xs : List Twice) → 0 < given (map at_one xs) → {s' t' : List ℕ} {o' p' : List ℤ}
      → Portions scratch_words d (map at_one xs) u lent s' o' → Portions scratch_words e (map at_other xs) u' lent t' p' → SameWhole d l lent xs s' t' o' p'
  turned-portions = same-portions d e l (turned-read E)

-- ---- the two directions
-- number 0, the record's length, and its bytes before those that the target had behind them
pub record Written (l b : Bytes) (r : Reply) (c : Bytes) : Type 0 where
  pub number : r.number ≡ 0
  pub size : r.length ≡ length l
  pub bytes : c ≡ l ++ drop (length l) b

written-by : {o : Filled} {l b c : Bytes} {r : Reply} → o ≡ record { number = 0; size = length l; buffer = l ++ drop (length l) b }
    → Fills o r.number r.length c → Written l b r c
written-by e F = record {
  number = F.number ∙ ap (λ (o : Filled). o.number) e;
  size = F.size ∙ ap (λ (o : Filled). o.size) e;
  bytes = F.buffer ∙ ap (λ (o : Filled). o.buffer) e;
}

-- "Give both directions": each turns every record that passes its own refusals, where the target has room for it.
module _ (l b : Bytes) {c : Bytes} {r : Reply} (room : length l ≤ length b) where
  pub columns-written : Passes 20 l → Fills (table_to_columns l b) r.number r.length c → Written (to_columns l) b r c
  unfolding table_to_columns filled
  columns-written P = written-by (ap (filled b) (turned-passes 20 to_columns l b P room))

  pub rows_written : Passes 23 l → Fills (table_to_rows l b) r.number r.length c → Written (to_rows l) b r c
  unfolding table_to_rows filled
  rows_written P = written-by (ap (filled b) (turned-passes 23 to_rows l b P room))

-- "each undoes the other": what one call wrote, lent to the other call with room for it, is written as it was, byte for byte. What is lent are bytes
-- (`Octets`).
module _ (l b b' : Bytes) (o : Octets l) (room : length l ≤ length b') {n k : ℕ} {c c' : Bytes} {r : Reply} where
  pub rows-undo : Fills (table_to_columns l b) n k c → n ≡ 0 → Fills (table_to_rows (take k c) b') r.number r.length c' → Written l b' r c'
  rows-undo F z = written-by (ap₂ (λ k x. table_to_rows (take k x) b') F.size F.buffer ∙ columns-then-rows l b b' o room (sym F.number ∙ z))

  pub columns-undo : Fills (table_to_rows l b) n k c → n ≡ 0 → Fills (table_to_columns (take k c) b') r.number r.length c' → Written l b' r c'
  columns-undo F z = written-by (ap₂ (λ k x. table_to_columns (take k x) b') F.size F.buffer ∙ rows-then-columns l b b' o room (sym F.number ∙ z))

-- "the same table rearranged": what a call wrote, in the place of its record in the data.
module _ (l b : Bytes) (o : Octets l) {n k : ℕ} {c d e : Bytes} (z : n ≡ 0) (E : Turned d e) where
  pub columns-in-place : Fills (table_to_columns l b) n k c → Turned (l ++ d) (take k c ++ e)
  unfolding table_to_columns
  columns-in-place F =
      let t = answered-zero 20 to_columns l b o (sym F.number ∙ z) in
      subst (λ (x : Bytes). Turned (l ++ d) (x ++ e)) (sym (ap₂ take F.size F.buffer ∙ t.1)) (columns l t.0.table E)

  pub rows-in-place : Fills (table_to_rows l b) n k c → Turned (l ++ d) (take k c ++ e)
  unfolding table_to_rows
  rows-in-place F =
      let t = answered-zero 23 to_rows l b o (sym F.number ∙ z) in
      subst (λ (x : Bytes). Turned (l ++ d) (x ++ e)) (sym (ap₂ take F.size F.buffer ∙ t.1)) (rows l t.0.table E)
