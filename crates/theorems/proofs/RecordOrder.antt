-- "The same records in another order give the same answer" (document 02, E9), over the contracts of the open calls.
use mathlib.Core.Path.{◌≡◌, sym, ◌∙◌}
use mathlib.Core.List.{List, [], map}
use Prim.Native.Nat.{ℕ, ◌<◌}
use lib.ListN.{length}
use lib.IntN.{ℤ}
use Rattle.spec_calculus.specs.Value.{Tables}
use Rattle.spec_calculus.specs.Rearrangement.{Rearranged}
use Rattle.spec_encoding.specs.Record.{got}
use Rattle.spec_encoding.specs.Data.{read_data}
use Rattle.spec_outcome.specs.Acceptance.{Lent}
use Rattle.spec_outcome.specs.Outcome.{scratch_words, checked, plan_lines}
use Rattle.spec_outcome.specs.RowOrder.{Way, by}
use Rattle.spec_outcome.specs.RecordOrder.{WholeRecord, data_of}
use Rattle.spec_outcome.specs.Gives.{Gives}
use Rattle.spec_outcome.proofs.RecordOrder.{read-any-order}
use Rattle.base_signed.specs.Limit.{number_limit}
use Rattle.engine.specs.Portions.{BeginPost}
use Rattle.engine.specs.declared.Reply.{Reply}
use Rattle.theorems.proofs.RowOrder.{SameCall}
use Rattle.theorems.proofs.Portions.{Portions, given}
use Rattle.theorems.proofs.SameRun.{Twice, at_one, at_other, Begun, SameRun}
use Rattle.theorems.proofs.SameTables.{same-answered, same-checked, same_lines, SameWhole, same-begun, same-run, same-portions}

module _ {rs us : List WholeRecord} (P : Rearranged rs us) {T : Tables} (t : read_data (data_of rs) ≡ got T) (l : Lent) where
  same_read : read_data (data_of rs) ≡ read_data (data_of us)
  same_read = t ∙ sym (read-any-order P t)

  -- One call, lent the same but for the order of the records: all that it returns and leaves is the same.
  pub record-order-same : (w : Way) (s : List ℕ) (b : List ℤ) {r r' : Reply} {c c' : List ℤ} {u u' : List ℕ}
      → Gives (by w (data_of rs) l s b) r.number r.length c u → Gives (by w (data_of us) l s b) r'.number r'.length c' u' → SameCall r r' c c' u u'
  record-order-same = same-answered (data_of rs) (data_of us) l same_read

  pub record-order-check : (s : List ℕ) {r r' : Reply} {u u' : List ℕ}
      → Gives (checked (data_of rs) l s) r.number r.length [] u → Gives (checked (data_of us) l s) r'.number r'.length [] u' → SameCall {A = ℕ} r r' [] [] u u'
  record-order-check = same-checked (data_of rs) (data_of us) l same_read

  pub record-order-plan : (s b : List ℕ) {r r' : Reply} {c c' u u' : List ℕ}
      → Gives (plan_lines (data_of rs) l s b) r.number r.length c u → Gives (plan_lines (data_of us) l s b) r'.number r'.length c' u' → SameCall r r' c c' u u'
  record-order-plan = same_lines (data_of rs) (data_of us) l same_read

  -- A question is begun over the one order as over the other, or refused by the same number.
  pub record-order-begun : (s : List ℕ) {r r' : Reply} {u u' : List ℕ}
      → BeginPost scratch_words (data_of rs) l s u r → BeginPost scratch_words (data_of us) l s u' r' → Begun scratch_words scratch_words (data_of rs) (data_of us) u u' r r'
  record-order-begun = same-begun (data_of rs) (data_of us) l same_read

  -- A portion of it says the same and leaves the same question, so do any portions, one behind another, and a round (`portion`, `portions`, `round` of `SameRun`).
  pub record-order-run : SameRun scratch_words scratch_words (data_of rs) (data_of us)
  record-order-run = same-run (data_of rs) (data_of us) same_read

  -- Any portions from its beginning on say the same, and where they are enough, buffer and scratch are the same in the end.
  pub record-order-portions : (s : List ℕ) {r r' : Reply} {u u' : List ℕ} → BeginPost scratch_words (data_of rs) l s u r → BeginPost scratch_words (data_of us) l s u' r' → r.number ≡ 0
      → (lent : List ℤ) → length lent < number_limit → (xs : List Twice) → 0 < given (map at_one xs) → {s' t' : List ℕ} {o' p' : List ℤ}
      → Portions scratch_words (data_of rs) (map at_one xs) u lent s' o' → Portions scratch_words (data_of us) (map at_other xs) u' lent t' p' → SameWhole (data_of rs) l lent xs s' t' o' p'
  record-order-portions = same-portions (data_of rs) (data_of us) l same_read
