-- The outcomes see nothing of the data but what it is read as.
use mathlib.Core.Path.{◌≡◌, ap}
use mathlib.Core.List.{List, []}
use Prim.Native.Nat.{ℕ}
use lib.IntN.{ℤ}
use Rattle.spec_encoding.specs.Record.{Bytes, Result, got, and_then}
use Rattle.spec_encoding.specs.Data.{read_data}
use Rattle.spec_outcome.specs.Acceptance.{Lent, read_lent, Accepted, judge, examine}
use Rattle.spec_outcome.specs.Outcome.{Answer, scratch_words, with_scratch, written, answered, looped, by_loops, planned, by_plan, checked, printed, plan_lines}
use Rattle.spec_outcome.specs.RowOrder.{Way, looping, planning, by}

module _ (d e : Bytes) (l : Lent) (h : read_data d ≡ read_data e) where
  pub examined-same : examine d l ≡ examine e l
  unfolding examine
  examined-same = ap (λ r. and_then r (λ T. and_then (read_lent l) (λ p. judge T p.lent p.question))) h

  settled_same : {A : Type 0} (s : List ℕ) (b : List A) (k : Accepted → Result (Answer A))
      → with_scratch scratch_words s b (and_then (examine d l) k) ≡ with_scratch scratch_words s b (and_then (examine e l) k)
  settled_same s b k = ap (λ r. with_scratch scratch_words s b (and_then r k)) examined-same

  -- Whatever else is lent, number, length, buffer and scratch are the same, by loops, by plan, from the checker and from the plan call.
  pub answered-same : (w : Way) (s : List ℕ) (b : List ℤ) → by w d l s b ≡ by w e l s b
  unfolding by_loops by_plan answered
  answered-same looping s b = settled_same s b (written looped b)
  answered-same planning s b = settled_same s b (written planned b)

  pub checked-same : (s : List ℕ) → checked d l s ≡ checked e l s
  unfolding checked
  checked-same s = settled_same s [] (λ a. got (record { size = 0; front = [] }))

  pub lines_same : (s b : List ℕ) → plan_lines d l s b ≡ plan_lines e l s b
  unfolding plan_lines
  lines_same s b = settled_same s b (printed b)
