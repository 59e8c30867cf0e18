-- What is left of the words and the scratch that were lent.
use mathlib.Core.Path.{◌≡◌, sym, ap, ◌∙◌}
use mathlib.Core.List.{List, ◌++◌}
use Prim.Native.Nat.{ℕ, ◌-◌, ◌≤◌, ◌<◌}
use native.Mathlib.Omega.{arith}
use borrow.Author.Tests.{le-ltb, le-leb, lt-leb}
use lib.ListN.{length, take, drop, replicate, length-drop, length-replicate}
use lib.Seq.{take_all, drop-append_seam}
use lib.IntN.{ℤ}
use Rattle.spec_calculus.specs.Lists.{pick}
use Rattle.spec_encoding.specs.Record.{Bytes, Result, refused, got, and_then}
use Rattle.spec_outcome.specs.Acceptance.{Lent, examine}
use Rattle.spec_outcome.specs.Outcome.{Answer, scratch_words, cleared, settled, with_scratch, written, answered, looped, by_loops, printed, plan_lines}
use Rattle.spec_outcome.specs.Gives.{Gives}
use Rattle.spec_desk.specs.TablesEnd.{tables_end}
use Rattle.spec_desk.specs.Desk.{alone}
use Rattle.spec_desk.specs.LentBuffers.{words_left, scratch_left}

-- ---- the scratch of a call that has enough
clears : {A : Type 0} (s : List ℕ) (b : List A) (x : Result (Answer A)) → scratch_words ≤ length s → (with_scratch scratch_words s b x).scratch ≡ cleared scratch_words s
unfolding with_scratch settled
clears s b (refused n) h = rw (le-ltb (length s) scratch_words h, with_scratch)
clears s b (got a) h = rw (le-ltb (length s) scratch_words h, with_scratch)

-- what is cleared stays so
blank-twice : (n : ℕ) (s : List ℕ) → replicate n 0 ++ drop n (replicate n 0 ++ drop n s) ≡ replicate n 0 ++ drop n s
blank-twice n s =
    ap (λ (l : List ℕ). replicate n 0 ++ l) (ap (λ (k : ℕ). drop k (replicate n 0 ++ drop n s)) (sym (length-replicate n 0)) ∙ drop-append_seam (replicate n 0) (drop n s))

pub answer-clears : (d : Bytes) (l : Lent) (s : List ℕ) (b : List ℤ) {s' : List ℕ} {b' : List ℤ} {k n : ℕ} → scratch_words ≤ length s → Gives (by_loops d l s b) k n b' s' → s' ≡ cleared scratch_words s
unfolding by_loops answered
answer-clears d l s b room X = X.scratch ∙ clears s b (and_then (examine d l) (written looped b)) room

pub plan-clears : (d : Bytes) (l : Lent) (s₀ s : List ℕ) (t : Bytes) {s' : List ℕ} {t' : Bytes} {k n : ℕ} → scratch_words ≤ length s → s ≡ cleared scratch_words s₀ → Gives (plan_lines d l s t) k n t' s' → s' ≡ cleared scratch_words s₀
unfolding plan_lines
plan-clears d l s₀ s t room e Y = Y.scratch ∙ clears s t (and_then (examine d l) (printed t)) room ∙ ap (cleared scratch_words) e ∙ blank-twice scratch_words s₀

-- ---- the whole
module _ (b : Bytes) (s : List ℕ) (w : List ℤ) where
  pub left-long : 65536 < length b → (w ≡ words_left b s w) × (s ≡ scratch_left b s)
  unfolding words_left scratch_left pick
  left-long l = (rw (lt-leb (length b) 65536 l), rw (lt-leb (length b) 65536 l))

  pub left-asks : {p : ℕ} {w' : List ℤ} {s' : List ℕ} → length b ≤ 65536 → p ≡ tables_end b → w' ≡ (by_loops (take p b) (alone (take (length b - p) (drop p b))) s w).buffer → s' ≡ cleared scratch_words s → (w' ≡ words_left b s w) × (s' ≡ scratch_left b s)
  unfolding words_left scratch_left pick
  left-asks {p} l e q c = (
    rw (le-leb (length b) 65536 l) (q ∙ ap (λ (x : Bytes). (by_loops (take p b) (alone x) s w).buffer) (take_all (length b - p) (drop p b) (omega (arith, length-drop p b))) ∙ ap (λ (k : ℕ). (by_loops (take k b) (alone (drop k b)) s w).buffer) e),
    rw (le-leb (length b) 65536 l) c,
  )
