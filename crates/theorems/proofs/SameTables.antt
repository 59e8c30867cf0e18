-- The open calls see nothing of the data but what it is read as, over their contracts.
use native.Mathlib.Omega.{arith}
use mathlib.Core.Path.{◌≡◌, refl, sym, ap, ◌∙◌}
use mathlib.Core.List.{List, [], ◌∷◌, map}
use Prim.Native.Nat.{ℕ, ◌+◌, ◌≤◌, ◌<◌}
use lib.ListN.{length}
use lib.IntN.{ℤ}
use Rattle.spec_calculus.proofs.Lists.{All}
use Rattle.spec_encoding.specs.Record.{Bytes, got}
use Rattle.spec_encoding.specs.Data.{read_data}
use Rattle.spec_outcome.specs.Acceptance.{Lent, Accepted, examine}
use Rattle.spec_outcome.specs.Outcome.{Outcome, scratch_words, checked, by_plan, plan_lines}
use Rattle.spec_outcome.specs.RowOrder.{Way, planning, by}
use Rattle.spec_outcome.specs.ScratchLimit.{SameReply}
use Rattle.spec_outcome.specs.Gives.{Gives}
use Rattle.spec_outcome.proofs.Checks.{got-is}
use Rattle.spec_outcome.proofs.SameTables.{examined-same, answered-same, checked-same, lines_same}
use Rattle.base_signed.specs.Limit.{number_limit}
use Rattle.engine.specs.Portions.{rows_in_all, BeginPost}
use Rattle.engine.specs.declared.Reply.{Reply}
use Rattle.theorems.proofs.RowOrder.{SameCall, same-call}
use Rattle.theorems.proofs.Portions.{Portions, counted, given, in-portions}
use Rattle.theorems.proofs.SameRun.{SameSaid, Twice, at_one, at_other, Begun, SameRun, begun-alike, run-alike}

same-reply : {o p : Outcome ℕ} → o ≡ p → SameReply o p
same-reply f = record { numbers = ap (λ (o : Outcome ℕ). o.number) f; sizes = ap (λ (o : Outcome ℕ). o.size) f; buffers = ap (λ (o : Outcome ℕ). o.buffer) f }

-- the same rows are given to portions over either
given-same : (xs : List Twice) → given (map at_other xs) ≡ given (map at_one xs)
unfolding given
given-same [] = refl
given-same (x ∷ xs) = ap (λ k. counted x.rows + k) (given-same xs)

-- portions of a question that was begun over either data: each says the same, and where they are enough, buffer and scratch are the same in the end
pub record SameWhole (d : Bytes) (l : Lent) (lent : List ℤ) (xs : List Twice) (s' t' : List ℕ) (o' p' : List ℤ) : Type 0 where
  pub accepted : Accepted
  pub is : examine d l ≡ got accepted
  pub said : All (λ x. SameSaid x.one x.other) xs
  pub ends : rows_in_all accepted lent ≤ given (map at_one xs) → (o' ≡ p') × (s' ≡ t')

-- A portion of the same question over either says the same, and leaves the same question; so do any portions, one behind another, and a round.
pub same-run : (d e : Bytes) → read_data d ≡ read_data e → SameRun scratch_words scratch_words d e
same-run d e h = run-alike scratch_words scratch_words d e h (omega arith) (omega arith)

module _ (d e : Bytes) (l : Lent) (h : read_data d ≡ read_data e) where
  -- One call, lent the same but for the data: all that it returns and leaves is the same.
  pub same-answered : (w : Way) (s : List ℕ) (b : List ℤ) {r r' : Reply} {c c' : List ℤ} {u u' : List ℕ}
      → Gives (by w d l s b) r.number r.length c u → Gives (by w e l s b) r'.number r'.length c' u' → SameCall r r' c c' u u'
  same-answered w s b = same-call (answered-same d e l h w s b)

  pub same-checked : (s : List ℕ) {r r' : Reply} {u u' : List ℕ}
      → Gives (checked d l s) r.number r.length [] u → Gives (checked e l s) r'.number r'.length [] u' → SameCall {A = ℕ} r r' [] [] u u'
  same-checked s = same-call (checked-same d e l h s)

  pub same_lines : (s b : List ℕ) {r r' : Reply} {c c' u u' : List ℕ}
      → Gives (plan_lines d l s b) r.number r.length c u → Gives (plan_lines e l s b) r'.number r'.length c' u' → SameCall r r' c c' u u'
  same_lines s b = same-call (lines_same d e l h s b)

  -- A question is begun over the one as over the other, or refused by the same number.
  pub same-begun : (s : List ℕ) {r r' : Reply} {u u' : List ℕ}
      → BeginPost scratch_words d l s u r → BeginPost scratch_words e l s u' r' → Begun scratch_words scratch_words d e u u' r r'
  unfolding checked
  same-begun s = begun-alike scratch_words scratch_words d e h l (same-reply (checked-same d e l h s))

  -- Any portions from its beginning on say the same, and where they are enough, buffer and scratch are the same in the end.
  pub same-portions : (s : List ℕ) {r r' : Reply} {u u' : List ℕ} → BeginPost scratch_words d l s u r → BeginPost scratch_words e l s u' r' → r.number ≡ 0
      → (lent : List ℤ) → length lent < number_limit → (xs : List Twice) → 0 < given (map at_one xs) → {s' t' : List ℕ} {o' p' : List ℤ}
      → Portions scratch_words d (map at_one xs) u lent s' o' → Portions scratch_words e (map at_other xs) u' lent t' p' → SameWhole d l lent xs s' t' o' p'
  same-portions s B B' z lent short xs some P P' =
      let A = same-begun s B B' in
      let I = in-portions d l B z lent short (map at_one xs) some P in
      let I' = in-portions e l B' (sym A.numbers ∙ z) lent short (map at_other xs) (omega (arith, some, given-same xs)) P' in
      let a : I.accepted ≡ I'.accepted = got-is I.accepted I'.accepted (sym I.is ∙ examined-same d e l h ∙ I'.is) in
      record {
        accepted = I.accepted;
        is = I.is;
        said = ((same-run d e h).portions xs (A.served z lent short) P P').said;
        ends = λ m.
            let W = I.whole m in
            let W' = I'.whole (omega (arith, m, given-same xs, ap (λ (x : Accepted). rows_in_all x lent) a)) in
            let f : by_plan d l s lent ≡ by_plan e l s lent = answered-same d e l h planning s lent in
            (W.buffer ∙ ap (λ (x : Outcome ℤ). x.buffer) f ∙ sym W'.buffer, W.scratch ∙ ap (λ (x : Outcome ℤ). x.scratch) f ∙ sym W'.scratch);
      }
