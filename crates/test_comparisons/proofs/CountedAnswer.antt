-- From a question prepared in scratch to the outcome of answering by loops, with its comparisons for its length.
use mathlib.Core.Path.{◌≡◌, refl, sym, ap, subst, ◌∙◌}
use mathlib.Core.Bool.{Bool, true, false}
use mathlib.Core.List.{List, ◌++◌}
use Prim.Native.Nat.{ℕ, suc, ◌-◌, ◌^◌, ◌≤◌, ◌<◌}
use native.Mathlib.Omega.{arith}
use lib.Dec.{leb}
use lib.ListN.{length, drop, replicate}
use lib.IntN.{ℤ, pos}
use Rattle.spec_calculus.specs.Value.{Value, Tables}
use Rattle.spec_calculus.specs.Monoid.{raw}
use Rattle.spec_encoding.specs.Record.{Bytes, refused, got, require}
use Rattle.spec_checks.specs.Types.{Ty}
use Rattle.spec_normal_form.specs.Form.{as_form, normal_value}
use Rattle.spec_outcome.specs.WrittenForm.{words}
use Rattle.spec_outcome.specs.Acceptance.{Lent, read_lent, Accepted, posed_of}
use Rattle.spec_outcome.specs.Outcome.{Answer, settled, G, written, looped}
use Rattle.spec_outcome.specs.Gives.{Settles}
use Rattle.form_words.specs.FormTree.{left}
use Rattle.form_prepared.specs.PreparedQuestion.{Prepared}
use Rattle.answer_types.specs.Columns.{columns}
use Rattle.answer_types.specs.Shape.{type_of, type_at}
use Rattle.answer_types.specs.TypedValues.{Of}
use Rattle.answer_types.proofs.RawValueType.{Rooted, normal-of}
use Rattle.answer_heap.specs.HeapSort.{capped}
use Rattle.answer_canonical.specs.Comparisons.{steps}
use Rattle.answer_canonical.specs.CompactingWalk.{FinishPost, FinishCount}
use Rattle.answer_settle.specs.SettleContract.{Still}
use Rattle.answer_settle.proofs.PreparedQuestion.{tables-are, well-formed, form-in-scope, even, solid}
use Rattle.answer_settle.proofs.FormTypes.{rooted}
use Rattle.answer_settle.proofs.FinishSettles as Finish
use Rattle.loop_collect.specs.Contract as Collect
use Rattle.loop_answer.proofs.ByLoopsOutcome.{still, raw-written, answers-short, answers-full}
use Rattle.std.specs.declared.result.Result.TheVariants.{Ok, Err}
use Rattle.base_refusals.specs.declared.Refusal.TheVariants.{AnswerTooShort}
use Rattle.test_comparisons.specs.ComparedAnswer.{comparisons_of, retold, counted}
use Rattle.test_comparisons.specs.Contract.{CountPost}
use Rattle.test_comparisons.proofs.RowColumns.{steps-same}

-- ---- the same number and buffer, with another length
module _ {b b' : List ℤ} (k : ℕ) (x : Answer ℤ) where
  retold-short : (t : Bool) → Settles (require 32 t (got x)) b 32 0 b' → Settles (retold k (require 32 t (got x))) b 32 0 b'
  unfolding require retold settled
  retold-short true S = record { gives = λ s. absurd (omega (arith, (S.gives s).number)) }
  retold-short false S = S

  retold-full : (t : Bool) {n : ℕ} → Settles (require 32 t (got x)) b 0 n b' → Settles (retold k (require 32 t (got x))) b 0 k b'
  unfolding require retold settled
  retold-full true S = record { gives = λ s. let g = S.gives s in record { number = g.number; size = refl; buffer = g.buffer; scratch = g.scratch } }
  retold-full false S = record { gives = λ s. absurd (omega (arith, (S.gives s).number)) }

-- ---- the count, by the type that scratch has for the normal form
module _ {d : Bytes} {a : Accepted} {s t : List ℕ} (P : Prepared d a s) (S : Still d a t) where
  all-rooted : Rooted (columns t) a.tables (λ g. false) (as_form a.form)
  all-rooted = subst (λ (T : Tables). Rooted (columns t) T (λ g. false) (as_form a.form)) (tables-are P) (rooted S.held (as_form a.form) (λ g. false) 0 (form-in-scope P) S.named (even P (columns t)))

  count-is : {o₁ : List ℤ} {c : ℕ} → FinishCount t 0 o₁ c → (o : List ℤ) → o₁ ≡ words (normal_value raw a.tables a.form) ++ drop (G a) o → (q : Lent) → read_lent q ≡ got (posed_of a) → c ≡ comparisons_of a
  count-is K o e q r =
      let v : Value = normal_value raw a.tables a.form in
      let f = suc (left 0) in
      let ty : type_at f t 0 ≡ type_of (columns t) (as_form a.form) = ap (type_of (columns t)) S.form in
      K.is f (omega arith) (drop (G a) o) v (subst (λ (u : Ty). Of u v) (sym ty) (normal-of (well-formed P) (columns t) a.form (solid P q r) all-rooted)) e
      ∙ ap (λ (u : Ty). capped (steps u v)) ty
      ∙ ap capped (steps-same (columns t) (λ g. 0) (as_form a.form) v)

module _ {d : Bytes} {s s₁ : List ℕ} {o o₁ : List ℤ} {g : ℕ} (R : Collect.RawAnswerPost d s o s₁ o₁ g) (e : length o₁ ≡ length o) where
  pub count-short : length o₁ < g → CountPost d s o s₁ o₁ (Err AnswerTooShort)
  unfolding written
  count-short l =
      let A = answers-short R e l in
      record {
        is = λ q a h P. retold-short (comparisons_of a) (record { size = length (words (looped a)); front = words (looped a) ++ replicate (G a - length (words (looped a))) (pos 0) }) (leb (G a) (length o)) (A.is q a h P);
        long = A.long;
        above = A.above;
      }

  pub count-full : {o₂ : List ℤ} {n k : ℕ} → length o < 2 ^ 62 → g ≤ length o₁ → FinishPost s₁ 0 o₁ o₂ n → FinishCount s₁ 0 o₁ k → CountPost d s o s₁ o₂ (Ok k)
  unfolding written
  count-full {o₂} {n} {k} b l K C =
      let A = answers-full R e b l (Finish.settled K) in
      record {
        is = λ q a h P.
            let c : k ≡ comparisons_of a = count-is P (subst (Still d a) (sym R.kept) (still P)) C o (raw-written R e b l (Finish.settled K) P q h) q h in
            let T = retold-full (comparisons_of a) (record { size = length (words (looped a)); front = words (looped a) ++ replicate (G a - length (words (looped a))) (pos 0) }) (leb (G a) (length o)) (A.is q a h P) in
            subst (λ (m : ℕ). Settles (counted o a) o 0 m o₂) (sym c) T;
        long = A.long;
        above = A.above;
      }
