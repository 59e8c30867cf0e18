-- The raw words of an accepted question's value are brought to their written form: that settles the question.
use mathlib.Core.Path.{◌≡◌, subst}
use mathlib.Core.Bool.{false}
use mathlib.Core.List.{List, ◌++◌}
use Prim.Native.Nat.{ℕ, suc, ◌-◌, ◌≤◌}
use native.Mathlib.Omega.{arith}
use lib.ListN.{length, drop, replicate}
use lib.IntN.{ℤ, pos}
use Rattle.spec_calculus.specs.Value.{Value, Tables}
use Rattle.spec_calculus.specs.Monoid.{canonical, raw}
use Rattle.spec_encoding.specs.Record.{Bytes, got}
use Rattle.spec_normal_form.specs.Form.{as_form, normal_value}
use Rattle.spec_outcome.specs.WrittenForm.{words}
use Rattle.spec_outcome.specs.Acceptance.{Lent, read_lent, posed_of, Accepted}
use Rattle.spec_outcome.specs.Outcome.{G, written}
use Rattle.form_words.specs.FormTree.{left}
use Rattle.form_prepared.specs.PreparedQuestion.{Prepared}
use Rattle.spec_outcome.specs.Gives.{Settles}
use Rattle.form_prepared.proofs.SettledOutcome.{settles-full}
use Rattle.answer_types.specs.Columns.{columns}
use Rattle.answer_types.proofs.RawValueType.{Rooted}
use Rattle.answer_canonical.specs.CompactingWalk.{FinishPost}
use Rattle.answer_canonical.proofs.WrittenAnswer.{Answered, normal-written, answer-front}
use Rattle.answer_settle.specs.SettleContract.{Still, SettlePost}
use Rattle.answer_settle.proofs.PreparedQuestion.{tables-are, well-formed, form-in-scope, even, solid}
use Rattle.answer_settle.proofs.FormTypes.{rooted}

module _ {d : Bytes} {a : Accepted} {s t : List ℕ} (P : Prepared d a s) (S : Still d a t) where
  -- each row is of a generator that encloses it, with the columns of its table
  all-rooted : Rooted (columns t) a.tables (λ g. false) (as_form a.form)
  all-rooted = subst (λ (T : Tables). Rooted (columns t) T (λ g. false) (as_form a.form)) (tables-are P) (rooted S.held (as_form a.form) (λ g. false) 0 (form-in-scope P) S.named (even P (columns t)))

  module _ {o₁ o₂ : List ℤ} {n : ℕ} (K : FinishPost t 0 o₁ o₂ n) (o : List ℤ) (e : o₁ ≡ words (normal_value raw a.tables a.form) ++ drop (G a) o) (q : Lent) (r : read_lent q ≡ got (posed_of a)) where
    finished : Answered a.tables a.form (drop (G a) o) o₂ n
    finished = normal-written K (suc (left 0)) (omega arith) a.form S.form (well-formed P) (solid P q r) all-rooted (drop (G a) o) e

    settles-finished : (value : Accepted → Value) → normal_value canonical a.tables a.form ≡ value a → G a ≤ length o → Settles (written value o a) o 0 n o₂
    settles-finished value same l =
        let x = subst (λ (v : Value). (o₂ ≡ (words v ++ replicate (G a - length (words v)) (pos 0)) ++ drop (length (words v ++ replicate (G a - length (words v)) (pos 0))) o) × (n ≡ length (words v))) same
        (unfold G in answer-front a.tables a.form o o₂ n finished) in
        settles-full value a o l x.1 x.0

pub settled : {s : List ℕ} {o o' : List ℤ} {n : ℕ} → FinishPost s 0 o o' n → SettlePost s o o' n
settled K = record { is = λ d a p P S q r b e l value same. settles-finished P S K b e q r value same l }
