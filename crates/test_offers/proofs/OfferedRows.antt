-- From a question prepared in scratch to the number of rows that its plan offers.
use native.Mathlib.Omega.{arith}
use mathlib.Core.Path.{◌≡◌, refl, ap, ◌∙◌}
use mathlib.Core.List.{List}
use Prim.Native.Nat.{ℕ, ◌≤◌, min}
use lib.ListN.{length}
use lib.IntN.{ℤ}
use Rattle.spec_calculus.specs.Value.{Tables}
use Rattle.spec_calculus.specs.Monoid.{raw}
use Rattle.spec_encoding.specs.Record.{Bytes}
use Rattle.spec_normal_form.specs.Form.{NormalForm}
use Rattle.spec_plan.specs.Planner.{plan_of}
use Rattle.spec_outcome.specs.Acceptance.{Accepted}
use Rattle.form_prepared.specs.PreparedQuestion.{Prepared}
use Rattle.form_prepared.specs.AnswerContract.{Asked}
use Rattle.plan_machine.specs.Program.{program_of}
use Rattle.plan_machine.specs.Machine.{State, begin, run, due}
use Rattle.plan_machine.specs.Offers.{plan_offers}
use Rattle.plan_machine.proofs.WholePass.{pass-portion}
use Rattle.plan_marks.specs.Contract.{MakePlanPost}
use Rattle.plan_links.specs.Contract.{TermPost}
use Rattle.base_signed.specs.Limit.{number_limit}
use Rattle.form_env.specs.Environment.{tables_in}
use Rattle.exec_simulation.specs.SimulationRelation.{LinkedPlan, Waits}
use Rattle.exec_simulation.specs.RowReads.{Readable}
use Rattle.exec_batch.specs.Contract.{Waiting}
use Rattle.exec_initial.proofs.RunnableQuestion.{question}
use Rattle.exec_initial.proofs.StandingRows.{readable}
use Rattle.answer_settle.proofs.PreparedQuestion.{tables-are}
use Rattle.exec_pass.specs.PartContracts.{StartPost}
use Rattle.exec_simulation.proofs.OperatorWrites.{kept-all}
use Rattle.exec_answer.proofs.PassResults.{kept-long, kept_above, before}
use Rattle.test_offers.specs.OfferedRows.{longest, offered_rows}
use Rattle.test_offers.specs.Contract.{Counted, CountPost, RowsOfPost}

-- all the offers of the machine are those of the plan
begin-offers : (T : Tables) (f : NormalForm) → due T (begin T (program_of f)) ≡ plan_offers raw T (plan_of f)
unfolding run
begin-offers T f = omega (arith, (pass-portion T f 0).1)

-- s holds the question, s₁ its plan too, s₂ also its links; r is where the first row enters
module _ {d : Bytes} {s s₁ s₂ : List ℕ} {r : ℕ} (X : Asked d s) (Q : MakePlanPost s s₁) (L : TermPost s₁ 0 1 s₂ r) (o : List ℤ) (b : length o ≤ number_limit) where
  abbrev asks : {a : Accepted} → Prepared d a s → LinkedPlan d
  asks {a} A = question a s s₁ s₂ r A Q L o b

  abbrev first : {a : Accepted} → Prepared d a s → State
  first A = begin (tables_in d) (asks A).program

  reads : {a : Accepted} (A : Prepared d a s) → Readable (asks A)
  reads {a} A = readable a s s₁ s₂ r A Q L o b

  module _ {s₃ : List ℕ} {o₁ : List ℤ} {code : ℕ} (B : StartPost d s₂ o 0 r s₃ o₁ code) where
    begun : {a : Accepted} (A : Prepared d a s) → Waits (asks A) s₃ o₁ 0 code (first A)
    begun A = B.is (asks A) (reads A) (before A Q L o b (kept-all _) refl (omega arith))

    pub waiting-now : Waiting d s₃ o₁ 0 code
    waiting-now = let A = X.prepared in record { question = asks A; readable = reads A; state = first A; waits = begun A }

    module _ {s₄ : List ℕ} {o₂ : List ℤ} {n : ℕ} (C : CountPost d s₃ o₁ code s₄ o₂ n) where
      counted : {a : Accepted} (A : Prepared d a s) → Counted (asks A) (first A) s₄ n
      counted A = C.is (asks A) (reads A) (first A) (begun A)

      rows_are : {a : Accepted} (A : Prepared d a s) → n ≡ offered_rows a
      unfolding question
      rows_are {a} A = (counted A).rows ∙ ap (λ (k : ℕ). min k longest) (begin-offers (tables_in d) a.form ∙ ap (λ (T : Tables). plan_offers raw T (plan_of a.form)) (tables-are A))

      pub tells : RowsOfPost d s s₄ n
      unfolding question
      tells = let K = (counted X.prepared).kept in record { is = λ a A. rows_are A; long = kept-long X.prepared Q L K; above = kept_above X.prepared Q L K }
