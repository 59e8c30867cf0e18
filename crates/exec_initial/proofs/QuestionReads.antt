-- What the executor reads of an accepted question that has been planned and linked: the row agrees with scratch there.
use native.Mathlib.Omega.{arith}
use mathlib.Core.Path.{◌≡◌, sym, subst}
use mathlib.Core.Bool.{true, false}
use mathlib.Core.List.{List, []}
use Prim.Native.Nat.{ℕ, ◌+◌, ◌≤◌}
use lib.IntN.{ℤ}
use lib.ListN.{length}
use Rattle.spec_calculus.specs.Value.{kind_of}
use Rattle.spec_encoding.specs.Record.{Bytes}
use Rattle.spec_normal_form.specs.Form.{NormalForm, as_form}
use Rattle.spec_normal_form.specs.NoRule.{Ordered}
use Rattle.spec_normal_form.proofs.NoRuleApplies.{normal-in-scope}
use Rattle.form_words.specs.NodeWord.{next}
use Rattle.form_words.specs.FormTree.{form_tree}
use Rattle.spec_plan.specs.Plan.{PTerm, Source}
use Rattle.spec_outcome.specs.Acceptance.{Accepted}
use Rattle.form_prepared.specs.PreparedQuestion.{Prepared}
use Rattle.plan_marks.specs.Contract.{MakePlanPost}
use Rattle.plan_machine.specs.Program.{End, Program, end_of, program_of}
use Rattle.plan_machine.specs.Program as Pr
use Rattle.plan_machine.specs.MachineWords.{Words, Path, loop_p, in_p, before, pos, Valid, row, Begun, last}
use Rattle.plan_machine.specs.AnswerText.{writes}
use Rattle.plan_machine.proofs.CollectionSpans.{Spans}
use Rattle.plan_machine.proofs.CollectionsInHeads.{Fitting, normal-fitting}
use Rattle.plan_links.specs.Spots.{Spots, comp_of, spots_of}
use Rattle.plan_links.specs.SpotWords.{fuel}
use Rattle.plan_links.specs.Contract.{TermPost}
use Rattle.form_env.specs.Environment.{tables_in}
use Rattle.form_arith.specs.WordSorts.{sort_of, word_bound, merge_bound}
use Rattle.exec_terms.specs.PlanColumns.{plan_declared}
use Rattle.exec_terms.specs.PartsWalk.{AgreesP}
use Rattle.base_signed.specs.Limit.{number_limit}
use Rattle.exec_simulation.specs.PathPlaces.{inside, loop_node, spots_at}
use Rattle.exec_simulation.specs.RowReads.{head_at, LoopReads, EndReads}
use Rattle.exec_simulation.specs.AccumulatorRoom.{takes_of, AccumulatorRoom}
use Rattle.exec_simulation.specs.SimulationRelation.{LinkedPlan, Stands}
use Rattle.exec_initial.specs.HeadBounds.{bound_at}
use Rattle.exec_initial.specs.PlaceFillers.{Fills}
use Rattle.exec_initial.proofs.PathNumbers.{own_at}
use Rattle.exec_initial.proofs.WordEnds.{steps}
use Rattle.exec_initial.proofs.FormFillers.{form-fills}
use Rattle.exec_initial.proofs.RunnableQuestion.{passed, laid, linked-plan, wired, fit, question, question-smalls, question-bounds}
use Rattle.exec_initial.proofs.OperatorReads.{loops-read, ends_read, element-agrees, opening-agrees}

-- s holds the question, s₁ its plan too, s₂ also its links
module _ {d : Bytes} (a : Accepted) (s s₁ s₂ : List ℕ) (r : ℕ) (A : Prepared d a s) (Q : MakePlanPost s s₁) (L : TermPost s₁ 0 1 s₂ r) where
  abbrev f : NormalForm
  f = a.form

  abbrev sp : Spots
  sp = spots_of f.clauses f.head 0

  in_scope : Ordered (as_form f) (λ g. false) 0
  in_scope = let P = passed a s s₁ s₂ r A Q L in subst (λ t. Ordered (as_form t) (λ g. false) 0) (sym P.form-is) (normal-in-scope (kind_of a.tables) a.question P.names)

  fitting : Fitting (as_form f)
  fitting = let P = passed a s s₁ s₂ r A Q L in subst (λ t. Fitting (as_form t)) (sym P.form-is) (normal-fitting a.tables a.question P.generators)

  pub question-fills : Fills s₂ [] sp
  question-fills =
      let W = linked-plan a s s₁ s₂ r A Q L in
      form-fills f s₂ W.lies W.few (steps s s₂ W.nexts (as_form f) 0 (omega (arith, W.few)) (laid a s s₁ s₂ r A Q L).held) W.marked in_scope fitting

  pub question-own : (π : Path) (i p : Program) → Valid (program_of f) π (Pr.inner i p)
      → merge_bound (end_of i).monoid (takes_of (tables_in d) i) (bound_at (plan_declared d s₂) s₂ sp (pos π + before i)) ≤ word_bound (plan_declared d s₂) (sort_of (end_of i).monoid) (form_tree fuel s₂ (comp_of (inside (spots_at sp π))))
  question-own = own_at (plan_declared d s₂) s₂ (tables_in d) (program_of f) sp (wired a s s₁ s₂ r A Q L) (fit a s s₁ s₂ r A Q L)

  module _ (lent : List ℤ) (short : length lent ≤ number_limit) where
    abbrev asked : LinkedPlan d
    asked = question a s s₁ s₂ r A Q L lent short

    pub reads-loops : (t : List ℕ) (w : Words) (y : Spans) (π : Path) (b : Source) (c : PTerm) (p : Program) (k : ℕ) → Valid asked.program π (Pr.loop b c p) → Begun w (loop_p π b c p) → Stands asked t w y
        → AccumulatorRoom (tables_in d) asked.bound asked.program w (loop_p π b c p) k
        → LoopReads d t (row (tables_in d) w (loop_p π b c p)) (comp_of (spots_at asked.spots π)) (loop_node (spots_at asked.spots π)) c
    unfolding question
    reads-loops t w y = loops-read asked (question-smalls a s s₁ s₂ r A Q L) question-fills question-own t w y

    pub reads-ends : (t : List ℕ) (w : Words) (y : Spans) (π : Path) (e : End) (k : ℕ) → Valid asked.program π (Pr.end e) → Begun w π → Stands asked t w y → AccumulatorRoom (tables_in d) asked.bound asked.program w π k
        → EndReads d t (row (tables_in d) w π) (comp_of (spots_at asked.spots π)) (asked.bound (last asked.program π)) e
    unfolding question end_of
    reads-ends t w y π e k v = ends_read asked (question-smalls a s s₁ s₂ r A Q L) question-fills question-own t w y π e k (question-bounds a s s₁ s₂ r A Q L π (Pr.end e) v) v

    -- the parts of a head that are written when a collection takes a row, and when an inner one is opened
    pub agrees-element : (t : List ℕ) (w : Words) (y : Spans) (π : Path) (e : End) (k : ℕ) → Valid asked.program π (Pr.end e) → Begun w π → Stands asked t w y → AccumulatorRoom (tables_in d) asked.bound asked.program w π k
        → AgreesP fuel d t (row (tables_in d) w π) (head_at t (comp_of (spots_at asked.spots π))) (next t (comp_of (spots_at asked.spots π)))
    unfolding question
    agrees-element t w y = element-agrees asked (question-smalls a s s₁ s₂ r A Q L) question-fills question-own t w y

    pub agrees-opening : (t : List ℕ) (w : Words) (y : Spans) (π : Path) (i p : Program) (k : ℕ) → Valid asked.program π (Pr.inner i p) → writes asked.program (in_p π i p) ≡ true → Begun w π → Stands asked t w y
        → AccumulatorRoom (tables_in d) asked.bound asked.program w π k → AgreesP fuel d t (row (tables_in d) w π) (head_at t (comp_of (spots_at asked.spots π))) (comp_of (inside (spots_at asked.spots π)))
    unfolding question
    agrees-opening t w y = opening-agrees asked (question-smalls a s s₁ s₂ r A Q L) question-fills question-own t w y
