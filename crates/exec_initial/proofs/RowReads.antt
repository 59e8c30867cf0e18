-- What a standing row asks of the words is read there, but for the agreement of its places with them.
use mathlib.Core.Path.{◌≡◌, refl, sym, ap, ap₂, subst, ◌∙◌}
use mathlib.Core.Bool.{false}
use mathlib.Core.List.{List}
use Prim.Native.Nat.{ℕ, zero, suc, ◌+◌, ◌≤◌}
use native.Mathlib.Nat.{le_refl}
use Rattle.spec_encoding.specs.Record.{Bytes}
use Rattle.spec_normal_form.specs.Form.{Form}
use Rattle.spec_normal_form.specs.Bound.{Declared, within, within_c}
use Rattle.base_syntax.specs.Numbers.{monoid_arg, monoid_at}
use Rattle.form_words.specs.NodeWord.{word_at}
use Rattle.base_syntax.proofs.Numbers.{monoid-back}
use Rattle.form_words.specs.FormTree.{clause_of, form_tree}
use Rattle.form_words.specs.HeadPlace.{head_by, head_node}
use Rattle.spec_plan.specs.Plan.{PTerm, Source}
use Rattle.spec_plan.specs.Planner.{conj}
use Rattle.spec_plan.specs.Operators.{Row}
use Rattle.plan_marks.specs.Marks.{mark_of, mark_at}
use Rattle.plan_marks.specs.PlanIn.{term_in, head_in, conds_in}
use Rattle.plan_machine.specs.Program.{End, Program}
use Rattle.plan_machine.specs.Program as Pr
use Rattle.plan_machine.specs.MachineWords.{Path, Valid, last}
use Rattle.plan_machine.specs.AnswerText.{collects}
use Rattle.plan_links.specs.Spots.{Spots, comp_of}
use Rattle.plan_links.specs.SpotWords.{fuel}
use Rattle.plan_links.proofs.SameNodes.{term-again, head-again, conds-again}
use Rattle.form_env.proofs.SameForm.{node-same, form-same, clauses-same, next-same, hours-same}
use Rattle.form_arith.specs.WordSorts.{sort_of, word_bound}
use Rattle.exec_terms.specs.PlanColumns.{plan_declared}
use Rattle.exec_terms.specs.Agreement.{Agrees, AgreesC}
use Rattle.exec_simulation.specs.PathPlaces.{loop_node, spots_at, back_at}
use Rattle.exec_simulation.specs.RowReads.{head_at, LoopReads, EndReads}
use Rattle.exec_simulation.specs.SimulationRelation.{LinkedPlan, ProgramKept}
use Rattle.exec_simulation.proofs.PathWords.{as-loop, as-end, wired-at}
use Rattle.exec_simulation.proofs.OperatorWrites.{declared-kept}
use Rattle.exec_initial.proofs.AccumulatorBounds.{Smalls}

-- scratches with the same words of a normal form
module _ (s t : List ℕ) (w : (i : ℕ) → word_at s i ≡ word_at t i) where
  pub mark-same : (i : ℕ) → mark_at s i ≡ mark_at t i
  mark-same i = ap mark_of (w i)

  pub head-node-same : (f i : ℕ) → head_node f s i ≡ head_node f t i
  unfolding head_node
  head-node-same zero i = refl
  head-node-same (suc f) i = λ p. head_by (λ j. head-node-same f j p) i (clause_of (node-same s t w i p))

  head-form-same : (c : ℕ) → form_tree fuel s (head_at s c) ≡ form_tree fuel t (head_at t c)
  head-form-same c = form-same s t w fuel (head_at s c) ∙ ap (form_tree fuel t) (head-node-same fuel (c + 1))

  head-term-same : (i : ℕ) → head_in fuel s i ≡ head_in fuel t i
  head-term-same i = head-again t s (node-same s t w) (next-same s t w) (hours-same s t w) mark-same fuel i

  pub smalls-same : (C : Declared) (c : ℕ) → Smalls C t c → Smalls C s c
  smalls-same C c h = record {
    clauses = ap (within_c C) (clauses-same s t w fuel (c + 1)) ∙ h.clauses;
    head = ap (within C) (head-form-same c) ∙ h.head;
    term = head-term-same (c + 1) ∙ h.term ∙ sym (term-again t s (node-same s t w) (next-same s t w) (hours-same s t w) mark-same fuel (head_at t c)) ∙ ap (term_in fuel s) (sym (head-node-same fuel (c + 1)));
  }

  conds-same : (m m' i : ℕ) → m ≡ m' → conds_in fuel s m i ≡ conds_in fuel t m' i
  conds-same m m' i e = conds-again t s (node-same s t w) (next-same s t w) (hours-same s t w) mark-same fuel m i ∙ ap (λ k. conds_in fuel t k i) e

module _ {d : Bytes} (Q : LinkedPlan d) (small : (π : Path) (x : Program) → Valid Q.program π x → Smalls (plan_declared d Q.base) Q.base (comp_of (spots_at Q.spots π))) {s : List ℕ} (K : ProgramKept Q.base s) (r : Row) where
  small-now : (π : Path) (x : Program) → Valid Q.program π x → Smalls (plan_declared d s) s (comp_of (spots_at Q.spots π))
  small-now π x v =
      let c : ℕ = comp_of (spots_at Q.spots π) in
      subst (λ (C : Declared). Smalls C s c) (sym (declared-kept Q K)) (smalls-same s Q.base K.form (plan_declared d Q.base) c (small π x v))

  -- a loop's conditions
  pub loop-reads : (π : Path) (a : Source) (t : PTerm) (p : Program) → Valid Q.program π (Pr.loop a t p)
      → AgreesC fuel d s r (mark_at s (loop_node (spots_at Q.spots π))) (comp_of (spots_at Q.spots π) + 1)
      → LoopReads d s r (comp_of (spots_at Q.spots π)) (loop_node (spots_at Q.spots π)) t
  loop-reads π a t p v g =
      let y : Spots = spots_at Q.spots π in
      let A = as-loop Q.base (back_at Q.spots π) a t p y (wired-at Q π (Pr.loop a t p) v) in
      record {
        condition = A.is.condition ∙ ap conj (sym (conds-same s Q.base K.form (mark_at s (loop_node y)) (mark_at Q.base (loop_node y)) (comp_of y + 1) (mark-same s Q.base K.form (loop_node y))));
        small = (small-now π (Pr.loop a t p) v).clauses;
        agrees = g;
      }

  -- a nest or reduce
  pub end_reads : (π : Path) (e : End) → Valid Q.program π (Pr.end e)
      → word_bound (plan_declared d Q.base) (sort_of e.monoid) (form_tree fuel Q.base (head_at Q.base (comp_of (spots_at Q.spots π)))) ≡ Q.bound (last Q.program π)
      → AgreesC fuel d s r 0 (comp_of (spots_at Q.spots π) + 1) → (collects e.monoid ≡ false → Agrees fuel d s r (head_at s (comp_of (spots_at Q.spots π))))
      → EndReads d s r (comp_of (spots_at Q.spots π)) (Q.bound (last Q.program π)) e
  end_reads π e v b g h =
      let y : Spots = spots_at Q.spots π in
      let E = (as-end Q.base (back_at Q.spots π) e y (wired-at Q π (Pr.end e) v)).is in
      let S = small-now π (Pr.end e) v in
      record {
        monoid = monoid_at (monoid_arg e.monoid);
        node = node-same s Q.base K.form (comp_of y) ∙ E.node;
        same = monoid-back e.monoid;
        condition = E.condition ∙ ap conj (sym (conds-same s Q.base K.form 0 0 (comp_of y + 1) refl));
        small = S.clauses;
        agrees = g;
        head = E.head ∙ sym (head-term-same s Q.base K.form (comp_of y + 1)) ∙ S.term;
        small_head = S.head;
        agrees_head = h;
        bound = subst (λ (n : ℕ). word_bound (plan_declared d s) (sort_of e.monoid) (form_tree fuel s (head_at s (comp_of y))) ≤ n) (ap₂ (λ (C : Declared) (h : Form). word_bound C (sort_of e.monoid) h) (declared-kept Q K) (head-form-same s Q.base K.form (comp_of y)) ∙ b) (le_refl _);
      }
