-- The operators that fill the places of a row, along a path through a question's program.
use native.Mathlib.Omega.{arith}
use mathlib.Core.Path.{◌≡◌, refl, sym, ap, subst, ◌∙◌}
use mathlib.Core.Bool.{true, ◌&&◌}
use mathlib.Core.List.{List, [], ◌∷◌, ◌++◌}
use Prim.Native.Nat.{ℕ, ◌+◌}
use lib.ListN.{length, length-append}
use Rattle.spec_encoding.specs.Record.{Bytes}
use Rattle.form_words.specs.FormWords.{size, size_c}
use Rattle.form_words.proofs.ReadBack.{size-some}
use Rattle.spec_plan.specs.Plan.{PTerm, Source}
use Rattle.plan_marks.specs.PlanIn.{term_in}
use Rattle.plan_marks.proofs.FormMarks.{and_right}
use Rattle.plan_machine.specs.Program.{End, Program, end_of}
use Rattle.plan_machine.specs.Program as Pr
use Rattle.plan_machine.specs.MachineWords.{Path, start, loop_p, in_p, past_p, Valid}
use Rattle.plan_machine.specs.AnswerText.{parts, among, head_parts, collects, width, writes}
use Rattle.plan_links.specs.Spots.{Spots, end, loop, inner, loop_code, comp_of}
use Rattle.plan_links.specs.SpotWords.{fuel, EndAt}
use Rattle.exec_terms.specs.PlanColumns.{plan_declared}
use Rattle.exec_terms.proofs.PartsBefore.{PartAt}
use Rattle.exec_terms.proofs.FormAgreement.{head-node}
use Rattle.exec_simulation.specs.PathPlaces.{behind_first, inside, loop_node, spots_at, back_at}
use Rattle.exec_simulation.specs.RowReads.{head_at}
use Rattle.exec_simulation.specs.SimulationRelation.{LinkedPlan}
use Rattle.exec_simulation.specs.WiredProgram.{Wired, loop_i, end_i}
use Rattle.exec_simulation.proofs.PathWords.{as-loop, as-end, as-inner, wired-at}
use Rattle.exec_initial.specs.PlaceFillers.{fillers, CompAt, head_of, LoopFilled, EndFilled, InnerFilled, Fills}
use Rattle.exec_initial.proofs.AccumulatorBounds.{Smalls}

pub fillers-width : (p : Spots) (π : Path) → length (fillers p π) ≡ width π
unfolding fillers width
fillers-width p start = refl
fillers-width p (loop_p π s c x) = omega (arith, length-append (fillers p π) (loop_i (loop_node (spots_at p π)) ∷ []), fillers-width p π)
fillers-width p (in_p π i x) = fillers-width p π
fillers-width p (past_p π i x) = omega (arith, length-append (fillers p π) (end_i (comp_of (inside (spots_at p π))) ∷ []), fillers-width p π)

-- a comprehension's head stands behind its clauses
pub head-place : {s : List ℕ} {c : ℕ} (A : CompAt s c) → head_at s c ≡ head_of A
unfolding size
head-place {s} {c} A = head-node s A.clauses (c + 1) fuel (c + 1 + size_c A.clauses) A.lies.1.0 refl A.lies.1.1.0 (omega (arith, A.few, size-some A.head)) (omega arith)

-- the nest or reduce of wired spots is read in their comprehension's words
end-at : (s : List ℕ) (b : ℕ) (x : Program) (y : Spots) → Wired s b x y → EndAt s (comp_of y) (end_of x)
unfolding comp_of end_of
end-at s b (Pr.end e) (end c) h = h.1.1
end-at s b (Pr.end e) (loop i p) h = absurd h
end-at s b (Pr.end e) (inner a p) h = absurd h
end-at s b (Pr.loop x t q) (end c) h = absurd h
end-at s b (Pr.loop x t q) (loop i p) h = end-at s (loop_code i) q p h.1.1.1.1
end-at s b (Pr.loop x t q) (inner a p) h = absurd h
end-at s b (Pr.inner i q) (end c) h = absurd h
end-at s b (Pr.inner i q) (loop j p) h = absurd h
end-at s b (Pr.inner i q) (inner a p) h = end-at s b q p h.1.1.1

module _ {d : Bytes} (Q : LinkedPlan d) (H : Fills Q.base [] Q.spots) where
  abbrev s : List ℕ
  s = Q.base

  abbrev sp : Spots
  sp = Q.spots

  -- the spots there have the operator's shape
  loop-shape : (π : Path) (a : Source) (t : PTerm) (p : Program) → Valid Q.program π (Pr.loop a t p) → spots_at sp π ≡ loop (loop_node (spots_at sp π)) (behind_first (spots_at sp π))
  loop-shape π a t p v = (as-loop s (back_at sp π) a t p (spots_at sp π) (wired-at Q π (Pr.loop a t p) v)).shape

  inner-shape : (π : Path) (i p : Program) → Valid Q.program π (Pr.inner i p) → spots_at sp π ≡ inner (inside (spots_at sp π)) (behind_first (spots_at sp π))
  inner-shape π i p v = (as-inner s (back_at sp π) i p (spots_at sp π) (wired-at Q π (Pr.inner i p) v)).shape

  pub fills-at : (π : Path) (x : Program) → Valid Q.program π x → Fills s (fillers sp π) (spots_at sp π)
  unfolding fillers spots_at
  fills-at start x v = H
  fills-at (loop_p π a t p) x v = (subst (Fills s (fillers sp π)) (loop-shape π a t p v.1) (fills-at π (Pr.loop a t p) v.1)).1
  fills-at (in_p π i p) x v = (subst (Fills s (fillers sp π)) (inner-shape π i p v.1) (fills-at π (Pr.inner i p) v.1)).1.0
  fills-at (past_p π i p) x v = (subst (Fills s (fillers sp π)) (inner-shape π i p v.1) (fills-at π (Pr.inner i p) v.1)).1.1

  pub loop-filled-at : (π : Path) (a : Source) (t : PTerm) (p : Program) → Valid Q.program π (Pr.loop a t p) → LoopFilled s (fillers sp (loop_p π a t p)) (comp_of (spots_at sp π)) (loop_node (spots_at sp π))
  unfolding fillers comp_of
  loop-filled-at π a t p v =
      let e = loop-shape π a t p v in
      let y : Spots = spots_at sp π in
      subst (λ c. LoopFilled s (fillers sp π ++ loop_i (loop_node y) ∷ []) c (loop_node y)) (sym (ap comp_of e)) (subst (Fills s (fillers sp π)) e (fills-at π (Pr.loop a t p) v)).0

  pub end-filled-at : (π : Path) (e : End) → Valid Q.program π (Pr.end e) → EndFilled s (fillers sp π) (comp_of (spots_at sp π))
  end-filled-at π e v = subst (Fills s (fillers sp π)) (as-end s (back_at sp π) e (spots_at sp π) (wired-at Q π (Pr.end e) v)).shape (fills-at π (Pr.end e) v)

  pub inner-filled-at : (π : Path) (i p : Program) → Valid Q.program π (Pr.inner i p) → InnerFilled s (fillers sp π) (comp_of (spots_at sp π)) (comp_of (inside (spots_at sp π)))
  unfolding comp_of
  inner-filled-at π i p v =
      let e = inner-shape π i p v in
      subst (λ c. InnerFilled s (fillers sp π) c (comp_of (inside (spots_at sp π)))) (sym (ap comp_of e)) (subst (Fills s (fillers sp π)) e (fills-at π (Pr.inner i p) v)).0

  -- An inner comprehension that is written is a part of the head around it.
  module _ (small : (π : Path) (x : Program) → Valid Q.program π x → Smalls (plan_declared d s) s (comp_of (spots_at sp π))) where
    pub head-term : (π : Path) (x : Program) → Valid Q.program π x → (A : CompAt s (comp_of (spots_at sp π))) → (end_of x).head ≡ term_in fuel s (head_of A)
    head-term π x v A = (end-at s (back_at sp π) x (spots_at sp π) (wired-at Q π x v)).head ∙ (small π x v).term ∙ ap (term_in fuel s) (head-place A)

    pub part_at : (π : Path) (i p : Program) (v : Valid Q.program π (Pr.inner i p)) → writes Q.program (in_p π i p) ≡ true
        → (let A = (inner-filled-at π i p v).comp in PartAt (head_of A) A.head (comp_of (inside (spots_at sp π))))
    unfolding writes end_of
    part_at π i p v e =
        let I = inner-filled-at π i p v in
        let a : among (width π) (head_parts p) ≡ true = and_right (collects (end_of i).monoid) (among (width π) (head_parts p)) (and_right (writes Q.program π) (collects (end_of i).monoid && among (width π) (head_parts p)) e) in
        let t : (end_of p).head ≡ term_in fuel s (head_of I.comp) = head-term π (Pr.inner i p) v I.comp in
        I.part (ap (λ n. among n (parts (term_in fuel s (head_of I.comp)))) (fillers-width sp π) ∙ ap (λ x. among (width π) (parts x)) (sym t) ∙ a)
