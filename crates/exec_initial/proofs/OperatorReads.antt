-- A standing row agrees with scratch on all that its operator reads: a loop its conditions, a nest or reduce its late conditions and
-- its head, a collection the parts of the head that are written.
use native.Mathlib.Omega.{arith}
use mathlib.Core.Path.{◌≡◌, refl, sym, ap, subst, ◌∙◌}
use mathlib.Core.Bool.{true, false}
use mathlib.Core.List.{List, []}
use Prim.Native.Nat.{ℕ, ◌+◌, ◌≤◌}
use Rattle.spec_encoding.specs.Record.{Bytes}
use Rattle.spec_normal_form.specs.Form.{comp}
use Rattle.spec_normal_form.specs.Bound.{Declared, within}
use Rattle.base_scratch.specs.Map.{form_words}
use Rattle.form_words.specs.NodeWord.{next, word_at}
use Rattle.form_words.specs.FormTree.{form_tree}
use Rattle.form_words.specs.FormWords.{size, size_c}
use Rattle.base_syntax.proofs.Numbers.{monoid-back}
use Rattle.form_words.proofs.ReadBack.{size-some}
use Rattle.spec_plan.specs.Plan.{PTerm, Source}
use Rattle.spec_plan.specs.Operators.{Row}
use Rattle.plan_marks.specs.Marks.{mark_at}
use Rattle.plan_marks.specs.PlanIn.{monoid_by}
use Rattle.plan_marks.proofs.FormInWords.{Lies, lies_same}
use Rattle.plan_machine.specs.Program.{End, Program, end_of}
use Rattle.plan_machine.specs.Program as Pr
use Rattle.plan_machine.specs.MachineWords.{Words, Path, loop_p, in_p, before, pos, Valid, row, Begun, last}
use Rattle.plan_machine.specs.AnswerText.{collects, writes}
use Rattle.plan_machine.proofs.CollectionSpans.{Spans}
use Rattle.plan_machine.proofs.CollectionsInHeads.{Scalar, Either, Fitting}
use Rattle.plan_links.specs.Spots.{Spots, comp_of}
use Rattle.plan_links.specs.SpotWords.{fuel}
use Rattle.form_env.specs.Environment.{tables_in}
use Rattle.form_env.proofs.SameForm.{node-same, next-same, hours-same}
use Rattle.form_arith.specs.WordSorts.{sort_of, word_bound, merge_bound}
use Rattle.exec_terms.specs.PlanColumns.{plan_declared}
use Rattle.exec_terms.specs.Agreement.{Agrees, AgreesC}
use Rattle.exec_terms.specs.PartsWalk.{AgreesP}
use Rattle.exec_terms.proofs.FormAgreement.{tree_is, agrees_on, agrees-clauses}
use Rattle.exec_terms.proofs.PartsPre.{agrees-upto}
use Rattle.exec_simulation.specs.PathPlaces.{inside, loop_node, spots_at}
use Rattle.exec_simulation.specs.RowReads.{head_at, LoopReads, EndReads}
use Rattle.exec_simulation.specs.AccumulatorRoom.{takes_of, AccumulatorRoom}
use Rattle.exec_simulation.specs.SimulationRelation.{LinkedPlan, Stands}
use Rattle.exec_simulation.specs.WiredProgram.{Id}
use Rattle.exec_simulation.proofs.PathWords.{comp-node}
use Rattle.exec_simulation.proofs.OperatorWrites.{declared-kept}
use Rattle.exec_initial.specs.PlaceFillers.{fillers, Named, NamedC, NamedUpto, CompAt, head_of, Fills}
use Rattle.exec_initial.specs.PlaceContents.{Holding}
use Rattle.exec_initial.proofs.AccumulatorBounds.{Smalls}
use Rattle.exec_initial.proofs.RowReads.{mark-same, head-node-same, loop-reads, end_reads}
use Rattle.exec_initial.proofs.TopComprehensions.{part-top, top_within}
use Rattle.exec_initial.proofs.TermMarks.{upto-whole}
use Rattle.exec_initial.proofs.FormFillers.{head-fits}
use Rattle.exec_initial.proofs.PathFillers.{head-place, loop-filled-at, end-filled-at, inner-filled-at, part_at}
use Rattle.exec_initial.proofs.RowContents.{holding}
use Rattle.exec_initial.proofs.RowAgreement.{agrees-named, agrees-conditions, agrees-named-upto}

-- ---- what is read of the comprehension at c; b: scratch before the first row, s: with the same words of the normal form
module _ (b s : List ℕ) (same : (i : ℕ) → word_at s i ≡ word_at b i) {c : ℕ} (A : CompAt b c) where
  pub lies-now : Lies s c (comp A.monoid A.clauses A.head)
  lies-now = lies_same b s (node-same s b same) (next-same s b same) (hours-same s b same) (comp A.monoid A.clauses A.head) c A.lies

  pub head-now : head_at s c ≡ head_of A
  head-now = head-node-same s b same fuel (c + 1) ∙ head-place A

module _ (d : Bytes) (p : Spots) (b s : List ℕ) (same : (i : ℕ) → word_at s i ≡ word_at b i) (w : Words) (F : List Id) (r : Row) (H : Holding d p s w F r) {c : ℕ} (A : CompAt b c) where
  conditions-agree : (m : ℕ) → NamedC b F m (c + 1) A.clauses → AgreesC fuel d s r m (c + 1)
  unfolding size
  conditions-agree m h =
      let L = lies-now b s same A in
      agrees-clauses d s r m A.clauses (c + 1) fuel (c + 1 + size_c A.clauses) L.1.0 refl L.1.1.0 (omega (arith, A.few, size-some A.head)) (omega arith)
      (agrees-conditions d p b s same w F r H A.clauses m (c + 1) A.lies.1.0 (omega (arith, A.few)) A.scalars h)

  pub head-agrees : collects A.monoid ≡ false → Named b F (head_of A) A.head → Agrees fuel d s r (head_at s c)
  unfolding size
  head-agrees e h =
      let f : Scalar A.head = subst (λ x. Either x (Fitting A.head) (Scalar A.head)) e A.fitting in
      let n : head_of A + size A.head ≤ form_words = omega (arith, A.few) in
      subst (Agrees fuel d s r) (sym (head-now b s same A)) (agrees_on d s r A.head (head_of A) fuel (lies-now b s same A).1.1.1 n (omega arith) (agrees-named d p b s same w F r H A.head (head_of A) A.lies.1.1.1 n f h))

  -- the parts of the head before node e
  pub parts-agree : (e : ℕ) → within (plan_declared d s) A.head ≡ true → NamedUpto b F e (head_of A) A.head → e ≤ head_of A + size A.head → AgreesP fuel d s r (head_at s c) e
  unfolding size
  parts-agree e v h l =
      let n : head_of A + size A.head ≤ form_words = omega (arith, A.few) in
      let k = next-same s b same (head_of A) ∙ A.past_head in
      subst (λ i. AgreesP fuel d s r i e) (sym (head-now b s same A)) (agrees-upto d s r e A.head (head_of A) fuel (lies-now b s same A).1.1.1 k n v
      (agrees-named-upto d p b s same w F r H A.head e (head_of A) A.lies.1.1.1 n (head-fits (collects A.monoid) A.head A.fitting) h) (omega arith) l)

-- ---- along a path
module _ {d : Bytes} (Q : LinkedPlan d) (small : (π : Path) (x : Program) → Valid Q.program π x → Smalls (plan_declared d Q.base) Q.base (comp_of (spots_at Q.spots π))) (filled : Fills Q.base [] Q.spots)
    (own : (π : Path) (i p : Program) → Valid Q.program π (Pr.inner i p)
    → merge_bound (end_of i).monoid (takes_of (tables_in d) i) (Q.bound (pos π + before i)) ≤ word_bound (plan_declared d Q.base) (sort_of (end_of i).monoid) (form_tree fuel Q.base (comp_of (inside (spots_at Q.spots π)))))
    (s : List ℕ) (w : Words) (r : Spans) where
  abbrev b : List ℕ
  b = Q.base

  abbrev sp : Spots
  sp = Q.spots

  abbrev row_at : Path → Row
  row_at π = row (tables_in d) w π

  pub loops-read : (π : Path) (a : Source) (t : PTerm) (p : Program) (k : ℕ) → Valid Q.program π (Pr.loop a t p) → Begun w (loop_p π a t p) → Stands Q s w r
      → AccumulatorRoom (tables_in d) Q.bound Q.program w (loop_p π a t p) k → LoopReads d s (row_at (loop_p π a t p)) (comp_of (spots_at sp π)) (loop_node (spots_at sp π)) t
  loops-read π a t p k v g S R =
      let H = holding Q s w r S own (loop_p π a t p) p k (refl, v) g R in
      let L = loop-filled-at Q filled π a t p v in
      let C = conditions-agree d sp b s S.kept.form w (fillers sp (loop_p π a t p)) (row_at (loop_p π a t p)) H L.comp (mark_at b (loop_node (spots_at sp π))) L.conditions in
      loop-reads Q small S.kept (row_at (loop_p π a t p)) π a t p v (subst (λ m. AgreesC fuel d s (row_at (loop_p π a t p)) m (comp_of (spots_at sp π) + 1)) (sym (mark-same s b S.kept.form (loop_node (spots_at sp π)))) C)

  -- the comprehension's own monoid
  same-monoid : (π : Path) (x : Program) → Valid Q.program π x → (A : CompAt b (comp_of (spots_at sp π))) → A.monoid ≡ (end_of x).monoid
  same-monoid π x v A = sym (monoid-back A.monoid) ∙ ap monoid_by (sym A.lies.0 ∙ comp-node Q π x v) ∙ monoid-back (end_of x).monoid

  head_small : (π : Path) (x : Program) → Valid Q.program π x → Stands Q s w r → (A : CompAt b (comp_of (spots_at sp π))) → within (plan_declared d s) A.head ≡ true
  unfolding size
  head_small π x v S A = ap (λ (C : Declared). within C A.head) (declared-kept Q S.kept) ∙ sym (ap (within (plan_declared d b)) (ap (form_tree fuel b) (head-place A) ∙ tree_is b A.head (head_of A) fuel A.lies.1.1.1 (omega (arith, A.few)) (omega arith))) ∙ (small π x v).head

  pub ends_read : (π : Path) (e : End) (k : ℕ) → word_bound (plan_declared d b) (sort_of e.monoid) (form_tree fuel b (head_at b (comp_of (spots_at sp π)))) ≡ Q.bound (last Q.program π) → Valid Q.program π (Pr.end e) → Begun w π → Stands Q s w r
      → AccumulatorRoom (tables_in d) Q.bound Q.program w π k → EndReads d s (row_at π) (comp_of (spots_at sp π)) (Q.bound (last Q.program π)) e
  unfolding end_of
  ends_read π e k x v g S R =
      let H = holding Q s w r S own π (Pr.end e) k v g R in
      let E = end-filled-at Q filled π e v in
      end_reads Q small S.kept (row_at π) π e v x (conditions-agree d sp b s S.kept.form w (fillers sp π) (row_at π) H E.comp 0 E.conditions)
      (λ z. head-agrees d sp b s S.kept.form w (fillers sp π) (row_at π) H E.comp (ap collects (same-monoid π (Pr.end e) v E.comp) ∙ z) E.head)

  -- ---- what is written of a head
  -- all of it, when its collection takes a row
  pub element-agrees : (π : Path) (e : End) (k : ℕ) → Valid Q.program π (Pr.end e) → Begun w π → Stands Q s w r → AccumulatorRoom (tables_in d) Q.bound Q.program w π k
      → AgreesP fuel d s (row_at π) (head_at s (comp_of (spots_at sp π))) (next s (comp_of (spots_at sp π)))
  unfolding size
  element-agrees π e k v g S R =
      let H = holding Q s w r S own π (Pr.end e) k v g R in
      let E = end-filled-at Q filled π e v in
      let A = E.comp in
      let c : ℕ = comp_of (spots_at sp π) in
      parts-agree d sp b s S.kept.form w (fillers sp π) (row_at π) H A (next s c) (head_small π (Pr.end e) v S A) (upto-whole b (fillers sp π) (next s c) A.head (head_of A) E.head) (omega (arith, next-same s b S.kept.form c, A.past))

  -- that before an inner collection, when this is opened
  pub opening-agrees : (π : Path) (i p : Program) (k : ℕ) → Valid Q.program π (Pr.inner i p) → writes Q.program (in_p π i p) ≡ true → Begun w π → Stands Q s w r → AccumulatorRoom (tables_in d) Q.bound Q.program w π k
      → AgreesP fuel d s (row_at π) (head_at s (comp_of (spots_at sp π))) (comp_of (inside (spots_at sp π)))
  unfolding spots_at
  opening-agrees π i p k v z g S R =
      let H = holding Q s w r S own π (Pr.inner i p) k v g R in
      let I = inner-filled-at Q filled π i p v in
      let A = I.comp in
      let j : ℕ = comp_of (inside (spots_at sp π)) in
      let P = part_at Q filled small π i p v z in
      let n = (top_within A.head (head_of A) j (part-top b j (comp-node Q (in_p π i p) i (refl, v)) A.head (head_of A) A.lies.1.1.1 P)).1 in
      parts-agree d sp b s S.kept.form w (fillers sp π) (row_at π) H A j (head_small π (Pr.inner i p) v S A) (I.before P) (omega (arith, n))
