-- What is told when a collection takes a row, and when an inner one is opened: the parts of its head that are not told yet.
use native.Mathlib.Omega.{arith}
use mathlib.Core.Path.{◌≡◌, refl, sym, ap, subst, ◌∙◌}
use mathlib.Core.Bool.{true}
use mathlib.Core.List.{List, [], ◌++◌}
use Prim.Native.Nat.{ℕ, suc, ◌+◌, ◌≤◌, min}
use lib.IntN.{ℤ}
use lib.ListN.{length}
use Rattle.spec_encoding.specs.Record.{Bytes}
use Rattle.spec_normal_form.specs.Form.{Form, comp}
use Rattle.form_words.specs.NodeWord.{next, node_at}
use Rattle.form_words.specs.FormTree.{form_tree}
use Rattle.form_words.specs.FormWords.{size}
use Rattle.spec_plan.specs.Plan.{PTerm}
use Rattle.answer_writer.specs.LaidWords.{pt}
use Rattle.answer_writer.specs.Shapes.{shape_of}
use Rattle.plan_marks.specs.Marks.{mark_at}
use Rattle.plan_marks.specs.PlanIn.{term_in}
use Rattle.plan_marks.proofs.FormMarks.{and_left}
use Rattle.plan_machine.specs.Program.{End, Program, end_of}
use Rattle.plan_machine.specs.Program as Pr
use Rattle.plan_machine.specs.MachineWords.{Words, Path, in_p, Valid, row}
use Rattle.plan_machine.specs.AnswerText.{puts, Written, parts, said, upto, head_parts, width, writes, told, text_into}
use Rattle.plan_machine.proofs.TextOverMoves.{writes-collects}
use Rattle.plan_machine.proofs.CollectionSpans.{Spans, Keeps}
use Rattle.plan_links.specs.Spots.{comp_of}
use Rattle.plan_links.specs.SpotWords.{fuel}
use Rattle.plan_links.proofs.SameNodes.{term-again}
use Rattle.form_env.specs.Environment.{tables_in}
use Rattle.form_env.proofs.SameForm.{node-same, next-same, hours-same}
use Rattle.exec_terms.specs.PlanColumns.{plan_declared}
use Rattle.exec_terms.specs.PartsWalk.{walk}
use Rattle.exec_terms.proofs.PartsText.{parts_in}
use Rattle.exec_terms.proofs.HeadParts.{head-parts}
use Rattle.exec_terms.proofs.FormAgreement.{tree_is}
use Rattle.exec_terms.proofs.PartsBefore.{PartAt, part-within, parts-upto}
use Rattle.base_signed.specs.Limit.{number_limit}
use Rattle.exec_state.specs.StateWords.{end_in}
use Rattle.exec_simulation.specs.PathPlaces.{inside, spots_at}
use Rattle.exec_simulation.specs.RowReads.{head_at}
use Rattle.exec_simulation.specs.SimulationRelation.{LinkedPlan, Stands}
use Rattle.exec_simulation.proofs.PathWords.{comp-node}
use Rattle.exec_initial.specs.PlaceFillers.{fillers, NamedUpto, CompAt, head_of, Fills}
use Rattle.exec_initial.specs.PassedComprehensions.{passes}
use Rattle.exec_initial.specs.WrittenHeads.{Collected, HeadLies, Later, LaterOf, Based, Done, basis}
use Rattle.exec_initial.proofs.AccumulatorBounds.{Smalls}
use Rattle.exec_initial.proofs.RowReads.{mark-same}
use Rattle.exec_initial.proofs.TermMarks.{upto-whole}
use Rattle.exec_initial.proofs.PathFillers.{fillers-width, end-filled-at, inner-filled-at, head-term, part_at}
use Rattle.exec_initial.proofs.OperatorReads.{lies-now, head-now}
use Rattle.exec_initial.proofs.CollectionNodes.{collects-shape, collection-at}
use Rattle.exec_initial.proofs.PartsWalk.{walks}
use Rattle.exec_initial.proofs.CollectionPlaces.{later-end, later-inner}
use Rattle.exec_initial.proofs.LatePlaces.{passed-since, part-named}

-- the walk from the head of the comprehension at π up to node b, with these words of its own
abbrev pub Tells : {d : Bytes} → LinkedPlan d → List ℕ → List ℤ → ℕ → Words → Path → ℕ → List PTerm → Type 0
Tells {d} Q s o limit w π b more =
    let c = comp_of (spots_at Q.spots π) in
    let r = row (tables_in d) w π in
    let n = length (text_into number_limit (tables_in d) Q.program w π) in
    walk fuel limit s r (head_at s c) b (pt o (end_in s c)) ≡ pt (puts limit n (said number_limit r more) o) (min (n + length (said number_limit r more)) number_limit)

module _ {d : Bytes} (Q : LinkedPlan d) (H : Fills Q.base [] Q.spots) (small : (π : Path) (x : Program) → Valid Q.program π x → Smalls (plan_declared d Q.base) Q.base (comp_of (spots_at Q.spots π)))
    {s : List ℕ} {o : List ℤ} {limit : ℕ} {w : Words} {r : Spans} (B : Based s 0 0 Q.spots) (S : Stands Q s w r) where
  -- at a path, in a comprehension that is written
  module _ (π : Path) (x : Program) (v : Valid Q.program π x) (wr : writes Q.program π ≡ true) (W : Written limit Q.lent o (text_into number_limit (tables_in d) Q.program w π))
      (K : Keeps number_limit (tables_in d) Q.program true w r π) (A : CompAt Q.base (comp_of (spots_at Q.spots π))) (T : LaterOf s (comp_of (spots_at Q.spots π)) (basis π)) where
    abbrev c : ℕ
    c = comp_of (spots_at Q.spots π)

    abbrev h : ℕ
    h = head_of A

    place-now : head_at s c ≡ h
    place-now = head-now Q.base s S.kept.form A

    stands-there : HeadLies s c h A.head
    unfolding size
    stands-there = record {
      lies = (lies-now Q.base s S.kept.form A).1.1.1;
      ends = next-same s Q.base S.kept.form h ∙ A.past_head;
      behind = next-same s Q.base S.kept.form c ∙ A.past ∙ omega arith;
      low = omega (arith, A.few);
    }

    later-now : Later s h A.head (basis π)
    later-now = subst (λ (y : Form). Later s h y (basis π)) (tree_is s A.head h fuel stands-there.lies stands-there.low (omega arith)) (subst (λ (y : ℕ). Later s y (form_tree fuel s y) (basis π)) place-now T)

    parts-now : parts (term_in fuel s h) ≡ head_parts x
    parts-now = ap parts (term-again Q.base s (node-same s Q.base S.kept.form) (next-same s Q.base S.kept.form) (hours-same s Q.base S.kept.form) (mark-same s Q.base S.kept.form) fuel h ∙ sym (head-term Q H small π x v A))

    done-now : (b : ℕ) → NamedUpto Q.base (fillers Q.spots π) b h A.head → Done s h A.head (passes Q.spots π) b
    done-now b N = λ j m k l.
        let E = part-named Q.base (fillers Q.spots π) b A.head h j A.lies.1.1.1 N m l (sym (ap shape_of (node-same s Q.base S.kept.form j)) ∙ k) in
        let e : mark_at s j ≡ suc E.place = mark-same s Q.base S.kept.form j ∙ E.mark in
        record { place = E.place; mark = e; has = passed-since Q.spots π E.place j E.low E.is (omega (arith, e, later-now.above j m k)) }

    tells : (b : ℕ) (more : List PTerm) → NamedUpto Q.base (fillers Q.spots π) b h A.head → b ≤ h + size A.head → parts_in fuel s h b ≡ told Q.program π ++ more → Tells Q s o limit w π b more
    tells b more N l e = ap (λ (y : ℕ). walk fuel limit s (row (tables_in d) w π) y b (pt o (end_in s c))) place-now ∙ walks Q π x v wr W K S h A.head stands-there later-now parts-now b (done-now b N) more l e

  -- The two ways.
  pub tells-end : (π : Path) (e : End) → Valid Q.program π (Pr.end e) → writes Q.program π ≡ true → Written limit Q.lent o (text_into number_limit (tables_in d) Q.program w π) → Keeps number_limit (tables_in d) Q.program true w r π
      → (more : List PTerm) → parts e.head ≡ told Q.program π ++ more → Tells Q s o limit w π (next s (comp_of (spots_at Q.spots π))) more
  unfolding end_of
  tells-end π e v wr W K more m =
      let E = end-filled-at Q H π e v in
      let A = E.comp in
      let T = later-end Q s B π e v in
      let L = stands-there π (Pr.end e) v wr W K A T in
      let b : ℕ = next s (comp_of (spots_at Q.spots π)) in
      tells π (Pr.end e) v wr W K A T b more (upto-whole Q.base (fillers Q.spots π) b A.head (head_of A) E.head) (omega (arith, L.behind))
      (ap (parts_in fuel s (head_of A)) L.behind ∙ head-parts s A.head (head_of A) fuel fuel L.lies L.ends L.low (omega arith) (omega arith) ∙ parts-now π (Pr.end e) v wr W K A T ∙ m)

  pub tells-inner : (π : Path) (i p : Program) → Valid Q.program π (Pr.inner i p) → writes Q.program (in_p π i p) ≡ true → Written limit Q.lent o (text_into number_limit (tables_in d) Q.program w π) → Keeps number_limit (tables_in d) Q.program true w r π
      → (more : List PTerm) → upto (width π) (head_parts p) ≡ told Q.program π ++ more → Tells Q s o limit w π (comp_of (inside (spots_at Q.spots π))) more
  unfolding end_of writes spots_at
  tells-inner π i p v g W K more m =
      let wr : writes Q.program π ≡ true = and_left (writes Q.program π) _ g in
      let I = inner-filled-at Q H π i p v in
      let A = I.comp in
      let T = later-inner Q s B π i p v in
      let x : Program = Pr.inner i p in
      let L = stands-there π x v wr W K A T in
      let b : ℕ = comp_of (inside (spots_at Q.spots π)) in
      let P : PartAt (head_of A) A.head b = part_at Q H small π i p v g in
      let k : Collected s b = ap shape_of (node-same s Q.base S.kept.form b ∙ comp-node Q (in_p π i p) i (refl, v)) ∙ collects-shape (end_of i).monoid (writes-collects Q.program (in_p π i p) i (refl, v) g) in
      let z : mark_at s b ≡ suc (width π) = mark-same s Q.base S.kept.form b ∙ I.mark ∙ ap suc (fillers-width Q.spots π) in
      let r = part-within A.head (head_of A) b P in
      tells π x v wr W K A T b more (I.before P) (omega (arith, r.1))
      (parts-upto s b (width π) A.head (head_of A) fuel fuel (collection-at (node_at s b) k).node z L.lies L.low (omega arith) (omega arith) P ((later-now π x v wr W K A T).fresh b (width π) P k z) ∙ ap (upto (width π)) (parts-now π x v wr W K A T) ∙ m)
