-- The walk over a head's parts, from where the collection ends so far: the parts told already are there, the others are put behind
-- the text.
use native.Mathlib.Omega.{arith}
use mathlib.Core.Path.{◌≡◌, sym, ap, ap₂, subst, ◌∙◌, refl}
use mathlib.Core.List.{List, [], ◌∷◌, ◌++◌, append_assoc, append-nil}
use mathlib.Core.Bool.{true}
use Prim.Native.Nat.{ℕ, ◌+◌, ◌≤◌, ◌<◌, min}
use lib.IntN.{ℤ}
use lib.ListN.{length, length-append}
use Rattle.spec_calculus.specs.Value.{Tables}
use Rattle.spec_encoding.specs.Record.{Bytes}
use Rattle.spec_normal_form.specs.Form.{Form}
use Rattle.form_words.specs.NodeWord.{node_at}
use Rattle.form_words.specs.FormWords.{size}
use Rattle.spec_plan.specs.Plan.{PTerm, place}
use Rattle.spec_plan.specs.Operators.{Row}
use Rattle.answer_writer.specs.LaidWords.{Point, pt, lays}
use Rattle.answer_writer.specs.Shapes.{shape_of}
use Rattle.answer_writer.proofs.LaidWords.{lays-append}
use Rattle.plan_marks.specs.Marks.{slot_by}
use Rattle.plan_marks.specs.PlanIn.{term_in, monoid_by}
use Rattle.plan_machine.specs.Program.{Program, end_of}
use Rattle.plan_machine.specs.MachineWords.{Words, Path, before, pos, Valid, row}
use Rattle.plan_machine.specs.AnswerText.{puts, Written, parts, said, upto, head_parts, collects, writes, told, text_back, text_into}
use Rattle.plan_machine.proofs.Moves.{last-is}
use Rattle.plan_machine.proofs.HeadOrder.{Begins}
use Rattle.plan_machine.proofs.TextOverMoves.{said-append, writes-collects}
use Rattle.plan_machine.proofs.CollectionSpans.{Spans, Keeps, keeps-open}
use Rattle.plan_links.specs.Spots.{comp_of}
use Rattle.plan_links.specs.SpotWords.{fuel}
use Rattle.form_env.specs.Environment.{tables_in}
use Rattle.form_env.proofs.SameForm.{node-same}
use Rattle.exec_terms.specs.PartsWalk.{go_on, walk}
use Rattle.exec_terms.proofs.PartsText.{parts_in, walk-said}
use Rattle.exec_terms.proofs.HeadParts.{term-at}
use Rattle.exec_terms.proofs.PartsBefore.{PartAt, parts-upto}
use Rattle.exec_terms.proofs.PartsSettled.{Stood, settled-head}
use Rattle.base_signed.specs.Limit.{number_limit}
use Rattle.exec_state.specs.StateWords.{end_in}
use Rattle.exec_simulation.specs.WiredProgram.{end_i, ids, id_at}
use Rattle.exec_simulation.specs.PathPlaces.{spots_at}
use Rattle.exec_simulation.specs.SimulationRelation.{LinkedPlan, Stands}
use Rattle.exec_simulation.proofs.PathWords.{number-low, end-id, comp-node}
use Rattle.exec_simulation.proofs.AccumulatorWrites.{says-end}
use Rattle.exec_initial.specs.PassedComprehensions.{passes}
use Rattle.exec_initial.specs.WrittenHeads.{Collected, HeadLies, Later, Done}
use Rattle.exec_initial.proofs.CollectionNodes.{collects-shape, collection-at}
use Rattle.exec_initial.proofs.RepeatedWrites.{lays-there, lays-from}
use Rattle.exec_initial.proofs.PassedText.{upto_with, told-pass}

-- the word of a collection says where it ends
ends_at : {d : Bytes} (Q : LinkedPlan d) {s : List ℕ} {w : Words} {r : Spans} → Stands Q s w r → (o j : ℕ) → o < length (ids Q.spots) → id_at Q.spots o ≡ end_i j → Collected s j → end_in s j ≡ min (r.upto o) number_limit
ends_at Q {s} S o j l e c = ((says-end Q S o j l e (monoid_by (node_at s j)) refl).1 (collection-at (node_at s j) c).collects).0

module _ {d : Bytes} (Q : LinkedPlan d) {s : List ℕ} {o : List ℤ} {limit : ℕ} {w : Words} {r : Spans} (π : Path) (x : Program) (v : Valid Q.program π x) (wr : writes Q.program π ≡ true)
    (W : Written limit Q.lent o (text_into number_limit (tables_in d) Q.program w π)) (K : Keeps number_limit (tables_in d) Q.program true w r π) (S : Stands Q s w r) where
  abbrev q : Program
  q = Q.program

  abbrev T : Tables
  T = tables_in d

  abbrev c : ℕ
  c = comp_of (spots_at Q.spots π)

  abbrev ρ : Row
  ρ = row T w π

  abbrev text : List ℤ
  text = text_back number_limit T q w π

  here : Collected s c
  here = ap shape_of (node-same s Q.base S.kept.form c ∙ comp-node Q π x v) ∙ collects-shape (end_of x).monoid (writes-collects q π x v wr)

  from : end_in s c ≡ min (length text) number_limit
  from = ends_at Q S (pos π + before x) c (number-low Q π x v) (end-id Q π x v) here ∙ ap (λ n. min n number_limit) (ap r.upto (last-is T q π x v) ∙ (keeps-open number_limit T q true π w r wr K).1)

  short : limit ≤ number_limit
  short = omega (arith, W.fits, Q.short)

  -- parts told already
  told-there : (ts : List PTerm) → Begins ts (told q π) → lays limit (said number_limit ρ ts) (pt o (end_in s c)) ≡ pt o (min (length (text ++ said number_limit ρ ts)) number_limit)
  told-there ts b =
      let e : text_into number_limit T q w π ≡ text ++ (said number_limit ρ ts ++ said number_limit ρ b.0) = ap (λ (y : List ℤ). text ++ y) (ap (said number_limit ρ) b.1 ∙ said-append number_limit ρ ts b.0) in
      ap (λ k. lays limit (said number_limit ρ ts) (pt o k)) from ∙ lays-there short text (said number_limit ρ ts) (said number_limit ρ b.0) (subst (Written limit Q.lent o) e W) ∙ ap (λ k. pt o (min k number_limit)) (sym (length-append text (said number_limit ρ ts)))

  module _ (h : ℕ) (u : Form) (L : HeadLies s c h u) {f : ℕ} (Z : Later s h u f) (hp : parts (term_in fuel s h) ≡ head_parts x) (b : ℕ) (D : Done s h u (passes Q.spots π) b) where
    stood : (j : ℕ) → PartAt h u j → j < b → Collected s j → Stood limit s ρ b fuel (pt o (end_in s c)) (omega arith) (parts_in fuel s h j) j
    unfolding slot_by
    stood j m l k =
        let A = D j m k l in
        let n : ℕ = A.place in
        let N = collection-at (node_at s j) k in
        let E = told-pass Q w r π x v K n j A.has (sym (ap shape_of (node-same s Q.base S.kept.form j)) ∙ k) in
        let us : List PTerm = upto n (head_parts x) in
        let p : parts_in fuel s h j ≡ us = parts-upto s j n u h fuel fuel N.node A.mark L.lies L.low (omega arith) (omega arith) m (Z.fresh j n m k A.mark) ∙ ap (upto n) hp in
        let t : term_in fuel s j ≡ place n = term-at s fuel j N.node (omega arith) ∙ ap slot_by A.mark in
        let z : pt o (end_in s j) ≡ pt o (min (length (text ++ said number_limit ρ (upto_with n x))) number_limit) = ap (pt o) (ends_at Q S E.operator j E.low E.id k ∙ ap (λ i. min i number_limit) E.ends) in
        ap₂ (λ (y : List PTerm) (a : PTerm). lays limit (said number_limit ρ (y ++ a ∷ [])) (pt o (end_in s c))) p t ∙ told-there (upto_with n x) E.begins ∙ sym z
        ∙ sym (ap (go_on (end_in s j)) (ap (λ (y : List PTerm). lays limit (said number_limit ρ y) (pt o (end_in s c))) p ∙ told-there us (place n ∷ E.begins.0, E.begins.1 ∙ append_assoc us (place n ∷ []) E.begins.0)))

    pub walks : (more : List PTerm) → b ≤ h + size u → parts_in fuel s h b ≡ told q π ++ more
        → walk fuel limit s ρ h b (pt o (end_in s c)) ≡ pt (puts limit (length (text_into number_limit T q w π)) (said number_limit ρ more) o) (min (length (text_into number_limit T q w π) + length (said number_limit ρ more)) number_limit)
    walks more l e =
        let P : Point = pt o (end_in s c) in
        walk-said limit s ρ b fuel h P (settled-head limit s ρ b fuel P (omega arith) u h L.lies L.ends L.low l stood)
        ∙ ap (λ (y : List ℤ). lays limit y P) (ap (said number_limit ρ) e ∙ said-append number_limit ρ (told q π) more)
        ∙ lays-append limit (said number_limit ρ (told q π)) (said number_limit ρ more) P ∙ ap (lays limit (said number_limit ρ more)) (told-there (told q π) ([], sym (append-nil (told q π))))
        ∙ lays-from short (said number_limit ρ more) o (length (text_into number_limit T q w π))
