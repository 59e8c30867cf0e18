-- A collection of a head whose place is filled behind the loops' places has been passed since.
use native.Mathlib.Omega.{arith}
use mathlib.Core.Path.{◌≡◌, sym, ap, subst, ◌∙◌}
use mathlib.Core.Logic.{inl, inr}
use mathlib.Core.List.{List, [], ◌∷◌}
use Prim.Native.Nat.{ℕ, ◌+◌, ◌≤◌, ◌<◌}
use borrow.Author.Tests.{ltb-true, ltb-false}
use lib.Dec.{ltb}
use lib.ListN.{length, length-append, get_or-append}
use lib.Seq.{get_or-append_seam}
use Rattle.spec_normal_form.specs.Form.{Form, Forms, num, truth, row, cell, rec, bin, negate, app, comp, fnil, fcons}
use Rattle.form_words.specs.NodeWord.{node_at}
use Rattle.form_words.specs.FormWords.{size}
use Rattle.base_signed.proofs.SignedWords.{by-test}
use Rattle.answer_writer.specs.declared.WriteForm.{WriteForm}
use Rattle.answer_writer.specs.Shapes.{shape_of}
use Rattle.plan_marks.specs.Marks.{mark_at}
use Rattle.plan_marks.proofs.FormInWords.{Lies, LiesF}
use Rattle.plan_machine.specs.MachineWords.{Path, start, loop_p, in_p, past_p}
use Rattle.plan_links.specs.Spots.{Spots, comp_of}
use Rattle.exec_terms.proofs.PartsBefore.{PartAt, PartAtF}
use Rattle.exec_simulation.specs.PathPlaces.{inside, loop_node, spots_at}
use Rattle.exec_simulation.specs.WiredProgram.{Id, loop_i, end_i}
use Rattle.exec_initial.specs.PlaceFillers.{fillers, filler_at, NamesEnd, NamedUpto, NamedUptoF}
use Rattle.exec_initial.specs.PassedComprehensions.{passes, Has}
use Rattle.exec_initial.specs.WrittenHeads.{Collected, basis}
use Rattle.exec_initial.proofs.PathFillers.{fillers-width}
use Rattle.exec_initial.proofs.CollectionNodes.{IsCollection}

-- a place that is filled behind the last loop is that of a comprehension passed since
pub passed-since : (p : Spots) (π : Path) (n j : ℕ) → n < length (fillers p π) → filler_at (fillers p π) n ≡ end_i j → basis π ≤ n → Has n j (passes p π)
unfolding fillers passes basis
passed-since p start n j l e b = absurd (omega (arith, l))
passed-since p (loop_p π s c x) n j l e b = absurd (omega (arith, l, b, length-append (fillers p π) (loop_i (loop_node (spots_at p π)) ∷ []), fillers-width p π))
passed-since p (in_p π i x) n j l e b = absurd (omega (arith, l, b, fillers-width p π))
passed-since p (past_p π i x) n j l e b =
    let F : List Id = fillers p π in
    let d : ℕ = comp_of (inside (spots_at p π)) in
    by-test (ltb n (length F))
    (λ h. let k = ltb-true n (length F) h in inr (passed-since p π n j k (sym (get_or-append F (end_i d ∷ []) (end_i 0) n k) ∙ e) b))
    (λ h. let k : n ≡ length F = omega (arith, l, ltb-false n (length F) h, length-append F (end_i d ∷ [])) in
    inl (k ∙ fillers-width p π, cc (sym e ∙ ap (filler_at (fillers p (past_p π i x))) k ∙ get_or-append_seam F (end_i d) [] (end_i 0))))

-- a collection among the parts before node b names the nest that fills its place
module _ (s : List ℕ) (F : List Id) (b : ℕ) where
  other : {x : WriteForm} (i j : ℕ) → shape_of (node_at s i) ≡ x → j ≡ i → Collected s j → IsCollection x
  other i j h e k = subst IsCollection (sym k ∙ ap (λ y. shape_of (node_at s y)) e ∙ h) tt

  mutual
    pub part-named : (t : Form) (i j : ℕ) → Lies s i t → NamedUpto s F b i t → PartAt i t j → j < b → Collected s j → NamesEnd F (mark_at s j) j
    part-named (num z) i j L h e l k = absurd (other i j (ap shape_of L) e k)
    part-named (truth z) i j L h e l k = absurd (other i j (ap shape_of L) e k)
    part-named (row g) i j L h e l k = absurd (other i j (ap shape_of L.0) e k)
    part-named (cell c g) i j L h e l k = absurd (other i j (ap shape_of L.0) e k)
    part-named (rec ts) i j L h e l k = parts-named ts (i + 1) j L.1 h e l k
    part-named (app f ts) i j L h e l k = absurd (other i j (ap shape_of L.0) e k)
    part-named (bin o t u) i j L h e l k = absurd (other i j (ap shape_of L.0) e k)
    part-named (negate t) i j L h e l k = absurd (other i j (ap shape_of L.0) e k)
    part-named (comp m q u) i j L h e l k = subst (λ y. NamesEnd F (mark_at s y) y) (sym e) (h (omega (arith, l, e)))

    parts-named : (ts : Forms) (i j : ℕ) → LiesF s i ts → NamedUptoF s F b i ts → PartAtF i ts j → j < b → Collected s j → NamesEnd F (mark_at s j) j
    parts-named fnil i j L h e l k = absurd e
    parts-named (fcons t ts) i j L h (inl e) l k = part-named t i j L.1.0 h.0 e l k
    parts-named (fcons t ts) i j L h (inr e) l k = parts-named ts (i + size t) j L.1.1 h.1 e l k
