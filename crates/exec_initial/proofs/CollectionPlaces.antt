-- In marked words the places of a head's collections stand behind those of its comprehension's loops, in the order of the parts.
use native.Mathlib.Omega.{arith}
use mathlib.Core.Path.{◌≡◌, refl, sym, ap, subst, ◌∙◌}
use mathlib.Core.Logic.{inl, inr}
use mathlib.Core.Bool.{false, ◌||◌}
use mathlib.Core.List.{List, [], ◌∷◌, ◌++◌}
use Prim.Native.Nat.{ℕ, suc, ◌+◌, ◌≤◌}
use lib.ListN.{length}
use Rattle.spec_calculus.specs.Syntax.{Monoid}
use Rattle.spec_encoding.specs.Record.{Bytes}
use Rattle.spec_normal_form.specs.Form.{Form, Forms, Clauses, NormalForm, as_form, num, truth, row, cell, rec, bin, negate, app, comp, fnil, fcons, done, gen, cond}
use Rattle.base_scratch.specs.Map.{form_words}
use Rattle.form_words.specs.NodeWord.{next, node_at}
use Rattle.form_words.specs.FormTree.{form_tree}
use Rattle.form_words.specs.FormWords.{size, size_f, size_c}
use Rattle.form_words.proofs.ReadBack.{size-some}
use Rattle.base_signed.proofs.SignedWords.{by-test}
use Rattle.spec_plan.specs.Plan.{PTerm}
use Rattle.spec_plan.specs.Planner as P
use Rattle.answer_writer.specs.Shapes.{shape_of}
use Rattle.plan_marks.specs.Marks.{mark_at}
use Rattle.plan_marks.specs.PlanIn.{term_in}
use Rattle.plan_marks.proofs.FormInWords.{Lies, LiesF, LiesC}
use Rattle.plan_marks.proofs.FormMarks.{registers_of, behind, next_c, Marked, MarkedF, MarkedC, next_up, next_c-up, registers-most, behind-is}
use Rattle.plan_marks.proofs.MarksArePlaces.{slots_by}
use Rattle.plan_marks.proofs.WordsArePlan.{term-read}
use Rattle.plan_machine.specs.Program.{Program}
use Rattle.plan_machine.specs.Program as Pr
use Rattle.plan_machine.specs.MachineWords.{Path, start, loop_p, in_p, past_p, Valid}
use Rattle.plan_machine.specs.AnswerText.{parts, among, width}
use Rattle.plan_machine.proofs.HeadOrder.{among-append}
use Rattle.plan_links.specs.Spots.{Spots, end, comp_of, loops_at, gens_at, or_unit, inners, inners_f, inners_c, spots_of}
use Rattle.plan_links.specs.SpotWords.{fuel}
use Rattle.plan_links.proofs.FormLinks.{comp-inners, comp-inners_f, comp-inners_c}
use Rattle.exec_terms.proofs.FormAgreement.{tree_is, head-node}
use Rattle.exec_terms.proofs.PartsText.{parts_in}
use Rattle.exec_terms.proofs.HeadParts.{parts-end, head-parts}
use Rattle.exec_terms.proofs.PartsBefore.{PartAt, PartAtF, parts_within}
use Rattle.exec_terms.proofs.PartsSettled.{Between, add_parts, into-parts}
use Rattle.exec_simulation.specs.RowReads.{head_at}
use Rattle.exec_simulation.specs.PathPlaces.{behind_first, spots_at, back_at}
use Rattle.exec_simulation.specs.SimulationRelation.{LinkedPlan}
use Rattle.exec_simulation.proofs.PathWords.{as-loop, as-end, as-inner, wired-at}
use Rattle.exec_initial.specs.WrittenHeads.{Collected, head_form, Later, LaterOf, Based, basis}
use Rattle.exec_initial.proofs.TopComprehensions.{part-top, parts-top, top-range, tops-range}
use Rattle.exec_initial.proofs.HeadParts.{found}
use Rattle.exec_initial.proofs.LoopPlaces.{own-count}
use Rattle.exec_initial.proofs.CollectionNodes.{collection-at}

-- the parts before node j, none of which is place n
record Without (s : List ℕ) (n i j : ℕ) : Type 0 where
  list : List PTerm
  none : among n list ≡ false
  are : Between s i j list

module _ (s : List ℕ) (c : ℕ → ℕ) where
  -- a form's own places end before n
  whole-without : (t : Form) (i k n : ℕ) → Lies s i t → Marked s i t c k → ((g : ℕ) → c g ≤ k) → i + size t ≤ form_words → P.next t k ≤ n → among n (parts (term_in fuel s i)) ≡ false
  whole-without t i k n L w b l h =
      let e : term_in fuel s i ≡ P.term t (slots_by c) k = term-read s t fuel i c k L w (omega (arith, l)) in
      ap (λ y. among n (parts y)) e ∙ by-test (among n (parts (P.term t (slots_by c) k)))
      (λ y. let f = found s c n (λ g. omega (arith, b g, next_up t k, h)) t i k w y in absurd (omega (arith, h, f.mark, (top-range s c t i k f.node w f.top).1)))
      (λ y. y)

  here : (i j n : ℕ) → j ≡ i → Without s n i j
  unfolding among
  here i j n e = record { list = []; none = refl; are = λ f p. ap (parts_in f s i) e ∙ parts-end s f i }

  mutual
    unfolding size P.next

    without : (t : Form) (i k j n : ℕ) → Lies s i t → Marked s i t c k → ((g : ℕ) → c g ≤ k) → i + size t ≤ form_words → PartAt i t j → Collected s j → mark_at s j ≡ suc n → Without s n i j
    without (num z) i k j n L w b l h x m = here i j n h
    without (truth z) i k j n L w b l h x m = here i j n h
    without (row g) i k j n L w b l h x m = here i j n h
    without (cell y g) i k j n L w b l h x m = here i j n h
    without (rec ts) i k j n L w b l h x m =
        let W = withouts ts (i + 1) k j n L.1 w b (omega (arith, l)) h x m in
        let r = parts_within ts (i + 1) j h in
        record { list = W.list; none = W.none; are = into-parts s fuel (omega arith) i j (i + 1 + size_f ts) W.list (ap shape_of L.0) (omega (arith, r.0)) (omega (arith, r.1, l)) W.are }
    without (app f ts) i k j n L w b l h x m = here i j n h
    without (bin o t u) i k j n L w b l h x m = here i j n h
    without (negate t) i k j n L w b l h x m = here i j n h
    without (comp o q u) i k j n L w b l h x m = here i j n h

    withouts : (ts : Forms) (i k j n : ℕ) → LiesF s i ts → MarkedF s i ts c k → ((g : ℕ) → c g ≤ k) → i + size_f ts ≤ form_words → PartAtF i ts j → Collected s j → mark_at s j ≡ suc n → Without s n i j
    withouts fnil i k j n L w b l h x m = absurd h
    withouts (fcons t ts) i k j n L w b l (inl h) x m = without t i k j n L.1.0 w.0 b (omega (arith, l)) h x m
    withouts (fcons t ts) i k j n L w b l (inr h) x m =
        let W = withouts ts (i + size t) (P.next t k) j n L.1.1 w.1 (λ g. omega (arith, b g, next_up t k)) (omega (arith, l)) h x m in
        let r = parts_within ts (i + size t) j h in
        let y = (tops-range s c ts (i + size t) (P.next t k) j w.1 (parts-top s j (collection-at (node_at s j) x).node ts (i + size t) L.1.1 h)).0 in
        let us : List PTerm = parts (term_in fuel s i) in
        record {
          list = us ++ W.list;
          none = among-append n us W.list ∙ ap (λ z. z || among n W.list) (whole-without t i k n L.1.0 w.0 b (omega (arith, l)) (omega (arith, y, m))) ∙ W.none;
          are = add_parts s fuel (omega arith) t i j us W.list L.1.0 L.0 r.0 (omega (arith, r.1, l)) (λ f p. head-parts s t i f fuel L.1.0 L.0 (omega (arith, l)) p (omega arith)) W.are;
        }

-- ---- the comprehension at i, planned at width k
module _ (s : List ℕ) where
  later-comp : (m : Monoid) (q : Clauses) (u : Form) (i k : ℕ) (c : ℕ → ℕ) → Lies s i (comp m q u) → Marked s i (comp m q u) c k → ((g : ℕ) → c g ≤ k) → i + size (comp m q u) ≤ form_words → LaterOf s i (behind q k)
  unfolding size
  later-comp m q u i k c L w b l =
      let h : ℕ = i + 1 + size_c q in
      let e : head_at s i ≡ h = head-node s q (i + 1) fuel h L.1.0 refl L.1.1.0 (omega (arith, l, size-some u)) (omega arith) in
      let f : head_form s i ≡ u = ap (form_tree fuel s) e ∙ tree_is s u h fuel L.1.1.1 (omega (arith, l)) (omega arith) in
      let d : (g : ℕ) → registers_of q k c g ≤ next_c q (behind q k) = λ g. omega (arith, registers-most q k c b g, (behind-is q k).0, next_c-up q (behind q k)) in
      subst (λ (y : Form). Later s (head_at s i) y (behind q k)) (sym f) (subst (λ (y : ℕ). Later s y u (behind q k)) (sym e) (record {
        above = λ j y x. omega (arith, next_c-up q (behind q k), (top-range s (registers_of q k c) u h (next_c q (behind q k)) j w.1.1.1 (part-top s j (collection-at (node_at s j) x).node u h L.1.1.1 y)).0);
        fresh = λ j n y x z. let W = without s (registers_of q k c) u h (next_c q (behind q k)) j n L.1.1.1 w.1.1.1 d (omega (arith, l)) y x z in ap (among n) (W.are fuel (omega arith)) ∙ W.none;
      }))

  loops-based : (l : List ℕ) (k : ℕ) (p : Spots) → Based s (k + length l) (k + length l) p → Based s k k (loops_at l p)
  unfolding loops_at
  loops-based [] k p h = subst (λ (y : ℕ). Based s y y p) (omega arith) h
  loops-based (i ∷ l) k p h = loops-based l (suc k) p (subst (λ (y : ℕ). Based s y y p) (omega arith) h)

  later_same : (c e b : ℕ) → e ≡ c → LaterOf s c b → LaterOf s e b
  later_same c e b h L = subst (λ (y : ℕ). LaterOf s y b) (sym h) L

  mutual
    unfolding size inners spots_of comp_of P.next next_c

    term-based : (t : Form) (i k b : ℕ) (c : ℕ → ℕ) (p : Spots) → Lies s i t → Marked s i t c k → ((g : ℕ) → c g ≤ k) → i + size t ≤ form_words → LaterOf s (comp_of p) b → Based s b (P.next t k) p → Based s b k (inners t i p)
    term-based (num z) i k b c p L w d l h B = B
    term-based (truth z) i k b c p L w d l h B = B
    term-based (row g) i k b c p L w d l h B = B
    term-based (cell x g) i k b c p L w d l h B = B
    term-based (rec ts) i k b c p L w d l h B = terms-based ts (i + 1) k b c p L.1 w d (omega (arith, l)) h B
    term-based (app f ts) i k b c p L w d l h B = terms-based ts (i + 1) k b c p L.1 w d (omega (arith, l)) h B
    term-based (bin o t u) i k b c p L w d l h B =
        term-based t (i + 1) k b c (inners u (i + 1 + size t) p) L.1.0 w.0 d (omega (arith, l)) (later_same (comp_of p) (comp_of (inners u (i + 1 + size t) p)) b (comp-inners u (i + 1 + size t) p) h)
        (term-based u (i + 1 + size t) (P.next t k) b c p L.1.1 w.1 (λ g. omega (arith, d g, next_up t k)) (omega (arith, l)) h B)
    term-based (negate t) i k b c p L w d l h B = term-based t (i + 1) k b c p L.1 w d (omega (arith, l)) h B
    term-based (comp m q u) i k b c p L w d l h B =
        let n : ℕ = behind q k in
        let s₁ : (g : ℕ) → registers_of q k c g ≤ n = λ g. omega (arith, registers-most q k c d g, (behind-is q k).0) in
        let own : LaterOf s i n = later-comp m q u i k c L w d l in
        let e : Spots = inners u (i + 1 + size_c q) (end i) in
        let x : Based s n n (inners_c q (i + 1) e) = clauses-based q (i + 1) k n n (registers_of q k c) e L.1.0 w.1.1.0 s₁ (omega (arith, l)) (later_same i (comp_of e) n (comp-inners u (i + 1 + size_c q) (end i)) own)
        (term-based u (i + 1 + size_c q) (next_c q n) n (registers_of q k c) (end i) L.1.1.1 w.1.1.1 (λ g. omega (arith, s₁ g, next_c-up q n)) (omega (arith, l)) own own) in
        (h, (loops-based (or_unit i (gens_at q (i + 1))) k (inners_c q (i + 1) e) (subst (λ (y : ℕ). Based s y y (inners_c q (i + 1) e)) (sym (own-count q i (i + 1) k)) x), B))

    terms-based : (ts : Forms) (i k b : ℕ) (c : ℕ → ℕ) (p : Spots) → LiesF s i ts → MarkedF s i ts c k → ((g : ℕ) → c g ≤ k) → i + size_f ts ≤ form_words → LaterOf s (comp_of p) b → Based s b (P.nexts ts k) p → Based s b k (inners_f ts i p)
    terms-based fnil i k b c p L w d l h B = B
    terms-based (fcons t ts) i k b c p L w d l h B =
        term-based t i k b c (inners_f ts (i + size t) p) L.1.0 w.0 d (omega (arith, l)) (later_same (comp_of p) (comp_of (inners_f ts (i + size t) p)) b (comp-inners_f ts (i + size t) p) h)
        (terms-based ts (i + size t) (P.next t k) b c p L.1.1 w.1 (λ g. omega (arith, d g, next_up t k)) (omega (arith, l)) h B)

    clauses-based : (q : Clauses) (i n k b : ℕ) (c : ℕ → ℕ) (p : Spots) → LiesC s i q → MarkedC s i q c n k → ((g : ℕ) → c g ≤ k) → i + size_c q ≤ form_words → LaterOf s (comp_of p) b → Based s b (next_c q k) p → Based s b k (inners_c q i p)
    clauses-based done i n k b c p L w d l h B = B
    clauses-based (gen x y q) i n k b c p L w d l h B = clauses-based q (i + 1) n k b c p L.1.1 w d (omega (arith, l)) h B
    clauses-based (cond t q) i n k b c p L w d l h B =
        term-based t (i + 1) k b c (inners_c q (i + 1 + size t) p) L.1.0 w.1.0 d (omega (arith, l)) (later_same (comp_of p) (comp_of (inners_c q (i + 1 + size t) p)) b (comp-inners_c q (i + 1 + size t) p) h)
        (clauses-based q (i + 1 + size t) n (P.next t k) b c p L.1.1 w.1.1 (λ g. omega (arith, d g, next_up t k)) (omega (arith, l)) h B)

  -- all of a question's normal form
  pub form-based : (f : NormalForm) → Lies s 0 (as_form f) → Marked s 0 (as_form f) (λ g. 0) 0 → size (as_form f) ≤ form_words → Based s 0 0 (spots_of f.clauses f.head 0)
  unfolding inners spots_of comp_of
  form-based f L w n =
      let own : LaterOf s 0 (behind f.clauses 0) = later-comp f.monoid f.clauses f.head 0 0 (λ g. 0) L w (λ g. omega arith) (omega (arith, n)) in
      (term-based (as_form f) 0 0 (behind f.clauses 0) (λ g. 0) (end 0) L w (λ g. omega arith) (omega (arith, n)) own own).1.0

-- ---- along a path
module _ {d : Bytes} (Q : LinkedPlan d) (s : List ℕ) (B : Based s 0 0 Q.spots) where
  abbrev sp : Spots
  sp = Q.spots

  based-at : (π : Path) (x : Program) → Valid Q.program π x → Based s (basis π) (width π) (spots_at sp π)
  unfolding basis width spots_at
  based-at start x v = B
  based-at (loop_p π a t p) x v = subst (Based s (basis π) (width π)) (as-loop Q.base (back_at sp π) a t p (spots_at sp π) (wired-at Q π (Pr.loop a t p) v.1)).shape (based-at π (Pr.loop a t p) v.1)
  based-at (in_p π i p) x v = (subst (Based s (basis π) (width π)) (as-inner Q.base (back_at sp π) i p (spots_at sp π) (wired-at Q π (Pr.inner i p) v.1)).shape (based-at π (Pr.inner i p) v.1)).1.0
  based-at (past_p π i p) x v = (subst (Based s (basis π) (width π)) (as-inner Q.base (back_at sp π) i p (spots_at sp π) (wired-at Q π (Pr.inner i p) v.1)).shape (based-at π (Pr.inner i p) v.1)).1.1

  -- The collections of the head of the comprehension that control is in have places behind its loops' places.
  pub later-end : (π : Path) (e : Pr.End) → Valid Q.program π (Pr.end e) → LaterOf s (comp_of (spots_at sp π)) (basis π)
  later-end π e v = subst (Based s (basis π) (width π)) (as-end Q.base (back_at sp π) e (spots_at sp π) (wired-at Q π (Pr.end e) v)).shape (based-at π (Pr.end e) v)

  pub later-inner : (π : Path) (i p : Program) → Valid Q.program π (Pr.inner i p) → LaterOf s (comp_of (spots_at sp π)) (basis π)
  unfolding comp_of
  later-inner π i p v =
      let y = (as-inner Q.base (back_at sp π) i p (spots_at sp π) (wired-at Q π (Pr.inner i p) v)).shape in
      later_same s (comp_of (behind_first (spots_at sp π))) (comp_of (spots_at sp π)) (basis π) (ap comp_of y) (subst (Based s (basis π) (width π)) y (based-at π (Pr.inner i p) v)).0
