-- The operators along a path through a wired program: their numbers, and that what they come to fits.
use native.Mathlib.Omega.{arith}
use mathlib.Core.Path.{◌≡◌, refl, sym, ap, ap₂, subst, ◌∙◌}
use mathlib.Core.List.{List}
use Prim.Native.Nat.{ℕ, ◌+◌, ◌*◌, ◌≤◌}
use lib.IntN.{nat_abs}
use lib.ListN.{length}
use Rattle.spec_calculus.specs.Syntax.{Monoid}
use Rattle.spec_calculus.specs.Value.{Tables}
use Rattle.spec_calculus.specs.Monoid.{start}
use Rattle.spec_normal_form.specs.Form.{Form}
use Rattle.spec_normal_form.specs.Bound.{Declared}
use Rattle.form_words.specs.NodeWord.{node_at}
use Rattle.form_words.specs.FormTree.{clause_of, form_tree}
use Rattle.base_syntax.proofs.Numbers.{monoid-back}
use Rattle.spec_plan.specs.Plan.{Source, table, unit}
use Rattle.spec_plan.specs.Operators.{source_rows}
use Rattle.plan_marks.specs.PlanIn.{monoid_by}
use Rattle.plan_machine.specs.Program.{Program, end_of}
use Rattle.plan_machine.specs.Program as Pr
use Rattle.plan_machine.specs.Machine.{zero_of}
use Rattle.plan_machine.specs.MachineWords.{Path, loop_p, in_p, past_p, before, pos, last, Valid}
use Rattle.plan_machine.specs.MachineWords as Fl
use Rattle.plan_machine.proofs.Moves.{last-is}
use Rattle.plan_links.specs.Spots.{Spots, end, loop, inner, loop_code, comp_of}
use Rattle.plan_links.specs.SpotWords.{fuel, SourceAt}
use Rattle.form_arith.specs.WordSorts.{as_word, sort_of, word_bound, merge_bound}
use Rattle.form_arith.proofs.ValueWords.{start_small}
use Rattle.base_signed.specs.Limit.{number_limit}
use Rattle.exec_simulation.specs.WiredProgram.{Wired}
use Rattle.exec_simulation.specs.RowReads.{head_at}
use Rattle.exec_simulation.specs.AccumulatorRoom.{takes_of, comp_at}
use Rattle.exec_simulation.specs.PathPlaces.{behind_first, inside, spots_at, back_at}
use Rattle.exec_simulation.proofs.PathWords.{as-loop, as-inner, wired-along, end-along, end-node}
use Rattle.exec_initial.specs.HeadBounds.{head_bound, bound_of, bound_at}
use Rattle.exec_initial.proofs.AccumulatorBounds.{rows_by, spot_takes, Smalls, CompFits, Fit}

module _ (s : List ℕ) (T : Tables) where
  source-rows : (c i : ℕ) (a : Source) → SourceAt s c i a → length (source_rows T a) ≡ rows_by T (clause_of (node_at s i))
  unfolding source_rows
  source-rows c i (table k) S = ap (λ n. rows_by T (clause_of n)) (sym S.node)
  source-rows c i unit S = ap (λ n. rows_by T (clause_of n)) (sym S.node)

  -- the rows that can come to a program's end, and its monoid, are those in the words
  takes-are : (b : ℕ) (x : Program) (y : Spots) → Wired s b x y → takes_of T x ≡ spot_takes s T y
  unfolding takes_of spot_takes comp_of
  takes-are b (Pr.end e) (end c) h = refl
  takes-are b (Pr.end e) (loop i p) h = absurd h
  takes-are b (Pr.end e) (inner a p) h = absurd h
  takes-are b (Pr.loop x t q) (end c) h = absurd h
  takes-are b (Pr.loop x t q) (loop i p) h = ap₂ ◌*◌ (source-rows (comp_of p) i x h.1.1.1.0.source) (takes-are (loop_code i) q p h.1.1.1.1)
  takes-are b (Pr.loop x t q) (inner a p) h = absurd h
  takes-are b (Pr.inner i q) (end c) h = absurd h
  takes-are b (Pr.inner i q) (loop j p) h = absurd h
  takes-are b (Pr.inner i q) (inner a p) h = takes-are b q p h.1.1.1

  monoid-is : (b : ℕ) (x : Program) (y : Spots) → Wired s b x y → monoid_by (node_at s (comp_of y)) ≡ (end_of x).monoid
  monoid-is b x y h = ap monoid_by (end-node s b x y h) ∙ monoid-back (end_of x).monoid

  -- what fits, behind the first operator and inside an inner comprehension
  fit-behind : (C : Declared) (y : Spots) → Fit C s T y → Fit C s T (behind_first y)
  fit-behind C (end c) h = h
  fit-behind C (loop i p) h = h
  fit-behind C (inner a p) h = h.1.1

  fit-inside : (C : Declared) (y : Spots) → y ≡ inner (inside y) (behind_first y) → Fit C s T y → CompFits C s T (inside y) × Fit C s T (inside y)
  fit-inside C y e h = let f : Fit C s T (inner (inside y) (behind_first y)) = subst (Fit C s T) e h in (f.0, f.1.0)

-- ---- along a path
module _ (C : Declared) (s : List ℕ) (T : Tables) (q : Program) (sp : Spots) (W : Wired s 1 q sp) (F : Fit C s T sp) where
  shape-in : (π : Path) (i p : Program) → Valid q π (Pr.inner i p) → spots_at sp π ≡ inner (inside (spots_at sp π)) (behind_first (spots_at sp π))
  shape-in π i p v = (as-inner s (back_at sp π) i p (spots_at sp π) (wired-along s q sp W π (Pr.inner i p) v)).shape

  fit_at : (π : Path) (x : Program) → Valid q π x → Fit C s T (spots_at sp π)
  unfolding spots_at
  fit_at Fl.start x v = F
  fit_at (loop_p π a t p) x v = fit-behind s T C (spots_at sp π) (fit_at π (Pr.loop a t p) v.1)
  fit_at (in_p π i p) x v = (fit-inside s T C (spots_at sp π) (shape-in π i p v.1) (fit_at π (Pr.inner i p) v.1)).1
  fit_at (past_p π i p) x v = fit-behind s T C (spots_at sp π) (fit_at π (Pr.inner i p) v.1)

  inner-fits : (π : Path) (i p : Program) → Valid q π (Pr.inner i p) → CompFits C s T (inside (spots_at sp π))
  inner-fits π i p v = (fit-inside s T C (spots_at sp π) (shape-in π i p v) (fit_at π (Pr.inner i p) v)).0

  -- ---- the end of the comprehension that control is in
  module _ (π : Path) (x : Program) (v : Valid q π x) where
    abbrev y : Spots
    y = spots_at sp π

    wired-here : Wired s (back_at sp π) x y
    wired-here = wired-along s q sp W π x v

    bound_is : bound_at C s sp (pos π + before x) ≡ head_bound C s (comp_of y)
    bound_is = ap (bound_of C s) (end-along s q sp W π x v)

    zero-here : nat_abs (as_word (sort_of (end_of x).monoid) (zero_of x)) ≤ merge_bound (end_of x).monoid 0 (bound_at C s sp (pos π + before x))
    unfolding zero_of
    zero-here =
        let m = (end_of x).monoid in
        let h : Form = form_tree fuel s (head_at s (comp_of y)) in
        subst (λ (b : ℕ). nat_abs (as_word (sort_of m) (start m)) ≤ merge_bound m 0 b) (ap (λ (n : Monoid). word_bound C (sort_of n) h) (sym (monoid-is s T (back_at sp π) x y wired-here)) ∙ sym bound_is) (start_small C m h)

    -- what its heads come to is within b, where the words say so
    module _ (b : Monoid → ℕ) (h : merge_bound (monoid_by (node_at s (comp_of y))) (spot_takes s T y) (head_bound C s (comp_of y)) ≤ b (monoid_by (node_at s (comp_of y)))) where
      heads-here : merge_bound (end_of x).monoid (takes_of T x) (bound_at C s sp (pos π + before x)) ≤ b (end_of x).monoid
      heads-here =
          subst (λ (n : ℕ). merge_bound (end_of x).monoid (takes_of T x) n ≤ b (end_of x).monoid) (sym bound_is)
          (subst (λ (n : ℕ). merge_bound (end_of x).monoid n (head_bound C s (comp_of y)) ≤ b (end_of x).monoid) (sym (takes-are s T (back_at sp π) x y wired-here))
          (subst (λ (m : Monoid). merge_bound m (spot_takes s T y) (head_bound C s (comp_of y)) ≤ b m) (monoid-is s T (back_at sp π) x y wired-here) h))

  -- A comprehension begins within its bound.
  pub zero-at : (π : Path) (x : Program) → Valid q π x → nat_abs (as_word (sort_of (end_of x).monoid) (zero_of x)) ≤ merge_bound (end_of x).monoid 0 (bound_at C s sp (last q π))
  zero-at π x v = subst (λ (n : ℕ). nat_abs (as_word (sort_of (end_of x).monoid) (zero_of x)) ≤ merge_bound (end_of x).monoid 0 (bound_at C s sp n)) (last-is T q π x v) (zero-here π x v)

  -- All rows that can come to a comprehension leave it within its own bound.
  pub own_at : (π : Path) (i p : Program) → Valid q π (Pr.inner i p)
      → merge_bound (end_of i).monoid (takes_of T i) (bound_at C s sp (pos π + before i)) ≤ word_bound C (sort_of (end_of i).monoid) (form_tree fuel s (comp_of (inside (spots_at sp π))))
  unfolding pos spots_at
  own_at π i p v = heads-here (in_p π i p) i (refl, v) (λ m. word_bound C (sort_of m) (form_tree fuel s (comp_of (inside (spots_at sp π))))) (inner-fits π i p v).own

  -- All rows that can come to an open comprehension leave it within 2^62.
  pub fits-at : CompFits C s T sp → (π : Path) (x : Program) → Valid q π x → merge_bound (end_of (comp_at q π)).monoid (takes_of T (comp_at q π)) (bound_at C s sp (last q π)) ≤ number_limit
  unfolding comp_at last pos spots_at
  fits-at X Fl.start x v = subst (λ (n : ℕ). merge_bound (end_of q).monoid (takes_of T q) (bound_at C s sp n) ≤ number_limit) (omega arith) (heads-here Fl.start q refl (λ m. number_limit) X.total)
  fits-at X (loop_p π a t p) x v = fits-at X π (Pr.loop a t p) v.1
  fits-at X (in_p π i p) x v = heads-here (in_p π i p) i (refl, v.1) (λ m. number_limit) (inner-fits π i p v.1).total
  fits-at X (past_p π i p) x v = fits-at X π (Pr.inner i p) v.1

  -- The bound of an open comprehension is that of its head.
  pub bound-at : (π : Path) (x : Program) → Valid q π x → word_bound C (sort_of (end_of x).monoid) (form_tree fuel s (head_at s (comp_of (spots_at sp π)))) ≡ bound_at C s sp (last q π)
  bound-at π x v = ap (λ (m : Monoid). word_bound C (sort_of m) (form_tree fuel s (head_at s (comp_of (spots_at sp π))))) (sym (monoid-is s T (back_at sp π) x (spots_at sp π) (wired-here π x v)))
      ∙ sym (bound_is π x v) ∙ ap (bound_at C s sp) (last-is T q π x v)

  -- The numbers in its conditions and in its head are small.
  pub smalls-at : CompFits C s T sp → (π : Path) (x : Program) → Valid q π x → Smalls C s (comp_of (spots_at sp π))
  unfolding spots_at comp_of
  smalls-at X Fl.start x v = X.smalls
  smalls-at X (loop_p π a t p) x v = subst (Smalls C s) (ap comp_of (as-loop s (back_at sp π) a t p (spots_at sp π) (wired-here π (Pr.loop a t p) v.1)).shape) (smalls-at X π (Pr.loop a t p) v.1)
  smalls-at X (in_p π i p) x v = (inner-fits π i p v.1).smalls
  smalls-at X (past_p π i p) x v = subst (Smalls C s) (ap comp_of (shape-in π i p v.1)) (smalls-at X π (Pr.inner i p) v.1)
