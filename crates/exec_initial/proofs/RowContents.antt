-- Where every loop on the way has offered a row, each place of the row at a path holds what the words say.
use native.Mathlib.Omega.{arith}
use native.Mathlib.Nat.{le_trans}
use mathlib.Core.Path.{◌≡◌, refl, sym, ap, subst, ◌∙◌}
use mathlib.Core.Bool.{false, false≢true}
use mathlib.Core.List.{List, [], ◌∷◌, ◌++◌}
use Prim.Native.Nat.{ℕ, zero, suc, ◌+◌, ◌-◌, ◌≤◌, ◌<◌}
use borrow.Author.Tests.{ltb-true, ltb-false}
use lib.Dec.{ltb}
use lib.IntN.{ℤ, nat_abs}
use lib.ListN.{length, get_or, length-append, get_or-append}
use lib.Seq.{get_or_at}
use Rattle.spec_calculus.specs.Syntax as Sy
use Rattle.spec_calculus.specs.Syntax.{Monoid, of, sum, max, some, all}
use Rattle.spec_calculus.specs.Value.{Value, Tables, junk, as_int, rows_of}
use Rattle.spec_calculus.specs.Monoid.{finish}
use Rattle.base_syntax.specs.MonoidWord.{finish_word}
use Rattle.spec_encoding.specs.Record.{Bytes}
use Rattle.spec_normal_form.specs.Form.{Form}
use Rattle.spec_normal_form.specs.Bound.{Declared}
use Rattle.form_words.specs.declared.FormNode.TheVariants as N
use Rattle.form_words.specs.declared.Clause.TheVariants as Cl
use Rattle.form_words.specs.NodeWord.{node_at}
use Rattle.form_words.specs.FormTree.{clause_of, form_tree}
use Rattle.base_syntax.proofs.Numbers.{monoid-back}
use Rattle.base_signed.proofs.SignedWords.{by-test}
use Rattle.spec_plan.specs.Plan.{PTerm, Source, table, unit}
use Rattle.spec_plan.specs.Operators.{Place, val, Row, value_of, at, source_rows, numbered}
use Rattle.spec_plan.proofs.StreamRows.{at_before, at_here}
use Rattle.plan_marks.specs.PlanIn.{monoid_by}
use Rattle.plan_machine.specs.Program.{Program, end_of}
use Rattle.plan_machine.specs.Program as Pr
use Rattle.plan_machine.specs.Machine.{value_from, rows_for}
use Rattle.plan_machine.specs.MachineWords.{Words, Path, start, loop_p, in_p, past_p, before, pos, Valid, last, here, row, Begun}
use Rattle.plan_machine.specs.AnswerText.{collects}
use Rattle.plan_machine.proofs.CollectionSpans.{Spans}
use Rattle.plan_machine.proofs.TextOverMoves.{row-width}
use Rattle.plan_links.specs.Spots.{Spots, comp_of}
use Rattle.plan_links.specs.SpotWords.{fuel, SourceAt}
use Rattle.base_scratch.specs.Map.{env_at}
use Rattle.form_env.specs.Environment.{rows_at, row_word, row_of, env_of, tables_in}
use Rattle.form_env.proofs.BoundRows.{slot-in, row_word_lem}
use Rattle.form_env.proofs.SameForm.{node-same, form-same}
use Rattle.form_arith.specs.WordSorts.{as_word, sort_of, word_bound, merge_bound}
use Rattle.form_arith.proofs.ValueWords.{small-fits, finish-word}
use Rattle.exec_terms.specs.KeptWord.{acc_of}
use Rattle.exec_terms.specs.PlanColumns.{plan_declared}
use Rattle.exec_terms.specs.Agreement as Ag
use Rattle.base_signed.specs.Limit.{number_limit}
use Rattle.exec_state.specs.StateWords.{Total, offered_at, total_in}
use Rattle.exec_simulation.specs.PathPlaces.{inside, loop_node, spots_at, back_at}
use Rattle.exec_simulation.specs.AccumulatorRoom.{takes_of, AccumulatorRoom, comp_at}
use Rattle.exec_simulation.specs.SimulationRelation.{LinkedPlan, SaysEnd, SaysRow, SaysAt, Stands}
use Rattle.exec_simulation.specs.WiredProgram.{Id, loop_i, end_i, ids, id_at}
use Rattle.exec_simulation.proofs.TakeMoves.{kept-total}
use Rattle.exec_simulation.proofs.OperatorWrites.{declared-kept}
use Rattle.exec_simulation.proofs.PathWords.{as-loop, wired-at, number-low, loop-id, end-id, comp-node}
use Rattle.exec_initial.specs.PlaceFillers.{fillers, filler_at}
use Rattle.exec_initial.specs.PlaceContents.{HoldsBy, Holding}
use Rattle.exec_initial.proofs.PathFillers.{fillers-width}

-- ---- one place more
module _ (d : Bytes) (p : Spots) (s : List ℕ) (w : Words) where
  one_more : (F : List Id) (r : Row) (x : Id) (v : Place) → length F ≡ length r → Holding d p s w F r → HoldsBy d p s w x (value_of v) → Holding d p s w (F ++ x ∷ []) (r ++ v ∷ [])
  one_more F r x v e H h n l = by-test (ltb n (length F))
      (λ t. let z = ltb-true n (length F) t in
      subst (λ (y : Id). HoldsBy d p s w y (value_of (at n (r ++ v ∷ [])))) (sym (get_or-append F (x ∷ []) (end_i 0) n z))
      (subst (λ (y : Place). HoldsBy d p s w (filler_at F n) (value_of y)) (sym (at_before n r (v ∷ []) (omega (arith, z, e)))) (H n z)))
      (λ t. let z : length F ≡ n = omega (arith, l, length-append F (x ∷ []), ltb-false n (length F) t) in
      subst (λ (y : Id). HoldsBy d p s w y (value_of (at n (r ++ v ∷ [])))) (sym (get_or_at F x [] (end_i 0) n z))
      (subst (λ (y : Place). HoldsBy d p s w x (value_of y)) (sym (at_here n r v [] (sym e ∙ z))) h))

-- ---- a table row
value-numbered : (n k : ℕ) (l : List Value) → value_of (at n (numbered k l)) ≡ get_or l n junk
unfolding at numbered value_of
value-numbered n k [] = refl
value-numbered zero k (v ∷ l) = refl
value-numbered (suc n) k (v ∷ l) = value-numbered n (suc k) l

row_at : (T : Tables) (s : List ℕ) (g k n : ℕ) → g < 1024 → n < 2048 → get_or s (env_at + g) 0 ≡ row_word (k + 1) n → get_or (rows_of T k) n junk ≡ env_of T s g
unfolding env_of rows_at
row_at T s g k n l z e =
    let u : suc k ≡ k + 1 = omega arith in
    sym (ap (row_of T) (sym (slot-in s l refl) ∙ e) ∙ row_word_lem T (k + 1) n z ∙ ap (λ (j : ℕ). get_or (rows_at T j) n junk) (sym u))

offered-few : (s : List ℕ) (i : ℕ) {g k : ℕ} → clause_of (node_at s i) ≡ Cl.Generator g k → offered_at s i ≤ 2047
unfolding offered_at
offered-few s i e = rw e (omega arith)

-- ---- a comprehension's value
finish-reads : (m : Monoid) (a : Value) → as_word (sort_of m) (finish m a) ≡ as_word (sort_of m) a
unfolding finish as_int
finish-reads (of c) a = refl
finish-reads sum a = refl
finish-reads max a = refl
finish-reads Sy.min a = refl
finish-reads some a = refl
finish-reads all a = refl

total-is : (m : Monoid) (s : List ℕ) (c : ℕ) → collects m ≡ false → total_in s c ≡ acc_of s c (sort_of m)
unfolding collects
total-is (of x) s c e = absurd (false≢true (sym e))
total-is sum s c e = refl
total-is max s c e = refl
total-is Sy.min s c e = refl
total-is some s c e = refl
total-is all s c e = refl

module _ {d : Bytes} (Q : LinkedPlan d) (s : List ℕ) (w : Words) (r : Spans) (S : Stands Q s w r) where
  abbrev sp : Spots
  sp = Q.spots

  abbrev T : Tables
  T = tables_in d

  source_is : (c i : ℕ) (a : Source) (g k : ℕ) → SourceAt Q.base c i a → node_at Q.base i ≡ N.Generator g k → source_rows T a ≡ rows_of T k
  unfolding source_rows
  source_is c i (table x) g k A e = let z : x ≡ k = cc (sym A.node ∙ e) in ap (rows_of T) z
  source_is c i unit g k A e = cc (sym A.node ∙ e)

  module _ (π : Path) (a : Source) (t : PTerm) (p : Program) (v : Valid Q.program π (Pr.loop a t p)) (b : 1 ≤ w.cur (pos π)) where
    loop-says : SaysAt s w r (pos π) (loop_i (loop_node (spots_at sp π)))
    loop-says = subst (SaysAt s w r (pos π)) (loop-id Q π a t p v) (S.says (pos π) (omega (arith, number-low Q π (Pr.loop a t p) v)))

    loop-holds : HoldsBy d sp s w (loop_i (loop_node (spots_at sp π))) (value_of (at (w.cur (pos π) - 1) (rows_for T a)))
    unfolding rows_for
    loop-holds g k e =
        let i : ℕ = loop_node (spots_at sp π) in
        let u : node_at Q.base i ≡ N.Generator g k = sym (node-same s Q.base S.kept.form i) ∙ e in
        let c : clause_of (node_at s i) ≡ Cl.Generator g k = ap clause_of e in
        let A = (as-loop Q.base (back_at sp π) a t p (spots_at sp π) (wired-at Q π (Pr.loop a t p) v)).is.source in
        let n : w.cur (pos π) ≤ 2047 = subst (λ (x : ℕ). x ≤ 2047) (sym loop-says.0) (offered-few s i c) in
        value-numbered (w.cur (pos π) - 1) 0 (source_rows T a) ∙ ap (λ l. get_or l (w.cur (pos π) - 1) junk) (source_is (comp_of (spots_at sp π)) i a g k A u)
        ∙ row_at T s g k (w.cur (pos π) - 1) (omega (arith, Q.apart.few (pos π) i g k (loop-id Q π a t p v) (ap clause_of u))) (omega (arith, n)) (subst (λ x. SaysRow x s (w.cur (pos π))) c loop-says.1 b)

  -- own: what can come to an inner comprehension is within its bound
  module _ (own : (π : Path) (i p : Program) → Valid Q.program π (Pr.inner i p)
      → merge_bound (end_of i).monoid (takes_of T i) (Q.bound (pos π + before i)) ≤ word_bound (plan_declared d Q.base) (sort_of (end_of i).monoid) (form_tree fuel Q.base (comp_of (inside (spots_at sp π))))) where
    module _ (π : Path) (i p : Program) (v : Valid Q.program π (Pr.inner i p)) (room : nat_abs (as_word (sort_of (end_of i).monoid) (w.acc (pos π + before i))) ≤ merge_bound (end_of i).monoid (takes_of T i) (Q.bound (pos π + before i))) where
      abbrev c : ℕ
      c = comp_of (inside (spots_at sp π))

      abbrev o : ℕ
      o = pos π + before i

      monoid-is : monoid_by (node_at s c) ≡ (end_of i).monoid
      unfolding spots_at
      monoid-is = ap monoid_by (node-same s Q.base S.kept.form c ∙ comp-node Q (in_p π i p) i (refl, v)) ∙ monoid-back (end_of i).monoid

      nest-id : id_at sp o ≡ end_i c
      unfolding spots_at pos
      nest-id = end-id Q (in_p π i p) i (refl, v)

      nest-low : o < length (ids sp)
      unfolding pos
      nest-low = number-low Q (in_p π i p) i (refl, v)

      nest-says : SaysEnd (monoid_by (node_at s c)) s w r o c
      nest-says = subst (SaysAt s w r o) nest-id (S.says o nest-low)

      nest-bound : nat_abs (as_word (sort_of (monoid_by (node_at s c))) (w.acc o)) ≤ word_bound (plan_declared d s) (sort_of (monoid_by (node_at s c))) (form_tree fuel s c)
      nest-bound = subst (λ (m : Monoid). nat_abs (as_word (sort_of m) (w.acc o)) ≤ word_bound (plan_declared d s) (sort_of m) (form_tree fuel s c)) (sym monoid-is)
          (subst (λ (t : Form). nat_abs (as_word (sort_of (end_of i).monoid) (w.acc o)) ≤ word_bound (plan_declared d s) (sort_of (end_of i).monoid) t) (sym (form-same s Q.base S.kept.form fuel c))
          (subst (λ (C : Declared). nat_abs (as_word (sort_of (end_of i).monoid) (w.acc o)) ≤ word_bound C (sort_of (end_of i).monoid) (form_tree fuel Q.base c)) (sym (declared-kept Q S.kept)) (le_trans room (own π i p v))))

      -- within 2^62 too
      nest-small : nat_abs (as_word (sort_of (monoid_by (node_at s c))) (w.acc o)) ≤ number_limit
      unfolding comp_at last
      nest-small = subst (λ (m : Monoid). nat_abs (as_word (sort_of m) (w.acc o)) ≤ number_limit) (sym monoid-is) (le_trans room (Q.fits (in_p π i p) i (refl, v)))

      nest_kept : collects (monoid_by (node_at s c)) ≡ false → Ag.KeptTotal d s c (monoid_by (node_at s c)) (form_tree fuel s c) (finish (monoid_by (node_at s c)) (w.acc o))
      nest_kept e =
          let m = monoid_by (node_at s c) in
          let z = (nest-says.0 e).1 ∙ total-is m s c e in
          record {
            made = (nest-says.0 e).0;
            is = sym (finish-word m (w.acc o) (small-fits m (w.acc o) nest-small)) ∙ ap (finish_word m) z;
            small = subst (λ (x : ℤ). nat_abs x ≤ word_bound (plan_declared d s) (sort_of m) (form_tree fuel s c)) (sym (finish-reads m (w.acc o))) nest-bound;
            so_far = subst Total z (kept-total m (w.acc o) nest-small);
          }

      nest_holds : HoldsBy d sp s w (end_i c) (value_of (val (value_from i (w.acc o))))
      unfolding value_of
      nest_holds = subst (HoldsBy d sp s w (end_i c)) (ap (λ (m : Monoid). finish m (w.acc o)) monoid-is) (record { number = o; low = nest-low; id = nest-id; is = refl; kept = nest_kept })

    -- Every place of the row at a path.
    pub holding : (π : Path) (x : Program) (k : ℕ) → Valid Q.program π x → Begun w π → AccumulatorRoom T Q.bound Q.program w π k → Holding d sp s w (fillers sp π) (row T w π)
    unfolding fillers row here
    holding start x k v b R = λ n l. absurd (omega (arith, l))
    holding (loop_p π a t p) x k v b R = one_more d sp s w (fillers sp π) (row T w π) (loop_i (loop_node (spots_at sp π))) (at (w.cur (pos π) - 1) (rows_for T a)) (fillers-width sp π ∙ sym (row-width T w π))
        (holding π (Pr.loop a t p) _ v.1 b.1 R) (loop-holds π a t p v.1 b.0)
    holding (in_p π i p) x k v b R = holding π (Pr.inner i p) _ v.1 b R.1
    holding (past_p π i p) x k v b R = one_more d sp s w (fillers sp π) (row T w π) (end_i (comp_of (inside (spots_at sp π)))) (val (value_from i (w.acc (pos π + before i)))) (fillers-width sp π ∙ sym (row-width T w π))
        (holding π (Pr.inner i p) k v.1 b R.1) (nest_holds π i p v.1 R.0)
