-- A row whose places hold what the words say agrees with scratch on the terms whose marks name the operators that fill its places.
use native.Mathlib.Omega.{arith}
use mathlib.Core.Path.{◌≡◌, refl, sym, ap, subst, ◌∙◌}
use mathlib.Core.Bool.{false}
use mathlib.Core.List.{List}
use Prim.Native.Nat.{ℕ, suc, ◌+◌, ◌≤◌}
use Rattle.spec_calculus.specs.Syntax as Sy
use Rattle.spec_calculus.specs.Syntax.{Monoid, of, sum, max, some, all}
use Rattle.spec_calculus.specs.Value.{Value}
use Rattle.spec_encoding.specs.Record.{Bytes}
use Rattle.spec_normal_form.specs.Form.{Form, Forms, Clauses, num, truth, row, cell, rec, bin, negate, app, comp, fnil, fcons, done, gen, cond}
use Rattle.base_scratch.specs.Map.{form_words}
use Rattle.form_words.specs.NodeWord.{word_at, node_at}
use Rattle.form_words.specs.FormTree.{form_tree}
use Rattle.form_words.specs.FormWords.{size, size_f, size_c}
use Rattle.base_syntax.proofs.Numbers.{monoid-back}
use Rattle.spec_plan.specs.Operators.{Row, value_of, at, eval_p}
use Rattle.plan_marks.specs.Marks.{mark_of, mark_at, slot_by}
use Rattle.plan_marks.specs.PlanIn.{monoid_by}
use Rattle.plan_marks.proofs.FormInWords.{Lies, LiesF, LiesC}
use Rattle.plan_machine.specs.MachineWords.{Words}
use Rattle.plan_machine.specs.AnswerText.{collects}
use Rattle.plan_machine.proofs.CollectionsInHeads.{Scalar, ScalarF, ScalarC, Fitting, FittingF}
use Rattle.plan_links.specs.Spots.{Spots}
use Rattle.plan_links.specs.SpotWords.{fuel}
use Rattle.form_env.specs.Environment.{env_of, tables_in}
use Rattle.form_env.proofs.SameForm.{node-same, form-same}
use Rattle.exec_terms.specs.Agreement.{held_at, KeptTotal}
use Rattle.exec_terms.proofs.FormAgreement.{tree_is, AgreesOn, AgreesOnF, AgreesOnC}
use Rattle.exec_terms.proofs.PartsPre.{AgreesUpto, AgreesUptoF}
use Rattle.exec_simulation.specs.WiredProgram.{Id}
use Rattle.exec_initial.specs.PlaceFillers.{NamesRow, NamesEnd, Named, NamedF, NamedC, NamedUpto, NamedUptoF}
use Rattle.exec_initial.specs.PlaceContents.{HoldsEnd, HoldsBy, Holding}

held_place : (m n : ℕ) (r : Row) → m ≡ suc n → held_at m r ≡ value_of (at n r)
unfolding slot_by eval_p
held_place m n r e = ap (λ k. held_at k r) e

-- b: scratch before the first row, s: with the same words of the normal form
module _ (d : Bytes) (p : Spots) (b s : List ℕ) (same : (i : ℕ) → word_at s i ≡ word_at b i) (w : Words) (F : List Id) (r : Row) (H : Holding d p s w F r) where
  -- ---- one place
  row-agrees : (i g : ℕ) → NamesRow b F (mark_at b i) g → held_at (mark_at s i) r ≡ env_of (tables_in d) s g
  row-agrees i g N = held_place (mark_at s i) N.place r (ap mark_of (same i) ∙ N.mark)
      ∙ subst (λ (x : Id). HoldsBy d p s w x (value_of (at N.place r))) N.is (H N.place N.low) g N.table (node-same s b same N.loop ∙ N.node)

  pub end-held : (i : ℕ) → NamesEnd F (mark_at b i) i → HoldsEnd d p s w i (held_at (mark_at s i) r)
  end-held i N = subst (HoldsEnd d p s w i) (sym (held_place (mark_at s i) N.place r (ap mark_of (same i) ∙ N.mark)))
      (subst (λ (x : Id). HoldsBy d p s w x (value_of (at N.place r))) N.is (H N.place N.low))

  comp-agrees : (m : Monoid) (q : Clauses) (u : Form) (i : ℕ) → Lies b i (comp m q u) → i + size (comp m q u) ≤ form_words → collects m ≡ false → NamesEnd F (mark_at b i) i → AgreesOn d s r i (comp m q u)
  comp-agrees m q u i L n e N =
      let v : Value = held_at (mark_at s i) r in
      let x : monoid_by (node_at s i) ≡ m = ap monoid_by (node-same s b same i ∙ L.0) ∙ monoid-back m in
      let t : form_tree fuel s i ≡ comp m q u = form-same s b same fuel i ∙ tree_is b (comp m q u) i fuel L n (omega arith) in
      subst (λ (y : Form). KeptTotal d s i m y v) t (subst (λ (y : Monoid). KeptTotal d s i y (form_tree fuel s i) v) x ((end-held i N).kept (ap collects x ∙ e)))

  -- ---- terms of one word
  mutual
    unfolding size

    pub agrees-named : (t : Form) (i : ℕ) → Lies b i t → i + size t ≤ form_words → Scalar t → Named b F i t → AgreesOn d s r i t
    agrees-named (num z) i L n f h = tt
    agrees-named (truth z) i L n f h = tt
    agrees-named (row g) i L n f h = absurd f
    agrees-named (cell c g) i L n f h = row-agrees i g h
    agrees-named (rec ts) i L n f h = absurd f
    agrees-named (app o ts) i L n f h = agrees-operands ts (i + 1) L.1 (omega (arith, n)) f h
    agrees-named (bin o t u) i L n f h = (agrees-named t (i + 1) L.1.0 (omega (arith, n)) f.0 h.0, agrees-named u (i + 1 + size t) L.1.1 (omega (arith, n)) f.1 h.1)
    agrees-named (negate t) i L n f h = agrees-named t (i + 1) L.1 (omega (arith, n)) f h
    agrees-named (comp m q u) i L n f h = comp-agrees m q u i L (omega (arith, n)) f.0 h

    agrees-operands : (ts : Forms) (i : ℕ) → LiesF b i ts → i + size_f ts ≤ form_words → ScalarF ts → NamedF b F i ts → AgreesOnF d s r i ts
    agrees-operands fnil i L n f h = tt
    agrees-operands (fcons t ts) i L n f h = (agrees-named t i L.1.0 (omega (arith, n)) f.0 h.0, agrees-operands ts (i + size t) L.1.1 (omega (arith, n)) f.1 h.1)

  -- ---- conditions
  pub agrees-conditions : (q : Clauses) (m i : ℕ) → LiesC b i q → i + size_c q ≤ form_words → ScalarC q → NamedC b F m i q → AgreesOnC d s r m i q
  unfolding size
  agrees-conditions done m i L n f h = tt
  agrees-conditions (gen g k q) m i L n f h = agrees-conditions q m (i + 1) L.1.1 (omega (arith, n)) f h
  agrees-conditions (cond t q) m i L n f h = (
    (λ e. agrees-named t (i + 1) L.1.0 (omega (arith, n)) f.0 (h.0 (sym (ap mark_of (same i)) ∙ e))),
    agrees-conditions q m (i + 1 + size t) L.1.1 (omega (arith, n)) f.1 h.1,
  )

  -- ---- the parts of a head before node e
  comp-upto : (e : ℕ) (m : Monoid) (q : Clauses) (u : Form) (i : ℕ) → Lies b i (comp m q u) → i + size (comp m q u) ≤ form_words → NamedUpto b F e i (comp m q u) → AgreesUpto d s r e i (comp m q u)
  unfolding collects
  comp-upto e (of c) q u i L n h = tt
  comp-upto e sum q u i L n h = λ l. comp-agrees sum q u i L n refl (h l)
  comp-upto e max q u i L n h = λ l. comp-agrees max q u i L n refl (h l)
  comp-upto e Sy.min q u i L n h = λ l. comp-agrees Sy.min q u i L n refl (h l)
  comp-upto e some q u i L n h = λ l. comp-agrees some q u i L n refl (h l)
  comp-upto e all q u i L n h = λ l. comp-agrees all q u i L n refl (h l)

  mutual
    unfolding size

    pub agrees-named-upto : (t : Form) (e i : ℕ) → Lies b i t → i + size t ≤ form_words → Fitting t → NamedUpto b F e i t → AgreesUpto d s r e i t
    agrees-named-upto (num z) e i L n f h = tt
    agrees-named-upto (truth z) e i L n f h = tt
    agrees-named-upto (row g) e i L n f h = λ l. row-agrees i g (h l)
    agrees-named-upto (cell c g) e i L n f h = λ l. row-agrees i g (h l)
    agrees-named-upto (rec ts) e i L n f h = agrees-each-upto ts e (i + 1) L.1 (omega (arith, n)) f h
    agrees-named-upto (app o ts) e i L n f h = λ l. agrees-named (app o ts) i L (omega (arith, n)) f (h l)
    agrees-named-upto (bin o t u) e i L n f h = λ l. agrees-named (bin o t u) i L (omega (arith, n)) f (h l)
    agrees-named-upto (negate t) e i L n f h = λ l. agrees-named (negate t) i L (omega (arith, n)) f (h l)
    agrees-named-upto (comp m q u) e i L n f h = comp-upto e m q u i L (omega (arith, n)) h

    agrees-each-upto : (ts : Forms) (e i : ℕ) → LiesF b i ts → i + size_f ts ≤ form_words → FittingF ts → NamedUptoF b F e i ts → AgreesUptoF d s r e i ts
    agrees-each-upto fnil e i L n f h = tt
    agrees-each-upto (fcons t ts) e i L n f h = (agrees-named-upto t e i L.1.0 (omega (arith, n)) f.0 h.0, agrees-each-upto ts e (i + size t) L.1.1 (omega (arith, n)) f.1 h.1)
