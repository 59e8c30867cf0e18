-- The places that a comprehension's own loops fill: one for each generator, or one for "unit".
use native.Mathlib.Omega.{arith}
use mathlib.Core.Path.{◌≡◌, sym, subst, ◌∙◌}
use mathlib.Core.Bool.{Bool, true}
use mathlib.Core.List.{List, [], ◌∷◌, ◌++◌, map, append_assoc, append-nil}
use Prim.Native.Nat.{ℕ, suc, ◌+◌}
use borrow.Author.Tests.{eqb-true}
use lib.Dec.{eqb}
use lib.ListN.{length, length-append, length-map}
use Rattle.spec_calculus.specs.Lists.{upd}
use Rattle.spec_calculus.proofs.Lists.{upd-hit, upd_other}
use Rattle.spec_normal_form.specs.Form.{Clauses, done, gen, cond}
use Rattle.spec_normal_form.specs.NoRule.{behind}
use Rattle.form_words.specs.declared.FormNode.TheVariants.{Generator}
use Rattle.form_words.specs.NodeWord.{node_at}
use Rattle.form_words.specs.FormWords.{size}
use Rattle.base_signed.proofs.SignedWords.{by-test}
use Rattle.plan_marks.specs.Marks.{mark_at}
use Rattle.plan_marks.proofs.FormInWords.{LiesC}
use Rattle.plan_marks.proofs.FormMarks.{registers_of, end_of, Numbered, behind-by}
use Rattle.plan_marks.proofs.FormMarks as M
use Rattle.plan_links.specs.Spots.{Spots, comp_of, loops_at, gens_at, or_unit}
use Rattle.plan_links.proofs.FormLinks.{comp-loops}
use Rattle.exec_simulation.specs.WiredProgram.{Id, loop_i}
use Rattle.exec_initial.specs.PlaceFillers.{NamesRow, NamedC, LoopFilled, Fills}
use Rattle.exec_initial.proofs.TermMarks.{row_more, row-less, row_new}
use Rattle.exec_initial.proofs.BodyPlaces.{Body, holds, comp-at, early-named}

abbrev pub loop_ids : List ℕ → List Id
loop_ids l = map loop_i l

-- ---- how many
gens-length : (q : Clauses) (i k : ℕ) → k + length (gens_at q i) ≡ end_of q k
unfolding gens_at end_of
gens-length done i k = omega arith
gens-length (gen g t q) i k = omega (arith, gens-length q (i + 1) (suc k))
gens-length (cond t q) i k = gens-length q (i + 1 + size t) k

unit-length : (c e k : ℕ) (l : List ℕ) → k + length l ≡ e → (e ≡ k → k + length (or_unit c l) ≡ suc e) × ((e ≡ k → ⊥) → k + length (or_unit c l) ≡ e)
unfolding or_unit
unit-length c e k [] h = ((λ z. omega (arith, z)), (λ z. absurd (z (omega (arith, h)))))
unit-length c e k (i ∷ l) h = ((λ z. absurd (omega (arith, h, z))), (λ z. h))

pub own-count : (q : Clauses) (c i k : ℕ) → k + length (or_unit c (gens_at q i)) ≡ M.behind q k
own-count q c i k =
    let u = unit-length c (end_of q k) k (gens_at q i) (gens-length q i k) in
    behind-by (λ w. k + length (or_unit c (gens_at q i)) ≡ w) q k u.0 u.1

pub own-length : (q : Clauses) (c i k : ℕ) (F : List Id) → length F ≡ k → length (F ++ loop_ids (or_unit c (gens_at q i))) ≡ M.behind q k
own-length q c i k F e =
    let l : List ℕ = or_unit c (gens_at q i) in
    omega (arith, length-append F (loop_ids l), length-map l loop_i, e, own-count q c i k)

-- ---- which generators
module _ (s : List ℕ) where
  register-name : (F : List Id) (g i k y : ℕ) (c : ℕ → ℕ) (S : ℕ → Bool) → node_at s i ≡ Generator g k → ((z : ℕ) → S z ≡ true → NamesRow s F (c z) z) → upd g true S y ≡ true
      → NamesRow s (F ++ loop_i i ∷ []) (upd g (suc (length F)) c y) y
  register-name F g i k y c S n R h =
      let G : List Id = F ++ loop_i i ∷ [] in
      by-test (eqb g y)
      (λ e. subst (λ z. NamesRow s G (upd g (suc (length F)) c z) z) (eqb-true g y e) (row_new s F i (upd-hit g (suc (length F)) c) n))
      (λ e. subst (λ m. NamesRow s G m y) (sym (upd_other g (suc (length F)) c y e)) (row_more (loop_i i ∷ []) (R y (sym (upd_other g true S y e) ∙ h))))

  gens-named : (q : Clauses) (i : ℕ) (F : List Id) (c : ℕ → ℕ) (S : ℕ → Bool) → LiesC s i q → ((g : ℕ) → S g ≡ true → NamesRow s F (c g) g) → (g : ℕ) → behind q S g ≡ true
      → NamesRow s (F ++ loop_ids (gens_at q i)) (registers_of q (length F) c g) g
  unfolding behind registers_of gens_at
  gens-named done i F c S L R g h = row_more [] (R g h)
  gens-named (gen x k q) i F c S L R g h =
      let G : List Id = F ++ loop_i i ∷ [] in
      let n : length G ≡ suc (length F) = omega (arith, length-append F (loop_i i ∷ [])) in
      subst (λ l. NamesRow s l (registers_of q (suc (length F)) (upd x (suc (length F)) c) g) g) (append_assoc F (loop_i i ∷ []) (loop_ids (gens_at q (i + 1))))
      (subst (λ m. NamesRow s (G ++ loop_ids (gens_at q (i + 1))) (registers_of q m (upd x (suc (length F)) c) g) g) n
      (gens-named q (i + 1) G (upd x (suc (length F)) c) (upd x true S) L.1.1 (λ y e. register-name F x i k y c S L.0 R e) g h))
  gens-named (cond t q) i F c S L R g h = gens-named q (i + 1 + size t) F c S L.1.1 R g h

  or-unit : (F : List Id) (c m g : ℕ) (l : List ℕ) → NamesRow s (F ++ loop_ids l) m g → NamesRow s (F ++ loop_ids (or_unit c l)) m g
  unfolding or_unit
  or-unit F c m g [] N = row_more (loop_i c ∷ []) (subst (λ k. NamesRow s k m g) (append-nil F) N)
  or-unit F c m g (i ∷ l) N = N

  pub own-named : (q : Clauses) (c i k : ℕ) (F : List Id) (d : ℕ → ℕ) (S : ℕ → Bool) → length F ≡ k → LiesC s i q → ((g : ℕ) → S g ≡ true → NamesRow s F (d g) g) → (g : ℕ) → behind q S g ≡ true
      → NamesRow s (F ++ loop_ids (or_unit c (gens_at q i))) (registers_of q k d g) g
  own-named q c i k F d S e L R g h = or-unit F c (registers_of q k d g) g (gens_at q i) (subst (λ n. NamesRow s (F ++ loop_ids (gens_at q i)) (registers_of q n d g) g) e (gens-named q i F d S L R g h))

  -- ---- their marks
  abbrev Rising : List ℕ → ℕ → Type 0
  Rising [] n = Unit {0}
  Rising (i ∷ l) n = (mark_at s i ≡ suc n) × Rising l (suc n)

  gens-rise : (q : Clauses) (i k : ℕ) → Numbered s i q k → Rising (gens_at q i) k
  unfolding gens_at
  gens-rise done i k w = tt
  gens-rise (gen g t q) i k w = (w.0, gens-rise q (i + 1) (suc k) w.1)
  gens-rise (cond t q) i k w = gens-rise q (i + 1 + size t) k w

  unit-rise : (c k : ℕ) (l : List ℕ) → mark_at s c ≡ suc k → Rising l k → Rising (or_unit c l) k
  unfolding or_unit
  unit-rise c k [] e r = (e, tt)
  unit-rise c k (i ∷ l) e r = r

  pub own-rise : (q : Clauses) (c i k : ℕ) → mark_at s c ≡ suc k → Numbered s i q k → Rising (or_unit c (gens_at q i)) k
  own-rise q c i k e w = unit-rise c k (gens_at q i) e (gens-rise q i k w)

  -- each loop has the conditions of its mark, in front of what stands behind all
  module _ (B : Body s) (full : List Id) (R : (g : ℕ) → holds B g ≡ true → NamesRow s full (B.registers g) g) (p : Spots) (c : comp_of p ≡ B.node) where
    loop-filled : (i : ℕ) (F G : List Id) (m : ℕ) → suc m ≡ length F → mark_at s i ≡ suc m → F ++ G ≡ full → LoopFilled s F B.node i
    loop-filled i F G m l e h = record {
      comp = comp-at B;
      conditions = subst (λ n. NamedC s F n (B.node + 1) B.clauses) (sym e)
          (early-named s F B.registers B.first B.clauses m (B.node + 1) B.width B.from B.scope B.conditions B.ordered (λ g x z. row-less F G z (subst (λ k. NamesRow s k (B.registers g) g) (sym h) (R g x))) l);
    }

    pub loops-filled : (l : List ℕ) (F : List Id) → Rising l (length F) → F ++ loop_ids l ≡ full → Fills s full p → Fills s F (loops_at l p)
    unfolding loops_at
    loops-filled [] F r e h = subst (λ k. Fills s k p) (sym e ∙ append-nil F) h
    loops-filled (i ∷ l) F r e h =
        let G : List Id = F ++ loop_i i ∷ [] in
        let n : length G ≡ suc (length F) = omega (arith, length-append F (loop_i i ∷ [])) in
        let z : G ++ loop_ids l ≡ full = append_assoc F (loop_i i ∷ []) (loop_ids l) ∙ e in (
          subst (λ x. LoopFilled s G x i) (sym (comp-loops l p ∙ c)) (loop-filled i G (loop_ids l) (length F) (sym n) r.0 z),
          loops-filled l G (subst (Rising l) (sym n) r.1) z h,
        )
