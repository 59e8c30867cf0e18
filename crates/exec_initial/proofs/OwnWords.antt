-- Each operator of a planned and linked normal form has a word of its own.
use native.Mathlib.Omega.{arith}
use mathlib.Core.Path.{◌≡◌, refl, sym, ap, subst, ◌∙◌}
use mathlib.Core.List.{List, [], ◌∷◌, ◌++◌}
use Prim.Native.Nat.{ℕ, zero, suc, ◌+◌, ◌/◌, ◌≤◌, ◌<◌}
use borrow.Author.Tests.{ltb-true, ltb-false}
use lib.Dec.{ltb}
use lib.ListN.{length, get_or, get_or-eq_default}
use Rattle.spec_calculus.specs.Lists.{bind_l}
use Rattle.spec_calculus.proofs.Lists.{All, bind-append, all-behind}
use Rattle.spec_normal_form.specs.Form.{NormalForm, as_form, gens}
use Rattle.spec_normal_form.proofs.GeneratorNumbers.{Numbered}
use Rattle.form_words.specs.declared.FormNode.{FormNode}
use Rattle.form_words.specs.declared.FormNode.TheVariants as N
use Rattle.form_words.specs.declared.Clause.{Clause}
use Rattle.form_words.specs.declared.Clause.TheVariants as Cl
use Rattle.base_scratch.specs.Map.{form_at, form_words, env_at, totals_at}
use Rattle.form_words.specs.NodeWord.{node_at}
use Rattle.form_words.specs.FormTree.{clause_of}
use Rattle.form_words.specs.FormWords.{size}
use Rattle.base_signed.proofs.SignedWords.{by-test}
use Rattle.plan_marks.proofs.FormInWords.{Lies}
use Rattle.plan_links.specs.Spots.{Spots, end, loop, inner, spots_of, loops_in, ends_in}
use Rattle.plan_links.proofs.DistinctSpots.{Distinct}
use Rattle.plan_links.proofs.DistinctSpots as St
use Rattle.plan_links.proofs.GeneratorRanks.{numbers_apart, numbers-within}
use Rattle.exec_state.specs.StateWords.{cursor_by, cursor_at}
use Rattle.exec_simulation.specs.WiredProgram.{Id, loop_i, end_i, ids, id_at, word_of, OwnWords, Named}
use Rattle.form_env.specs.NamedTables.{table_of}
use Rattle.form_env.specs.NamedTables as Na
use Rattle.form_env.proofs.BoundRows.{slot-in}
use Rattle.exec_initial.proofs.NamedTables.{tables-named}

-- the place of a loop, and of an end; none of the other
unfoldable loop_place : Id → List ℕ
loop_place (loop_i i) = i ∷ []
loop_place (end_i c) = []

unfoldable end_place : Id → List ℕ
end_place (loop_i i) = []
end_place (end_i c) = c ∷ []

loops-are : (p : Spots) → bind_l (ids p) loop_place ≡ loops_in p
unfolding bind_l ids loop_place loops_in
loops-are (end c) = refl
loops-are (loop i p) = ap (λ l. i ∷ l) (loops-are p)
loops-are (inner a p) = bind-append (ids a) (ids p) loop_place ∙ ap (λ l. l ++ bind_l (ids p) loop_place) (loops-are a) ∙ ap (λ l. loops_in a ++ l) (loops-are p)

ends-are : (p : Spots) → bind_l (ids p) end_place ≡ ends_in p
unfolding bind_l ids end_place ends_in
ends-are (end c) = refl
ends-are (loop i p) = ends-are p
ends-are (inner a p) = bind-append (ids a) (ids p) end_place ∙ ap (λ l. l ++ bind_l (ids p) end_place) (ends-are a) ∙ ap (λ l. ends_in a ++ l) (ends-are p)

distinct-behind : (l k : List ℕ) → Distinct (l ++ k) → Distinct k
distinct-behind [] k h = h
distinct-behind (x ∷ l) k h = distinct-behind l k h.1

-- an operator's place is among those listed, and no other operator has it
module _ (F : Id → List ℕ) where
  listed : (l : List Id) (o x : ℕ) → o < length l → F (get_or l o (end_i 0)) ≡ x ∷ [] → (P : ℕ → Type 0) → All P (bind_l l F) → P x
  unfolding bind_l
  listed [] o x h e P a = absurd (omega arith)
  listed (y ∷ l) zero x h e P a = (subst (λ k. All P (k ++ bind_l l F)) e a).0
  listed (y ∷ l) (suc o) x h e P a = listed l o x (omega arith) e P (all-behind P (F y) (bind_l l F) a)

  alone : (l : List Id) (o u x : ℕ) → o < length l → u < length l → F (get_or l o (end_i 0)) ≡ x ∷ [] → F (get_or l u (end_i 0)) ≡ x ∷ [] → Distinct (bind_l l F) → o ≡ u
  unfolding bind_l
  alone [] o u x h g d e D = absurd (omega arith)
  alone (y ∷ l) zero zero x h g d e D = refl
  alone (y ∷ l) zero (suc u) x h g d e D = absurd (listed l u x (omega arith) e (λ j. x ≡ j → ⊥) (subst (λ k. Distinct (k ++ bind_l l F)) d D).0 refl)
  alone (y ∷ l) (suc o) zero x h g d e D = absurd (listed l o x (omega arith) d (λ j. x ≡ j → ⊥) (subst (λ k. Distinct (k ++ bind_l l F)) e D).0 refl)
  alone (y ∷ l) (suc o) (suc u) x h g d e D = ap suc (alone l o u x (omega arith) (omega arith) d e (distinct-behind (F y) (bind_l l F) D))

-- ---- the words of loops
generator-node : (n : FormNode) (g k : ℕ) → clause_of n ≡ Cl.Generator g k → n ≡ N.Generator g k
generator-node (N.Number z) g k e = cc
generator-node (N.Truth b) g k e = cc
generator-node (N.Row x) g k e = cc
generator-node (N.Cell c x) g k e = cc
generator-node (N.Record j) g k e = cc
generator-node (N.Operator f j) g k e = cc
generator-node (N.Binary o j) g k e = cc
generator-node N.Negation g k e = cc
generator-node (N.Comprehension m) g k e = cc
generator-node (N.Generator x y) g k e = cc
generator-node (N.Condition j) g k e = cc
generator-node N.Nothing g k e = cc

module _ (f : NormalForm) (s : List ℕ) (n : size (as_form f) ≤ form_words) (L : Lies s 0 (as_form f)) (w : Numbered (as_form f) 0) (m : gens (as_form f) ≤ 256) where
  low-number : (i g k : ℕ) → i < size (as_form f) → clause_of (node_at s i) ≡ Cl.Generator g k → g < 256
  low-number i g k l e = omega (arith, m, numbers-within f s L w i g k l (generator-node (node_at s i) g k e))

  -- generators' words stand below those of ends, those of loops over unit behind them
  cursor-zone : (i : ℕ) → i < size (as_form f) → (c : Clause) → clause_of (node_at s i) ≡ c → (env_at ≤ cursor_by i c) × ((cursor_by i c < form_at) × ((j : ℕ) → j < form_words → cursor_by i c ≡ totals_at + j → ⊥))
  cursor-zone i l (Cl.Generator g k) e = (omega arith, (omega (arith, low-number i g k l e), (λ j a b. omega (arith, low-number i g k l e, b))))
  cursor-zone i l (Cl.Condition j) e = (omega arith, (omega (arith, l, n), (λ x a b. omega (arith, a, b))))
  cursor-zone i l Cl.Head e = (omega arith, (omega (arith, l, n), (λ x a b. omega (arith, a, b))))

  cursor-apart : (i j : ℕ) → i < size (as_form f) → j < size (as_form f) → (c e : Clause) → clause_of (node_at s i) ≡ c → clause_of (node_at s j) ≡ e → cursor_by i c ≡ cursor_by j e → i ≡ j
  cursor-apart i j a b (Cl.Generator g k) (Cl.Generator h l) c e v =
      let x = generator-node (node_at s i) g k c in
      let y = generator-node (node_at s j) h l e in
      by-test (ltb i j) (λ t. absurd (omega (arith, v, numbers_apart f s L w i j g h k l (ltb-true i j t) b x y)))
      (λ t. by-test (ltb j i) (λ u. absurd (omega (arith, v, numbers_apart f s L w j i h g l k (ltb-true j i u) a y x))) (λ u. omega (arith, ltb-false i j t, ltb-false j i u)))
  cursor-apart i j a b (Cl.Generator g k) (Cl.Condition x) c e v = absurd (omega (arith, v, low-number i g k a c))
  cursor-apart i j a b (Cl.Generator g k) Cl.Head c e v = absurd (omega (arith, v, low-number i g k a c))
  cursor-apart i j a b (Cl.Condition x) (Cl.Generator h l) c e v = absurd (omega (arith, v, low-number j h l b e))
  cursor-apart i j a b (Cl.Condition x) (Cl.Condition y) c e v = omega (arith, v)
  cursor-apart i j a b (Cl.Condition x) Cl.Head c e v = omega (arith, v)
  cursor-apart i j a b Cl.Head (Cl.Generator h l) c e v = absurd (omega (arith, v, low-number j h l b e))
  cursor-apart i j a b Cl.Head (Cl.Condition y) c e v = omega (arith, v)
  cursor-apart i j a b Cl.Head Cl.Head c e v = omega (arith, v)

  -- ---- all operators
  module _ (A : St.DistinctSpots (spots_of f.clauses f.head 0) (size (as_form f))) where
    abbrev p : Spots
    p = spots_of f.clauses f.head 0

    loop-low : (o i : ℕ) → o < length (ids p) → id_at p o ≡ loop_i i → i < size (as_form f)
    unfolding loop_place
    loop-low o i l e = listed loop_place (ids p) o i l (ap loop_place e) (λ x. x < size (as_form f)) (subst (All (λ x. x < size (as_form f))) (sym (loops-are p)) A.loops-within)

    end_low : (o c : ℕ) → o < length (ids p) → id_at p o ≡ end_i c → c < size (as_form f)
    unfolding end_place
    end_low o c l e = listed end_place (ids p) o c l (ap end_place e) (λ x. x < size (as_form f)) (subst (All (λ x. x < size (as_form f))) (sym (ends-are p)) A.ends-within)

    zone : (o : ℕ) → o < length (ids p) → (x : Id) → id_at p o ≡ x → (env_at ≤ word_of s x) × (word_of s x < form_at)
    unfolding cursor_at
    zone o l (loop_i i) e = let z = cursor-zone i (loop-low o i l e) (clause_of (node_at s i)) refl in (z.0, z.1.0)
    zone o l (end_i c) e = (omega arith, omega (arith, n, end_low o c l e))

    differ : (o u : ℕ) → o < length (ids p) → u < length (ids p) → (x y : Id) → id_at p o ≡ x → id_at p u ≡ y → word_of s x ≡ word_of s y → o ≡ u
    unfolding cursor_at loop_place end_place
    differ o u l k (loop_i i) (loop_i j) a b v =
        let e : i ≡ j = cursor-apart i j (loop-low o i l a) (loop-low u j k b) (clause_of (node_at s i)) (clause_of (node_at s j)) refl refl v in
        alone loop_place (ids p) o u j l k (ap loop_place a ∙ ap (λ x. x ∷ []) e) (ap loop_place b) (subst Distinct (sym (loops-are p)) A.loops)
    differ o u l k (loop_i i) (end_i c) a b v = absurd ((cursor-zone i (loop-low o i l a) (clause_of (node_at s i)) refl).1.1 c (omega (arith, n, end_low u c k b)) v)
    differ o u l k (end_i c) (loop_i i) a b v = absurd ((cursor-zone i (loop-low u i k b) (clause_of (node_at s i)) refl).1.1 c (omega (arith, n, end_low o c l a)) (sym v))
    differ o u l k (end_i c) (end_i d) a b v = alone end_place (ids p) o u d l k (ap end_place a ∙ ap (λ x. x ∷ []) (omega (arith, v))) (ap end_place b) (subst Distinct (sym (ends-are p)) A.ends)

    within-ids : (o i : ℕ) → id_at p o ≡ loop_i i → o < length (ids p)
    unfolding loop_place
    within-ids o i e =
        by-test (ltb o (length (ids p))) (ltb-true o (length (ids p)))
        (λ t. absurd (omega (arith, ap (λ x. length (loop_place x)) (sym (get_or-eq_default (ids p) (end_i 0) (ltb-false o (length (ids p)) t)) ∙ e))))

    pub words-apart : OwnWords s p
    words-apart = record {
      differ = λ o u l k v. differ o u l k (id_at p o) (id_at p u) refl refl v;
      low = λ o l. (zone o l (id_at p o) refl).0;
      high = λ o l. (zone o l (id_at p o) refl).1;
      within = λ o c l e. omega (arith, n, end_low o c l e);
      few = λ o i g k e c. low-number i g k (loop-low o i (within-ids o i e) e) c;
    }

    -- each loop's generator has its table named, where all of the form's generators do
    pub loops-named : Na.Named (table_of s) (as_form f) → Named s p
    loops-named w o i g k e c =
        let l : i < size (as_form f) = loop-low o i (within-ids o i e) e in
        ap (λ (x : ℕ). x / 2048) (slot-in s (omega (arith, low-number i g k l c)) refl) ∙ tables-named (table_of s) s (as_form f) L w i g k l (generator-node (node_at s i) g k c) ∙ omega arith
