-- Two questions as node tables. What the root of each writes is its normal form: of the first by computing it, of the second
-- as a case of `written`, whose premises hold of it.
use mathlib.Core.Path.{◌≡◌, refl, subst}
use mathlib.Core.Bool.{Bool, true}
use mathlib.Core.List.{List, [], ◌∷◌}
use Prim.Native.Nat.{ℕ, zero, suc, ◌+◌, ◌≤◌}
use native.Mathlib.Omega.{arith}
use lib.Dec.{eqb, lit<, lit≤}
use lib.IntN.{pos}
use Rattle.spec_calculus.specs.Lists.{pick, upd}
use Rattle.spec_calculus.specs.Syntax.{Collection, bag, set, of, some, plus, equal, less, and, Term, num, truth, name, field, rec, bin, comp, table, tnil, tcons, qnil, gen, bind, cond, Question, as_term}
use Rattle.spec_checks.specs.Scope.{in_scope, binders, member, distinct, names_hold}
use Rattle.spec_normal_form.specs.Form.{◌⊕◌, gens, as_form}
use Rattle.spec_normal_form.specs.Normal.{quote, idempotent, gives_way, condition, ranges, nth, part, binary, before, norm, normal}
use Rattle.spec_normal_form.specs.Size.{nodes}
use Rattle.front_theory.specs.NodeTable.{Node, nnum, ntruth, nname, nfield, nrec, nbin, ncomp, ntable, ngen, nbind, ncond, nbad, Below, Inside, PostOrder, qualifiers}
use Rattle.front_theory.specs.NodeForms.{outside, clauses_of, sems_of, sem_at, sem}
use Rattle.front_theory.specs.QuestionNodes.{Slots, slot, no_names, first_of, rest_of, behind, Holds, PlacedQ, Placed}
use Rattle.front_theory.specs.CappedOffsets.{left, saturated}
use Rattle.front_theory.proofs.CappedOffsets.{saturated-is, written}

-- a node table from a list
unfoldable at : List Node → ℕ → Node
at [] i = nbad
at (n ∷ ns) zero = n
at (n ∷ ns) (suc i) = at ns i

-- every table is a bag
abbrev K : ℕ → Collection
K = λ k. bag

-- set { (x.0, z) | x ← T0, y ← bag { w.1 | w ← T1, w.0 = x.0 }, z := y + 1, y < 5 and some { true | u ← T2, u.0 = y } }
abbrev y-source : Term
y-source = comp (of bag) (gen 2 (table 1) (cond (bin equal (field 0 (name 2)) (field 0 (name 0))) qnil)) (field 1 (name 2))

abbrev y-test : Term
y-test = bin and (bin less (name 1) (num (pos 5))) (comp some (gen 4 (table 2) (cond (bin equal (field 0 (name 4)) (name 1)) qnil)) (truth true))

abbrev first : Question
first = record { monoid = of set; quals = gen 0 (table 0) (gen 1 y-source (bind 3 (bin plus (name 1) (num (pos 1))) (cond y-test qnil))); head = rec (tcons (field 0 (name 0)) (tcons (name 3) tnil)) }

abbrev first-nodes : List Node
first-nodes =
    ntable 0 ∷ ngen 0
    ∷ ntable 1 ∷ ngen 2 ∷ nname 3 1 ∷ nfield 0 4 ∷ nname 1 0 ∷ nfield 0 6 ∷ nbin equal 5 7 ∷ ncond 8 ∷ nname 3 1 ∷ nfield 1 10 ∷ ncomp (of bag) (3 ∷ 9 ∷ []) 11 ∷ ngen 12
    ∷ nname 13 0 ∷ nnum (pos 1) ∷ nbin plus 14 15 ∷ nbind 16
    ∷ nname 13 0 ∷ nnum (pos 5) ∷ nbin less 18 19
    ∷ ntable 2 ∷ ngen 21 ∷ nname 22 1 ∷ nfield 0 23 ∷ nname 13 0 ∷ nbin equal 24 25 ∷ ncond 26 ∷ ntruth true ∷ ncomp some (22 ∷ 27 ∷ []) 28 ∷ nbin and 20 29 ∷ ncond 30
    ∷ nname 1 0 ∷ nfield 0 32 ∷ nname 17 0 ∷ nrec (33 ∷ 34 ∷ []) ∷ ncomp (of set) (1 ∷ 13 ∷ 17 ∷ 31 ∷ []) 35 ∷ []

-- only y's generator has one before it
unfoldable first-stored : ℕ → Bool → ℕ
first-stored x v = pick (eqb x 13) 1 0

first-writes : quote (sem K (at first-nodes) (saturated first-stored) 36 0 outside) 0 ≡ as_form (normal K first)
unfolding at first-stored sem sem_at clauses_of sems_of quote idempotent gives_way condition ranges nth part binary before norm normal upd pick gens ◌⊕◌
first-writes = refl

-- bag { (x.0, y) | x ← T0, y ← bag { w.1 | w ← T1 } }
abbrev second : Question
second = record { monoid = of bag; quals = gen 0 (table 0) (gen 1 (comp (of bag) (gen 2 (table 1) qnil) (field 1 (name 2))) qnil); head = rec (tcons (field 0 (name 0)) (tcons (name 1) tnil)) }

abbrev second-nodes : List Node
second-nodes =
    ntable 0 ∷ ngen 0 ∷ ntable 1 ∷ ngen 2 ∷ nname 3 1 ∷ nfield 1 4 ∷ ncomp (of bag) (3 ∷ []) 5 ∷ ngen 6
    ∷ nname 1 0 ∷ nfield 0 8 ∷ nname 7 0 ∷ nrec (9 ∷ 10 ∷ []) ∷ ncomp (of bag) (1 ∷ 7 ∷ []) 11 ∷ []

-- the depth of each qualifier's term, and how many generators are before it
unfoldable dep : ℕ → ℕ
dep x = pick (eqb x 3) 2 1

unfoldable stored : ℕ → Bool → ℕ
stored x v = pick (eqb x 7) 1 0

-- what holds of each node of a list holds of each node
abbrev AllFrom : (ℕ → Node → Type 0) → ℕ → List Node → Type 0
AllFrom P k [] = Unit {0}
AllFrom P k (n ∷ l) = P k n × AllFrom P (suc k) l

all_from : (P : ℕ → Node → Type 0) → ((i : ℕ) → P i nbad) → (k : ℕ) (l : List Node) → AllFrom P k l → (i : ℕ) → P (k + i) (at l i)
unfolding at
all_from P b k [] h i = b (k + i)
all_from P b k (n ∷ l) h zero = subst (λ j. P j n) (omega arith) h.0
all_from P b k (n ∷ l) h (suc i) = subst (λ j. P j (at l i)) (omega arith) (all_from P b (suc k) l h.1 i)

all-at : (P : ℕ → Node → Type 0) → ((i : ℕ) → P i nbad) → (l : List Node) → AllFrom P 0 l → (i : ℕ) → P i (at l i)
all-at P b l h i = subst (λ j. P j (at l i)) (omega arith) (all_from P b 0 l h i)

second-post-order : PostOrder (at second-nodes)
unfolding Below
second-post-order = all-at Inside (λ j. tt) second-nodes
    (tt, (lit< tt, (tt, (lit< tt, (lit< tt, (lit< tt, (((lit< tt, tt), lit< tt), (lit< tt, (lit< tt, (lit< tt, (lit< tt, ((lit< tt, (lit< tt, tt)), (((lit< tt, (lit< tt, tt)), lit< tt), tt)))))))))))))

abbrev Right : List ℕ → Type 0
Right cs = PlacedQ left K (at second-nodes) dep (saturated stored) cs (λ v. 0)

second-placed : Placed left K (at second-nodes) dep (saturated stored)
unfolding PlacedQ at dep stored sem_at clauses_of sems_of quote idempotent ranges nth part upd pick gens ◌⊕◌
second-placed =
    let inner : Right (3 ∷ []) = (λ a p v n. saturated-is stored 3 v n 0 refl, tt) in
    let outer : Right (1 ∷ 7 ∷ []) = (λ a p v n. saturated-is stored 1 v n 0 refl, (λ a p v n. saturated-is stored 7 v n 1 refl, tt)) in
    all-at (λ j y. Right (qualifiers y)) (λ j. tt) second-nodes
    (tt, (tt, (tt, (tt, (tt, (tt, (inner, (tt, (tt, (tt, (tt, (tt, (outer, tt)))))))))))))

second_holds : Holds (at second-nodes) dep (as_term second) 12 0 no_names
unfolding Holds first_of rest_of behind upd at dep pick
second_holds =
    let S : Slots = upd 0 (slot 1 0) no_names in
    let y : Holds (at second-nodes) dep (comp (of bag) (gen 2 (table 1) qnil) (field 1 (name 2))) 6 1 S = (3 ∷ [], 5, refl, lit< tt, (2, refl, refl, refl, refl, refl), (4, refl, (1, refl, refl))) in
    let h : Holds (at second-nodes) dep (rec (tcons (field 0 (name 0)) (tcons (name 1) tnil))) 11 1 (upd 1 (slot 7 0) S)
    = (9 ∷ 10 ∷ [], refl, (9, 10 ∷ [], refl, (8, refl, (0, refl, refl)), (10, [], refl, (0, refl, refl), refl))) in
    (1 ∷ 7 ∷ [], 11, refl, lit< tt, (0, refl, refl, refl, refl, (6, refl, refl, refl, y, refl)), h)

second-names-hold : names_hold second ≡ true
unfolding in_scope binders member distinct names_hold upd
second-names-hold = refl

second-size : nodes (as_form (normal K second)) ≤ 512
unfolding nodes quote idempotent ranges nth part before norm normal upd gens ◌⊕◌
second-size = lit≤ tt

second-writes : quote (sem K (at second-nodes) (saturated stored) 12 0 outside) 0 ≡ as_form (normal K second)
second-writes = written K (at second-nodes) second-post-order dep (saturated stored) second-placed second 12 outside second_holds second-names-hold second-size
