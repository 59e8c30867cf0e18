-- One law for each way out of `weigh`: where the nodes before node i are kept right, what is answered is right for node i.
use mathlib.Core.Path.{◌≡◌, refl, sym, ap, ap₂, subst, ◌∙◌}
use mathlib.Core.List.{List, [], ◌∷◌, ◌++◌}
use mathlib.Core.Logic.{◌⊎◌, inl, inr}
use mathlib.Core.Bool.{Bool, true, false, ◌&&◌, ◌||◌}
use Prim.Native.Nat.{ℕ, zero, suc, ◌+◌, ◌-◌, ◌<◌, ◌≤◌}
use native.Mathlib.Omega.{arith}
use lib.Dec.{eqb, ltb}
use lib.IntN.{ℤ}
use borrow.Author.Tests.{ltb-true, ltb-false, lt-ltb, eqb-true}
use Rattle.spec_calculus.specs.Lists.{pick}
use Rattle.spec_calculus.specs.Syntax.{Collection}
use Rattle.spec_calculus.specs.Syntax as Sy
use Rattle.spec_calculus.proofs.Truths.{both}
use Rattle.base_syntax.specs.declared.Monoid.{Monoid}
use Rattle.base_syntax.specs.MonoidWord.{monoid_of}
use Rattle.spec_normal_form.specs.Normal.{Sem, nothing, idempotent, gives_way}
use Rattle.front_theory.specs.NodeTable as No
use Rattle.front_theory.specs.NodeTable.{Below, Inside}
use Rattle.front_theory.specs.NodeForms.{comp_of, levels, sem_of}
use Rattle.front_theory.proofs.Locality.{sem_is}
use Rattle.front_words.specs.NodeTree.{start_at}
use Rattle.front_sizes.specs.declared.FormSize.{FormSize}
use Rattle.front_sizes.specs.SizeWords.{SmallSize, term_count, condition_count, spliced_count}
use Rattle.base_syntax.specs.declared.BinOp.{BinOp}
use Rattle.front_nodes.specs.declared.QueryNode.{QueryNode}
use Rattle.front_nodes.specs.declared.QueryNode.TheVariants.{Number, Truth, Name, Field, Record, Two, Not, Comp, Table, Gen, Bind, Cond, Operator, Bad}
use Rattle.front_nodes.specs.NodeTable.{depth_at, children_of, qualifiers_of, nodes_of}
use Rattle.front_nodes.specs.Levels.{AllAt, Level}
use Rattle.front_nodes.specs.Look.{node_named, LookPost}
use Rattle.front_nodes.proofs.PostOrder.{by-pick, post-order}
use Rattle.front_resolve.specs.declared.Form.{Form}
use Rattle.front_resolve.specs.declared.Form.TheVariants as Fo
use Rattle.front_resolve.specs.Resolved.{env_of, offsets, sem_n, From, Heads}
use Rattle.front_resolve.proofs.Exits.{place}
use Rattle.front_measure.specs.declared.Ways.{Ways}
use Rattle.front_measure.specs.declared.Weight.{Weight}
use Rattle.front_measure.specs.Measure.{count, beside, above, none, leaf, never, term_of, condition_of, qualifier_of, total, all_of}
use Rattle.front_measure.specs.MeasurableNodes.{qualifies, ends, row_upto, row, ahead, TermAt, TermsAt, Aligned, Arranged}
use Rattle.front_measure.specs.KeptSizes.{Writes, Adds, KeptSizes}
use Rattle.front_measure.specs.PartContracts.{ways, way, Right, SmallWays, SmallWeight, no_ways, both_ways, condition_ways, splice_ways, scalar_weight, joins, two_term, two_weight, table_weight, row_ways, comp_term, comp_weight, comp_at, qualifier_weight, kept_weight, form_weight, FollowedPost, WeighPost}
use Rattle.front_measure.proofs.AnyEnvironment.{total-append}
use Rattle.front_measure.proofs.NodeWeights.{writes-node, writes-row, writes-cell, writes_nothing, writes-number, writes-truth, writes-bad, writes-negate, writes-two, writes-record, writes-app, writes-comp, writes-deep, writes-table, generator-writes, condition-writes, binding-writes}
use Rattle.base_syntax.specs.declared.Fun.{Fun}
use Rattle.base_syntax.specs.Numbers.{bin_of, fun_of}

-- ---- flags
by_flag : (P : Bool → Type 0) → P true → P false → (v : Bool) → P v
by_flag P a b true = a
by_flag P a b false = b

way_of : (f : Bool → FormSize) (v : Bool) → f v ≡ way (ways f) v
unfolding way
way_of f v = by_flag (λ u. f u ≡ way (ways f) u) refl refl v

way-both : (a b : Ways) (v : Bool) → beside (way a v) (way b v) ≡ way (both_ways a b) v
unfolding way
way-both a b v = by_flag (λ u. beside (way a u) (way b u) ≡ way (both_ways a b) u) refl refl v

way-pick : (t : Bool) (a b : Ways) (v : Bool) → pick t (way a v) (way b v) ≡ way (pick t a b) v
unfolding pick
way-pick true a b v = refl
way-pick false a b v = refl

-- ---- ten bits are enough
count_small : (a g : ℕ) → SmallSize (count a g)
count_small a g = record { size = omega arith; gens = omega arith }

ways-small : (f : Bool → FormSize) → ((v : Bool) → SmallSize (f v)) → SmallWays (ways f)
ways-small f h = record { stays = h false; yields = h true }

term-small : (s : List ℕ) (i : ℕ) → SmallSize (term_count s i)
term-small s i = record { size = omega arith; gens = omega arith }

condition-small : (s : List ℕ) (i : ℕ) (v : Bool) → SmallSize (condition_count s i v)
unfolding condition_count pick
condition-small s i v = by_flag (λ u. SmallSize (condition_count s i u)) (record { size = omega arith; gens = omega arith }) (record { size = omega arith; gens = omega arith }) v

spliced-small : (s : List ℕ) (i : ℕ) (v : Bool) → SmallSize (spliced_count s i v)
unfolding spliced_count pick
spliced-small s i v = by_flag (λ u. SmallSize (spliced_count s i u)) (record { size = omega arith; gens = omega arith }) (record { size = omega arith; gens = omega arith }) v

none-small : SmallWays no_ways
none-small = ways-small (λ v. none) (λ v. count_small 0 0)

never-small : SmallWays (ways (λ v. never))
never-small = ways-small (λ v. never) (λ v. count_small 2 0)

both_small : (a b : Ways) → SmallWays (both_ways a b)
both_small a b =
    record { stays = count_small (a.stays.size + b.stays.size) (a.stays.gens + b.stays.gens); yields = count_small (a.yields.size + b.yields.size) (a.yields.gens + b.yields.gens) }

above-small : (t : FormSize) → SmallWays (ways (λ v. above t))
above-small t = ways-small (λ v. above t) (λ v. count_small (1 + t.size) t.gens)

scalar-small : {t : FormSize} → SmallSize t → SmallWeight (scalar_weight t)
scalar-small {t} h = record { term = h; condition = above-small t; splice = never-small; before = none-small }

kept_small : (s : List ℕ) (j : ℕ) → SmallWeight (kept_weight s j)
kept_small s j = record { term = term-small s j; condition = ways-small (condition_count s j) (condition-small s j); splice = ways-small (spliced_count s j) (spliced-small s j); before = none-small }

row_small : (s : List ℕ) (d e : ℕ) → SmallWays (row_ways s d e)
row_small s d e = by-pick SmallWays (ends s d e) (splice_ways s (e - 1)) no_ways (λ t. ways-small (spliced_count s (e - 1)) (spliced-small s (e - 1))) (λ t. none-small)

-- ---- right for a term, right for a qualifier
module _ {K : ℕ → Collection} {N : No.Nodes} {D i : ℕ} {t u : FormSize} {c d p q : Bool → FormSize} where
  recast : Writes K N D i t c p → t ≡ u → ((v : Bool) → c v ≡ d v) → ((v : Bool) → p v ≡ q v) → Writes K N D i u d q
  recast W x y z = record { term = W.term ∙ x; condition = λ v. W.condition v ∙ y v; splice = λ v. W.splice v ∙ z v }

no_both : {b : Bool} → b ≡ true → b ≡ false → ⊥
no_both p q = let z : ◌≡◌ {A = ℕ} 0 1 = cc in omega arith

-- the nodes before i are kept right
abbrev Given : (ℕ → Collection) → List ℕ → ℕ → Type 0
Given K s i = (j : ℕ) → j < i → KeptSizes K s s j

module _ {s : List ℕ} {i : ℕ} where
  right-term : {K : ℕ → Collection} (w : Weight) → w.before ≡ no_ways → TermAt s i → Writes K (nodes_of s) (depth_at s i) i w.term (way w.condition) (way w.splice) → Right K s i w
  right-term w b h W = record {
    term = λ q. W;
    qualifier = λ q. absurd (no_both q h);
    apart = λ q v. ap (λ (x : Ways). (way x v).gens) b ∙ ap (λ (x : FormSize). x.gens) (sym (way_of (λ y. none) v));
    bare = λ q. absurd (no_both q h);
  }

  right-qualifier : {K : ℕ → Collection} (w : Weight) → w.term ≡ none → qualifies (nodes_of s i) ≡ true
      → Adds K (nodes_of s) (depth_at s i) (ahead s i) i (way w.condition) (way w.splice) (λ v. (way w.before v).gens) → Right K s i w
  right-qualifier w t h W = record {
    term = λ q. absurd (no_both h q);
    qualifier = λ q. W;
    apart = λ q. absurd (no_both h q);
    bare = λ q. t;
  }

  -- a term that is one condition, and no collection
  scalar-weighs : {t : FormSize} {w : Weight} → SmallSize t → TermAt s i
      → ((n : ℕ) → i < n → Arranged s n → (K : ℕ → Collection) → Given K s i → Writes K (nodes_of s) (depth_at s i) i t (λ v. above t) (λ v. never)) → w ≡ scalar_weight t → WeighPost s i w
  scalar-weighs {t} {w} h q f e = record {
    is = λ n l A K B. subst (Right K s i) (sym e) (right-term (scalar_weight t) refl q (recast (f n l A K B) refl (way_of (λ v. above t)) (way_of (λ v. never))));
    small = subst SmallWeight (sym e) (scalar-small h);
  }

  -- what a node that was read is
  named : {n m : QueryNode} → LookPost s i n → n ≡ m → nodes_of s i ≡ node_named s i m
  named H e = H.is ∙ ap (node_named s i) e

  pub weigh-number : {n : QueryNode} {z : ℤ} {w : Weight} → LookPost s i n → n ≡ Number z → w ≡ scalar_weight leaf → WeighPost s i w
  weigh-number {z = z} H e = scalar-weighs (count_small 1 0) (ap qualifies (named H e)) (λ n l A K B. writes-number K (nodes_of s) (post-order s) (named H e))

  pub weigh-truth : {n : QueryNode} {b : Bool} {w : Weight} → LookPost s i n → n ≡ Truth b → w ≡ scalar_weight leaf → WeighPost s i w
  weigh-truth H e = scalar-weighs (count_small 1 0) (ap qualifies (named H e)) (λ n l A K B. writes-truth K (nodes_of s) (post-order s) (named H e))

  pub weigh-bad : {n : QueryNode} {w : Weight} → LookPost s i n → n ≡ Bad → w ≡ scalar_weight leaf → WeighPost s i w
  weigh-bad H e = scalar-weighs (count_small 1 0) (ap qualifies (named H e)) (λ n l A K B. writes-bad K (nodes_of s) (post-order s) (named H e))

  pub weigh-table : {n : QueryNode} {k : ℕ} {w : Weight} → LookPost s i n → n ≡ Table k → w ≡ table_weight → WeighPost s i w
  weigh-table H e q = record {
    is = λ n l A K B. subst (Right K s i) (sym q)
        (right-term table_weight refl (ap qualifies (named H e)) (recast (writes-table K (nodes_of s) (post-order s) (named H e)) refl (way_of (λ v. count 5 1)) (way_of (λ v. count 2 1))));
    small = subst SmallWeight (sym q) (record { term = count_small 4 1; condition = ways-small (λ v. count 5 1) (λ v. count_small 5 1); splice = ways-small (λ v. count 2 1) (λ v. count_small 2 1); before = none-small });
  }

-- ---- a child that is a term
module _ {s : List ℕ} {i : ℕ} {K : ℕ → Collection} (B : Given K s i) where
  child : {c D : ℕ} → c < i → TermAt s c → depth_at s c ≡ D → Writes K (nodes_of s) D c (term_count s c) (condition_count s c) (spliced_count s c)
  child {c} l h p = subst (λ (d : ℕ). Writes K (nodes_of s) d c (term_count s c) (condition_count s c) (spliced_count s c)) p ((B c l).term h)

  children : (D : ℕ) (g : FormSize) (cs : List ℕ) → Below i cs → TermsAt s cs → AllAt (depth_at s) D cs → total (term_of K (nodes_of s) D) g cs ≡ total (term_count s) g cs
  unfolding total Below TermsAt AllAt
  children D g [] b h d = refl
  children D g (c ∷ cs) b h d =
      ap (λ x. total (term_of K (nodes_of s) D) (beside g x) cs) (child b.0 h.0 d.0).term ∙ children D (beside g (term_count s c)) cs b.1 h.1 d.1

module _ {s : List ℕ} {i : ℕ} where
  -- what the depths and the kinds around a node that was read are
  module _ {y : No.Node} (p : nodes_of s i ≡ y) {n : ℕ} (l : i < n) (A : Arranged s n) where
    inside : Inside i y
    inside = subst (Inside i) p (post-order s i)

    level : Level (depth_at s) (depth_at s i) y
    level = subst (Level (depth_at s) (depth_at s i)) p (A.levelled i l)

    aligned : Aligned s y
    aligned = subst (Aligned s) p (A.aligned i l)

  pub weigh-not : {n : QueryNode} {c : ℕ} {x t : FormSize} {w : Weight} → LookPost s i n → n ≡ Not c → x ≡ term_count s c → t ≡ above x → w ≡ scalar_weight t → WeighPost s i w
  weigh-not {c = c} {x = x} {t = t} H e p q r =
      let k = named H e in
      scalar-weighs (count_small (1 + (term_count s c).size) (term_count s c).gens) (ap qualifies k)
      (λ n l A K B. let u = ap above (child B (inside k l A) (aligned k l A) (level k l A)).term in recast (writes-negate K (nodes_of s) (post-order s) k) u (λ v. ap above u) (λ v. refl))
      (r ∙ ap scalar_weight (q ∙ ap above p))

  pub weigh-record : {n : QueryNode} {x t : FormSize} {w : Weight} → LookPost s i n → n ≡ Record → x ≡ total (term_count s) none (children_of s i) → t ≡ above x → w ≡ scalar_weight t → WeighPost s i w
  weigh-record {x = x} {t = t} H e p q r =
      let k = named H e in
      let z = total (term_count s) none (children_of s i) in
      scalar-weighs (count_small (1 + z.size) z.gens) (ap qualifies k)
      (λ n l A K B. let u = ap above (children B (depth_at s i) none (children_of s i) (inside k l A) (aligned k l A) (level k l A)) in
      recast (writes-record K (nodes_of s) (post-order s) k) u (λ v. ap above u) (λ v. refl))
      (r ∙ ap scalar_weight (q ∙ ap above p))

  pub weigh-app : {n : QueryNode} {f : Fun} {x t : FormSize} {w : Weight} → LookPost s i n → n ≡ Operator f → x ≡ total (term_count s) none (children_of s i) → t ≡ above x → w ≡ scalar_weight t → WeighPost s i w
  weigh-app {x = x} {t = t} H e p q r =
      let k = named H e in
      let z = total (term_count s) none (children_of s i) in
      scalar-weighs (count_small (1 + z.size) z.gens) (ap qualifies k)
      (λ n l A K B. let u = ap above (children B (depth_at s i) none (children_of s i) (inside k l A) (aligned k l A) (level k l A)) in
      recast (writes-app K (nodes_of s) (post-order s) k) u (λ v. ap above u) (λ v. refl))
      (r ∙ ap scalar_weight (q ∙ ap above p))

  pub weigh-two : {n : QueryNode} {o : BinOp} {a b : ℕ} {w : Weight} → LookPost s i n → n ≡ Two o a b → w ≡ two_weight s (bin_of o) a b → WeighPost s i w
  weigh-two {o = o} {a = a} {b = b} {w = w} H e r = record {
    is = λ n l A K B. subst (Right K s i) (sym r) (right-term (two_weight s (bin_of o) a b) refl (ap qualifies k) (recast (writes-two K (nodes_of s) (post-order s) k) (ap₂ (λ x y. above (beside x y)) (first l A B).term (second l A B).term)
        (λ v. ap₂ (λ x y. pick (joins (bin_of o)) x y) (ap₂ beside ((first l A B).condition v) ((second l A B).condition v)) (ap₂ (λ x y. above (above (beside x y))) (first l A B).term (second l A B).term)
        ∙ ap₂ (λ x y. pick (joins (bin_of o)) x y) (ap₂ beside (way_of (condition_count s a) v) (way_of (condition_count s b) v) ∙ way-both (condition_ways s a) (condition_ways s b) v) (way_of (λ x. above (two_term s a b)) v)
        ∙ way-pick (joins (bin_of o)) (both_ways (condition_ways s a) (condition_ways s b)) (ways (λ x. above (two_term s a b))) v)
        (way_of (λ v. never))));
    small = subst SmallWeight (sym r) (record {
      term = count_small (1 + (beside (term_count s a) (term_count s b)).size) (beside (term_count s a) (term_count s b)).gens;
      condition = by-pick SmallWays (joins (bin_of o)) (both_ways (condition_ways s a) (condition_ways s b)) (ways (λ v. above (two_term s a b))) (λ t. both_small (condition_ways s a) (condition_ways s b)) (λ t. above-small (two_term s a b));
      splice = never-small;
      before = none-small;
    });
  }
    where
      k : nodes_of s i ≡ No.nbin (bin_of o) a b
      k = named H e

      first : {n : ℕ} → i < n → Arranged s n → {K : ℕ → Collection} → Given K s i → Writes K (nodes_of s) (depth_at s i) a (term_count s a) (condition_count s a) (spliced_count s a)
      first l A B = child B (inside k l A).0 (aligned k l A).0 (level k l A).0

      second : {n : ℕ} → i < n → Arranged s n → {K : ℕ → Collection} → Given K s i → Writes K (nodes_of s) (depth_at s i) b (term_count s b) (condition_count s b) (spliced_count s b)
      second l A B = child B (inside k l A).1 (aligned k l A).1 (level k l A).1

-- ---- rows of qualifiers
row_zero : (f : ℕ) (s : List ℕ) (d e : ℕ) → e ≡ 0 → row_upto (suc f) s d e ≡ []
unfolding row_upto ends pick
row_zero f s d e p = rw p

row-fuel : (f g : ℕ) (s : List ℕ) (d e : ℕ) → e ≤ f → e ≤ g → row_upto f s d e ≡ row_upto g s d e
unfolding row_upto
row-fuel zero zero s d e p q = refl
row-fuel zero (suc g) s d e p q = sym (row_zero g s d e (omega arith))
row-fuel (suc f) zero s d e p q = row_zero f s d e (omega arith)
row-fuel (suc f) (suc g) s d e p q = ap (λ (l : List ℕ). pick (ends s d e) (l ++ ((e - 1) ∷ [])) []) (row-fuel f g s d (start_at s (e - 1)) (omega arith) (omega arith))

pub record Ends (s : List ℕ) (d e : ℕ) : Type 0 where
  pub some : 0 < e
  pub depth : depth_at s (e - 1) ≡ d
  pub kind : qualifies (nodes_of s (e - 1)) ≡ true

pub ends_at : (s : List ℕ) (d e : ℕ) → ends s d e ≡ true → Ends s d e
unfolding ends
ends_at s d e p =
    let a = both (ltb 0 e) (eqb (depth_at s (e - 1)) d && qualifies (nodes_of s (e - 1))) p in
    let b = both (eqb (depth_at s (e - 1)) d) (qualifies (nodes_of s (e - 1))) a.1 in
    record { some = ltb-true 0 e a.0; depth = eqb-true (depth_at s (e - 1)) d b.0; kind = b.1 }

-- a row by its last qualifier
pub row-none : (s : List ℕ) (d e : ℕ) → ends s d e ≡ false → row s d e ≡ []
unfolding row_upto pick
row-none s d zero p = refl
row-none s d (suc e) p = ap (λ b. pick b (row_upto e s d (start_at s (suc e - 1)) ++ ((suc e - 1) ∷ [])) []) p

pub row_more : (s : List ℕ) (d e : ℕ) → ends s d e ≡ true → row s d e ≡ row s d (start_at s (e - 1)) ++ ((e - 1) ∷ [])
unfolding row_upto pick
row_more s d zero p = absurd (omega (arith, (ends_at s d 0 p).some))
row_more s d (suc e) p =
    let c = suc e - 1 in
    ap (λ b. pick b (row_upto e s d (start_at s c) ++ (c ∷ [])) []) p ∙ ap (λ (l : List ℕ). l ++ (c ∷ [])) (row-fuel e (start_at s c) s d (start_at s c) (omega arith) (omega arith))

module _ {K : ℕ → Collection} {s : List ℕ} {i : ℕ} (B : Given K s i) where
  -- what a row of kept qualifiers writes is kept with its last one
  row_counts : (d e : ℕ) → e ≤ i → (v : Bool) → all_of K (nodes_of s) d (row s d e) v ≡ way (row_ways s d e) v
  unfolding total pick
  row_counts d e l v = go (ends s d e) refl
    where
      go : (b : Bool) → ends s d e ≡ b → all_of K (nodes_of s) d (row s d e) v ≡ way (row_ways s d e) v
      go true p =
          let E = ends_at s d e p in
          let c = e - 1 in
          let Q = (B c (omega (arith, E.some))).qualifier E.kind in
          ap (λ (l : List ℕ). all_of K (nodes_of s) d l v) (row_more s d e p) ∙ ap (λ (D : ℕ). all_of K (nodes_of s) D (row s D (start_at s c) ++ (c ∷ [])) v) (sym E.depth)
          ∙ Q.sum v ∙ way_of (spliced_count s c) v ∙ sym (ap (λ b. way (pick b (splice_ways s c) no_ways) v) p)
      go false p = ap (λ (l : List ℕ). all_of K (nodes_of s) d l v) (row-none s d e p) ∙ way_of (λ u. none) v ∙ sym (ap (λ b. way (pick b (splice_ways s (e - 1)) no_ways) v) p)

-- ---- qualifiers
start-below : (s : List ℕ) (i : ℕ) → start_at s i ≤ i
start-below s i = omega arith

module _ {s : List ℕ} {i : ℕ} where
  qualifier-weighs : {x : Ways} {w : Weight} → SmallWays x → qualifies (nodes_of s i) ≡ true
      → ((n : ℕ) → i < n → Arranged s n → (K : ℕ → Collection) → Given K s i → (v : Bool) → qualifier_of K (nodes_of s) (depth_at s i) i v ≡ way x v)
      → w ≡ qualifier_weight (row_ways s (depth_at s i) (start_at s i)) x → WeighPost s i w
  unfolding total
  qualifier-weighs {x} {w} h q f e =
      let b = row_ways s (depth_at s i) (start_at s i) in
      record {
        is = λ n l A K B. subst (Right K s i) (sym e) (right-qualifier (qualifier_weight b x) refl q (record {
          writes = f n l A K B;
          sum = λ v. total-append (λ c. qualifier_of K (nodes_of s) (depth_at s i) c v) none (ahead s i) (i ∷ []) ∙ ap₂ beside (row_counts B (depth_at s i) (start_at s i) (start-below s i) v) (f n l A K B v) ∙ way-both b x v;
          offset = λ v. ap (λ (c : FormSize). c.gens) (row_counts B (depth_at s i) (start_at s i) (start-below s i) v);
        }));
        small = subst SmallWeight (sym e) (record { term = count_small 0 0; condition = h; splice = both_small b x; before = row_small s (depth_at s i) (start_at s i) });
      }

  pub weigh-gen : {n : QueryNode} {c : ℕ} {x : Ways} {w : Weight} → LookPost s i n → n ≡ Gen c → x ≡ splice_ways s c → w ≡ qualifier_weight (row_ways s (depth_at s i) (start_at s i)) x → WeighPost s i w
  weigh-gen {c = c} {x = x} H e p r =
      let k = named H e in
      qualifier-weighs (subst SmallWays (sym p) (ways-small (spliced_count s c) (spliced-small s c))) (ap qualifies k)
      (λ n l A K B v. generator-writes K (nodes_of s) (post-order s) (depth_at s i) k v ∙ (child B (inside k l A) (aligned k l A) (level k l A)).splice v ∙ way_of (spliced_count s c) v ∙ ap (λ y. way y v) (sym p)) r

  pub weigh-cond : {n : QueryNode} {c : ℕ} {x : Ways} {w : Weight} → LookPost s i n → n ≡ Cond c → x ≡ condition_ways s c → w ≡ qualifier_weight (row_ways s (depth_at s i) (start_at s i)) x → WeighPost s i w
  weigh-cond {c = c} {x = x} H e p r =
      let k = named H e in
      qualifier-weighs (subst SmallWays (sym p) (ways-small (condition_count s c) (condition-small s c))) (ap qualifies k)
      (λ n l A K B v. condition-writes K (nodes_of s) (post-order s) (depth_at s i) k v ∙ (child B (inside k l A) (aligned k l A) (level k l A)).condition v ∙ way_of (condition_count s c) v ∙ ap (λ y. way y v) (sym p)) r

  pub weigh-bind : {n : QueryNode} {c : ℕ} {x : Ways} {w : Weight} → LookPost s i n → n ≡ Bind c → x ≡ no_ways → w ≡ qualifier_weight (row_ways s (depth_at s i) (start_at s i)) x → WeighPost s i w
  weigh-bind H e p r =
      let k = named H e in
      qualifier-weighs (subst SmallWays (sym p) none-small) (ap qualifies k)
      (λ n l A K B v. binding-writes K (nodes_of s) (post-order s) (depth_at s i) k v ∙ way_of (λ u. none) v ∙ ap (λ y. way y v) (sym p)) r

-- ---- comprehensions
stays-false : (m : Sy.Monoid) → gives_way m false ≡ false
unfolding gives_way
stays-false (Sy.of c) = refl
stays-false Sy.sum = refl
stays-false Sy.max = refl
stays-false Sy.min = refl
stays-false Sy.some = refl
stays-false Sy.all = refl

-- what is answered where it is not too deep
abbrev row_of : List ℕ → ℕ → Ways
row_of s h = row_ways s (depth_at s h) (start_at s h)

abbrev made : List ℕ → Sy.Monoid → ℕ → Weight
made s m h = comp_weight m (row_of s h) (term_count s h) (condition_count s h true)

made-small : (s : List ℕ) (m : Sy.Monoid) (h : ℕ) → SmallWeight (made s m h)
unfolding way
made-small s m h =
    let a = row_of s h in
    let t = comp_term m a (term_count s h) in
    let c = condition_count s h true in
    let r = row_small s (depth_at s h) (start_at s h) in
    record {
      term = count_small (1 + (beside (way a (idempotent m)) (term_count s h)).size) (beside (way a (idempotent m)) (term_count s h)).gens;
      condition = record {
        stays = count_small (1 + t.size) t.gens;
        yields = by-pick SmallSize (gives_way m true) (beside a.yields c) (above t) (λ p. count_small (a.yields.size + c.size) (a.yields.gens + c.gens)) (λ p. count_small (1 + t.size) t.gens);
      };
      splice = record { stays = by_flag (λ v. SmallSize (way a v)) r.yields r.stays (idempotent m); yields = r.yields };
      before = none-small;
    }

module _ {s : List ℕ} {i : ℕ} {m : Sy.Monoid} {h : ℕ} (k : nodes_of s i ≡ No.ncomp m (qualifiers_of s i) h) where
  made-right : depth_at s i < levels → {n : ℕ} → i < n → Arranged s n → (K : ℕ → Collection) → Given K s i → Right K s i (made s m h)
  unfolding way pick
  made-right d l A K B =
      let a = row_of s h in
      let x = idempotent m in
      let N = nodes_of s in
      let D = depth_at s i in
      let T : (v : Bool) → all_of K N (suc D) (qualifiers_of s i) v ≡ way a v = λ v.
      ap (λ (cs : List ℕ). all_of K N (suc D) cs v) (aligned k l A).0 ∙ ap (λ (b : ℕ). all_of K N b (row s (depth_at s h) (start_at s h)) v) (sym (level k l A).1)
      ∙ row_counts B (depth_at s h) (start_at s h) (omega (arith, (inside k l A).1)) v in
      let H = child B (inside k l A).1 (aligned k l A).1 (level k l A).1 in
      let t = comp_term m a (term_count s h) in
      let u : above (beside (all_of K N (suc D) (qualifiers_of s i) x) (term_of K N (suc D) h)) ≡ t = ap₂ (λ y z. above (beside y z)) (T x) H.term in
      right-term (made s m h) refl (ap qualifies k) (recast (writes-comp K N (post-order s) k d) u
      (by_flag (λ v. pick (gives_way m v) (beside (all_of K N (suc D) (qualifiers_of s i) (v || x)) (condition_of K N (suc D) h v)) (above (above (beside (all_of K N (suc D) (qualifiers_of s i) x) (term_of K N (suc D) h)))) ≡ way (made s m h).condition v)
      (ap₂ (λ y z. pick (gives_way m true) y z) (ap₂ beside (T true) (H.condition true)) (ap above u))
      (ap (λ y. pick y (beside (all_of K N (suc D) (qualifiers_of s i) x) (condition_of K N (suc D) h false)) (above (above (beside (all_of K N (suc D) (qualifiers_of s i) x) (term_of K N (suc D) h))))) (stays-false m) ∙ ap above u))
      (by_flag (λ v. all_of K N (suc D) (qualifiers_of s i) (v || x) ≡ way (made s m h).splice v) (T true) (T x)))

  comp-weighs : {w : Weight} → w ≡ comp_at s i m h → WeighPost s i w
  unfolding pick
  comp-weighs {w} e = go (ltb (depth_at s i) levels) refl
    where
      go : (b : Bool) → ltb (depth_at s i) levels ≡ b → WeighPost s i w
      go true p =
          let q : w ≡ made s m h = e ∙ ap (λ b. pick b (made s m h) (scalar_weight leaf)) p in
          record { is = λ n l A K B. subst (Right K s i) (sym q) (made-right (ltb-true (depth_at s i) levels p) l A K B); small = subst SmallWeight (sym q) (made-small s m h) }
      go false p =
          scalar-weighs (count_small 1 0) (ap qualifies k) (λ n l A K B. writes-deep K (nodes_of s) (post-order s) k (ltb-false (depth_at s i) levels p)) (e ∙ ap (λ b. pick b (made s m h) (scalar_weight leaf)) p)

pub weigh-comp : {s : List ℕ} {i : ℕ} {n : QueryNode} {m : Monoid} {h : ℕ} {w : Weight} → LookPost s i n → n ≡ Comp m h → w ≡ comp_at s i (monoid_of m) h → WeighPost s i w
weigh-comp H e r = comp-weighs (named H e) r

-- ---- names and fields
pick-holds : (b : Bool) (x y : Sem) → b ≡ true → pick b x y ≡ x
unfolding pick
pick-holds b x y p = ap (λ t. pick t x y) p

abbrev follows : No.Node → Bool
follows (No.nnum z) = false
follows (No.ntruth b) = false
follows (No.nname x d) = true
follows (No.nfield k c) = true
follows (No.nrec cs) = false
follows (No.napp f cs) = false
follows (No.nbin o a b) = false
follows (No.nnegate c) = false
follows (No.ncomp m cs h) = false
follows (No.ntable k) = false
follows (No.ngen c) = false
follows (No.nbind c) = false
follows (No.ncond c) = false
follows No.nbad = false

module _ {s : List ℕ} {i : ℕ} (F : follows (nodes_of s i) ≡ true) (T : TermAt s i) {w : Weight} where
  -- a place with its own node's form
  kept-weighs : {j B : ℕ} {g : List ℕ} {f : Form} (l : List ℕ) (y : No.Node) → nodes_of s j ≡ y → follows y ≡ false → qualifies y ≡ false
      → ((K : ℕ → Collection) → sem_of K (nodes_of s) (offsets s) (sem_n K s) y B (env_of g) ≡ sem_n K s i (depth_at s i) (env_of l)) → From s i (depth_at s i) (place f j B g) → w ≡ kept_weight s j → WeighPost s i w
  kept-weighs {j} {B} {g} l y p u q h R e = record {
    is = λ n k A K G.
        let other : j ≡ i → ⊥ = λ z. no_both F (ap (λ (x : ℕ). follows (nodes_of s x)) (sym z) ∙ ap follows p ∙ u) in
        let L : j < i = omega (arith, R.below, other) in
        let W = (G j L).term (ap qualifies p ∙ q) in
        let d : depth_at s j ≡ B = R.level n A.levelled k refl in
        let x : sem_n K s i (depth_at s i) (env_of l) ≡ sem_n K s j B (env_of g) = sym (h K) ∙ sym (sem_is K (nodes_of s) (post-order s) (offsets s) j B (env_of g) ∙ ap (λ z. sem_of K (nodes_of s) (offsets s) (sem_n K s) z B (env_of g)) p) in
        let E = subst (λ (b : ℕ). Writes K (nodes_of s) b j (term_count s j) (condition_count s j) (spliced_count s j)) d W in
        subst (Right K s i) (sym e) (right-term (kept_weight s j) refl T (recast (writes-node K (nodes_of s) (post-order s) (offsets s) (env_of l) j B (env_of g) x) E.term
        (λ v. E.condition v ∙ way_of (condition_count s j) v) (λ v. E.splice v ∙ way_of (spliced_count s j) v)));
    small = subst SmallWeight (sym e) (kept_small s j);
  }

  by_form : (j B : ℕ) (l g : List ℕ) (f : Form) → Heads s i (depth_at s i) l (place f j B g) → w ≡ form_weight s j f → WeighPost s i w
  by_form j B l g (Fo.Number z) H e = kept-weighs l (No.nnum z) H.from.fine.form.0 refl refl H.is H.from e
  by_form j B l g (Fo.Truth b) H e = kept-weighs l (No.ntruth b) H.from.fine.form refl refl H.is H.from e
  by_form j B l g (Fo.Row x) H e = scalar-weighs (count_small 1 0) T (λ n k A K G. writes-row K (nodes_of s) (post-order s) (offsets s) (env_of l) (sym (H.is K))) e
  by_form j B l g (Fo.Cell c x) H e = scalar-weighs (count_small 2 0) T (λ n k A K G. writes-cell K (nodes_of s) (post-order s) (offsets s) (env_of l) (sym (H.is K))) e
  by_form j B l g Fo.Record H e = kept-weighs l (No.nrec (children_of s j)) H.from.fine.form refl refl H.is H.from e
  by_form j B l g (Fo.Operator f) H e = kept-weighs l (No.napp (fun_of f) (children_of s j)) H.from.fine.form refl refl H.is H.from e
  by_form j B l g (Fo.Two o a b) H e = kept-weighs l (No.nbin (bin_of o) a b) H.from.fine.form refl refl H.is H.from e
  by_form j B l g (Fo.Not c) H e = kept-weighs l (No.nnegate c) H.from.fine.form refl refl H.is H.from e
  by_form j B l g (Fo.Comp m h) H e =
      kept-weighs l (No.ncomp (monoid_of m) (qualifiers_of s j) h) H.from.fine.form.0 refl refl
      (λ K. pick-holds (ltb B levels) (comp_of (nodes_of s) (sem_n K s) (monoid_of m) (qualifiers_of s j) h B (env_of g)) nothing (lt-ltb B levels H.from.fine.form.1) ∙ H.is K) H.from e
  by_form j B l g (Fo.Table k) H e = kept-weighs l (No.ntable k) H.from.fine.form.0 refl refl H.is H.from e
  by_form j B l g Fo.Bad H e = scalar-weighs (count_small 1 0) T (λ n k A K G. writes_nothing K (nodes_of s) (post-order s) (offsets s) (env_of l) (sym (H.is K))) e

  followed-weighs : FollowedPost s i w → WeighPost s i w
  followed-weighs C = by_form C.at.node C.at.depth C.env C.at.env C.at.form C.heads C.is

module _ {s : List ℕ} {i : ℕ} {n : QueryNode} {w : Weight} (H : LookPost s i n) (C : FollowedPost s i w) where
  pub weigh-name : {x d : ℕ} → n ≡ Name x d → WeighPost s i w
  weigh-name e = followed-weighs (ap follows (named H e)) (ap qualifies (named H e)) C

  pub weigh-field : {k c : ℕ} → n ≡ Field k c → WeighPost s i w
  weigh-field e = followed-weighs (ap follows (named H e)) (ap qualifies (named H e)) C

  pub weigh-followed : ((x : ℕ) × (d : ℕ) × (n ≡ Name x d)) ⊎ ((k : ℕ) × (c : ℕ) × (n ≡ Field k c)) → WeighPost s i w
  weigh-followed (inl p) = weigh-name p.2
  weigh-followed (inr p) = weigh-field p.2
