-- Writing words of the normal form leaves what the scratch says of the question as it is.
use mathlib.Core.Path.{◌≡◌, refl, sym, ap, ap₂, subst, fun_ext, ◌∙◌}
use mathlib.Core.Bool.{Bool, true, false}
use mathlib.Core.List.{List}
use Prim.Native.Nat.{ℕ, zero, suc, ◌+◌, ◌*◌, ◌<◌, min}
use native.Mathlib.Omega.{arith}
use borrow.Author.Tests.{ltb-true}
use lib.Dec.{ltb}
use lib.ListN.{get_or}
use Rattle.spec_calculus.specs.Lists.{pick}
use Rattle.spec_calculus.specs.Syntax.{Collection}
use Rattle.spec_encoding.specs.Data.{collection_of}
use Rattle.base_tables.specs.Description.{collection_in}
use Rattle.base_tables.proofs.TableWords.{table_same}
use Rattle.spec_normal_form.specs.Normal.{nothing, ranges}
use Rattle.spec_normal_form.specs.Size.{nodes_c}
use Rattle.front_theory.specs.NodeTable.{Node, Nodes, nnum, ntruth, nname, nfield, nrec, nbin, nnegate, napp, ncomp, ntable, ngen, nbind, ncond, nbad}
use Rattle.front_theory.specs.NodeForms.{Env, Offsets, At, bound_of, qual_of, sem_of, sem_at, sem}
use Rattle.front_theory.specs.CappedOffsets.{limit}
use Rattle.base_scratch.specs.Map.{binders_at, form_at, sizes_at, most_nodes}
use Rattle.front_words.specs.NodeWord.{node_word}
use Rattle.front_sizes.specs.declared.FormSize.{FormSize}
use Rattle.front_sizes.specs.SizeWords.{word_at, second_pair, third_pair, condition_count, stored}
use Rattle.front_nodes.specs.NodeTable.{depth_at, children_of, qualifiers_of, nodes_of, node_by}
use Rattle.front_nodes.specs.Levels.{Level}
use Rattle.front_nodes.proofs.PostOrder.{post-order}
use Rattle.front_nodes.proofs.Depths.{level-same}
use Rattle.front_nodes.proofs.SameTable.{depth_same, children-same, qualifiers-same, nodes-same}
use Rattle.front_words.specs.NodeTree.{kind_at}
use Rattle.base_syntax.specs.Numbers.{fun_of}
use Rattle.base_syntax.specs.MonoidWord.{monoid_of}
use Rattle.front_resolve.specs.Resolved.{Resolved, offsets, FormAt, Fine}
use Rattle.front_resolve.specs.declared.Form.{Form}
use Rattle.front_resolve.specs.declared.Form.TheVariants.{Number, Truth, Row, Cell, Record, Two, Not, Comp, Table, Operator, Bad}
use Rattle.front_emit.specs.WriterStart.{collections, sem_s, SizedNodes}

-- the words before those of the normal form are the same
pub record QuestionKept (s s' : List ℕ) : Type 0 where
  pub same : (j : ℕ) → j < form_at → get_or s' j 0 ≡ get_or s j 0

-- ---- offsets matter at generators alone
module _ (K : ℕ → Collection) (N : Nodes) (off off' : Offsets) (O : (x c : ℕ) → N x ≡ ngen c → off x ≡ off' x) where
  bound-offsets : (A : At) (x d : ℕ) (e : Env) (y : Node) → N x ≡ y → bound_of off A x d e y ≡ bound_of off' A x d e y
  bound-offsets A x d e (ngen c) p = ap (λ (f : Bool → ℕ → ℕ). (ranges (A c (suc d) e) (e d).flag (f (e d).flag (e d).base)).head) (O x c p)
  bound-offsets A x d e (nnum z) p = refl
  bound-offsets A x d e (ntruth b) p = refl
  bound-offsets A x d e (nname y k) p = refl
  bound-offsets A x d e (nfield i c) p = refl
  bound-offsets A x d e (nrec cs) p = refl
  bound-offsets A x d e (napp f cs) p = refl
  bound-offsets A x d e (nbin o a b) p = refl
  bound-offsets A x d e (nnegate c) p = refl
  bound-offsets A x d e (ncomp m cs h) p = refl
  bound-offsets A x d e (ntable k) p = refl
  bound-offsets A x d e (nbind c) p = refl
  bound-offsets A x d e (ncond c) p = refl
  bound-offsets A x d e nbad p = refl

  node-offsets : (A : At) (y : Node) (D : ℕ) (e : Env) → sem_of K N off A y D e ≡ sem_of K N off' A y D e
  node-offsets A (nname x d) D e = ap (λ u. pick (ltb d D) u nothing) (bound-offsets A x d e (N x) refl)
  node-offsets A (nnum z) D e = refl
  node-offsets A (ntruth b) D e = refl
  node-offsets A (nfield i c) D e = refl
  node-offsets A (nrec cs) D e = refl
  node-offsets A (napp f cs) D e = refl
  node-offsets A (nbin o a b) D e = refl
  node-offsets A (nnegate c) D e = refl
  node-offsets A (ncomp m cs h) D e = refl
  node-offsets A (ntable k) D e = refl
  node-offsets A (ngen c) D e = refl
  node-offsets A (nbind c) D e = refl
  node-offsets A (ncond c) D e = refl
  node-offsets A nbad D e = refl

  at-offsets : (f : ℕ) → ◌≡◌ {A = At} (λ j. sem_at K N off f j) (λ j. sem_at K N off' f j)
  unfolding sem_at
  at-offsets zero = refl
  at-offsets (suc f) = fun_ext λ i. fun_ext λ D. fun_ext λ e.
      node-offsets (λ j. sem_at K N off f j) (N i) D e ∙ ap (λ (A : At). sem_of K N off' A (N i) D e) (at-offsets f)

  sem-offsets : ◌≡◌ {A = At} (sem K N off) (sem K N off')
  unfolding sem
  sem-offsets = fun_ext λ i. ap (λ (A : At). A i) (at-offsets (suc i))

-- a generator is one of the nodes
gen-inside : (s : List ℕ) (x c : ℕ) → nodes_of s x ≡ ngen c → x < most_nodes
unfolding nodes_of pick
gen-inside s x c e = go (ltb x most_nodes) refl e
  where
    go : (b : Bool) → ltb x most_nodes ≡ b → pick b (node_by s x (kind_at s x)) nbad ≡ ngen c → x < most_nodes
    go true t p = ltb-true x most_nodes t
    go false t p = let z : ◌≡◌ {A = ℕ} 0 1 = cc in absurd (omega arith)

-- ---- what the scratch says
module _ {s s' : List ℕ} (H : QuestionKept s s') where
  node-words : (j : ℕ) → j < most_nodes → node_word s' j ≡ node_word s j
  node-words j h = H.same (16 + j) (omega arith)

  binder-words : (x : ℕ) → x < most_nodes → get_or s' (binders_at + x) 0 ≡ get_or s (binders_at + x) 0
  binder-words x h = H.same (binders_at + x) (omega arith)

  pub nodes-kept : nodes_of s' ≡ nodes_of s
  nodes-kept = nodes-same s s' node-words binder-words

  pub depth-kept : (i : ℕ) → i < most_nodes → depth_at s' i ≡ depth_at s i
  depth-kept = depth_same s s' node-words binder-words

  pub children-kept : (i : ℕ) → i < most_nodes → children_of s' i ≡ children_of s i
  children-kept = children-same s s' node-words binder-words

  qualifiers-kept : (i : ℕ) → i < most_nodes → qualifiers_of s' i ≡ qualifiers_of s i
  qualifiers-kept = qualifiers-same s s' node-words binder-words

  node_kept : (i : ℕ) {y z : Node} → nodes_of s i ≡ y → y ≡ z → nodes_of s' i ≡ z
  node_kept i e f = ap (λ (N : Nodes). N i) nodes-kept ∙ e ∙ f

  pub fine-kept : {h : Resolved} → h.node < most_nodes → Fine s h → Fine s' h
  fine-kept {h} l F = record { form = go h.form F.form; long = F.long }
    where
      go : (f : Form) → FormAt s h.node h.depth f → FormAt s' h.node h.depth f
      go (Number z) p = (node_kept h.node p.0 refl, p.1)
      go (Truth b) p = node_kept h.node p refl
      go (Row g) p = p
      go (Cell k g) p = p
      go Record p = node_kept h.node p (ap nrec (sym (children-kept h.node l)))
      go (Operator f) p = node_kept h.node p (ap (napp (fun_of f)) (sym (children-kept h.node l)))
      go (Two o a b) p = node_kept h.node p refl
      go (Not c) p = node_kept h.node p refl
      go (Comp m k) p = (node_kept h.node p.0 (ap (λ (l : List ℕ). ncomp (monoid_of m) l k) (sym (qualifiers-kept h.node l))), p.1)
      go (Table k) p = (node_kept h.node p.0 refl, p.1)
      go Bad p = tt

  collections-kept : collections s' ≡ collections s
  unfolding collections
  collections-kept = fun_ext λ k. ap (λ (w : ℕ). collection_of (collection_in w)) (table_same s' s (λ j p. H.same j (omega arith)) k)

  size_word : (x k : ℕ) → x < most_nodes → k < 2 → word_at s' x k ≡ word_at s x k
  size_word x k h l = H.same (sizes_at + 2 * x + k) (omega arith)

  count_kept : (x : ℕ) (v : Bool) → x < most_nodes → condition_count s' x v ≡ condition_count s x v
  unfolding condition_count
  count_kept x v h = ap (λ (w : ℕ). pick v (third_pair w) (second_pair w)) (size_word x 0 h (omega arith))

  offsets-kept : (x : ℕ) → x < most_nodes → offsets s' x ≡ offsets s x
  unfolding stored
  offsets-kept x h = fun_ext λ v. fun_ext λ n. ap (λ (w : ℕ). min (n + pick v (third_pair w).gens (third_pair w).size) limit) (size_word x 1 h (omega arith))

  pub sem-kept : sem_s s' ≡ sem_s s
  sem-kept =
      ap₂ (λ (K : ℕ → Collection) (N : Nodes). sem K N (offsets s')) collections-kept nodes-kept
      ∙ sem-offsets (collections s) (nodes_of s) (offsets s') (offsets s) (λ x c e. offsets-kept x (gen-inside s x c e))

  pub ready-kept : {n : ℕ} → SizedNodes s n → SizedNodes s' n
  ready-kept R =
      let f = R.few in
      record {
        few = f;
        levelled = λ i h. subst (Level (depth_at s') (depth_at s' i)) (sym (ap (λ (N : Nodes). N i) nodes-kept))
            (level-same (depth_at s) (depth_at s') i (λ j p. sym (depth-kept j (omega arith))) (depth_at s' i) (nodes_of s i) (post-order s i) (subst (λ (D : ℕ). Level (depth_at s) D (nodes_of s i)) (sym (depth-kept i (omega arith))) (R.levelled i h)));
        measured = λ x h v z e n.
            ap (λ (A : At). nodes_c (qual_of A (depth_at s' x) e v n (nodes_of s' x))) sem-kept
            ∙ ap₂ (λ (D : ℕ) (N : Nodes). nodes_c (qual_of (sem_s s) D e v n (N x))) (depth-kept x (omega arith)) nodes-kept
            ∙ R.measured x h v (ap (λ (c : FormSize). c.size) (sym (count_kept x v (omega arith))) ∙ z) e n;
      }
