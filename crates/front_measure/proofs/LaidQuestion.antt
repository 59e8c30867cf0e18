-- What measuring asks of the nodes holds where a question lies in the words.
use mathlib.Core.Path.{◌≡◌, refl, sym, ap, ap₂, subst, ◌∙◌}
use mathlib.Core.List.{List, [], ◌∷◌, ◌++◌}
use mathlib.Core.Bool.{true, false}
use Prim.Native.Nat.{ℕ, ◌+◌, ◌-◌, ◌<◌, ◌≤◌}
use native.Mathlib.Omega.{arith}
use lib.Dec.{leb, ltb}
use borrow.Author.Tests.{ltb-true, ltb-false, lt-ltb, eq-eqb, ne_eqb}
use Rattle.spec_calculus.specs.Lists.{pick}
use Rattle.spec_calculus.specs.Syntax.{choice, is_open, Term, Terms, Quals, num, truth, name, field, rec, bin, negate, app, comp, table, tnil, tcons, qnil, gen, bind, cond}
use Rattle.base_signed.proofs.SignedWords.{by-test}
use Rattle.spec_encoding.specs.Reader.{Kind, comprehension}
use Rattle.front_words.specs.NodeTree.{monoid_at, arg_at, start_at}
use Rattle.front_words.specs.LaidTree.{nodes, nodes_l, nodes_q, LaidNode, Laid, LaidL, LaidQ}
use Rattle.front_words.proofs.NodeWords.{some-nodes, laid-start}
use Rattle.front_theory.specs.NodeTable as No
use Rattle.front_words.specs.Binders.{binder_word}
use Rattle.base_scratch.specs.Map.{most_nodes}
use Rattle.front_nodes.specs.NodeTable.{depth_at, children_of, chain, qualifiers_of, above, name_by, node_by, nodes_of}
use Rattle.front_nodes.proofs.PostOrder.{by-pick}
use Rattle.front_nodes.proofs.QualifierChain.{chain-none, chain_more}
use Rattle.front_nodes.proofs.TableHolds.{node-is, up, node_at_lem, lasts_l, counted, counted-op, children-are}
use Rattle.front_nodes.proofs.Levels.{laid-levelled}
use Rattle.front_measure.specs.MeasurableNodes.{qualifies, ends, row, TermAt, TermsAt, Aligned, Arranged}
use Rattle.front_measure.proofs.WeighExits.{row-none, row_more}

-- ---- the last node of a tree is a term of its depth
qualifies-above : (i : ℕ) (n : No.Node) → qualifies n ≡ false → qualifies (above i n) ≡ false
unfolding above
qualifies-above i n h = by-pick (λ y. qualifies y ≡ false) (ltb 0 i) n No.nbad (λ t. h) (λ t. refl)

qualifies-name : (s : List ℕ) (i w : ℕ) → qualifies (name_by s i w) ≡ false
unfolding name_by
qualifies-name s i w =
    let d = depth_at s (w - 1) in
    let y = No.nname (w - 1) (d - 1) in
    let P : No.Node → Type 0 = λ n. qualifies n ≡ false in
    by-pick P (ltb 0 w) (pick (leb w i) (pick (ltb 0 d) y No.nbad) No.nbad) No.nbad
    (λ a. by-pick P (leb w i) (pick (ltb 0 d) y No.nbad) No.nbad (λ b. by-pick P (ltb 0 d) y No.nbad (λ c. refl) (λ c. refl)) (λ b. refl)) (λ a. refl)

pub record Last (s : List ℕ) (d j : ℕ) : Type 0 where
  pub depth : depth_at s j ≡ d
  pub kind : TermAt s j

last-by : {s : List ℕ} {d a i : ℕ} {K : Kind} → LaidNode s d a i K → (j : ℕ) → i ≡ j → j < most_nodes → qualifies (node_by s j K) ≡ false → Last s d j
last-by {s} N j e h q = record { depth = ap (depth_at s) (sym e) ∙ N.depth; kind = ap qualifies (node-is (node_at_lem e N) h) ∙ q }

last : (t : Term) (s : List ℕ) (d a : ℕ) → Laid s d a t → a + nodes t ≤ most_nodes → (j : ℕ) → a + nodes t ≡ j + 1 → Last s d j
unfolding nodes
last (num z) s d a L m j e = last-by L.0 j (omega arith) (omega arith) refl
last (truth b) s d a L m j e = last-by L.0 j (omega arith) (omega arith) refl
last (name x) s d a L m j e = last-by L.0 j (omega arith) (omega arith) (qualifies-name s j (binder_word s (arg_at s j)))
last (field i t) s d a L m j e = last-by L.1 j (omega arith) (omega arith) (qualifies-above j (No.nfield (arg_at s j) (j - 1)) refl)
last (rec ts) s d a L m j e = last-by L.1 j (omega arith) (omega arith) refl
last (app choice ts) s d a L m j e = last-by L.1 j (omega arith) (omega arith) refl
last (app (is_open n c) ts) s d a L m j e = last-by L.1 j (omega arith) (omega arith) refl
last (bin o t u) s d a L m j e = last-by L.2 j (omega arith) (omega arith) (qualifies-above j (No.nbin o (start_at s (j - 1) - 1) (j - 1)) refl)
last (negate t) s d a L m j e = last-by L.1 j (omega arith) (omega arith) (qualifies-above j (No.nnegate (j - 1)) refl)
last (comp n qs h) s d a L m j e = last-by L.2 j (omega arith) (omega arith) (qualifies-above j (No.ncomp (monoid_at (arg_at s j)) (qualifiers_of s j) (j - 1)) refl)
last (table k) s d a L m j e = last-by L.0 j (omega arith) (omega arith) refl

-- the node before the end of a tree
last-at : (t : Term) (s : List ℕ) (d a j : ℕ) → Laid s d a t → a + nodes t ≤ most_nodes → a + nodes t ≡ j → Last s d (j - 1)
last-at t s d a j L m e = last t s d a L m (j - 1) (omega (arith, some-nodes t))

terms-at : (ts : Terms) (s : List ℕ) (d a : ℕ) → LaidL s d a ts → a + nodes_l ts ≤ most_nodes → TermsAt s (lasts_l a ts)
unfolding nodes TermsAt lasts_l
terms-at tnil s d a L m = tt
terms-at (tcons t ts) s d a L m = ((last-at t s d a (a + nodes t) L.0 (omega arith) refl).kind, terms-at ts s d (a + nodes t) L.1 (omega arith))

-- ---- the node before place a is no deeper than d
abbrev Ahead : List ℕ → ℕ → ℕ → Type 0
Ahead s d a = 0 < a → depth_at s (a - 1) ≤ d

deeper : (s : List ℕ) (d a : ℕ) → Ahead s d a → Ahead s (d + 1) a
deeper s d a h p = omega (arith, h p)

behind-tree : (t : Term) (s : List ℕ) (d a : ℕ) → Laid s d a t → a + nodes t ≤ most_nodes → Ahead s d (a + nodes t)
behind-tree t s d a L m p = omega (arith, (last-at t s d a (a + nodes t) L m refl).depth)

behind-node : {s : List ℕ} {d a i : ℕ} {K : Kind} → LaidNode s d a i K → Ahead s d (i + 1)
behind-node {s} {i = i} N p = let e : i + 1 - 1 ≡ i = omega arith in omega (arith, ap (depth_at s) e ∙ N.depth)

behind-quals : (qs : Quals) (s : List ℕ) (d a : ℕ) → LaidQ s d a qs → Ahead s d a → (e : ℕ) → a + nodes_q qs ≡ e → Ahead s d e
unfolding nodes
behind-quals qnil s d a L h e p = subst (Ahead s d) (omega (arith, p)) h
behind-quals (gen x t qs) s d a L h e p = behind-quals qs s d (a + nodes t + 1) L.3 (behind-node L.1) e (omega arith)
behind-quals (bind x t qs) s d a L h e p = behind-quals qs s d (a + nodes t + 1) L.3 (behind-node L.1) e (omega arith)
behind-quals (cond t qs) s d a L h e p = behind-quals qs s d (a + nodes t + 1) L.2 (behind-node L.1) e (omega arith)

-- no row of the next depth ends there
no_end : (s : List ℕ) (d a : ℕ) → Ahead s d a → ends s (d + 1) a ≡ false
unfolding ends
no_end s d a h = by-test (ltb 0 a)
    (λ t. let l = h (ltb-true 0 a t) in rw (t, ne_eqb (depth_at s (a - 1)) (d + 1) (λ e. omega (arith, l, e))))
    (λ t. rw t)

-- ---- the qualifiers of a comprehension are a row
row_ends : {s : List ℕ} {d a q : ℕ} {K : Kind} → LaidNode s d a q K → qualifies (nodes_of s q) ≡ true → (e : ℕ) → q + 1 ≡ e → ends s d e ≡ true
unfolding ends
row_ends {s} {d} {q = q} N h e p =
    let z : e - 1 ≡ q = omega arith in
    let t : 0 < e = omega arith in
    rw (lt-ltb 0 e t, z, N.depth, h, eq-eqb d d refl)

row_step : {s : List ℕ} {d a q : ℕ} {K : Kind} → LaidNode s d a q K → a ≤ q → qualifies (nodes_of s q) ≡ true → (lo : ℕ) → lo ≤ a → chain s lo a ≡ row s d a → chain s lo (q + 1) ≡ row s d (q + 1)
row_step {s} {d} {a} {q} N l h lo k p =
    let e = q + 1 in
    let z : e - 1 ≡ q = omega arith in
    let b : start_at s (e - 1) ≡ a = ap (start_at s) z ∙ omega (arith, N.start) in
    chain_more s lo e (omega arith) ∙ ap (λ (x : List ℕ). x ++ ((e - 1) ∷ [])) (ap (chain s lo) b ∙ p ∙ ap (row s d) (sym b)) ∙ sym (row_more s d e (row_ends N h e refl))

is-qualifier : {s : List ℕ} {d a q : ℕ} {K : Kind} (y : No.Node) → LaidNode s d a q K → q < most_nodes → 0 < q → node_by s q K ≡ above q y → qualifies y ≡ true → qualifies (nodes_of s q) ≡ true
is-qualifier {q = q} y N h p e t = ap qualifies (node-is N h ∙ e ∙ up q y p) ∙ t

laid-row : (qs : Quals) (s : List ℕ) (d a lo : ℕ) → LaidQ s d a qs → a + nodes_q qs ≤ most_nodes → lo ≤ a → chain s lo a ≡ row s d a → (e : ℕ) → a + nodes_q qs ≡ e → chain s lo e ≡ row s d e
unfolding nodes
laid-row qnil s d a lo L m k p e q = subst (λ (x : ℕ). chain s lo x ≡ row s d x) (omega (arith, q)) p
laid-row (gen x t qs) s d a lo L m k p e q =
    let i = a + nodes t in
    laid-row qs s d (i + 1) lo L.3 (omega arith) (omega arith) (row_step L.1 (omega arith) (is-qualifier (No.ngen (i - 1)) L.1 (omega arith) (omega (arith, some-nodes t)) refl refl) lo k p) e (omega arith)
laid-row (bind x t qs) s d a lo L m k p e q =
    let i = a + nodes t in
    laid-row qs s d (i + 1) lo L.3 (omega arith) (omega arith) (row_step L.1 (omega arith) (is-qualifier (No.nbind (i - 1)) L.1 (omega arith) (omega (arith, some-nodes t)) refl refl) lo k p) e (omega arith)
laid-row (cond t qs) s d a lo L m k p e q =
    let i = a + nodes t in
    laid-row qs s d (i + 1) lo L.2 (omega arith) (omega arith) (row_step L.1 (omega arith) (is-qualifier (No.ncond (i - 1)) L.1 (omega arith) (omega (arith, some-nodes t)) refl refl) lo k p) e (omega arith)

comp-row : (qs : Quals) (h : Term) (s : List ℕ) (d a j : ℕ) → LaidQ s (d + 1) a qs → Laid s (d + 1) (a + nodes_q qs) h → LaidNode s d a j comprehension → a + nodes_q qs + nodes h ≡ j → j < most_nodes → Ahead s d a
    → (qualifiers_of s j ≡ row s (depth_at s (j - 1)) (start_at s (j - 1))) × TermAt s (j - 1)
comp-row qs h s d a j L M N e m B =
    let z = last-at h s (d + 1) (a + nodes_q qs) j M (omega arith) e in
    let b : start_at s j ≡ a = omega (arith, N.start) in
    let c : start_at s (j - 1) ≡ a + nodes_q qs = ap (λ (x : ℕ). start_at s (x - 1)) (sym e) ∙ laid-start h s (d + 1) (a + nodes_q qs) M in
    let r : chain s a a ≡ row s (d + 1) a = chain-none s a a (omega arith) ∙ sym (row-none s (d + 1) a (no_end s d a B)) in (
      ap₂ (chain s) b c ∙ laid-row qs s (d + 1) a a L (omega (arith, e, m)) (omega arith) r (a + nodes_q qs) refl ∙ sym (ap₂ (row s) z.depth c),
      z.kind,
    )

-- ---- every node
abbrev AlignedOf : List ℕ → ℕ → Type 0
AlignedOf s j = Aligned s (nodes_of s j)

aligned-by : {s : List ℕ} {d a i : ℕ} {K : Kind} → LaidNode s d a i K → (j : ℕ) → i ≡ j → j < most_nodes → Aligned s (node_by s j K) → AlignedOf s j
aligned-by {s} N j e h l = subst (Aligned s) (sym (node-is (node_at_lem e N) h)) l

aligned-above : (s : List ℕ) (i : ℕ) (n : No.Node) → Aligned s n → Aligned s (above i n)
unfolding above
aligned-above s i n l = by-pick (Aligned s) (ltb 0 i) n No.nbad (λ t. l) (λ t. tt)

aligned-name : (s : List ℕ) (i w : ℕ) → Aligned s (name_by s i w)
unfolding name_by
aligned-name s i w =
    let d = depth_at s (w - 1) in
    let y = No.nname (w - 1) (d - 1) in
    let P = Aligned s in
    by-pick P (ltb 0 w) (pick (leb w i) (pick (ltb 0 d) y No.nbad) No.nbad) No.nbad
    (λ a. by-pick P (leb w i) (pick (ltb 0 d) y No.nbad) No.nbad (λ b. by-pick P (ltb 0 d) y No.nbad (λ c. tt) (λ c. tt)) (λ b. tt)) (λ a. tt)

-- by whether a node stands before a place, or is the last before the next one
either : (s : List ℕ) (j y : ℕ) → (j < y → AlignedOf s j) → (y ≤ j → AlignedOf s j) → AlignedOf s j
either s j y p q = by-test (ltb j y) (λ t. p (ltb-true j y t)) (λ t. q (ltb-false j y t))

upto : (s : List ℕ) (j y : ℕ) → j < y + 1 → (j < y → AlignedOf s j) → (y ≡ j → AlignedOf s j) → AlignedOf s j
upto s j y h p q = either s j y p (λ l. q (omega arith))

two_terms : (t u : Term) (s : List ℕ) (d a j : ℕ) → Laid s d a t → Laid s d (a + nodes t) u → a + nodes t + nodes u ≡ j → j < most_nodes → TermAt s (start_at s (j - 1) - 1) × TermAt s (j - 1)
two_terms t u s d a j L M e m =
    let b : start_at s (j - 1) ≡ a + nodes t = ap (λ (x : ℕ). start_at s (x - 1)) (sym e) ∙ laid-start u s d (a + nodes t) M in
    (ap (λ (x : ℕ). qualifies (nodes_of s (x - 1))) b ∙ (last-at t s d a (a + nodes t) L (omega arith) refl).kind, (last-at u s d (a + nodes t) j M (omega arith) e).kind)

mutual
  unfolding nodes

  aligned : (t : Term) (s : List ℕ) (d a : ℕ) → Laid s d a t → a + nodes t ≤ most_nodes → Ahead s d a → (j : ℕ) → a ≤ j → j < a + nodes t → AlignedOf s j
  aligned (num z) s d a L m B j p q = aligned-by L.0 j (omega arith) (omega arith) tt
  aligned (truth b) s d a L m B j p q = aligned-by L.0 j (omega arith) (omega arith) tt
  aligned (name x) s d a L m B j p q = aligned-by L.0 j (omega arith) (omega arith) (aligned-name s j (binder_word s (arg_at s j)))
  aligned (field k t) s d a L m B j p q =
      upto s j (a + nodes t) (omega arith) (λ l. aligned t s d a L.0 (omega arith) B j p l)
      (λ e. aligned-by L.1 j e (omega arith) (aligned-above s j (No.nfield (arg_at s j) (j - 1)) (last-at t s d a j L.0 (omega arith) e).kind))
  aligned (rec ts) s d a L m B j p q =
      upto s j (a + nodes_l ts) (omega arith) (λ l. aligned_l ts s d a L.0 (omega arith) B j p l)
      (λ e. aligned-by L.1 j e (omega arith) (subst (TermsAt s) (sym (ap (children_of s) (sym e) ∙ children-are ts s d a L.0 (counted ts L.1 L.2))) (terms-at ts s d a L.0 (omega arith))))
  aligned (app choice ts) s d a L m B j p q =
      upto s j (a + nodes_l ts) (omega arith) (λ l. aligned_l ts s d a L.0 (omega arith) B j p l)
      (λ e. aligned-by L.1 j e (omega arith) (subst (TermsAt s) (sym (ap (children_of s) (sym e) ∙ children-are ts s d a L.0 (counted-op choice ts L.1 L.2 L.3))) (terms-at ts s d a L.0 (omega arith))))
  aligned (app (is_open n c) ts) s d a L m B j p q =
      upto s j (a + nodes_l ts) (omega arith) (λ l. aligned_l ts s d a L.0 (omega arith) B j p l)
      (λ e. aligned-by L.1 j e (omega arith) (subst (TermsAt s) (sym (ap (children_of s) (sym e) ∙ children-are ts s d a L.0 (counted-op (is_open n c) ts L.1 L.2 L.3))) (terms-at ts s d a L.0 (omega arith))))
  aligned (bin o t u) s d a L m B j p q =
      upto s j (a + nodes t + nodes u) (omega arith)
      (λ l. either s j (a + nodes t) (λ k. aligned t s d a L.0 (omega arith) B j p k) (λ k. aligned u s d (a + nodes t) L.1 (omega arith) (behind-tree t s d a L.0 (omega arith)) j k l))
      (λ e. aligned-by L.2 j e (omega arith) (aligned-above s j (No.nbin o (start_at s (j - 1) - 1) (j - 1)) (two_terms t u s d a j L.0 L.1 e (omega arith))))
  aligned (negate t) s d a L m B j p q =
      upto s j (a + nodes t) (omega arith) (λ l. aligned t s d a L.0 (omega arith) B j p l)
      (λ e. aligned-by L.1 j e (omega arith) (aligned-above s j (No.nnegate (j - 1)) (last-at t s d a j L.0 (omega arith) e).kind))
  aligned (comp n qs t) s d a L m B j p q =
      upto s j (a + nodes_q qs + nodes t) (omega arith)
      (λ l. either s j (a + nodes_q qs) (λ k. aligned_q qs s (d + 1) a L.0 (omega arith) (deeper s d a B) j p k)
      (λ k. aligned t s (d + 1) (a + nodes_q qs) L.1 (omega arith) (behind-quals qs s (d + 1) a L.0 (deeper s d a B) (a + nodes_q qs) refl) j k l))
      (λ e. aligned-by L.2 j e (omega arith) (aligned-above s j (No.ncomp (monoid_at (arg_at s j)) (qualifiers_of s j) (j - 1)) (comp-row qs t s d a j L.0 L.1 (node_at_lem e L.2) e (omega arith) B)))
  aligned (table k) s d a L m B j p q = aligned-by L.0 j (omega arith) (omega arith) tt

  aligned_l : (ts : Terms) (s : List ℕ) (d a : ℕ) → LaidL s d a ts → a + nodes_l ts ≤ most_nodes → Ahead s d a → (j : ℕ) → a ≤ j → j < a + nodes_l ts → AlignedOf s j
  aligned_l tnil s d a L m B j p q = absurd (omega arith)
  aligned_l (tcons t ts) s d a L m B j p q =
      either s j (a + nodes t) (λ k. aligned t s d a L.0 (omega arith) B j p k) (λ k. aligned_l ts s d (a + nodes t) L.1 (omega arith) (behind-tree t s d a L.0 (omega arith)) j k (omega arith))

  aligned_q : (qs : Quals) (s : List ℕ) (d a : ℕ) → LaidQ s d a qs → a + nodes_q qs ≤ most_nodes → Ahead s d a → (j : ℕ) → a ≤ j → j < a + nodes_q qs → AlignedOf s j
  aligned_q qnil s d a L m B j p q = absurd (omega arith)
  aligned_q (gen x t qs) s d a L m B j p q =
      either s j (a + nodes t + 1)
      (λ k. upto s j (a + nodes t) k (λ l. aligned t s d a L.0 (omega arith) B j p l)
      (λ e. aligned-by L.1 j e (omega arith) (aligned-above s j (No.ngen (j - 1)) (last-at t s d a j L.0 (omega arith) e).kind)))
      (λ k. aligned_q qs s d (a + nodes t + 1) L.3 (omega arith) (behind-node L.1) j k (omega arith))
  aligned_q (bind x t qs) s d a L m B j p q =
      either s j (a + nodes t + 1)
      (λ k. upto s j (a + nodes t) k (λ l. aligned t s d a L.0 (omega arith) B j p l)
      (λ e. aligned-by L.1 j e (omega arith) (aligned-above s j (No.nbind (j - 1)) (last-at t s d a j L.0 (omega arith) e).kind)))
      (λ k. aligned_q qs s d (a + nodes t + 1) L.3 (omega arith) (behind-node L.1) j k (omega arith))
  aligned_q (cond t qs) s d a L m B j p q =
      either s j (a + nodes t + 1)
      (λ k. upto s j (a + nodes t) k (λ l. aligned t s d a L.0 (omega arith) B j p l)
      (λ e. aligned-by L.1 j e (omega arith) (aligned-above s j (No.ncond (j - 1)) (last-at t s d a j L.0 (omega arith) e).kind)))
      (λ k. aligned_q qs s d (a + nodes t + 1) L.2 (omega arith) (behind-node L.1) j k (omega arith))

-- The nodes of a question that lies in the words are as measuring asks.
pub laid-arranged : (s : List ℕ) (t : Term) → Laid s 0 0 t → nodes t ≤ most_nodes → Arranged s (nodes t)
laid-arranged s t L h = record {
  levelled = laid-levelled s t L h;
  aligned = λ i l. aligned t s 0 0 L (omega arith) (λ p. absurd (omega arith)) i (omega arith) (omega arith);
}
