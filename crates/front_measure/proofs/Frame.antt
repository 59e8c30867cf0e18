-- Words from the sizes on are no part of the table: where those before them are the same, so is all that is asked of a node.
use mathlib.Core.Path.{◌≡◌, refl, sym, ap, ap₂, subst, ◌∙◌}
use mathlib.Core.List.{List, [], ◌∷◌, ◌++◌}
use mathlib.Core.Bool.{Bool, ◌&&◌}
use Prim.Native.Nat.{ℕ, zero, suc, ◌+◌, ◌-◌, ◌<◌, ◌≤◌}
use native.Mathlib.Omega.{arith}
use lib.Dec.{eqb, ltb}
use lib.ListN.{get_or}
use Rattle.spec_calculus.specs.Lists.{pick}
use Rattle.spec_calculus.specs.Syntax.{Collection}
use Rattle.front_theory.specs.NodeTable.{Node, Nodes, nnum, ntruth, nname, nfield, nrec, nbin, nnegate, napp, ncomp, ntable, ngen, nbind, ncond, nbad, Inside}
use Rattle.base_scratch.specs.Map.{nodes_at, binders_at, sizes_at, most_nodes}
use Rattle.front_words.specs.NodeTree.{start_at}
use Rattle.front_sizes.specs.declared.FormSize.{FormSize}
use Rattle.front_nodes.specs.NodeTable.{depth_at, nodes_of}
use Rattle.front_nodes.specs.Levels.{Level}
use Rattle.front_nodes.proofs.PostOrder.{post-order}
use Rattle.front_nodes.proofs.Depths.{level-same}
use Rattle.front_nodes.proofs.SameTable.{start-same, depth_same, nodes-same}
use Rattle.front_measure.specs.MeasurableNodes.{qualifies, ends, row_upto, row, ahead, TermAt, TermsAt, Aligned, Arranged}
use Rattle.front_measure.specs.KeptSizes.{Writes, Adds, Measured}

module _ (s r : List ℕ) (front : (j : ℕ) → j < sizes_at → get_or r j 0 ≡ get_or s j 0) where
  words : (j : ℕ) → j < most_nodes → get_or r (nodes_at + j) 0 ≡ get_or s (nodes_at + j) 0
  words j h = front (nodes_at + j) (omega arith)

  bound : (x : ℕ) → x < most_nodes → get_or r (binders_at + x) 0 ≡ get_or s (binders_at + x) 0
  bound x h = front (binders_at + x) (omega arith)

  pub table_same : nodes_of r ≡ nodes_of s
  table_same = nodes-same s r words bound

  pub depths-same : (j : ℕ) → j < most_nodes → depth_at r j ≡ depth_at s j
  depths-same = depth_same s r words bound

  starts : (j : ℕ) → j < most_nodes → start_at r j ≡ start_at s j
  starts = start-same s r words bound

  ends_same : (d e : ℕ) → e ≤ most_nodes → ends r d e ≡ ends s d e
  unfolding ends
  ends_same d e h =
      ap₂ (λ (x : ℕ) (N : Nodes). ltb 0 e && (eqb x d && qualifies (N (e - 1)))) (depths-same (e - 1) (omega arith)) table_same

  row_upto_lem : (f d e : ℕ) → e ≤ most_nodes → row_upto f r d e ≡ row_upto f s d e
  unfolding row_upto
  row_upto_lem zero d e h = refl
  row_upto_lem (suc f) d e h =
      ap₂ (λ b (l : List ℕ). pick b (l ++ ((e - 1) ∷ [])) []) (ends_same d e h)
      (ap (λ (a : ℕ). row_upto f r d a) (starts (e - 1) (omega arith)) ∙ row_upto_lem f d (start_at s (e - 1)) (omega arith))

  -- the row that ends where node h begins, at its depth
  row_same : (h : ℕ) → h < most_nodes → row r (depth_at r h) (start_at r h) ≡ row s (depth_at s h) (start_at s h)
  row_same h l = ap₂ (row r) (depths-same h l) (starts h l) ∙ row_upto_lem (start_at s h) (depth_at s h) (start_at s h) (omega arith)

  term-same : (c : ℕ) → TermAt s c → TermAt r c
  term-same c h = ap (λ (N : Nodes). qualifies (N c)) table_same ∙ h

  terms-same : (cs : List ℕ) → TermsAt s cs → TermsAt r cs
  unfolding TermsAt
  terms-same [] h = tt
  terms-same (c ∷ cs) h = (term-same c h.0, terms-same cs h.1)

  aligned-same : (i : ℕ) (y : Node) → i < most_nodes → Inside i y → Aligned s y → Aligned r y
  aligned-same i (nnum z) l p a = a
  aligned-same i (ntruth b) l p a = a
  aligned-same i (nname x d) l p a = a
  aligned-same i (nfield k c) l p a = term-same c a
  aligned-same i (nrec cs) l p a = terms-same cs a
  aligned-same i (napp f cs) l p a = terms-same cs a
  aligned-same i (nbin o b c) l p a = (term-same b a.0, term-same c a.1)
  aligned-same i (nnegate c) l p a = term-same c a
  aligned-same i (ncomp m cs h) l p a = (a.0 ∙ sym (row_same h (omega (arith, l, p.1))), term-same h a.1)
  aligned-same i (ntable k) l p a = a
  aligned-same i (ngen c) l p a = term-same c a
  aligned-same i (nbind c) l p a = term-same c a
  aligned-same i (ncond c) l p a = term-same c a
  aligned-same i nbad l p a = a

  pub arranged-same : (n : ℕ) → n ≤ most_nodes → Arranged s n → Arranged r n
  arranged-same n l A = record {
    levelled = λ i k. subst (λ (N : Nodes). Level (depth_at r) (depth_at r i) (N i)) (sym table_same)
        (subst (λ (d : ℕ). Level (depth_at r) d (nodes_of s i)) (sym (depths-same i (omega arith)))
        (level-same (depth_at s) (depth_at r) i (λ j p. sym (depths-same j (omega arith))) (depth_at s i) (nodes_of s i) (post-order s i) (A.levelled i k)));
    aligned = λ i k. subst (λ (N : Nodes). Aligned r (N i)) (sym table_same) (aligned-same i (nodes_of s i) (omega arith) (post-order s i) (A.aligned i k));
  }

  pub measured-same : {K : ℕ → Collection} {i : ℕ} {t : FormSize} {c p : Bool → FormSize} {o : Bool → ℕ} → i < most_nodes → Measured K s i t c p o → Measured K r i t c p o
  measured-same {K} {i} {t} {c} {p} {o} l M = record {
    term = λ q. subst (λ (N : Nodes). Writes K N (depth_at r i) i t c p) (sym table_same)
        (subst (λ (d : ℕ). Writes K (nodes_of s) d i t c p) (sym (depths-same i l)) (M.term (ap (λ (N : Nodes). qualifies (N i)) (sym table_same) ∙ q)));
    qualifier = λ q. subst (λ (N : Nodes). Adds K N (depth_at r i) (ahead r i) i c p o) (sym table_same)
        (subst (λ (d : ℕ). Adds K (nodes_of s) d (ahead r i) i c p o) (sym (depths-same i l))
        (subst (λ (b : List ℕ). Adds K (nodes_of s) (depth_at s i) b i c p o) (sym (row_same i l)) (M.qualifier (ap (λ (N : Nodes). qualifies (N i)) (sym table_same) ∙ q))));
    apart = λ q. M.apart (ap (λ (N : Nodes). qualifies (N i)) (sym table_same) ∙ q);
    bare = λ q. M.bare (ap (λ (N : Nodes). qualifies (N i)) (sym table_same) ∙ q);
  }
