-- Depths that are the same for the nodes before a node: what it asks of them is the same.
use mathlib.Core.Path.{◌≡◌, sym, ◌∙◌}
use mathlib.Core.List.{List, [], ◌∷◌}
use Prim.Native.Nat.{ℕ, suc, ◌<◌}
use Rattle.front_theory.specs.NodeTable.{Node, nnum, ntruth, nname, nfield, nrec, nbin, nnegate, napp, ncomp, ntable, ngen, nbind, ncond, nbad, Below, Inside}
use Rattle.front_nodes.specs.Levels.{AllAt, Level}

module _ (dep dep' : ℕ → ℕ) (i : ℕ) (h : (j : ℕ) → j < i → dep j ≡ dep' j) where
  all_same : (D : ℕ) (cs : List ℕ) → Below i cs → AllAt dep D cs → AllAt dep' D cs
  unfolding Below AllAt
  all_same D [] b a = tt
  all_same D (c ∷ cs) b a = (sym (h c b.0) ∙ a.0, all_same D cs b.1 a.1)

  pub level-same : (D : ℕ) (y : Node) → Inside i y → Level dep D y → Level dep' D y
  level-same D (nnum z) p a = a
  level-same D (ntruth b) p a = a
  level-same D (nname x d) p a = sym (h x p) ∙ a
  level-same D (nfield k c) p a = sym (h c p) ∙ a
  level-same D (nrec cs) p a = all_same D cs p a
  level-same D (napp f cs) p a = all_same D cs p a
  level-same D (nbin o b c) p a = (sym (h b p.0) ∙ a.0, sym (h c p.1) ∙ a.1)
  level-same D (nnegate c) p a = sym (h c p) ∙ a
  level-same D (ncomp m cs k) p a = (all_same (suc D) cs p.0 a.0, sym (h k p.1) ∙ a.1)
  level-same D (ntable k) p a = a
  level-same D (ngen c) p a = sym (h c p) ∙ a
  level-same D (nbind c) p a = sym (h c p) ∙ a
  level-same D (ncond c) p a = sym (h c p) ∙ a
  level-same D nbad p a = a
