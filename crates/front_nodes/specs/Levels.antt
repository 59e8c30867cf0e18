-- Depths that agree: the children of a node have its depth, those of a comprehension one more, and a name knows its binder's.
use Rattle.std.specs.Prelude.{◌≡◌, List, [], ◌∷◌, ℕ, suc, ◌<◌}
use Rattle.front_theory.specs.NodeTable.{Node, Nodes, nnum, ntruth, nname, nfield, nrec, nbin, nnegate, napp, ncomp, ntable, ngen, nbind, ncond, nbad}

unfoldable pub AllAt : (ℕ → ℕ) → ℕ → List ℕ → Type 0
AllAt dep D [] = Unit {0}
AllAt dep D (c ∷ cs) = (dep c ≡ D) × AllAt dep D cs

-- what a node of depth D asks of the depths of others
abbrev pub Level : (ℕ → ℕ) → ℕ → Node → Type 0
Level dep D (nnum z) = Unit {0}
Level dep D (ntruth b) = Unit {0}
Level dep D (nname x d) = dep x ≡ suc d
Level dep D (nfield k c) = dep c ≡ D
Level dep D (nrec cs) = AllAt dep D cs
Level dep D (napp f cs) = AllAt dep D cs
Level dep D (nbin o a b) = (dep a ≡ D) × (dep b ≡ D)
Level dep D (nnegate c) = dep c ≡ D
Level dep D (ncomp m cs h) = AllAt dep (suc D) cs × (dep h ≡ suc D)
Level dep D (ntable k) = Unit {0}
Level dep D (ngen c) = dep c ≡ D
Level dep D (nbind c) = dep c ≡ D
Level dep D (ncond c) = dep c ≡ D
Level dep D nbad = Unit {0}

-- so it is at every node below n
abbrev pub Levelled : Nodes → (ℕ → ℕ) → ℕ → Type 0
Levelled N dep n = (i : ℕ) → i < n → Level dep (dep i) (N i)
