-- What measuring asks of a question's nodes, and the qualifiers that stand before a node.
use Rattle.std.specs.Prelude.{◌≡◌, List, [], ◌∷◌, ◌++◌, Bool, true, false, ◌&&◌, ℕ, zero, suc, ◌-◌, ◌<◌, eqb, ltb}
use Rattle.spec_calculus.specs.Lists.{pick}
use Rattle.front_theory.specs.NodeTable.{Node, nnum, ntruth, nname, nfield, nrec, nbin, nnegate, napp, ncomp, ntable, ngen, nbind, ncond, nbad}
use Rattle.front_words.specs.NodeTree.{start_at}
use Rattle.front_nodes.specs.NodeTable.{depth_at, nodes_of}
use Rattle.front_nodes.specs.Levels.{Levelled}

abbrev pub qualifies : Node → Bool
qualifies (nnum z) = false
qualifies (ntruth b) = false
qualifies (nname x d) = false
qualifies (nfield k c) = false
qualifies (nrec cs) = false
qualifies (napp f cs) = false
qualifies (nbin o a b) = false
qualifies (nnegate c) = false
qualifies (ncomp m cs h) = false
qualifies (ntable k) = false
qualifies (ngen c) = true
qualifies (nbind c) = true
qualifies (ncond c) = true
qualifies nbad = false

-- a qualifier of depth d ends at e
unfoldable pub ends : List ℕ → ℕ → ℕ → Bool
ends s d e = ltb 0 e && (eqb (depth_at s (e - 1)) d && qualifies (nodes_of s (e - 1)))

-- the qualifiers of depth d one behind the other that end at e, where at most f steps back are gone
unfoldable pub row_upto : ℕ → List ℕ → ℕ → ℕ → List ℕ
row_upto zero s d e = []
row_upto (suc f) s d e = pick (ends s d e) (row_upto f s d (start_at s (e - 1)) ++ ((e - 1) ∷ [])) []

-- each step goes back by one node at least, so e steps are enough
abbrev pub row : List ℕ → ℕ → ℕ → List ℕ
row s d e = row_upto e s d e

-- those before qualifier i
abbrev pub ahead : List ℕ → ℕ → List ℕ
ahead s i = row s (depth_at s i) (start_at s i)

abbrev pub TermAt : List ℕ → ℕ → Type 0
TermAt s c = qualifies (nodes_of s c) ≡ false

unfoldable pub TermsAt : List ℕ → List ℕ → Type 0
TermsAt s [] = Unit {0}
TermsAt s (c ∷ cs) = TermAt s c × TermsAt s cs

-- A node's children are terms, but for the qualifiers of a comprehension: these are the row that ends at its head.
abbrev pub Aligned : List ℕ → Node → Type 0
Aligned s (nnum z) = Unit {0}
Aligned s (ntruth b) = Unit {0}
Aligned s (nname x d) = Unit {0}
Aligned s (nfield k c) = TermAt s c
Aligned s (nrec cs) = TermsAt s cs
Aligned s (napp f cs) = TermsAt s cs
Aligned s (nbin o a b) = TermAt s a × TermAt s b
Aligned s (nnegate c) = TermAt s c
Aligned s (ncomp m cs h) = (cs ≡ row s (depth_at s h) (start_at s h)) × TermAt s h
Aligned s (ntable k) = Unit {0}
Aligned s (ngen c) = TermAt s c
Aligned s (nbind c) = TermAt s c
Aligned s (ncond c) = TermAt s c
Aligned s nbad = Unit {0}

-- What reading a question leaves of its n nodes (proofs/LaidQuestion).
pub record Arranged (s : List ℕ) (n : ℕ) : Type 0 where
  pub levelled : Levelled (nodes_of s) (depth_at s) n
  pub aligned : (i : ℕ) → i < n → Aligned s (nodes_of s i)
