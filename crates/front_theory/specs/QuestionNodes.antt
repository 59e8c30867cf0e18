-- Which node holds which part of a question, and where the generators of its qualifiers are numbered.
use Rattle.std.specs.Prelude.{◌≡◌, List, [], ◌∷◌, Bool, ℕ, suc, ◌+◌, ◌<◌}
use Rattle.spec_calculus.specs.Lists.{upd}
use Rattle.spec_calculus.specs.Syntax.{Collection, Term, Terms, Quals, num, truth, name, field, rec, bin, negate, comp, table, tnil, tcons, qnil, gen, bind, cond, app}
use Rattle.front_theory.specs.NodeTable.{Nodes, nnum, ntruth, nname, nfield, nrec, nbin, nnegate, ncomp, ntable, ngen, nbind, ncond, qualifiers}
use Rattle.front_theory.specs.NodeForms.{Offsets, levels, count_of}
use Rattle.front_theory.specs.NodeTable.{napp}

-- where a name is bound: the qualifier, and one more than its comprehension's depth; level 0 where the name does not hold
pub record Slot : Type 0 where
  pub by : ℕ
  pub level : ℕ

abbrev pub Slots : Type 0
Slots = ℕ → Slot

abbrev pub slot : ℕ → ℕ → Slot
slot y D = record { by = y; level = suc D }

abbrev pub no_names : Slots
no_names = λ x. record { by = 0; level = 0 }

unfoldable pub first_of : List ℕ → ℕ
first_of [] = 0
first_of (c ∷ cs) = c

unfoldable pub rest_of : List ℕ → List ℕ
rest_of [] = []
rest_of (c ∷ cs) = cs

-- the names that hold behind qualifiers of a comprehension at depth D
unfoldable pub behind : Quals → List ℕ → ℕ → Slots → Slots
behind qnil cs D S = S
behind (gen x t qs) cs D S = behind qs (rest_of cs) D (upd x (slot (first_of cs) D) S)
behind (bind x t qs) cs D S = behind qs (rest_of cs) D (upd x (slot (first_of cs) D) S)
behind (cond t qs) cs D S = behind qs (rest_of cs) D S

-- Node i at depth D holds the term, where the names of S hold. `dep` is the depth that each qualifier's node records.
unfoldable mutual
  pub Holds : Nodes → (ℕ → ℕ) → Term → ℕ → ℕ → Slots → Type 0
  Holds N dep (num z) i D S = N i ≡ nnum z
  Holds N dep (truth b) i D S = N i ≡ ntruth b
  Holds N dep (name x) i D S = (d : ℕ) × (N i ≡ nname (S x).by d) × ((S x).level ≡ suc d)
  Holds N dep (field k t) i D S = (c : ℕ) × (N i ≡ nfield k c) × Holds N dep t c D S
  Holds N dep (rec ts) i D S = (cs : List ℕ) × (N i ≡ nrec cs) × HoldsL N dep ts cs D S
  Holds N dep (app f ts) i D S = (cs : List ℕ) × (N i ≡ napp f cs) × HoldsL N dep ts cs D S
  Holds N dep (bin o s t) i D S = (a : ℕ) × (b : ℕ) × (N i ≡ nbin o a b) × Holds N dep s a D S × Holds N dep t b D S
  Holds N dep (negate t) i D S = (c : ℕ) × (N i ≡ nnegate c) × Holds N dep t c D S
  Holds N dep (comp m qs h) i D S = (cs : List ℕ) × (k : ℕ) × (N i ≡ ncomp m cs k) × (D < levels) × HoldsQ N dep qs cs D S × Holds N dep h k (suc D) (behind qs cs D S)
  Holds N dep (table k) i D S = N i ≡ ntable k

  pub HoldsL : Nodes → (ℕ → ℕ) → Terms → List ℕ → ℕ → Slots → Type 0
  HoldsL N dep tnil cs D S = cs ≡ []
  HoldsL N dep (tcons t ts) cs D S = (c : ℕ) × (ds : List ℕ) × (cs ≡ c ∷ ds) × Holds N dep t c D S × HoldsL N dep ts ds D S

  -- nodes cs hold the qualifiers of a comprehension at depth D
  pub HoldsQ : Nodes → (ℕ → ℕ) → Quals → List ℕ → ℕ → Slots → Type 0
  HoldsQ N dep qnil cs D S = cs ≡ []
  HoldsQ N dep (gen x t qs) cs D S =
      (c : ℕ) × (cs ≡ first_of cs ∷ rest_of cs) × (N (first_of cs) ≡ ngen c) × (dep (first_of cs) ≡ suc D)
      × Holds N dep t c (suc D) S × HoldsQ N dep qs (rest_of cs) D (upd x (slot (first_of cs) D) S)
  HoldsQ N dep (bind x t qs) cs D S =
      (c : ℕ) × (cs ≡ first_of cs ∷ rest_of cs) × (N (first_of cs) ≡ nbind c) × (dep (first_of cs) ≡ suc D)
      × Holds N dep t c (suc D) S × HoldsQ N dep qs (rest_of cs) D (upd x (slot (first_of cs) D) S)
  HoldsQ N dep (cond t qs) cs D S =
      (c : ℕ) × (cs ≡ first_of cs ∷ rest_of cs) × (N (first_of cs) ≡ ncond c) × (dep (first_of cs) ≡ suc D)
      × Holds N dep t c (suc D) S × HoldsQ N dep qs (rest_of cs) D S

-- Each generator's numbers begin behind those of the qualifiers before it, of which there are g; ρ is what is seen of a
-- number.
unfoldable pub PlacedQ : (ℕ → ℕ) → (ℕ → Collection) → Nodes → (ℕ → ℕ) → Offsets → List ℕ → (Bool → ℕ) → Type 0
PlacedQ ρ K N dep off [] g = Unit {0}
PlacedQ ρ K N dep off (c ∷ cs) g = ((a : ℕ) → N c ≡ ngen a → (v : Bool) (n : ℕ) → ρ (off c v n) ≡ ρ (n + g v)) × PlacedQ ρ K N dep off cs (λ v. g v + count_of K N c (dep c) v)

-- the same in each comprehension
abbrev pub Placed : (ℕ → ℕ) → (ℕ → Collection) → Nodes → (ℕ → ℕ) → Offsets → Type 0
Placed ρ K N dep off = (i : ℕ) → PlacedQ ρ K N dep off (qualifiers (N i)) (λ v. 0)
