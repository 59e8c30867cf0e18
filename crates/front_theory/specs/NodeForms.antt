-- What a node comes to: `norm` over a node table. Where `norm` hands on what each name comes to, a name here is looked up by
-- going back to the qualifier that binds it. All that must be known for that is, for each comprehension around the node, in
-- which copy of it we stand.
use Rattle.std.specs.Prelude.{List, [], ◌∷◌, Bool, false, ◌||◌, ℕ, zero, suc, ◌+◌, ltb}
use Rattle.spec_calculus.specs.Lists.{pick, upd}
use Rattle.spec_calculus.specs.Syntax.{Collection, Monoid, of}
use Rattle.spec_normal_form.specs.Form.{Clauses, done, ◌⊕◌, gens_c}
use Rattle.spec_normal_form.specs.Form as Nf
use Rattle.spec_normal_form.specs.Normal.{Sem, Sems, row, fields, nested, plain, snil, scons, nothing, quote, idempotent, condition, ranges, part, binary, applied}
use Rattle.front_theory.specs.NodeTable.{Node, Nodes, nnum, ntruth, nname, nfield, nrec, nbin, nnegate, ncomp, ntable, ngen, nbind, ncond, nbad}
use Rattle.front_theory.specs.NodeTable.{napp}

-- a copy of a comprehension: the first number of its generators, and whether "some" gives way in it
pub record Entry : Type 0 where
  pub base : ℕ
  pub flag : Bool

-- the copy in which we stand, by the comprehension's depth
abbrev pub Env : Type 0
Env = ℕ → Entry

abbrev pub enter : ℕ → ℕ → Bool → Env → Env
enter d n v e = upd d (record { base = n; flag = v }) e

-- no comprehension was entered
abbrev pub outside : Env
outside = λ d. record { base = 0; flag = false }

-- the first number of what a generator writes, in a copy of its comprehension with that flag and that first number
abbrev pub Offsets : Type 0
Offsets = ℕ → Bool → ℕ → ℕ

-- what a node comes to, at a depth, in an environment
abbrev pub At : Type 0
At = ℕ → ℕ → Env → Sem

-- what the name comes to that qualifier x binds, in a comprehension at depth d
abbrev pub bound_of : Offsets → At → ℕ → ℕ → Env → Node → Sem
bound_of off A x d e (nbind c) = A c (suc d) e
bound_of off A x d e (ngen c) = (ranges (A c (suc d) e) (e d).flag (off x (e d).flag (e d).base)).head
bound_of off A x d e (nnum z) = nothing
bound_of off A x d e (ntruth b) = nothing
bound_of off A x d e (nname y k) = nothing
bound_of off A x d e (nfield i c) = nothing
bound_of off A x d e (nrec cs) = nothing
bound_of off A x d e (napp f cs) = nothing
bound_of off A x d e (nbin o a b) = nothing
bound_of off A x d e (nnegate c) = nothing
bound_of off A x d e (ncomp m cs h) = nothing
bound_of off A x d e (ntable k) = nothing
bound_of off A x d e (ncond c) = nothing
bound_of off A x d e nbad = nothing

-- what a qualifier writes, from number n on; v says whether "some" gives way
abbrev pub qual_of : At → ℕ → Env → Bool → ℕ → Node → Clauses
qual_of A D e v n (ngen c) = (ranges (A c D e) v n).clauses
qual_of A D e v n (ncond c) = condition (A c D e) v n
qual_of A D e v n (nbind c) = done
qual_of A D e v n (nnum z) = done
qual_of A D e v n (ntruth b) = done
qual_of A D e v n (nname y k) = done
qual_of A D e v n (nfield i c) = done
qual_of A D e v n (nrec cs) = done
qual_of A D e v n (napp f cs) = done
qual_of A D e v n (nbin o a b) = done
qual_of A D e v n (nnegate c) = done
qual_of A D e v n (ncomp m cs h) = done
qual_of A D e v n (ntable k) = done
qual_of A D e v n nbad = done

-- what these qualifiers write
unfoldable pub clauses_of : Nodes → At → ℕ → Env → Bool → ℕ → List ℕ → Clauses
clauses_of N A D e v n [] = done
clauses_of N A D e v n (c ∷ cs) = let w = qual_of A D e v n (N c) in w ⊕ clauses_of N A D e v (n + gens_c w) cs

unfoldable pub sems_of : At → List ℕ → ℕ → Env → Sems
sems_of A [] D e = snil
sems_of A (c ∷ cs) D e = scons (A c D e) (sems_of A cs D e)

-- a comprehension at depth D: to write it is to enter a copy of it
abbrev pub comp_of : Nodes → At → Monoid → List ℕ → ℕ → ℕ → Env → Sem
comp_of N A m cs h D e =
    nested m (λ b n. clauses_of N A (suc D) (enter D n (b || idempotent m) e) (b || idempotent m) n cs) (λ b n. A h (suc D) (enter D n (b || idempotent m) e))

-- "a 33rd level" is refused (23), so no comprehension is deeper
abbrev pub levels : ℕ
levels = 32

-- What a node comes to, where A says what the nodes before it come to. A name whose comprehension is not around it, and a
-- comprehension that is too deep, come to nothing: so no entry but those of the comprehensions around it is ever read.
abbrev pub sem_of : (ℕ → Collection) → Nodes → Offsets → At → Node → ℕ → Env → Sem
sem_of K N off A (nnum z) D e = plain (λ n. Nf.num z)
sem_of K N off A (ntruth b) D e = plain (λ n. Nf.truth b)
sem_of K N off A (nname x d) D e = pick (ltb d D) (bound_of off A x d e (N x)) nothing
sem_of K N off A (nfield i c) D e = part i (A c D e)
sem_of K N off A (nrec cs) D e = fields (sems_of A cs D e)
sem_of K N off A (napp f cs) D e = applied f (sems_of A cs D e)
sem_of K N off A (nbin o a b) D e = binary o (A a D e) (A b D e)
sem_of K N off A (nnegate c) D e = plain (λ n. Nf.negate (quote (A c D e) n))
sem_of K N off A (ncomp m cs h) D e = pick (ltb D levels) (comp_of N A m cs h D e) nothing
sem_of K N off A (ntable k) D e = nested (of (K k)) (λ b n. Nf.gen n k done) (λ b n. row n)
sem_of K N off A (ngen c) D e = nothing
sem_of K N off A (nbind c) D e = nothing
sem_of K N off A (ncond c) D e = nothing
sem_of K N off A nbad D e = nothing

-- what node i comes to, where at most f steps back are gone
unfoldable pub sem_at : (ℕ → Collection) → Nodes → Offsets → ℕ → At
sem_at K N off zero i D e = nothing
sem_at K N off (suc f) i D e = sem_of K N off (λ j. sem_at K N off f j) (N i) D e

-- what node i comes to
unfoldable pub sem : (ℕ → Collection) → Nodes → Offsets → At
sem K N off i D e = sem_at K N off (suc i) i D e

-- how many generators qualifier x writes, at depth D; neither the copy nor the offsets matter (proofs/StaticCounts)
abbrev pub count_of : (ℕ → Collection) → Nodes → ℕ → ℕ → Bool → ℕ
count_of K N x D v = gens_c (qual_of (λ j. sem_at K N (λ y b n. n) x j) D outside v 0 (N x))
