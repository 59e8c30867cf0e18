-- Offsets counted to 513 place each generator; and the root's count tells whether the normal form is too large.
use mathlib.Core.Path.{◌≡◌, refl, ap, ◌∙◌}
use mathlib.Core.List.{List, [], ◌∷◌}
use mathlib.Core.Bool.{Bool, true, false}
use Prim.Native.Nat.{ℕ, ◌+◌, min}
use native.Mathlib.Omega.{arith}
use lib.Dec.{leb}
use borrow.Author.Tests.{leb-true, leb-false, le-leb, lt-leb}
use Rattle.spec_calculus.specs.Syntax.{Collection, Question, as_term}
use Rattle.spec_normal_form.specs.Form.{as_form}
use Rattle.spec_normal_form.specs.Normal.{normal}
use Rattle.spec_normal_form.specs.Size.{nodes, size_fits}
use Rattle.front_theory.specs.NodeTable.{Nodes, PostOrder, qualifiers}
use Rattle.front_theory.specs.NodeForms.{outside, count_of}
use Rattle.front_theory.specs.QuestionNodes.{no_names, Holds, PlacedQ, Placed}
use Rattle.front_theory.specs.CappedOffsets.{limit, left, saturated}
use Rattle.front_theory.proofs.FormCounts.{Counts}
use Rattle.front_theory.proofs.QuestionNodes.{root-counts}
use Rattle.front_theory.proofs.CappedOffsets.{saturated-is}
use Rattle.front_sizes.specs.declared.FormSize.{FormSize}
use Rattle.front_measure.specs.Measure.{count, form_count, beside, none, unplaced, term_of, qualifier_of, OffsetsQ}

module _ (K : ℕ → Collection) (N : Nodes) (dep : ℕ → ℕ) (stored : ℕ → Bool → ℕ) where
  -- g generators were written before, of which t is known
  placed-from : (cs : List ℕ) (g : Bool → ℕ) (t : Bool → FormSize) → ((v : Bool) → (t v).gens ≡ min (g v) limit) → OffsetsQ K N dep stored cs t → PlacedQ left K N dep (saturated stored) cs g
  unfolding OffsetsQ PlacedQ qualifier_of
  placed-from [] g t e o = tt
  placed-from (c ∷ cs) g t e o = (
    λ a p v n. saturated-is stored c v n (g v) (o.0 v ∙ e v),
    placed-from cs (λ v. g v + count_of K N c (dep c) v) (λ v. beside (t v) (qualifier_of K N (dep c) c v)) (λ v. let q = e v in omega (arith, q)) o.1,
  )

  pub placed-quals : (cs : List ℕ) → OffsetsQ K N dep stored cs (λ v. none) → PlacedQ left K N dep (saturated stored) cs (λ v. 0)
  placed-quals cs o = placed-from cs (λ v. 0) (λ v. none) (λ v. refl) o

  pub placed : ((i : ℕ) → OffsetsQ K N dep stored (qualifiers (N i)) (λ v. none)) → Placed left K N dep (saturated stored)
  placed o i = placed-quals (qualifiers (N i)) (o i)

-- Where node i holds a question, it writes as much as its normal form has.
pub root-count : (K : ℕ → Collection) (N : Nodes) → PostOrder N → (dep : ℕ → ℕ) (q : Question) (i : ℕ) → Holds N dep (as_term q) i 0 no_names → term_of K N 0 i ≡ form_count (as_form (normal K q))
unfolding term_of
root-count K N P dep q i H = ap (λ (c : Counts). count c.size c.generators) (root-counts K N P dep unplaced q i outside H)

leb-capped : (n : ℕ) → leb (min n limit) 512 ≡ leb n 512
leb-capped n = go (leb n 512) refl
  where
    go : (b : Bool) → leb n 512 ≡ b → leb (min n limit) 512 ≡ b
    go true p = le-leb (min n limit) 512 (omega (arith, leb-true n 512 p))
    go false p = lt-leb (min n limit) 512 (omega (arith, leb-false n 512 p))

-- "27: a normal form over 512 nodes"
pub root-fits : (K : ℕ → Collection) (N : Nodes) → PostOrder N → (dep : ℕ → ℕ) (q : Question) (i : ℕ) → Holds N dep (as_term q) i 0 no_names → leb (term_of K N 0 i).size 512 ≡ size_fits (normal K q)
unfolding size_fits
root-fits K N P dep q i H = ap (λ (c : FormSize). leb c.size 512) (root-count K N P dep q i H) ∙ leb-capped (nodes (as_form (normal K q)))
