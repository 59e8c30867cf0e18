-- After measuring, the last node tells whether the normal form is small enough; where it is, that node may be written, and
-- comes to the normal form.
use mathlib.Core.Path.{◌≡◌, refl, sym, ap, subst, ◌∙◌}
use mathlib.Core.List.{List}
use mathlib.Core.Bool.{Bool, true, false}
use Prim.Native.Nat.{ℕ, ◌+◌, ◌-◌, ◌≤◌, ◌<◌}
use native.Mathlib.Omega.{arith}
use lib.Dec.{leb}
use lib.ListN.{length}
use borrow.Author.Tests.{leb-true}
use Rattle.spec_calculus.specs.Syntax.{Question, as_term}
use Rattle.spec_calculus.specs.Value.{Tables, kind_of}
use Rattle.spec_encoding.specs.Record.{Bytes}
use Rattle.spec_normal_form.specs.Form.{NormalForm, as_form}
use Rattle.spec_normal_form.specs.Normal.{quote, normal}
use Rattle.spec_normal_form.specs.Size.{nodes, nodes_c, size_fits}
use Rattle.front_theory.specs.NodeTable.{Node, nnum, ntruth, nname, nfield, nrec, nbin, nnegate, napp, ncomp, ntable, ngen, nbind, ncond, nbad}
use Rattle.front_theory.specs.NodeForms.{Env, At, outside, qual_of, sem}
use Rattle.front_sizes.specs.declared.FormSize.{FormSize}
use Rattle.front_sizes.specs.SizeWords.{place, term_count}
use Rattle.front_nodes.specs.NodeTable.{depth_at, nodes_of}
use Rattle.front_resolve.specs.Resolved.{offsets}
use Rattle.front_measure.specs.MeasurableNodes.{qualifies, Arranged}
use Rattle.front_measure.specs.KeptSizes.{MeasurePost}
use Rattle.front_measure.proofs.LaidQuestion.{laid-arranged}
use Rattle.front_measure.proofs.MeasureResult.{still-arranged, kept-qualifier, measured-fits, measured-written}
use Rattle.front_emit.specs.WriterStart.{collections, sem_s, Measured}
use Rattle.front_emit.specs.WriterStart as Em
use Rattle.front_emit.specs.WholeForm.{form_of, Writable}
use Rattle.front_emit.proofs.FormInScratch.{form-short}
use Rattle.front_emit.proofs.TableCollections.{collections-are}
use Rattle.front_end.specs.LoadedQuestion.{ScopedQuestion}
use Rattle.front_end.proofs.PassChain.{ready-same, ready-holds, root-depth}

pub small-form : (f : NormalForm) → size_fits f ≡ true → nodes (as_form f) ≤ 512
unfolding size_fits
small-form f e = leb-true (nodes (as_form f)) 512 e

-- what is no qualifier writes nothing as one
no-qualifier : (A : At) (D : ℕ) (e : Env) (v : Bool) (j : ℕ) (y : Node) → qualifies y ≡ false → nodes_c (qual_of A D e v j y) ≡ 0
unfolding nodes
no-qualifier A D e v j (nnum z) p = refl
no-qualifier A D e v j (ntruth b) p = refl
no-qualifier A D e v j (nname x d) p = refl
no-qualifier A D e v j (nfield k c) p = refl
no-qualifier A D e v j (nrec cs) p = refl
no-qualifier A D e v j (napp f cs) p = refl
no-qualifier A D e v j (nbin o a b) p = refl
no-qualifier A D e v j (nnegate c) p = refl
no-qualifier A D e v j (ncomp m cs h) p = refl
no-qualifier A D e v j (ntable k) p = refl
no-qualifier A D e v j (ngen c) p = cc
no-qualifier A D e v j (nbind c) p = refl
no-qualifier A D e v j (ncond c) p = cc
no-qualifier A D e v j nbad p = refl

module _ {s r : List ℕ} {n : ℕ} (M : MeasurePost s n r) (few : n ≤ 256) {d : Bytes} {T : Tables} {q : Question} (R : ScopedQuestion d T q s n) where
  arranged : Arranged s n
  arranged = subst (Arranged s) (sym R.loaded.count) (laid-arranged s (as_term q) R.loaded.laid (omega (arith, few, R.loaded.count)))

  room : place n 0 ≤ length s
  room = omega (arith, few, R.loaded.long)

  last : n - 1 < n
  last = omega (arith, R.loaded.some)

  pub after : ScopedQuestion d T q r n
  after = ready-same M.long (λ j l. M.front j (omega arith)) R

  pub size-said : leb (term_count r (n - 1)).size 512 ≡ size_fits (normal (kind_of T) q)
  size-said = measured-fits M arranged few room (kind_of T) q (n - 1) last (ready-holds R) (root-depth R)

  measured : Measured r n
  measured x l v h e j = by (qualifies (nodes_of r x)) refl
    where
      by : (b : Bool) → qualifies (nodes_of r x) ≡ b → nodes_c (qual_of (sem_s r) (depth_at r x) e v j (nodes_of r x)) ≡ 0
      by true p = omega (arith, h, ap (λ (c : FormSize). c.size) (kept-qualifier M arranged few room (collections r) x l (offsets r) e p v j))
      by false p = no-qualifier (sem_s r) (depth_at r x) e v j (nodes_of r x) p

  module _ (z : size_fits (normal (kind_of T) q) ≡ true) where
    pub root-form : form_of r (n - 1) ≡ as_form (normal (kind_of T) q)
    root-form =
        ap (λ K. quote (sem K (nodes_of r) (offsets r) (n - 1) 0 outside) 0) (collections-are after.loaded.stored after.loaded.tables)
        ∙ measured-written M arranged few room (kind_of T) q (n - 1) last (ready-holds R) outside R.names (small-form (normal (kind_of T) q) z)

    pub root-writable : Writable r (n - 1)
    root-writable =
        let e : n ≡ n - 1 + 1 = omega (arith, R.loaded.some) in
        record {
          ready = subst (Em.SizedNodes r) e (record { few = few; levelled = (still-arranged M arranged few room).levelled; measured = measured });
          depth = root-depth after;
          short = form-short r (n - 1) root-form (small-form (normal (kind_of T) q) z);
          long = omega (arith, after.loaded.long);
        }
