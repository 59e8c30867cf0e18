-- A head that lies in the words, and a row that agrees with scratch on its parts before a node: what `parts` asks.
use mathlib.Core.Path.{◌≡◌, refl, sym, ap, subst, ◌∙◌}
use mathlib.Core.List.{List}
use mathlib.Core.Bool.{true}
use Prim.Native.Nat.{ℕ, zero, suc, pred, ◌+◌, ◌≤◌, ◌<◌}
use native.Mathlib.Omega.{arith}
use Rattle.spec_calculus.specs.Syntax as Sy
use Rattle.spec_calculus.specs.Syntax.{Monoid, of, list, bag, set, sum, max, some, all}
use Rattle.spec_encoding.specs.Record.{Bytes}
use Rattle.spec_normal_form.specs.Form.{Form, Forms, Clauses, num, truth, row, cell, rec, bin, negate, app, comp, fnil, fcons}
use Rattle.spec_normal_form.specs.Bound.{within, within_f}
use Rattle.spec_normal_form.proofs.Bounds.{within-fields, within-field}
use Rattle.spec_plan.specs.Operators.{Row}
use Rattle.base_syntax.specs.Numbers.{bin_of, op_arg, op_at}
use Rattle.form_words.specs.NodeWord.{next, node_at}
use Rattle.form_words.specs.FormTree.{left}
use Rattle.form_words.specs.FormWords.{size, size_f}
use Rattle.base_scratch.specs.Map.{form_words}
use Rattle.form_words.proofs.ReadBack.{size-some}
use Rattle.form_arith.specs.declared.Sort.TheVariants as So
use Rattle.form_arith.specs.WordSorts.{result_sort}
use Rattle.answer_writer.specs.declared.WriteForm.{WriteForm}
use Rattle.answer_writer.specs.declared.WriteForm.TheVariants as Sh
use Rattle.answer_writer.specs.Shapes.{shape_of}
use Rattle.plan_marks.proofs.FormInWords.{Lies, LiesF}
use Rattle.exec_terms.specs.PlanColumns.{plan_declared}
use Rattle.exec_terms.specs.PartsWalk.{agrees_part, Sound, AgreesP}
use Rattle.exec_terms.proofs.FormAgreement.{tree_is, AgreesOn, agrees_on}
use Rattle.exec_terms.proofs.PartsExits.{WrittenPart}

-- a collection's words are not written by `parts`
abbrev unless_collection : Monoid → Type 0 → Type 0
unless_collection (of c) A = Unit {0}
unless_collection sum A = A
unless_collection max A = A
unless_collection Sy.min A = A
unless_collection some A = A
unless_collection all A = A

-- agreeing on the parts of the form at i that stand before node b
abbrev mutual
  pub AgreesUpto : Bytes → List ℕ → Row → ℕ → ℕ → Form → Type 0
  AgreesUpto d s r b i (num z) = Unit {0}
  AgreesUpto d s r b i (truth z) = Unit {0}
  AgreesUpto d s r b i (row g) = i < b → AgreesOn d s r i (row g)
  AgreesUpto d s r b i (cell c g) = i < b → AgreesOn d s r i (cell c g)
  AgreesUpto d s r b i (rec ts) = AgreesUptoF d s r b (i + 1) ts
  AgreesUpto d s r b i (bin o t u) = i < b → AgreesOn d s r i (bin o t u)
  AgreesUpto d s r b i (negate t) = i < b → AgreesOn d s r i (negate t)
  AgreesUpto d s r b i (app o ts) = i < b → AgreesOn d s r i (app o ts)
  AgreesUpto d s r b i (comp m q u) = unless_collection m (i < b → AgreesOn d s r i (comp m q u))

  pub AgreesUptoF : Bytes → List ℕ → Row → ℕ → ℕ → Forms → Type 0
  AgreesUptoF d s r b i fnil = Unit {0}
  AgreesUptoF d s r b i (fcons t ts) = AgreesUpto d s r b i t × AgreesUptoF d s r b (i + size t) ts

module _ (d : Bytes) (s : List ℕ) (r : Row) (b : ℕ) where
  abbrev Rest : ℕ → Type 0
  Rest e = (f : ℕ) → left e + 1 < f → AgreesP f d s r e b

  agrees_p-at : {x : WriteForm} (f i : ℕ) → shape_of (node_at s i) ≡ x → (i < b → agrees_part (λ j. AgreesP (pred f) d s r j b) (Sound (pred f) d s r i) s i x) → AgreesP f d s r i b
  unfolding AgreesP
  agrees_p-at zero i e a = tt
  agrees_p-at (suc f) i e a = λ z. subst (agrees_part (λ j. AgreesP f d s r j b) (Sound f d s r i) s i) (sym e) (a z)

  module _ (t : Form) (i f : ℕ) (h : Lies s i t) (n : next s i ≡ i + size t) (l : i + size t ≤ form_words) (p : left i + 1 < f) (k : Rest (i + size t)) where
    behind : AgreesP (pred f) d s r (next s i) b
    behind = subst (λ j. AgreesP (pred f) d s r j b) (sym n) (k (pred f) (omega (arith, size-some t)))

    written : (x : WriteForm) → WrittenPart x → within (plan_declared d s) t ≡ true → (i < b → AgreesOn d s r i t) → shape_of (node_at s i) ≡ x → AgreesP f d s r i b
    written x w v a e = agrees_p-at f i e (λ z. go x w z)
      where
        sound : i < b → Sound (pred f) d s r i
        sound z = (ap (within (plan_declared d s)) (tree_is s t i (pred f) h l (omega arith)) ∙ v, agrees_on d s r t i (pred f) h l (omega arith) (a z))

        go : (x : WriteForm) → WrittenPart x → i < b → agrees_part (λ j. AgreesP (pred f) d s r j b) (Sound (pred f) d s r i) s i x
        go (Sh.Word c) w z = (sound z, behind)
        go (Sh.Row c) w z = (sound z, behind)
        go (Sh.Record c) w z = absurd w
        go Sh.Collection w z = absurd w

    skipped : shape_of (node_at s i) ≡ Sh.Collection → AgreesP f d s r i b
    skipped e = agrees_p-at f i e (λ z. behind)

  comp-agree : (m : Monoid) (q : Clauses) (u : Form) (i f : ℕ) → Lies s i (comp m q u) → next s i ≡ i + size (comp m q u) → i + size (comp m q u) ≤ form_words → within (plan_declared d s) (comp m q u) ≡ true →
      AgreesUpto d s r b i (comp m q u) → left i + 1 < f → Rest (i + size (comp m q u)) → AgreesP f d s r i b
  comp-agree (of list) q u i f h n l v a p k = skipped (comp (of list) q u) i f h n l p k (ap shape_of h.0)
  comp-agree (of bag) q u i f h n l v a p k = skipped (comp (of bag) q u) i f h n l p k (ap shape_of h.0)
  comp-agree (of set) q u i f h n l v a p k = skipped (comp (of set) q u) i f h n l p k (ap shape_of h.0)
  comp-agree sum q u i f h n l v a p k = written (comp sum q u) i f h n l p k (Sh.Word So.Number) tt v a (ap shape_of h.0)
  comp-agree max q u i f h n l v a p k = written (comp max q u) i f h n l p k (Sh.Word So.Number) tt v a (ap shape_of h.0)
  comp-agree Sy.min q u i f h n l v a p k = written (comp Sy.min q u) i f h n l p k (Sh.Word So.Number) tt v a (ap shape_of h.0)
  comp-agree some q u i f h n l v a p k = written (comp some q u) i f h n l p k (Sh.Word So.Truth) tt v a (ap shape_of h.0)
  comp-agree all q u i f h n l v a p k = written (comp all q u) i f h n l p k (Sh.Word So.Truth) tt v a (ap shape_of h.0)

  mutual
    unfolding size

    upto-in : (t : Form) (i f : ℕ) → Lies s i t → next s i ≡ i + size t → i + size t ≤ form_words → within (plan_declared d s) t ≡ true → AgreesUpto d s r b i t → left i + 1 < f → Rest (i + size t) → AgreesP f d s r i b
    upto-in (num z) i f h n l v a p k = written (num z) i f h n l p k (Sh.Word So.Number) tt v (λ y. tt) (ap shape_of h)
    upto-in (truth z) i f h n l v a p k = written (truth z) i f h n l p k (Sh.Word So.Truth) tt v (λ y. tt) (ap shape_of h)
    upto-in (row g) i f h n l v a p k = written (row g) i f h n l p k (Sh.Row g) tt v a (ap shape_of h.0)
    upto-in (cell c g) i f h n l v a p k = written (cell c g) i f h n l p k (Sh.Word So.Number) tt v a (ap shape_of h.0)
    upto-in (rec ts) i f h n l v a p k = agrees_p-at f i (ap shape_of h.0) (λ z. upto-each ts (i + 1) (pred f) (i + 1 + size_f ts) h.1 refl (omega arith) (within-fields (plan_declared d s) ts v) a (omega arith) (subst Rest (omega arith) k))
    upto-in (bin o t u) i f h n l v a p k = written (bin o t u) i f h n l p k (Sh.Word (result_sort (bin_of (op_at (op_arg o))))) tt v a (ap shape_of h.0)
    upto-in (app o ts) i f h n l v a p k = written (app o ts) i f h n l p k (Sh.Word So.Either) tt v a (ap shape_of h.0)
    upto-in (negate t) i f h n l v a p k = written (negate t) i f h n l p k (Sh.Word So.Truth) tt v a (ap shape_of h.0)
    upto-in (comp m q u) i f h n l v a p k = comp-agree m q u i f h n l v a p k

    upto-each : (ts : Forms) (i f e : ℕ) → LiesF s i ts → e ≡ i + size_f ts → e ≤ form_words → within_f (plan_declared d s) ts ≡ true → AgreesUptoF d s r b i ts → left i + 1 < f → Rest e → AgreesP f d s r i b
    upto-each fnil i f e h n l v a p k = subst Rest (omega arith) k f p
    upto-each (fcons t ts) i f e h n l v a p k = let w = within-field (plan_declared d s) t ts v in
        upto-in t i f h.1.0 h.0 (omega arith) w.0 a.0 p (λ y z. upto-each ts (i + size t) y e h.1.1 (omega arith) l w.1 a.1 z k)

  past : (f i : ℕ) → b ≤ i → AgreesP f d s r i b
  unfolding AgreesP
  past zero i h = tt
  past (suc f) i h = λ z. absurd (omega arith)

  -- A row that agrees on a head's parts before node b agrees on the words from the head's node up to b.
  pub agrees-upto : (t : Form) (i f : ℕ) → Lies s i t → next s i ≡ i + size t → i + size t ≤ form_words → within (plan_declared d s) t ≡ true → AgreesUpto d s r b i t → left i + 1 < f → b ≤ i + size t → AgreesP f d s r i b
  agrees-upto t i f h n l v a p e = upto-in t i f h n l v a p (λ y z. past y (i + size t) e)
