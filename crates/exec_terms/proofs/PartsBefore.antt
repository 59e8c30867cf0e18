-- The parts of a head before one of its collections, as the answer's text has them.
use mathlib.Core.Path.{◌≡◌, refl, sym, ap, ◌∙◌}
use mathlib.Core.Logic.{◌⊎◌, inl, inr}
use mathlib.Core.List.{List, [], ◌∷◌, ◌++◌, append_assoc}
use mathlib.Core.Bool.{true, false}
use Prim.Native.Nat.{ℕ, suc, pred, ◌+◌, ◌≤◌, ◌<◌}
use native.Mathlib.Omega.{arith}
use borrow.Author.Tests.{eq-eqb}
use Rattle.spec_normal_form.specs.Form.{Form, Forms, num, truth, row, cell, rec, bin, negate, app, comp, fnil, fcons}
use Rattle.base_syntax.specs.declared.Monoid.{Monoid}
use Rattle.spec_plan.specs.Plan.{PTerm}
use Rattle.form_words.specs.declared.FormNode.TheVariants as N
use Rattle.base_scratch.specs.Map.{form_words}
use Rattle.form_words.specs.NodeWord.{next, node_at}
use Rattle.form_words.specs.FormTree.{left}
use Rattle.form_words.specs.FormWords.{size, size_f}
use Rattle.form_words.proofs.ReadBack.{size-some}
use Rattle.plan_marks.specs.Marks.{mark_at, slot_by}
use Rattle.plan_marks.specs.PlanIn.{term_in, terms_in}
use Rattle.plan_marks.proofs.FormInWords.{Lies, LiesF}
use Rattle.answer_writer.specs.Shapes.{shape_of}
use Rattle.plan_machine.specs.AnswerText.{parts, parts_l, is_place, among, upto}
use Rattle.plan_machine.proofs.HeadOrder.{upto-first}
use Rattle.exec_terms.proofs.PartsText.{parts_in}
use Rattle.exec_terms.proofs.HeadParts.{one-slot, term-at, terms-more, parts_at, parts-in, parts-end}

-- b is the node of a part of the form at i
abbrev mutual
  pub PartAt : ℕ → Form → ℕ → Type 0
  PartAt i (num z) b = b ≡ i
  PartAt i (truth z) b = b ≡ i
  PartAt i (row g) b = b ≡ i
  PartAt i (cell c g) b = b ≡ i
  PartAt i (rec ts) b = PartAtF (i + 1) ts b
  PartAt i (bin o t u) b = b ≡ i
  PartAt i (negate t) b = b ≡ i
  PartAt i (app o ts) b = b ≡ i
  PartAt i (comp m q u) b = b ≡ i

  pub PartAtF : ℕ → Forms → ℕ → Type 0
  PartAtF i fnil b = ⊥
  PartAtF i (fcons t ts) b = PartAt i t b ⊎ PartAtF (i + size t) ts b

mutual
  unfolding size

  pub part-within : (t : Form) (i b : ℕ) → PartAt i t b → (i ≤ b) × (b < i + size t)
  part-within (num z) i b h = (omega arith, omega arith)
  part-within (truth z) i b h = (omega arith, omega arith)
  part-within (row g) i b h = (omega arith, omega arith)
  part-within (cell c g) i b h = (omega arith, omega arith)
  part-within (rec ts) i b h = let w = parts_within ts (i + 1) b h in (omega (arith, w.0), omega (arith, w.1))
  part-within (bin o t u) i b h = (omega arith, omega arith)
  part-within (negate t) i b h = (omega arith, omega arith)
  part-within (app o ts) i b h = (omega arith, omega arith)
  part-within (comp m q u) i b h = (omega arith, omega arith)

  pub parts_within : (ts : Forms) (i b : ℕ) → PartAtF i ts b → (i ≤ b) × (b < i + size_f ts)
  parts_within fnil i b h = absurd h
  parts_within (fcons t ts) i b (inl h) = let w = part-within t i b h in (omega (arith, w.0), omega (arith, w.1))
  parts_within (fcons t ts) i b (inr h) = let w = parts_within ts (i + size t) b h in (omega (arith, w.0), omega (arith, w.1))

-- the parts of the form at i: those before node b, the one at b, and more
pub record Splits (s : List ℕ) (b i : ℕ) (whole : List PTerm) (x : PTerm) : Type 0 where
  pub first : List PTerm
  pub more : List PTerm
  pub is : whole ≡ first ++ x ∷ more
  pub before : (f : ℕ) → left i + 1 < f → parts_in f s i b ≡ first

module _ (s : List ℕ) (b : ℕ) (top : b ≤ form_words) {m : Monoid} (c : node_at s b ≡ N.Comprehension m) where
  abbrev here : PTerm
  here = slot_by (mark_at s b)

  alone : (i g : ℕ) → b ≡ i → 0 < g → Splits s b i (parts (term_in g s i)) here
  alone i g e p = record {
    first = [];
    more = [];
    is = ap (λ j. parts (term_in g s j)) (sym e) ∙ ap parts (term-at s g b c p) ∙ one-slot (mark_at s b);
    before = λ f q. ap (λ j. parts_in f s i j) e ∙ parts-end s f i;
  }

  into-record : (i g e : ℕ) → node_at s i ≡ N.Record e → left i < g → i < b → Splits s b (i + 1) (parts_l (terms_in (pred g) s (i + 1) e)) here → Splits s b i (parts (term_in g s i)) here
  unfolding parts
  into-record i g e h q l S = record {
    first = S.first;
    more = S.more;
    is = ap parts (term-at s g i h (omega arith)) ∙ S.is;
    before = λ f p. parts_at s f i b (ap shape_of h) (omega arith) l ∙ S.before (pred f) (omega arith);
  }

  in-first : (i g e : ℕ) → 0 < g → i < e → Splits s b i (parts (term_in (pred g) s i)) here → Splits s b i (parts_l (terms_in g s i e)) here
  unfolding parts
  in-first i g e q l S = record {
    first = S.first;
    more = S.more ++ rest;
    is = ap parts_l (terms-more s g i e q l) ∙ ap (λ z. z ++ rest) S.is ∙ append_assoc S.first (here ∷ S.more) rest;
    before = S.before;
  }
    where
      rest : List PTerm
      rest = parts_l (terms_in (pred g) s (next s i) e)

  in_rest : (t : Form) (i g e : ℕ) → Lies s i t → next s i ≡ i + size t → left i + 1 < g → i < e → i + size t ≤ b → Splits s b (i + size t) (parts_l (terms_in (pred g) s (i + size t) e)) here →
      Splits s b i (parts_l (terms_in g s i e)) here
  unfolding parts
  in_rest t i g e h n q l k S = record {
    first = own ++ S.first;
    more = S.more;
    is = ap parts_l (terms-more s g i e (omega arith) l) ∙ ap (λ j. own ++ parts_l (terms_in (pred g) s j e)) n ∙ ap (λ z. own ++ z) S.is ∙ sym (append_assoc own S.first (here ∷ S.more));
    before = λ f p. parts-in s b top t i f (pred g) h n k p (omega arith) S.before;
  }
    where
      own : List PTerm
      own = parts (term_in (pred g) s i)

  mutual
    unfolding size

    pub splits : (t : Form) (i g : ℕ) → Lies s i t → i + size t ≤ form_words → left i < g → PartAt i t b → Splits s b i (parts (term_in g s i)) here
    splits (num z) i g h l q e = alone i g e (omega arith)
    splits (truth z) i g h l q e = alone i g e (omega arith)
    splits (row n) i g h l q e = alone i g e (omega arith)
    splits (cell k n) i g h l q e = alone i g e (omega arith)
    splits (rec ts) i g h l q e = into-record i g (i + 1 + size_f ts) h.0 q (omega (arith, (parts_within ts (i + 1) b e).0)) (splits-in ts (i + 1) (pred g) (i + 1 + size_f ts) h.1 refl (omega arith) (omega arith) e)
    splits (bin o t u) i g h l q e = alone i g e (omega arith)
    splits (negate t) i g h l q e = alone i g e (omega arith)
    splits (app o ts) i g h l q e = alone i g e (omega arith)
    splits (comp k p u) i g h l q e = alone i g e (omega arith)

    splits-in : (ts : Forms) (i g e : ℕ) → LiesF s i ts → e ≡ i + size_f ts → e ≤ form_words → left i + 1 < g → PartAtF i ts b → Splits s b i (parts_l (terms_in g s i e)) here
    splits-in fnil i g e h n l q k = absurd k
    splits-in (fcons t ts) i g e h n l q (inl k) = in-first i g e (omega arith) (omega (arith, size-some t)) (splits t i (pred g) h.1.0 (omega arith) (omega arith) k)
    splits-in (fcons t ts) i g e h n l q (inr k) = in_rest t i g e h.1.0 h.0 q (omega (arith, size-some t)) (parts_within ts (i + size t) b k).0
        (splits-in ts (i + size t) (pred g) e h.1.1 (omega arith) l (omega (arith, size-some t)) k)

is-place : (n : ℕ) → is_place n (slot_by (suc n)) ≡ true
unfolding is_place slot_by
is-place n = eq-eqb n n refl

-- The parts from a head's node up to the node of its inner comprehension in place n are its parts before that place.
pub parts-upto : (s : List ℕ) (b n : ℕ) {m : Monoid} (t : Form) (i f g : ℕ) → node_at s b ≡ N.Comprehension m → mark_at s b ≡ suc n → Lies s i t → i + size t ≤ form_words → left i + 1 < f → left i < g → PartAt i t b →
    among n (parts_in f s i b) ≡ false → parts_in f s i b ≡ upto n (parts (term_in g s i))
parts-upto s b n t i f g c k h l p q w a =
    let S = splits s b (omega (arith, (part-within t i b w).1)) c t i g h l q w in
    S.before f p ∙ sym (ap (upto n) S.is ∙ upto-first n S.first (slot_by (mark_at s b)) S.more (ap (among n) (sym (S.before f p)) ∙ a) (ap (λ j. is_place n (slot_by j)) k ∙ is-place n))
