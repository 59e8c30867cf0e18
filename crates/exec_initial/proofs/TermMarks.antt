-- The marks of a term name the operators that fill their places, where its rows and its comprehensions do.
use native.Mathlib.Omega.{arith}
use mathlib.Core.Path.{◌≡◌, refl, sym, subst, ◌∙◌}
use mathlib.Core.Logic.{inl, inr}
use mathlib.Core.Bool.{Bool, true}
use mathlib.Core.List.{List, [], ◌∷◌, ◌++◌}
use Prim.Native.Nat.{ℕ, suc, ◌+◌, ◌≤◌, ◌<◌}
use lib.ListN.{length, length-append, get_or-append}
use lib.Seq.{get_or-append_seam}
use Rattle.spec_normal_form.specs.Form.{Form, Forms, num, truth, row, cell, rec, bin, negate, app, comp, fnil, fcons, gens}
use Rattle.spec_normal_form.specs.NoRule.{Ordered, OrderedF}
use Rattle.base_syntax.specs.declared.Monoid.{Monoid}
use Rattle.form_words.specs.declared.FormNode.TheVariants.{Comprehension, Generator}
use Rattle.form_words.specs.NodeWord.{node_at}
use Rattle.form_words.specs.FormWords.{size}
use Rattle.spec_plan.specs.Planner as P
use Rattle.plan_marks.specs.Marks.{mark_at}
use Rattle.plan_marks.proofs.FormInWords.{Lies, LiesF}
use Rattle.plan_marks.proofs.FormMarks.{reach_t, reach_f, Marked, MarkedF}
use Rattle.exec_terms.proofs.PartsBefore.{PartAt, PartAtF}
use Rattle.exec_simulation.specs.WiredProgram.{Id, loop_i, end_i}
use Rattle.exec_initial.specs.PlaceFillers.{NamesRow, NamesEnd, Named, NamedF, NamedUpto, NamedUptoF}
use Rattle.exec_initial.proofs.TopComprehensions.{TopAt, TopAtF, part-top, parts-top, top_within, top-range, tops-range}

-- ---- more places, fewer places
pub row_more : {s : List ℕ} {F : List Id} {m g : ℕ} (G : List Id) → NamesRow s F m g → NamesRow s (F ++ G) m g
row_more {s} {F} G N = record {
  place = N.place;
  mark = N.mark;
  low = omega (arith, N.low, length-append F G);
  loop = N.loop;
  is = get_or-append F G (end_i 0) N.place N.low ∙ N.is;
  table = N.table;
  node = N.node;
}

pub row-less : {s : List ℕ} (F G : List Id) {m g : ℕ} → m ≤ length F → NamesRow s (F ++ G) m g → NamesRow s F m g
row-less F G l N =
    let p : N.place < length F = omega (arith, l, N.mark) in
    record { place = N.place; mark = N.mark; low = p; loop = N.loop; is = sym (get_or-append F G (end_i 0) N.place p) ∙ N.is; table = N.table; node = N.node }

pub end_more : {F : List Id} {m c : ℕ} (G : List Id) → NamesEnd F m c → NamesEnd (F ++ G) m c
end_more {F} G N = record { place = N.place; mark = N.mark; low = omega (arith, N.low, length-append F G); is = get_or-append F G (end_i 0) N.place N.low ∙ N.is }

-- the place behind the others
pub row_new : (s : List ℕ) (F : List Id) (i : ℕ) {m g k : ℕ} → m ≡ suc (length F) → node_at s i ≡ Generator g k → NamesRow s (F ++ loop_i i ∷ []) m g
row_new s F i {m} {g} {k} e h = record {
  place = length F;
  mark = e;
  low = omega (arith, length-append F (loop_i i ∷ []));
  loop = i;
  is = get_or-append_seam F (loop_i i) [] (end_i 0);
  table = k;
  node = h;
}

pub end-new : (F : List Id) (c : ℕ) {m : ℕ} → m ≡ suc (length F) → NamesEnd (F ++ end_i c ∷ []) m c
end-new F c e = record { place = length F; mark = e; low = omega (arith, length-append F (end_i c ∷ [])); is = get_or-append_seam F (end_i c) [] (end_i 0) }

-- ---- terms; c: the marks of generators, S: those in whose scope it stands
module _ (s : List ℕ) (F : List Id) (c : ℕ → ℕ) (S : ℕ → Bool) (R : (g : ℕ) → S g ≡ true → c g ≤ length F → NamesRow s F (c g) g) where
  named-row : (i g : ℕ) → mark_at s i ≡ c g → S g ≡ true → c g ≤ length F → NamesRow s F (mark_at s i) g
  named-row i g e o l = subst (λ m. NamesRow s F m g) (sym e) (R g o l)

  mutual
    unfolding Ordered reach_t

    pub named_in : (t : Form) (i k j : ℕ) → Marked s i t c k → Ordered t S j → reach_t t c ≤ length F → ((b : ℕ) → TopAt i t b → NamesEnd F (mark_at s b) b) → Named s F i t
    named_in (num z) i k j w o l E = tt
    named_in (truth z) i k j w o l E = tt
    named_in (row g) i k j w o l E = named-row i g w o l
    named_in (cell x g) i k j w o l E = named-row i g w o l
    named_in (rec ts) i k j w o l E = named-each ts (i + 1) k j w o l E
    named_in (app f ts) i k j w o l E = named-each ts (i + 1) k j w o l E
    named_in (bin x t u) i k j w o l E = (
      named_in t (i + 1) k j w.0 o.0 (omega (arith, l)) (λ b h. E b (inl h)),
      named_in u (i + 1 + size t) (P.next t k) (j + gens t) w.1 o.1 (omega (arith, l)) (λ b h. E b (inr h)),
    )
    named_in (negate t) i k j w o l E = named_in t (i + 1) k j w o l E
    named_in (comp m q u) i k j w o l E = E i refl

    named-each : (ts : Forms) (i k j : ℕ) → MarkedF s i ts c k → OrderedF ts S j → reach_f ts c ≤ length F → ((b : ℕ) → TopAtF i ts b → NamesEnd F (mark_at s b) b) → NamedF s F i ts
    named-each fnil i k j w o l E = tt
    named-each (fcons t ts) i k j w o l E = (
      named_in t i k j w.0 o.0 (omega (arith, l)) (λ b h. E b (inl h)),
      named-each ts (i + size t) (P.next t k) (j + gens t) w.1 o.1 (omega (arith, l)) (λ b h. E b (inr h)),
    )

-- ---- parts before a node
mutual
  pub upto-whole : (s : List ℕ) (F : List Id) (b : ℕ) (t : Form) (i : ℕ) → Named s F i t → NamedUpto s F b i t
  upto-whole s F b (num z) i h = tt
  upto-whole s F b (truth z) i h = tt
  upto-whole s F b (row g) i h = λ l. h
  upto-whole s F b (cell c g) i h = λ l. h
  upto-whole s F b (rec ts) i h = uptos-whole s F b ts (i + 1) h
  upto-whole s F b (app f ts) i h = λ l. h
  upto-whole s F b (bin o t u) i h = λ l. h
  upto-whole s F b (negate t) i h = λ l. h
  upto-whole s F b (comp m q u) i h = λ l. h

  uptos-whole : (s : List ℕ) (F : List Id) (b : ℕ) (ts : Forms) (i : ℕ) → NamedF s F i ts → NamedUptoF s F b i ts
  uptos-whole s F b fnil i h = tt
  uptos-whole s F b (fcons t ts) i h = (upto-whole s F b t i h.0, uptos-whole s F b ts (i + size t) h.1)

mutual
  upto-past : (s : List ℕ) (F : List Id) (b : ℕ) (t : Form) (i : ℕ) → b ≤ i → NamedUpto s F b i t
  upto-past s F b (num z) i h = tt
  upto-past s F b (truth z) i h = tt
  upto-past s F b (row g) i h = λ l. absurd (omega (arith, l, h))
  upto-past s F b (cell c g) i h = λ l. absurd (omega (arith, l, h))
  upto-past s F b (rec ts) i h = uptos-past s F b ts (i + 1) (omega (arith, h))
  upto-past s F b (app f ts) i h = λ l. absurd (omega (arith, l, h))
  upto-past s F b (bin o t u) i h = λ l. absurd (omega (arith, l, h))
  upto-past s F b (negate t) i h = λ l. absurd (omega (arith, l, h))
  upto-past s F b (comp m q u) i h = λ l. absurd (omega (arith, l, h))

  uptos-past : (s : List ℕ) (F : List Id) (b : ℕ) (ts : Forms) (i : ℕ) → b ≤ i → NamedUptoF s F b i ts
  uptos-past s F b fnil i h = tt
  uptos-past s F b (fcons t ts) i h = (upto-past s F b t i h, uptos-past s F b ts (i + size t) (omega (arith, h)))

-- those before a comprehension whose place is the next
module _ (s : List ℕ) (F : List Id) (c : ℕ → ℕ) (S : ℕ → Bool) (R : (g : ℕ) → S g ≡ true → c g ≤ length F → NamesRow s F (c g) g)
    {m : Monoid} (b : ℕ) (e : node_at s b ≡ Comprehension m) (x : mark_at s b ≡ suc (length F)) where
  mutual
    unfolding Ordered reach_t

    pub upto-in : (t : Form) (i k j : ℕ) → Lies s i t → Marked s i t c k → Ordered t S j → reach_t t c ≤ length F → PartAt i t b → ((d : ℕ) → TopAt i t d → mark_at s d ≤ length F → NamesEnd F (mark_at s d) d) → NamedUpto s F b i t
    upto-in (num z) i k j L w o l h E = tt
    upto-in (truth z) i k j L w o l h E = tt
    upto-in (row g) i k j L w o l h E = upto-past s F b (row g) i (omega (arith, h))
    upto-in (cell y g) i k j L w o l h E = upto-past s F b (cell y g) i (omega (arith, h))
    upto-in (rec ts) i k j L w o l h E = uptos-in ts (i + 1) k j L.1 w o l h E
    upto-in (app f ts) i k j L w o l h E = upto-past s F b (app f ts) i (omega (arith, h))
    upto-in (bin y t u) i k j L w o l h E = upto-past s F b (bin y t u) i (omega (arith, h))
    upto-in (negate t) i k j L w o l h E = upto-past s F b (negate t) i (omega (arith, h))
    upto-in (comp n q u) i k j L w o l h E = upto-past s F b (comp n q u) i (omega (arith, h))

    uptos-in : (ts : Forms) (i k j : ℕ) → LiesF s i ts → MarkedF s i ts c k → OrderedF ts S j → reach_f ts c ≤ length F → PartAtF i ts b → ((d : ℕ) → TopAtF i ts d → mark_at s d ≤ length F → NamesEnd F (mark_at s d) d) → NamedUptoF s F b i ts
    uptos-in fnil i k j L w o l h E = tt
    uptos-in (fcons t ts) i k j L w o l (inl h) E = (
      upto-in t i k j L.1.0 w.0 o.0 (omega (arith, l)) h (λ d y. E d (inl y)),
      uptos-past s F b ts (i + size t) (omega (arith, (top_within t i b (part-top s b e t i L.1.0 h)).1)),
    )
    uptos-in (fcons t ts) i k j L w o l (inr h) E =
        let n = (tops-range s c ts (i + size t) (P.next t k) b w.1 (parts-top s b e ts (i + size t) L.1.1 h)).0 in (
          upto-whole s F b t i (named_in s F c S R t i k j w.0 o.0 (omega (arith, l)) (λ d y. E d (inl y) (omega (arith, (top-range s c t i k d w.0 y).1, n, x)))),
          uptos-in ts (i + size t) (P.next t k) (j + gens t) L.1.1 w.1 o.1 (omega (arith, l)) h (λ d y. E d (inr y)),
        )
