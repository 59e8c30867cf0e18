-- A comprehension in marked words, and what stands behind its loops: the places are filled by them and by the comprehensions in
-- its conditions and its head, one after another.
use native.Mathlib.Omega.{arith}
use mathlib.Core.Path.{◌≡◌, sym, ap, subst, ◌∙◌}
use mathlib.Core.Logic.{inl, inr}
use mathlib.Core.Bool.{Bool, true}
use mathlib.Core.List.{List, [], ◌∷◌, ◌++◌}
use Prim.Native.Nat.{ℕ, suc, ◌+◌, ◌≤◌, max}
use borrow.Author.Tests.{leb-true, leb-false}
use lib.Dec.{leb}
use lib.ListN.{length, length-append}
use Rattle.spec_calculus.specs.Lists.{pick, upd}
use Rattle.spec_calculus.specs.Syntax.{Monoid}
use Rattle.spec_normal_form.specs.Form.{Form, Clauses, comp, done, gen, cond, gens, gens_c}
use Rattle.spec_normal_form.specs.NoRule.{behind, Ordered, OrderedC}
use Rattle.spec_normal_form.proofs.NoRuleApplies.{behind-grows}
use Rattle.form_words.specs.declared.FormNode.TheVariants as N
use Rattle.base_scratch.specs.Map.{form_words}
use Rattle.form_words.specs.NodeWord.{next, node_at}
use Rattle.form_words.specs.FormWords.{size, size_c}
use Rattle.base_signed.proofs.SignedWords.{by-test}
use Rattle.spec_plan.specs.Planner as P
use Rattle.plan_marks.specs.Marks.{mark_at}
use Rattle.plan_marks.proofs.MarksArePlaces.{slots_by}
use Rattle.plan_marks.proofs.FormInWords.{Lies}
use Rattle.plan_marks.proofs.FormMarks.{next_c, reach_t, home_of, Marked, MarkedC, next_up, reach-most}
use Rattle.plan_marks.proofs.WordsArePlan.{term-read}
use Rattle.plan_machine.specs.AnswerText.{parts, among, collects}
use Rattle.plan_machine.proofs.CollectionsInHeads.{Scalar, ScalarC, Either, Fitting}
use Rattle.plan_links.specs.SpotWords.{fuel}
use Rattle.exec_terms.proofs.PartsBefore.{PartAt}
use Rattle.exec_simulation.specs.WiredProgram.{Id, end_i}
use Rattle.exec_initial.specs.PlaceFillers.{NamesRow, NamesEnd, Named, NamedC, CompAt, EndFilled, InnerFilled}
use Rattle.exec_initial.proofs.TopComprehensions.{TopAtC, TopOf, free-top, top-range, clause-range, one-mark}
use Rattle.exec_initial.proofs.TermMarks.{row_more, end_more, end-new, named_in, upto-in}
use Rattle.exec_initial.proofs.HeadParts.{found}

-- registers: the marks of generators, those of the clauses among them; width: how many places there are behind the loops
pub record Body (s : List ℕ) : Type 0 where
  pub monoid : Monoid
  pub clauses : Clauses
  pub head : Form
  pub node : ℕ
  pub registers : ℕ → ℕ
  pub scope : ℕ → Bool
  pub from : ℕ
  pub first : ℕ
  pub width : ℕ
  pub lies : Lies s node (comp monoid clauses head)
  pub few : node + size (comp monoid clauses head) ≤ form_words
  pub past : next s node ≡ node + size (comp monoid clauses head)
  pub past_head : next s (node + 1 + size_c clauses) ≡ node + 1 + size_c clauses + size head
  pub scalars : ScalarC clauses
  pub fitting : Either (collects monoid) (Fitting head) (Scalar head)
  pub conditions : MarkedC s (node + 1) clauses registers first width
  pub marked : Marked s (node + 1 + size_c clauses) head registers (next_c clauses width)
  pub ordered : OrderedC clauses scope from
  pub in_head : Ordered head (behind clauses scope) (from + gens_c clauses)
  pub low : (g : ℕ) → registers g ≤ width

module _ {s : List ℕ} where
  -- the generators whose names hold behind its clauses, and the comprehensions in it
  abbrev pub holds : Body s → ℕ → Bool
  holds B = behind B.clauses B.scope

  abbrev pub tops : Body s → ℕ → Type 0
  tops B b = TopOf B.clauses B.head B.node b

  -- n places are filled
  pub record Filled (B : Body s) (F : List Id) (n : ℕ) : Type 0 where
    pub long : length F ≡ n
    pub wide : B.width ≤ n
    pub rows : (g : ℕ) → holds B g ≡ true → NamesRow s F (B.registers g) g
    pub ends : (b : ℕ) → tops B b → mark_at s b ≤ n → NamesEnd F (mark_at s b) b

  abbrev pub comp-at : (B : Body s) → CompAt s B.node
  comp-at B = record { monoid = B.monoid; clauses = B.clauses; head = B.head; lies = B.lies; few = B.few; past = B.past; past_head = B.past_head; scalars = B.scalars; fitting = B.fitting }

-- ---- conditions
module _ (s : List ℕ) (F : List Id) (c : ℕ → ℕ) (n : ℕ) where
  -- all, where all places are there
  all_named : (q : Clauses) (m i k j : ℕ) (S : ℕ → Bool) → MarkedC s i q c n k → OrderedC q S j → ((g : ℕ) → c g ≤ length F) → ((g : ℕ) → behind q S g ≡ true → NamesRow s F (c g) g)
      → ((b : ℕ) → TopAtC i q b → NamesEnd F (mark_at s b) b) → NamedC s F m i q
  unfolding behind Ordered
  all_named done m i k j S w o l R E = tt
  all_named (gen g t q) m i k j S w o l R E = all_named q m (i + 1) k (suc j) (upd g true S) w o.1 l R E
  all_named (cond t q) m i k j S w o l R E = (
    (λ e. named_in s F c S (λ g h z. R g (behind-grows q S g h)) t (i + 1) k j w.1.0 o.0 (reach-most c (length F) l t) (λ b h. E b (inl h))),
    all_named q m (i + 1 + size t) (P.next t k) (j + gens t) S w.1.1 o.1 l R (λ b h. E b (inr h)),
  )

  -- one that goes to a loop is free of comprehensions, and mentions no generator behind it
  home-named : (t : Form) (i k j m : ℕ) (S : ℕ → Bool) → Marked s i t c k → Ordered t S j → ((g : ℕ) → S g ≡ true → c g ≤ length F → NamesRow s F (c g) g) → home_of n c t ≡ suc m → suc m ≡ length F → Named s F i t
  unfolding home_of pick
  home-named t i k j m S w o R e l = by-test (P.free t)
      (λ h. let z = sym (ap (λ b. pick b (max (reach_t t c) (suc n)) 0) h) ∙ e in named_in s F c S R t i k j w o (omega (arith, z, l)) (λ b y. absurd (free-top t i b h y)))
      (λ h. let z = sym (ap (λ b. pick b (max (reach_t t c) (suc n)) 0) h) ∙ e in absurd (omega (arith, z)))

  pub early-named : (q : Clauses) (m i k j : ℕ) (S : ℕ → Bool) → MarkedC s i q c n k → OrderedC q S j → ((g : ℕ) → behind q S g ≡ true → c g ≤ length F → NamesRow s F (c g) g) → suc m ≡ length F → NamedC s F (suc m) i q
  unfolding behind Ordered
  early-named done m i k j S w o R l = tt
  early-named (gen g t q) m i k j S w o R l = early-named q m (i + 1) k (suc j) (upd g true S) w o.1 R l
  early-named (cond t q) m i k j S w o R l = (
    (λ e. home-named t (i + 1) k j m S w.1.0 o.0 (λ g h z. R g (behind-grows q S g h) z) (sym w.0 ∙ e) l),
    early-named q m (i + 1 + size t) (P.next t k) (j + gens t) S w.1.1 o.1 R l,
  )

-- ---- the end of a comprehension, and those inside it
module _ {s : List ℕ} (B : Body s) (F : List Id) (n : ℕ) (H : Filled B F n) where
  top-named : P.next B.head (next_c B.clauses B.width) ≤ n → (b : ℕ) → tops B b → NamesEnd F (mark_at s b) b
  top-named l b (inl h) = H.ends b (inl h) (omega (arith, l, (clause-range s B.registers B.clauses (B.node + 1) B.first B.width b B.conditions h).1, next_up B.head (next_c B.clauses B.width)))
  top-named l b (inr h) = H.ends b (inr h) (omega (arith, l, (top-range s B.registers B.head (B.node + 1 + size_c B.clauses) (next_c B.clauses B.width) b B.marked h).1))

  registers-low : (g : ℕ) → B.registers g ≤ length F
  registers-low g = omega (arith, B.low g, H.wide, H.long)

  pub end-filled : P.next B.head (next_c B.clauses B.width) ≤ n → EndFilled s F B.node
  end-filled l = record {
    comp = comp-at B;
    conditions = all_named s F B.registers B.first B.clauses 0 (B.node + 1) B.width B.from B.scope B.conditions B.ordered registers-low H.rows (λ b h. top-named l b (inl h));
    head = named_in s F B.registers (holds B) (λ g h z. H.rows g h) B.head (B.node + 1 + size_c B.clauses) (next_c B.clauses B.width) (B.from + gens_c B.clauses) B.marked B.in_head
        (reach-most B.registers (length F) registers-low B.head) (λ b h. top-named l b (inr h));
  }

  module _ (b : ℕ) {m : _} (e : node_at s b ≡ N.Comprehension m) (t : tops B b) (x : mark_at s b ≡ suc n) where
    inner-part : among (length F) (parts (P.term B.head (slots_by B.registers) (next_c B.clauses B.width))) ≡ true → PartAt (B.node + 1 + size_c B.clauses) B.head b
    inner-part a =
        let f = found s B.registers (length F) registers-low B.head (B.node + 1 + size_c B.clauses) (next_c B.clauses B.width) B.marked a in
        let z : mark_at s f.node ≡ mark_at s b = f.mark ∙ ap suc H.long ∙ sym x in
        subst (PartAt (B.node + 1 + size_c B.clauses) B.head) (one-mark s B.registers B.clauses B.head B.node B.first B.width B.conditions B.marked f.node b (inr f.top) t z) f.part

    pub inner-filled : InnerFilled s F B.node b
    unfolding size
    inner-filled = record {
      comp = comp-at B;
      mark = x ∙ ap suc (sym H.long);
      part = λ a. inner-part (ap (λ y. among (length F) (parts y)) (sym (term-read s B.head fuel (B.node + 1 + size_c B.clauses) B.registers (next_c B.clauses B.width) B.lies.1.1.1 B.marked (omega (arith, B.few)))) ∙ a);
      before = λ a. upto-in s F B.registers (holds B) (λ g h z. H.rows g h) b e (x ∙ ap suc (sym H.long)) B.head (B.node + 1 + size_c B.clauses) (next_c B.clauses B.width) (B.from + gens_c B.clauses)
          B.lies.1.1.1 B.marked B.in_head (reach-most B.registers (length F) registers-low B.head) a (λ d y l. H.ends d (inr y) (omega (arith, l, H.long)));
    }

    -- behind its nest
    pub past-filled : Filled B (F ++ end_i b ∷ []) (suc n)
    past-filled = record {
      long = omega (arith, length-append F (end_i b ∷ []), H.long);
      wide = omega (arith, H.wide);
      rows = λ g h. row_more (end_i b ∷ []) (H.rows g h);
      ends = λ d y l. by-test (leb (mark_at s d) n) (λ z. end_more (end_i b ∷ []) (H.ends d y (leb-true (mark_at s d) n z)))
          (λ z. let v : mark_at s b ≡ mark_at s d = omega (arith, x, l, leb-false (mark_at s d) n z) in
          subst (λ i. NamesEnd (F ++ end_i b ∷ []) (mark_at s i) i) (one-mark s B.registers B.clauses B.head B.node B.first B.width B.conditions B.marked b d t y v) (end-new F b (x ∙ ap suc (sym H.long))));
    }
