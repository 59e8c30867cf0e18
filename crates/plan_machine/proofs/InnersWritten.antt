-- In the program of a normal form that fits, every inner collection is written: none stands in a condition or below an operator.
use mathlib.Core.Path.{◌≡◌, sym, ap, subst, ◌∙◌}
use mathlib.Core.List.{List, [], ◌∷◌, ◌++◌, append_assoc, append-nil}
use mathlib.Core.Bool.{Bool, true, false, not, ◌&&◌, ◌||◌, and-true, and-false, or-true}
use Prim.Native.Nat.{ℕ, suc}
use Rattle.spec_calculus.specs.Lists.{pick}
use Rattle.spec_calculus.specs.Syntax.{Monoid}
use Rattle.spec_normal_form.specs.Form.{Form, Forms, Clauses, NormalForm, as_form, num, truth, row, cell, rec, bin, negate, app, comp, fnil, fcons, done, gen, cond}
use Rattle.spec_plan.specs.Plan.{PTerm, place}
use Rattle.spec_plan.specs.Planner.{free, Slots, next, nexts, term, terms, next_l, Gen, plan_gens, conds_of, sift, late, slot, slots, after, no_slots}
use Rattle.spec_plan.proofs.StreamRows.{eqb-self}
use Rattle.spec_outcome.specs.Acceptance.{Accepted}
use Rattle.spec_outcome.proofs.Checks.{Passed}
use Rattle.plan_machine.specs.Program.{Program, end, loop, inner, end_of, loops_at, loops, end_at, inners, inners_f, inners_c, program_at, program_of}
use Rattle.plan_machine.specs.MachineWords.{Path, loop_p, in_p, past_p, Valid}
use Rattle.plan_machine.specs.MachineWords as Fl
use Rattle.plan_machine.specs.AnswerText.{parts, parts_l, is_place, among, head_parts, collects, width, writes}
use Rattle.plan_machine.proofs.ProgramIsPlan.{inners_f-end, program-end}
use Rattle.plan_machine.proofs.HeadOrder.{opens}
use Rattle.plan_machine.proofs.CollectionsInHeads.{Scalar, ScalarC, Either, Fitting, FittingF, normal-fitting}
use Rattle.plan_machine.proofs.CollectionsInHeads.{ScalarF}

-- each inner comprehension that collects is written
abbrev pub Straight : ℕ → Bool → Program → Type 0
Straight k b (end e) = Unit {0}
Straight k b (loop s c p) = Straight (suc k) b p
Straight k b (inner i p) = (opens k b i p ≡ collects (end_of i).monoid) × Straight k (opens k b i p) i × Straight (suc k) b p

pub straight-path : (q : Program) → Straight 0 (collects (end_of q).monoid) q → (π : Path) (x : Program) → Valid q π x → Straight (width π) (writes q π) x
unfolding width writes
straight-path q h Fl.start x v = subst (Straight 0 (collects (end_of q).monoid)) (sym v) h
straight-path q h (loop_p π s c p) x v = subst (Straight (suc (width π)) (writes q π)) (sym v.0) (straight-path q h π (loop s c p) v.1)
straight-path q h (in_p π i p) x v = subst (Straight (width π) (opens (width π) (writes q π) i p)) (sym v.0) (straight-path q h π (inner i p) v.1).1
straight-path q h (past_p π i p) x v = subst (Straight (suc (width π)) (writes q π)) (sym v.0) (straight-path q h π (inner i p) v.1).2

straight-loops : (gs : List Gen) (at : ℕ → List Form) (k : ℕ) (c : Slots) (p : Program) (b : Bool) → Straight (after gs k) b p → Straight k b (loops_at gs at k c p)
unfolding loops_at after
straight-loops [] at k c p b h = h
straight-loops (g ∷ gs) at k c p b h = straight-loops gs (λ j. at (suc j)) (suc k) (slot g k c) p b h

program-collects : (m : Monoid) (q : Clauses) (h : Form) (k : ℕ) (c : Slots) → collects (end_of (program_at m q h k c)).monoid ≡ collects m
unfolding end_at
program-collects m q h k c = ap (λ e. collects e.monoid) (program-end m q h k c)

-- a comprehension, its clauses' and its head's inner comprehensions given
program-straight : (m : Monoid) (q : Clauses) (h : Form) (k : ℕ) (c : Slots) (b : Bool)
    → ((p : Program) → Straight (next_l (late q) (after (plan_gens q) k)) b p → Straight (after (plan_gens q) k) b (inners_c q (after (plan_gens q) k) (slots (plan_gens q) k c) p))
    → Straight (next_l (late q) (after (plan_gens q) k)) b (inners h (next_l (late q) (after (plan_gens q) k)) (slots (plan_gens q) k c) (end (end_at m q h k c)))
    → Straight k b (program_at m q h k c)
unfolding program_at loops
program-straight m q h k c b h_q h_h = straight-loops (plan_gens q) _ k c _ b (h_q _ h_h)

-- one that does not collect
inner-scalar : (i p : Program) (k : ℕ) (b : Bool) → collects (end_of i).monoid ≡ false → ((d : Bool) → Straight k d i) → Straight (suc k) b p → Straight k b (inner i p)
inner-scalar i p k b e h s = (ap (λ x. b && (x && among k (head_parts p))) e ∙ and-false b ∙ sym e, h (opens k b i p), s)

-- a condition's comprehensions, where it has any
cond-straight : (t : Form) (q : Clauses) (k : ℕ) (c : Slots) (p : Program) (b f : Bool) → Straight (next_l (pick (not f) (t ∷ late q) (late q)) k) b p
    → (Straight (next_l (late q) k) b p → Straight k b (inners_c q k c p))
    → (Straight (next_l (late q) (next t k)) b p → Straight (next t k) b (inners_c q (next t k) c p))
    → ((x : Program) → Straight (next t k) b x → Straight k b (inners t k c x))
    → Straight k b (pick f (inners_c q k c p) (inners t k c (inners_c q (next t k) c p)))
unfolding pick next_l
cond-straight t q k c p b true s f g h = f s
cond-straight t q k c p b false s f g h = h (inners_c q (next t k) c p) (g s)

mutual
  unfolding inners next program_at next_l late sift conds_of

  scalar-straight : (t : Form) → Scalar t → (k : ℕ) (c : Slots) (p : Program) (b : Bool) → Straight (next t k) b p → Straight k b (inners t k c p)
  scalar-straight (num z) h k c p b s = s
  scalar-straight (truth z) h k c p b s = s
  scalar-straight (row g) h k c p b s = absurd h
  scalar-straight (cell i g) h k c p b s = s
  scalar-straight (rec ts) h k c p b s = absurd h
  scalar-straight (app f ts) h k c p b s = scalars-straight ts h k c p b s
  scalar-straight (bin o t u) h k c p b s = scalar-straight t h.0 k c (inners u (next t k) c p) b (scalar-straight u h.1 (next t k) c p b s)
  scalar-straight (negate t) h k c p b s = scalar-straight t h k c p b s
  scalar-straight (comp m q u) h k c p b s = inner-scalar (program_at m q u k c) p k b (program-collects m q u k c ∙ h.0)
      (λ d. program-straight m q u k c d (λ x y. clauses-straight q h.1 (after (plan_gens q) k) (slots (plan_gens q) k c) x d y)
      (scalar-straight u h.2 (next_l (late q) (after (plan_gens q) k)) (slots (plan_gens q) k c) (end (end_at m q u k c)) d tt)) s

  scalars-straight : (ts : Forms) → ScalarF ts → (k : ℕ) (c : Slots) (p : Program) (b : Bool) → Straight (nexts ts k) b p → Straight k b (inners_f ts k c p)
  scalars-straight fnil h k c p b s = s
  scalars-straight (fcons t ts) h k c p b s = scalar-straight t h.0 k c (inners_f ts (next t k) c p) b (scalars-straight ts h.1 (next t k) c p b s)

  clauses-straight : (q : Clauses) → ScalarC q → (k : ℕ) (c : Slots) (p : Program) (b : Bool) → Straight (next_l (late q) k) b p → Straight k b (inners_c q k c p)
  clauses-straight done h k c p b s = s
  clauses-straight (gen g n q) h k c p b s = clauses-straight q h k c p b s
  clauses-straight (cond t q) h k c p b s = cond-straight t q k c p b (free t) s (λ y. clauses-straight q h.1 k c p b y) (λ y. clauses-straight q h.1 (next t k) c p b y) (λ x y. scalar-straight t h.0 k c x b y)

-- a place that is a part
among-found : (k : ℕ) (hs more : List PTerm) → among k ((hs ++ place k ∷ []) ++ more) ≡ true
unfolding among is_place
among-found k [] more = ap (λ b. b || among k more) (eqb-self k)
among-found k (t ∷ hs) more = ap (λ b. is_place k t || b) (among-found k hs more) ∙ or-true (is_place k t)

-- parts us of the head of a comprehension that is written; hs stand before them, more behind
abbrev Heads : (Program → Program) → List PTerm → ℕ → ℕ → Type 0
Heads f us k n = (p : Program) (hs more : List PTerm) → head_parts p ≡ (hs ++ us) ++ more → Straight n true p → Straight k true (f p)

heads-two : (f g : Program → Program) (us vs : List PTerm) (k n o : ℕ) → ((p : Program) → end_of (g p) ≡ end_of p) → Heads f us k n → Heads g vs n o → Heads (λ p. f (g p)) (us ++ vs) k o
heads-two f g us vs k n o ge F G p hs more e s =
    let e₁ : head_parts p ≡ ((hs ++ us) ++ vs) ++ more = e ∙ ap (λ l. l ++ more) (sym (append_assoc hs us vs)) in
    F (g p) hs (vs ++ more) (ap (λ x. parts x.head) (ge p) ∙ e₁ ∙ append_assoc (hs ++ us) vs more) (G p (hs ++ us) more e₁ s)

heads-place : (i : Program) (k : ℕ) → Straight k (collects (end_of i).monoid) i → Heads (λ p. inner i p) (place k ∷ []) k (suc k)
heads-place i k h p hs more e s =
    let o : opens k true i p ≡ collects (end_of i).monoid = ap (λ x. collects (end_of i).monoid && x) (ap (among k) e ∙ among-found k hs more) ∙ and-true (collects (end_of i).monoid) in
    (o, subst (λ b. Straight k b i) (sym o) h, s)

-- a comprehension that fits, as its monoid collects or not
program-fits : (m : Monoid) (q : Clauses) (h : Form) (k : ℕ) (c : Slots) → ScalarC q → Either (collects m) (Fitting h) (Scalar h)
    → (Fitting h → Heads (inners h (next_l (late q) (after (plan_gens q) k)) (slots (plan_gens q) k c)) (parts (term h (slots (plan_gens q) k c) (next_l (late q) (after (plan_gens q) k)))) (next_l (late q) (after (plan_gens q) k)) (next h (next_l (late q) (after (plan_gens q) k))))
    → Straight k (collects m) (program_at m q h k c)
unfolding end_at end_of
program-fits m q h k c hq hh H = program-straight m q h k c (collects m) (λ x y. clauses-straight q hq (after (plan_gens q) k) (slots (plan_gens q) k c) x (collects m) y) (go (collects m) hh)
  where
    go : (b : Bool) → Either b (Fitting h) (Scalar h) → Straight (next_l (late q) (after (plan_gens q) k)) b (inners h (next_l (late q) (after (plan_gens q) k)) (slots (plan_gens q) k c) (end (end_at m q h k c)))
    go true f = H f (end (end_at m q h k c)) [] [] (sym (append-nil (parts (term h (slots (plan_gens q) k c) (next_l (late q) (after (plan_gens q) k)))))) tt
    go false f = scalar-straight h f (next_l (late q) (after (plan_gens q) k)) (slots (plan_gens q) k c) (end (end_at m q h k c)) false tt

mutual
  unfolding inners term parts next program_at

  heads-fit : (t : Form) → Fitting t → (k : ℕ) (c : Slots) → Heads (inners t k c) (parts (term t c k)) k (next t k)
  heads-fit (num z) h k c = λ p hs more e s. s
  heads-fit (truth b) h k c = λ p hs more e s. s
  heads-fit (row g) h k c = λ p hs more e s. s
  heads-fit (cell i g) h k c = λ p hs more e s. s
  heads-fit (rec ts) h k c = heads_f-fit ts h k c
  heads-fit (app f ts) h k c = λ p hs more e s. scalar-straight (app f ts) h k c p true s
  heads-fit (bin o t u) h k c = λ p hs more e s. scalar-straight (bin o t u) h k c p true s
  heads-fit (negate t) h k c = λ p hs more e s. scalar-straight (negate t) h k c p true s
  heads-fit (comp m q u) h k c = heads-place (program_at m q u k c) k (subst (λ b. Straight k b (program_at m q u k c)) (sym (program-collects m q u k c))
      (program-fits m q u k c h.0 h.1 (λ f. heads-fit u f (next_l (late q) (after (plan_gens q) k)) (slots (plan_gens q) k c))))

  heads_f-fit : (ts : Forms) → FittingF ts → (k : ℕ) (c : Slots) → Heads (inners_f ts k c) (parts_l (terms ts c k)) k (nexts ts k)
  heads_f-fit fnil h k c = λ p hs more e s. s
  heads_f-fit (fcons t ts) h k c = heads-two (inners t k c) (inners_f ts (next t k) c) (parts (term t c k)) (parts_l (terms ts c (next t k))) k (next t k) (nexts ts (next t k)) (inners_f-end ts (next t k) c) (heads-fit t h.0 k c) (heads_f-fit ts h.1 (next t k) c)

pub program-straight-fits : (f : NormalForm) → Fitting (as_form f) → Straight 0 (collects (end_of (program_of f)).monoid) (program_of f)
unfolding program_of
program-straight-fits f h =
    let q : Clauses = f.clauses in
    subst (λ b. Straight 0 b (program_of f)) (sym (program-collects f.monoid q f.head 0 no_slots))
    (program-fits f.monoid q f.head 0 no_slots h.0 h.1 (λ g. heads-fit f.head g (next_l (late q) (after (plan_gens q) 0)) (slots (plan_gens q) 0 no_slots)))

-- An accepted question's inner comprehensions are written just where they collect.
pub writes-is-collects : (a : Accepted) → Passed a → (π : Path) (i p : Program) → Valid (program_of a.form) π (inner i p) → writes (program_of a.form) (in_p π i p) ≡ collects (end_of i).monoid
unfolding writes
writes-is-collects a h π i p v =
    let f : Fitting (as_form a.form) = subst (λ g. Fitting (as_form g)) (sym h.form-is) (normal-fitting a.tables a.question h.generators) in
    (straight-path (program_of a.form) (program-straight-fits a.form f) π (inner i p) v).0
