-- A question's program is its plan, operator for operator.
use mathlib.Core.Path.{◌≡◌, refl, sym, ap, ap₂, ◌∙◌}
use mathlib.Core.List.{List, [], ◌∷◌, ◌++◌, append_assoc, append-nil}
use mathlib.Core.Bool.{Bool, true, false, not}
use Prim.Native.Nat.{ℕ, suc}
use Rattle.spec_calculus.specs.Lists.{pick}
use Rattle.spec_calculus.specs.Syntax.{Monoid}
use Rattle.spec_normal_form.specs.Form.{Form, Forms, Clauses, NormalForm, num, truth, row, cell, rec, bin, negate, app, comp, fnil, fcons, done, gen, cond}
use Rattle.spec_plan.specs.Plan.{PTerm, Source, Op, join, outer, plan}
use Rattle.spec_plan.specs.Planner.{free, Slots, next, nexts, next_l, term_l, conj, Gen, source, plan_gens, conds_of, sift, early, late, slot, slots, after, grows_at, grows, ops, ops_f, ops_c, no_slots, plan_of}
use Rattle.plan_machine.specs.Program.{End, Program, end, inner, end_of, nest_at, operators, loops_at, loops, end_at, inners, inners_f, inners_c, program_at, program_of, plan_from}

-- what stands in front of a program leaves its end
loops-end : (gs : List Gen) (at : ℕ → List Form) (k : ℕ) (c : Slots) (p : Program) → end_of (loops_at gs at k c p) ≡ end_of p
unfolding loops_at end_of
loops-end [] at k c p = refl
loops-end (g ∷ gs) at k c p = loops-end gs (λ j. at (suc j)) (suc k) (slot g k c) p

pick_end : (b : Bool) (p q : Program) (e : End) → end_of p ≡ e → end_of q ≡ e → end_of (pick b p q) ≡ e
unfolding pick
pick_end true p q e h k = h
pick_end false p q e h k = k

mutual
  unfolding inners end_of

  pub inners-end : (t : Form) (k : ℕ) (c : Slots) (p : Program) → end_of (inners t k c p) ≡ end_of p
  inners-end (num z) k c p = refl
  inners-end (truth b) k c p = refl
  inners-end (row g) k c p = refl
  inners-end (cell i g) k c p = refl
  inners-end (rec ts) k c p = inners_f-end ts k c p
  inners-end (app f ts) k c p = inners_f-end ts k c p
  inners-end (bin o s t) k c p = inners-end s k c (inners t (next s k) c p) ∙ inners-end t (next s k) c p
  inners-end (negate t) k c p = inners-end t k c p
  inners-end (comp m q h) k c p = refl

  pub inners_f-end : (ts : Forms) (k : ℕ) (c : Slots) (p : Program) → end_of (inners_f ts k c p) ≡ end_of p
  inners_f-end fnil k c p = refl
  inners_f-end (fcons t ts) k c p = inners-end t k c (inners_f ts (next t k) c p) ∙ inners_f-end ts (next t k) c p

  pub inners_c-end : (q : Clauses) (k : ℕ) (c : Slots) (p : Program) → end_of (inners_c q k c p) ≡ end_of p
  inners_c-end done k c p = refl
  inners_c-end (gen g n q) k c p = inners_c-end q k c p
  inners_c-end (cond t q) k c p = pick_end (free t) (inners_c q k c p) (inners t k c (inners_c q (next t k) c p)) (end_of p) (inners_c-end q k c p) (inners-end t k c (inners_c q (next t k) c p) ∙ inners_c-end q (next t k) c p)

pub program-end : (m : Monoid) (q : Clauses) (h : Form) (k : ℕ) (c : Slots) → end_of (program_at m q h k c) ≡ end_at m q h k c
unfolding program_at loops end_of
program-end m q h k c =
    let c₁ : Slots = slots (plan_gens q) k c in
    let k₁ : ℕ = after (plan_gens q) k in
    let p : Program = inners h (next_l (late q) k₁) c₁ (end (end_at m q h k c)) in
    loops-end (plan_gens q) _ k c (inners_c q k₁ c₁ p) ∙ inners_c-end q k₁ c₁ p ∙ inners-end h (next_l (late q) k₁) c₁ (end (end_at m q h k c))

-- lists of operators
module _ {A : Type 0} where
  tail-in : (d : List A) (x : A) (l : List A) → (d ++ []) ++ (x ∷ l) ≡ (d ++ (x ∷ [])) ++ l
  tail-in [] x l = refl
  tail-in (y ∷ d) x l = ap (λ k. y ∷ k) (tail-in d x l)

  in-front : (a b l c m : List A) → b ++ l ≡ c ++ m → (a ++ b) ++ l ≡ (a ++ c) ++ m
  in-front a b l c m h = append_assoc a b l ∙ ap (λ k. a ++ k) h ∙ sym (append_assoc a c m)

loops-list : (o : Source → PTerm → Op) (gs : List Gen) (at : ℕ → List Form) (k : ℕ) (c : Slots) (p : Program) → operators o k (loops_at gs at k c p) ≡ grows_at o gs at k c ++ operators o (after gs k) p
unfolding loops_at operators grows_at after
loops-list o [] at k c p = refl
loops-list o (g ∷ gs) at k c p = ap (λ os. o (source g) (conj (term_l (at 0) (slot g k c) (suc k))) ∷ os) (loops-list o gs (λ j. at (suc j)) (suc k) (slot g k c) p)

-- what the operators of a part are, in front of those of what stands behind it
abbrev Lists : (Program → Program) → List Op → ℕ → ℕ → Type 0
Lists f os k n = (o : Source → PTerm → Op) (p : Program) → operators o k (f p) ≡ os ++ operators o n p

lists-two : (f g : Program → Program) (os ps : List Op) (k n w : ℕ) → Lists f os k n → Lists g ps n w → Lists (λ p. f (g p)) (os ++ ps) k w
lists-two f g os ps k n w a b o p = a o (g p) ∙ ap (λ l. os ++ l) (b o p) ∙ sym (append_assoc os ps (operators o w p))

module _ (m : Monoid) (q : Clauses) (h : Form) (k : ℕ) (c : Slots) where
  abbrev c₁ : Slots
  c₁ = slots (plan_gens q) k c

  abbrev k₁ : ℕ
  k₁ = after (plan_gens q) k

  program-list : Lists (inners_c q k₁ c₁) (ops_c q k₁ c₁) k₁ (next_l (late q) k₁) → Lists (inners h (next_l (late q) k₁) c₁) (ops h (next_l (late q) k₁) c₁) (next_l (late q) k₁) (next h (next_l (late q) k₁))
      → (o : Source → PTerm → Op) → operators o k (program_at m q h k c) ≡ grows o (plan_gens q) (early q) k c ++ (ops_c q k₁ c₁ ++ (ops h (next_l (late q) k₁) c₁ ++ []))
  unfolding program_at loops grows operators
  program-list h_q h_h o =
      let e : Program = end (end_at m q h k c) in
      loops-list o (plan_gens q) _ k c (inners_c q k₁ c₁ (inners h (next_l (late q) k₁) c₁ e))
      ∙ ap (λ l. grows o (plan_gens q) (early q) k c ++ l) (h_q o (inners h (next_l (late q) k₁) c₁ e) ∙ ap (λ l. ops_c q k₁ c₁ ++ l) (h_h o e))

  comp-list : Lists (inners_c q k₁ c₁) (ops_c q k₁ c₁) k₁ (next_l (late q) k₁) → Lists (inners h (next_l (late q) k₁) c₁) (ops h (next_l (late q) k₁) c₁) (next_l (late q) k₁) (next h (next_l (late q) k₁))
      → Lists (λ p. inner (program_at m q h k c) p) (ops (comp m q h) k c) k (suc k)
  unfolding operators ops nest_at end_at
  comp-list h_q h_h o p =
      let k₂ : ℕ = next_l (late q) k₁ in
      let x : Op = nest_at k (end_at m q h k c) in
      let l : List Op = operators o (suc k) p in
      ap₂ (λ os e. os ++ (nest_at k e ∷ l)) (program-list h_q h_h outer) (program-end m q h k c)
      ∙ in-front (grows outer (plan_gens q) (early q) k c) (ops_c q k₁ c₁ ++ (ops h k₂ c₁ ++ [])) (x ∷ l) (ops_c q k₁ c₁ ++ (ops h k₂ c₁ ++ (x ∷ []))) l
      (in-front (ops_c q k₁ c₁) (ops h k₂ c₁ ++ []) (x ∷ l) (ops h k₂ c₁ ++ (x ∷ [])) l (tail-in (ops h k₂ c₁) x l))

-- a condition's comprehensions, where it has any
cond-list : (t : Form) (q : Clauses) (k : ℕ) (c : Slots) → Lists (inners_c q k c) (ops_c q k c) k (next_l (late q) k)
    → Lists (inners t k c) (ops t k c) k (next t k) → Lists (inners_c q (next t k) c) (ops_c q (next t k) c) (next t k) (next_l (late q) (next t k))
    → (b : Bool) → Lists (λ p. pick b (inners_c q k c p) (inners t k c (inners_c q (next t k) c p))) (pick b (ops_c q k c) (ops t k c ++ ops_c q (next t k) c)) k (next_l (pick (not b) (t ∷ late q) (late q)) k)
unfolding pick next_l
cond-list t q k c h₁ h₂ h₃ true = h₁
cond-list t q k c h₁ h₂ h₃ false = lists-two (inners t k c) (inners_c q (next t k) c) (ops t k c) (ops_c q (next t k) c) k (next t k) (next_l (late q) (next t k)) h₂ h₃

mutual
  unfolding inners ops next late sift conds_of program_at next_l

  inners-list : (t : Form) (k : ℕ) (c : Slots) → Lists (inners t k c) (ops t k c) k (next t k)
  inners-list (num z) k c = λ o p. refl
  inners-list (truth b) k c = λ o p. refl
  inners-list (row g) k c = λ o p. refl
  inners-list (cell i g) k c = λ o p. refl
  inners-list (rec ts) k c = inners_f-list ts k c
  inners-list (app f ts) k c = inners_f-list ts k c
  inners-list (bin b s t) k c = lists-two (inners s k c) (inners t (next s k) c) (ops s k c) (ops t (next s k) c) k (next s k) (next t (next s k)) (inners-list s k c) (inners-list t (next s k) c)
  inners-list (negate t) k c = inners-list t k c
  inners-list (comp m q h) k c = comp-list m q h k c (inners_c-list q (after (plan_gens q) k) (slots (plan_gens q) k c)) (inners-list h (next_l (late q) (after (plan_gens q) k)) (slots (plan_gens q) k c))

  inners_f-list : (ts : Forms) (k : ℕ) (c : Slots) → Lists (inners_f ts k c) (ops_f ts k c) k (nexts ts k)
  inners_f-list fnil k c = λ o p. refl
  inners_f-list (fcons t ts) k c = lists-two (inners t k c) (inners_f ts (next t k) c) (ops t k c) (ops_f ts (next t k) c) k (next t k) (nexts ts (next t k)) (inners-list t k c) (inners_f-list ts (next t k) c)

  inners_c-list : (q : Clauses) (k : ℕ) (c : Slots) → Lists (inners_c q k c) (ops_c q k c) k (next_l (late q) k)
  inners_c-list done k c = λ o p. refl
  inners_c-list (gen g n q) k c = inners_c-list q k c
  inners_c-list (cond t q) k c = cond-list t q k c (inners_c-list q k c) (inners-list t k c) (inners_c-list q (next t k) c) (free t)

-- The question's program has the operators of the question's plan, in order, and its reduce.
pub plan-is : (f : NormalForm) → plan_of f ≡ plan_from (program_of f)
unfolding plan_of plan_from program_of end_at
plan-is f =
    let q : Clauses = f.clauses in
    let c₁ : Slots = slots (plan_gens q) 0 no_slots in
    let k₁ : ℕ = after (plan_gens q) 0 in
    let k₂ : ℕ = next_l (late q) k₁ in
    sym (ap₂ (λ os e. plan os e.monoid e.head e.condition)
    (program-list f.monoid q f.head 0 no_slots (inners_c-list q k₁ c₁) (inners-list f.head k₂ c₁) join ∙ ap (λ l. grows join (plan_gens q) (early q) 0 no_slots ++ (ops_c q k₁ c₁ ++ l)) (append-nil (ops f.head k₂ c₁)))
    (program-end f.monoid q f.head 0 no_slots))
