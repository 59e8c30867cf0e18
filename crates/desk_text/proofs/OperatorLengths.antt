-- How long a plan's operators are, and a plan's lines.
use mathlib.Core.Path.{◌≡◌, refl, sym, ap, ◌∙◌, fun_ext}
use mathlib.Core.Bool.{Bool, true, false, not}
use mathlib.Core.List.{List, [], ◌∷◌, ◌++◌}
use Prim.Native.Nat.{ℕ, zero, suc, ◌+◌, ◌*◌, ◌≤◌, ◌<◌}
use native.Mathlib.Omega.{arith}
use borrow.Author.Tests.{eqb-true, leb-true}
use lib.Dec.{eqb}
use lib.ListN.{length, length-append}
use Rattle.spec_calculus.specs.Lists.{pick}
use Rattle.spec_calculus.specs.Syntax.{list, bag, set, Monoid, of, sum, max, min, some, all, and}
use Rattle.spec_normal_form.specs.Form.{Form, Forms, Clauses, NormalForm, as_form, num, truth, row, cell, rec, bin, negate, app, comp, fnil, fcons, done, gen, cond}
use Rattle.spec_normal_form.specs.Size.{nodes, nodes_f, nodes_c, size_fits}
use Rattle.form_words.specs.FormWords.{Fits, FitsF, FitsC}
use Rattle.spec_plan.specs.Plan.{PTerm, pbin, Source, Op, join, outer, nest}
use Rattle.spec_plan.specs.Planner.{Slots, free, next, term, next_l, term_l, joined, conj, Gen, from, from_unit, source, gens_of, conds_of, or_unit, plan_gens, sift, early, late, slot, home, grows_at, grows, ops, ops_f, ops_c, no_slots, plan_of}
use Rattle.spec_plan.specs.Lines.{ascii, decimal, monoid_name, truth_name, show_term, show_source, show_last, show_op, show_ops, lines}
use Rattle.spec_plan.proofs.Slots.{unit-length}
use Rattle.spec_plan.proofs.Unnesting.{slots_in, width_in, width_head}
use Rattle.desk_text.proofs.NodeBytes.{term_bytes, op_bytes, ops_bytes, clause_bytes, form-most}
use Rattle.desk_text.proofs.TermLengths.{shown, Short, short_none, short-slot, short-slots, after_is, few-digits, next-most, bin-most, term-most}

-- ---- several conditions, each with its "and"
abbrev total : List Form → ℕ
total [] = 0
total (t ∷ ts) = 7 + term_bytes t + total ts

abbrev nodes_l : List Form → ℕ
nodes_l [] = 0
nodes_l (t ∷ ts) = nodes t + nodes_l ts

abbrev FitsL : List Form → Type 0
FitsL [] = Unit {0}
FitsL (t ∷ ts) = Fits t × FitsL ts

abbrev and_bytes : List PTerm → ℕ
and_bytes [] = 0
and_bytes (b ∷ l) = 7 + shown b + and_bytes l

joined-most : (l : List PTerm) (a : PTerm) → shown (joined a l) ≤ shown a + and_bytes l
unfolding joined
joined-most [] a = omega arith
joined-most (b ∷ l) a = omega (arith, joined-most l (pbin and a b), bin-most and a b)

conj-most : (l : List PTerm) → shown (conj l) ≤ 4 + and_bytes l
unfolding conj show_term truth_name ascii
conj-most [] = omega arith
conj-most (a ∷ l) = omega (arith, joined-most l a)

next-all : (ts : List Form) (k : ℕ) → next_l ts k ≤ k + nodes_l ts
unfolding next_l
next-all [] k = omega arith
next-all (t ∷ ts) k = omega (arith, next-all ts (next t k), next-most t k)

module _ (c : Slots) (S : Short c) where
  and_most : (ts : List Form) → FitsL ts → (k : ℕ) → k + nodes_l ts ≤ 2048 → and_bytes (term_l ts c k) ≤ total ts
  unfolding term_l
  and_most [] f k l = omega arith
  and_most (t ∷ ts) f k l = omega (arith, term-most c S t f.0 k (omega arith), and_most ts f.1 (next t k) (omega (arith, next-most t k)))

  conds-most : (ts : List Form) → FitsL ts → (k : ℕ) → k + nodes_l ts ≤ 2048 → shown (conj (term_l ts c k)) ≤ 4 + total ts
  conds-most ts f k l = omega (arith, conj-most (term_l ts c k), and_most ts f k l)

-- ---- some of the conditions
sift-fits : (p : Form → Bool) (ts : List Form) → FitsL ts → FitsL (sift p ts)
unfolding sift pick
sift-fits p [] f = tt
sift-fits p (t ∷ ts) f = go (p t) (sift-fits p ts f.1)
  where
    go : (b : Bool) → FitsL (sift p ts) → FitsL (pick b (t ∷ sift p ts) (sift p ts))
    go true F = (f.0, F)
    go false F = F

sift-nodes : (p : Form → Bool) (ts : List Form) → nodes_l (sift p ts) ≤ nodes_l ts
unfolding sift pick
sift-nodes p [] = omega arith
sift-nodes p (t ∷ ts) = go (p t) (sift-nodes p ts)
  where
    go : (b : Bool) → nodes_l (sift p ts) ≤ nodes_l ts → nodes_l (pick b (t ∷ sift p ts) (sift p ts)) ≤ nodes t + nodes_l ts
    go true l = omega arith
    go false l = omega arith

sift-total : (p : Form → Bool) (t : Form) (ts : List Form) → total (sift p (t ∷ ts)) ≡ pick (p t) (7 + term_bytes t) 0 + total (sift p ts)
unfolding sift pick
sift-total p t ts = go (p t)
  where
    go : (b : Bool) → total (pick b (t ∷ sift p ts) (sift p ts)) ≡ pick b (7 + term_bytes t) 0 + total (sift p ts)
    go true = refl
    go false = omega arith

-- ---- each condition goes to one generator only
abbrev sum_at : ℕ → (ℕ → ℕ) → ℕ
sum_at zero w = 0
sum_at (suc m) w = w 0 + sum_at m (λ j. w (suc j))

sum-zero : (m : ℕ) (w : ℕ → ℕ) → ((j : ℕ) → w j ≡ 0) → sum_at m w ≡ 0
sum-zero zero w h = refl
sum-zero (suc m) w h = omega (arith, h 0, sum-zero m (λ j. w (suc j)) (λ j. h (suc j)))

sum-add : (m : ℕ) (v w : ℕ → ℕ) → sum_at m (λ j. v j + w j) ≡ sum_at m v + sum_at m w
sum-add zero v w = refl
sum-add (suc m) v w = omega (arith, sum-add m (λ j. v (suc j)) (λ j. w (suc j)))

abbrev Once : (ℕ → Bool) → Type 0
Once P = (i j : ℕ) → P i ≡ true → P j ≡ true → i ≡ j

sum-once : (m : ℕ) (P : ℕ → Bool) (x : ℕ) → Once P → sum_at m (λ j. pick (P j) x 0) ≤ x
unfolding pick
sum-once zero P x h = omega arith
sum-once (suc m) P x h = go (P 0) refl (sum-once m (λ j. P (suc j)) x (λ i j p q. omega (arith, h (suc i) (suc j) p q)))
  where
    other : P 0 ≡ true → (j : ℕ) (b : Bool) → P (suc j) ≡ b → pick b x 0 ≡ 0
    other e j true q = absurd (omega (arith, h 0 (suc j) e q))
    other e j false q = refl

    go : (b : Bool) → P 0 ≡ b → sum_at m (λ j. pick (P (suc j)) x 0) ≤ x → pick b x 0 + sum_at m (λ j. pick (P (suc j)) x 0) ≤ x
    go true e l = omega (arith, sum-zero m (λ j. pick (P (suc j)) x 0) (λ j. other e j (P (suc j)) refl))
    go false e l = omega arith

parts-most : (m : ℕ) (P : ℕ → Form → Bool) → ((t : Form) → Once (λ j. P j t)) → (ts : List Form) → sum_at m (λ j. total (sift (P j) ts)) ≤ total ts
unfolding sift
parts-most m P h [] = omega (arith, sum-zero m (λ j. 0) (λ j. refl))
parts-most m P h (t ∷ ts) = omega (
  arith,
  ap (sum_at m) (fun_ext (λ j. sift-total (P j) t ts)),
  sum-add m (λ j. pick (P j t) (7 + term_bytes t) 0) (λ j. total (sift (P j) ts)),
  sum-once m (λ j. P j t) (7 + term_bytes t) (h t),
  parts-most m P h ts,
)

-- ---- joins and outers
abbrev FitsG : Gen → Type 0
FitsG (from g k) = k < 1024
FitsG from_unit = Unit {0}

abbrev FitsGs : List Gen → Type 0
FitsGs [] = Unit {0}
FitsGs (g ∷ gs) = FitsG g × FitsGs gs

source-most : (g : Gen) → FitsG g → length (show_source (source g)) ≤ 4
unfolding source show_source ascii
source-most (from g k) l = few-digits k (omega arith)
source-most from_unit l = omega arith

abbrev Grower : (Source → PTerm → Op) → Type 0
Grower o = (s : Source) (p : PTerm) → length (show_op (o s p)) ≤ 8 + (length (show_source s) + shown p)

outer-most : Grower outer
unfolding show_op ascii
outer-most s p = omega (arith, length-append (show_source s) (ascii " " ++ (show_term p ++ ascii "\n")), length-append (show_term p) (ascii "\n"))

join-most : Grower join
unfolding show_op ascii
join-most s p = omega (arith, length-append (show_source s) (ascii " " ++ (show_term p ++ ascii "\n")), length-append (show_term p) (ascii "\n"))

module _ (o : Source → PTerm → Op) (named : Grower o) where
  grows_at_lem : (gs : List Gen) → FitsGs gs → (at : ℕ → List Form) → ((j : ℕ) → FitsL (at j)) → (x : ℕ) → ((j : ℕ) → nodes_l (at j) ≤ x) → (n : ℕ) (c : Slots) → Short c → n + length gs + x ≤ 2048 →
      length (show_ops (grows_at o gs at n c)) ≤ 16 * length gs + sum_at (length gs) (λ j. total (at j))
  unfolding grows_at show_ops
  grows_at_lem [] G at F x X n c S l = omega arith
  grows_at_lem (g ∷ gs) G at F x X n c S l =
      let c' = slot g n c in
      let S' = short-slot g n c (omega arith) S in
      omega (
        arith,
        length-append (show_op (o (source g) (conj (term_l (at 0) c' (suc n))))) (show_ops (grows_at o gs (λ j. at (suc j)) (suc n) c')),
        named (source g) (conj (term_l (at 0) c' (suc n))),
        source-most g G.0,
        conds-most c' S' (at 0) (F 0) (suc n) (omega (arith, X 0)),
        grows_at_lem gs G.1 (λ j. at (suc j)) (λ j. F (suc j)) x (λ j. X (suc j)) (suc n) c' S' (omega arith),
      )

  grows-most : (gs : List Gen) → FitsGs gs → (cs : List Form) → FitsL cs → (n : ℕ) (c : Slots) → Short c → n + length gs + nodes_l cs ≤ 2048 → length (show_ops (grows o gs cs n c)) ≤ 16 * length gs + total cs
  unfolding grows
  grows-most gs G cs F n c S l = omega (
    arith,
    grows_at_lem gs G (λ j. sift (λ t. eqb (home gs t) j) cs) (λ j. sift-fits (λ t. eqb (home gs t) j) cs F) (nodes_l cs) (λ j. sift-nodes (λ t. eqb (home gs t) j) cs) n c S l,
    parts-most (length gs) (λ j t. eqb (home gs t) j) (λ t i j p q. sym (eqb-true (home gs t) i p) ∙ eqb-true (home gs t) j q) cs,
  )

-- ---- a comprehension's clauses
gens-fit : (q : Clauses) → FitsC q → FitsGs (gens_of q)
unfolding gens_of
gens-fit done f = tt
gens-fit (gen g k q) f = (f.1, gens-fit q f.2)
gens-fit (cond t q) f = gens-fit q f.1

unit-fit : (gs : List Gen) → FitsGs gs → FitsGs (or_unit gs)
unfolding or_unit
unit-fit [] f = (tt, tt)
unit-fit (g ∷ gs) f = f

conds-fit : (q : Clauses) → FitsC q → FitsL (conds_of q)
unfolding conds_of
conds-fit done f = tt
conds-fit (gen g k q) f = conds-fit q f.2
conds-fit (cond t q) f = (f.0, conds-fit q f.1)

clauses-count : (q : Clauses) → length (gens_of q) + nodes_l (conds_of q) ≤ nodes_c q
unfolding gens_of conds_of nodes
clauses-count done = omega arith
clauses-count (gen g k q) = omega (arith, clauses-count q)
clauses-count (cond t q) = omega (arith, clauses-count q)

-- the operators in conditions that held a comprehension
abbrev late_ops : Clauses → ℕ
late_ops done = 0
late_ops (gen g k q) = late_ops q
late_ops (cond t q) = pick (free t) (late_ops q) (op_bytes t + late_ops q)

shares : (q : Clauses) → 16 * length (gens_of q) + (total (early q) + (total (late q) + late_ops q)) ≤ clause_bytes q
unfolding gens_of conds_of early late sift pick
shares done = omega arith
shares (gen g k q) = omega (arith, shares q)
shares (cond t q) = go (free t) (shares q)
  where
    go : (b : Bool) → 16 * length (gens_of q) + (total (early q) + (total (late q) + late_ops q)) ≤ clause_bytes q →
        16 * length (gens_of q) + (total (pick b (t ∷ early q) (early q)) + (total (pick (not b) (t ∷ late q) (late q)) + pick b (late_ops q) (op_bytes t + late_ops q)))
        ≤ 7 + term_bytes t + (op_bytes t + clause_bytes q)
    go true l = omega arith
    go false l = omega arith

module _ (q : Clauses) (h : Form) (n : ℕ) (room : n + (1 + (nodes_c q + nodes h)) ≤ 2048) where
  gens-room : n + length (plan_gens q) + nodes_l (conds_of q) + nodes h ≤ 2048
  unfolding plan_gens
  gens-room = omega (arith, unit-length (gens_of q), clauses-count q)

  conds-room : width_in q n + nodes_l (conds_of q) ≤ 2048
  conds-room = omega (arith, after_is (plan_gens q) n, gens-room)

  late-room : width_in q n + nodes_l (late q) ≤ 2048
  unfolding late
  late-room = omega (arith, conds-room, sift-nodes (λ t. not (free t)) (conds_of q))

  head-room : width_head q n + nodes h ≤ 2048
  unfolding late
  head-room = omega (arith, next-all (late q) (width_in q n), after_is (plan_gens q) n, gens-room, sift-nodes (λ t. not (free t)) (conds_of q))

  slots-short : (c : Slots) → Short c → Short (slots_in q n c)
  slots-short c S = short-slots (plan_gens q) n c (omega (arith, gens-room)) S

  -- what a nest or reduce closes, where the operators inside are bounded
  body-most : (o : Source → PTerm → Op) → Grower o → FitsC q → Fits h → (c : Slots) → Short c →
      length (show_ops (ops_c q (width_in q n) (slots_in q n c))) ≤ late_ops q → length (show_ops (ops h (width_head q n) (slots_in q n c))) ≤ op_bytes h →
      length (show_ops (grows o (plan_gens q) (early q) n c)) + length (show_ops (ops_c q (width_in q n) (slots_in q n c))) + length (show_ops (ops h (width_head q n) (slots_in q n c)))
      + (shown (term h (slots_in q n c) (width_head q n)) + shown (conj (term_l (late q) (slots_in q n c) (width_in q n)))) ≤ 19 + (clause_bytes q + (term_bytes h + op_bytes h))
  unfolding plan_gens early late
  body-most o named f fh c S A B = omega (
    arith,
    A,
    B,
    grows-most o named (plan_gens q) (unit-fit (gens_of q) (gens-fit q f)) (early q) (sift-fits free (conds_of q) (conds-fit q f)) n c S (omega (arith, gens-room, sift-nodes free (conds_of q))),
    unit-length (gens_of q),
    term-most (slots_in q n c) (slots-short c S) h fh (width_head q n) head-room,
    conds-most (slots_in q n c) (slots-short c S) (late q) (sift-fits (λ t. not (free t)) (conds_of q) (conds-fit q f)) (width_in q n) late-room,
    shares q,
  )

-- ---- "the last three", and nests
monoid-most : (m : Monoid) → length (ascii (monoid_name m)) ≤ 4
unfolding monoid_name ascii
monoid-most (of list) = omega arith
monoid-most (of bag) = omega arith
monoid-most (of set) = omega arith
monoid-most sum = omega arith
monoid-most max = omega arith
monoid-most min = omega arith
monoid-most some = omega arith
monoid-most all = omega arith

last-most : (m : Monoid) (h p : PTerm) → length (show_last m h p) ≤ 7 + (shown h + shown p)
unfolding show_last ascii
last-most m h p = omega (
  arith,
  monoid-most m,
  length-append (ascii (monoid_name m)) (ascii " " ++ (show_term h ++ (ascii " " ++ (show_term p ++ ascii "\n")))),
  length-append (show_term h) (ascii " " ++ (show_term p ++ ascii "\n")),
  length-append (show_term p) (ascii "\n"),
)

nest-most : (n : ℕ) (m : Monoid) (h p : PTerm) → n < 10000 → length (show_op (nest n m h p)) ≤ 17 + (shown h + shown p)
unfolding show_op ascii
nest-most n m h p l = omega (arith, few-digits n l, length-append (decimal n) (ascii " " ++ show_last m h p), last-most m h p)

shown-both : (a b : List Op) → length (show_ops (a ++ b)) ≡ length (show_ops a) + length (show_ops b)
unfolding show_ops
shown-both [] b = omega arith
shown-both (x ∷ a) b = omega (arith, length-append (show_op x) (show_ops (a ++ b)), length-append (show_op x) (show_ops a), shown-both a b)

shown-one : (x : Op) → length (show_ops (x ∷ [])) ≡ length (show_op x)
unfolding show_ops
shown-one x = omega (arith, length-append (show_op x) [])

either-most : (b : Bool) (x y : List Op) {m n : ℕ} → length (show_ops x) ≤ m → length (show_ops y) ≤ n → length (show_ops (pick b x y)) ≤ pick b m n
unfolding pick
either-most true x y p q = p
either-most false x y p q = q

-- ---- the operators of a term
mutual
  unfolding ops nodes show_ops conds_of

  ops-most : (t : Form) → Fits t → (n : ℕ) (c : Slots) → Short c → n + nodes t ≤ 2048 → length (show_ops (ops t n c)) ≤ op_bytes t
  ops-most (num z) f n c S l = omega arith
  ops-most (truth b) f n c S l = omega arith
  ops-most (row g) f n c S l = omega arith
  ops-most (cell i g) f n c S l = omega arith
  ops-most (rec ts) f n c S l = all-ops-most ts f n c S (omega arith)
  ops-most (app o ts) f n c S l = all-ops-most ts f.1 n c S (omega arith)
  ops-most (bin o s t) f n c S l = omega (
    arith,
    shown-both (ops s n c) (ops t (next s n) c),
    ops-most s f.0 n c S (omega arith),
    ops-most t f.1 (next s n) c S (omega (arith, next-most s n)),
  )
  ops-most (negate t) f n c S l = ops-most t f n c S (omega arith)
  ops-most (comp m q h) f n c S l =
      let c₁ = slots_in q n c in
      let n₁ = width_in q n in
      let n₂ = width_head q n in
      let last = nest n m (term h c₁ n₂) (conj (term_l (late q) c₁ n₁)) in
      omega (
        arith,
        shown-both (grows outer (plan_gens q) (early q) n c) (ops_c q n₁ c₁ ++ (ops h n₂ c₁ ++ (last ∷ []))),
        shown-both (ops_c q n₁ c₁) (ops h n₂ c₁ ++ (last ∷ [])),
        shown-both (ops h n₂ c₁) (last ∷ []),
        shown-one last,
        nest-most n m (term h c₁ n₂) (conj (term_l (late q) c₁ n₁)) (omega arith),
        body-most q h n l outer outer-most f.0 f.1 c S
            (clause-ops-most q f.0 n₁ c₁ (slots-short q h n l c S) (conds-room q h n l))
            (ops-most h f.1 n₂ c₁ (slots-short q h n l c S) (head-room q h n l)),
      )

  all-ops-most : (ts : Forms) → FitsF ts → (n : ℕ) (c : Slots) → Short c → n + nodes_f ts ≤ 2048 → length (show_ops (ops_f ts n c)) ≤ ops_bytes ts
  all-ops-most fnil f n c S l = omega arith
  all-ops-most (fcons t ts) f n c S l = omega (
    arith,
    shown-both (ops t n c) (ops_f ts (next t n) c),
    ops-most t f.0 n c S (omega arith),
    all-ops-most ts f.1 (next t n) c S (omega (arith, next-most t n)),
  )

  clause-ops-most : (q : Clauses) → FitsC q → (n : ℕ) (c : Slots) → Short c → n + nodes_l (conds_of q) ≤ 2048 → length (show_ops (ops_c q n c)) ≤ late_ops q
  clause-ops-most done f n c S l = omega arith
  clause-ops-most (gen g k q) f n c S l = clause-ops-most q f.2 n c S l
  clause-ops-most (cond t q) f n c S l = either-most (free t) (ops_c q n c) (ops t n c ++ ops_c q (next t n) c)
      (clause-ops-most q f.1 n c S (omega arith))
      (omega (
        arith,
        shown-both (ops t n c) (ops_c q (next t n) c),
        ops-most t f.0 n c S (omega arith),
        clause-ops-most q f.1 (next t n) c S (omega (arith, next-most t n)),
      ))

-- a plan's lines
pub lines-most : (f : NormalForm) → Fits (as_form f) → size_fits f ≡ true → length (lines (plan_of f)) ≤ 32768
unfolding lines plan_of size_fits nodes ascii
lines-most f F e =
    let q = f.clauses in
    let h = f.head in
    let c₁ = slots_in q 0 no_slots in
    let n₁ = width_in q 0 in
    let n₂ = width_head q 0 in
    let small : nodes (as_form f) ≤ 512 = leb-true (nodes (as_form f)) 512 e in
    let room : 0 + (1 + (nodes_c q + nodes h)) ≤ 2048 = omega arith in
    let inner = ops_c q n₁ c₁ ++ ops h n₂ c₁ in
    let last = show_last f.monoid (term h c₁ n₂) (conj (term_l (late q) c₁ n₁)) in
    omega (
      arith,
      form-most (as_form f),
      length-append (show_ops (grows join (plan_gens q) (early q) 0 no_slots ++ inner)) (ascii "reduce " ++ last),
      shown-both (grows join (plan_gens q) (early q) 0 no_slots) inner,
      shown-both (ops_c q n₁ c₁) (ops h n₂ c₁),
      last-most f.monoid (term h c₁ n₂) (conj (term_l (late q) c₁ n₁)),
      body-most q h 0 room join join-most F.0 F.1 no_slots short_none
          (clause-ops-most q F.0 n₁ c₁ (slots-short q h 0 room no_slots short_none) (conds-room q h 0 room))
          (ops-most h F.1 n₂ c₁ (slots-short q h 0 room no_slots short_none) (head-room q h 0 room)),
    )
