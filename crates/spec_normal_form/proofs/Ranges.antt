-- The constants, fields and tables of a normal form are those of its question, so they keep its ranges; and how large its
-- generators' numbers are.
use mathlib.Core.Path.{◌≡◌, refl, sym, subst}
use mathlib.Core.Bool.{Bool, true, false, ◌||◌}
use Prim.Native.Nat.{ℕ, zero, suc, ◌+◌, ◌*◌, ◌^◌, ◌<◌, ◌≤◌}
use native.Mathlib.Omega.{arith}
use lib.Dec.{eqb}
use lib.Signed.{mag}
use Rattle.spec_calculus.specs.Lists.{upd}
use Rattle.spec_calculus.specs.Syntax.{Collection, Bin, plus, minus, times, equal, less, and, or, Fun, choice, is_open, arity, Term, Terms, Quals, num, truth, name, field, rec, bin, negate, app, comp, table, tnil, tcons, qnil, gen, bind, cond, Question, as_term}
use Rattle.spec_checks.specs.Scope.{names_hold}
use Rattle.spec_normal_form.specs.Form.{Form, Forms, Clauses, fnil, fcons, done, ◌⊕◌, gens, gens_f, gens_c, as_form}
use Rattle.spec_normal_form.specs.Form as Nf
use Rattle.spec_normal_form.specs.Normal.{Sem, Sems, row, fields, both, nested, plain, snil, scons, nothing, quote, quotes, idempotent, condition, Splice, never, ranges, nth, part, pair, binary, before, SemEnv, norm, norms, walk, nowhere, normal}
use Rattle.spec_normal_form.specs.Size.{nodes, nodes_f, nodes_c}
use Rattle.spec_normal_form.proofs.WriteOut.{condition-cases, normal-is-quote}
use Rattle.spec_normal_form.proofs.GeneratorNumbers.{Numbered, NumberedF, NumberedC, normal-numbered}

-- n terms, n forms
abbrev pub ExactlyL : ℕ → Terms → Type 0
ExactlyL zero tnil = Unit {0}
ExactlyL zero (tcons t ts) = ⊥
ExactlyL (suc n) tnil = ⊥
ExactlyL (suc n) (tcons t ts) = ExactlyL n ts

abbrev pub Exactly : ℕ → Forms → Type 0
Exactly zero fnil = Unit {0}
Exactly zero (fcons t ts) = ⊥
Exactly (suc n) fnil = ⊥
Exactly (suc n) (fcons t ts) = Exactly n ts

-- a calendar's number is one byte
abbrev pub OpInRange : Fun → Type 0
OpInRange choice = Unit {0}
OpInRange (is_open n c) = n < 256

-- constants are "signed, four bytes each"; a field's index and a table's number are one byte; an operator has as many terms as it takes
abbrev mutual
  pub InRange : Term → Type 0
  InRange (num z) = mag z < 2 ^ 31
  InRange (truth b) = Unit {0}
  InRange (name x) = Unit {0}
  InRange (field i t) = (i < 256) × InRange t
  InRange (rec ts) = InRangeL ts
  InRange (app f ts) = ExactlyL (arity f) ts × InRangeL ts × OpInRange f
  InRange (bin o s t) = InRange s × InRange t
  InRange (negate t) = InRange t
  InRange (comp m qs h) = InRangeQ qs × InRange h
  InRange (table k) = k < 256

  pub InRangeL : Terms → Type 0
  InRangeL tnil = Unit {0}
  InRangeL (tcons t ts) = InRange t × InRangeL ts

  pub InRangeQ : Quals → Type 0
  InRangeQ qnil = Unit {0}
  InRangeQ (gen x t qs) = InRange t × InRangeQ qs
  InRangeQ (bind x t qs) = InRange t × InRangeQ qs
  InRangeQ (cond t qs) = InRange t × InRangeQ qs

abbrev pub Ranges : Question → Type 0
Ranges q = InRange (as_term q)

-- the same of a form, whatever its generators are
abbrev mutual
  pub Ranged : Form → Type 0
  Ranged (Nf.num z) = mag z < 2 ^ 31
  Ranged (Nf.truth b) = Unit {0}
  Ranged (Nf.row g) = Unit {0}
  Ranged (Nf.cell i g) = i < 256
  Ranged (Nf.rec ts) = RangedF ts
  Ranged (Nf.app f ts) = Exactly (arity f) ts × RangedF ts × OpInRange f
  Ranged (Nf.bin o s t) = Ranged s × Ranged t
  Ranged (Nf.negate t) = Ranged t
  Ranged (Nf.comp m q h) = RangedC q × Ranged h

  pub RangedF : Forms → Type 0
  RangedF fnil = Unit {0}
  RangedF (fcons t ts) = Ranged t × RangedF ts

  pub RangedC : Clauses → Type 0
  RangedC done = Unit {0}
  RangedC (Nf.gen g k q) = (k < 256) × RangedC q
  RangedC (Nf.cond t q) = Ranged t × RangedC q

-- What a term comes to writes forms in range: the predicate that goes through `norm`.
unfoldable mutual
  Writes : Sem → Type 0
  Writes (row g) = Unit {0}
  Writes (fields ds) = WritesL ds
  Writes (both d e) = Writes d × Writes e
  Writes (nested m q h) = (b : Bool) (n : ℕ) → RangedC (q b n) × Writes (h b n)
  Writes (plain f) = (n : ℕ) → Ranged (f n)

  WritesL : Sems → Type 0
  WritesL snil = Unit {0}
  WritesL (scons d ds) = Writes d × WritesL ds

abbrev WritesS : Splice → Type 0
WritesS s = RangedC s.clauses × Writes s.head

ranged-append : (w q : Clauses) → RangedC w → RangedC q → RangedC (w ⊕ q)
unfolding ◌⊕◌
ranged-append done q x y = y
ranged-append (Nf.gen g k w) q x y = (x.0, ranged-append w q x.1 y)
ranged-append (Nf.cond t w) q x y = (x.0, ranged-append w q x.1 y)

mutual
  unfolding Writes quote

  quote-writes : (d : Sem) → Writes d → (n : ℕ) → Ranged (quote d n)
  quote-writes (row g) a n = tt
  quote-writes (fields ds) a n = quotes-write ds a n
  quote-writes (both d e) a n = (quote-writes d a.0 n, quote-writes e a.1 (n + gens (quote d n)))
  quote-writes (nested m q h) a n = let x = a false n in (x.0, quote-writes (h false n) x.1 (n + gens_c (q false n)))
  quote-writes (plain f) a n = a n

  quotes-write : (ds : Sems) → WritesL ds → (n : ℕ) → RangedF (quotes ds n)
  quotes-write snil a n = tt
  quotes-write (scons d ds) a n = (quote-writes d a.0 n, quotes-write ds a.1 (n + gens (quote d n)))

condition-writes : (d : Sem) → Writes d → (b : Bool) (n : ℕ) → RangedC (condition d b n)
unfolding Writes condition
condition-writes (row g) a b n = (tt, tt)
condition-writes (fields ds) a b n = (quote-writes (fields ds) a n, tt)
condition-writes (both d e) a b n =
    let w = condition d b n in
    ranged-append w (condition e b (n + gens_c w)) (condition-writes d a.0 b n) (condition-writes e a.1 b (n + gens_c w))
condition-writes (nested m q h) a b n =
    let x = a b n in
    condition-cases RangedC m q h b n
    (λ p. ranged-append (q b n) (condition (h b n) b (n + gens_c (q b n))) x.0 (condition-writes (h b n) x.1 b (n + gens_c (q b n))))
    (λ p. (quote-writes (nested m q h) a n, tt))
condition-writes (plain f) a b n = (a n, tt)

nothing-writes : Writes nothing
unfolding Writes
nothing-writes n = omega arith

never-writes : WritesS never
never-writes = ((tt, tt), nothing-writes)

ranges-write : (d : Sem) → Writes d → (b : Bool) (n : ℕ) → WritesS (ranges d b n)
unfolding Writes ranges
ranges-write (row g) a b n = never-writes
ranges-write (fields ds) a b n = never-writes
ranges-write (both d e) a b n = never-writes
ranges-write (nested m q h) a b n = a b n
ranges-write (plain f) a b n = never-writes

nth-writes : (i : ℕ) (ds : Sems) → WritesL ds → Writes (nth i ds)
unfolding Writes nth
nth-writes i snil a = nothing-writes
nth-writes zero (scons d ds) a = a.0
nth-writes (suc i) (scons d ds) a = nth-writes i ds a.1

part-writes : (i : ℕ) (d : Sem) → i < 256 → Writes d → Writes (part i d)
unfolding Writes part
part-writes i (row g) l a = λ n. l
part-writes i (fields ds) l a = nth-writes i ds a
part-writes i (both d e) l a = nothing-writes
part-writes i (nested m q h) l a = nothing-writes
part-writes i (plain f) l a = nothing-writes

pair-writes : (o : Bin) (d e : Sem) → Writes d → Writes e → Writes (pair o d e)
unfolding Writes
pair-writes o d e a b = λ n. (quote-writes d a n, quote-writes e b (n + gens (quote d n)))

binary-writes : (o : Bin) (d e : Sem) → Writes d → Writes e → Writes (binary o d e)
unfolding Writes binary
binary-writes plus d e a b = pair-writes plus d e a b
binary-writes minus d e a b = pair-writes minus d e a b
binary-writes times d e a b = pair-writes times d e a b
binary-writes equal d e a b = pair-writes equal d e a b
binary-writes less d e a b = pair-writes less d e a b
binary-writes and d e a b = (a, b)
binary-writes or d e a b = pair-writes or d e a b

before-writes : (w : Clauses) (n : ℕ) (k : ℕ → Splice) → RangedC w → WritesS (k (n + gens_c w)) → WritesS (before w n k)
unfolding before
before-writes w n k x y = (ranged-append w (k (n + gens_c w)).clauses x y.0, y.1)

abbrev WritesE : SemEnv → Type 0
WritesE δ = (x : ℕ) → Writes (δ x)

upd-writes : (x : ℕ) (d : Sem) (δ : SemEnv) → Writes d → WritesE δ → WritesE (upd x d δ)
unfolding upd
upd-writes x d δ a e y = go (eqb x y) refl
  where
    go : (b : Bool) → eqb x y ≡ b → Writes (upd x d δ y)
    go true p = rw (p, upd) a
    go false p = rw (p, upd) (e y)

module _ (K : ℕ → Collection) where
  exactly-written : (k : ℕ) (ts : Terms) (δ : SemEnv) (n : ℕ) → ExactlyL k ts → Exactly k (quotes (norms K ts δ) n)
  unfolding norm quote
  exactly-written zero tnil δ n x = tt
  exactly-written zero (tcons t ts) δ n x = x
  exactly-written (suc k) tnil δ n x = x
  exactly-written (suc k) (tcons t ts) δ n x = exactly-written k ts δ (n + gens (quote (norm K t δ) n)) x

  mutual
    unfolding norm Writes

    norm-writes : (t : Term) → InRange t → (δ : SemEnv) → WritesE δ → Writes (norm K t δ)
    norm-writes (num z) r δ e = λ n. r
    norm-writes (truth b) r δ e = λ n. tt
    norm-writes (name x) r δ e = e x
    norm-writes (field i t) r δ e = part-writes i (norm K t δ) r.0 (norm-writes t r.1 δ e)
    norm-writes (rec ts) r δ e = norms-write ts r δ e
    norm-writes (app f ts) r δ e = λ n. (exactly-written (arity f) ts δ n r.0, quotes-write (norms K ts δ) (norms-write ts r.1 δ e) n, r.2)
    norm-writes (bin o s t) r δ e = binary-writes o (norm K s δ) (norm K t δ) (norm-writes s r.0 δ e) (norm-writes t r.1 δ e)
    norm-writes (negate t) r δ e = λ n. quote-writes (norm K t δ) (norm-writes t r δ e) n
    norm-writes (comp m qs t) r δ e = λ b n. walk-writes qs r.0 (b || idempotent m) (λ ε. norm K t ε) (λ ε f. norm-writes t r.1 ε f) δ n e
    norm-writes (table k) r δ e = λ b n. ((r, tt), tt)

    norms-write : (ts : Terms) → InRangeL ts → (δ : SemEnv) → WritesE δ → WritesL (norms K ts δ)
    norms-write tnil r δ e = tt
    norms-write (tcons t ts) r δ e = (norm-writes t r.0 δ e, norms-write ts r.1 δ e)

    walk-writes : (qs : Quals) → InRangeQ qs → (b : Bool) (h : SemEnv → Sem) → ((ε : SemEnv) → WritesE ε → Writes (h ε)) → (δ : SemEnv) (n : ℕ) → WritesE δ → WritesS (walk K qs b h δ n)
    walk-writes qnil r b h f δ n e = (tt, f δ e)
    walk-writes (gen x t qs) r b h f δ n e =
        let s = ranges (norm K t δ) b n in
        let a = ranges-write (norm K t δ) (norm-writes t r.0 δ e) b n in
        before-writes s.clauses n (λ j. walk K qs b h (upd x s.head δ) j) a.0
        (walk-writes qs r.1 b h f (upd x s.head δ) (n + gens_c s.clauses) (upd-writes x s.head δ a.1 e))
    walk-writes (bind x t qs) r b h f δ n e = walk-writes qs r.1 b h f (upd x (norm K t δ) δ) n (upd-writes x (norm K t δ) δ (norm-writes t r.0 δ e) e)
    walk-writes (cond t qs) r b h f δ n e =
        let w = condition (norm K t δ) b n in
        before-writes w n (λ j. walk K qs b h δ j) (condition-writes (norm K t δ) (norm-writes t r.0 δ e) b n)
        (walk-writes qs r.1 b h f δ (n + gens_c w) e)

-- A normal form has constants, fields and tables in range where its question has.
pub normal-ranged : (K : ℕ → Collection) (q : Question) → Ranges q → Ranged (as_form (normal K q))
unfolding Writes
normal-ranged K q r = subst Ranged (sym (normal-is-quote K q)) (quote-writes (norm K (as_term q) nowhere) (norm-writes K (as_term q) r nowhere (λ x. tt)) 0)

-- every generator number is below m
abbrev mutual
  pub Below : ℕ → Form → Type 0
  Below m (Nf.num z) = Unit {0}
  Below m (Nf.truth b) = Unit {0}
  Below m (Nf.row g) = g < m
  Below m (Nf.cell i g) = g < m
  Below m (Nf.rec ts) = BelowF m ts
  Below m (Nf.app f ts) = BelowF m ts
  Below m (Nf.bin o s t) = Below m s × Below m t
  Below m (Nf.negate t) = Below m t
  Below m (Nf.comp o q h) = BelowC m q × Below m h

  pub BelowF : ℕ → Forms → Type 0
  BelowF m fnil = Unit {0}
  BelowF m (fcons t ts) = Below m t × BelowF m ts

  pub BelowC : ℕ → Clauses → Type 0
  BelowC m done = Unit {0}
  BelowC m (Nf.gen g k q) = (g < m) × BelowC m q
  BelowC m (Nf.cond t q) = Below m t × BelowC m q

-- a form that is numbered from i on has numbers below i + gens alone
module _ (m : ℕ) where
  mutual
    unfolding gens

    numbered_below : (t : Form) (i : ℕ) → Numbered t i → i + gens t ≤ m → Below m t
    numbered_below (Nf.num z) i a l = tt
    numbered_below (Nf.truth b) i a l = tt
    numbered_below (Nf.row g) i a l = omega (arith, a, l)
    numbered_below (Nf.cell f g) i a l = omega (arith, a, l)
    numbered_below (Nf.rec ts) i a l = numbered-below_f ts i a l
    numbered_below (Nf.app f ts) i a l = numbered-below_f ts i a l
    numbered_below (Nf.bin o s t) i a l = (numbered_below s i a.0 (omega (arith, l)), numbered_below t (i + gens s) a.1 (omega (arith, l)))
    numbered_below (Nf.negate t) i a l = numbered_below t i a l
    numbered_below (Nf.comp o q h) i a l = (numbered-below_c q i a.0 (omega (arith, l)), numbered_below h (i + gens_c q) a.1 (omega (arith, l)))

    numbered-below_f : (ts : Forms) (i : ℕ) → NumberedF ts i → i + gens_f ts ≤ m → BelowF m ts
    numbered-below_f fnil i a l = tt
    numbered-below_f (fcons t ts) i a l = (numbered_below t i a.0 (omega (arith, l)), numbered-below_f ts (i + gens t) a.1 (omega (arith, l)))

    numbered-below_c : (q : Clauses) (i : ℕ) → NumberedC q i → i + gens_c q ≤ m → BelowC m q
    numbered-below_c done i a l = tt
    numbered-below_c (Nf.gen g k q) i a l = (omega (arith, a.0, l), numbered-below_c q (suc i) a.1 (omega (arith, l)))
    numbered-below_c (Nf.cond t q) i a l = (numbered_below t i a.0 (omega (arith, l)), numbered-below_c q (i + gens t) a.1 (omega (arith, l)))

-- each generator is two nodes
mutual
  unfolding gens nodes

  pub two-each : (t : Form) → 2 * gens t + 1 ≤ nodes t
  two-each (Nf.num z) = omega arith
  two-each (Nf.truth b) = omega arith
  two-each (Nf.row g) = omega arith
  two-each (Nf.cell i g) = omega arith
  two-each (Nf.rec ts) = omega (arith, two-each_f ts)
  two-each (Nf.app f ts) = omega (arith, two-each_f ts)
  two-each (Nf.bin o s t) = omega (arith, two-each s, two-each t)
  two-each (Nf.negate t) = omega (arith, two-each t)
  two-each (Nf.comp m q h) = omega (arith, two-each_c q, two-each h)

  two-each_f : (ts : Forms) → 2 * gens_f ts ≤ nodes_f ts
  two-each_f fnil = omega arith
  two-each_f (fcons t ts) = omega (arith, two-each t, two-each_f ts)

  two-each_c : (q : Clauses) → 2 * gens_c q ≤ nodes_c q
  two-each_c done = omega arith
  two-each_c (Nf.gen g k q) = omega (arith, two-each_c q)
  two-each_c (Nf.cond t q) = omega (arith, two-each t, two-each_c q)

-- Where the names of a question hold (24) and its normal form has at most 512 nodes (27), every generator number in the
-- normal form is below 256.
pub numbers-below-256 : (K : ℕ → Collection) (q : Question) → names_hold q ≡ true → nodes (as_form (normal K q)) ≤ 512 → Below 256 (as_form (normal K q))
numbers-below-256 K q h l = let t = as_form (normal K q) in numbered_below 256 t 0 (normal-numbered K q h) (omega (arith, l, two-each t))
