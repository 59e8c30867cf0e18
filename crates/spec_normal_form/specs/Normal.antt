-- The normal form of a question. Document 01 applies six rules until none applies. Here the result is computed directly
-- (normalisation by evaluation): what a term comes to, with what each name comes to given, then written out. Where a rule
-- acts is marked (1) to (6) in 01's order. That every rule leaves the result the same, and that none applies to it, are
-- theorems (proofs/Rules, proofs/NoRuleApplies).
use Rattle.std.specs.Prelude.{Bool, true, false, ◌||◌, ℕ, zero, suc, ◌+◌, pos}
use Rattle.spec_calculus.specs.Lists.{upd}
use Rattle.spec_calculus.specs.Syntax.{Collection, list, bag, set, Monoid, of, sum, max, min, some, all, Bin, plus, minus, times, equal, less, and, or, Fun, Term, Terms, Quals, num, truth, name, field, rec, bin, negate, app, comp, table, tnil, tcons, qnil, gen, bind, cond, Question}
use Rattle.spec_normal_form.specs.Form.{Form, Forms, Clauses, fnil, fcons, done, ◌⊕◌, gens, gens_c, NormalForm}
use Rattle.spec_normal_form.specs.Form as Nf

-- What a term comes to: the row of a generator, a record, an "and", a comprehension (or a table), or anything else. A
-- comprehension is its qualifiers and what its head comes to, once it is known whether "some" gives way where the
-- qualifiers are written, and which generator number is the first free one.
mutual
  pub data Sem : Type 0 where
    row : ℕ → Sem
    fields : Sems → Sem
    both : Sem → Sem → Sem
    nested : Monoid → (Bool → ℕ → Clauses) → (Bool → ℕ → Sem) → Sem
    plain : (ℕ → Form) → Sem

  pub data Sems : Type 0 where
    snil : Sems
    scons : Sem → Sems → Sems

-- what refusal 25 rules out
abbrev pub nothing : Sem
nothing = plain (λ n. Nf.num (pos 0))

-- Written out as a term. "Generators are renumbered from 0 in written order": n is the next number.
unfoldable mutual
  pub quote : Sem → ℕ → Form
  quote (row g) n = Nf.row g
  quote (fields ds) n = Nf.rec (quotes ds n)
  quote (both a b) n = let s = quote a n in Nf.bin and s (quote b (n + gens s))
  quote (nested m q h) n = let w = q false n in Nf.comp m w (quote (h false n) (n + gens_c w))
  quote (plain f) n = f n

  pub quotes : Sems → ℕ → Forms
  quotes snil n = fnil
  quotes (scons d ds) n = let s = quote d n in fcons s (quotes ds (n + gens s))

-- "directly in set, max, some or all": the monoids that do not see repeats; "monoid 8, min, with .. max's .. rule for "some" conditions"
-- (document 02, E1)
unfoldable pub idempotent : Monoid → Bool
idempotent (of list) = false
idempotent (of bag) = false
idempotent (of set) = true
idempotent sum = false
idempotent max = true
idempotent min = true
idempotent some = true
idempotent all = true

-- whether a comprehension of m gives way as a condition, where b says that "some" does
unfoldable pub gives_way : Monoid → Bool → Bool
gives_way (of c) b = false
gives_way sum b = false
gives_way max b = false
gives_way min b = false
gives_way some b = b
gives_way all b = false

abbrev pub one : Form → Clauses
one t = Nf.cond t done

-- Written out as a condition; b says whether "some" gives way here.
-- (4) "an "and" condition becomes two"
-- (6) "a condition that is a "some" comprehension, directly in set, max, some or all, gives way to its qualifiers and
--     then its head as a condition"; in min too (document 02, E1)
unfoldable pub condition : Sem → Bool → ℕ → Clauses
condition (row g) b n = one (Nf.row g)
condition (fields ds) b n = one (quote (fields ds) n)
condition (both d e) b n = let w = condition d b n in w ⊕ condition e b (n + gens_c w)
condition (nested m q h) b n = elim (gives_way m b) [ true ↦ (let w = q b n in w ⊕ condition (h b n) b (n + gens_c w)) | false ↦ one (quote (nested m q h) n) ]
condition (plain f) b n = one (f n)

-- qualifiers, and what the head behind them comes to
pub record Splice : Type 0 where
  pub clauses : Clauses
  pub head : Sem

abbrev pub never : Splice
never = record { clauses = one (Nf.truth false); head = nothing }

-- Written out as a generator's term.
-- (5) "a generator over a comprehension gives way to that comprehension's qualifiers, its name standing for the head"
unfoldable pub ranges : Sem → Bool → ℕ → Splice
ranges (row g) b n = never
ranges (fields ds) b n = never
ranges (both d e) b n = never
ranges (nested m q h) b n = record { clauses = q b n; head = h b n }
ranges (plain f) b n = never

unfoldable pub nth : ℕ → Sems → Sem
nth i snil = nothing
nth zero (scons d ds) = d
nth (suc i) (scons d ds) = nth i ds

-- (2) "a field of a record becomes that term"
unfoldable pub part : ℕ → Sem → Sem
part i (row g) = plain (λ n. Nf.cell i g)
part i (fields ds) = nth i ds
part i (both a b) = nothing
part i (nested m q h) = nothing
part i (plain f) = nothing

abbrev pub pair : Bin → Sem → Sem → Sem
pair o a b = plain (λ n. let s = quote a n in Nf.bin o s (quote b (n + gens s)))

unfoldable pub binary : Bin → Sem → Sem → Sem
binary plus a b = pair plus a b
binary minus a b = pair minus a b
binary times a b = pair times a b
binary equal a b = pair equal a b
binary less a b = pair less a b
binary and a b = both a b
binary or a b = pair or a b

-- An operator of document 02 stands as it was asked: 02 adds no rule, so it is not simplified, nor split where it is a condition.
abbrev pub applied : Fun → Sems → Sem
applied f ds = plain (λ n. Nf.app f (quotes ds n))

-- clauses written from n on, and what comes behind them
unfoldable pub before : Clauses → ℕ → (ℕ → Splice) → Splice
before w n k = let s = k (n + gens_c w) in record { clauses = w ⊕ s.clauses; head = s.head }

abbrev pub SemEnv : Type 0
SemEnv = ℕ → Sem

-- A comprehension that a generator of another one ranges over is spliced into it. "Some" gives way there if it does in
-- either: by 26 an idempotent one ranges only in an idempotent one.
-- (1) "a bound name is replaced by its term"
-- (3) "a table that is not a generator's term becomes the comprehension of its own collection whose one generator ranges
--     over it and whose head is that generator's name". K is each table's collection.
unfoldable mutual
  pub norm : (ℕ → Collection) → Term → SemEnv → Sem
  norm K (num z) δ = plain (λ n. Nf.num z)
  norm K (truth b) δ = plain (λ n. Nf.truth b)
  norm K (name x) δ = δ x
  norm K (field i t) δ = part i (norm K t δ)
  norm K (rec ts) δ = fields (norms K ts δ)
  norm K (app f ts) δ = applied f (norms K ts δ)
  norm K (bin o s t) δ = binary o (norm K s δ) (norm K t δ)
  norm K (negate t) δ = plain (λ n. Nf.negate (quote (norm K t δ) n))
  norm K (comp m qs h) δ = nested m (λ b n. (walk K qs (b || idempotent m) (λ ε. norm K h ε) δ n).clauses) (λ b n. (walk K qs (b || idempotent m) (λ ε. norm K h ε) δ n).head)
  norm K (table k) δ = nested (of (K k)) (λ b n. Nf.gen n k done) (λ b n. row n)

  pub norms : (ℕ → Collection) → Terms → SemEnv → Sems
  norms K tnil δ = snil
  norms K (tcons t ts) δ = scons (norm K t δ) (norms K ts δ)

  pub walk : (ℕ → Collection) → Quals → Bool → (SemEnv → Sem) → SemEnv → ℕ → Splice
  walk K qnil b h δ n = record { clauses = done; head = h δ }
  walk K (gen x t qs) b h δ n = let r = ranges (norm K t δ) b n in before r.clauses n (λ j. walk K qs b h (upd x r.head δ) j)
  walk K (bind x t qs) b h δ n = walk K qs b h (upd x (norm K t δ) δ) n
  walk K (cond t qs) b h δ n = before (condition (norm K t δ) b n) n (λ j. walk K qs b h δ j)

-- a question has no free name
abbrev pub nowhere : SemEnv
nowhere = λ x. row x

unfoldable pub normal : (ℕ → Collection) → Question → NormalForm
normal K q =
    let w = walk K q.quals (idempotent q.monoid) (λ ε. norm K q.head ε) nowhere 0 in
    record { monoid = q.monoid; clauses = w.clauses; head = quote w.head (gens_c w.clauses) }
