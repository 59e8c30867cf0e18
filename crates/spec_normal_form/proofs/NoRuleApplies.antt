-- The normal form is normal: no rule of document 01 applies to it, its generators are numbered from 0 in written order,
-- and each name in it is that of a generator in whose scope it stands.
use mathlib.Core.Path.{◌≡◌, refl, sym, subst}
use mathlib.Core.Bool.{Bool, true, false, ◌||◌, false≢true}
use mathlib.Mathlib.Data.Bool.Basic.{and_elim_left, and_elim_right}
use Prim.Native.Nat.{ℕ, zero, suc, ◌+◌}
use native.Mathlib.Omega.{arith}
use lib.Dec.{eqb}
use Rattle.spec_calculus.specs.Lists.{upd}
use Rattle.spec_calculus.specs.Syntax.{Collection, Monoid, of, sum, max, min, some, all, Bin, plus, minus, times, equal, less, and, or, Term, Terms, Quals, num, truth, name, field, rec, bin, negate, app, comp, table, tnil, tcons, qnil, gen, bind, cond, Question, as_term}
use Rattle.spec_calculus.proofs.Lists.{upd-hit}
use Rattle.spec_checks.specs.Scope.{Scope, in_scope, in_scopes, in_scope_q, names_hold, distinct, binders}
use Rattle.spec_normal_form.specs.Form.{Form, Clauses, done, ◌⊕◌, gens, gens_c, as_form}
use Rattle.spec_normal_form.specs.Form as Nf
use Rattle.spec_normal_form.specs.Normal.{Sem, Sems, row, fields, both, nested, plain, snil, scons, nothing, quote, quotes, idempotent, gives_way, one, condition, Splice, never, ranges, nth, part, pair, binary, before, SemEnv, norm, norms, walk, nowhere, normal}
use Rattle.spec_normal_form.specs.NoRule.{term_of, terms_of, quals_of, question_of, NotAnd, Stays, NoRule, NoRuleL, NoRuleQ, behind, Ordered, OrderedF, OrderedC}
use Rattle.spec_normal_form.proofs.Locality.{Grows, upd-grows}
use Rattle.spec_normal_form.proofs.WriteOut.{condition-cases, normal-is-quote}

-- no rule applies
abbrev pub Normal : Form → Type 0
Normal t = NoRule (term_of t)

abbrev pub NormalC : Clauses → Bool → Type 0
NormalC q b = NoRuleQ (quals_of q) b

normal-append : (w q : Clauses) (b : Bool) → NormalC w b → NormalC q b → NormalC (w ⊕ q) b
unfolding NoRule term_of ◌⊕◌
normal-append done q b x y = y
normal-append (Nf.gen g k w) q b x y = (tt, normal-append w q b x.1 y)
normal-append (Nf.cond t w) q b x y = (x.0, x.1, normal-append w q b x.2 y)

ordered-append : (w q : Clauses) (S : Scope) (i : ℕ) → OrderedC w S i → OrderedC q (behind w S) (i + gens_c w) → OrderedC (w ⊕ q) S i
unfolding Ordered behind ◌⊕◌ gens
ordered-append done q S i x y = subst (λ j. OrderedC q S j) (omega arith) y
ordered-append (Nf.gen g k w) q S i x y = (x.0, ordered-append w q (upd g true S) (suc i) x.1 (subst (λ j. OrderedC q (behind w (upd g true S)) j) (omega arith) y))
ordered-append (Nf.cond t w) q S i x y = (x.0, ordered-append w q S (i + gens t) x.1 (subst (λ j. OrderedC q (behind w S) j) (omega arith) y))

behind-append : (w q : Clauses) (S : Scope) → behind (w ⊕ q) S ≡ behind q (behind w S)
unfolding behind ◌⊕◌
behind-append done q S = refl
behind-append (Nf.gen g k w) q S = behind-append w q (upd g true S)
behind-append (Nf.cond t w) q S = behind-append w q S

pub behind-grows : (w : Clauses) (S : Scope) → Grows S (behind w S)
unfolding behind
behind-grows done S g s = s
behind-grows (Nf.gen x k w) S g s = behind-grows w (upd x true S) g (upd-grows x S g s)
behind-grows (Nf.cond t w) S g s = behind-grows w S g s

-- a condition that stays where "some" gives way stays everywhere
gives-way-less : (m : Monoid) (b c : Bool) → gives_way m (b || c) ≡ false → gives_way m b ≡ false
unfolding gives_way
gives-way-less (of x) b c h = refl
gives-way-less sum b c h = refl
gives-way-less max b c h = refl
gives-way-less min b c h = refl
gives-way-less some true c h = h
gives-way-less some false c h = refl
gives-way-less all b c h = refl

stays-less : (t : Term) (b c : Bool) → Stays (b || c) t → Stays b t
stays-less (num z) b c h = tt
stays-less (truth x) b c h = tt
stays-less (name x) b c h = tt
stays-less (field i t) b c h = tt
stays-less (rec ts) b c h = tt
stays-less (app f ts) b c h = tt
stays-less (bin o s t) b c h = h
stays-less (negate t) b c h = tt
stays-less (comp m q x) b c h = gives-way-less m b c h
stays-less (table k) b c h = tt

normal-less : (w : Clauses) (b c : Bool) → NormalC w (b || c) → NormalC w b
unfolding NoRule term_of
normal-less done b c x = tt
normal-less (Nf.gen g k w) b c x = (tt, normal-less w b c x.1)
normal-less (Nf.cond t w) b c x = (stays-less (term_of t) b c x.0, x.1, normal-less w b c x.2)

-- What a term comes to writes normal forms, wherever the names of S hold: the predicate that goes through `norm`.
unfoldable mutual
  Writes : Sem → Scope → Type 0
  Writes (row g) S = S g ≡ true
  Writes (fields ds) S = WritesL ds S
  Writes (both d e) S = Writes d S × Writes e S
  Writes (nested m q h) S = (b : Bool) (R : Scope) (n : ℕ) → Grows S R → NormalC (q b n) (b || idempotent m) × OrderedC (q b n) R n × Writes (h b n) (behind (q b n) R)
  Writes (plain f) S = (R : Scope) (n : ℕ) → Grows S R → Normal (f n) × ((b : Bool) → Stays b (term_of (f n))) × Ordered (f n) R n

  WritesL : Sems → Scope → Type 0
  WritesL snil S = Unit {0}
  WritesL (scons d ds) S = Writes d S × WritesL ds S

-- clauses, and what stands behind them
abbrev WritesC : Clauses → Bool → Scope → ℕ → Type 0
WritesC w b S n = NormalC w b × OrderedC w S n

abbrev WritesS : Splice → Bool → Scope → ℕ → Type 0
WritesS s b S n = NormalC s.clauses b × OrderedC s.clauses S n × Writes s.head (behind s.clauses S)

mutual
  unfolding Writes

  writes-grow : (d : Sem) (S R : Scope) → Grows S R → Writes d S → Writes d R
  writes-grow (row g) S R g₁ a = g₁ g a
  writes-grow (fields ds) S R g₁ a = writes_l-grow ds S R g₁ a
  writes-grow (both d e) S R g₁ a = (writes-grow d S R g₁ a.0, writes-grow e S R g₁ a.1)
  writes-grow (nested m q h) S R g₁ a = λ b Q n g₂. a b Q n (λ x s. g₂ x (g₁ x s))
  writes-grow (plain f) S R g₁ a = λ Q n g₂. a Q n (λ x s. g₂ x (g₁ x s))

  writes_l-grow : (ds : Sems) (S R : Scope) → Grows S R → WritesL ds S → WritesL ds R
  writes_l-grow snil S R g₁ a = tt
  writes_l-grow (scons d ds) S R g₁ a = (writes-grow d S R g₁ a.0, writes_l-grow ds S R g₁ a.1)

mutual
  unfolding Writes quote NoRule term_of Ordered

  quote-writes : (d : Sem) (S : Scope) → Writes d S → (n : ℕ) → Normal (quote d n) × Ordered (quote d n) S n
  quote-writes (row g) S a n = (tt, a)
  quote-writes (fields ds) S a n = quotes-write ds S a n
  quote-writes (both d e) S a n =
      let x = quote-writes d S a.0 n in
      let y = quote-writes e S a.1 (n + gens (quote d n)) in
      ((x.0, y.0), (x.1, y.1))
  quote-writes (nested m q h) S a n =
      let x = a false S n (λ g s. s) in
      let y = quote-writes (h false n) (behind (q false n) S) x.2 (n + gens_c (q false n)) in
      ((x.0, y.0), (x.1, y.1))
  quote-writes (plain f) S a n = let x = a S n (λ g s. s) in (x.0, x.2)

  quotes-write : (ds : Sems) (S : Scope) → WritesL ds S → (n : ℕ) → NoRuleL (terms_of (quotes ds n)) × OrderedF (quotes ds n) S n
  quotes-write snil S a n = (tt, tt)
  quotes-write (scons d ds) S a n =
      let x = quote-writes d S a.0 n in
      let y = quotes-write ds S a.1 (n + gens (quote d n)) in
      ((x.0, y.0), (x.1, y.1))

one_writes : (t : Form) (b : Bool) (S : Scope) (n : ℕ) → Stays b (term_of t) → Normal t × Ordered t S n → WritesC (one t) b S n
unfolding NoRule term_of Ordered
one_writes t b S n s a = ((s, a.0, tt), (a.1, tt))

append-writes : (w q : Clauses) (b : Bool) (S : Scope) (n : ℕ) → WritesC w b S n → WritesC q b (behind w S) (n + gens_c w) → WritesC (w ⊕ q) b S n
append-writes w q b S n x y = (normal-append w q b x.0 y.0, ordered-append w q S n x.1 y.1)

condition-writes : (d : Sem) (S : Scope) → Writes d S → (b : Bool) (n : ℕ) → WritesC (condition d b n) b S n
unfolding Writes condition quote term_of
condition-writes (row g) S a b n = one_writes (Nf.row g) b S n tt (quote-writes (row g) S a n)
condition-writes (fields ds) S a b n = one_writes (quote (fields ds) n) b S n tt (quote-writes (fields ds) S a n)
condition-writes (both d e) S a b n =
    let w = condition d b n in
    append-writes w (condition e b (n + gens_c w)) b S n (condition-writes d S a.0 b n) (condition-writes e (behind w S) (writes-grow e S (behind w S) (behind-grows w S) a.1) b (n + gens_c w))
condition-writes (nested m q h) S a b n =
    let w = q b n in
    let x = a b S n (λ g s. s) in
    let y = condition-writes (h b n) (behind w S) x.2 b (n + gens_c w) in
    condition-cases (λ v. WritesC v b S n) m q h b n
    (λ p. append-writes w (condition (h b n) b (n + gens_c w)) b S n (normal-less w b (idempotent m) x.0, x.1) y)
    (λ p. one_writes (quote (nested m q h) n) b S n p (quote-writes (nested m q h) S a n))
condition-writes (plain f) S a b n = let x = a S n (λ g s. s) in one_writes (f n) b S n (x.1 b) (x.0, x.2)

nothing-writes : (S : Scope) → Writes nothing S
unfolding Writes NoRule term_of Ordered
nothing-writes S = λ R n g. (tt, λ b. tt, tt)

never-writes : (b : Bool) (S : Scope) (n : ℕ) → WritesS never b S n
unfolding NoRule term_of Ordered
never-writes b S n = ((tt, tt, tt), (tt, tt), nothing-writes (behind never.clauses S))

ranges-writes : (d : Sem) (S : Scope) → Writes d S → (b : Bool) (n : ℕ) → WritesS (ranges d b n) b S n
unfolding Writes ranges
ranges-writes (row g) S a b n = never-writes b S n
ranges-writes (fields ds) S a b n = never-writes b S n
ranges-writes (both d e) S a b n = never-writes b S n
ranges-writes (nested m q h) S a b n = let x = a b S n (λ g s. s) in (normal-less (q b n) b (idempotent m) x.0, x.1, x.2)
ranges-writes (plain f) S a b n = never-writes b S n

nth-writes : (i : ℕ) (ds : Sems) (S : Scope) → WritesL ds S → Writes (nth i ds) S
unfolding Writes nth
nth-writes i snil S a = nothing-writes S
nth-writes zero (scons d ds) S a = a.0
nth-writes (suc i) (scons d ds) S a = nth-writes i ds S a.1

part-writes : (i : ℕ) (d : Sem) (S : Scope) → Writes d S → Writes (part i d) S
unfolding Writes part NoRule term_of Ordered
part-writes i (row g) S a = λ R n g₁. ((tt, tt), λ b. tt, g₁ g a)
part-writes i (fields ds) S a = nth-writes i ds S a
part-writes i (both d e) S a = nothing-writes S
part-writes i (nested m q h) S a = nothing-writes S
part-writes i (plain f) S a = nothing-writes S

pair-writes : (o : Bin) (d e : Sem) (S : Scope) → NotAnd o → Writes d S → Writes e S → Writes (pair o d e) S
unfolding Writes NoRule term_of Ordered
pair-writes o d e S w a b = λ R n g.
    let x = quote-writes d R (writes-grow d S R g a) n in
    let y = quote-writes e R (writes-grow e S R g b) (n + gens (quote d n)) in
    ((x.0, y.0), λ c. w, (x.1, y.1))

binary-writes : (o : Bin) (d e : Sem) (S : Scope) → Writes d S → Writes e S → Writes (binary o d e) S
unfolding Writes binary
binary-writes plus d e S a b = pair-writes plus d e S tt a b
binary-writes minus d e S a b = pair-writes minus d e S tt a b
binary-writes times d e S a b = pair-writes times d e S tt a b
binary-writes equal d e S a b = pair-writes equal d e S tt a b
binary-writes less d e S a b = pair-writes less d e S tt a b
binary-writes and d e S a b = (a, b)
binary-writes or d e S a b = pair-writes or d e S tt a b

negate-writes : (d : Sem) (S : Scope) → Writes d S → Writes (plain (λ n. Nf.negate (quote d n))) S
unfolding Writes NoRule term_of Ordered
negate-writes d S a = λ R n g. let x = quote-writes d R (writes-grow d S R g a) n in (x.0, λ b. tt, x.1)

table-writes : (c : Collection) (k : ℕ) (S : Scope) → Writes (nested (of c) (λ b n. Nf.gen n k done) (λ b n. row n)) S
unfolding Writes NoRule term_of Ordered behind
table-writes c k S = λ b R n g. ((tt, tt), (refl, tt), upd-hit n true R)

before-writes : (w : Clauses) (b : Bool) (S : Scope) (n : ℕ) (k : ℕ → Splice) → WritesC w b S n → WritesS (k (n + gens_c w)) b (behind w S) (n + gens_c w) → WritesS (before w n k) b S n
unfolding before
before-writes w b S n k x y =
    let s = k (n + gens_c w) in
    let z = append-writes w s.clauses b S n x (y.0, y.1) in
    (z.0, z.1, subst (λ R. Writes s.head R) (sym (behind-append w s.clauses S)) y.2)

-- An environment writes normal forms: each name of P does, where c says that names hold (24), else each name.
abbrev WritesE : Bool → Scope → SemEnv → Scope → Type 0
WritesE c P δ S = (x : ℕ) → (c ≡ true → P x ≡ true) → Writes (δ x) S

upd-writes : (c : Bool) (P : Scope) (x : ℕ) (d : Sem) (δ : SemEnv) (S : Scope) → Writes d S → WritesE c P δ S → WritesE c (upd x true P) (upd x d δ) S
unfolding upd
upd-writes c P x d δ S a e y = go (eqb x y) refl
  where
    go : (b : Bool) → eqb x y ≡ b → (c ≡ true → upd x true P y ≡ true) → Writes (upd x d δ y) S
    go true p = rw (p, upd) (λ h. a)
    go false p = rw (p, upd) (e y)

env-grow : (c : Bool) (P : Scope) (δ : SemEnv) (S R : Scope) → Grows S R → WritesE c P δ S → WritesE c P δ R
env-grow c P δ S R g e x h = writes-grow (δ x) S R g (e x h)

module _ (K : ℕ → Collection) (c : Bool) where
  mutual
    unfolding norm Writes in_scope NoRule term_of Ordered behind

    norm-writes : (t : Term) (P : Scope) → (c ≡ true → in_scope t P ≡ true) → (δ : SemEnv) (S : Scope) → WritesE c P δ S → Writes (norm K t δ) S
    norm-writes (num z) P h δ S e = λ R n g. (tt, λ b. tt, tt)
    norm-writes (truth b) P h δ S e = λ R n g. (tt, λ b. tt, tt)
    norm-writes (name x) P h δ S e = e x h
    norm-writes (field i t) P h δ S e = part-writes i (norm K t δ) S (norm-writes t P h δ S e)
    norm-writes (rec ts) P h δ S e = norms-write ts P h δ S e
    norm-writes (app f ts) P h δ S e = λ R n g. let x = quotes-write (norms K ts δ) R (writes_l-grow (norms K ts δ) S R g (norms-write ts P h δ S e)) n in (x.0, λ b. tt, x.1)
    norm-writes (bin o s t) P h δ S e = binary-writes o (norm K s δ) (norm K t δ) S
        (norm-writes s P (λ p. and_elim_left (in_scope s P) (in_scope t P) (h p)) δ S e)
        (norm-writes t P (λ p. and_elim_right (in_scope s P) (in_scope t P) (h p)) δ S e)
    norm-writes (negate t) P h δ S e = negate-writes (norm K t δ) S (norm-writes t P h δ S e)
    norm-writes (comp m qs t) P h δ S e = λ b R n g.
        walk-writes qs (b || idempotent m) (λ ε. norm K t ε) (λ Q. in_scope t Q) (λ Q p ε T f. norm-writes t Q p ε T f) P h δ R n (env-grow c P δ S R g e)
    norm-writes (table k) P h δ S e = table-writes (K k) k S

    norms-write : (ts : Terms) (P : Scope) → (c ≡ true → in_scopes ts P ≡ true) → (δ : SemEnv) (S : Scope) → WritesE c P δ S → WritesL (norms K ts δ) S
    norms-write tnil P h δ S e = tt
    norms-write (tcons t ts) P h δ S e =
        (norm-writes t P (λ p. and_elim_left (in_scope t P) (in_scopes ts P) (h p)) δ S e, norms-write ts P (λ p. and_elim_right (in_scope t P) (in_scopes ts P) (h p)) δ S e)

    walk-writes : (qs : Quals) (b : Bool) (h : SemEnv → Sem) (k : Scope → Bool)
        → ((Q : Scope) → (c ≡ true → k Q ≡ true) → (ε : SemEnv) (T : Scope) → WritesE c Q ε T → Writes (h ε) T)
        → (P : Scope) → (c ≡ true → in_scope_q qs k P ≡ true) → (δ : SemEnv) (S : Scope) (n : ℕ) → WritesE c P δ S → WritesS (walk K qs b h δ n) b S n
    walk-writes qnil b h k r P p δ S n e = (tt, tt, r P p δ S e)
    walk-writes (gen x t qs) b h k r P p δ S n e =
        let s = ranges (norm K t δ) b n in
        let w = s.clauses in
        let a = ranges-writes (norm K t δ) S (norm-writes t P (λ v. and_elim_left (in_scope t P) (in_scope_q qs k (upd x true P)) (p v)) δ S e) b n in
        before-writes w b S n (λ j. walk K qs b h (upd x s.head δ) j) (a.0, a.1)
        (walk-writes qs b h k r (upd x true P) (λ v. and_elim_right (in_scope t P) (in_scope_q qs k (upd x true P)) (p v)) (upd x s.head δ) (behind w S) (n + gens_c w)
        (upd-writes c P x s.head δ (behind w S) a.2 (env-grow c P δ S (behind w S) (behind-grows w S) e)))
    walk-writes (bind x t qs) b h k r P p δ S n e =
        let a = norm-writes t P (λ v. and_elim_left (in_scope t P) (in_scope_q qs k (upd x true P)) (p v)) δ S e in
        walk-writes qs b h k r (upd x true P) (λ v. and_elim_right (in_scope t P) (in_scope_q qs k (upd x true P)) (p v)) (upd x (norm K t δ) δ) S n (upd-writes c P x (norm K t δ) δ S a e)
    walk-writes (cond t qs) b h k r P p δ S n e =
        let w = condition (norm K t δ) b n in
        let a = norm-writes t P (λ v. and_elim_left (in_scope t P) (in_scope_q qs k P) (p v)) δ S e in
        before-writes w b S n (λ j. walk K qs b h δ j) (condition-writes (norm K t δ) S a b n)
        (walk-writes qs b h k r P (λ v. and_elim_right (in_scope t P) (in_scope_q qs k P) (p v)) δ (behind w S) (n + gens_c w) (env-grow c P δ S (behind w S) (behind-grows w S) e))

-- the whole question, where c says that names hold (24)
question-writes : (K : ℕ → Collection) (c : Bool) (q : Question) → (c ≡ true → in_scope (as_term q) (λ x. false) ≡ true) → (S : Scope) → WritesE c (λ x. false) nowhere S → Normal (as_form (normal K q)) × Ordered (as_form (normal K q)) S 0
question-writes K c q h S e = subst (λ f. Normal f × Ordered f S 0) (sym (normal-is-quote K q)) (quote-writes (norm K (as_term q) nowhere) S (norm-writes K c (as_term q) (λ x. false) h nowhere S e) 0)

-- Document 01: the rules are "applied until none applies". None applies to the normal form, for every question, typed or
-- not.
pub normal-no-rule : (K : ℕ → Collection) (q : Question) → NoRule (as_term (question_of (normal K q)))
unfolding Writes term_of
normal-no-rule K q = (question-writes K false q (λ p. absurd (false≢true p)) (λ g. true) (λ x h. refl)).0

-- "Generators are renumbered from 0 in written order", in every question.
pub normal-ordered : (K : ℕ → Collection) (q : Question) → Ordered (as_form (normal K q)) (λ g. true) 0
unfolding Writes
normal-ordered K q = (question-writes K false q (λ p. absurd (false≢true p)) (λ g. true) (λ x h. refl)).1

-- "A name holds from the end of its qualifier to the end of its comprehension." Where no name of a question is out of
-- scope (24), none of its normal form is.
pub normal-in-scope : (K : ℕ → Collection) (q : Question) → names_hold q ≡ true → Ordered (as_form (normal K q)) (λ g. false) 0
unfolding Writes names_hold
normal-in-scope K q h = (question-writes K true q (λ p. and_elim_left (in_scope (as_term q) (λ x. false)) (distinct (binders (as_term q))) h) (λ g. false) (λ x f. absurd (false≢true (f refl)))).1
