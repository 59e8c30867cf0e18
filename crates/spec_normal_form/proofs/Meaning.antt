-- The value of a question's normal form is the value of the question (theorem 5).
use mathlib.Core.Path.{◌≡◌, refl, sym, ap, ap₂, subst, ◌∙◌}
use mathlib.Core.List.{List, [], ◌∷◌, append-nil}
use mathlib.Core.Bool.{Bool, true, false, ◌||◌}
use Prim.Native.Nat.{ℕ, zero, suc, ◌+◌, ◌≤◌, ◌<◌}
use native.Mathlib.Omega.{arith}
use lib.Dec.{eqb}
use Rattle.spec_calculus.specs.Lists.{bind_l, guard, upd}
use Rattle.spec_calculus.specs.Syntax.{Collection, Monoid, of, sum, max, min, some, all, Bin, plus, minus, times, equal, less, and, or, Fun, choice, is_open, Term, Terms, Quals, num, name, field, rec, bin, negate, app, comp, table, tnil, tcons, qnil, gen, bind, cond, Question, as_term}
use Rattle.spec_calculus.specs.Syntax as Sy
use Rattle.spec_calculus.specs.Value.{Value, Values, vcons, junk, as_bool, elems, field_of, bin_v, not_v, app_v, Tables, kind_of, columns_of, rows_of}
use Rattle.spec_calculus.specs.Value as Va
use Rattle.spec_calculus.specs.Monoid.{canonical}
use Rattle.spec_calculus.specs.Meaning.{Env, eval, evals, runs, meaning}
use Rattle.spec_calculus.proofs.Lists.{bind-bind, bind-one, guard-bind, guard-guard, upd-hit, upd-miss}
use Rattle.spec_calculus.proofs.Folds.{canon, Eqv, eqv-bind, eqv-guard, fold-eqv, repeats-eqv}
use Rattle.spec_checks.specs.Types.{Ty, Tys, number, truth, record', coll, ynil, ycons, wrong, has, cells, type_at, Context, may_stand, generators_fit}
use Rattle.spec_checks.proofs.GeneratorFits.{may_stand-trans, fit-eqv}
use Rattle.spec_checks.proofs.Judgement.{operand, result, Gathers, Has, HasL, HasQ, untyped, same-type, question-typed, Scalar, Takes}
use Rattle.spec_normal_form.specs.Form.{Form, Clauses, done, ◌⊕◌, gens, gens_c, value, values, loops, normal_value}
use Rattle.spec_normal_form.specs.Form as Nf
use Rattle.spec_normal_form.specs.Normal.{Sem, Sems, row, both, nested, plain, scons, quote, quotes, idempotent, gives_way, one, condition, Splice, ranges, nth, part, pair, binary, before, SemEnv, norm, norms, walk, nowhere, normal}
use Rattle.spec_normal_form.proofs.WriteOut.{next-number, loops-append, normal-is-quote}
use Rattle.spec_normal_form.proofs.IdempotentMonoids.{Within, Safe, or-safe, false-safe, safe-set, idempotent-within, within-safe}

-- a later world: more generators, the rows of the earlier ones unchanged
record Later (n : ℕ) (ρ : Env) (j : ℕ) (σ : Env) : Type 0 where
  up : n ≤ j
  same : (g : ℕ) → g < n → σ g ≡ ρ g

later-self : (n : ℕ) (ρ : Env) → Later n ρ n ρ
later-self n ρ = record { up = omega arith; same = λ g h. refl }

later-up : {n : ℕ} {ρ : Env} {j : ℕ} {σ : Env} (i : ℕ) → Later n ρ j σ → Later n ρ (j + i) σ
later-up i e = record { up = omega arith; same = e.same }

later_trans : {n : ℕ} {ρ : Env} {j : ℕ} {σ : Env} {i : ℕ} {τ : Env} → Later n ρ j σ → Later j σ i τ → Later n ρ i τ
later_trans {n} {ρ} {j} {σ} {i} {τ} e f = record { up = omega arith; same = λ g h. f.same g (omega (arith, e.up)) ∙ e.same g h }

-- what holds in every later world
abbrev Always : ℕ → Env → (ℕ → Env → Type 0) → Type 0
Always n ρ P = (j : ℕ) (σ : Env) → Later n ρ j σ → P j σ

-- both worlds over clauses that are written one behind the other
later-append : (j : ℕ) (σ : Env) (w q : Clauses) {τ υ : Env} → Later j σ (j + gens_c w) τ → Later (j + gens_c w) τ ((j + gens_c w) + gens_c q) υ → Later j σ (j + gens_c (w ⊕ q)) υ
later-append j σ w q e f = record { up = omega arith; same = (later_trans e f).same }

module _ (T : Tables) where
  -- written anywhere later, it has the value
  abbrev Quotes : Sem → Value → ℕ → Env → Type 0
  Quotes d v n ρ = Always n ρ (λ j σ. value canonical T (quote d j) σ ≡ v)

  -- written as a condition anywhere later, it is the condition
  abbrev Conds : Sem → Value → ℕ → Env → Type 0
  Conds d v n ρ = (M : Monoid) (b : Bool) → Safe b M → Always n ρ (λ j σ. (k : Env → List Value) (X : List Value)
      → ((τ : Env) → Later j σ (j + gens_c (condition d b j)) τ → Eqv M (k τ) X)
      → Eqv M (loops canonical T (condition d b j) k σ) (guard (as_bool v) X))

  -- the clauses run through the list l, and at each element the head stands for it
  abbrev Runs : Monoid → Splice → ℕ → Env → (Sem → Value → ℕ → Env → Type 0) → List Value → Type 0
  Runs M s j σ P l = (k : Env → List Value) (f : Value → List Value)
      → ((u : Value) (τ : Env) → Later j σ (j + gens_c s.clauses) τ → P s.head u (j + gens_c s.clauses) τ → Eqv M (k τ) (f u))
      → Eqv M (loops canonical T s.clauses k σ) (bind_l l f)

  -- The logical relation, by recursion on the type: d stands for v where the generators below n have the rows ρ. It asks for
  -- the ways in which a value of the type is used, in every later world.
  unfoldable mutual
    R : Ty → Sem → Value → ℕ → Env → Type 0
    R number d v n ρ = Quotes d v n ρ
    R truth d v n ρ = Quotes d v n ρ × Conds d v n ρ
    R (record' ts) d v n ρ = Quotes d v n ρ × ((i : ℕ) → RAt ts i (part i d) (field_of i v) n ρ)
    R (coll c t) d v n ρ = Quotes d v n ρ × ((M : Monoid) → may_stand c M ≡ true → (b : Bool) → Safe b M
        → Always n ρ (λ j σ. Runs M (ranges d b j) j σ (λ e u i τ. R t e u i τ) (elems v)))

    RAt : Tys → ℕ → Sem → Value → ℕ → Env → Type 0
    RAt ynil i d v n ρ = Unit {0}
    RAt (ycons t ts) zero d v n ρ = R t d v n ρ
    RAt (ycons t ts) (suc i) d v n ρ = RAt ts i d v n ρ

  quotes-of : (t : Ty) (d : Sem) (v : Value) (n : ℕ) (ρ : Env) → R t d v n ρ → Quotes d v n ρ
  unfolding R
  quotes-of number d v n ρ r = r
  quotes-of truth d v n ρ r = r.0
  quotes-of (record' ts) d v n ρ r = r.0
  quotes-of (coll c t) d v n ρ r = r.0

  mutual
    unfolding R

    mono : (t : Ty) (d : Sem) (v : Value) (n : ℕ) (ρ : Env) (j : ℕ) (σ : Env) → Later n ρ j σ → R t d v n ρ → R t d v j σ
    mono number d v n ρ j σ e r = λ i τ f. r i τ (later_trans e f)
    mono truth d v n ρ j σ e r = (λ i τ f. r.0 i τ (later_trans e f), λ M b o i τ f. r.1 M b o i τ (later_trans e f))
    mono (record' ts) d v n ρ j σ e r = (λ i τ f. r.0 i τ (later_trans e f), λ i. mono_at ts i (part i d) (field_of i v) n ρ j σ e (r.1 i))
    mono (coll c t) d v n ρ j σ e r = (λ i τ f. r.0 i τ (later_trans e f), λ M h b o i τ f. r.1 M h b o i τ (later_trans e f))

    mono_at : (ts : Tys) (i : ℕ) (d : Sem) (v : Value) (n : ℕ) (ρ : Env) (j : ℕ) (σ : Env) → Later n ρ j σ → RAt ts i d v n ρ → RAt ts i d v j σ
    mono_at ynil i d v n ρ j σ e r = tt
    mono_at (ycons t ts) zero d v n ρ j σ e r = mono t d v n ρ j σ e r
    mono_at (ycons t ts) (suc i) d v n ρ j σ e r = mono_at ts i d v n ρ j σ e r

  -- environments
  abbrev REnv : Context → SemEnv → Env → ℕ → Env → Type 0
  REnv Γ δ ρ n σ = (x : ℕ) (t : Ty) → Γ x ≡ has t → R t (δ x) (ρ x) n σ

  env-mono : (Γ : Context) (δ : SemEnv) (ρ : Env) (n : ℕ) (σ : Env) (j : ℕ) (τ : Env) → Later n σ j τ → REnv Γ δ ρ n σ → REnv Γ δ ρ j τ
  env-mono Γ δ ρ n σ j τ e r x t h = mono t (δ x) (ρ x) n σ j τ e (r x t h)

  env-upd : (Γ : Context) (δ : SemEnv) (ρ : Env) (n : ℕ) (σ : Env) (x : ℕ) (t : Ty) (d : Sem) (v : Value) → R t d v n σ → REnv Γ δ ρ n σ → REnv (upd x (has t) Γ) (upd x d δ) (upd x v ρ) n σ
  unfolding upd
  env-upd Γ δ ρ n σ x t d v r e y s = go (eqb x y) refl
    where
      go : (b : Bool) → eqb x y ≡ b → upd x (has t) Γ y ≡ has s → R s (upd x d δ y) (upd x v ρ y) n σ
      go true p = rw (p, upd) (λ h. subst (λ z. R z d v n σ) (cc) r)
      go false p = rw (p, upd) (e y s)

  -- a condition that stays one condition
  one_ok : (t : Form) (v : Value) (M : Monoid) (j : ℕ) (σ : Env) (k : Env → List Value) (X : List Value) → value canonical T t σ ≡ v
      → ((τ : Env) → Later j σ (j + gens_c (one t)) τ → Eqv M (k τ) X) → Eqv M (loops canonical T (one t) k σ) (guard (as_bool v) X)
  unfolding value
  one_ok t v M j σ k X e c = ap (λ u. canon M (guard (as_bool u) (k σ))) e ∙ eqv-guard M (as_bool v) (k σ) X (c σ (later-up (gens_c (one t)) (later-self j σ)))

  -- (4) an "and" condition becomes two
  and_ok : (a b : Sem) (v w : Value) (n : ℕ) (ρ : Env) → R truth a v n ρ → R truth b w n ρ → R truth (both a b) (bin_v and v w) n ρ
  unfolding R quote condition value bin_v as_bool
  and_ok a b v w n ρ r s = (
    λ j σ e. ap₂ (bin_v and) (r.0 j σ e) (s.0 (j + gens (quote a j)) σ (later-up (gens (quote a j)) e)),
    λ M l o j σ e k X c.
        let p = condition a l j in let i = j + gens_c p in let q = condition b l i in
        ap (canon M) (loops-append canonical T p q k σ)
        ∙ r.1 M l o j σ e (λ τ. loops canonical T q k τ) (guard (as_bool w) X) (λ τ f. s.1 M l o i τ (later_trans e f) k X (λ υ g. c υ (later-append j σ p q f g)))
        ∙ ap (canon M) (guard-guard (as_bool v) (as_bool w) X),
  )

  -- the clauses and head of a comprehension of m, wherever its generators may stand
  abbrev RunsAll : Monoid → (Bool → ℕ → Clauses) → (Bool → ℕ → Sem) → List Value → Ty → ℕ → Env → Type 0
  RunsAll m q h l s n ρ = (M : Monoid) → Within m M → (b : Bool) → Safe b M
      → Always n ρ (λ j σ. Runs M (record { clauses = q b j; head = h b j }) j σ (λ e u i τ. R s e u i τ) l)

  comp-quotes : (m : Monoid) (q : Bool → ℕ → Clauses) (h : Bool → ℕ → Sem) (l : List Value) (s : Ty) (n : ℕ) (ρ : Env) → RunsAll m q h l s n ρ → Quotes (nested m q h) (canonical m l) n ρ
  unfolding quote value
  comp-quotes m q h l s n ρ r j σ e =
      let i = j + gens_c (q false j) in
      fold-eqv m _ _ (
      r m (λ a p. p) false (false-safe m) j σ e (λ τ. value canonical T (quote (h false j) i) τ ∷ []) (λ u. u ∷ [])
      (λ u τ f p. ap (λ x. canon m (x ∷ [])) (quotes-of s (h false j) u i τ p i τ (later-self i τ)))
      ∙ ap (canon m) (bind-one l))

  -- (6) "some" gives way
  some-ok : (q : Bool → ℕ → Clauses) (h : Bool → ℕ → Sem) (l : List Value) (n : ℕ) (ρ : Env) → RunsAll some q h l truth n ρ → Conds (nested some q h) (canonical some l) n ρ
  unfolding condition gives_way R
  some-ok q h l n ρ r M b o j σ e k X = go b o
    where
      go : (b : Bool) → Safe b M → ((τ : Env) → Later j σ (j + gens_c (condition (nested some q h) b j)) τ → Eqv M (k τ) X)
          → Eqv M (loops canonical T (condition (nested some q h) b j) k σ) (guard (as_bool (canonical some l)) X)
      go true o c =
          let w = q true j in
          let i = j + gens_c w in
          let rest = condition (h true j) true i in
          ap (canon M) (loops-append canonical T w rest k σ)
          ∙ r M (idempotent-within some M (o refl)) true o j σ e (λ τ. loops canonical T rest k τ) (λ u. guard (as_bool u) X)
          (λ u τ f x. x.1 M true o i τ (later-self i τ) k X (λ υ g. c υ (later-append j σ w rest f g)))
          ∙ repeats-eqv M (safe-set M o) l X
      go false o c = one_ok (quote (nested some q h) j) (canonical some l) M j σ k X (comp-quotes some q h l truth n ρ r j σ e) c

  -- (5) a generator over a comprehension gives way to its qualifiers
  comp-coll : (d : Collection) (q : Bool → ℕ → Clauses) (h : Bool → ℕ → Sem) (l : List Value) (s : Ty) (n : ℕ) (ρ : Env) → RunsAll (of d) q h l s n ρ → R (coll d s) (nested (of d) q h) (canonical (of d) l) n ρ
  unfolding R ranges
  comp-coll d q h l s n ρ r = (comp-quotes (of d) q h l s n ρ r, λ M f b o j σ e k g c. r M (λ a p. may_stand-trans a d M p f) b o j σ e k g c ∙ fit-eqv d M f l g)

  comp-ok : (m : Monoid) (q : Bool → ℕ → Clauses) (h : Bool → ℕ → Sem) (l : List Value) (s t : Ty) (n : ℕ) (ρ : Env) → Gathers m s t → RunsAll m q h l s n ρ → R t (nested m q h) (canonical m l) n ρ
  unfolding R condition gives_way
  comp-ok (of d) q h l s t n ρ e r = rw e (comp-coll d q h l s n ρ r)
  comp-ok sum q h l s t n ρ e r = rw e.1 (comp-quotes sum q h l s n ρ r)
  comp-ok max q h l s t n ρ e r = rw e.1 (comp-quotes max q h l s n ρ r)
  comp-ok min q h l s t n ρ e r = rw e.1 (comp-quotes min q h l s n ρ r)
  comp-ok some q h l s t n ρ e r = rw e.1 (comp-quotes some q h l s n ρ r, some-ok q h l n ρ (subst (λ x. RunsAll some q h l x n ρ) e.0 r))
  comp-ok all q h l s t n ρ e r = rw e.1 (
      let p = comp-quotes all q h l s n ρ r in
      (p, λ M b o j σ f k X c. one_ok (quote (nested all q h) j) (canonical all l) M j σ k X (p j σ f) c))

  -- tables
  row-cell : (c i f g : ℕ) (v : Value) (n : ℕ) (ρ : Env) → g < n → ρ g ≡ v → RAt (cells c) i (plain (λ j. Nf.cell f g)) (field_of f v) n ρ
  unfolding R cells quote value
  row-cell zero i f g v n ρ h e = tt
  row-cell (suc c) zero f g v n ρ h e = λ j σ x. ap (field_of f) (x.same g h ∙ e)
  row-cell (suc c) (suc i) f g v n ρ h e = row-cell c i f g v n ρ h e

  row_ok : (c g : ℕ) (v : Value) (n : ℕ) (ρ : Env) → g < n → ρ g ≡ v → R (record' (cells c)) (row g) v n ρ
  unfolding R quote value part
  row_ok c g v n ρ h e = (λ j σ x. x.same g h ∙ e, λ i. row-cell c i i g v n ρ h e)

  -- (3) a table becomes a comprehension
  table-ok : (k c n : ℕ) (ρ : Env)
      → R (coll (kind_of T k) (record' (cells c))) (nested (of (kind_of T k)) (λ b j. Nf.gen j k done) (λ b j. row j)) (canonical (of (kind_of T k)) (rows_of T k)) n ρ
  unfolding value gens
  table-ok k c n ρ = comp-coll (kind_of T k) (λ b j. Nf.gen j k done) (λ b j. row j) (rows_of T k) (record' (cells c)) n ρ (λ M sub b o j σ e k' g x.
      eqv-bind M (rows_of T k) (λ v. k' (upd j v σ)) g
      (λ v. x v (upd j v σ) (record { up = omega arith; same = λ i h. upd-miss j v σ i h }) (row_ok c j v (j + 1) (upd j v σ) (omega arith) (upd-hit j v σ))))

  -- the steps of a walk
  before-ok : (M : Monoid) (t : Ty) (w : Clauses) (s : ℕ → Splice) (n : ℕ) (σ : Env) (l : List Value)
      → ((k : Env → List Value) (f : Value → List Value)
      → ((v : Value) (τ : Env) → Later n σ ((n + gens_c w) + gens_c (s (n + gens_c w)).clauses) τ → R t (s (n + gens_c w)).head v ((n + gens_c w) + gens_c (s (n + gens_c w)).clauses) τ → Eqv M (k τ) (f v))
      → Eqv M (loops canonical T w (λ τ. loops canonical T (s (n + gens_c w)).clauses k τ) σ) (bind_l l f))
      → Runs M (before w n s) n σ (λ e v i τ. R t e v i τ) l
  unfolding before
  before-ok M t w s n σ l p k f c =
      let r = s (n + gens_c w) in
      ap (canon M) (loops-append canonical T w r.clauses k σ)
      ∙ p k f (subst (λ m. (v : Value) (τ : Env) → Later n σ m τ → R t r.head v m τ → Eqv M (k τ) (f v)) (next-number n w r.clauses) c)

  gen-ok : (M : Monoid) (t u : Ty) (r : Splice) (s : ℕ → Splice) (n : ℕ) (σ : Env) (l : List Value) (G : Value → List Value)
      → Runs M r n σ (λ e v i τ. R u e v i τ) l
      → ((v : Value) (τ : Env) → Later n σ (n + gens_c r.clauses) τ → R u r.head v (n + gens_c r.clauses) τ → Runs M (s (n + gens_c r.clauses)) (n + gens_c r.clauses) τ (λ e v i τ. R t e v i τ) (G v))
      → Runs M (before r.clauses n s) n σ (λ e v i τ. R t e v i τ) (bind_l l G)
  gen-ok M t u r s n σ l G p g = before-ok M t r.clauses s n σ (bind_l l G) λ k f c.
      p (λ τ. loops canonical T (s (n + gens_c r.clauses)).clauses k τ) (λ v. bind_l (G v) f) (λ v τ e x. g v τ e x k f (λ w υ e' y. c w υ (later_trans e e') y))
      ∙ ap (canon M) (sym (bind-bind l G f))

  cond-ok : (M : Monoid) (a : Bool) → Safe a M → (t : Ty) (d : Sem) (b : Value) (s : ℕ → Splice) (n : ℕ) (σ : Env) (l : List Value)
      → R truth d b n σ
      → ((τ : Env) → Later n σ (n + gens_c (condition d a n)) τ → Runs M (s (n + gens_c (condition d a n))) (n + gens_c (condition d a n)) τ (λ e v i τ. R t e v i τ) l)
      → Runs M (before (condition d a n) n s) n σ (λ e v i τ. R t e v i τ) (guard (as_bool b) l)
  unfolding R
  cond-ok M a o t d b s n σ l p g = before-ok M t (condition d a n) s n σ (guard (as_bool b) l) λ k f c.
      p.1 M a o n σ (later-self n σ) (λ τ. loops canonical T (s (n + gens_c (condition d a n))).clauses k τ) (bind_l l f) (λ τ e. g τ e k f (λ v υ e' x. c v υ (later_trans e e') x))
      ∙ ap (canon M) (sym (guard-bind (as_bool b) l f))

  -- (2) a field of a record
  at_ok : (ts : Tys) (i : ℕ) (t : Ty) (d : Sem) (v : Value) (n : ℕ) (ρ : Env) → type_at i ts ≡ has t → RAt ts i d v n ρ → R t d v n ρ
  unfolding R type_at
  at_ok ynil i t d v n ρ a r = untyped a
  at_ok (ycons s ts) zero t d v n ρ a r = rw (same-type s t a) r
  at_ok (ycons s ts) (suc i) t d v n ρ a r = at_ok ts i t d v n ρ a r

  abbrev QuotesL : Sems → Values → ℕ → Env → Type 0
  QuotesL ds vs n ρ = Always n ρ (λ j σ. values canonical T (quotes ds j) σ ≡ vs)

  cons-at : (s : Ty) (ws : Tys) (d : Sem) (ds : Sems) (v : Value) (vs : Values) (n : ℕ) (ρ : Env)
      → R s d v n ρ → ((i : ℕ) → RAt ws i (nth i ds) (Va.nth i vs) n ρ) → (i : ℕ) → RAt (ycons s ws) i (nth i (scons d ds)) (Va.nth i (vcons v vs)) n ρ
  unfolding R nth Va.nth
  cons-at s ws d ds v vs n ρ r f zero = r
  cons-at s ws d ds v vs n ρ r f (suc i) = f i

  -- operators
  pair_ok : (o : Bin) (a b : Sem) (v w : Value) (n : ℕ) (ρ : Env) → Quotes a v n ρ → Quotes b w n ρ → Quotes (pair o a b) (bin_v o v w) n ρ
  unfolding quote value
  pair_ok o a b v w n ρ p q j σ e = ap₂ (bin_v o) (p j σ e) (q (j + gens (quote a j)) σ (later-up (gens (quote a j)) e))

  truth-ok : (f : ℕ → Form) (v : Value) (n : ℕ) (ρ : Env) → Quotes (plain f) v n ρ → R truth (plain f) v n ρ
  unfolding R quote condition
  truth-ok f v n ρ p = (p, λ M b o j σ e k X c. one_ok (f j) v M j σ k X (p j σ e) c)

  bin-ok : (o : Bin) (a b : Sem) (v w : Value) (n : ℕ) (ρ : Env) → R (operand o) a v n ρ → R (operand o) b w n ρ → R (result o) (binary o a b) (bin_v o v w) n ρ
  unfolding R binary operand result
  bin-ok plus a b v w n ρ r s = pair_ok plus a b v w n ρ r s
  bin-ok minus a b v w n ρ r s = pair_ok minus a b v w n ρ r s
  bin-ok times a b v w n ρ r s = pair_ok times a b v w n ρ r s
  bin-ok equal a b v w n ρ r s = truth-ok _ (bin_v equal v w) n ρ (pair_ok equal a b v w n ρ r s)
  bin-ok less a b v w n ρ r s = truth-ok _ (bin_v less v w) n ρ (pair_ok less a b v w n ρ r s)
  bin-ok and a b v w n ρ r s = and_ok a b v w n ρ r s
  bin-ok or a b v w n ρ r s = truth-ok _ (bin_v or v w) n ρ (pair_ok or a b v w n ρ r.0 s.0)

  choice-ok : (τ : Ty) (f : ℕ → Form) (v : Value) (n : ℕ) (ρ : Env) → Scalar τ → Quotes (plain f) v n ρ → R τ (plain f) v n ρ
  unfolding R
  choice-ok number f v n ρ s p = p
  choice-ok truth f v n ρ s p = truth-ok f v n ρ p
  choice-ok (record' us) f v n ρ s p = absurd s
  choice-ok (coll c t) f v n ρ s p = absurd s

  app-ok : (g : Fun) (us : Tys) (τ : Ty) (f : ℕ → Form) (v : Value) (n : ℕ) (ρ : Env) → Takes g us τ → Quotes (plain f) v n ρ → R τ (plain f) v n ρ
  app-ok choice us τ f v n ρ h p = choice-ok τ f v n ρ h.0 p
  app-ok (is_open k c) us τ f v n ρ h p = rw h.0 (truth-ok f v n ρ p)

  mutual
    unfolding norm eval value quote R part nth Va.nth field_of bind_l

    norm-ok : (t : Term) (Γ : Context) (τ : Ty) → Has T Γ t τ → (δ : SemEnv) (ρ : Env) (n : ℕ) (σ : Env) → REnv Γ δ ρ n σ → R τ (norm (kind_of T) t δ) (eval canonical T t ρ) n σ
    norm-ok (num z) Γ τ h δ ρ n σ E = rw h (λ j μ e. refl)
    norm-ok (Sy.truth b) Γ τ h δ ρ n σ E = rw h (truth-ok (λ j. Nf.truth b) (Va.truth b) n σ (λ j μ e. refl))
    norm-ok (name x) Γ τ h δ ρ n σ E = E x τ h
    norm-ok (field i t) Γ τ h δ ρ n σ E = at_ok h.0 i τ (part i (norm (kind_of T) t δ)) (field_of i (eval canonical T t ρ)) n σ h.2 ((norm-ok t Γ (record' h.0) h.1 δ ρ n σ E).1 i)
    norm-ok (rec ts) Γ τ h δ ρ n σ E = rw h.2 (let r = norms-ok ts Γ h.0 h.1 δ ρ n σ E in (λ j μ e. ap Va.rec (r.0 j μ e), r.1))
    norm-ok (app f ts) Γ τ h δ ρ n σ E = app-ok f h.0 τ (λ j. Nf.app f (quotes (norms (kind_of T) ts δ) j)) (app_v f (evals canonical T ts ρ)) n σ h.2 (λ j μ e. ap (app_v f) ((norms-ok ts Γ h.0 h.1 δ ρ n σ E).0 j μ e))
    norm-ok (bin o s t) Γ τ h δ ρ n σ E = rw h.2 (
        bin-ok o (norm (kind_of T) s δ) (norm (kind_of T) t δ) (eval canonical T s ρ) (eval canonical T t ρ) n σ
        (norm-ok s Γ (operand o) h.0 δ ρ n σ E) (norm-ok t Γ (operand o) h.1 δ ρ n σ E))
    norm-ok (negate t) Γ τ h δ ρ n σ E = rw h.1 (truth-ok _ (not_v (eval canonical T t ρ)) n σ (λ j μ e. ap not_v ((norm-ok t Γ truth h.0 δ ρ n σ E).0 j μ e)))
    norm-ok (comp m qs hd) Γ τ h δ ρ n σ E = comp-ok m
        (λ b j. (walk (kind_of T) qs (b || idempotent m) (λ ε. norm (kind_of T) hd ε) δ j).clauses)
        (λ b j. (walk (kind_of T) qs (b || idempotent m) (λ ε. norm (kind_of T) hd ε) δ j).head)
        (runs canonical T qs (λ μ. eval canonical T hd μ ∷ []) ρ) h.1 τ n σ h.4
        (λ M sub b o j μ e. walk-ok qs m M sub (b || idempotent m) (or-safe b (idempotent m) M o (within-safe m M sub)) Γ h.0 h.2
        (λ ε. norm (kind_of T) hd ε) (λ ν. eval canonical T hd ν) h.1 (λ ε ν i κ F. norm-ok hd h.0 h.1 h.3 ε ν i κ F) δ ρ j μ (env-mono Γ δ ρ n σ j μ e E))
    norm-ok (table k) Γ τ h δ ρ n σ E = rw h.1 (table-ok k (columns_of T k) n σ)

    norms-ok : (ts : Terms) (Γ : Context) (us : Tys) → HasL T Γ ts us → (δ : SemEnv) (ρ : Env) (n : ℕ) (σ : Env) → REnv Γ δ ρ n σ
        → QuotesL (norms (kind_of T) ts δ) (evals canonical T ts ρ) n σ × ((i : ℕ) → RAt us i (nth i (norms (kind_of T) ts δ)) (Va.nth i (evals canonical T ts ρ)) n σ)
    norms-ok tnil Γ us h δ ρ n σ E = rw h (λ j μ e. refl, λ i. tt)
    norms-ok (tcons t ts) Γ us h δ ρ n σ E = rw h.4 (
        let r = norm-ok t Γ h.0 h.2 δ ρ n σ E in
        let s = norms-ok ts Γ h.1 h.3 δ ρ n σ E in
        let d = norm (kind_of T) t δ in (
          λ j μ e. ap₂ vcons (quotes-of h.0 d (eval canonical T t ρ) n σ r j μ e) (s.0 (j + gens (quote d j)) μ (later-up (gens (quote d j)) e)),
          cons-at h.0 h.1 d (norms (kind_of T) ts δ) (eval canonical T t ρ) (evals canonical T ts ρ) n σ r s.1,
        ))

    walk-ok : (qs : Quals) (m M : Monoid) → Within m M → (b : Bool) → Safe b M → (Γ Δ : Context) → HasQ T m Γ qs Δ
        → (hd : SemEnv → Sem) (H : Env → Value) (t : Ty) → ((ε : SemEnv) (ν : Env) (i : ℕ) (κ : Env) → REnv Δ ε ν i κ → R t (hd ε) (H ν) i κ)
        → (δ : SemEnv) (ρ : Env) (n : ℕ) (σ : Env) → REnv Γ δ ρ n σ
        → Runs M (walk (kind_of T) qs b hd δ n) n σ (λ e u i κ. R t e u i κ) (runs canonical T qs (λ ν. H ν ∷ []) ρ)
    walk-ok qnil m M sub b o Γ Δ h hd H t g δ ρ n σ E = λ k f c.
        let e = later-up (gens_c done) (later-self n σ) in
        c (H ρ) σ e (g δ ρ (n + gens_c done) σ (env-mono Δ δ ρ n σ (n + gens_c done) σ e (subst (λ G. REnv G δ ρ n σ) h E)))
        ∙ ap (canon M) (sym (append-nil (f (H ρ))))
    walk-ok (gen x s qs) m M sub b o Γ Δ h hd H t g δ ρ n σ E =
        let r = ranges (norm (kind_of T) s δ) b n in
        gen-ok M t h.1 r (λ j. walk (kind_of T) qs b hd (upd x r.head δ) j) n σ (elems (eval canonical T s ρ)) (λ v. runs canonical T qs (λ ν. H ν ∷ []) (upd x v ρ))
        ((norm-ok s Γ (coll h.0 h.1) h.2 δ ρ n σ E).1 M (sub h.0 h.3) b o n σ (later-self n σ))
        (λ v τ e p. walk-ok qs m M sub b o (upd x (has h.1) Γ) Δ h.4 hd H t g (upd x r.head δ) (upd x v ρ) (n + gens_c r.clauses) τ
        (env-upd Γ δ ρ (n + gens_c r.clauses) τ x h.1 r.head v p (env-mono Γ δ ρ n σ (n + gens_c r.clauses) τ e E)))
    walk-ok (bind x s qs) m M sub b o Γ Δ h hd H t g δ ρ n σ E =
        walk-ok qs m M sub b o (upd x (has h.0) Γ) Δ h.2 hd H t g (upd x (norm (kind_of T) s δ) δ) (upd x (eval canonical T s ρ) ρ) n σ
        (env-upd Γ δ ρ n σ x h.0 (norm (kind_of T) s δ) (eval canonical T s ρ) (norm-ok s Γ h.0 h.1 δ ρ n σ E) E)
    walk-ok (cond s qs) m M sub b o Γ Δ h hd H t g δ ρ n σ E =
        let w = condition (norm (kind_of T) s δ) b n in
        cond-ok M b o t (norm (kind_of T) s δ) (eval canonical T s ρ) (λ j. walk (kind_of T) qs b hd δ j) n σ (runs canonical T qs (λ ν. H ν ∷ []) ρ)
        (norm-ok s Γ truth h.0 δ ρ n σ E)
        (λ τ e. walk-ok qs m M sub b o Γ Δ h.1 hd H t g δ ρ (n + gens_c w) τ (env-mono Γ δ ρ n σ (n + gens_c w) τ e E))

-- The value of the normal form is the value of the question as typed, for every question that passes 25 and 26, over
-- all tables.
pub normal-keeps : (T : Tables) (q : Question) → generators_fit T q ≡ true → normal_value canonical T (normal (kind_of T) q) ≡ meaning canonical T q
unfolding normal_value meaning
normal-keeps T q e =
    let τ = question-typed T q e in
    let r = norm-ok T (as_term q) (λ x. wrong) τ.0 τ.1 nowhere (λ x. junk) 0 (λ g. junk) (λ x s z. untyped z) in
    ap (λ f. value canonical T f (λ g. junk)) (normal-is-quote (kind_of T) q)
    ∙ quotes-of T τ.0 (norm (kind_of T) (as_term q) nowhere) (meaning canonical T q) 0 (λ g. junk) r 0 (λ g. junk) (later-self 0 (λ g. junk))
