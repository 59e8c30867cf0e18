-- Where 25 and 26 pass, a normal form has records and collections in heads only: a condition, an operand and the head of a sum,
-- max, min, some or all are scalars all the way down.
use mathlib.Core.Path.{◌≡◌, refl, sym, subst}
use mathlib.Core.Bool.{Bool, true, false}
use Prim.Native.Nat.{ℕ, ◌+◌}
use Rattle.spec_calendar.specs.Hours.{Calendar}
use Rattle.spec_calculus.specs.Syntax.{Monoid, of, sum, max, min, some, all, Bin, plus, minus, times, equal, less, and, or, Fun, Question}
use Rattle.spec_calculus.specs.Syntax as Sy
use Rattle.spec_calculus.specs.Value.{Tables, kind_of}
use Rattle.spec_checks.specs.Types.{Ty, Tys, number, record', coll, ynil, ycons, generators_fit}
use Rattle.spec_checks.specs.Types as Ty
use Rattle.spec_checks.proofs.Judgement.{operand, result, Takes, Gathers}
use Rattle.spec_normal_form.specs.Form.{Form, Forms, Clauses, as_form, num, truth, row, cell, rec, bin, negate, app, comp, fnil, fcons, done, gen, cond, ◌⊕◌, gens, gens_c}
use Rattle.spec_normal_form.specs.Normal.{Sem, Sems, nested, plain, snil, scons, quote, quotes, gives_way, condition, ranges, binary, applied, normal}
use Rattle.spec_normal_form.specs.Normal as Nm
use Rattle.spec_normal_form.proofs.NormalByType as By
use Rattle.plan_machine.specs.AnswerText.{collects}
use Rattle.spec_checks.proofs.Judgement as Jd

-- a term of one word, all the way down
abbrev mutual
  pub Scalar : Form → Type 0
  Scalar (num z) = Unit {0}
  Scalar (truth b) = Unit {0}
  Scalar (row g) = ⊥
  Scalar (cell i g) = Unit {0}
  Scalar (rec ts) = ⊥
  Scalar (app f ts) = ScalarF ts
  Scalar (bin o s t) = Scalar s × Scalar t
  Scalar (negate t) = Scalar t
  Scalar (comp m q h) = (collects m ≡ false) × ScalarC q × Scalar h

  pub ScalarF : Forms → Type 0
  ScalarF fnil = Unit {0}
  ScalarF (fcons t ts) = Scalar t × ScalarF ts

  pub ScalarC : Clauses → Type 0
  ScalarC done = Unit {0}
  ScalarC (gen g k q) = ScalarC q
  ScalarC (cond t q) = Scalar t × ScalarC q

abbrev pub Either : Bool → Type 0 → Type 0 → Type 0
Either true A B = A
Either false A B = B

-- a term of any type: collections in heads of collections only
abbrev mutual
  pub Fitting : Form → Type 0
  Fitting (num z) = Unit {0}
  Fitting (truth b) = Unit {0}
  Fitting (row g) = Unit {0}
  Fitting (cell i g) = Unit {0}
  Fitting (rec ts) = FittingF ts
  Fitting (app f ts) = ScalarF ts
  Fitting (bin o s t) = Scalar s × Scalar t
  Fitting (negate t) = Scalar t
  Fitting (comp m q h) = ScalarC q × Either (collects m) (Fitting h) (Scalar h)

  pub FittingF : Forms → Type 0
  FittingF fnil = Unit {0}
  FittingF (fcons t ts) = Fitting t × FittingF ts

pub scalar-fitting : (t : Form) → Scalar t → Fitting t
scalar-fitting (num z) h = tt
scalar-fitting (truth b) h = tt
scalar-fitting (row g) h = tt
scalar-fitting (cell i g) h = tt
scalar-fitting (rec ts) h = absurd h
scalar-fitting (app f ts) h = h
scalar-fitting (bin o s t) h = h
scalar-fitting (negate t) h = h
scalar-fitting (comp m q u) h = (h.1, subst (λ b. Either b (Fitting u) (Scalar u)) (sym h.0) h.2)

clauses-append : (q r : Clauses) → ScalarC q → ScalarC r → ScalarC (q ⊕ r)
unfolding ◌⊕◌
clauses-append done r h g = g
clauses-append (gen x k q) r h g = clauses-append q r h g
clauses-append (cond t q) r h g = (h.0, clauses-append q r h.1 g)

-- What is claimed of numbers and of truths; of forms and clauses it is `Fitting` and `ScalarC`.
abbrev Number : Sem → Type 0
Number d = (n : ℕ) → Scalar (quote d n)

abbrev Truth : Sem → Type 0
Truth d = ((n : ℕ) → Scalar (quote d n)) × ((b : Bool) (n : ℕ) → ScalarC (condition d b n))

abbrev Good : Ty → Sem → Type 0
Good τ d = By.Good Number Truth Fitting ScalarC τ d

abbrev GoodL : Tys → Sems → Type 0
GoodL us ds = By.GoodL Number Truth Fitting ScalarC us ds

number_fits : (d : Sem) → Number d → (n : ℕ) → Fitting (quote d n)
number_fits d g n = scalar-fitting (quote d n) (g n)

truth-fits : (d : Sem) → Truth d → (n : ℕ) → Fitting (quote d n)
truth-fits d g n = scalar-fitting (quote d n) (g.0 n)

good-fits : (τ : Ty) (d : Sem) → Good τ d → (n : ℕ) → Fitting (quote d n)
good-fits τ d g n = By.written Number Truth Fitting ScalarC number_fits truth-fits τ d g n

-- a truth that is written as one term
good-truth : (f : ℕ → Form) → ((n : ℕ) → Scalar (f n)) → Good Ty.truth (plain f)
unfolding quote condition
good-truth f h = (h, (λ b n. (h n, tt)))

scalar-of : (o : Bin) (d : Sem) → Good (operand o) d → (n : ℕ) → Scalar (quote d n)
unfolding operand
scalar-of plus d g n = g n
scalar-of minus d g n = g n
scalar-of times d g n = g n
scalar-of equal d g n = g n
scalar-of less d g n = g n
scalar-of and d g n = g.0 n
scalar-of or d g n = g.0 n

abbrev pair_of : Bin → Sem → Sem → ℕ → Form
pair_of o a b n = bin o (quote a n) (quote b (n + gens (quote a n)))

good-pair : (o : Bin) (a b : Sem) → Good (operand o) a → Good (operand o) b → (n : ℕ) → Scalar (pair_of o a b n)
good-pair o a b g h n = (scalar-of o a g n, scalar-of o b h (n + gens (quote a n)))

good-binary : (o : Bin) (a b : Sem) → Good (operand o) a → Good (operand o) b → Good (result o) (binary o a b)
unfolding result binary quote condition operand
good-binary plus a b g h = good-pair plus a b g h
good-binary minus a b g h = good-pair minus a b g h
good-binary times a b g h = good-pair times a b g h
good-binary equal a b g h = good-truth (pair_of equal a b) (good-pair equal a b g h)
good-binary less a b g h = good-truth (pair_of less a b) (good-pair less a b g h)
good-binary and a b g h = (good-pair and a b g h, (λ c n. clauses-append (condition a c n) (condition b c (n + gens_c (condition a c n))) (g.1 c n) (h.1 c (n + gens_c (condition a c n)))))
good-binary or a b g h = good-truth (pair_of or a b) (good-pair or a b g h)

fit_of : (us : Tys) (ds : Sems) → GoodL us ds → (n : ℕ) → FittingF (quotes ds n)
fit_of us ds g n = By.all-written Number Truth Fitting ScalarC number_fits truth-fits FittingF tt (λ t ts a b. (a, b)) us ds g n

-- an operator's operands are numbers or truths
abbrev Plain : Tys → Type 0
Plain ynil = Unit {0}
Plain (ycons number us) = Plain us
Plain (ycons Ty.truth us) = Plain us
Plain (ycons (record' ts) us) = ⊥
Plain (ycons (coll c τ) us) = ⊥

choice-plain : (τ : Ty) → Jd.Scalar τ → Plain (ycons Ty.truth (ycons τ (ycons τ ynil)))
choice-plain number s = tt
choice-plain Ty.truth s = tt
choice-plain (record' ts) s = absurd s
choice-plain (coll c τ) s = absurd s

takes-plain : (f : Fun) (us : Tys) (τ : Ty) → Takes f us τ → Plain us
takes-plain Sy.choice us τ h = subst Plain (sym h.1) (choice-plain τ h.0)
takes-plain (Sy.is_open n c) us τ h = subst Plain (sym h.1) tt

scalars : (us : Tys) (ds : Sems) → Plain us → GoodL us ds → (n : ℕ) → ScalarF (quotes ds n)
unfolding quote
scalars ynil snil p g n = tt
scalars ynil (scons d ds) p g n = absurd g
scalars (ycons τ us) snil p g n = absurd g
scalars (ycons number us) (scons d ds) p g n = (g.0 n, scalars us ds p g.1 (n + gens (quote d n)))
scalars (ycons Ty.truth us) (scons d ds) p g n = (g.0.0 n, scalars us ds p g.1 (n + gens (quote d n)))
scalars (ycons (record' ts) us) (scons d ds) p g n = absurd p
scalars (ycons (coll c τ) us) (scons d ds) p g n = absurd p

good-choice : (τ : Ty) (ds : Sems) → Jd.Scalar τ → ((n : ℕ) → ScalarF (quotes ds n)) → Good τ (applied Sy.choice ds)
unfolding quote
good-choice number ds s h = h
good-choice Ty.truth ds s h = good-truth (λ n. app Sy.choice (quotes ds n)) h
good-choice (record' ts) ds s h = absurd s
good-choice (coll c τ) ds s h = absurd s

good-open : (m : ℕ) (c : Calendar) (ds : Sems) → ((n : ℕ) → ScalarF (quotes ds n)) → Good Ty.truth (applied (Sy.is_open m c) ds)
unfolding quote
good-open m c ds h = good-truth (λ n. app (Sy.is_open m c) (quotes ds n)) h

good-app : (f : Fun) (us : Tys) (τ : Ty) (ds : Sems) → Takes f us τ → GoodL us ds → Good τ (applied f ds)
good-app Sy.choice us τ ds h g = good-choice τ ds h.0 (scalars us ds (takes-plain Sy.choice us τ h) g)
good-app (Sy.is_open m c) us τ ds h g = subst (λ (x : Ty). Good x (applied (Sy.is_open m c) ds)) (sym h.0) (good-open m c ds (scalars us ds (takes-plain (Sy.is_open m c) us τ h) g))

-- a comprehension, of which it is known what its clauses and its head come to
module _ (q : Bool → ℕ → Clauses) (h : Bool → ℕ → Sem) where
  some_condition : ((b : Bool) (n : ℕ) → ScalarC (q b n) × Good Ty.truth (h b n)) → (b : Bool) (n : ℕ) → ScalarC (condition (nested some q h) b n)
  unfolding condition gives_way quote collects
  some_condition w true n = clauses-append (q true n) (condition (h true n) true (n + gens_c (q true n))) (w true n).0 ((w true n).1.1 true (n + gens_c (q true n)))
  some_condition w false n = ((refl, (w false n).0, (w false n).1.0 (n + gens_c (q false n))), tt)

  nested-good : (m : Monoid) (σ τ : Ty) → ((b : Bool) (n : ℕ) → ScalarC (q b n) × Good σ (h b n)) → Gathers m σ τ → Good τ (nested m q h)
  unfolding quote condition ranges gives_way collects
  nested-good (of c) σ τ w g = subst (λ x. Good x (nested (of c) q h)) (sym g) (w, (λ n. ((w false n).0, good-fits σ (h false n) (w false n).1 (n + gens_c (q false n)))))
  nested-good sum σ τ w g = subst (λ x. Good x (nested sum q h)) (sym g.1) (λ n. (refl, (w false n).0, subst (λ x. Good x (h false n)) g.0 (w false n).1 (n + gens_c (q false n))))
  nested-good max σ τ w g = subst (λ x. Good x (nested max q h)) (sym g.1) (λ n. (refl, (w false n).0, subst (λ x. Good x (h false n)) g.0 (w false n).1 (n + gens_c (q false n))))
  nested-good min σ τ w g = subst (λ x. Good x (nested min q h)) (sym g.1) (λ n. (refl, (w false n).0, subst (λ x. Good x (h false n)) g.0 (w false n).1 (n + gens_c (q false n))))
  nested-good some σ τ w g =
      let v : (b : Bool) (n : ℕ) → ScalarC (q b n) × Good Ty.truth (h b n) = λ b n. ((w b n).0, subst (λ x. Good x (h b n)) g.0 (w b n).1) in
      subst (λ x. Good x (nested some q h)) (sym g.1) ((λ n. (refl, (v false n).0, (v false n).1.0 (n + gens_c (q false n)))), some_condition v)
  nested-good all σ τ w g =
      let v : (n : ℕ) → Good Ty.truth (h false n) = λ n. subst (λ x. Good x (h false n)) g.0 (w false n).1 in
      let u : (n : ℕ) → Scalar (quote (nested all q h) n) = λ n. (refl, (w false n).0, (v n).0 (n + gens_c (q false n))) in
      subst (λ x. Good x (nested all q h)) (sym g.1) (u, (λ b n. (u n, tt)))

keeps : By.Keeps Number Truth Fitting ScalarC
unfolding quote condition
keeps = record {
  a_number = λ z n. tt;
  a_truth = λ b. good-truth (λ n. truth b) (λ n. tt);
  a-cell = λ i g n. tt;
  a-row = λ g n. tt;
  a_record = λ us ds g n. fit_of us ds g n;
  two = good-binary;
  negated = λ d g. good-truth (λ n. negate (quote d n)) (λ n. g.0 n);
  several = good-app;
  comprehension = nested-good;
  no-clause = tt;
  a-generator = λ g k. tt;
  a-condition = λ d g b n. g.1 b n;
  appended = clauses-append;
}

head-fits : (m : Monoid) (σ τ : Ty) (d : Sem) → Gathers m σ τ → Good σ d → (n : ℕ) → Either (collects m) (Fitting (quote d n)) (Scalar (quote d n))
unfolding collects
head-fits (of c) σ τ d e g n = good-fits σ d g n
head-fits sum σ τ d e g n = subst (λ x. Good x d) e.0 g n
head-fits max σ τ d e g n = subst (λ x. Good x d) e.0 g n
head-fits min σ τ d e g n = subst (λ x. Good x d) e.0 g n
head-fits some σ τ d e g n = (subst (λ x. Good x d) e.0 g).0 n
head-fits all σ τ d e g n = (subst (λ x. Good x d) e.0 g).0 n

-- The normal form of a question that passes 25 and 26 has no collection, and no record, but in heads.
pub normal-fitting : (T : Tables) (q : Question) → generators_fit T q ≡ true → Fitting (as_form (normal (kind_of T) q))
unfolding normal
normal-fitting T q e =
    let (σ, τ, g, w, h) = By.question-good Number Truth Fitting ScalarC keeps T q e in
    let s : Nm.Splice = By.spliced T q in
    (w, head-fits q.monoid σ τ s.head g h (gens_c s.clauses))
