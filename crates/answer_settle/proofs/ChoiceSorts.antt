-- Where 25 passes, the branches of each choice in a question's normal form are numbers alike or truths alike.
use mathlib.Core.Path.{◌≡◌, refl, sym, ap, ap₂, subst, ◌∙◌}
use mathlib.Core.Bool.{Bool, true, false}
use Prim.Native.Nat.{ℕ, ◌+◌}
use Rattle.spec_calculus.specs.Syntax.{Monoid, of, sum, max, min, some, all, Bin, plus, minus, times, equal, less, and, or, Fun, Question}
use Rattle.spec_calculus.specs.Value.{Tables, kind_of}
use Rattle.spec_checks.specs.Types.{Ty, Tys, number, truth, record', coll, ynil, ycons, generators_fit}
use Rattle.spec_checks.proofs.Judgement.{result, Scalar, Takes, Gathers}
use Rattle.spec_checks.proofs.Refold.{gives, takes_gives, gathered}
use Rattle.spec_normal_form.specs.Form.{Clauses, as_form, gens, gens_c}
use Rattle.spec_normal_form.specs.Normal.{Sem, Sems, nested, snil, scons, quote, quotes, ranges, binary, applied, normal}
use Rattle.spec_normal_form.specs.Normal as Nm
use Rattle.spec_normal_form.proofs.NormalByType as By
use Rattle.answer_types.specs.Shape.{type_of, types_of}
use Rattle.answer_types.proofs.RawValueType.{Even, EvenF, Scalars, takes-scalar, takes-scalars}

module _ (C : ℕ → ℕ) where
  -- What a term of a type comes to: written out, a number or a truth is one by its form, and so are all choices in it.
  abbrev Single : Ty → Sem → Type 0
  Single τ d = (n : ℕ) → (type_of C (quote d n) ≡ τ) × Even C (quote d n)

  -- nothing is claimed of clauses
  abbrev Any : Clauses → Type 0
  Any q = Unit {0}

  abbrev Good : Ty → Sem → Type 0
  Good τ d = By.Good (Single number) (Single truth) (Even C) Any τ d

  abbrev GoodL : Tys → Sems → Type 0
  GoodL us ds = By.GoodL (Single number) (Single truth) (Even C) Any us ds

  single-even : (τ : Ty) (d : Sem) → Single τ d → (n : ℕ) → Even C (quote d n)
  single-even τ d g n = (g n).1

  good-even : (τ : Ty) (d : Sem) → Good τ d → (n : ℕ) → Even C (quote d n)
  good-even τ d g n = By.written (Single number) (Single truth) (Even C) Any (single-even number) (single-even truth) τ d g n

  single-good : (τ : Ty) (d : Sem) → Scalar τ → Single τ d → Good τ d
  single-good number d s h = h
  single-good truth d s h = h
  single-good (record' ts) d s h = absurd s
  single-good (coll c τ) d s h = absurd s

  good-single : (τ : Ty) (d : Sem) → Scalar τ → Good τ d → Single τ d
  good-single number d s h = h
  good-single truth d s h = h
  good-single (record' ts) d s h = absurd s
  good-single (coll c τ) d s h = absurd s

  good-binary : (o : Bin) (a b : Sem) → Good (result o) (binary o a b)
  unfolding result binary quote type_of
  good-binary plus a b = λ n. (refl, tt)
  good-binary minus a b = λ n. (refl, tt)
  good-binary times a b = λ n. (refl, tt)
  good-binary equal a b = λ n. (refl, tt)
  good-binary less a b = λ n. (refl, tt)
  good-binary and a b = λ n. (refl, tt)
  good-binary or a b = λ n. (refl, tt)

  even-of : (us : Tys) (ds : Sems) → GoodL us ds → (n : ℕ) → EvenF C (quotes ds n)
  even-of us ds g n = By.all-written (Single number) (Single truth) (Even C) Any (single-even number) (single-even truth) (EvenF C) tt (λ t ts a b. (a, b)) us ds g n

  types_are : (us : Tys) (ds : Sems) → Scalars us → GoodL us ds → (n : ℕ) → types_of C (quotes ds n) ≡ us
  unfolding quote type_of
  types_are ynil snil s g n = refl
  types_are ynil (scons d ds) s g n = absurd g
  types_are (ycons τ us) snil s g n = absurd g
  types_are (ycons τ us) (scons d ds) s g n = ap₂ ycons (good-single τ d s.0 g.0 n).0 (types_are us ds s.1 g.1 (n + gens (quote d n)))

  good-app : (f : Fun) (us : Tys) (τ : Ty) (ds : Sems) → Takes f us τ → GoodL us ds → Good τ (applied f ds)
  unfolding quote type_of
  good-app f us τ ds h g =
      let e : (n : ℕ) → types_of C (quotes ds n) ≡ us = λ n. types_are us ds (takes-scalars f us τ h) g n in
      let w : τ ≡ gives f us = takes_gives f us τ h in
      single-good τ (applied f ds) (takes-scalar f us τ h) (λ n. (
        ap (gives f) (e n) ∙ sym w,
        (subst (λ (x : Tys). Takes f x (gives f x)) (sym (e n)) (subst (λ (x : Ty). Takes f us x) w h), even-of us ds g n),
      ))

  -- a comprehension, of which it is known what its head comes to
  nested-good : (q : Bool → ℕ → Clauses) (h : Bool → ℕ → Sem) (m : Monoid) (σ τ : Ty) → ((b : Bool) (n : ℕ) → Any (q b n) × Good σ (h b n)) → Gathers m σ τ → Good τ (nested m q h)
  unfolding quote ranges type_of gathered
  nested-good q h (of c) σ τ w g = subst (λ x. Good x (nested (of c) q h)) (sym g) (w, (λ n. good-even σ (h false n) (w false n).1 (n + gens_c (q false n))))
  nested-good q h sum σ τ w g = subst (λ x. Good x (nested sum q h)) (sym g.1) (λ n. (refl, good-even σ (h false n) (w false n).1 (n + gens_c (q false n))))
  nested-good q h max σ τ w g = subst (λ x. Good x (nested max q h)) (sym g.1) (λ n. (refl, good-even σ (h false n) (w false n).1 (n + gens_c (q false n))))
  nested-good q h min σ τ w g = subst (λ x. Good x (nested min q h)) (sym g.1) (λ n. (refl, good-even σ (h false n) (w false n).1 (n + gens_c (q false n))))
  nested-good q h some σ τ w g = subst (λ x. Good x (nested some q h)) (sym g.1) (λ n. (refl, good-even σ (h false n) (w false n).1 (n + gens_c (q false n))))
  nested-good q h all σ τ w g = subst (λ x. Good x (nested all q h)) (sym g.1) (λ n. (refl, good-even σ (h false n) (w false n).1 (n + gens_c (q false n))))

  keeps : By.Keeps (Single number) (Single truth) (Even C) Any
  unfolding quote type_of
  keeps = record {
    a_number = λ z n. (refl, tt);
    a_truth = λ b n. (refl, tt);
    a-cell = λ i g n. (refl, tt);
    a-row = λ g n. tt;
    a_record = λ us ds g n. even-of us ds g n;
    two = λ o a b g h. good-binary o a b;
    negated = λ d g n. (refl, tt);
    several = good-app;
    comprehension = nested-good;
    no-clause = tt;
    a-generator = λ g k. tt;
    a-condition = λ d g b n. tt;
    appended = λ q r g h. tt;
  }

  pub normal-even : (T : Tables) (q : Question) → generators_fit T q ≡ true → Even C (as_form (normal (kind_of T) q))
  unfolding normal
  normal-even T q e =
      let (σ, τ, g, w, h) = By.question-good (Single number) (Single truth) (Even C) Any keeps T q e in
      let s : Nm.Splice = By.spliced T q in
      good-even σ s.head h (gens_c s.clauses)
