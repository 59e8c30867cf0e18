-- The type that a normal form stands for is that of the question as typed, where each generator has as many columns as its table.
use mathlib.Core.Path.{◌≡◌, refl, sym, ap, ap₂, subst, ◌∙◌}
use mathlib.Core.Bool.{Bool, true, false, ◌||◌, true≢false}
use Prim.Native.Nat.{ℕ, zero, suc, ◌+◌}
use lib.Dec.{eqb}
use Rattle.spec_calculus.specs.Lists.{upd}
use Rattle.spec_calculus.specs.Syntax.{Monoid, of, sum, max, min, some, all, Bin, plus, minus, times, equal, less, and, or, Fun, Term, Terms, Quals, name, field, table, tnil, tcons, qnil, bind, Question, as_term}
use Rattle.spec_calculus.specs.Syntax as Sy
use Rattle.spec_calculus.specs.Value.{Tables, kind_of, columns_of}
use Rattle.spec_checks.specs.Types.{Ty, Tys, number, truth, record', coll, ynil, ycons, Typed, wrong, has, cells, type_at, Context, is_typed, generators_fit}
use Rattle.spec_checks.proofs.Judgement.{result, Scalar, Takes, Gathers, Has, HasL, HasQ, untyped, same-type, typed}
use Rattle.spec_checks.proofs.Refold.{gives, takes_gives, gathered}
use Rattle.spec_normal_form.specs.Form.{Form, Forms, Clauses, as_form, num, row, cell, rec, bin, negate, app, comp, fnil, fcons, done, gen, cond, ◌⊕◌, gens, gens_c}
use Rattle.spec_normal_form.specs.Form as Fo
use Rattle.spec_normal_form.specs.Normal.{Sem, Sems, fields, nested, plain, snil, scons, quote, quotes, idempotent, condition, ranges, nth, part, binary, applied, before, SemEnv, norm, norms, walk, nowhere, normal}
use Rattle.spec_normal_form.specs.Normal as Nm
use Rattle.spec_normal_form.proofs.NormalByType.{spliced}
use Rattle.spec_tariff.specs.Dues.{question_type}
use Rattle.answer_types.specs.Shape.{type_of, types_of}
use Rattle.answer_types.proofs.RawValueType.{Scalars, takes-scalar, takes-scalars, ran, Rooted, RootedF, RootedC}

module _ (T : Tables) (C : ℕ → ℕ) where
  -- each generator before a head that is written has as many columns as its table
  abbrev mutual
    pub Fit : Form → Type 0
    Fit (num z) = Unit {0}
    Fit (Fo.truth b) = Unit {0}
    Fit (row g) = Unit {0}
    Fit (cell i g) = Unit {0}
    Fit (rec ts) = FitF ts
    Fit (bin o t u) = Unit {0}
    Fit (negate t) = Unit {0}
    Fit (app f ts) = Unit {0}
    Fit (comp m q h) = FitC q × Fit h

    FitF : Forms → Type 0
    FitF fnil = Unit {0}
    FitF (fcons t ts) = Fit t × FitF ts

    FitC : Clauses → Type 0
    FitC done = Unit {0}
    FitC (gen g k q) = (C g ≡ columns_of T k) × FitC q
    FitC (cond t q) = FitC q

  mutual
    pub rooted-fit : (t : Form) (B : ℕ → Bool) → Rooted C T B t → Fit t
    rooted-fit (num z) B h = tt
    rooted-fit (Fo.truth b) B h = tt
    rooted-fit (row g) B h = tt
    rooted-fit (cell i g) B h = tt
    rooted-fit (rec ts) B h = rooted-fits ts B h
    rooted-fit (bin o t u) B h = tt
    rooted-fit (negate t) B h = tt
    rooted-fit (app f ts) B h = tt
    rooted-fit (comp m q h) B r = (rooted-clauses q B r.0, rooted-fit h (ran q B) r.1)

    rooted-fits : (ts : Forms) (B : ℕ → Bool) → RootedF C T B ts → FitF ts
    rooted-fits fnil B h = tt
    rooted-fits (fcons t ts) B h = (rooted-fit t B h.0, rooted-fits ts B h.1)

    rooted-clauses : (q : Clauses) (B : ℕ → Bool) → RootedC C T B q → FitC q
    rooted-clauses done B h = tt
    rooted-clauses (gen g k q) B h = (h.0, rooted-clauses q (upd g true B) h.1)
    rooted-clauses (cond t q) B h = rooted-clauses q B h

  fit_append : (q r : Clauses) → FitC (q ⊕ r) → FitC q × FitC r
  unfolding ◌⊕◌
  fit_append done r h = (tt, h)
  fit_append (gen g k q) r h = let p = fit_append q r h.1 in ((h.0, p.0), p.1)
  fit_append (cond t q) r h = fit_append q r h

  -- What a term of a type comes to: written out, it is of that type, and so is all that can be made of it.
  abbrev mutual
    Good : Ty → Sem → Type 0
    Good number d = (n : ℕ) → type_of C (quote d n) ≡ number
    Good truth d = (n : ℕ) → type_of C (quote d n) ≡ truth
    Good (record' ts) d = Goods ts (λ i. part i d) × ((n : ℕ) → Fit (quote d n) → type_of C (quote d n) ≡ record' ts)
    Good (coll c τ) d = ((b : Bool) (n : ℕ) → FitC (ranges d b n).clauses → Good τ (ranges d b n).head) × ((n : ℕ) → Fit (quote d n) → type_of C (quote d n) ≡ coll c τ)

    Goods : Tys → (ℕ → Sem) → Type 0
    Goods ynil f = Unit {0}
    Goods (ycons τ ts) f = Good τ (f 0) × Goods ts (λ i. f (suc i))

  good-typed : (τ : Ty) (d : Sem) → Good τ d → (n : ℕ) → Fit (quote d n) → type_of C (quote d n) ≡ τ
  good-typed number d g n f = g n
  good-typed truth d g n f = g n
  good-typed (record' ts) d g n f = g.1 n f
  good-typed (coll c τ) d g n f = g.1 n f

  goods-at : (i : ℕ) (ts : Tys) (f : ℕ → Sem) (τ : Ty) → type_at i ts ≡ has τ → Goods ts f → Good τ (f i)
  unfolding type_at
  goods-at i ynil f τ e g = untyped e
  goods-at zero (ycons σ ts) f τ e g = subst (λ x. Good x (f 0)) (sym (same-type σ τ e)) g.0
  goods-at (suc i) (ycons σ ts) f τ e g = goods-at i ts (λ j. f (suc j)) τ e g.1

  -- fields and operands, one for one
  abbrev GoodL : Tys → Sems → Type 0
  GoodL ynil snil = Unit {0}
  GoodL ynil (scons d ds) = ⊥
  GoodL (ycons τ us) snil = ⊥
  GoodL (ycons τ us) (scons d ds) = Good τ d × GoodL us ds

  goods-of : (us : Tys) (ds : Sems) → GoodL us ds → Goods us (λ i. nth i ds)
  unfolding nth
  goods-of ynil ds g = tt
  goods-of (ycons τ us) snil g = absurd g
  goods-of (ycons τ us) (scons d ds) g = (g.0, goods-of us ds g.1)

  types_are : (us : Tys) (ds : Sems) → GoodL us ds → (n : ℕ) → FitF (quotes ds n) → types_of C (quotes ds n) ≡ us
  unfolding quote type_of
  types_are ynil snil g n f = refl
  types_are ynil (scons d ds) g n f = absurd g
  types_are (ycons τ us) snil g n f = absurd g
  types_are (ycons τ us) (scons d ds) g n f = ap₂ ycons (good-typed τ d g.0 n f.0) (types_are us ds g.1 (n + gens (quote d n)) f.1)

  -- numbers and truths are so whatever columns there are
  scalar-typed : (τ : Ty) (d : Sem) → Scalar τ → Good τ d → (n : ℕ) → type_of C (quote d n) ≡ τ
  scalar-typed number d s g n = g n
  scalar-typed truth d s g n = g n
  scalar-typed (record' ts) d s g n = absurd s
  scalar-typed (coll c τ) d s g n = absurd s

  scalar-good : (τ : Ty) (d : Sem) → Scalar τ → ((n : ℕ) → type_of C (quote d n) ≡ τ) → Good τ d
  scalar-good number d s h = h
  scalar-good truth d s h = h
  scalar-good (record' ts) d s h = absurd s
  scalar-good (coll c τ) d s h = absurd s

  scalars-are : (us : Tys) (ds : Sems) → Scalars us → GoodL us ds → (n : ℕ) → types_of C (quotes ds n) ≡ us
  unfolding quote type_of
  scalars-are ynil snil s g n = refl
  scalars-are ynil (scons d ds) s g n = absurd g
  scalars-are (ycons τ us) snil s g n = absurd g
  scalars-are (ycons τ us) (scons d ds) s g n = ap₂ ycons (scalar-typed τ d s.0 g.0 n) (scalars-are us ds s.1 g.1 (n + gens (quote d n)))

  good-app : (f : Fun) (us : Tys) (τ : Ty) (ds : Sems) → Takes f us τ → GoodL us ds → Good τ (applied f ds)
  unfolding quote type_of
  good-app f us τ ds h g = scalar-good τ (applied f ds) (takes-scalar f us τ h) (λ n. ap (gives f) (scalars-are us ds (takes-scalars f us τ h) g n) ∙ sym (takes_gives f us τ h))

  good-binary : (o : Bin) (a b : Sem) → Good (result o) (binary o a b)
  unfolding result binary quote type_of
  good-binary plus a b = λ n. refl
  good-binary minus a b = λ n. refl
  good-binary times a b = λ n. refl
  good-binary equal a b = λ n. refl
  good-binary less a b = λ n. refl
  good-binary and a b = λ n. refl
  good-binary or a b = λ n. refl

  -- the row of a generator
  cells-good : (g c : ℕ) (f : ℕ → ℕ) → Goods (cells c) (λ i. plain (λ n. cell (f i) g))
  unfolding cells quote type_of
  cells-good g zero f = tt
  cells-good g (suc c) f = ((λ n. refl), cells-good g c (λ i. f (suc i)))

  row-good : (g c : ℕ) → C g ≡ c → Good (record' (cells c)) (Nm.row g)
  unfolding part quote type_of
  row-good g c e = (cells-good g c (λ i. i), (λ n f. ap (λ (k : ℕ). record' (cells k)) e))

  -- a comprehension, of which it is known what its head comes to
  nested-good : (q : Bool → ℕ → Clauses) (h : Bool → ℕ → Sem) (m : Monoid) (σ τ : Ty) → ((b : Bool) (n : ℕ) → FitC (q b n) → Good σ (h b n)) → Gathers m σ τ → Good τ (nested m q h)
  unfolding quote ranges type_of gathered
  nested-good q h (of c) σ τ w g = subst (λ x. Good x (nested (of c) q h)) (sym g) (w, (λ n f. ap (coll c) (good-typed σ (h false n) (w false n f.0) (n + gens_c (q false n)) f.1)))
  nested-good q h sum σ τ w g = subst (λ x. Good x (nested sum q h)) (sym g.1) (λ n. refl)
  nested-good q h max σ τ w g = subst (λ x. Good x (nested max q h)) (sym g.1) (λ n. refl)
  nested-good q h min σ τ w g = subst (λ x. Good x (nested min q h)) (sym g.1) (λ n. refl)
  nested-good q h some σ τ w g = subst (λ x. Good x (nested some q h)) (sym g.1) (λ n. refl)
  nested-good q h all σ τ w g = subst (λ x. Good x (nested all q h)) (sym g.1) (λ n. refl)

  -- what names come to
  abbrev GoodEnv : Context → SemEnv → Type 0
  GoodEnv Γ δ = (x : ℕ) (τ : Ty) → Γ x ≡ has τ → Good τ (δ x)

  env-more : (Γ : Context) (δ : SemEnv) (x : ℕ) (σ : Ty) (d : Sem) → GoodEnv Γ δ → Good σ d → GoodEnv (upd x (has σ) Γ) (upd x d δ)
  unfolding upd
  env-more Γ δ x σ d e g y τ = go (eqb x y)
    where
      go : (b : Bool) → elim b [ true ↦ has σ | false ↦ Γ y ] ≡ has τ → Good τ (elim b [ true ↦ d | false ↦ δ y ])
      go true h = subst (λ z. Good z d) (sym (same-type σ τ h)) g
      go false h = e y τ h

  mutual
    unfolding norm part ranges quote type_of before

    norm-good : (t : Term) (Γ : Context) (δ : SemEnv) → GoodEnv Γ δ → (τ : Ty) → Has T Γ t τ → Good τ (norm (kind_of T) t δ)
    norm-good (Sy.num z) Γ δ e τ h = subst (λ x. Good x (plain (λ n. num z))) (sym h) (λ n. refl)
    norm-good (Sy.truth b) Γ δ e τ h = subst (λ x. Good x (plain (λ n. Fo.truth b))) (sym h) (λ n. refl)
    norm-good (name x) Γ δ e τ h = e x τ h
    norm-good (field i t) Γ δ e τ h = goods-at i h.0 (λ j. part j (norm (kind_of T) t δ)) τ h.2 (norm-good t Γ δ e (record' h.0) h.1).0
    norm-good (Sy.rec ts) Γ δ e τ h =
        let ds : Sems = norms (kind_of T) ts δ in
        let g : GoodL h.0 ds = norms-good ts Γ δ e h.0 h.1 in
        subst (λ x. Good x (fields ds)) (sym h.2) (goods-of h.0 ds g, (λ n f. ap record' (types_are h.0 ds g n f)))
    norm-good (Sy.app f ts) Γ δ e τ h = good-app f h.0 τ (norms (kind_of T) ts δ) h.2 (norms-good ts Γ δ e h.0 h.1)
    norm-good (Sy.bin o s t) Γ δ e τ h = subst (λ x. Good x (binary o (norm (kind_of T) s δ) (norm (kind_of T) t δ))) (sym h.2) (good-binary o (norm (kind_of T) s δ) (norm (kind_of T) t δ))
    norm-good (Sy.negate t) Γ δ e τ h = subst (λ x. Good x (plain (λ n. negate (quote (norm (kind_of T) t δ) n)))) (sym h.1) (λ n. refl)
    norm-good (Sy.comp m qs u) Γ δ e τ h =
        nested-good _ _ m h.1 τ
        (λ b n f. walk-good qs m Γ h.0 δ e h.2 h.1 (b || idempotent m) (λ ε. norm (kind_of T) u ε) (λ ε g. norm-good u h.0 ε g h.1 h.3) n f) h.4
    norm-good (table k) Γ δ e τ h =
        nested-good (λ b n. gen n k done) (λ b n. Nm.row n) (of (kind_of T k)) (record' (cells (columns_of T k))) τ
        (λ b n f. row-good n (columns_of T k) f.0) h.1

    norms-good : (ts : Terms) (Γ : Context) (δ : SemEnv) → GoodEnv Γ δ → (us : Tys) → HasL T Γ ts us → GoodL us (norms (kind_of T) ts δ)
    norms-good tnil Γ δ e us h = rw h tt
    norms-good (tcons t ts) Γ δ e us h = rw h.4 (norm-good t Γ δ e h.0 h.2, norms-good ts Γ δ e h.1 h.3)

    walk-good : (qs : Quals) (m : Monoid) (Γ Δ : Context) (δ : SemEnv) → GoodEnv Γ δ → HasQ T m Γ qs Δ → (σ : Ty) (b : Bool) (h : SemEnv → Sem) → ((ε : SemEnv) → GoodEnv Δ ε → Good σ (h ε)) → (n : ℕ)
        → FitC (walk (kind_of T) qs b h δ n).clauses → Good σ (walk (kind_of T) qs b h δ n).head
    walk-good qnil m Γ Δ δ e q σ b h k n f = k δ (subst (λ x. GoodEnv x δ) q e)
    walk-good (Sy.gen x t qs) m Γ Δ δ e q σ b h k n f =
        let d : Sem = norm (kind_of T) t δ in
        let v : SemEnv = upd x (ranges d b n).head δ in
        let w : Clauses = (ranges d b n).clauses in
        let p : FitC w × FitC (walk (kind_of T) qs b h v (n + gens_c w)).clauses = fit_append w (walk (kind_of T) qs b h v (n + gens_c w)).clauses f in
        walk-good qs m (upd x (has q.1) Γ) Δ v (env-more Γ δ x q.1 (ranges d b n).head e ((norm-good t Γ δ e (coll q.0 q.1) q.2).0 b n p.0)) q.4 σ b h k (n + gens_c w) p.1
    walk-good (bind x t qs) m Γ Δ δ e q σ b h k n f =
        let d : Sem = norm (kind_of T) t δ in
        walk-good qs m (upd x (has q.0) Γ) Δ (upd x d δ) (env-more Γ δ x q.0 d e (norm-good t Γ δ e q.0 q.1)) q.2 σ b h k n f
    walk-good (Sy.cond t qs) m Γ Δ δ e q σ b h k n f =
        let w : Clauses = condition (norm (kind_of T) t δ) b n in
        let p : FitC w × FitC (walk (kind_of T) qs b h δ (n + gens_c w)).clauses = fit_append w (walk (kind_of T) qs b h δ (n + gens_c w)).clauses f in
        walk-good qs m Γ Δ δ e q.1 σ b h k (n + gens_c w) p.1

  gathers-is : (m : Monoid) (σ τ : Ty) → Gathers m σ τ → τ ≡ gathered m σ
  unfolding gathered
  gathers-is (of c) σ τ g = g
  gathers-is sum σ τ g = g.1
  gathers-is max σ τ g = g.1
  gathers-is min σ τ g = g.1
  gathers-is some σ τ g = g.1
  gathers-is all σ τ g = g.1

  pub question-type : (q : Question) → generators_fit T q ≡ true → Fit (as_form (normal (kind_of T) q)) → question_type T q ≡ has (type_of C (as_form (normal (kind_of T) q)))
  unfolding generators_fit is_typed question_type normal type_of
  question-type q e f = go (question_type T q) refl e
    where
      of-type : (τ : Ty) → Has T (λ x. wrong) (as_term q) τ → τ ≡ type_of C (as_form (normal (kind_of T) q))
      of-type τ (Δ, σ, hq, hh, g) =
          let s : Nm.Splice = spliced T q in
          let w : Good σ s.head = walk-good q.quals q.monoid (λ x. wrong) Δ nowhere (λ x τ u. untyped u) hq σ (idempotent q.monoid) (λ ε. norm (kind_of T) q.head ε) (λ ε u. norm-good q.head Δ ε u σ hh) 0 f.0 in
          gathers-is q.monoid σ τ g ∙ ap (gathered q.monoid) (sym (good-typed σ s.head w (gens_c s.clauses) f.1))

      go : (t : Typed) → question_type T q ≡ t → is_typed t ≡ true → question_type T q ≡ has (type_of C (as_form (normal (kind_of T) q)))
      go wrong p h = absurd (true≢false (sym h))
      go (has τ) p h = p ∙ ap has (of-type τ (typed T (as_term q) (λ x. wrong) τ p))
