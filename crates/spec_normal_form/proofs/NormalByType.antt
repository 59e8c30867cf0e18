-- What holds of numbers, truths, written forms and clauses, and is kept by each kind of term, holds of the normal form of every question
-- that 25 and 26 let pass.
use mathlib.Core.Path.{◌≡◌, sym, subst}
use mathlib.Core.Bool.{Bool, true, false, ◌||◌}
use Prim.Native.Nat.{ℕ, zero, suc, ◌+◌}
use lib.Dec.{eqb}
use lib.IntN.{ℤ}
use Rattle.spec_calculus.specs.Lists.{upd}
use Rattle.spec_calculus.specs.Syntax.{Monoid, of, Bin, Fun, Term, Terms, Quals, name, field, table, tnil, tcons, qnil, bind, Question, as_term}
use Rattle.spec_calculus.specs.Syntax as Sy
use Rattle.spec_calculus.specs.Value.{Tables, kind_of, columns_of}
use Rattle.spec_checks.specs.Types.{Ty, Tys, number, record', coll, ynil, ycons, wrong, has, cells, type_at, Context, generators_fit}
use Rattle.spec_checks.specs.Types as Ty
use Rattle.spec_checks.proofs.Judgement.{operand, result, Takes, Gathers, Has, HasL, HasQ, untyped, same-type, question-typed}
use Rattle.spec_normal_form.specs.Form.{Form, Forms, Clauses, num, truth, cell, negate, fnil, fcons, done, gen, ◌⊕◌, gens, gens_c}
use Rattle.spec_normal_form.specs.Normal.{Sem, Sems, fields, nested, plain, snil, scons, quote, quotes, idempotent, condition, ranges, nth, part, binary, applied, before, SemEnv, norm, norms, walk, nowhere}
use Rattle.spec_normal_form.specs.Normal as Nm

-- the clauses and the head of a question's normal form
abbrev pub spliced : Tables → Question → Nm.Splice
spliced T q = walk (kind_of T) q.quals (idempotent q.monoid) (λ ε. norm (kind_of T) q.head ε) nowhere 0

-- What is claimed: N of what a number comes to, B of what a truth comes to, W of a form that is written out, K of clauses.
module _ (N B : Sem → Type 0) (W : Form → Type 0) (K : Clauses → Type 0) where
  -- What a term of a type comes to: the claim of its type, and so for all that can be made of it.
  abbrev mutual
    pub Good : Ty → Sem → Type 0
    Good number d = N d
    Good Ty.truth d = B d
    Good (record' ts) d = Goods ts (λ i. part i d) × ((n : ℕ) → W (quote d n))
    Good (coll c τ) d = ((b : Bool) (n : ℕ) → K (ranges d b n).clauses × Good τ (ranges d b n).head) × ((n : ℕ) → W (quote d n))

    pub Goods : Tys → (ℕ → Sem) → Type 0
    Goods ynil f = Unit {0}
    Goods (ycons τ ts) f = Good τ (f 0) × Goods ts (λ i. f (suc i))

  goods-at : (i : ℕ) (ts : Tys) (f : ℕ → Sem) (τ : Ty) → type_at i ts ≡ has τ → Goods ts f → Good τ (f i)
  unfolding type_at
  goods-at i ynil f τ e g = untyped e
  goods-at zero (ycons σ ts) f τ e g = subst (λ x. Good x (f 0)) (sym (same-type σ τ e)) g.0
  goods-at (suc i) (ycons σ ts) f τ e g = goods-at i ts (λ j. f (suc j)) τ e g.1

  -- fields and operands, one for one
  abbrev pub GoodL : Tys → Sems → Type 0
  GoodL ynil snil = Unit {0}
  GoodL ynil (scons d ds) = ⊥
  GoodL (ycons τ us) snil = ⊥
  GoodL (ycons τ us) (scons d ds) = Good τ d × GoodL us ds

  goods-of : (us : Tys) (ds : Sems) → GoodL us ds → Goods us (λ i. nth i ds)
  unfolding nth
  goods-of ynil ds g = tt
  goods-of (ycons τ us) snil g = absurd g
  goods-of (ycons τ us) (scons d ds) g = (g.0, goods-of us ds g.1)

  -- where numbers and truths that are written out are what is claimed of forms, so is all else
  module _ (number-written : (d : Sem) → N d → (n : ℕ) → W (quote d n)) (truth-written : (d : Sem) → B d → (n : ℕ) → W (quote d n)) where
    pub written : (τ : Ty) (d : Sem) → Good τ d → (n : ℕ) → W (quote d n)
    written number d g n = number-written d g n
    written Ty.truth d g n = truth-written d g n
    written (record' ts) d g n = g.1 n
    written (coll c τ) d g n = g.1 n

    pub all-written : (L : Forms → Type 0) → L fnil → ((t : Form) (ts : Forms) → W t → L ts → L (fcons t ts)) → (us : Tys) (ds : Sems) → GoodL us ds → (n : ℕ) → L (quotes ds n)
    unfolding quote
    all-written L z s ynil snil g n = z
    all-written L z s ynil (scons d ds) g n = absurd g
    all-written L z s (ycons τ us) snil g n = absurd g
    all-written L z s (ycons τ us) (scons d ds) g n =
        s (quote d n) (quotes ds (n + gens (quote d n))) (written τ d g.0 n) (all-written L z s us ds g.1 (n + gens (quote d n)))

  -- what names come to
  abbrev GoodEnv : Context → SemEnv → Type 0
  GoodEnv Γ δ = (x : ℕ) (τ : Ty) → Γ x ≡ has τ → Good τ (δ x)

  env-more : (Γ : Context) (δ : SemEnv) (x : ℕ) (σ : Ty) (d : Sem) → GoodEnv Γ δ → Good σ d → GoodEnv (upd x (has σ) Γ) (upd x d δ)
  unfolding upd
  env-more Γ δ x σ d e g y τ = go (eqb x y)
    where
      go : (b : Bool) → elim b [ true ↦ has σ | false ↦ Γ y ] ≡ has τ → Good τ (elim b [ true ↦ d | false ↦ δ y ])
      go true h = subst (λ z. Good z d) (sym (same-type σ τ h)) g
      go false h = e y τ h

  -- what each kind of term keeps
  pub record Keeps : Type 0 where
    pub a_number : (z : ℤ) → N (plain (λ n. num z))
    pub a_truth : (b : Bool) → B (plain (λ n. truth b))
    pub a-cell : (i g : ℕ) → N (plain (λ n. cell i g))
    pub a-row : (g n : ℕ) → W (quote (Nm.row g) n)
    pub a_record : (us : Tys) (ds : Sems) → GoodL us ds → (n : ℕ) → W (quote (fields ds) n)
    pub two : (o : Bin) (a b : Sem) → Good (operand o) a → Good (operand o) b → Good (result o) (binary o a b)
    pub negated : (d : Sem) → B d → B (plain (λ n. negate (quote d n)))
    pub several : (f : Fun) (us : Tys) (τ : Ty) (ds : Sems) → Takes f us τ → GoodL us ds → Good τ (applied f ds)
    pub comprehension : (q : Bool → ℕ → Clauses) (h : Bool → ℕ → Sem) (m : Monoid) (σ τ : Ty)
        → ((b : Bool) (n : ℕ) → K (q b n) × Good σ (h b n)) → Gathers m σ τ → Good τ (nested m q h)
    pub no-clause : K done
    pub a-generator : (g k : ℕ) → K (gen g k done)
    pub a-condition : (d : Sem) → B d → (b : Bool) (n : ℕ) → K (condition d b n)
    pub appended : (q r : Clauses) → K q → K r → K (q ⊕ r)

  module _ (H : Keeps) where
    -- the row of a generator
    cells-good : (g c : ℕ) (f : ℕ → ℕ) → Goods (cells c) (λ i. plain (λ n. cell (f i) g))
    unfolding cells
    cells-good g zero f = tt
    cells-good g (suc c) f = (H.a-cell (f 0) g, cells-good g c (λ i. f (suc i)))

    row-good : (g c : ℕ) → Good (record' (cells c)) (Nm.row g)
    unfolding part
    row-good g c = (cells-good g c (λ i. i), (λ n. H.a-row g n))

    -- clauses, then what comes behind them
    before-good : (σ : Ty) (w : Clauses) (n : ℕ) (k : ℕ → Nm.Splice) → K w → ((j : ℕ) → K (k j).clauses × Good σ (k j).head) → K (before w n k).clauses × Good σ (before w n k).head
    unfolding before
    before-good σ w n k h g = (H.appended w (k (n + gens_c w)).clauses h (g (n + gens_c w)).0, (g (n + gens_c w)).1)

    module _ (T : Tables) where
      mutual
        unfolding norm part ranges

        norm-good : (t : Term) (Γ : Context) (δ : SemEnv) → GoodEnv Γ δ → (τ : Ty) → Has T Γ t τ → Good τ (norm (kind_of T) t δ)
        norm-good (Sy.num z) Γ δ e τ h = subst (λ x. Good x (plain (λ n. num z))) (sym h) (H.a_number z)
        norm-good (Sy.truth b) Γ δ e τ h = subst (λ x. Good x (plain (λ n. truth b))) (sym h) (H.a_truth b)
        norm-good (name x) Γ δ e τ h = e x τ h
        norm-good (field i t) Γ δ e τ h = goods-at i h.0 (λ j. part j (norm (kind_of T) t δ)) τ h.2 (norm-good t Γ δ e (record' h.0) h.1).0
        norm-good (Sy.rec ts) Γ δ e τ h =
            let ds : Sems = norms (kind_of T) ts δ in
            let g : GoodL h.0 ds = norms-good ts Γ δ e h.0 h.1 in
            subst (λ x. Good x (fields ds)) (sym h.2) (goods-of h.0 ds g, H.a_record h.0 ds g)
        norm-good (Sy.app f ts) Γ δ e τ h = H.several f h.0 τ (norms (kind_of T) ts δ) h.2 (norms-good ts Γ δ e h.0 h.1)
        norm-good (Sy.bin o s t) Γ δ e τ h =
            let a : Sem = norm (kind_of T) s δ in
            let b : Sem = norm (kind_of T) t δ in
            subst (λ x. Good x (binary o a b)) (sym h.2) (H.two o a b (norm-good s Γ δ e (operand o) h.0) (norm-good t Γ δ e (operand o) h.1))
        norm-good (Sy.negate t) Γ δ e τ h =
            let d : Sem = norm (kind_of T) t δ in
            subst (λ x. Good x (plain (λ n. negate (quote d n)))) (sym h.1) (H.negated d (norm-good t Γ δ e Ty.truth h.0))
        norm-good (Sy.comp m qs u) Γ δ e τ h =
            H.comprehension _ _ m h.1 τ
            (λ b n. walk-good qs m Γ h.0 δ e h.2 h.1 (b || idempotent m) (λ ε. norm (kind_of T) u ε) (λ ε g. norm-good u h.0 ε g h.1 h.3) n) h.4
        norm-good (table k) Γ δ e τ h =
            H.comprehension (λ b n. gen n k done) (λ b n. Nm.row n) (of (kind_of T k)) (record' (cells (columns_of T k))) τ
            (λ b n. (H.a-generator n k, row-good n (columns_of T k))) h.1

        norms-good : (ts : Terms) (Γ : Context) (δ : SemEnv) → GoodEnv Γ δ → (us : Tys) → HasL T Γ ts us → GoodL us (norms (kind_of T) ts δ)
        norms-good tnil Γ δ e us h = rw h tt
        norms-good (tcons t ts) Γ δ e us h = rw h.4 (norm-good t Γ δ e h.0 h.2, norms-good ts Γ δ e h.1 h.3)

        walk-good : (qs : Quals) (m : Monoid) (Γ Δ : Context) (δ : SemEnv) → GoodEnv Γ δ → HasQ T m Γ qs Δ → (σ : Ty) (b : Bool) (h : SemEnv → Sem) → ((ε : SemEnv) → GoodEnv Δ ε → Good σ (h ε)) → (n : ℕ)
            → K (walk (kind_of T) qs b h δ n).clauses × Good σ (walk (kind_of T) qs b h δ n).head
        walk-good qnil m Γ Δ δ e q σ b h k n = (H.no-clause, k δ (subst (λ x. GoodEnv x δ) q e))
        walk-good (Sy.gen x t qs) m Γ Δ δ e q σ b h k n =
            let d : Sem = norm (kind_of T) t δ in
            let r : K (ranges d b n).clauses × Good q.1 (ranges d b n).head = (norm-good t Γ δ e (coll q.0 q.1) q.2).0 b n in
            let v : SemEnv = upd x (ranges d b n).head δ in
            before-good σ (ranges d b n).clauses n (λ j. walk (kind_of T) qs b h v j) r.0
            (λ j. walk-good qs m (upd x (has q.1) Γ) Δ v (env-more Γ δ x q.1 (ranges d b n).head e r.1) q.4 σ b h k j)
        walk-good (bind x t qs) m Γ Δ δ e q σ b h k n =
            let d : Sem = norm (kind_of T) t δ in
            walk-good qs m (upd x (has q.0) Γ) Δ (upd x d δ) (env-more Γ δ x q.0 d e (norm-good t Γ δ e q.0 q.1)) q.2 σ b h k n
        walk-good (Sy.cond t qs) m Γ Δ δ e q σ b h k n =
            let d : Sem = norm (kind_of T) t δ in
            before-good σ (condition d b n) n (λ j. walk (kind_of T) qs b h δ j) (H.a-condition d (norm-good t Γ δ e Ty.truth q.0) b n)
            (λ j. walk-good qs m Γ Δ δ e q.1 σ b h k j)

    -- the head's type, the question's, and what holds of clauses and head
    pub question-good : (T : Tables) (q : Question) → generators_fit T q ≡ true → (σ : Ty) × (τ : Ty) × Gathers q.monoid σ τ × K (spliced T q).clauses × Good σ (spliced T q).head
    question-good T q e =
        let h : (τ : Ty) × Has T (λ x. wrong) (as_term q) τ = question-typed T q e in
        let (Δ, σ, hq, hh, g) = h.1 in
        let i : Bool = idempotent q.monoid in
        let w : K (spliced T q).clauses × Good σ (spliced T q).head = walk-good T q.quals q.monoid (λ x. wrong) Δ nowhere (λ x τ u. untyped u) hq σ i (λ ε. norm (kind_of T) q.head ε) (λ ε u. norm-good T q.head Δ ε u σ hh) 0 in
        (σ, h.0, g, w.0, w.1)
