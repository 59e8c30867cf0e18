-- Calendars may be lent to a question or to its normal form: it is the same form, of the same size and bounds.
use mathlib.Core.Path.{◌≡◌, refl, sym, ap, ap₂, ◌∙◌, fun_ext}
use mathlib.Core.Bool.{Bool, true, false, ◌||◌, ◌&&◌}
use mathlib.Core.List.{List, [], ◌∷◌, ◌++◌}
use Prim.Native.Nat.{ℕ, zero, suc, ◌+◌, ◌^◌}
use lib.Dec.{leb, eqb}
use Rattle.spec_calendar.specs.Hours.{Calendar}
use Rattle.spec_calculus.specs.Lists.{pick, upd}
use Rattle.spec_calculus.specs.Syntax.{Collection, Monoid, of, Bin, plus, minus, times, equal, less, and, or, Fun, choice, is_open, Term, Terms, Quals, num, truth, name, field, rec, bin, negate, app, comp, table, tnil, tcons, qnil, gen, bind, cond, Question}
use Rattle.spec_calculus.specs.Lending.{lend_op, lend_t, lend_ts, lend_q, lend}
use Rattle.spec_normal_form.specs.Form.{Form, Forms, Clauses, fnil, fcons, done, ◌⊕◌, gens, gens_f, gens_c, NormalForm, as_form}
use Rattle.spec_normal_form.specs.Form as Nf
use Rattle.spec_normal_form.specs.Normal.{Sem, Sems, row, fields, both, nested, plain, snil, scons, nothing, quote, quotes, idempotent, gives_way, one, condition, Splice, never, ranges, nth, part, pair, binary, applied, before, SemEnv, norm, norms, walk, nowhere, normal}
use Rattle.spec_normal_form.specs.Size.{nodes, nodes_f, nodes_c, size_fits}
use Rattle.spec_normal_form.specs.Bound.{Declared, own_gens, bin_bound, app_bound, comp_bound, bound, bounds, small, within, within_f, within_c, tables_of, tables_of_f, tables_of_c, declared, numbers_fit}

-- a normal form with calendars lent to it
unfoldable mutual
  pub lend_f : (ℕ → Calendar) → Form → Form
  lend_f K (Nf.num z) = Nf.num z
  lend_f K (Nf.truth b) = Nf.truth b
  lend_f K (Nf.row g) = Nf.row g
  lend_f K (Nf.cell i g) = Nf.cell i g
  lend_f K (Nf.rec ts) = Nf.rec (lend_fs K ts)
  lend_f K (Nf.bin o s t) = Nf.bin o (lend_f K s) (lend_f K t)
  lend_f K (Nf.negate t) = Nf.negate (lend_f K t)
  lend_f K (Nf.app f ts) = Nf.app (lend_op K f) (lend_fs K ts)
  lend_f K (Nf.comp m q h) = Nf.comp m (lend_c K q) (lend_f K h)

  pub lend_fs : (ℕ → Calendar) → Forms → Forms
  lend_fs K fnil = fnil
  lend_fs K (fcons t ts) = fcons (lend_f K t) (lend_fs K ts)

  pub lend_c : (ℕ → Calendar) → Clauses → Clauses
  lend_c K done = done
  lend_c K (Nf.gen g k q) = Nf.gen g k (lend_c K q)
  lend_c K (Nf.cond t q) = Nf.cond (lend_f K t) (lend_c K q)

abbrev pub lend_n : (ℕ → Calendar) → NormalForm → NormalForm
lend_n K f = record { monoid = f.monoid; clauses = lend_c K f.clauses; head = lend_f K f.head }

module _ (K : ℕ → Calendar) where
  -- ---- how many generators it has
  mutual
    unfolding gens lend_f

    gens-lent : (t : Form) → gens (lend_f K t) ≡ gens t
    gens-lent (Nf.num z) = refl
    gens-lent (Nf.truth b) = refl
    gens-lent (Nf.row g) = refl
    gens-lent (Nf.cell i g) = refl
    gens-lent (Nf.rec ts) = gens_f-lent ts
    gens-lent (Nf.app f ts) = gens_f-lent ts
    gens-lent (Nf.bin o s t) = ap₂ ◌+◌ (gens-lent s) (gens-lent t)
    gens-lent (Nf.negate t) = gens-lent t
    gens-lent (Nf.comp m q h) = ap₂ ◌+◌ (gens_c-lent q) (gens-lent h)

    gens_f-lent : (ts : Forms) → gens_f (lend_fs K ts) ≡ gens_f ts
    gens_f-lent fnil = refl
    gens_f-lent (fcons t ts) = ap₂ ◌+◌ (gens-lent t) (gens_f-lent ts)

    gens_c-lent : (q : Clauses) → gens_c (lend_c K q) ≡ gens_c q
    gens_c-lent done = refl
    gens_c-lent (Nf.gen g k q) = ap suc (gens_c-lent q)
    gens_c-lent (Nf.cond t q) = ap₂ ◌+◌ (gens-lent t) (gens_c-lent q)

  append-lent : (w v : Clauses) → lend_c K (w ⊕ v) ≡ lend_c K w ⊕ lend_c K v
  unfolding lend_f ◌⊕◌
  append-lent done v = refl
  append-lent (Nf.gen g k w) v = ap (Nf.gen g k) (append-lent w v)
  append-lent (Nf.cond t w) v = ap (Nf.cond (lend_f K t)) (append-lent w v)

  -- ---- what a term comes to
  unfoldable mutual
    lend_s : Sem → Sem
    lend_s (row g) = row g
    lend_s (fields ds) = fields (lend_ss ds)
    lend_s (both a b) = both (lend_s a) (lend_s b)
    lend_s (nested m q h) = nested m (λ b n. lend_c K (q b n)) (λ b n. lend_s (h b n))
    lend_s (plain f) = plain (λ n. lend_f K (f n))

    lend_ss : Sems → Sems
    lend_ss snil = snil
    lend_ss (scons d ds) = scons (lend_s d) (lend_ss ds)

  abbrev lend_e : SemEnv → SemEnv
  lend_e δ = λ x. lend_s (δ x)

  abbrev lend_splice : Splice → Splice
  lend_splice s = record { clauses = lend_c K s.clauses; head = lend_s s.head }

  -- written from n on behind a form that is the same but for its calendars
  mutual
    unfolding quote lend_s lend_f

    quote-lent : (d : Sem) (n : ℕ) → quote (lend_s d) n ≡ lend_f K (quote d n)
    quote-lent (row g) n = refl
    quote-lent (fields ds) n = ap Nf.rec (quotes-lent ds n)
    quote-lent (both a b) n = ap₂ (Nf.bin and) (quote-lent a n) (ap (λ s. quote (lend_s b) (n + gens s)) (quote-lent a n) ∙ ap (λ j. quote (lend_s b) (n + j)) (gens-lent (quote a n)) ∙ quote-lent b (n + gens (quote a n)))
    quote-lent (nested m q h) n = ap (Nf.comp m (lend_c K (q false n))) (ap (λ j. quote (lend_s (h false n)) (n + j)) (gens_c-lent (q false n)) ∙ quote-lent (h false n) (n + gens_c (q false n)))
    quote-lent (plain f) n = refl

    quotes-lent : (ds : Sems) (n : ℕ) → quotes (lend_ss ds) n ≡ lend_fs K (quotes ds n)
    quotes-lent snil n = refl
    quotes-lent (scons d ds) n = ap₂ fcons (quote-lent d n) (ap (λ s. quotes (lend_ss ds) (n + gens s)) (quote-lent d n) ∙ ap (λ j. quotes (lend_ss ds) (n + j)) (gens-lent (quote d n)) ∙ quotes-lent ds (n + gens (quote d n)))

  pair-lent : (o : Bin) (a b : Sem) → pair o (lend_s a) (lend_s b) ≡ lend_s (pair o a b)
  unfolding lend_s lend_f
  pair-lent o a b = ap plain (fun_ext λ n.
      ap₂ (Nf.bin o) (quote-lent a n) (ap (λ s. quote (lend_s b) (n + gens s)) (quote-lent a n) ∙ ap (λ j. quote (lend_s b) (n + j)) (gens-lent (quote a n)) ∙ quote-lent b (n + gens (quote a n))))

  binary-lent : (o : Bin) (a b : Sem) → binary o (lend_s a) (lend_s b) ≡ lend_s (binary o a b)
  unfolding binary lend_s
  binary-lent plus a b = pair-lent plus a b
  binary-lent minus a b = pair-lent minus a b
  binary-lent times a b = pair-lent times a b
  binary-lent equal a b = pair-lent equal a b
  binary-lent less a b = pair-lent less a b
  binary-lent and a b = refl
  binary-lent or a b = pair-lent or a b

  -- clauses behind clauses
  behind-lent : (w : Clauses) (n : ℕ) (k l : ℕ → Clauses) → ((j : ℕ) → k j ≡ lend_c K (l j)) → lend_c K w ⊕ k (n + gens_c (lend_c K w)) ≡ lend_c K (w ⊕ l (n + gens_c w))
  behind-lent w n k l h = ap (λ j. lend_c K w ⊕ k (n + j)) (gens_c-lent w) ∙ ap (λ v. lend_c K w ⊕ v) (h (n + gens_c w)) ∙ sym (append-lent w (l (n + gens_c w)))

  chosen-lent : (b : Bool) (x y x' y' : Clauses) → x ≡ lend_c K x' → y ≡ lend_c K y' → elim b [ true ↦ x | false ↦ y ] ≡ lend_c K (elim b [ true ↦ x' | false ↦ y' ])
  chosen-lent true x y x' y' p q = p
  chosen-lent false x y x' y' p q = q

  condition-lent : (d : Sem) (b : Bool) (n : ℕ) → condition (lend_s d) b n ≡ lend_c K (condition d b n)
  unfolding condition lend_s lend_f
  condition-lent (row g) b n = refl
  condition-lent (fields ds) b n = ap one (quote-lent (fields ds) n)
  condition-lent (both d e) b n =
      ap (λ w. w ⊕ condition (lend_s e) b (n + gens_c w)) (condition-lent d b n) ∙ behind-lent (condition d b n) n (λ j. condition (lend_s e) b j) (λ j. condition e b j) (λ j. condition-lent e b j)
  condition-lent (nested m q h) b n = chosen-lent (gives_way m b) _ _ _ _
      (behind-lent (q b n) n (λ j. condition (lend_s (h b n)) b j) (λ j. condition (h b n) b j) (λ j. condition-lent (h b n) b j))
      (ap one (quote-lent (nested m q h) n))
  condition-lent (plain f) b n = refl

  ranges-lent : (d : Sem) (b : Bool) (n : ℕ) → ranges (lend_s d) b n ≡ lend_splice (ranges d b n)
  unfolding ranges lend_s lend_f
  ranges-lent (row g) b n = refl
  ranges-lent (fields ds) b n = refl
  ranges-lent (both d e) b n = refl
  ranges-lent (nested m q h) b n = refl
  ranges-lent (plain f) b n = refl

  nth-lent : (i : ℕ) (ds : Sems) → nth i (lend_ss ds) ≡ lend_s (nth i ds)
  unfolding nth lend_s lend_f
  nth-lent i snil = refl
  nth-lent zero (scons d ds) = refl
  nth-lent (suc i) (scons d ds) = nth-lent i ds

  part-lent : (i : ℕ) (d : Sem) → part i (lend_s d) ≡ lend_s (part i d)
  unfolding part lend_s lend_f
  part-lent i (row g) = refl
  part-lent i (fields ds) = nth-lent i ds
  part-lent i (both a b) = refl
  part-lent i (nested m q h) = refl
  part-lent i (plain f) = refl

  before_lent : (w : Clauses) (n : ℕ) (k l : ℕ → Splice) → ((j : ℕ) → k j ≡ lend_splice (l j)) → before (lend_c K w) n k ≡ lend_splice (before w n l)
  unfolding before
  before_lent w n k l h =
      ap (λ j. record { clauses = lend_c K w ⊕ (k (n + j)).clauses; head = (k (n + j)).head }) (gens_c-lent w)
      ∙ ap (λ (s : Splice). record { clauses = lend_c K w ⊕ s.clauses; head = s.head }) (h (n + gens_c w))
      ∙ ap (λ c. record { clauses = c; head = lend_s (l (n + gens_c w)).head }) (sym (append-lent w (l (n + gens_c w)).clauses))

  upd-lent : (x : ℕ) (d : Sem) (δ : SemEnv) → upd x (lend_s d) (lend_e δ) ≡ lend_e (upd x d δ)
  unfolding upd
  upd-lent x d δ = fun_ext λ y. go y (eqb x y)
    where
      go : (y : ℕ) (b : Bool) → elim b [ true ↦ lend_s d | false ↦ lend_s (δ y) ] ≡ lend_s (elim b [ true ↦ d | false ↦ δ y ])
      go y true = refl
      go y false = refl

  module _ (C : ℕ → Collection) where
    mutual
      unfolding norm lend_t lend_s lend_f

      norm-lent : (t : Term) (δ : SemEnv) → norm C (lend_t K t) (lend_e δ) ≡ lend_s (norm C t δ)
      norm-lent (num z) δ = refl
      norm-lent (truth b) δ = refl
      norm-lent (name x) δ = refl
      norm-lent (field i t) δ = ap (part i) (norm-lent t δ) ∙ part-lent i (norm C t δ)
      norm-lent (rec ts) δ = ap fields (norms-lent ts δ)
      norm-lent (app f ts) δ = ap (applied (lend_op K f)) (norms-lent ts δ) ∙ ap plain (fun_ext λ n. ap (Nf.app (lend_op K f)) (quotes-lent (norms C ts δ) n))
      norm-lent (bin o s t) δ = ap₂ (binary o) (norm-lent s δ) (norm-lent t δ) ∙ binary-lent o (norm C s δ) (norm C t δ)
      norm-lent (negate t) δ = ap plain (fun_ext λ n. ap Nf.negate (ap (λ d. quote d n) (norm-lent t δ) ∙ quote-lent (norm C t δ) n))
      norm-lent (comp m qs h) δ = ap₂ (nested m)
          (fun_ext λ b. fun_ext λ n. ap (λ (s : Splice). s.clauses) (walk-lent qs (b || idempotent m) (λ ε. norm C (lend_t K h) ε) (λ ε. norm C h ε) (λ ε. norm-lent h ε) δ n))
          (fun_ext λ b. fun_ext λ n. ap (λ (s : Splice). s.head) (walk-lent qs (b || idempotent m) (λ ε. norm C (lend_t K h) ε) (λ ε. norm C h ε) (λ ε. norm-lent h ε) δ n))
      norm-lent (table k) δ = refl

      norms-lent : (ts : Terms) (δ : SemEnv) → norms C (lend_ts K ts) (lend_e δ) ≡ lend_ss (norms C ts δ)
      norms-lent tnil δ = refl
      norms-lent (tcons t ts) δ = ap₂ scons (norm-lent t δ) (norms-lent ts δ)

      walk-lent : (qs : Quals) (b : Bool) (k l : SemEnv → Sem) → ((ε : SemEnv) → k (lend_e ε) ≡ lend_s (l ε)) → (δ : SemEnv) (n : ℕ) → walk C (lend_q K qs) b k (lend_e δ) n ≡ lend_splice (walk C qs b l δ n)
      walk-lent qnil b k l e δ n = ap (λ d. record { clauses = done; head = d }) (e δ)
      walk-lent (gen x t qs) b k l e δ n =
          let r = ranges (norm C t δ) b n in
          ap (λ (s : Splice). before s.clauses n (λ j. walk C (lend_q K qs) b k (upd x s.head (lend_e δ)) j)) (ap (λ d. ranges d b n) (norm-lent t δ) ∙ ranges-lent (norm C t δ) b n)
          ∙ before_lent r.clauses n (λ j. walk C (lend_q K qs) b k (upd x (lend_s r.head) (lend_e δ)) j) (λ j. walk C qs b l (upd x r.head δ) j)
          (λ j. ap (λ ε. walk C (lend_q K qs) b k ε j) (upd-lent x r.head δ) ∙ walk-lent qs b k l e (upd x r.head δ) j)
      walk-lent (bind x t qs) b k l e δ n =
          ap (λ d. walk C (lend_q K qs) b k (upd x d (lend_e δ)) n) (norm-lent t δ)
          ∙ ap (λ ε. walk C (lend_q K qs) b k ε n) (upd-lent x (norm C t δ) δ) ∙ walk-lent qs b k l e (upd x (norm C t δ) δ) n
      walk-lent (cond t qs) b k l e δ n =
          ap (λ w. before w n (λ j. walk C (lend_q K qs) b k (lend_e δ) j)) (ap (λ d. condition d b n) (norm-lent t δ) ∙ condition-lent (norm C t δ) b n)
          ∙ before_lent (condition (norm C t δ) b n) n (λ j. walk C (lend_q K qs) b k (lend_e δ) j) (λ j. walk C qs b l δ j) (λ j. walk-lent qs b k l e δ j)

    pub normal-lent : (q : Question) → normal C (lend K q) ≡ lend_n K (normal C q)
    unfolding normal lend lend_s
    normal-lent q =
        let w = walk C q.quals (idempotent q.monoid) (λ ε. norm C q.head ε) nowhere 0 in
        ap (λ (s : Splice). record { monoid = q.monoid; clauses = s.clauses; head = quote s.head (gens_c s.clauses) })
        (walk-lent q.quals (idempotent q.monoid) (λ ε. norm C (lend_t K q.head) ε) (λ ε. norm C q.head ε) (λ ε. norm-lent q.head ε) nowhere 0)
        ∙ ap (λ h. record { monoid = q.monoid; clauses = lend_c K w.clauses; head = h })
        (ap (quote (lend_s w.head)) (gens_c-lent w.clauses) ∙ quote-lent w.head (gens_c w.clauses))

  -- ---- 27
  mutual
    unfolding nodes lend_f

    nodes-lent : (t : Form) → nodes (lend_f K t) ≡ nodes t
    nodes-lent (Nf.num z) = refl
    nodes-lent (Nf.truth b) = refl
    nodes-lent (Nf.row g) = refl
    nodes-lent (Nf.cell i g) = refl
    nodes-lent (Nf.rec ts) = ap (λ n. 1 + n) (nodes_f-lent ts)
    nodes-lent (Nf.app f ts) = ap (λ n. 1 + n) (nodes_f-lent ts)
    nodes-lent (Nf.bin o s t) = ap₂ (λ m n. 1 + (m + n)) (nodes-lent s) (nodes-lent t)
    nodes-lent (Nf.negate t) = ap (λ n. 1 + n) (nodes-lent t)
    nodes-lent (Nf.comp m q h) = ap₂ (λ m n. 1 + (m + n)) (nodes_c-lent q) (nodes-lent h)

    nodes_f-lent : (ts : Forms) → nodes_f (lend_fs K ts) ≡ nodes_f ts
    nodes_f-lent fnil = refl
    nodes_f-lent (fcons t ts) = ap₂ ◌+◌ (nodes-lent t) (nodes_f-lent ts)

    nodes_c-lent : (q : Clauses) → nodes_c (lend_c K q) ≡ nodes_c q
    nodes_c-lent done = refl
    nodes_c-lent (Nf.gen g k q) = ap (λ n. 2 + n) (nodes_c-lent q)
    nodes_c-lent (Nf.cond t q) = ap₂ (λ m n. 1 + (m + n)) (nodes-lent t) (nodes_c-lent q)

  pub size-lent : (f : NormalForm) → size_fits (lend_n K f) ≡ size_fits f
  unfolding size_fits lend_f
  size-lent f = ap (λ n. leb n 512) (nodes-lent (as_form f))
