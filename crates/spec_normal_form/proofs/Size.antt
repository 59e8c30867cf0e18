-- "27: a normal form over 512 nodes": how many nodes the normal form has, counted without making it.
use mathlib.Core.Path.{◌≡◌, refl, sym, ap, ap₂, ◌∙◌}
use mathlib.Core.Bool.{Bool, true, false, ◌||◌}
use Prim.Native.Nat.{ℕ, zero, suc, ◌+◌}
use native.Mathlib.Omega.{arith}
use lib.Dec.{eqb, leb}
use lib.IntN.{pos}
use Rattle.spec_calculus.specs.Lists.{pick, upd}
use Rattle.spec_calculus.specs.Syntax.{Collection, bag, Monoid, of, sum, Bin, plus, minus, times, equal, less, and, or, Term, Terms, Quals, num, truth, name, field, rec, bin, negate, app, comp, table, tnil, tcons, qnil, gen, bind, cond, Question, as_term}
use Rattle.spec_normal_form.specs.Form.{Form, Clauses, done, ◌⊕◌, gens, gens_c, as_form}
use Rattle.spec_normal_form.specs.Form as Nf
use Rattle.spec_normal_form.specs.Size.{nodes, nodes_f, nodes_c, size_fits}
use Rattle.spec_normal_form.specs.Normal.{Sem, Sems, row, fields, both, nested, plain, snil, scons, nothing, quote, quotes, idempotent, gives_way, one, condition, Splice, never, ranges, nth, part, pair, binary, before, SemEnv, norm, norms, walk, nowhere, normal}
use Rattle.spec_normal_form.proofs.WriteOut.{condition-cases, normal-is-quote}

-- What a term comes to, with a count in place of what is written. No generator is numbered.
mutual
  pub data Size : Type 0 where
    zrow : Size
    zfields : Sizes → Size
    zboth : Size → Size → Size
    znested : Monoid → (Bool → ℕ) → (Bool → Size) → Size
    zplain : ℕ → Size

  pub data Sizes : Type 0 where
    znil : Sizes
    zcons : Size → Sizes → Sizes

-- written out as a term
unfoldable mutual
  pub as_nodes : Size → ℕ
  as_nodes zrow = 1
  as_nodes (zfields zs) = 1 + as_nodes_l zs
  as_nodes (zboth a b) = 1 + (as_nodes a + as_nodes b)
  as_nodes (znested m q h) = 1 + (q false + as_nodes (h false))
  as_nodes (zplain c) = c

  pub as_nodes_l : Sizes → ℕ
  as_nodes_l znil = 0
  as_nodes_l (zcons z zs) = as_nodes z + as_nodes_l zs

-- written out as a condition; b says whether "some" gives way here
unfoldable pub as_condition : Size → Bool → ℕ
as_condition zrow b = 2
as_condition (zfields zs) b = 1 + as_nodes (zfields zs)
as_condition (zboth x y) b = as_condition x b + as_condition y b
as_condition (znested m q h) b = pick (gives_way m b) (q b + as_condition (h b) b) (1 + as_nodes (znested m q h))
as_condition (zplain c) b = 1 + c

pub record Counted : Type 0 where
  pub count : ℕ
  pub end : Size

abbrev pub zero' : Size
zero' = zplain 1

abbrev pub never' : Counted
never' = record { count = 2; end = zero' }

-- written out as a generator's term
unfoldable pub as_range : Size → Bool → Counted
as_range zrow b = never'
as_range (zfields zs) b = never'
as_range (zboth x y) b = never'
as_range (znested m q h) b = record { count = q b; end = h b }
as_range (zplain c) b = never'

unfoldable pub size_at : ℕ → Sizes → Size
size_at i znil = zero'
size_at zero (zcons z zs) = z
size_at (suc i) (zcons z zs) = size_at i zs

unfoldable pub as_field : ℕ → Size → Size
as_field i zrow = zplain 2
as_field i (zfields zs) = size_at i zs
as_field i (zboth x y) = zero'
as_field i (znested m q h) = zero'
as_field i (zplain c) = zero'

abbrev pub zpair : Size → Size → Size
zpair a b = zplain (1 + (as_nodes a + as_nodes b))

unfoldable pub zbinary : Bin → Size → Size → Size
zbinary plus a b = zpair a b
zbinary minus a b = zpair a b
zbinary times a b = zpair a b
zbinary equal a b = zpair a b
zbinary less a b = zpair a b
zbinary and a b = zboth a b
zbinary or a b = zpair a b

unfoldable pub more : ℕ → Counted → Counted
more c s = record { count = c + s.count; end = s.end }

abbrev pub SizeEnv : Type 0
SizeEnv = ℕ → Size

unfoldable mutual
  pub measure : (ℕ → Collection) → Term → SizeEnv → Size
  measure K (num z) ζ = zplain 1
  measure K (truth b) ζ = zplain 1
  measure K (name x) ζ = ζ x
  measure K (field i t) ζ = as_field i (measure K t ζ)
  measure K (rec ts) ζ = zfields (measures K ts ζ)
  measure K (app f ts) ζ = zplain (1 + as_nodes_l (measures K ts ζ))
  measure K (bin o s t) ζ = zbinary o (measure K s ζ) (measure K t ζ)
  measure K (negate t) ζ = zplain (1 + as_nodes (measure K t ζ))
  measure K (comp m qs h) ζ = znested m (λ b. (tally K qs (b || idempotent m) (λ ξ. measure K h ξ) ζ).count) (λ b. (tally K qs (b || idempotent m) (λ ξ. measure K h ξ) ζ).end)
  measure K (table k) ζ = znested (of (K k)) (λ b. 2) (λ b. zrow)

  pub measures : (ℕ → Collection) → Terms → SizeEnv → Sizes
  measures K tnil ζ = znil
  measures K (tcons t ts) ζ = zcons (measure K t ζ) (measures K ts ζ)

  pub tally : (ℕ → Collection) → Quals → Bool → (SizeEnv → Size) → SizeEnv → Counted
  tally K qnil b h ζ = record { count = 0; end = h ζ }
  tally K (gen x t qs) b h ζ = let r = as_range (measure K t ζ) b in more r.count (tally K qs b h (upd x r.end ζ))
  tally K (bind x t qs) b h ζ = tally K qs b h (upd x (measure K t ζ) ζ)
  tally K (cond t qs) b h ζ = more (as_condition (measure K t ζ) b) (tally K qs b h ζ)

unfoldable pub normal_size : (ℕ → Collection) → Question → ℕ
normal_size K q = as_nodes (measure K (as_term q) (λ x. zrow))

-- "Sum of v8, v0 bound to 1 and each next to the last plus itself: 512 nodes, accepted; one more doubling, 27."
doubled : ℕ → Quals → Quals
doubled x q = bind (suc x) (bin plus (name x) (name x)) q

eight : Question
unfolding doubled
eight = record { monoid = sum; quals = bind 0 (num (pos 1)) (doubled 0 (doubled 1 (doubled 2 (doubled 3 (doubled 4 (doubled 5 (doubled 6 (doubled 7 qnil)))))))); head = name 8 }

eight-size : normal_size (λ k. bag) eight ≡ 512
unfolding normal_size measure as_nodes as_condition as_range as_field size_at zbinary more upd eight doubled
eight-size = refl

-- a size measures what a term comes to
unfoldable mutual
  Sized : Sem → Size → Type 0
  Sized (row g) z = z ≡ zrow
  Sized (fields ds) z = (zs : Sizes) × SizedL ds zs × (z ≡ zfields zs)
  Sized (both d e) z = (x : Size) × (y : Size) × Sized d x × Sized e y × (z ≡ zboth x y)
  Sized (nested m q h) z = (c : Bool → ℕ) × (e : Bool → Size) × ((b : Bool) (n : ℕ) → (nodes_c (q b n) ≡ c b) × Sized (h b n) (e b)) × (z ≡ znested m c e)
  Sized (plain f) z = (c : ℕ) × ((n : ℕ) → nodes (f n) ≡ c) × (z ≡ zplain c)

  SizedL : Sems → Sizes → Type 0
  SizedL snil zs = zs ≡ znil
  SizedL (scons d ds) zs = (x : Size) × (xs : Sizes) × Sized d x × SizedL ds xs × (zs ≡ zcons x xs)

append-nodes : (w q : Clauses) → nodes_c (w ⊕ q) ≡ nodes_c w + nodes_c q
unfolding nodes ◌⊕◌
append-nodes done q = omega arith
append-nodes (Nf.gen g k w) q = omega (arith, append-nodes w q)
append-nodes (Nf.cond t w) q = omega (arith, append-nodes w q)

mutual
  unfolding Sized quote nodes as_nodes

  quote-size : (d : Sem) (z : Size) → Sized d z → (n : ℕ) → nodes (quote d n) ≡ as_nodes z
  quote-size (row g) z s n = rw s
  quote-size (fields ds) z s n = rw s.2 (ap (λ a. 1 + a) (quotes-size ds s.0 s.1 n))
  quote-size (both d e) z s n = rw s.4 (ap₂ (λ a b. 1 + (a + b)) (quote-size d s.0 s.2 n) (quote-size e s.1 s.3 (n + gens (quote d n))))
  quote-size (nested m q h) z s n = rw s.3 (ap₂ (λ a b. 1 + (a + b)) (s.2 false n).0 (quote-size (h false n) (s.1 false) (s.2 false n).1 (n + gens_c (q false n))))
  quote-size (plain f) z s n = rw s.2 (s.1 n)

  quotes-size : (ds : Sems) (zs : Sizes) → SizedL ds zs → (n : ℕ) → nodes_f (quotes ds n) ≡ as_nodes_l zs
  quotes-size snil zs s n = rw s
  quotes-size (scons d ds) zs s n = rw s.4 (ap₂ (λ a b. a + b) (quote-size d s.0 s.2 n) (quotes-size ds s.1 s.3 (n + gens (quote d n))))

one_size : (t : Form) (c : ℕ) → nodes t ≡ c → nodes_c (one t) ≡ 1 + c
unfolding nodes
one_size t c e = omega arith

condition-size : (d : Sem) (z : Size) → Sized d z → (b : Bool) (n : ℕ) → nodes_c (condition d b n) ≡ as_condition z b
unfolding Sized condition as_condition quote nodes as_nodes pick
condition-size (row g) z s b n = rw s
condition-size (fields ds) z s b n = rw s.2 (one_size (quote (fields ds) n) (1 + as_nodes_l s.0) (ap (λ a. 1 + a) (quotes-size ds s.0 s.1 n)))
condition-size (both d e) z s b n =
    let w = condition d b n in
    rw s.4 (append-nodes w (condition e b (n + gens_c w)) ∙ ap₂ (λ x y. x + y) (condition-size d s.0 s.2 b n) (condition-size e s.1 s.3 b (n + gens_c w)))
condition-size (nested m q h) z s b n =
    let w = q b n in
    let c = s.0 b + as_condition (s.1 b) b in
    let e = 1 + as_nodes (znested m s.0 s.1) in
    let inner = append-nodes w (condition (h b n) b (n + gens_c w)) ∙ ap₂ (λ x y. x + y) (s.2 b n).0 (condition-size (h b n) (s.1 b) (s.2 b n).1 b (n + gens_c w)) in
    rw s.3 (condition-cases (λ v. nodes_c v ≡ pick (gives_way m b) c e) m q h b n
    (λ p. inner ∙ sym (ap (λ v. pick v c e) p))
    (λ p. one_size (quote (nested m q h) n) (as_nodes (znested m s.0 s.1)) (quote-size (nested m q h) (znested m s.0 s.1) (s.0, s.1, s.2, refl) n) ∙ sym (ap (λ v. pick v c e) p)))
condition-size (plain f) z s b n = rw s.2 (one_size (f n) s.0 (s.1 n))

abbrev SizedS : Splice → Counted → Type 0
SizedS s c = (nodes_c s.clauses ≡ c.count) × Sized s.head c.end

nothing-sized : Sized nothing zero'
unfolding Sized nodes
nothing-sized = (1, λ n. refl, refl)

never-sized : SizedS never never'
unfolding nodes
never-sized = (refl, nothing-sized)

ranges-size : (d : Sem) (z : Size) → Sized d z → (b : Bool) (n : ℕ) → SizedS (ranges d b n) (as_range z b)
unfolding Sized ranges as_range
ranges-size (row g) z s b n = rw s never-sized
ranges-size (fields ds) z s b n = rw s.2 never-sized
ranges-size (both d e) z s b n = rw s.4 never-sized
ranges-size (nested m q h) z s b n = rw s.3 (s.2 b n)
ranges-size (plain f) z s b n = rw s.2 never-sized

nth-size : (i : ℕ) (ds : Sems) (zs : Sizes) → SizedL ds zs → Sized (nth i ds) (size_at i zs)
unfolding Sized nth size_at
nth-size i snil zs s = rw s nothing-sized
nth-size zero (scons d ds) zs s = rw s.4 s.2
nth-size (suc i) (scons d ds) zs s = rw s.4 (nth-size i ds s.1 s.3)

part-size : (i : ℕ) (d : Sem) (z : Size) → Sized d z → Sized (part i d) (as_field i z)
unfolding Sized part as_field nodes
part-size i (row g) z s = rw s (2, λ n. refl, refl)
part-size i (fields ds) z s = rw s.2 (nth-size i ds s.0 s.1)
part-size i (both d e) z s = rw s.4 nothing-sized
part-size i (nested m q h) z s = rw s.3 nothing-sized
part-size i (plain f) z s = rw s.2 nothing-sized

pair_size : (o : Bin) (d e : Sem) (x y : Size) → Sized d x → Sized e y → Sized (pair o d e) (zpair x y)
unfolding Sized nodes
pair_size o d e x y s t = (1 + (as_nodes x + as_nodes y), λ n. ap₂ (λ a b. 1 + (a + b)) (quote-size d x s n) (quote-size e y t (n + gens (quote d n))), refl)

binary-size : (o : Bin) (d e : Sem) (x y : Size) → Sized d x → Sized e y → Sized (binary o d e) (zbinary o x y)
unfolding Sized binary zbinary
binary-size plus d e x y s t = pair_size plus d e x y s t
binary-size minus d e x y s t = pair_size minus d e x y s t
binary-size times d e x y s t = pair_size times d e x y s t
binary-size equal d e x y s t = pair_size equal d e x y s t
binary-size less d e x y s t = pair_size less d e x y s t
binary-size and d e x y s t = (x, y, s, t, refl)
binary-size or d e x y s t = pair_size or d e x y s t

abbrev SizedE : SemEnv → SizeEnv → Type 0
SizedE δ ζ = (x : ℕ) → Sized (δ x) (ζ x)

upd-sized : (x : ℕ) (d : Sem) (z : Size) (δ : SemEnv) (ζ : SizeEnv) → Sized d z → SizedE δ ζ → SizedE (upd x d δ) (upd x z ζ)
unfolding upd
upd-sized x d z δ ζ s e y = go (eqb x y) refl
  where
    go : (b : Bool) → eqb x y ≡ b → Sized (upd x d δ y) (upd x z ζ y)
    go true p = rw (p, upd) s
    go false p = rw (p, upd) (e y)

before-size : (w : Clauses) (n c : ℕ) (k : ℕ → Splice) (s : Counted) → nodes_c w ≡ c → SizedS (k (n + gens_c w)) s → SizedS (before w n k) (more c s)
unfolding before more
before-size w n c k s e p = (append-nodes w (k (n + gens_c w)).clauses ∙ ap₂ (λ x y. x + y) e p.0, p.1)

module _ (K : ℕ → Collection) where
  mutual
    unfolding norm measure Sized nodes

    norm-size : (t : Term) (δ : SemEnv) (ζ : SizeEnv) → SizedE δ ζ → Sized (norm K t δ) (measure K t ζ)
    norm-size (num z) δ ζ e = (1, λ n. refl, refl)
    norm-size (truth b) δ ζ e = (1, λ n. refl, refl)
    norm-size (name x) δ ζ e = e x
    norm-size (field i t) δ ζ e = part-size i (norm K t δ) (measure K t ζ) (norm-size t δ ζ e)
    norm-size (rec ts) δ ζ e = (measures K ts ζ, norms-size ts δ ζ e, refl)
    norm-size (app f ts) δ ζ e = (1 + as_nodes_l (measures K ts ζ), λ n. ap (λ a. 1 + a) (quotes-size (norms K ts δ) (measures K ts ζ) (norms-size ts δ ζ e) n), refl)
    norm-size (bin o s t) δ ζ e = binary-size o (norm K s δ) (norm K t δ) (measure K s ζ) (measure K t ζ) (norm-size s δ ζ e) (norm-size t δ ζ e)
    norm-size (negate t) δ ζ e = (1 + as_nodes (measure K t ζ), λ n. ap (λ a. 1 + a) (quote-size (norm K t δ) (measure K t ζ) (norm-size t δ ζ e) n), refl)
    norm-size (comp m qs h) δ ζ e = (
      λ b. (tally K qs (b || idempotent m) (λ ξ. measure K h ξ) ζ).count,
      λ b. (tally K qs (b || idempotent m) (λ ξ. measure K h ξ) ζ).end,
      λ b n. walk-size qs (b || idempotent m) (λ ε. norm K h ε) (λ ξ. measure K h ξ) (λ ε ξ f. norm-size h ε ξ f) δ ζ n e,
      refl,
    )
    norm-size (table k) δ ζ e = (λ b. 2, λ b. zrow, λ b n. (refl, refl), refl)

    norms-size : (ts : Terms) (δ : SemEnv) (ζ : SizeEnv) → SizedE δ ζ → SizedL (norms K ts δ) (measures K ts ζ)
    norms-size tnil δ ζ e = refl
    norms-size (tcons t ts) δ ζ e = (measure K t ζ, measures K ts ζ, norm-size t δ ζ e, norms-size ts δ ζ e, refl)

    walk-size : (qs : Quals) (b : Bool) (h : SemEnv → Sem) (g : SizeEnv → Size) → ((ε : SemEnv) (ξ : SizeEnv) → SizedE ε ξ → Sized (h ε) (g ξ)) → (δ : SemEnv) (ζ : SizeEnv) (n : ℕ) → SizedE δ ζ → SizedS (walk K qs b h δ n) (tally K qs b g ζ)
    walk-size qnil b h g r δ ζ n e = (refl, r δ ζ e)
    walk-size (gen x t qs) b h g r δ ζ n e =
        let u = ranges (norm K t δ) b n in
        let c = as_range (measure K t ζ) b in
        let p = ranges-size (norm K t δ) (measure K t ζ) (norm-size t δ ζ e) b n in
        before-size u.clauses n c.count (λ j. walk K qs b h (upd x u.head δ) j) (tally K qs b g (upd x c.end ζ)) p.0
        (walk-size qs b h g r (upd x u.head δ) (upd x c.end ζ) (n + gens_c u.clauses) (upd-sized x u.head c.end δ ζ p.1 e))
    walk-size (bind x t qs) b h g r δ ζ n e = walk-size qs b h g r (upd x (norm K t δ) δ) (upd x (measure K t ζ) ζ) n (upd-sized x (norm K t δ) (measure K t ζ) δ ζ (norm-size t δ ζ e) e)
    walk-size (cond t qs) b h g r δ ζ n e =
        let w = condition (norm K t δ) b n in
        before-size w n (as_condition (measure K t ζ) b) (λ j. walk K qs b h δ j) (tally K qs b g ζ) (condition-size (norm K t δ) (measure K t ζ) (norm-size t δ ζ e) b n)
        (walk-size qs b h g r δ ζ (n + gens_c w) e)

  -- "27: a normal form over 512 nodes, each term, comprehension and qualifier being one, copies counted": the count is right.
  pub normal-size : (q : Question) → nodes (as_form (normal K q)) ≡ normal_size K q
  unfolding normal_size Sized
  normal-size q = ap nodes (normal-is-quote K q) ∙ quote-size (norm K (as_term q) nowhere) (measure K (as_term q) (λ x. zrow)) (norm-size (as_term q) nowhere (λ x. zrow) (λ x. refl)) 0

  pub size_fits_lem : (q : Question) → size_fits (normal K q) ≡ leb (normal_size K q) 512
  unfolding size_fits
  size_fits_lem q = ap (λ c. leb c 512) (normal-size q)
