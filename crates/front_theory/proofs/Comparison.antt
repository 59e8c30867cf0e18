-- The one comparison behind Locality, StaticCounts, QuestionNodes and CappedOffsets: what two readings of a node table have in common, seen through
-- a view that need not tell all generator numbers apart.
use mathlib.Core.Path.{◌≡◌, refl, sym, ap, ap₂, subst, ◌∙◌}
use mathlib.Core.Bool.{Bool, true, false, not, ◌||◌}
use mathlib.Core.List.{List, [], ◌∷◌}
use Prim.Native.Nat.{ℕ, zero, suc, ◌+◌, ◌<◌, ◌≤◌}
use native.Mathlib.Omega.{arith}
use lib.Dec.{eqb, ltb, ltb→lt, eqb_refl, T_not}
use lib.Dec as De
use lib.IntN.{pos}
use Rattle.spec_calculus.specs.Lists.{pick, upd}
use Rattle.spec_calculus.specs.Syntax.{Collection, Monoid, of, Bin, plus, minus, times, equal, less, and, or, Fun}
use Rattle.spec_normal_form.specs.Form.{Form, Clauses, fcons, done, ◌⊕◌, gens, gens_c}
use Rattle.spec_normal_form.specs.Form as Nf
use Rattle.spec_normal_form.specs.Normal.{Sem, Sems, row, fields, both, nested, plain, snil, scons, nothing, quote, quotes, idempotent, gives_way, one, condition, ranges, nth, part, pair, binary, applied}
use Rattle.spec_normal_form.proofs.WriteOut.{condition-gives-way, condition-stays}
use Rattle.front_theory.specs.NodeTable.{Node, Nodes, nnum, ntruth, nname, nfield, nrec, nbin, nnegate, ncomp, ntable, ngen, nbind, ncond, nbad, Below, Inside, PostOrder}
use Rattle.front_theory.specs.NodeForms.{Env, enter, Offsets, At, bound_of, qual_of, clauses_of, sems_of, comp_of, levels, sem_of, sem_at}
use Rattle.front_theory.proofs.FormCounts.{Counts, counts, counts_c}
use Rattle.front_theory.proofs.Renumbering.{renumber, renumber_f, renumber_c, renumber-append, renumber-counts, renumber-counts_c}
use Rattle.front_theory.specs.NodeTable.{napp}

-- What is seen of a generator number, and of the flag of a copy.
pub record View : Type 0 where
  pub number : ℕ → ℕ
  pub flag : Bool → Bool
  pub more : (n j k : ℕ) → number n ≡ number j → number (n + k) ≡ number (j + k)
  pub joined : (b c x : Bool) → flag b ≡ flag c → flag (b || x) ≡ flag (c || x)

-- the view that tells flags apart, and numbers as ρ does
abbrev pub seen : (ρ : ℕ → ℕ) → ((n j k : ℕ) → ρ n ≡ ρ j → ρ (n + k) ≡ ρ (j + k)) → View
seen ρ more = record { number = ρ; flag = λ b. b; more = more; joined = λ b c x e. ap (λ a. a || x) e }

-- not told apart: numbers, forms, clauses
abbrev pub Close : View → ℕ → ℕ → Type 0
Close U n j = U.number n ≡ U.number j

abbrev pub SameForm : View → Form → Form → Type 0
SameForm U t u = renumber U.number t ≡ renumber U.number u

abbrev pub SameClauses : View → Clauses → Clauses → Type 0
SameClauses U w q = renumber_c U.number w ≡ renumber_c U.number q

-- What is written from numbers not told apart is not told apart. Clauses are compared at the same flag, heads at flags not
-- told apart: how many generators a head writes does not depend on the flag with which it was spliced.
unfoldable mutual
  pub Near : View → Sem → Sem → Type 0
  Near U (row g) y = (k : ℕ) × Close U g k × (y ≡ row k)
  Near U (fields ds) y = (es : Sems) × NearL U ds es × (y ≡ fields es)
  Near U (both a b) y = (c : Sem) × (d : Sem) × Near U a c × Near U b d × (y ≡ both c d)
  Near U (nested m q h) y = (r : Bool → ℕ → Clauses) × (k : Bool → ℕ → Sem) × ((b : Bool) (n j : ℕ) → Close U n j → SameClauses U (q b n) (r b j))
      × ((b c : Bool) (n j : ℕ) → U.flag b ≡ U.flag c → Close U n j → Near U (h b n) (k c j)) × (y ≡ nested m r k)
  Near U (plain f) y = (g : ℕ → Form) × ((n j : ℕ) → Close U n j → SameForm U (f n) (g j)) × (y ≡ plain g)

  pub NearL : View → Sems → Sems → Type 0
  NearL U snil es = es ≡ snil
  NearL U (scons d ds) es = (c : Sem) × (cs : Sems) × Near U d c × NearL U ds cs × (es ≡ scons c cs)

-- forms not told apart have as many generators, nodes and words
pub alike-counts : (U : View) (t u : Form) → SameForm U t u → counts t ≡ counts u
alike-counts U t u e = sym (renumber-counts U.number t) ∙ ap counts e ∙ renumber-counts U.number u

pub alike-counts_c : (U : View) (w q : Clauses) → SameClauses U w q → counts_c w ≡ counts_c q
alike-counts_c U w q e = sym (renumber-counts_c U.number w) ∙ ap counts_c e ∙ renumber-counts_c U.number q

module _ (U : View) where
  -- the numbers behind them are not told apart
  after : (n j : ℕ) (t u : Form) → Close U n j → SameForm U t u → Close U (n + gens t) (j + gens u)
  after n j t u c e = U.more n j (gens t) c ∙ ap (λ (a : Counts). U.number (j + a.generators)) (alike-counts U t u e)

  pub after_c : (n j : ℕ) (w q : Clauses) → Close U n j → SameClauses U w q → Close U (n + gens_c w) (j + gens_c q)
  after_c n j w q c e = U.more n j (gens_c w) c ∙ ap (λ (a : Counts). U.number (j + a.generators)) (alike-counts_c U w q e)

  pub append-near : (w q w' q' : Clauses) → SameClauses U w w' → SameClauses U q q' → SameClauses U (w ⊕ q) (w' ⊕ q')
  append-near w q w' q' a b = renumber-append U.number w q ∙ ap₂ (λ x y. x ⊕ y) a b ∙ sym (renumber-append U.number w' q')

  mutual
    unfolding Near quote renumber

    pub quote-near : (d y : Sem) → Near U d y → (n j : ℕ) → Close U n j → SameForm U (quote d n) (quote y j)
    quote-near (row g) y s n j c = rw s.2 (ap Nf.row s.1)
    quote-near (fields ds) y s n j c = rw s.2 (ap Nf.rec (quotes-near ds s.0 s.1 n j c))
    quote-near (both a b) y s n j c = let p = quote-near a s.0 s.2 n j c in
        rw s.4 (ap₂ (Nf.bin and) p (quote-near b s.1 s.3 (n + gens (quote a n)) (j + gens (quote s.0 j)) (after n j (quote a n) (quote s.0 j) c p)))
    quote-near (nested m q h) y s n j c = let p = s.2 false n j c in
        rw s.4 (ap₂ (Nf.comp m) p (quote-near (h false n) (s.1 false j) (s.3 false false n j refl c) (n + gens_c (q false n)) (j + gens_c (s.0 false j)) (after_c n j (q false n) (s.0 false j) c p)))
    quote-near (plain f) y s n j c = rw s.2 (s.1 n j c)

    quotes-near : (ds es : Sems) → NearL U ds es → (n j : ℕ) → Close U n j → renumber_f U.number (quotes ds n) ≡ renumber_f U.number (quotes es j)
    quotes-near snil es s n j c = rw s
    quotes-near (scons d ds) es s n j c = let p = quote-near d s.0 s.2 n j c in
        rw s.4 (ap₂ fcons p (quotes-near ds s.1 s.3 (n + gens (quote d n)) (j + gens (quote s.0 j)) (after n j (quote d n) (quote s.0 j) c p)))

  one-near : (t u : Form) → SameForm U t u → SameClauses U (one t) (one u)
  unfolding renumber
  one-near t u e = ap (λ x. Nf.cond x done) e

  -- the two ways in which a comprehension stands as a condition
  nested-condition : (m : Monoid) (q r : Bool → ℕ → Clauses) (h k : Bool → ℕ → Sem) (b : Bool) (n j : ℕ)
      → SameClauses U (q b n ⊕ condition (h b n) b (n + gens_c (q b n))) (r b j ⊕ condition (k b j) b (j + gens_c (r b j)))
      → SameClauses U (one (quote (nested m q h) n)) (one (quote (nested m r k) j))
      → SameClauses U (condition (nested m q h) b n) (condition (nested m r k) b j)
  nested-condition m q r h k b n j x y = go (gives_way m b) refl
    where
      go : (v : Bool) → gives_way m b ≡ v → SameClauses U (condition (nested m q h) b n) (condition (nested m r k) b j)
      go true p = ap (renumber_c U.number) (condition-gives-way m q h b n p) ∙ x ∙ sym (ap (renumber_c U.number) (condition-gives-way m r k b j p))
      go false p = ap (renumber_c U.number) (condition-stays m q h b n p) ∙ y ∙ sym (ap (renumber_c U.number) (condition-stays m r k b j p))

  pub condition-near : (d y : Sem) → Near U d y → (b : Bool) (n j : ℕ) → Close U n j → SameClauses U (condition d b n) (condition y b j)
  unfolding Near condition quote renumber
  condition-near (row g) y s b n j c = rw s.2 (one-near (Nf.row g) (Nf.row s.0) (ap Nf.row s.1))
  condition-near (fields ds) y s b n j c = rw s.2 (one-near (quote (fields ds) n) (quote (fields s.0) j) (quote-near (fields ds) (fields s.0) (s.0, s.1, refl) n j c))
  condition-near (both d e) y s b n j c =
      let p = condition-near d s.0 s.2 b n j c in
      let w = condition d b n in
      let w' = condition s.0 b j in
      rw s.4 (append-near w (condition e b (n + gens_c w)) w' (condition s.1 b (j + gens_c w')) p (condition-near e s.1 s.3 b (n + gens_c w) (j + gens_c w') (after_c n j w w' c p)))
  condition-near (nested m q h) y s b n j c =
      let p = s.2 b n j c in
      let w = q b n in
      let w' = s.0 b j in
      rw s.4 (nested-condition m q s.0 h s.1 b n j
      (append-near w (condition (h b n) b (n + gens_c w)) w' (condition (s.1 b j) b (j + gens_c w')) p (condition-near (h b n) (s.1 b j) (s.3 b b n j refl c) b (n + gens_c w) (j + gens_c w') (after_c n j w w' c p)))
      (one-near (quote (nested m q h) n) (quote (nested m s.0 s.1) j) (quote-near (nested m q h) (nested m s.0 s.1) (s.0, s.1, s.2, s.3, refl) n j c)))
  condition-near (plain f) y s b n j c = rw s.2 (one-near (f n) (s.0 j) (s.1 n j c))

  pub plain-near : (f g : ℕ → Form) → ((n j : ℕ) → Close U n j → SameForm U (f n) (g j)) → Near U (plain f) (plain g)
  unfolding Near
  plain-near f g e = (g, e, refl)

  pub nothing-near : Near U nothing nothing
  nothing-near = plain-near (λ n. Nf.num (pos 0)) (λ n. Nf.num (pos 0)) (λ n j c. refl)

  pub ranges-clauses : (d y : Sem) → Near U d y → (b : Bool) (n j : ℕ) → Close U n j → SameClauses U (ranges d b n).clauses (ranges y b j).clauses
  unfolding Near ranges
  ranges-clauses (row g) y s b n j c = rw s.2
  ranges-clauses (fields ds) y s b n j c = rw s.2
  ranges-clauses (both d e) y s b n j c = rw s.4
  ranges-clauses (nested m q h) y s b n j c = rw s.4 (s.2 b n j c)
  ranges-clauses (plain f) y s b n j c = rw s.2

  pub ranges-head : (d y : Sem) → Near U d y → (b c : Bool) (n j : ℕ) → U.flag b ≡ U.flag c → Close U n j → Near U (ranges d b n).head (ranges y c j).head
  unfolding Near ranges
  ranges-head (row g) y s b c n j v p = rw s.2 nothing-near
  ranges-head (fields ds) y s b c n j v p = rw s.2 nothing-near
  ranges-head (both d e) y s b c n j v p = rw s.4 nothing-near
  ranges-head (nested m q h) y s b c n j v p = rw s.4 (s.3 b c n j v p)
  ranges-head (plain f) y s b c n j v p = rw s.2 nothing-near

  nth_near : (i : ℕ) (ds es : Sems) → NearL U ds es → Near U (nth i ds) (nth i es)
  unfolding Near nth
  nth_near i snil es s = rw s nothing-near
  nth_near zero (scons d ds) es s = rw s.4 s.2
  nth_near (suc i) (scons d ds) es s = rw s.4 (nth_near i ds s.1 s.3)

  pub part-near : (i : ℕ) (d y : Sem) → Near U d y → Near U (part i d) (part i y)
  unfolding Near part renumber
  part-near i (row g) y s = rw s.2 (plain-near (λ n. Nf.cell i g) (λ n. Nf.cell i s.0) (λ n j c. ap (Nf.cell i) s.1))
  part-near i (fields ds) y s = rw s.2 (nth_near i ds s.0 s.1)
  part-near i (both a b) y s = rw s.4 nothing-near
  part-near i (nested m q h) y s = rw s.4 nothing-near
  part-near i (plain f) y s = rw s.2 nothing-near

  pair-near : (o : Bin) (a b c d : Sem) → Near U a c → Near U b d → Near U (pair o a b) (pair o c d)
  unfolding renumber
  pair-near o a b c d p q = plain-near (λ n. let s = quote a n in Nf.bin o s (quote b (n + gens s))) (λ n. let s = quote c n in Nf.bin o s (quote d (n + gens s)))
      (λ n j k. let e = quote-near a c p n j k in ap₂ (Nf.bin o) e (quote-near b d q (n + gens (quote a n)) (j + gens (quote c j)) (after n j (quote a n) (quote c j) k e)))

  pub binary-near : (o : Bin) (a b c d : Sem) → Near U a c → Near U b d → Near U (binary o a b) (binary o c d)
  unfolding binary Near
  binary-near plus a b c d p q = pair-near plus a b c d p q
  binary-near minus a b c d p q = pair-near minus a b c d p q
  binary-near times a b c d p q = pair-near times a b c d p q
  binary-near equal a b c d p q = pair-near equal a b c d p q
  binary-near less a b c d p q = pair-near less a b c d p q
  binary-near and a b c d p q = (c, d, p, q, refl)
  binary-near or a b c d p q = pair-near or a b c d p q

  pub negate-near : (a c : Sem) → Near U a c → Near U (plain (λ n. Nf.negate (quote a n))) (plain (λ n. Nf.negate (quote c n)))
  unfolding renumber
  negate-near a c p = plain-near (λ n. Nf.negate (quote a n)) (λ n. Nf.negate (quote c n)) (λ n j k. ap Nf.negate (quote-near a c p n j k))

  pub fields-near : (ds es : Sems) → NearL U ds es → Near U (fields ds) (fields es)
  unfolding Near
  fields-near ds es s = (es, s, refl)

  pub applied-near : (f : Fun) (ds es : Sems) → NearL U ds es → Near U (applied f ds) (applied f es)
  unfolding renumber
  applied-near f ds es s = plain-near (λ n. Nf.app f (quotes ds n)) (λ n. Nf.app f (quotes es n)) (λ n j c. ap (Nf.app f) (quotes-near ds es s n j c))

  pub nested-near : (m : Monoid) (q r : Bool → ℕ → Clauses) (h k : Bool → ℕ → Sem) → ((b : Bool) (n j : ℕ) → Close U n j → SameClauses U (q b n) (r b j))
      → ((b c : Bool) (n j : ℕ) → U.flag b ≡ U.flag c → Close U n j → Near U (h b n) (k c j)) → Near U (nested m q h) (nested m r k)
  unfolding Near
  nested-near m q r h k x y = (r, k, x, y, refl)

  pub table-near : (c : Collection) (k : ℕ) → Near U (nested (of c) (λ b n. Nf.gen n k done) (λ b n. row n)) (nested (of c) (λ b n. Nf.gen n k done) (λ b n. row n))
  unfolding Near renumber
  table-near c k = nested-near (of c) (λ b n. Nf.gen n k done) (λ b n. Nf.gen n k done) (λ b n. row n) (λ b n. row n) (λ b n j p. ap (λ g. Nf.gen g k done) p) (λ b c n j v p. (j, p, refl))

-- Environments whose entries below depth D are not told apart.
abbrev pub CloseE : View → ℕ → Env → Env → Type 0
CloseE U D e e' = (d : ℕ) → d < D → (U.flag (e d).flag ≡ U.flag (e' d).flag) × Close U (e d).base (e' d).base

close-enter : (U : View) (D n j : ℕ) (b c x : Bool) (e e' : Env) → U.flag b ≡ U.flag c → Close U n j → CloseE U D e e' → CloseE U (suc D) (enter D n (b || x) e) (enter D j (c || x) e')
unfolding upd
close-enter U D n j b c x e e' p q E d l = go (eqb D d) refl
  where
    no : eqb D d ≡ false → d ≡ D → ⊥
    no r s = T_not (eqb D d) (subst (λ a. De.T (not a)) (sym r) tt) (rw s (eqb_refl D))

    go : (a : Bool) → eqb D d ≡ a → (U.flag (enter D n (b || x) e d).flag ≡ U.flag (enter D j (c || x) e' d).flag) × Close U (enter D n (b || x) e d).base (enter D j (c || x) e' d).base
    go true r = rw (r, upd) (U.joined b c x p, q)
    go false r = rw (r, upd) (E d (omega (arith, l, no r)))

-- Offsets that give numbers not told apart.
abbrev pub CloseO : View → Offsets → Offsets → Type 0
CloseO U off off' = (x : ℕ) (b c : Bool) (n j : ℕ) → U.flag b ≡ U.flag c → Close U n j → Close U (off x b n) (off' x c j)

-- Two readings of the nodes before i that are not told apart.
abbrev pub NearA : View → ℕ → At → At → Type 0
NearA U i A B = (c : ℕ) → c < i → (D : ℕ) (e e' : Env) → CloseE U D e e' → Near U (A c D e) (B c D e')

near-less : (U : View) (i j : ℕ) (A B : At) → j ≤ i → NearA U i A B → NearA U j A B
near-less U i j A B l h c p = h c (omega (arith, l, p))

module _ (U : View) (off off' : Offsets) (O : CloseO U off off') where
  pub bound-near : (A B : At) (x d : ℕ) (e e' : Env) (y : Node) → NearA U x A B → CloseE U (suc d) e e' → Inside x y → Near U (bound_of off A x d e y) (bound_of off' B x d e' y)
  bound-near A B x d e e' (nbind c) h E p = h c p (suc d) e e' E
  bound-near A B x d e e' (ngen c) h E p =
      let f = E d (omega arith) in
      ranges-head U (A c (suc d) e) (B c (suc d) e') (h c p (suc d) e e' E) (e d).flag (e' d).flag (off x (e d).flag (e d).base) (off' x (e' d).flag (e' d).base) f.0
      (O x (e d).flag (e' d).flag (e d).base (e' d).base f.0 f.1)
  bound-near A B x d e e' (nnum z) h E p = nothing-near U
  bound-near A B x d e e' (ntruth b) h E p = nothing-near U
  bound-near A B x d e e' (nname y k) h E p = nothing-near U
  bound-near A B x d e e' (nfield i c) h E p = nothing-near U
  bound-near A B x d e e' (nrec cs) h E p = nothing-near U
  bound-near A B x d e e' (napp f cs) h E p = nothing-near U
  bound-near A B x d e e' (nbin o a b) h E p = nothing-near U
  bound-near A B x d e e' (nnegate c) h E p = nothing-near U
  bound-near A B x d e e' (ncomp m cs k) h E p = nothing-near U
  bound-near A B x d e e' (ntable k) h E p = nothing-near U
  bound-near A B x d e e' (ncond c) h E p = nothing-near U
  bound-near A B x d e e' nbad h E p = nothing-near U

module _ (U : View) where
  pub qual-near : (A B : At) (x D : ℕ) (e e' : Env) (v : Bool) (n j : ℕ) (y : Node) → NearA U x A B → CloseE U D e e' → Close U n j → Inside x y → SameClauses U (qual_of A D e v n y) (qual_of B D e' v j y)
  qual-near A B x D e e' v n j (ngen c) h E q p = ranges-clauses U (A c D e) (B c D e') (h c p D e e' E) v n j q
  qual-near A B x D e e' v n j (ncond c) h E q p = condition-near U (A c D e) (B c D e') (h c p D e e' E) v n j q
  qual-near A B x D e e' v n j (nbind c) h E q p = refl
  qual-near A B x D e e' v n j (nnum z) h E q p = refl
  qual-near A B x D e e' v n j (ntruth b) h E q p = refl
  qual-near A B x D e e' v n j (nname y k) h E q p = refl
  qual-near A B x D e e' v n j (nfield i c) h E q p = refl
  qual-near A B x D e e' v n j (nrec cs) h E q p = refl
  qual-near A B x D e e' v n j (napp f cs) h E q p = refl
  qual-near A B x D e e' v n j (nbin o a b) h E q p = refl
  qual-near A B x D e e' v n j (nnegate c) h E q p = refl
  qual-near A B x D e e' v n j (ncomp m cs k) h E q p = refl
  qual-near A B x D e e' v n j (ntable k) h E q p = refl
  qual-near A B x D e e' v n j nbad h E q p = refl

  sems-near : (A B : At) (i : ℕ) → NearA U i A B → (cs : List ℕ) → Below i cs → (D : ℕ) (e e' : Env) → CloseE U D e e' → NearL U (sems_of A cs D e) (sems_of B cs D e')
  unfolding sems_of Below Near
  sems-near A B i h [] b D e e' E = refl
  sems-near A B i h (c ∷ cs) b D e e' E = (B c D e', sems_of B cs D e', h c b.0 D e e' E, sems-near A B i h cs b.1 D e e' E, refl)

  pick-near : (b : Bool) (d y : Sem) → (De.T b → Near U d y) → Near U (pick b d nothing) (pick b y nothing)
  unfolding pick
  pick-near true d y s = s tt
  pick-near false d y s = nothing-near U

module _ (K : ℕ → Collection) (N : Nodes) (P : PostOrder N) (U : View) (off off' : Offsets) (O : CloseO U off off') where
  pub clauses-near : (A B : At) (i : ℕ) → NearA U i A B → (cs : List ℕ) → Below i cs → (D : ℕ) (e e' : Env) → CloseE U D e e' → (v : Bool) (n j : ℕ) → Close U n j → SameClauses U (clauses_of N A D e v n cs) (clauses_of N B D e' v j cs)
  unfolding clauses_of Below
  clauses-near A B i h [] b D e e' E v n j q = refl
  clauses-near A B i h (c ∷ cs) b D e e' E v n j q =
      let w = qual_of A D e v n (N c) in
      let w' = qual_of B D e' v j (N c) in
      let p = qual-near U A B c D e e' v n j (N c) (near-less U i c A B (omega (arith, b.0)) h) E q (P c) in
      append-near U w (clauses_of N A D e v (n + gens_c w) cs) w' (clauses_of N B D e' v (j + gens_c w') cs) p
      (clauses-near A B i h cs b.1 D e e' E v (n + gens_c w) (j + gens_c w') (after_c U n j w w' q p))

  comp-near : (A B : At) (i : ℕ) → NearA U i A B → (m : Monoid) (cs : List ℕ) (k : ℕ) → Below i cs → k < i → (D : ℕ) (e e' : Env) → CloseE U D e e' → Near U (comp_of N A m cs k D e) (comp_of N B m cs k D e')
  comp-near A B i h m cs k b l D e e' E =
      let x = idempotent m in
      nested-near U m (λ v n. clauses_of N A (suc D) (enter D n (v || x) e) (v || x) n cs) (λ v n. clauses_of N B (suc D) (enter D n (v || x) e') (v || x) n cs)
      (λ v n. A k (suc D) (enter D n (v || x) e)) (λ v n. B k (suc D) (enter D n (v || x) e'))
      (λ v n j q. clauses-near A B i h cs b (suc D) (enter D n (v || x) e) (enter D j (v || x) e') (close-enter U D n j v v x e e' refl q E) (v || x) n j q)
      (λ v u n j p q. h k l (suc D) (enter D n (v || x) e) (enter D j (u || x) e') (close-enter U D n j v u x e e' p q E))

  -- one node, where those before it are not told apart
  pub sem-near : (A B : At) (i : ℕ) → NearA U i A B → (y : Node) → Inside i y → (D : ℕ) (e e' : Env) → CloseE U D e e' → Near U (sem_of K N off A y D e) (sem_of K N off' B y D e')
  unfolding Near
  sem-near A B i h (nnum z) p D e e' E = plain-near U (λ n. Nf.num z) (λ n. Nf.num z) (λ n j q. refl)
  sem-near A B i h (ntruth b) p D e e' E = plain-near U (λ n. Nf.truth b) (λ n. Nf.truth b) (λ n j q. refl)
  sem-near A B i h (nname x d) p D e e' E = pick-near U (ltb d D) (bound_of off A x d e (N x)) (bound_of off' B x d e' (N x))
      (λ t. bound-near U off off' O A B x d e e' (N x) (near-less U i x A B (omega (arith, p)) h) (λ a l. E a (omega (arith, l, ltb→lt d D t))) (P x))
  sem-near A B i h (nfield k c) p D e e' E = part-near U k (A c D e) (B c D e') (h c p D e e' E)
  sem-near A B i h (nrec cs) p D e e' E = fields-near U (sems_of A cs D e) (sems_of B cs D e') (sems-near U A B i h cs p D e e' E)
  sem-near A B i h (napp f cs) p D e e' E = applied-near U f (sems_of A cs D e) (sems_of B cs D e') (sems-near U A B i h cs p D e e' E)
  sem-near A B i h (nbin o a b) p D e e' E = binary-near U o (A a D e) (A b D e) (B a D e') (B b D e') (h a p.0 D e e' E) (h b p.1 D e e' E)
  sem-near A B i h (nnegate c) p D e e' E = negate-near U (A c D e) (B c D e') (h c p D e e' E)
  sem-near A B i h (ncomp m cs k) p D e e' E = pick-near U (ltb D levels) (comp_of N A m cs k D e) (comp_of N B m cs k D e') (λ t. comp-near A B i h m cs k p.0 p.1 D e e' E)
  sem-near A B i h (ntable k) p D e e' E = table-near U (K k) k
  sem-near A B i h (ngen c) p D e e' E = nothing-near U
  sem-near A B i h (nbind c) p D e e' E = nothing-near U
  sem-near A B i h (ncond c) p D e e' E = nothing-near U
  sem-near A B i h nbad p D e e' E = nothing-near U

  -- What node i comes to, at any two fuels above i, under any two tables of offsets and in any two environments that give
  -- numbers not told apart, is not told apart.
  pub at-near : (f g i : ℕ) → i < f → i < g → (D : ℕ) (e e' : Env) → CloseE U D e e' → Near U (sem_at K N off f i D e) (sem_at K N off' g i D e')
  unfolding sem_at
  at-near zero g i l k D e e' E = absurd (omega (arith, l))
  at-near (suc f) zero i l k D e e' E = absurd (omega (arith, k))
  at-near (suc f) (suc g) i l k D e e' E =
      sem-near (λ j. sem_at K N off f j) (λ j. sem_at K N off' g j) i (λ c p. at-near f g c (omega (arith, l, p)) (omega (arith, k, p))) (N i) (P i) D e e' E
