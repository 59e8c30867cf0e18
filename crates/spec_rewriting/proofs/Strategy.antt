-- What has a type is led, from left to right and outermost first, to where no rule applies. Before a qualifier is looked at, the names that are bound from it
-- on are renamed apart. A binding is replaced (1); fields are taken of records (2) as far as that shows what a generator ranges over, what a condition is
-- or what a field is taken of; a generator over a comprehension gives way (5); one over a table keeps its place and takes the next number; an "and"
-- condition becomes two (4); a "some" condition gives way where it may (6); any other condition is led to its own end, and so is the head, behind the last
-- qualifier. A table that is met there becomes a comprehension (3). It ends because each rule makes the rest weigh less (proofs/Weights).
use mathlib.Core.Path.{◌≡◌, refl, sym, subst, fun_ext, ◌∙◌}
use mathlib.Core.Bool.{Bool, true, false, false≢true}
use mathlib.Core.Logic.{◌⊎◌, inl, inr}
use mathlib.Core.List.{List, [], ◌∷◌, ◌++◌, append_assoc}
use Prim.Native.Nat.{ℕ, zero, suc, ◌+◌, ◌≤◌, ◌<◌}
use native.Mathlib.Omega.{arith}
use lib.Dec.{eqb}
use lib.ListN.{length}
use Rattle.spec_calculus.specs.Lists.{upd}
use Rattle.spec_calculus.specs.Syntax.{Collection, Monoid, of, sum, max, min, some, all, Bin, plus, minus, times, equal, less, and, or, Fun, Term, Terms, Quals, num, name, field, rec, bin, negate, app, comp, table, tnil, tcons, qnil, gen, bind, cond}
use Rattle.spec_calculus.specs.Syntax as Sy
use Rattle.spec_calculus.specs.Value.{Tables, kind_of, columns_of}
use Rattle.spec_calculus.proofs.Lists.{upd_same, upd_other, upd-hit}
use Rattle.spec_checks.specs.Scope.{Scope, in_scope, binders, binders_q}
use Rattle.spec_checks.specs.Types.{Ty, Tys, has, truth, record', coll, cells, type_at, Context, may_stand}
use Rattle.spec_checks.proofs.Judgement.{operand, Takes, Has, HasL, HasQ, same-type}
use Rattle.spec_normal_form.specs.Form.{Form, Forms, Clauses, fnil, fcons, done, gens, gens_c}
use Rattle.spec_normal_form.specs.Form as Nf
use Rattle.spec_normal_form.specs.Normal.{idempotent, gives_way}
use Rattle.spec_normal_form.specs.Place.{put}
use Rattle.spec_normal_form.specs.Place as Pl
use Rattle.spec_normal_form.specs.Rules.{Rule, bound_name, bare_table, and_condition, flat_generator, some_condition, rename, ◌⊞◌, own_names, term_at, sub, sub_q, Fresh, only}
use Rattle.spec_normal_form.specs.NoRule.{term_of, terms_of, quals_of, NotAnd, Stays, NoRule, NoRuleL, NoRuleQ, behind, Ordered, OrderedF, OrderedC}
use Rattle.spec_normal_form.proofs.Substitution.{fresh-split}
use Rattle.spec_rewriting.specs.Steps.{by_rule, FirstQual, none, onwards}
use Rattle.spec_rewriting.proofs.Places.{◌⊟◌, by, Moves, then, by_names, by-rules, in_field, in-negate, in_left, in_right, in_head, in-rec, in_app, in-gen, in-cond}
use Rattle.spec_rewriting.proofs.Weights.{weigh, weigh_l, weigh_q, Weights, Less, less-upd, weigh-less, weigh_q-less, weigh-sub, weigh_q-sub, weigh-splice}
use Rattle.spec_rewriting.proofs.Types.{ext-upd, holds-upd, has-scope, has-ext, has_q-ext, has_sub, has_q-sub, has_q-append, has_q-moved, has_q-behind, may-stand-in, may-stand-anywhere}
use Rattle.spec_rewriting.proofs.Names.{Up, Under, up_split, under_more, fresh_up, below, below_in, below_out, Below, below_holds, below-upd, below_more, only_out, Rest, rest-scope, rest-renamed, rest-weight}
use Rattle.spec_rewriting.proofs.Renaming.{name-step, Wraps, one_more, behind-one, apart-term, apart-quals}
use Rattle.spec_rewriting.proofs.Records.{ones, Rows, record-coll, coll-number, coll-truth, result-scalar, row_number, has-at, weigh-at, Exposed, field_step, expose}

abbrev pub All : Scope → Type 0
All S = (y : ℕ) → S y ≡ true

all-upd : (S : Scope) (x : ℕ) → All S → All (upd x true S)
all-upd S x a y = go (eqb x y) refl
  where
    go : (c : Bool) → eqb x y ≡ c → upd x true S y ≡ true
    go true p = upd_same x true S y p
    go false p = upd_other x true S y p ∙ a y

upd-ones : (x : ℕ) → upd x 1 ones ≡ ones
upd-ones x = fun_ext (λ y. go y (eqb x y) refl)
  where
    go : (y : ℕ) (c : Bool) → eqb x y ≡ c → upd x 1 ones y ≡ 1
    go y true p = upd_same x 1 ones y p
    go y false p = upd_other x 1 ones y p

rows-upd : (Γ : Context) (x : ℕ) (σ : Ty) (n : ℕ) → σ ≡ record' (cells n) → Rows Γ → Rows (upd x (has σ) Γ)
rows-upd Γ x σ n e r y τ h = go (eqb x y) refl
  where
    go : (c : Bool) → eqb x y ≡ c → (j : ℕ) × (τ ≡ record' (cells j))
    go true p = (n, same-type σ τ (sym (upd_same x (has σ) Γ y p) ∙ h) ∙ e)
    go false p = r y τ (sym (upd_other x (has σ) Γ y p) ∙ h)

-- a number above all of them
over : List ℕ → ℕ
over [] = 0
over (x ∷ l) = suc (x + over l)

under-over : (n : ℕ) (l : List ℕ) → Under (n + over l) l
unfolding over
under-over n [] = tt
under-over n (x ∷ l) = (omega arith, under_more (n + over l) (n + over (x ∷ l)) l (omega arith) (under-over n l))

fresh-own : (S : Scope) (q : Quals) → Fresh S (binders_q q) → Fresh S (own_names q)
unfolding binders own_names
fresh-own S qnil c = tt
fresh-own S (gen x t q) c = let d = fresh-split S (binders t) (x ∷ binders_q q) c in (d.1.0, fresh-own S q d.1.1)
fresh-own S (bind x t q) c = let d = fresh-split S (binders t) (x ∷ binders_q q) c in (d.1.0, fresh-own S q d.1.1)
fresh-own S (cond t q) c = let d = fresh-split S (binders t) (binders_q q) c in fresh-own S q d.1

-- the names of a qualifier's term, its own, and those behind it
up-parts : (n : ℕ) (A : List ℕ) (a : ℕ) (B C : List ℕ) → Up n ((A ++ (a ∷ B)) ++ C) → Up n A × (a ≡ n + length A) × Up (suc a) (B ++ C)
up-parts n A a B C p = let s = up_split n A (a ∷ (B ++ C))
    (subst (λ l. Up n l) (append_assoc A (a ∷ B) C) p) in (s.0, s.1.0, subst (λ j. Up (suc j) (B ++ C)) (sym s.1.0) s.1.1)

-- a condition that stays, whatever becomes of its parts
abbrev pub Kept : Bool → Term → Type 0
Kept b (num z) = Unit {0}
Kept b (Sy.truth x) = Unit {0}
Kept b (name x) = Unit {0}
Kept b (field i t) = ⊥
Kept b (rec ts) = Unit {0}
Kept b (app f ts) = Unit {0}
Kept b (bin o s t) = NotAnd o
Kept b (negate t) = Unit {0}
Kept b (comp m q h) = gives_way m b ≡ false
Kept b (table k) = ⊥

is-and : (o : Bin) → (o ≡ and) ⊎ NotAnd o
is-and plus = inr tt
is-and minus = inr tt
is-and times = inr tt
is-and equal = inr tt
is-and less = inr tt
is-and and = inl refl
is-and or = inr tt

-- only "some" gives way, and only where repeats do not count
gives-way-some : (m : Monoid) (b : Bool) → gives_way m b ≡ true → (m ≡ some) × (b ≡ true)
unfolding gives_way
gives-way-some (of c) b e = absurd (false≢true e)
gives-way-some sum b e = absurd (false≢true e)
gives-way-some max b e = absurd (false≢true e)
gives-way-some min b e = absurd (false≢true e)
gives-way-some some b e = (refl, e)
gives-way-some all b e = absurd (false≢true e)

same-collection : (c d : Collection) (σ τ : Ty) → coll c σ ≡ coll d τ → (c ≡ d) × (σ ≡ τ)
same-collection c d σ τ e = (cc, cc)

no-rule_l-append : (q r : Terms) → NoRuleL q → NoRuleL r → NoRuleL (q ⊟ r)
unfolding NoRule ◌⊟◌
no-rule_l-append tnil r a b = b
no-rule_l-append (tcons t q) r a b = (a.0, no-rule_l-append q r a.1 b)

no-rule-append : (q r : Quals) (b : Bool) → NoRuleQ q b → NoRuleQ r b → NoRuleQ (q ⊞ r) b
unfolding NoRule ◌⊞◌
no-rule-append qnil r b x y = y
no-rule-append (gen z t q) r b x y = (x.0, no-rule-append q r b x.1 y)
no-rule-append (bind z t q) r b x y = absurd x
no-rule-append (cond t q) r b x y = (x.0, x.1, no-rule-append q r b x.2 y)

module _ (K : ℕ → Collection) (T : Tables) where
  -- a rule at the outermost place, its own qualifier being the first
  rule-step : (m : Monoid) (q r : Quals) (h k : Term) (a : Rule K (comp m q h) (comp m r k)) → FirstQual a → Moves K true true (comp m q h) (comp m r k)
  unfolding put
  rule-step m q r h k a f = onwards none (by Pl.hole a refl tt tt tt f)

  -- a form that t leads to, at its end, with its generators numbered from n on
  abbrev pub Got : Term → ℕ → Type 0
  Got t n = (f : Form) × Moves K true true t (term_of f) × NoRule (term_of f) × ((S : Scope) → All S → Ordered f S n) ×
      ((b : Bool) → Kept b t → Stays b (term_of f))

  abbrev GotL : Terms → ℕ → Type 0
  GotL ts n = (fs : Forms) ×
      ((wrap : Terms → Term) → Wraps K T true true wrap → (q : Terms) → NoRuleL q → Moves K true true (wrap (q ⊟ ts)) (wrap (q ⊟ terms_of fs))) × NoRuleL
      (terms_of fs) × ((S : Scope) → All S → OrderedF fs S n)

  -- the rest of a comprehension of m, behind any qualifiers
  abbrev pub GotQ : Monoid → Quals → Term → ℕ → Type 0
  GotQ m q h n = (w : Clauses) × (g : Form) ×
      ((q₁ : Quals) → NoRuleQ q₁ (idempotent m) → Moves K true true (comp m (q₁ ⊞ q) h) (comp m (q₁ ⊞ quals_of w) (term_of g))) × NoRuleQ (quals_of w)
      (idempotent m) × NoRule (term_of g)
      × ((S : Scope) → All S → OrderedC w S n × Ordered g (behind w S) (n + gens_c w))

  -- what weighs less than N gets there
  abbrev pub ReachT : ℕ → Type 0
  ReachT N = (t : Term) (n : ℕ) (Γ : Context) (τ : Ty) → weigh t ones < N → Has T Γ t τ → Rows Γ → Below Γ n → Got t n

  abbrev pub ReachQ : ℕ → Type 0
  ReachQ N = (m : Monoid) (q : Quals) (h : Term) (n : ℕ) (Γ : Context) (σ : Ty) → weigh_q q (λ μ. weigh h μ) ones < N → Rest T m Γ σ q h → Rows Γ → Below Γ n
      → GotQ m q h n

  reach-terms : (N : ℕ) → ReachT N → (ts : Terms) (n : ℕ) (Γ : Context) (us : Tys) → weigh_l ts ones ≤ N → HasL T Γ ts us → Rows Γ → Below Γ n → GotL ts n
  unfolding weigh term_of NoRule Ordered ◌⊟◌
  reach-terms N f tnil n Γ us w a r b = (fnil, λ wrap c q d. none, tt, λ S z. tt)
  reach-terms N f (tcons t ts) n Γ us w a r b =
      let x = f t n Γ a.0 (omega (arith, w)) a.2 r b in
      let j = n + gens x.0 in
      let y = reach-terms N f ts j Γ a.1 (omega (arith, w)) a.3 r (below_more Γ n j b (omega arith)) in (
        fcons x.0 y.0,
        λ wrap c q d. then (c q ts t (term_of x.0) (λ e. d) x.1)
            (one_more K T true true wrap q (term_of x.0) ts (terms_of y.0)
            (y.1 wrap c (q ⊟ tcons (term_of x.0) tnil) (no-rule_l-append q (tcons (term_of x.0) tnil) d (x.2, tt)))),
        (x.2, y.2),
        λ S z. (x.3 S z, y.3 S z),
      )

  -- a field of a term that has been led to a record or to a name
  reach-field : (N : ℕ) → ReachT N → (i : ℕ) (t : Term) (n : ℕ) (Γ : Context) (τ : Ty) (us : Tys) → weigh t ones < N → type_at i us ≡ has τ → Rows Γ → Below Γ n
      → (u : Term) → Moves K true false t u → weigh u ones ≤ weigh t ones → (r : Rows Γ) → Exposed K T Γ r us u → Got (field i t) n
  unfolding weigh term_of NoRule Ordered
  reach-field N f i t n Γ τ us w e r b u l v r₁ (inl (ts, p, a)) =
      let y = weigh-at K T Γ r i ts us a τ e ones in
      let z : weigh (rec ts) ones ≤ weigh t ones = subst (λ k. weigh k ones ≤ weigh t ones) p v in
      let g = f (term_at i ts) n Γ τ (omega (arith, y, z, w)) (has-at K T Γ r i ts us a τ e) r b in
      (g.0, then (then (by-rules (in_field i (subst (λ k. Moves K true false t k) p l))) (field_step K T Γ r true i ts)) g.1, g.2, g.3, λ c k. absurd k)
  reach-field N f i t n Γ τ us w e r b u l v r₁ (inr (x, p, a)) =
      (Nf.cell i x, by-rules (in_field i (subst (λ k. Moves K true false t k) p l)), (tt, tt), λ S z. z x, λ c k. absurd k)

  reach-term : (N : ℕ) → ReachT N → ReachQ N → ReachT (suc N)
  unfolding weigh term_of NoRule Ordered behind put ◌⊞◌ ◌⊟◌ gens
  reach-term N f g (num z) n Γ τ w a r b = (Nf.num z, none, tt, λ S y. tt, λ c k. tt)
  reach-term N f g (Sy.truth x) n Γ τ w a r b = (Nf.truth x, none, tt, λ S y. tt, λ c k. tt)
  reach-term N f g (name x) n Γ τ w a r b = (Nf.row x, none, tt, λ S y. y x, λ c k. tt)
  reach-term N f g (field i t) n Γ τ w a r b =
      let s = expose K T Γ r N t a.0 (omega (arith, w)) a.1 in
      reach-field N f i t n Γ τ a.0 (omega (arith, w)) a.2 r b s.0 s.1 s.2 r s.3
  reach-term N f g (rec ts) n Γ τ w a r b =
      let x = reach-terms N f ts n Γ a.0 (omega (arith, w)) a.1 r b in
      (Nf.rec x.0, x.1 rec (λ q z t u d l. in-rec q z d l) tnil tt, x.2, x.3, λ c k. tt)
  reach-term N f g (app h ts) n Γ τ w a r b =
      let x = reach-terms N f ts n Γ a.0 (omega (arith, w)) a.1 r b in
      (Nf.app h x.0, x.1 (app h) (λ q z t u d l. in_app h q z d l) tnil tt, x.2, x.3, λ c k. tt)
  reach-term N f g (bin o s t) n Γ τ w a r b =
      let x = f s n Γ _ (omega (arith, w)) a.0 r b in
      let j = n + gens x.0 in
      let y = f t j Γ _ (omega (arith, w)) a.1 r (below_more Γ n j b (omega arith)) in
      (Nf.bin o x.0 y.0, then (in_left o t x.1) (in_right o (term_of x.0) (λ e. x.2) y.1), (x.2, y.2), λ S z. (x.3 S z, y.3 S z), λ c k. k)
  reach-term N f g (negate t) n Γ τ w a r b =
      let x = f t n Γ _ (omega (arith, w)) a.0 r b in
      (Nf.negate x.0, in-negate x.1, x.2, x.3, λ c k. tt)
  reach-term N f g (comp m q h) n Γ τ w a r b =
      let x = g m q h n Γ a.1 (omega (arith, w)) (a.0, a.2, a.3) r b in
      (Nf.comp m x.0 x.1, x.2 qnil tt, (x.3, x.4), x.5, λ c k. k)
  reach-term N f g (table k) n Γ τ w a r b = (
    Nf.comp (of (K k)) (Nf.gen n k done) (Nf.row n),
    onwards none (by Pl.hole (bare_table k n) refl refl refl tt tt),
    ((tt, tt), tt),
    λ S y. ((refl, tt), upd-hit n true S),
    λ c e. absurd e,
  )

  -- what a rest whose names are apart gets to: from M on, above n
  abbrev ReachR : ℕ → Quals → Term → Type 0
  ReachR N q h = (m : Monoid) (n : ℕ) (Γ : Context) (σ : Ty) (M : ℕ) → n < M → Up M (binders_q q ++ binders h) → weigh_q q (λ μ. weigh h μ) ones < suc N
      → Rest T m Γ σ q h → Rows Γ → Below Γ n → GotQ m q h n

  -- a generator over a table takes the next number
  reach-table : (N : ℕ) → ReachQ N → (x k : ℕ) (q : Quals) (h : Term) → ReachR N (gen x (table k) q) h
  unfolding binders weigh term_of NoRule Ordered behind gens ◌⊞◌
  reach-table N g x k q h m n Γ σ M l up w a r b =
      let τ = a.1.1 in
      let rest : Rest T m (upd x (has τ) Γ) σ q h = (a.0, a.1.4, a.2) in
      let p = up-parts M [] x (binders_q q) (binders h) up in
      let px = p.1 in
      let e = fresh_up (only x n) (suc x) (binders_q q ++ binders h) (only_out x n (suc x) (omega arith) (omega (arith, l, px))) p.2 in
      let q' = sub_q x (name n) q in
      let h' = sub x (name n) h in
      let i = rest-renamed T m Γ n b x n (omega arith) τ σ q h e rest in
      let z : weigh_q q' (λ μ. weigh h' μ) ones ≤ weigh_q q (λ μ. weigh h μ) (upd x 1 ones) =
      subst (λ ρ. weigh_q q' (λ μ. weigh h' μ) ρ ≤ weigh_q q (λ μ. weigh h μ) (upd x 1 ones)) (upd-ones n)
      (rest-weight T m Γ n b x n (omega arith) τ σ q h e rest 1 1 (omega arith) ones) in
      let row = (same-collection a.1.0 (kind_of T k) τ (record' (cells (columns_of T k))) a.1.2.1).1 in
      let o = g m q' h' (suc n) (upd n (has τ) Γ) σ (omega (arith, w, z)) i (rows-upd Γ n τ (columns_of T k) row r)
      (below-upd Γ n (suc n) n (has τ) b (omega arith) (omega arith)) in
      let reads = rest-scope T m (upd x (has τ) Γ) σ q h rest (upd x true (below n)) (holds-upd Γ (below n) x τ (below_holds Γ n b)) in (
        Nf.gen n k o.0,
        o.1,
        λ q₁ ended. then (name-step K T m (q₁ ⊞ gen x (table k) q) (q₁ ⊞ gen n (table k) q') h h'
            (by_rule (rename (below n) m q₁ x n (table k) q h (below_out n n (omega arith)) reads e)) refl)
            (behind-one K T true true m q₁ (gen n (table k) qnil) q' (quals_of o.0) h' (term_of o.1)
            (o.2 (q₁ ⊞ gen n (table k) qnil) (no-rule-append q₁ (gen n (table k) qnil) (idempotent m) ended (tt, tt)))),
        (tt, o.3),
        o.4,
        λ S y. let s = o.5 (upd n true S) (all-upd S n y) in ((refl, s.0), subst (λ j. Ordered o.1 (behind o.0 (upd n true S)) j) (omega arith) s.1),
      )

  -- (5)
  reach-inner : (N : ℕ) → ReachQ N → (x : ℕ) (d : Collection) (q₂ : Quals) (t : Term) (q : Quals) (h : Term) → ReachR N (gen x (comp (of d) q₂ t) q) h
  unfolding binders weigh
  reach-inner N g x d q₂ t q h m n Γ σ M l up w a r b =
      let τ = a.1.1 in
      let u = a.1.2 in
      let υ = u.1 in
      let Δ = u.0 in
      let S = below M in
      let same = same-collection a.1.0 d τ υ u.4 in
      let p = up-parts M (binders_q q₂ ++ binders t) x (binders_q q) (binders h) up in
      let own = fresh-own S q₂ (fresh_up S M (binders_q q₂) (λ y i. below_out M y i) (up_split M (binders_q q₂) (binders t) p.0).0) in
      let rest : Rest T m (upd x (has υ) Γ) σ q h = (a.0, subst (λ s. HasQ T m (upd x (has s) Γ) q a.0) same.1 a.1.4, a.2) in
      let reads = rest-scope T m (upd x (has υ) Γ) σ q h rest (upd x true S) (holds-upd Γ S x υ (below_holds Γ M (below_more Γ n M b (omega (arith, l))))) in
      let may : may_stand d m ≡ true = subst (λ c. may_stand c m ≡ true) same.0 a.1.3 in
      let moved = has_q-moved T (of d) m (λ c i. may-stand-in c d m may i) q₂ Γ Δ u.2 in
      let z = has_q-ext T q m (λ R. in_scope h R) (upd x true S) reads (upd x (has υ) Γ) (upd x (has υ) Δ)
      (ext-upd S x (has υ) Γ Δ (has_q-behind T q₂ m S own Γ Γ Δ (λ y s v i. i) moved)) a.0 rest.1 in
      let new : Rest T m Γ σ (q₂ ⊞ bind x t q) h =
      (z.0, has_q-append T q₂ (bind x t q) m Γ Δ z.0 moved (υ, u.3, z.1), has-ext T h z.2 z.3 a.0 z.0 z.4 σ a.2) in
      let L = weigh_q q₂ (λ μ. weigh t μ) ones in
      let more : (ρ ν : Weights) → Less (upd x true S) ρ ν → weigh_q q (λ μ. weigh h μ) ρ ≤ weigh_q q (λ μ. weigh h μ) ν =
      λ ρ ν e. weigh_q-less q (λ R. in_scope h R) (upd x true S) reads (λ μ. weigh h μ) (λ μ. weigh h μ) (λ R i μ κ f. weigh-less h R i μ κ f) ρ ν e in
      let F = suc (weigh_q q (λ μ. weigh h μ) (upd x L ones)) in
      let s = weigh-splice q₂ S own (bind x t q) (λ μ. weigh h μ) (λ μ. weigh t μ) L F ones
      (λ ε e i. let y = more (upd x (weigh t ε) ε) (upd x L ones) (less-upd S x (weigh t ε) L ε ones i e) in omega (arith, y)) ones (λ y i. omega arith)
      (omega arith) in
      let y = more (upd x L ones) (upd x (suc L) ones) (less-upd S x L (suc L) ones ones (omega arith) (λ z i. omega arith)) in
      let o = g m (q₂ ⊞ bind x t q) h n Γ σ (omega (arith, w, s, y)) new r b in (
        o.0,
        o.1,
        λ q₁ ended. then
            (rule-step m (q₁ ⊞ gen x (comp (of d) q₂ t) q) (q₁ ⊞ (q₂ ⊞ bind x t q)) h h (flat_generator S m q₁ x d q₂ t q h may own reads) ended)
            (o.2 q₁ ended),
        o.3,
        o.4,
        o.5,
      )

  -- (2) shows what a generator ranges over
  reach-gen-field : (N : ℕ) → ReachQ N → (x i : ℕ) (t : Term) (q : Quals) (h : Term) → ReachR N (gen x (field i t) q) h
  unfolding binders weigh
  reach-gen-field N g x i t q h m n Γ σ M l up w a r b =
      let u = a.1.2 in
      let s = expose K T Γ r N t u.0 (omega (arith, w)) u.1 in
      go s.0 s.1 s.2 s.3
    where
      go : (v : Term) → Moves K true false t v → weigh v ones ≤ weigh t ones → Exposed K T Γ r a.1.2.0 v → GotQ m (gen x (field i t) q) h n
      go v j e (inl (ts, p, c)) =
          let τ = a.1.1 in
          let S = below n in
          let us = a.1.2.0 in
          let rest : Rest T m (upd x (has τ) Γ) σ q h = (a.0, a.1.4, a.2) in
          let reads = rest-scope T m (upd x (has τ) Γ) σ q h rest (upd x true S) (holds-upd Γ S x τ (below_holds Γ n b)) in
          let A = weigh (term_at i ts) ones in
          let y = weigh-at K T Γ r i ts us c (coll a.1.0 τ) a.1.2.2 ones in
          let z : weigh (rec ts) ones ≤ weigh t ones = subst (λ k. weigh k ones ≤ weigh t ones) p e in
          let f = weigh_q-less q (λ R. in_scope h R) (upd x true S) reads (λ μ. weigh h μ) (λ μ. weigh h μ) (λ R k μ κ d. weigh-less h R k μ κ d) (upd x A ones)
          (upd x (suc (weigh t ones)) ones)
          (less-upd S x A (suc (weigh t ones)) ones ones (omega (arith, y, z)) (λ k d. omega arith)) in
          let o = g m (gen x (term_at i ts) q) h n Γ σ (omega (arith, w, y, z, f))
          (a.0, (a.1.0, τ, has-at K T Γ r i ts us c (coll a.1.0 τ) a.1.2.2, a.1.3, a.1.4), a.2) r b in (
            o.0,
            o.1,
            λ q₁ ended. then
                (in-gen m q₁ (λ k. ended) x q h (then (in_field i (subst (λ k. Moves K true false t k) p j)) (field_step K T Γ r false i ts))) (o.2 q₁ ended),
            o.3,
            o.4,
            o.5,
          )
      go v j e (inr (y, p, c)) = coll-number a.1.0 a.1.1 (row_number Γ r y a.1.2.0 c i (coll a.1.0 a.1.1) a.1.2.2)

  -- (1)
  reach-bound : (N : ℕ) → ReachQ N → (x : ℕ) (s : Term) (q : Quals) (h : Term) → ReachR N (bind x s q) h
  unfolding binders weigh
  reach-bound N g x s q h m n Γ σ M l up w a r b =
      let τ = a.1.0 in
      let p = up-parts M (binders s) x (binders_q q) (binders h) up in
      let px = p.1 in
      let S = below (suc x) in
      let sx = below_in (suc x) x (omega arith) in
      let us = has-scope T s Γ τ a.1.1 S (below_holds Γ (suc x) (below_more Γ n (suc x) b (omega (arith, l, px)))) in
      let c = fresh_up S (suc x) (binders_q q ++ binders h) (λ y i. below_out (suc x) y i) p.2 in
      let d = fresh-split S (binders_q q) (binders h) c in
      let z = has_q-sub T S x sx s us q m d.0 Γ (upd x (has τ) Γ)
      (λ y υ e i. sym (upd_other x (has τ) Γ y e) ∙ i, λ υ i. subst (λ k. Has T Γ s k) (sym (same-type τ υ (sym (upd-hit x (has τ) Γ) ∙ i))) a.1.1)
      a.0 a.1.2 in
      let new : Rest T m Γ σ (sub_q x s q) (sub x s h) = (z.0, z.1, has_sub T S x sx s us h d.1 z.0 a.0 z.2 σ a.2) in
      let y = weigh_q-sub S x sx s us q d.0 (λ μ. weigh (sub x s h) μ) (λ μ. weigh h μ) (λ μ ν j. weigh-sub S x sx s us h d.1 μ ν j) ones
      (upd x (weigh s ones) ones) (
        λ k e. subst (λ i. 1 ≤ i) (sym (upd_other x (weigh s ones) ones k e)) (omega arith),
        subst (λ i. weigh s ones ≤ i) (sym (upd-hit x (weigh s ones) ones)) (omega arith),
      ) in
      let o = g m (sub_q x s q) (sub x s h) n Γ σ (omega (arith, w, y)) new r b in (
        o.0,
        o.1,
        λ q₁ ended. then (rule-step m (q₁ ⊞ bind x s q) (q₁ ⊞ sub_q x s q) h (sub x s h) (bound_name S m q₁ x s q h sx us c) ended) (o.2 q₁ ended),
        o.3,
        o.4,
        o.5,
      )

  -- a condition that stays
  reach-kept : (N : ℕ) → ReachT N → ReachQ N → (t : Term) (q : Quals) (h : Term) (m : Monoid) (n : ℕ) (Γ : Context) (σ : Ty) → Kept (idempotent m) t
      → weigh_q (cond t q) (λ μ. weigh h μ) ones < suc N → Rest T m Γ σ (cond t q) h → Rows Γ → Below Γ n → GotQ m (cond t q) h n
  unfolding weigh term_of NoRule Ordered behind gens ◌⊞◌
  reach-kept N f g t q h m n Γ σ k w a r b =
      let x = f t n Γ truth (omega (arith, w)) a.1.0 r b in
      let j = n + gens x.0 in
      let y = g m q h j Γ σ (omega (arith, w)) (a.0, a.1.1, a.2) r (below_more Γ n j b (omega arith)) in (
        Nf.cond x.0 y.0,
        y.1,
        λ q₁ ended. then (in-cond m q₁ (λ k. ended) q h x.1)
            (behind-one K T true true m q₁ (cond (term_of x.0) qnil) q (quals_of y.0) h (term_of y.1)
            (y.2 (q₁ ⊞ cond (term_of x.0) qnil) (no-rule-append q₁ (cond (term_of x.0) qnil) (idempotent m) ended (x.4 (idempotent m) k, x.2, tt)))),
        (x.4 (idempotent m) k, x.2, y.3),
        y.4,
        λ S z. let s = y.5 S z in ((x.3 S z, s.0), subst (λ i. Ordered y.1 (behind y.0 S) i) (omega arith) s.1),
      )

  -- (4)
  reach-and : (N : ℕ) → ReachQ N → (s t : Term) (q : Quals) (h : Term) → ReachR N (cond (bin and s t) q) h
  unfolding weigh operand
  reach-and N g s t q h m n Γ σ M l up w a r b =
      let o = g m (cond s (cond t q)) h n Γ σ (omega (arith, w)) (a.0, (a.1.0.0, (a.1.0.1, a.1.1)), a.2) r b in (
        o.0,
        o.1,
        λ q₁ ended. then (rule-step m (q₁ ⊞ cond (bin and s t) q) (q₁ ⊞ cond s (cond t q)) h h (and_condition m q₁ s t q h) ended) (o.2 q₁ ended),
        o.3,
        o.4,
        o.5,
      )

  -- (6)
  reach-some : (N : ℕ) → ReachQ N → (q₂ : Quals) (t : Term) (q : Quals) (h : Term) (m : Monoid) → idempotent m ≡ true → (n : ℕ) (Γ : Context) (σ : Ty) (M : ℕ)
      → n < M → Up M (binders_q (cond (comp some q₂ t) q) ++ binders h)
      → weigh_q (cond (comp some q₂ t) q) (λ μ. weigh h μ) ones < suc N → Rest T m Γ σ (cond (comp some q₂ t) q) h → Rows Γ → Below Γ n
      → GotQ m (cond (comp some q₂ t) q) h n
  unfolding binders weigh
  reach-some N g q₂ t q h m idem n Γ σ M l up w a r b =
      let u = a.1.0 in
      let Δ = u.0 in
      let S = below M in
      let p = up_split M (binders_q q₂ ++ binders t) (binders_q q) (up_split M ((binders_q q₂ ++ binders t) ++ binders_q q) (binders h) up).0 in
      let own = fresh-own S q₂ (fresh_up S M (binders_q q₂) (λ y i. below_out M y i) (up_split M (binders_q q₂) (binders t) p.0).0) in
      let rest : Rest T m Γ σ q h = (a.0, a.1.1, a.2) in
      let reads = rest-scope T m Γ σ q h rest S (below_holds Γ M (below_more Γ n M b (omega (arith, l)))) in
      let moved = has_q-moved T some m (λ c i. may-stand-anywhere c m idem) q₂ Γ Δ u.2 in
      let z = has_q-ext T q m (λ R. in_scope h R) S reads Γ Δ (has_q-behind T q₂ m S own Γ Γ Δ (λ y s v i. i) moved) a.0 a.1.1 in
      let new : Rest T m Γ σ (q₂ ⊞ cond t q) h = (
        z.0,
        has_q-append T q₂ (cond t q) m Γ Δ z.0 moved (subst (λ s. Has T Δ t s) u.4.0 u.3, z.1),
        has-ext T h z.2 z.3 a.0 z.0 z.4 σ a.2,
      ) in
      let L = weigh_q q₂ (λ μ. weigh t μ) ones in
      let F = suc (weigh_q q (λ μ. weigh h μ) ones) in
      let s = weigh-splice q₂ S own (cond t q) (λ μ. weigh h μ) (λ μ. weigh t μ) L F ones
      (λ ε e i. let y = weigh_q-less q (λ R. in_scope h R) S reads (λ μ. weigh h μ) (λ μ. weigh h μ) (λ R d μ κ c. weigh-less h R d μ κ c) ε ones e in omega
      (arith, y)) ones (λ y i. omega arith) (omega arith) in
      let o = g m (q₂ ⊞ cond t q) h n Γ σ (omega (arith, w, s)) new r b in (
        o.0,
        o.1,
        λ q₁ ended. then
            (rule-step m (q₁ ⊞ cond (comp some q₂ t) q) (q₁ ⊞ (q₂ ⊞ cond t q)) h h (some_condition S m q₁ q₂ t q h idem own reads) ended) (o.2 q₁ ended),
        o.3,
        o.4,
        o.5,
      )

  -- (2) shows what a condition is
  reach-cond-field : (N : ℕ) → ReachQ N → (i : ℕ) (t : Term) (q : Quals) (h : Term) → ReachR N (cond (field i t) q) h
  unfolding weigh term_of NoRule Ordered behind gens ◌⊞◌
  reach-cond-field N g i t q h m n Γ σ M l up w a r b =
      let u = a.1.0 in
      let s = expose K T Γ r N t u.0 (omega (arith, w)) u.1 in
      go s.0 s.1 s.2 s.3
    where
      go : (v : Term) → Moves K true false t v → weigh v ones ≤ weigh t ones → Exposed K T Γ r a.1.0.0 v → GotQ m (cond (field i t) q) h n
      go v j e (inl (ts, p, c)) =
          let us = a.1.0.0 in
          let y = weigh-at K T Γ r i ts us c truth a.1.0.2 ones in
          let z : weigh (rec ts) ones ≤ weigh t ones = subst (λ k. weigh k ones ≤ weigh t ones) p e in
          let o = g m (cond (term_at i ts) q) h n Γ σ (omega (arith, w, y, z)) (a.0, (has-at K T Γ r i ts us c truth a.1.0.2, a.1.1), a.2) r b in (
            o.0,
            o.1,
            λ q₁ ended. then
                (in-cond m q₁ (λ k. ended) q h (then (by-rules (in_field i (subst (λ k. Moves K true false t k) p j))) (field_step K T Γ r true i ts)))
                (o.2 q₁ ended),
            o.3,
            o.4,
            o.5,
          )
      go v j e (inr (x, p, c)) =
          let y = g m q h n Γ σ (omega (arith, w)) (a.0, a.1.1, a.2) r b in (
            Nf.cond (Nf.cell i x) y.0,
            y.1,
            λ q₁ ended. then (in-cond m q₁ (λ k. ended) q h (by-rules (in_field i (subst (λ k. Moves K true false t k) p j))))
                (behind-one K T true true m q₁ (cond (field i (name x)) qnil) q (quals_of y.0) h (term_of y.1)
                (y.2 (q₁ ⊞ cond (field i (name x)) qnil) (no-rule-append q₁ (cond (field i (name x)) qnil) (idempotent m) ended (tt, (tt, tt), tt)))),
            (tt, (tt, tt), y.3),
            y.4,
            λ S z. let s = y.5 S
                z in ((z x, subst (λ d. OrderedC y.0 S d) (omega arith) s.0), subst (λ d. Ordered y.1 (behind y.0 S) d) (omega arith) s.1),
          )

  reach-cond : (N : ℕ) → ReachT N → ReachQ N → (t : Term) (q : Quals) (h : Term) → ReachR N (cond t q) h
  reach-cond N f g (num z) q h m n Γ σ M l up w a r b = reach-kept N f g (num z) q h m n Γ σ tt w a r b
  reach-cond N f g (Sy.truth x) q h m n Γ σ M l up w a r b = reach-kept N f g (Sy.truth x) q h m n Γ σ tt w a r b
  reach-cond N f g (name x) q h m n Γ σ M l up w a r b = reach-kept N f g (name x) q h m n Γ σ tt w a r b
  reach-cond N f g (field i t) q h m n Γ σ M l up w a r b = reach-cond-field N g i t q h m n Γ σ M l up w a r b
  reach-cond N f g (rec ts) q h m n Γ σ M l up w a r b = reach-kept N f g (rec ts) q h m n Γ σ tt w a r b
  reach-cond N f g (app e ts) q h m n Γ σ M l up w a r b = reach-kept N f g (app e ts) q h m n Γ σ tt w a r b
  reach-cond N f g (bin o s t) q h m n Γ σ M l up w a r b = go (is-and o)
    where
      go : (o ≡ and) ⊎ NotAnd o → GotQ m (cond (bin o s t) q) h n
      go (inl e) = subst (λ c. ReachR N (cond (bin c s t) q) h) (sym e) (reach-and N g s t q h) m n Γ σ M l up w a r b
      go (inr e) = reach-kept N f g (bin o s t) q h m n Γ σ e w a r b
  reach-cond N f g (negate t) q h m n Γ σ M l up w a r b = reach-kept N f g (negate t) q h m n Γ σ tt w a r b
  reach-cond N f g (comp m₂ q₂ t) q h m n Γ σ M l up w a r b = go (gives_way m₂ (idempotent m)) refl
    where
      go : (c : Bool) → gives_way m₂ (idempotent m) ≡ c → GotQ m (cond (comp m₂ q₂ t) q) h n
      go true e = let s = gives-way-some m₂ (idempotent m) e in subst
          (λ c. (n : ℕ) (Γ : Context) (σ : Ty) (M : ℕ) → n < M → Up M (binders_q (cond (comp c q₂ t) q) ++ binders h)
          → weigh_q (cond (comp c q₂ t) q) (λ μ. weigh h μ) ones < suc N → Rest T m Γ σ (cond (comp c q₂ t) q) h → Rows Γ → Below Γ n
          → GotQ m (cond (comp c q₂ t) q) h n) (sym s.0) (reach-some N g q₂ t q h m s.1) n Γ σ M l up w a r b
      go false e = reach-kept N f g (comp m₂ q₂ t) q h m n Γ σ e w a r b
  reach-cond N f g (table k) q h m n Γ σ M l up w a r b = coll-truth _ _ (sym a.1.0.1)

  scalar-takes : {A : Type 0} (f : Fun) (vs : Tys) (c : Collection) (τ : Ty) → Takes f vs (coll c τ) → A
  scalar-takes Sy.choice vs c τ e = absurd e.0
  scalar-takes (Sy.is_open i d) vs c τ e = coll-truth c τ e.0

  reach-gen : (N : ℕ) → ReachQ N → (x : ℕ) (t : Term) (q : Quals) (h : Term) → ReachR N (gen x t q) h
  reach-gen N g x (num z) q h m n Γ σ M l up w a r b = coll-number a.1.0 a.1.1 a.1.2
  reach-gen N g x (Sy.truth y) q h m n Γ σ M l up w a r b = coll-truth a.1.0 a.1.1 a.1.2
  reach-gen N g x (name y) q h m n Γ σ M l up w a r b = let e = r y (coll a.1.0 a.1.1) a.1.2 in record-coll (cells e.0) a.1.0 a.1.1
      (sym e.1)
  reach-gen N g x (field i t) q h m n Γ σ M l up w a r b = reach-gen-field N g x i t q h m n Γ σ M l up w a r b
  reach-gen N g x (rec ts) q h m n Γ σ M l up w a r b = record-coll a.1.2.0 a.1.0 a.1.1 (sym a.1.2.2)
  reach-gen N g x (app f ts) q h m n Γ σ M l up w a r b = scalar-takes f a.1.2.0 a.1.0 a.1.1 a.1.2.2
  reach-gen N g x (bin o s t) q h m n Γ σ M l up w a r b = result-scalar (coll a.1.0 a.1.1) o (λ e. coll-number a.1.0 a.1.1 e)
      (λ e. coll-truth a.1.0 a.1.1 e) a.1.2.2
  reach-gen N g x (negate t) q h m n Γ σ M l up w a r b = coll-truth a.1.0 a.1.1 a.1.2.1
  reach-gen N g x (comp (of d) q₂ t) q h m n Γ σ M l up w a r b = reach-inner N g x d q₂ t q h m n Γ σ M l up w a r b
  reach-gen N g x (comp sum q₂ t) q h m n Γ σ M l up w a r b = coll-number a.1.0 a.1.1 a.1.2.4.1
  reach-gen N g x (comp max q₂ t) q h m n Γ σ M l up w a r b = coll-number a.1.0 a.1.1 a.1.2.4.1
  reach-gen N g x (comp min q₂ t) q h m n Γ σ M l up w a r b = coll-number a.1.0 a.1.1 a.1.2.4.1
  reach-gen N g x (comp some q₂ t) q h m n Γ σ M l up w a r b = coll-truth a.1.0 a.1.1 a.1.2.4.1
  reach-gen N g x (comp all q₂ t) q h m n Γ σ M l up w a r b = coll-truth a.1.0 a.1.1 a.1.2.4.1
  reach-gen N g x (table k) q h m n Γ σ M l up w a r b = reach-table N g x k q h m n Γ σ M l up w a r b

  reach-rest : (N : ℕ) → ReachT N → ReachQ N → (q : Quals) (h : Term) → ReachR N q h
  unfolding weigh term_of NoRule Ordered behind gens ◌⊞◌
  reach-rest N f g qnil h m n Γ σ M l up w a r b =
      let x = reach-term N f g h n a.0 σ w a.2 (subst (λ Θ. Rows Θ) a.1 r) (subst (λ Θ. Below Θ n) a.1 b) in (
        done,
        x.0,
        λ q₁ ended. in_head m (q₁ ⊞ qnil) (λ e. no-rule-append q₁ qnil (idempotent m) ended tt) x.1,
        tt,
        x.2,
        λ S z. (tt, subst (λ j. Ordered x.0 S j) (omega arith) (x.3 S z)),
      )
  reach-rest N f g (gen x t q) h m n Γ σ M l up w a r b = reach-gen N g x t q h m n Γ σ M l up w a r b
  reach-rest N f g (bind x t q) h m n Γ σ M l up w a r b = reach-bound N g x t q h m n Γ σ M l up w a r b
  reach-rest N f g (cond t q) h m n Γ σ M l up w a r b = reach-cond N f g t q h m n Γ σ M l up w a r b

  reach-quals : (N : ℕ) → ReachT N → ReachQ N → ReachQ (suc N)
  reach-quals N f g m q h n Γ σ w a r b =
      let M = suc n + over (binders_q q ++ binders h) in
      let s = apart-quals K T q h (λ j Δ τ d e c. apart-term K T h j Δ τ d e c) m M Γ a.0 σ a.1 a.2 (below_more Γ n M b (omega arith))
      (under-over (suc n) (binders_q q ++ binders h)) in
      let v = s.5 ones in
      let x = reach-rest N f g s.0 s.1 m n Γ σ M (omega arith) s.3 (omega (arith, v, w)) s.4 r b in
      (x.0, x.1, λ q₁ ended. then (by_names (s.2 q₁)) (x.2 q₁ ended), x.3, x.4, x.5)

  pub reach : (N : ℕ) → ReachT N × ReachQ N
  reach zero = (λ t n Γ τ w a r b. absurd (omega (arith, w)), λ m q h n Γ σ w a r b. absurd (omega (arith, w)))
  reach (suc N) = let s = reach N in (reach-term N s.0 s.1, reach-quals N s.0 s.1)
