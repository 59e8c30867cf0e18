-- Renaming alone, innermost first, leads a term whose names are all below n to one that binds n, n + 1, n + 2 .. in written order.
use mathlib.Core.Path.{◌≡◌, refl, sym, ap₂, subst}
use mathlib.Core.Bool.{Bool, true, false, false≢true}
use mathlib.Core.List.{List, [], ◌∷◌, ◌++◌, append_assoc}
use Prim.Native.Nat.{ℕ, suc, ◌+◌, ◌≤◌, ◌<◌}
use native.Mathlib.Omega.{arith}
use lib.ListN.{length}
use Rattle.spec_calculus.specs.Lists.{upd}
use Rattle.spec_calculus.specs.Syntax.{Collection, Monoid, Term, Terms, Quals, num, truth, name, field, rec, bin, negate, app, comp, table, tnil, tcons, qnil, gen, bind, cond}
use Rattle.spec_calculus.specs.Value.{Tables}
use Rattle.spec_checks.specs.Scope.{binders, binders_l, binders_q}
use Rattle.spec_checks.specs.Types.{Ty, Tys, has, Context}
use Rattle.spec_checks.proofs.Judgement.{Has, HasL, HasQ}
use Rattle.spec_normal_form.specs.Place.{put}
use Rattle.spec_normal_form.specs.Place as Pl
use Rattle.spec_normal_form.specs.NoRule.{NoRuleL}
use Rattle.spec_normal_form.specs.Rules.{rename, ◌⊞◌, sub, sub_q, Fresh, only, ReadsOnly}
use Rattle.spec_rewriting.specs.Steps.{Change, by_rule, rename_binding, is_renaming, none, onwards}
use Rattle.spec_rewriting.proofs.Places.{◌⊟◌, named, Moves, then, in_field, in-negate, in_left, in_right, in_head, in-rec, in_app, in-gen, in-bind, in-cond}
use Rattle.spec_rewriting.proofs.Weights.{weigh, weigh_l, weigh_q, Weights}
use Rattle.spec_rewriting.proofs.Types.{holds-upd}
use Rattle.spec_rewriting.proofs.Names.{Up, Under, up-append, under_split, under_more, fresh_up, below, below_out, Below, below_holds, below-upd, below_more, only_out, binders-sub, binders_q-sub, ⊞-assoc, ⊟-assoc, Rest, rest-scope, rest-renamed, rest-weight}

-- the names of a qualifier's term, then its own, then the rest
up-qual : (n : ℕ) (A : List ℕ) (a : ℕ) (B C : List ℕ) → Up n A → a ≡ n + length A → Up (suc a) (B ++ C) → Up n ((A ++ (a ∷ B)) ++ C)
up-qual n A a B C p e q = subst (λ l. Up n l) (sym (append_assoc A (a ∷ B) C)) (up-append n A (a ∷ (B ++ C)) p (e, subst (λ j. Up (suc j) (B ++ C)) e q))

under-qual : (n : ℕ) (A : List ℕ) (a : ℕ) (B C : List ℕ) → Under n ((A ++ (a ∷ B)) ++ C) → Under n A × (a < n) × Under n (B ++ C)
under-qual n A a B C p = let s = under_split n A (a ∷ (B ++ C)) (subst (λ l. Under n l) (append_assoc A (a ∷ B) C) p) in (s.0, s.1.0, s.1.1)

-- where only names are changed, nothing need be at its end
unruled : {A : Type 0} → false ≡ true → A
unruled e = absurd (false≢true e)

module _ (K : ℕ → Collection) (T : Tables) where
  -- new names at the outermost place
  pub name-step : {o b : Bool} (m : Monoid) (q r : Quals) (h k : Term) (a : Change K (comp m q h) (comp m r k)) → is_renaming a ≡ true
      → Moves K o b (comp m q h) (comp m r k)
  unfolding put
  name-step m q r h k a e = onwards none (named Pl.hole a e)

  abbrev pub Renamed : Term → ℕ → Context → Ty → Type 0
  Renamed t n Γ τ = (u : Term) × Moves K false false t u × Up n (binders u) × Has T Γ u τ × ((ρ : Weights) → weigh u ρ ≤ weigh t ρ)

  -- steps of one of several terms are steps of what they stand in
  abbrev pub Wraps : Bool → Bool → (Terms → Term) → Type 0
  Wraps o b wrap = (q z : Terms) (t u : Term) → (o ≡ true → NoRuleL q) → Moves K o b t u → Moves K o b (wrap (q ⊟ tcons t z)) (wrap (q ⊟ tcons u z))

  pub one_more : (o b : Bool) (wrap : Terms → Term) (q : Terms) (u : Term) (ts vs : Terms)
      → Moves K o b (wrap ((q ⊟ tcons u tnil) ⊟ ts)) (wrap ((q ⊟ tcons u tnil) ⊟ vs)) → Moves K o b (wrap (q ⊟ tcons u ts)) (wrap (q ⊟ tcons u vs))
  unfolding ◌⊟◌
  one_more o b wrap q u ts vs l = subst (λ z. Moves K o b (wrap z) (wrap (q ⊟ tcons u vs))) (⊟-assoc q (tcons u tnil) ts)
      (subst (λ z. Moves K o b (wrap ((q ⊟ tcons u tnil) ⊟ ts)) (wrap z)) (⊟-assoc q (tcons u tnil) vs) l)

  -- behind one more qualifier p
  pub behind-one : (o b : Bool) (m : Monoid) (q p r s : Quals) (h k : Term) → Moves K o b (comp m ((q ⊞ p) ⊞ r) h) (comp m ((q ⊞ p) ⊞ s) k)
      → Moves K o b (comp m (q ⊞ (p ⊞ r)) h) (comp m (q ⊞ (p ⊞ s)) k)
  behind-one o b m q p r s h k l = subst (λ z. Moves K o b (comp m z h) (comp m (q ⊞ (p ⊞ s)) k)) (⊞-assoc q p r)
      (subst (λ z. Moves K o b (comp m ((q ⊞ p) ⊞ r) h) (comp m z k)) (⊞-assoc q p s) l)

  abbrev RenamedL : Terms → ℕ → Context → Tys → Type 0
  RenamedL ts n Γ us = (vs : Terms) × ((wrap : Terms → Term) → Wraps false false wrap → (q : Terms) → Moves K false false (wrap (q ⊟ ts)) (wrap (q ⊟ vs))) × Up
      n (binders_l vs) × HasL T Γ vs us × ((ρ : Weights) → weigh_l vs ρ ≤ weigh_l ts ρ)

  abbrev pub RenamedQ : Quals → Term → Monoid → ℕ → Context → Ty → Type 0
  RenamedQ q h m n Γ σ = (r : Quals) × (k : Term) × ((q₁ : Quals) → Moves K false false (comp m (q₁ ⊞ q) h) (comp m (q₁ ⊞ r) k)) × Up n
      (binders_q r ++ binders k) × Rest T m Γ σ r k
      × ((ρ : Weights) → weigh_q r (λ μ. weigh k μ) ρ ≤ weigh_q q (λ μ. weigh h μ) ρ)

  -- Behind a qualifier that binds x, with the names A in its term: the rest, whose names are apart, with the next name in the place of x.
  rest-apart : (m : Monoid) (n : ℕ) (Γ : Context) → Below Γ n → (x : ℕ) → x < n → (w σ : Ty) (A : List ℕ) → Up n A → (q : Quals) (h : Term)
      → Up (suc (n + length A)) (binders_q q ++ binders h) → Rest T m (upd x (has w) Γ) σ q h
      → Fresh (only x (n + length A)) (binders_q q ++ binders h) × ReadsOnly q h (upd x true (below n))
      × Up n ((A ++ ((n + length A) ∷ binders_q (sub_q x (name (n + length A)) q))) ++ binders (sub x (name (n + length A)) h))
      × Rest T m (upd (n + length A) (has w) Γ) σ (sub_q x (name (n + length A)) q) (sub x (name (n + length A)) h)
  rest-apart m n Γ b x l w σ A up q h v r =
      let c = n + length A in
      let e = fresh_up (only x c) (suc c) (binders_q q ++ binders h) (only_out x c (suc c) (omega (arith, l)) (omega arith)) v in
      let same = ap₂ (λ B C. B ++ C) (binders_q-sub q x c) (binders-sub h x c) in (
        e,
        rest-scope T m (upd x (has w) Γ) σ q h r (upd x true (below n)) (holds-upd Γ (below n) x w (below_holds Γ n b)),
        up-qual n A c (binders_q (sub_q x (name c) q)) (binders (sub x (name c) h)) up refl (subst (λ z. Up (suc c) z) (sym same) v),
        rest-renamed T m Γ n b x c (omega arith) w σ q h e r,
      )

  mutual
    unfolding binders weigh ◌⊞◌ ◌⊟◌ put

    pub apart-term : (t : Term) (n : ℕ) (Γ : Context) (τ : Ty) → Has T Γ t τ → Below Γ n → Under n (binders t) → Renamed t n Γ τ
    apart-term (num z) n Γ τ a b u = (num z, none, tt, a, λ ρ. omega arith)
    apart-term (truth x) n Γ τ a b u = (truth x, none, tt, a, λ ρ. omega arith)
    apart-term (name x) n Γ τ a b u = (name x, none, tt, a, λ ρ. omega arith)
    apart-term (field i t) n Γ τ a b u =
        let r = apart-term t n Γ _ a.1 b u in
        (field i r.0, in_field i r.1, r.2, (a.0, r.3, a.2), λ ρ. let w = r.4 ρ in omega (arith, w))
    apart-term (rec ts) n Γ τ a b u =
        let r = apart-terms ts n Γ a.0 a.1 b u in
        (rec r.0, r.1 rec (λ q z t v d l. in-rec q z d l) tnil, r.2, (a.0, r.3, a.2), λ ρ. let w = r.4 ρ in omega (arith, w))
    apart-term (app f ts) n Γ τ a b u =
        let r = apart-terms ts n Γ a.0 a.1 b u in
        (app f r.0, r.1 (app f) (λ q z t v d l. in_app f q z d l) tnil, r.2, (a.0, r.3, a.2), λ ρ. let w = r.4 ρ in omega (arith, w))
    apart-term (bin o s t) n Γ τ a b u =
        let v = under_split n (binders s) (binders t) u in
        let x = apart-term s n Γ _ a.0 b v.0 in
        let j = n + length (binders x.0) in
        let y = apart-term t j Γ _ a.1 (below_more Γ n j b (omega arith)) (under_more n j (binders t) (omega arith) v.1) in (
          bin o x.0 y.0,
          then (in_left o t x.1) (in_right o x.0 unruled y.1),
          up-append n (binders x.0) (binders y.0) x.2 y.2,
          (x.3, y.3, a.2),
          λ ρ. let w = x.4 ρ in let z = y.4 ρ in omega (arith, w, z),
        )
    apart-term (negate t) n Γ τ a b u =
        let r = apart-term t n Γ _ a.0 b u in
        (negate r.0, in-negate r.1, r.2, (r.3, a.1), λ ρ. let w = r.4 ρ in omega (arith, w))
    apart-term (comp m q h) n Γ τ a b u =
        let r = apart-quals q h (λ j Δ σ d e f. apart-term h j Δ σ d e f) m n Γ a.0 a.1 a.2 a.3 b u in
        (comp m r.0 r.1, r.2 qnil, r.3, (r.4.0, a.1, r.4.1, r.4.2, a.4), λ ρ. let w = r.5 ρ in omega (arith, w))
    apart-term (table k) n Γ τ a b u = (table k, none, tt, a, λ ρ. omega arith)

    apart-terms : (ts : Terms) (n : ℕ) (Γ : Context) (us : Tys) → HasL T Γ ts us → Below Γ n → Under n (binders_l ts) → RenamedL ts n Γ us
    apart-terms tnil n Γ us a b u = (tnil, λ wrap c q. none, tt, a, λ ρ. omega arith)
    apart-terms (tcons t ts) n Γ us a b u =
        let v = under_split n (binders t) (binders_l ts) u in
        let x = apart-term t n Γ a.0 a.2 b v.0 in
        let j = n + length (binders x.0) in
        let y = apart-terms ts j Γ a.1 a.3 (below_more Γ n j b (omega arith)) (under_more n j (binders_l ts) (omega arith) v.1) in (
          tcons x.0 y.0,
          λ wrap c q. then (c q ts t x.0 unruled x.1) (one_more false false wrap q x.0 ts y.0 (y.1 wrap c (q ⊟ tcons x.0 tnil))),
          up-append n (binders x.0) (binders_l y.0) x.2 y.2,
          (a.0, a.1, x.3, y.3, a.4),
          λ ρ. let w = x.4 ρ in let z = y.4 ρ in omega (arith, w, z),
        )

    pub apart-quals : (q : Quals) (h : Term) → ((n : ℕ) (Δ : Context) (σ : Ty) → Has T Δ h σ → Below Δ n → Under n (binders h) → Renamed h n Δ σ)
        → (m : Monoid) (n : ℕ) (Γ Δ : Context) (σ : Ty) → HasQ T m Γ q Δ → Has T Δ h σ → Below Γ n → Under n (binders_q q ++ binders h) → RenamedQ q h m n Γ σ
    apart-quals qnil h f m n Γ Δ σ a d b u =
        let r = f n Δ σ d (subst (λ Θ. Below Θ n) a b) u in
        (qnil, r.0, λ q₁. in_head m (q₁ ⊞ qnil) unruled r.1, r.2, (Δ, a, r.3), r.4)
    apart-quals (gen x t q) h f m n Γ Δ σ a d b u =
        let v = under-qual n (binders t) x (binders_q q) (binders h) u in
        let l = v.1 in
        let s = apart-term t n Γ _ a.2 b v.0 in
        let c = n + length (binders s.0) in
        let below-x = below-upd Γ n (suc c) x (has a.1) b (omega arith) (omega (arith, l)) in
        let under = under_more n (suc c) (binders_q q ++ binders h) (omega arith) v.2 in
        let r = apart-quals q h f m (suc c) (upd x (has a.1) Γ) Δ σ a.4 d below-x under in
        let i = rest-apart m n Γ b x l a.1 σ (binders s.0) s.2 r.0 r.1 r.3 r.4 in
        let q' = sub_q x (name c) r.0 in
        let h' = sub x (name c) r.1 in (
          gen c s.0 q',
          h',
          λ q₁. then (in-gen m q₁ unruled x q h s.1)
              (then (behind-one false false m q₁ (gen x s.0 qnil) q r.0 h r.1 (r.2 (q₁ ⊞ gen x s.0 qnil)))
              (name-step m (q₁ ⊞ gen x s.0 r.0) (q₁ ⊞ gen c s.0 q') r.1 h'
              (by_rule (rename (below n) m q₁ x c s.0 r.0 r.1 (below_out n c (omega arith)) i.1 i.0)) refl)),
          i.2,
          (i.3.0, (a.0, a.1, s.3, a.3, i.3.1), i.3.2),
          λ ρ.
              let y = s.4 ρ in
              let z = rest-weight T m Γ n b x c (omega arith) a.1 σ r.0 r.1 i.0 r.4 (weigh s.0 ρ) (weigh t ρ) y ρ in
              let w = r.5 (upd x (weigh t ρ) ρ) in
              omega (arith, w, y, z),
        )
    apart-quals (bind x t q) h f m n Γ Δ σ a d b u =
        let v = under-qual n (binders t) x (binders_q q) (binders h) u in
        let l = v.1 in
        let s = apart-term t n Γ _ a.1 b v.0 in
        let c = n + length (binders s.0) in
        let below-x = below-upd Γ n (suc c) x (has a.0) b (omega arith) (omega (arith, l)) in
        let under = under_more n (suc c) (binders_q q ++ binders h) (omega arith) v.2 in
        let r = apart-quals q h f m (suc c) (upd x (has a.0) Γ) Δ σ a.2 d below-x under in
        let i = rest-apart m n Γ b x l a.0 σ (binders s.0) s.2 r.0 r.1 r.3 r.4 in
        let q' = sub_q x (name c) r.0 in
        let h' = sub x (name c) r.1 in (
          bind c s.0 q',
          h',
          λ q₁. then (in-bind m q₁ unruled x q h s.1)
              (then (behind-one false false m q₁ (bind x s.0 qnil) q r.0 h r.1 (r.2 (q₁ ⊞ bind x s.0 qnil)))
              (name-step m (q₁ ⊞ bind x s.0 r.0) (q₁ ⊞ bind c s.0 q') r.1 h'
              (rename_binding (below n) m q₁ x c s.0 r.0 r.1 (below_out n c (omega arith)) i.1 i.0) refl)),
          i.2,
          (i.3.0, (a.0, s.3, i.3.1), i.3.2),
          λ ρ.
              let y = s.4 ρ in
              let z = rest-weight T m Γ n b x c (omega arith) a.0 σ r.0 r.1 i.0 r.4 (weigh s.0 ρ) (weigh t ρ) y ρ in
              let w = r.5 (upd x (weigh t ρ) ρ) in
              omega (arith, w, y, z),
        )
    apart-quals (cond t q) h f m n Γ Δ σ a d b u =
        let v = under_split n (binders t) (binders_q q ++ binders h) (subst (λ l. Under n l) (append_assoc (binders t) (binders_q q) (binders h)) u) in
        let s = apart-term t n Γ _ a.0 b v.0 in
        let c = n + length (binders s.0) in
        let r = apart-quals q h f m c Γ Δ σ a.1 d (below_more Γ n c b (omega arith)) (under_more n c (binders_q q ++ binders h) (omega arith) v.1) in (
          cond s.0 r.0,
          r.1,
          λ q₁. then (in-cond m q₁ unruled q h s.1) (behind-one false false m q₁ (cond s.0 qnil) q r.0 h r.1 (r.2 (q₁ ⊞ cond s.0 qnil))),
          subst (λ l. Up n l) (sym (append_assoc (binders s.0) (binders_q r.0) (binders r.1)))
              (up-append n (binders s.0) (binders_q r.0 ++ binders r.1) s.2 r.3),
          (r.4.0, (s.3, r.4.1), r.4.2),
          λ ρ. let w = s.4 ρ in let y = r.5 ρ in omega (arith, w, y),
        )
