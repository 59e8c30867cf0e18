-- The pass accepts a question exactly where 24 does: its names hold, and none is bound twice.
use mathlib.Core.Path.{◌≡◌, refl, sym, ap, ap₂, ◌∙◌}
use mathlib.Core.List.{List, [], ◌∷◌, ◌++◌}
use mathlib.Core.Bool.{Bool, true, false, ◌&&◌, ◌||◌, not, and-true, and_assoc}
use Prim.Native.Nat.{ℕ, zero, suc, ◌<◌}
use native.Mathlib.Omega.{arith}
use lib.Dec.{eqb}
use lib.ListN.{length, get_or, set, replicate, length-set, get_or-replicate}
use lib.Seq.{get_or-set_same, get_or-set_other}
use borrow.Author.Tests.{eqb-true, eqb-false}
use Rattle.spec_calculus.specs.Lists.{upd}
use Rattle.spec_calculus.proofs.Lists.{upd-hit, upd_other}
use Rattle.spec_calculus.specs.Syntax.{Term, Terms, Quals, num, truth, name, field, rec, bin, negate, app, comp, table, tnil, tcons, qnil, gen, bind, cond, Question, as_term}
use Rattle.spec_checks.specs.Scope.{Scope, in_scope, in_scopes, in_scope_q, binders, binders_l, binders_q, member, distinct, names_hold}
use Rattle.front_scope.specs.ScopePass.{Names, fresh, uses, binds, leaves, pass_term, pass_terms, pass_quals, Small, SmallL, SmallQ}

-- the names seen once these were bound
unfoldable after : List ℕ → Scope → Scope
after [] β = β
after (x ∷ l) β = after l (upd x true β)

-- none of these was seen before or stands here twice
unfoldable unique : Scope → List ℕ → Bool
unique β [] = true
unique β (x ∷ l) = not (β x) && unique (upd x true β) l

after-append : (l m : List ℕ) (β : Scope) → after (l ++ m) β ≡ after m (after l β)
unfolding after
after-append [] m β = refl
after-append (x ∷ l) m β = after-append l m (upd x true β)

unique-append : (l m : List ℕ) (β : Scope) → unique β (l ++ m) ≡ unique β l && unique (after l β) m
unfolding after unique
unique-append [] m β = refl
unique-append (x ∷ l) m β = ap (λ b. not (β x) && b) (unique-append l m (upd x true β)) ∙ grouped (not (β x)) (unique (upd x true β) l) (unique (after l (upd x true β)) m)
  where
    grouped : (a b c : Bool) → a && (b && c) ≡ a && b && c
    grouped true b c = refl
    grouped false b c = refl

-- where nothing was seen before, unique is distinct
none : Scope → List ℕ → Bool
none β [] = true
none β (x ∷ l) = not (β x) && none β l

upd-or : (x : ℕ) (β : Scope) (y : ℕ) → upd x true β y ≡ eqb x y || β y
unfolding upd
upd-or x β y = go (eqb x y)
  where
    go : (b : Bool) → elim b [ true ↦ true | false ↦ β y ] ≡ b || β y
    go true = refl
    go false = refl

none-upd : (x : ℕ) (β : Scope) (l : List ℕ) → none (upd x true β) l ≡ not (member x l) && none β l
unfolding none member
none-upd x β [] = refl
none-upd x β (y ∷ l) = ap₂ (λ a b. not a && b) (upd-or x β y) (none-upd x β l) ∙ go (eqb x y) (β y) (member x l) (none β l)
  where
    go : (a b c d : Bool) → not (a || b) && (not c && d) ≡ not (a || c) && (not b && d)
    go true b c d = refl
    go false true true d = refl
    go false true false d = refl
    go false false true d = refl
    go false false false d = refl

unique-is : (β : Scope) (l : List ℕ) → unique β l ≡ distinct l && none β l
unfolding unique distinct none
unique-is β [] = refl
unique-is β (x ∷ l) = ap (λ b. not (β x) && b) (unique-is (upd x true β) l ∙ ap (λ b. distinct l && b) (none-upd x β l)) ∙ go (not (β x)) (distinct l) (not (member x l)) (none β l)
  where
    go : (a b c d : Bool) → a && (b && (c && d)) ≡ c && b && (a && d)
    go true true c d = ap (λ e. e && d) (sym (and-true c))
    go true false true d = refl
    go true false false d = refl
    go false true true d = refl
    go false true false d = refl
    go false false true d = refl
    go false false false d = refl

nothing : (l : List ℕ) → none (λ x. false) l ≡ true
unfolding none
nothing [] = refl
nothing (x ∷ l) = nothing l

unique-distinct : (l : List ℕ) → unique (λ x. false) l ≡ distinct l
unique-distinct l = unique-is (λ x. false) l ∙ ap (λ b. distinct l && b) (nothing l) ∙ and-true (distinct l)

-- The arrays hold the names seen, β, and the names that hold, σ.
record Carries (β σ : Scope) (n : Names) : Type 0 where
  long-seen : length n.seen ≡ 256
  long-scope : length n.scope ≡ 256
  seen : (x : ℕ) → x < 256 → get_or n.seen x true ≡ β x
  holds : (x : ℕ) → get_or n.scope x false ≡ σ x

none_yet : (n x : ℕ) → get_or (replicate n false) x false ≡ false
none_yet zero x = refl
none_yet (suc n) zero = refl
none_yet (suc n) (suc x) = none_yet n x

carries-fresh : Carries (λ x. false) (λ x. false) fresh
carries-fresh = record { long-seen = refl; long-scope = refl; seen = λ x h. get_or-replicate 256 x false true h; holds = none_yet 256 }

set-upd : (l : List Bool) (x : ℕ) (d : Bool) (β : Scope) (y : ℕ) → x < length l → get_or l y d ≡ β y → get_or (set l x true) y d ≡ upd x true β y
set-upd l x d β y h e = go (eqb x y) refl
  where
    go : (b : Bool) → eqb x y ≡ b → get_or (set l x true) y d ≡ upd x true β y
    go true p = let q : x ≡ y = eqb-true x y p in rw (← q) (get_or-set_same l x true d h ∙ sym (upd-hit x true β))
    go false p = get_or-set_other l x y true d (λ q. eqb-false x y p (sym q)) ∙ e ∙ sym (upd_other x true β y p)

carries-binds : (x : ℕ) (β σ : Scope) (n : Names) → x < 256 → Carries β σ n → Carries (upd x true β) (upd x true σ) (binds x n)
carries-binds x β σ n h c =
    record {
      long-seen = length-set n.seen x true ∙ c.long-seen;
      long-scope = length-set n.scope x true ∙ c.long-scope;
      seen = λ y l. set-upd n.seen x true β y (omega (arith, c.long-seen)) (c.seen y l);
      holds = λ y. set-upd n.scope x false σ y (omega (arith, c.long-scope)) (c.holds y);
    }

-- r is what a part of the tree makes of n: it binds l, the names σ' hold behind it, and s says whether its own names hold.
record Passed (l : List ℕ) (β σ σ' : Scope) (s : Bool) (n r : Names) : Type 0 where
  carries : Carries β σ n → Carries (after l β) σ' r
  ok : Carries β σ n → r.ok ≡ n.ok && (s && unique β l)

passed-nothing : (β σ : Scope) (n : Names) → Passed [] β σ σ true n n
unfolding after unique
passed-nothing β σ n = record { carries = λ c. c; ok = λ c. sym (and-true n.ok) }

passed-name : (x : ℕ) (β σ : Scope) (n : Names) → Passed [] β σ σ (σ x) n (uses x n)
unfolding after unique
passed-name x β σ n =
    record {
      carries = λ c. record { long-seen = c.long-seen; long-scope = c.long-scope; seen = c.seen; holds = c.holds };
      ok = λ c. ap (λ b. n.ok && b) (c.holds x ∙ sym (and-true (σ x)));
    }

passed-binds : (x : ℕ) (β σ : Scope) (n : Names) → x < 256 → Passed (x ∷ []) β σ (upd x true σ) true n (binds x n)
unfolding after unique
passed-binds x β σ n h =
    record { carries = λ c. carries-binds x β σ n h c; ok = λ c. ap (λ b. n.ok && b) (ap not (c.seen x h) ∙ sym (and-true (not (β x)))) }

-- one part behind another
passed-both : {l m : List ℕ} {β σ σ' σ'' : Scope} {s u : Bool} {n r w : Names} → Passed l β σ σ' s n r → Passed m (after l β) σ' σ'' u r w → Passed (l ++ m) β σ σ'' (s && u) n w
passed-both {l} {m} {β} {σ} {σ'} {σ''} {s} {u} {n} {r} {w} P Q =
    record {
      carries = λ c. rw (after-append l m β) (Q.carries (P.carries c));
      ok = λ c. Q.ok (P.carries c) ∙ ap (λ b. b && (u && unique (after l β) m)) (P.ok c) ∙ go n.ok s u (unique β l) (unique (after l β) m) ∙ ap (λ b. n.ok && (s && u && b)) (sym (unique-append l m β));
    }
  where
    go : (a b c d e : Bool) → a && (b && d) && (c && e) ≡ a && (b && c && (d && e))
    go false b c d e = refl
    go true false c d e = refl
    go true true true true e = refl
    go true true true false e = refl
    go true true false true e = refl
    go true true false false e = refl

passed-binder : {l m : List ℕ} {β σ σ'' : Scope} {s u : Bool} {n r w : Names} (x : ℕ) → x < 256 → Passed l β σ σ s n r → Passed m (upd x true (after l β)) (upd x true σ) σ'' u (binds x r) w → Passed (l ++ x ∷ m) β σ σ'' (s && u) n w
unfolding after
passed-binder {l} {β = β} {σ} {r = r} x h P Q = passed-both P (passed-both (passed-binds x (after l β) σ r h) Q)

-- the names that hold behind qualifiers
unfoldable behind : Quals → Scope → Scope
behind qnil σ = σ
behind (gen x t qs) σ = behind qs (upd x true σ)
behind (bind x t qs) σ = behind qs (upd x true σ)
behind (cond t qs) σ = behind qs σ

in-scope-behind : (qs : Quals) (k : Scope → Bool) (σ : Scope) → in_scope_q qs k σ ≡ in_scope_q qs (λ r. true) σ && k (behind qs σ)
unfolding in_scope_q behind
in-scope-behind qnil k σ = refl
in-scope-behind (gen x t qs) k σ = ap (λ b. in_scope t σ && b) (in-scope-behind qs k (upd x true σ)) ∙ sym (and_assoc (in_scope t σ) (in_scope_q qs (λ r. true) (upd x true σ)) (k (behind qs (upd x true σ))))
in-scope-behind (bind x t qs) k σ = ap (λ b. in_scope t σ && b) (in-scope-behind qs k (upd x true σ)) ∙ sym (and_assoc (in_scope t σ) (in_scope_q qs (λ r. true) (upd x true σ)) (k (behind qs (upd x true σ))))
in-scope-behind (cond t qs) k σ = ap (λ b. in_scope t σ && b) (in-scope-behind qs k σ) ∙ sym (and_assoc (in_scope t σ) (in_scope_q qs (λ r. true) σ) (k (behind qs σ)))

passed-leaves : {l : List ℕ} {β σ σ' : Scope} {s : Bool} {n r : Names} → Passed l β σ σ' s n r → Passed l β σ σ s n (leaves n r)
passed-leaves P =
    record {
      carries = λ c. record { long-seen = (P.carries c).long-seen; long-scope = c.long-scope; seen = (P.carries c).seen; holds = c.holds };
      ok = P.ok;
    }

mutual
  unfolding pass_term binders in_scope behind

  passed : (t : Term) (β σ : Scope) (n : Names) → Small t → Passed (binders t) β σ σ (in_scope t σ) n (pass_term t n)
  passed (num z) β σ n h = passed-nothing β σ n
  passed (truth b) β σ n h = passed-nothing β σ n
  passed (name x) β σ n h = passed-name x β σ n
  passed (field i t) β σ n h = passed t β σ n h
  passed (rec ts) β σ n h = passed_l ts β σ n h
  passed (app f ts) β σ n h = passed_l ts β σ n h
  passed (bin o t u) β σ n h = passed-both (passed t β σ n h.0) (passed u (after (binders t) β) σ (pass_term t n) h.1)
  passed (negate t) β σ n h = passed t β σ n h
  passed (comp m qs k) β σ n h =
      rw (in-scope-behind qs (λ r. in_scope k r) σ)
      (passed-leaves (passed-both (passed_q qs β σ n h.0) (passed k (after (binders_q qs) β) (behind qs σ) (pass_quals qs n) h.1)))
  passed (table k) β σ n h = passed-nothing β σ n

  passed_l : (ts : Terms) (β σ : Scope) (n : Names) → SmallL ts → Passed (binders_l ts) β σ σ (in_scopes ts σ) n (pass_terms ts n)
  passed_l tnil β σ n h = passed-nothing β σ n
  passed_l (tcons t ts) β σ n h = passed-both (passed t β σ n h.0) (passed_l ts (after (binders t) β) σ (pass_term t n) h.1)

  passed_q : (qs : Quals) (β σ : Scope) (n : Names) → SmallQ qs → Passed (binders_q qs) β σ (behind qs σ) (in_scope_q qs (λ r. true) σ) n (pass_quals qs n)
  passed_q qnil β σ n h = passed-nothing β σ n
  passed_q (gen x t qs) β σ n h = passed-binder x h.0 (passed t β σ n h.1) (passed_q qs (upd x true (after (binders t) β)) (upd x true σ) (binds x (pass_term t n)) h.2)
  passed_q (bind x t qs) β σ n h = passed-binder x h.0 (passed t β σ n h.1) (passed_q qs (upd x true (after (binders t) β)) (upd x true σ) (binds x (pass_term t n)) h.2)
  passed_q (cond t qs) β σ n h = passed-both (passed t β σ n h.0) (passed_q qs (after (binders t) β) σ (pass_term t n) h.1)

-- 24, by the pass
pub pass-is : (q : Question) → Small (as_term q) → (pass_term (as_term q) fresh).ok ≡ names_hold q
unfolding names_hold
pass-is q h =
    (passed (as_term q) (λ x. false) (λ x. false) fresh h).ok carries-fresh ∙
    ap (λ b. in_scope (as_term q) (λ x. false) && b) (unique-distinct (binders (as_term q)))
