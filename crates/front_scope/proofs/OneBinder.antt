-- Where 24 holds, the word of a name that the question binds has the number of the one node that binds it.
use mathlib.Core.Path.{◌≡◌, refl, sym, ap, ap₂, subst, ◌∙◌}
use mathlib.Core.List.{List, [], ◌∷◌, ◌++◌, append_assoc, append-nil}
use mathlib.Core.Bool.{Bool, true, false, ◌&&◌, ◌||◌, not, true≢false, or-false, or-true, or_assoc, and-eq-true_iff}
use Prim.Native.Nat.{ℕ, zero, suc, ◌+◌, ◌≤◌, ◌<◌}
use native.Mathlib.Nat.{add-zero, add-suc, add_assoc, zero-add}
use native.Mathlib.Numerals.{add-one}
use native.Mathlib.Omega.{arith}
use lib.Dec.{eqb}
use lib.ListN.{length, get_or}
use borrow.Author.Tests.{eqb-true, eqb-false, eq-eqb, ne_eqb}
use Rattle.spec_calculus.specs.Lists.{pick, guard}
use Rattle.spec_calculus.specs.Syntax.{choice, is_open, Term, Terms, Quals, num, truth, name, field, rec, bin, negate, app, comp, table, tnil, tcons, qnil, gen, bind, cond, Question, as_term}
use Rattle.spec_calculus.proofs.Lists.{All, all_append}
use Rattle.spec_checks.specs.Scope.{in_scope, binders, binders_l, binders_q, member, distinct, names_hold}
use Rattle.spec_encoding.specs.Reader.{Kind, kinds, unknown}
use Rattle.front_words.specs.LaidTree.{nodes, nodes_l, nodes_q, LaidNode, Laid, LaidL, LaidQ}
use Rattle.base_scratch.specs.Map.{binders_at, shapes_at}
use Rattle.front_words.specs.NodeWord.{node_kind_of, arg_of}
use Rattle.front_words.specs.NodeTree.{kind_at, arg_at}
use Rattle.front_scope.specs.Binders.{binds_name, bound_by, binders_of}
use Rattle.front_scope.specs.ScopePass.{Small, SmallL, SmallQ}
use Rattle.front_scope.proofs.BinderWords.{binder_of, binder-word, nodes-kept}

-- the names that the n nodes from a on bind
unfoldable bound_in : List ℕ → ℕ → ℕ → List ℕ
bound_in s a zero = []
bound_in s a (suc n) = bound_in s a n ++ bound_by s (a + n)

bound-split : (s : List ℕ) (a m k : ℕ) → bound_in s a (m + k) ≡ bound_in s a m ++ bound_in s (a + m) k
unfolding bound_in
bound-split s a m zero = rw (add-zero m) (sym (append-nil (bound_in s a m)))
bound-split s a m (suc k) =
    rw (add-suc m k)
    (ap₂ (λ l i. l ++ bound_by s i) (bound-split s a m k) (sym (add_assoc a m k)) ∙ append_assoc (bound_in s a m) (bound_in s (a + m) k) (bound_by s (a + m + k)))

-- a node that binds no name, and one that binds x
none_here : {s : List ℕ} {d a i : ℕ} {K : Kind} → LaidNode s d a i K → binds_name K ≡ false → bound_by s i ≡ []
unfolding guard
none_here {s} {i = i} N h = ap (λ b. guard b (arg_at s i ∷ [])) (ap binds_name N.kind ∙ h)

one-here : {s : List ℕ} {d a i x : ℕ} {K : Kind} → LaidNode s d a i K → binds_name K ≡ true → arg_at s i ≡ x → bound_by s i ≡ x ∷ []
unfolding guard
one-here {s} {i = i} N h e = ap₂ (λ b y. guard b (y ∷ [])) (ap binds_name N.kind ∙ h) e

bound-next : (s : List ℕ) (a n : ℕ) → bound_in s a (n + 1) ≡ bound_in s a n ++ bound_by s (a + n)
unfolding bound_in
bound-next s a n = ap (bound_in s a) (add-one n)

-- a leaf, and the node over a part whose names are l
leaf-bound : {s : List ℕ} {d a : ℕ} {K : Kind} → LaidNode s d a a K → binds_name K ≡ false → bound_in s a 1 ≡ []
unfolding bound_in
leaf-bound {s} {a = a} N h = ap (bound_by s) (add-zero a) ∙ none_here N h

moved : {s : List ℕ} {d a i j : ℕ} {K : Kind} → i ≡ j → LaidNode s d a i K → LaidNode s d a j K
moved {s} {d} {a} {K = K} e N = subst (λ x. LaidNode s d a x K) e N

over : {s l : List ℕ} {d a : ℕ} {K : Kind} (n : ℕ) → bound_in s a n ≡ l → LaidNode s d a (a + n) K → binds_name K ≡ false → bound_in s a (n + 1) ≡ l
over {s} {l} {a = a} n e N h = bound-next s a n ∙ ap₂ (λ m b. m ++ b) e (none_here N h) ∙ append-nil l

-- two parts, one behind the other
both : (s : List ℕ) (a m k : ℕ) {l r : List ℕ} → bound_in s a m ≡ l → bound_in s (a + m) k ≡ r → bound_in s a (m + k) ≡ l ++ r
both s a m k p q = bound-split s a m k ∙ ap₂ (λ l r. l ++ r) p q

-- a term of nodes n, then the node that binds x, then others
binder-then : (s : List ℕ) (d a n k x : ℕ) {K : Kind} {l r : List ℕ} → bound_in s a n ≡ l → LaidNode s d a (a + n) K → binds_name K ≡ true → arg_at s (a + n) ≡ x →
    bound_in s (a + n + 1) k ≡ r → bound_in s a (n + 1 + k) ≡ l ++ x ∷ r
binder-then s d a n k x {l = l} {r} p N h e q =
    both s a (n + 1) k (bound-next s a n ∙ ap₂ (λ m b. m ++ b) p (one-here N h e)) (ap (λ i. bound_in s i k) (sym (add_assoc a n 1)) ∙ q) ∙
    append_assoc l (x ∷ []) r

-- the names that the nodes of a tree bind are the tree's
mutual
  unfolding nodes binders bound_in

  laid-bound : (t : Term) (s : List ℕ) (d a : ℕ) → Laid s d a t → bound_in s a (nodes t) ≡ binders t
  laid-bound (num z) s d a L = leaf-bound L.0 refl
  laid-bound (truth b) s d a L = leaf-bound L.0 refl
  laid-bound (name x) s d a L = leaf-bound L.0 refl
  laid-bound (field i t) s d a L = over (nodes t) (laid-bound t s d a L.0) L.1 refl
  laid-bound (rec ts) s d a L = over (nodes_l ts) (laid-bound_l ts s d a L.0) L.1 refl
  laid-bound (app choice ts) s d a L = over (nodes_l ts) (laid-bound_l ts s d a L.0) L.1 refl
  laid-bound (app (is_open n c) ts) s d a L = over (nodes_l ts) (laid-bound_l ts s d a L.0) L.1 refl
  laid-bound (bin o t u) s d a L =
      over (nodes t + nodes u) (both s a (nodes t) (nodes u) (laid-bound t s d a L.0) (laid-bound u s d (a + nodes t) L.1)) (moved (add_assoc a (nodes t) (nodes u)) L.2) refl
  laid-bound (negate t) s d a L = over (nodes t) (laid-bound t s d a L.0) L.1 refl
  laid-bound (comp m qs h) s d a L =
      over (nodes_q qs + nodes h) (both s a (nodes_q qs) (nodes h) (laid-bound_q qs s (d + 1) a L.0) (laid-bound h s (d + 1) (a + nodes_q qs) L.1))
      (moved (add_assoc a (nodes_q qs) (nodes h)) L.2) refl
  laid-bound (table k) s d a L = leaf-bound L.0 refl

  laid-bound_l : (ts : Terms) (s : List ℕ) (d a : ℕ) → LaidL s d a ts → bound_in s a (nodes_l ts) ≡ binders_l ts
  laid-bound_l tnil s d a L = refl
  laid-bound_l (tcons t ts) s d a L = both s a (nodes t) (nodes_l ts) (laid-bound t s d a L.0) (laid-bound_l ts s d (a + nodes t) L.1)

  laid-bound_q : (qs : Quals) (s : List ℕ) (d a : ℕ) → LaidQ s d a qs → bound_in s a (nodes_q qs) ≡ binders_q qs
  laid-bound_q qnil s d a L = refl
  laid-bound_q (gen x t qs) s d a L = binder-then s d a (nodes t) (nodes_q qs) x (laid-bound t s d a L.0) L.1 refl L.2 (laid-bound_q qs s d (a + nodes t + 1) L.3)
  laid-bound_q (bind x t qs) s d a L = binder-then s d a (nodes t) (nodes_q qs) x (laid-bound t s d a L.0) L.1 refl L.2 (laid-bound_q qs s d (a + nodes t + 1) L.3)
  laid-bound_q (cond t qs) s d a L =
      both s a (nodes t + 1) (nodes_q qs) (over (nodes t) (laid-bound t s d a L.0) L.1 refl)
      (ap (λ i. bound_in s i (nodes_q qs)) (sym (add_assoc a (nodes t) 1)) ∙ laid-bound_q qs s d (a + nodes t + 1) L.2)

-- ---- a name that stands once
member-snoc : (y : ℕ) (l : List ℕ) (x : ℕ) → member y (l ++ (x ∷ [])) ≡ member y l || eqb y x
unfolding member
member-snoc y [] x = or-false (eqb y x)
member-snoc y (z ∷ l) x = ap (λ b. eqb y z || b) (member-snoc y l x) ∙ sym (or_assoc (eqb y z) (member y l) (eqb y x))

neither : (a b : Bool) → not (a || b) ≡ true → (a ≡ false) × (b ≡ false)
neither true b h = absurd (true≢false (sym h))
neither false true h = absurd (true≢false (sym h))
neither false false h = (refl, refl)

other : (x y : ℕ) → eqb y x ≡ false → eqb x y ≡ false
other x y h = ne_eqb x y (λ e. eqb-false y x h (sym e))

member-front : (x : ℕ) (l m : List ℕ) → member x l ≡ true → member x (l ++ m) ≡ true
unfolding member
member-front x [] m h = absurd (true≢false (sym h))
member-front x (y ∷ l) m h = go (eqb x y) (member-front x l m) h
  where
    go : (b : Bool) → (member x l ≡ true → member x (l ++ m) ≡ true) → b || member x l ≡ true → b || member x (l ++ m) ≡ true
    go true f p = refl
    go false f p = f p

-- what distinct says of the last name
last_apart : (l : List ℕ) (x : ℕ) → distinct (l ++ (x ∷ [])) ≡ true → (distinct l ≡ true) × (member x l ≡ false)
unfolding distinct member
last_apart [] x h = (refl, refl)
last_apart (y ∷ l) x h =
    let p = (and-eq-true_iff (not (member y (l ++ (x ∷ [])))) (distinct (l ++ (x ∷ [])))).0 h in
    let q = neither (member y l) (eqb y x) (ap not (sym (member-snoc y l x)) ∙ p.0) in
    let r = last_apart l x p.1 in
    (ap₂ (λ a b. not a && b) q.0 r.0, ap₂ (λ a b. a || b) (other x y q.1) r.1)

front-distinct : (l : List ℕ) (b : Bool) (x : ℕ) → distinct (l ++ guard b (x ∷ [])) ≡ true → distinct l ≡ true
unfolding guard
front-distinct l true x h = (last_apart l x h).0
front-distinct l false x h = ap distinct (sym (append-nil l)) ∙ h

module _ (s : List ℕ) (x : ℕ) where
  -- node i binds x
  abbrev Binds : ℕ → Type 0
  Binds i = (binds_name (kind_at s i) ≡ true) × (arg_at s i ≡ x)

  here : (i : ℕ) → Binds i → bound_by s i ≡ x ∷ []
  unfolding guard
  here i b = ap₂ (λ c y. guard c (y ∷ [])) b.0 b.1

  test : (i : ℕ) → Binds i → binds_name (kind_at s i) && eqb (arg_at s i) x ≡ true
  test i b = ap₂ (λ a c. a && c) b.0 (eq-eqb (arg_at s i) x b.1)

  binds-from : (i : ℕ) → binds_name (kind_at s i) && eqb (arg_at s i) x ≡ true → Binds i
  binds-from i h = let p = (and-eq-true_iff (binds_name (kind_at s i)) (eqb (arg_at s i) x)).0 h in (p.0, eqb-true (arg_at s i) x p.1)

  bound-member : (n i : ℕ) → i < n → Binds i → member x (bound_in s 0 n) ≡ true
  unfolding bound_in
  bound-member zero i h b = absurd (omega arith)
  bound-member (suc n) i h b = rw (zero-add n) (go (eqb i n) refl (λ l. bound-member n i l b))
    where
      go : (c : Bool) → eqb i n ≡ c → (i < n → member x (bound_in s 0 n) ≡ true) → member x (bound_in s 0 n ++ bound_by s n) ≡ true
      go true e ih =
          let q : i ≡ n = eqb-true i n e in
          ap (λ l. member x (bound_in s 0 n ++ l)) (here n (subst Binds q b)) ∙ member-snoc x (bound_in s 0 n) x ∙
          ap (λ c. member x (bound_in s 0 n) || c) (eq-eqb x x refl) ∙ or-true (member x (bound_in s 0 n))
      go false e ih = let q = eqb-false i n e in member-front x (bound_in s 0 n) (bound_by s n) (ih (omega arith))

  -- the only node that binds x is the last one
  only-binder : (n : ℕ) → distinct (bound_in s 0 n) ≡ true → (i : ℕ) → i < n → Binds i → binder_of s x n ≡ i + 1
  unfolding bound_in binder_of pick
  only-binder zero D i h b = absurd (omega arith)
  only-binder (suc n) D i h b = go (binds_name (kind_at s n) && eqb (arg_at s n) x) refl (eqb i n) refl (only-binder n (front-distinct (bound_in s 0 n) (binds_name (kind_at s n)) (arg_at s n) D') i)
    where
      D' : distinct (bound_in s 0 n ++ bound_by s n) ≡ true
      D' = ap (λ j. distinct (bound_in s 0 n ++ bound_by s j)) (sym (zero-add n)) ∙ D

      go : (c : Bool) → binds_name (kind_at s n) && eqb (arg_at s n) x ≡ c → (e : Bool) → eqb i n ≡ e → (i < n → Binds i → binder_of s x n ≡ i + 1) → pick c (n + 1) (binder_of s x n) ≡ i + 1
      go true p true e ih = ap (λ j. j + 1) (sym (eqb-true i n e))
      go true p false e ih =
          let q = eqb-false i n e in
          let r = last_apart (bound_in s 0 n) x (ap (λ l. distinct (bound_in s 0 n ++ l)) (sym (here n (binds-from n p))) ∙ D') in
          absurd (true≢false (sym (bound-member n i (omega arith) b) ∙ r.1))
      go false p true e ih = absurd (true≢false (sym (test n (subst Binds (eqb-true i n e) b)) ∙ p))
      go false p false e ih = let q = eqb-false i n e in ih (omega arith) b

-- 24 holds, so each binder is the only one of its name
pub one-binder : {s : List ℕ} {d n : ℕ} (q : Question) → Laid s d 0 (as_term q) → nodes (as_term q) ≡ n → n ≤ 256 → shapes_at ≤ length s → names_hold q ≡ true →
    (i : ℕ) → i < n → binds_name (kind_at s i) ≡ true → arg_at s i < 256 → get_or (binders_of s n) (binders_at + arg_at s i) 0 ≡ i + 1
unfolding names_hold
one-binder {s} {d} {n} q L e h long N i l b small =
    let D = ((and-eq-true_iff (in_scope (as_term q) (λ x. false)) (distinct (binders (as_term q)))).0 N).1 in
    let W = ap (bound_in s 0) (sym e) ∙ laid-bound (as_term q) s d 0 L in
    binder-word (arg_at s i) small s long n h ∙ only-binder s (arg_at s i) n (ap distinct W ∙ D) i l (b, refl)

-- ---- the names of a question are below 256
mutual
  unfolding binders

  small-binders : (t : Term) → Small t → All (λ x. x < 256) (binders t)
  small-binders (num z) h = tt
  small-binders (truth b) h = tt
  small-binders (name x) h = tt
  small-binders (field i t) h = small-binders t h
  small-binders (rec ts) h = small-binders_l ts h
  small-binders (app f ts) h = small-binders_l ts h
  small-binders (bin o t u) h = all_append (λ x. x < 256) (binders t) (binders u) (small-binders t h.0) (small-binders u h.1)
  small-binders (negate t) h = small-binders t h
  small-binders (comp m qs k) h = all_append (λ x. x < 256) (binders_q qs) (binders k) (small-binders_q qs h.0) (small-binders k h.1)
  small-binders (table k) h = tt

  small-binders_l : (ts : Terms) → SmallL ts → All (λ x. x < 256) (binders_l ts)
  small-binders_l tnil h = tt
  small-binders_l (tcons t ts) h = all_append (λ x. x < 256) (binders t) (binders_l ts) (small-binders t h.0) (small-binders_l ts h.1)

  small-binders_q : (qs : Quals) → SmallQ qs → All (λ x. x < 256) (binders_q qs)
  small-binders_q qnil h = tt
  small-binders_q (gen x t qs) h = all_append (λ y. y < 256) (binders t) (x ∷ binders_q qs) (small-binders t h.1) (h.0, small-binders_q qs h.2)
  small-binders_q (bind x t qs) h = all_append (λ y. y < 256) (binders t) (x ∷ binders_q qs) (small-binders t h.1) (h.0, small-binders_q qs h.2)
  small-binders_q (cond t qs) h = all_append (λ y. y < 256) (binders t) (binders_q qs) (small-binders t h.0) (small-binders_q qs h.1)

of-all : (P : ℕ → Type 0) (l : List ℕ) (x : ℕ) → All P l → member x l ≡ true → P x
unfolding member
of-all P [] x a h = absurd (true≢false (sym h))
of-all P (y ∷ l) x a h = go (eqb x y) refl h (of-all P l x a.1)
  where
    go : (b : Bool) → eqb x y ≡ b → b || member x l ≡ true → (member x l ≡ true → P x) → P x
    go true e p f = subst P (sym (eqb-true x y e)) a.0
    go false e p f = f p

-- What `binders` leaves of words in which a question lies whose names hold: every node that binds a name is in the name's word.
pub binders-right : {s : List ℕ} {d n : ℕ} (q : Question) → Laid s d 0 (as_term q) → nodes (as_term q) ≡ n → n ≤ 256 → shapes_at ≤ length s → names_hold q ≡ true → Small (as_term q) →
    (i : ℕ) → i < n → binds_name (kind_at (binders_of s n) i) ≡ true →
    (arg_at (binders_of s n) i < 256) × (get_or (binders_of s n) (binders_at + arg_at (binders_of s n) i) 0 ≡ i + 1)
binders-right {s} {d} {n} q L e h long N small i l b =
    let w = nodes-kept s n i (omega arith) in
    let a = ap arg_of w in
    let k : binds_name (kind_at s i) ≡ true = ap (λ v. binds_name (get_or kinds (node_kind_of v) unknown)) (sym w) ∙ b in
    let W = ap (bound_in s 0) (sym e) ∙ laid-bound (as_term q) s d 0 L in
    let m : member (arg_at s i) (binders (as_term q)) ≡ true = ap (member (arg_at s i)) (sym W) ∙ bound-member s (arg_at s i) n i l (k, refl) in
    let c = of-all (λ x. x < 256) (binders (as_term q)) (arg_at s i) (small-binders (as_term q) small) m in
    (subst (λ x. x < 256) (sym a) c, ap (λ x. get_or (binders_of s n) (binders_at + x) 0) a ∙ one-binder q L e h long N i l k c)
