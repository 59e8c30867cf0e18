-- Joins and outers: what grows from one row.
use mathlib.Core.Path.{◌≡◌, refl, sym, ap, ap₂, ◌∙◌}
use mathlib.Core.List.{List, [], ◌∷◌, ◌++◌, append_assoc, append-nil}
use mathlib.Core.Bool.{Bool, true, false, not}
use Prim.Native.Nat.{ℕ, suc, ◌<◌}
use native.Mathlib.Omega.{arith}
use lib.ListN.{length, take}
use lib.Seq.{take_at}
use Rattle.spec_calculus.specs.Lists.{bind_l, guard, pick}
use Rattle.spec_calculus.specs.Value.{Value, Tables}
use Rattle.spec_calculus.specs.Monoid.{Fold}
use Rattle.spec_calculus.specs.Meaning.{Env}
use Rattle.spec_calculus.proofs.Lists.{bind-bind, bind-one, bind-guard, guard-swap, guard-bind, All, Some, all_append, all-guard, all-bind, all-imp, some-bind, bind_all}
use Rattle.spec_normal_form.specs.Form.{Form}
use Rattle.spec_plan.specs.Plan.{PTerm, Source, Op}
use Rattle.spec_plan.specs.Operators.{Place, row, pad, Row, Stream, meets, whole, source_rows, numbered, matches, kept, matches_or_pad, number, same, apply, exec}
use Rattle.spec_plan.specs.Planner.{free, Slots, term_l, conj, Gen, source, sift, slot, slots, after, grows}
use Rattle.spec_plan.proofs.StreamRows.{length-snoc, whole_row, whole-pad, eqb-off, same-last, Apart, apart-bind}
use Rattle.spec_plan.proofs.ConditionScope.{clear}
use Rattle.spec_plan.proofs.ConditionHomes.{walks, grows-walks}
use Rattle.spec_plan.proofs.Conditions.{bind_g, hold, placed}
use Rattle.spec_plan.proofs.Slots.{env_of, Stable, slot-stable, env-slot, conj-all, early-ok}

pub exec-append : (F : Fold) (T : Tables) (a b : List Op) (s : Stream) → exec F T (a ++ b) s ≡ exec F T b (exec F T a s)
unfolding exec
exec-append F T [] b s = refl
exec-append F T (o ∷ a) b s = exec-append F T a b (apply F T o s)

-- u has grown from r to k places
abbrev pub Grew : ℕ → Row → Row → Type 0
Grew k r u = (y : Row) × (u ≡ r ++ y) × (length u ≡ k)

pub grew-more : (j k : ℕ) (r u x : Row) → length r ≡ j → Grew k r u → take j (u ++ x) ≡ r
grew-more j k r u x e g = ap (take j) (ap (λ z. z ++ x) g.1 ∙ append_assoc r g.0 x) ∙ take_at r (g.0 ++ x) j e

pub grew-take : (j k : ℕ) (r u : Row) → length r ≡ j → Grew k r u → take j u ≡ r
grew-take j k r u e g = ap (take j) (sym (append-nil u)) ∙ grew-more j k r u [] e g

-- What an operator that works on each row alone has to bring: it appends one place, it makes rows apart, and its rows
-- without a pad are the table rows that meet the condition.
pub record Local (T : Tables) (f : Source → PTerm → Row → Stream) : Type 0 where
  pub on : (t : Source) (c : PTerm) (r : Row) → All (λ u. Grew (suc (length r)) r u) (f t c r)
  pub apart : (t : Source) (c : PTerm) (r : Row) → Apart (f t c r)
  pub live : (t : Source) (c : PTerm) (r : Row) (K : Row → List Value) → bind_l (f t c r) (λ u. guard (whole u) (K u))
      ≡ guard (whole r) (bind_l (numbered 0 (source_rows T t)) (λ p. guard (meets c (r ++ p ∷ [])) (K (r ++ p ∷ []))))

-- join
bind-numbered : {B : Type 0} (n : ℕ) (l : List Value) (f : Place → List B) (g : Value → List B) → ((i : ℕ) (v : Value) → f (row i v) ≡ g v) → bind_l (numbered n l) f ≡ bind_l l g
unfolding numbered bind_l
bind-numbered n [] f g h = refl
bind-numbered n (v ∷ l) f g h = ap₂ ◌++◌ (h n v) (bind-numbered (suc n) l f g h)

all-numbered : (P : Place → Type 0) (n : ℕ) (l : List Value) → ((i : ℕ) (v : Value) → P (row i v)) → All P (numbered n l)
unfolding numbered
all-numbered P n [] h = tt
all-numbered P n (v ∷ l) h = (h n v, all-numbered P (suc n) l h)

module _ (c : PTerm) (r : Row) where
  abbrev step : Place → Stream
  step p = guard (meets c (r ++ p ∷ [])) ((r ++ p ∷ []) ∷ [])

  later : (m n : ℕ) (v : Value) (l : List Value) → m < n → All (λ u. same (r ++ row m v ∷ []) u ≡ false) (bind_l (numbered n l) step)
  unfolding numbered bind_l number
  later m n v [] h = tt
  later m n v (w ∷ l) h = all_append (λ u. same (r ++ row m v ∷ []) u ≡ false) (step (row n w)) (bind_l (numbered (suc n) l) step)
      (all-guard (λ u. same (r ++ row m v ∷ []) u ≡ false) (meets c (r ++ row n w ∷ [])) ((r ++ row n w ∷ []) ∷ []) (same-last r (row m v) (row n w) ∙ eqb-off (suc m) (suc n) (λ e. omega arith), tt))
      (later m (suc n) v l (omega arith))

  step-apart : (n : ℕ) (l : List Value) → Apart (bind_l (numbered n l) step)
  unfolding numbered bind_l
  step-apart n [] = tt
  step-apart n (v ∷ l) = go (meets c (r ++ row n v ∷ [])) (later n (suc n) v l (omega arith)) (step-apart (suc n) l)
    where
      go : (b : Bool) → All (λ u. same (r ++ row n v ∷ []) u ≡ false) (bind_l (numbered (suc n) l) step) → Apart (bind_l (numbered (suc n) l) step) → Apart (guard b ((r ++ row n v ∷ []) ∷ []) ++ bind_l (numbered (suc n) l) step)
      go true a s = unfold guard in (a, s)
      go false a s = unfold guard in s

module _ (T : Tables) (t : Source) (c : PTerm) (r : Row) where
  -- what holds of each table row behind r holds of each match
  matches-all : (P : Row → Type 0) → ((i : ℕ) (v : Value) → P (r ++ row i v ∷ [])) → All P (matches T t c r)
  unfolding matches
  matches-all P h = all-bind (λ p. P (r ++ p ∷ [])) P (step c r) (numbered 0 (source_rows T t)) (all-numbered (λ p. P (r ++ p ∷ [])) 0 (source_rows T t) h)
      (λ p h. all-guard P (meets c (r ++ p ∷ [])) ((r ++ p ∷ []) ∷ []) (h, tt))

  matches-on : All (λ u. Grew (suc (length r)) r u) (matches T t c r)
  matches-on = matches-all (Grew (suc (length r)) r) (λ i v. (row i v ∷ [], refl, length-snoc r (row i v)))

  pub matches-whole : whole r ≡ true → All (λ u. whole u ≡ true) (matches T t c r)
  matches-whole e = matches-all (λ u. whole u ≡ true) (λ i v. whole_row r i v ∙ e)

  matches-apart : Apart (matches T t c r)
  unfolding matches
  matches-apart = step-apart c r 0 (source_rows T t)

  matches-live : (K : Row → List Value) → bind_l (matches T t c r) (λ u. guard (whole u) (K u))
      ≡ guard (whole r) (bind_l (numbered 0 (source_rows T t)) (λ p. guard (meets c (r ++ p ∷ [])) (K (r ++ p ∷ []))))
  unfolding matches
  matches-live K =
      bind-bind (numbered 0 (source_rows T t)) (step c r) (λ u. guard (whole u) (K u))
      ∙ bind_all (λ p. whole (r ++ p ∷ []) ≡ whole r) (λ p. bind_l (step c r p) (λ u. guard (whole u) (K u))) (λ p. guard (whole r) (guard (meets c (r ++ p ∷ [])) (K (r ++ p ∷ [])))) (numbered 0 (source_rows T t))
      (all-numbered (λ p. whole (r ++ p ∷ []) ≡ whole r) 0 (source_rows T t) (whole_row r))
      (λ p e. guard-bind (meets c (r ++ p ∷ [])) ((r ++ p ∷ []) ∷ []) (λ u. guard (whole u) (K u))
      ∙ ap (guard (meets c (r ++ p ∷ []))) (one (r ++ p ∷ []) ∙ ap (λ b. guard b (K (r ++ p ∷ []))) e)
      ∙ guard-swap (meets c (r ++ p ∷ [])) (whole r) (K (r ++ p ∷ [])))
      ∙ bind-guard (whole r) (numbered 0 (source_rows T t)) (λ p. guard (meets c (r ++ p ∷ [])) (K (r ++ p ∷ [])))
    where
      one : (u : Row) → bind_l (u ∷ []) (λ u. guard (whole u) (K u)) ≡ guard (whole u) (K u)
      one u = unfold bind_l in append-nil (guard (whole u) (K u))

pub join-local : (T : Tables) → Local T (matches T)
join-local T = record { on = matches-on T; apart = matches-apart T; live = matches-live T }

-- outer
kept_on : (r : Row) (s : Stream) → All (λ u. Grew (suc (length r)) r u) s → All (λ u. Grew (suc (length r)) r u) (kept r s)
unfolding kept
kept_on r [] h = ((pad ∷ [], refl, length-snoc r pad), tt)
kept_on r (u ∷ s) h = h

kept-apart : (r : Row) (s : Stream) → Apart s → Apart (kept r s)
unfolding kept
kept-apart r [] h = (tt, tt)
kept-apart r (u ∷ s) h = h

pub kept-some : (r : Row) (s : Stream) → Some (kept r s)
unfolding kept
kept-some r [] = tt
kept-some r (u ∷ s) = tt

kept-live : (r : Row) (s : Stream) (K : Row → List Value) → bind_l (kept r s) (λ u. guard (whole u) (K u)) ≡ bind_l s (λ u. guard (whole u) (K u))
unfolding kept bind_l guard
kept-live r [] K = append-nil (guard (whole (r ++ pad ∷ [])) (K (r ++ pad ∷ []))) ∙ ap (λ b. guard b (K (r ++ pad ∷ []))) (whole-pad r)
kept-live r (u ∷ s) K = refl

guard-apart : (b : Bool) (s : Stream) → Apart s → Apart (guard b s)
unfolding guard
guard-apart true s h = h
guard-apart false s h = tt

guard-self : {A : Type 0} (b : Bool) (l : List A) → guard b (guard b l) ≡ guard b l
unfolding guard
guard-self true l = refl
guard-self false l = refl

pub outer-local : (T : Tables) → Local T (matches_or_pad T)
unfolding matches_or_pad
outer-local T = record {
  on = λ t c r. kept_on r (guard (whole r) (matches T t c r)) (all-guard (Grew (suc (length r)) r) (whole r) (matches T t c r) (matches-on T t c r));
  apart = λ t c r. kept-apart r (guard (whole r) (matches T t c r)) (guard-apart (whole r) (matches T t c r) (matches-apart T t c r));
  live = λ t c r K. kept-live r (guard (whole r) (matches T t c r)) K
      ∙ guard-bind (whole r) (matches T t c r) (λ u. guard (whole u) (K u))
      ∙ ap (guard (whole r)) (matches-live T t c r K)
      ∙ guard-self (whole r) (bind_l (numbered 0 (source_rows T t)) (λ p. guard (meets c (r ++ p ∷ [])) (K (r ++ p ∷ []))));
}

outer-some : (T : Tables) (t : Source) (c : PTerm) (r : Row) → Some (matches_or_pad T t c r)
unfolding matches_or_pad
outer-some T t c r = kept-some r (guard (whole r) (matches T t c r))

-- the generators of a comprehension, with the conditions placed at them: what grows from one row
unfoldable pub grown : (Source → PTerm → Row → Stream) → List Gen → List Form → ℕ → Slots → Row → Stream
grown f [] cs k c r = r ∷ []
grown f (g ∷ gs) cs k c r = bind_l (f (source g) (conj (term_l (sift (clear gs) cs) (slot g k c) (suc k))) r) (grown f gs (sift (λ t. not (clear gs t)) cs) (suc k) (slot g k c))

module _ (F : Fold) (T : Tables) (o : Source → PTerm → Op) (f : Source → PTerm → Row → Stream) (h : (t : Source) (c : PTerm) (s : Stream) → apply F T (o t c) s ≡ bind_l s (f t c)) where
  exec-walks : (gs : List Gen) (cs : List Form) (k : ℕ) (c : Slots) (s : Stream) → exec F T (walks o gs cs k c) s ≡ bind_l s (grown f gs cs k c)
  unfolding exec walks grown
  exec-walks [] cs k c s = sym (bind-one s)
  exec-walks (g ∷ gs) cs k c s =
      let a : PTerm = conj (term_l (sift (clear gs) cs) (slot g k c) (suc k)) in
      let G : Row → Stream = grown f gs (sift (λ t. not (clear gs t)) cs) (suc k) (slot g k c) in
      exec-walks gs (sift (λ t. not (clear gs t)) cs) (suc k) (slot g k c) (apply F T (o (source g) a) s) ∙ ap (λ x. bind_l x G) (h (source g) a s) ∙ bind-bind s (f (source g) a) G

  -- the planner's operators for some generators work on each row alone
  pub exec-grows : (gs : List Gen) (cs : List Form) (k : ℕ) (c : Slots) (s : Stream) → exec F T (grows o gs cs k c) s ≡ bind_l s (grown f gs cs k c)
  exec-grows gs cs k c s = ap (λ os. exec F T os s) (grows-walks o gs cs k c) ∙ exec-walks gs cs k c s

sift-keeps : (P : Form → Type 0) (p : Form → Bool) (ts : List Form) → All P ts → All P (sift p ts)
unfolding sift
sift-keeps P p [] h = tt
sift-keeps P p (t ∷ ts) h = go (p t) h.0 (sift-keeps P p ts h.1)
  where
    go : (b : Bool) → P t → All P (sift p ts) → All P (pick b (t ∷ sift p ts) (sift p ts))
    go true a h = unfold pick in (a, h)
    go false a h = unfold pick in h

module _ (T : Tables) (f : Source → PTerm → Row → Stream) (L : Local T f) where
  pub grown-on : (gs : List Gen) (cs : List Form) (k : ℕ) (c : Slots) (r : Row) → length r ≡ k → All (λ u. Grew (after gs k) r u) (grown f gs cs k c r)
  unfolding grown after
  grown-on [] cs k c r e = (([], sym (append-nil r), e), tt)
  grown-on (g ∷ gs) cs k c r e =
      let a : PTerm = conj (term_l (sift (clear gs) cs) (slot g k c) (suc k)) in
      let cs₁ : List Form = sift (λ t. not (clear gs t)) cs in
      all-bind (Grew (suc (length r)) r) (Grew (after gs (suc k)) r) (grown f gs cs₁ (suc k) (slot g k c)) (f (source g) a r) (L.on (source g) a r)
      (λ w gw. all-imp (Grew (after gs (suc k)) w) (Grew (after gs (suc k)) r) (grown f gs cs₁ (suc k) (slot g k c) w) (grown-on gs cs₁ (suc k) (slot g k c) w (gw.2 ∙ ap suc e))
      (λ u gu. (gw.0 ++ gu.0, gu.1 ∙ ap (λ x. x ++ gu.0) gw.1 ∙ append_assoc r gw.0 gu.0, gu.2)))

  pub grown-apart : (gs : List Gen) (cs : List Form) (k : ℕ) (c : Slots) (r : Row) → length r ≡ k → Apart (grown f gs cs k c r)
  unfolding grown
  grown-apart [] cs k c r e = (tt, tt)
  grown-apart (g ∷ gs) cs k c r e =
      let a : PTerm = conj (term_l (sift (clear gs) cs) (slot g k c) (suc k)) in
      let cs₁ : List Form = sift (λ t. not (clear gs t)) cs in
      apart-bind (suc k) (grown f gs cs₁ (suc k) (slot g k c)) (f (source g) a r) (L.apart (source g) a r)
      (all-imp (Grew (suc (length r)) r) (λ w. Apart (grown f gs cs₁ (suc k) (slot g k c) w) × All (λ u. take (suc k) u ≡ w) (grown f gs cs₁ (suc k) (slot g k c) w)) (f (source g) a r) (L.on (source g) a r)
      (λ w gw. (
        grown-apart gs cs₁ (suc k) (slot g k c) w (gw.2 ∙ ap suc e),
        all-imp (Grew (after gs (suc k)) w) (λ u. take (suc k) u ≡ w) (grown f gs cs₁ (suc k) (slot g k c) w) (grown-on gs cs₁ (suc k) (slot g k c) w (gw.2 ∙ ap suc e)) (λ u gu. grew-take (suc k) (after gs (suc k)) w u (gw.2 ∙ ap suc e) gu),
      )))

  -- the rows without a pad are the environments of the loops
  pub grown-live : (F : Fold) (gs : List Gen) (cs : List Form) (k : ℕ) (c : Slots) (r : Row) → Stable k c → length r ≡ k → All (λ t. free t ≡ true) cs → (K : Env → List Value)
      → bind_l (grown f gs cs k c r) (λ u. guard (whole u) (K (env_of (slots gs k c) u))) ≡ guard (whole r) (placed F T gs cs K (env_of c r))
  unfolding grown slots placed bind_l
  grown-live F [] cs k c r s e h K = append-nil (guard (whole r) (K (env_of c r)))
  grown-live F (g ∷ gs) cs k c r s e h K =
      let here : List Form = sift (clear gs) cs in
      let cs₁ : List Form = sift (λ t. not (clear gs t)) cs in
      let c₁ : Slots = slot g k c in
      let a : PTerm = conj (term_l here c₁ (suc k)) in
      bind-bind (f (source g) a r) (grown f gs cs₁ (suc k) c₁) (λ u. guard (whole u) (K (env_of (slots gs (suc k) c₁) u)))
      ∙ bind_all (Grew (suc (length r)) r) (λ w. bind_l (grown f gs cs₁ (suc k) c₁ w) (λ u. guard (whole u) (K (env_of (slots gs (suc k) c₁) u)))) (λ w. guard (whole w) (placed F T gs cs₁ K (env_of c₁ w))) (f (source g) a r) (L.on (source g) a r)
      (λ w gw. grown-live F gs cs₁ (suc k) c₁ w (slot-stable g k c s) (gw.2 ∙ ap suc e) (sift-keeps (λ t. free t ≡ true) (λ t. not (clear gs t)) cs h) K)
      ∙ L.live (source g) a r (λ w. placed F T gs cs₁ K (env_of c₁ w))
      ∙ ap (guard (whole r)) (bind-numbered 0 (source_rows T (source g)) (λ p. guard (meets a (r ++ p ∷ [])) (placed F T gs cs₁ K (env_of c₁ (r ++ p ∷ [])))) (λ v. guard (hold F T here (bind_g g v (env_of c r))) (placed F T gs cs₁ K (bind_g g v (env_of c r))))
      (λ i v. ap₂ guard
      (conj-all (term_l here c₁ (suc k)) (r ++ row i v ∷ []) ∙ early-ok F T c₁ (r ++ row i v ∷ []) here (suc k) (sift-keeps (λ t. free t ≡ true) (clear gs) cs h) ∙ ap (hold F T here) (env-slot g k c s r e i v))
      (ap (placed F T gs cs₁ K) (env-slot g k c s r e i v))))

-- an outer loses no row
pub grown-some : (T : Tables) (gs : List Gen) (cs : List Form) (k : ℕ) (c : Slots) (r : Row) → Some (grown (matches_or_pad T) gs cs k c r)
unfolding grown
grown-some T [] cs k c r = tt
grown-some T (g ∷ gs) cs k c r =
    let a : PTerm = conj (term_l (sift (clear gs) cs) (slot g k c) (suc k)) in
    let cs₁ : List Form = sift (λ t. not (clear gs t)) cs in
    some-bind (grown (matches_or_pad T) gs cs₁ (suc k) (slot g k c)) (matches_or_pad T (source g) a r) (outer-some T (source g) a r) (λ w. grown-some T gs cs₁ (suc k) (slot g k c) w)

-- a join makes no pad
pub grown-whole : (T : Tables) (gs : List Gen) (cs : List Form) (k : ℕ) (c : Slots) (r : Row) → whole r ≡ true → All (λ u. whole u ≡ true) (grown (matches T) gs cs k c r)
unfolding grown
grown-whole T [] cs k c r e = (e, tt)
grown-whole T (g ∷ gs) cs k c r e =
    let a : PTerm = conj (term_l (sift (clear gs) cs) (slot g k c) (suc k)) in
    let cs₁ : List Form = sift (λ t. not (clear gs t)) cs in
    all-bind (λ u. whole u ≡ true) (λ u. whole u ≡ true) (grown (matches T) gs cs₁ (suc k) (slot g k c)) (matches T (source g) a r) (matches-whole T (source g) a r e)
    (λ w h. grown-whole T gs cs₁ (suc k) (slot g k c) w h)
