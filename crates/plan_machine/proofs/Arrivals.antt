-- A plan's operators over a whole stream, row by row: what of each row comes to the end, and how many table rows are offered to
-- it and to all that grows from it.
use native.Mathlib.Omega.{arith}
use mathlib.Core.Path.{◌≡◌, refl, sym, ap, ap₂, ◌∙◌, subst}
use mathlib.Core.List.{List, [], ◌∷◌, ◌++◌, map, append_assoc, append-nil}
use mathlib.Core.Bool.{Bool, true, false}
use Prim.Native.Nat.{ℕ, suc, ◌+◌, ◌*◌}
use lib.ListN.{length, take}
use lib.Seq.{take_at}
use Rattle.spec_calculus.specs.Lists.{bind_l, guard, pick}
use Rattle.spec_calculus.specs.Value.{Value, Tables}
use Rattle.spec_calculus.specs.Monoid.{Fold}
use Rattle.spec_calculus.proofs.Lists.{bind-bind, bind-map, bind-one, All, Some, all-bind, all_map, all-imp, some-bind}
use Rattle.spec_plan.specs.Plan.{PTerm, Source, Op, join, outer}
use Rattle.spec_plan.specs.Operators.{val, Row, Stream, whole, source_rows, matches, matches_or_pad, heads, apply, exec}
use Rattle.spec_plan.proofs.StreamRows.{length-snoc, Apart, apart-differ, apart-bind}
use Rattle.spec_plan.proofs.Nest.{nest-all}
use Rattle.spec_plan.proofs.Growth.{exec-append, Grew, grew-take, Local, join-local, kept-some, outer-local}
use Rattle.plan_machine.specs.Program.{End, Program, end, loop, inner, end_of, nest_at, operators}
use Rattle.plan_machine.specs.Offers.{wholes, offers_at, offers_in}

unfoldable pub sum_by : {A : Type 0} → (A → ℕ) → List A → ℕ
sum_by f [] = 0
sum_by f (a ∷ l) = f a + sum_by f l

pub sum-append : {A : Type 0} (f : A → ℕ) (l m : List A) → sum_by f (l ++ m) ≡ sum_by f l + sum_by f m
unfolding sum_by
sum-append f [] m = omega arith
sum-append f (a ∷ l) m = ap (λ n. f a + n) (sum-append f l m) ∙ omega arith

sum-bind : {A B : Type 0} (f : B → ℕ) (l : List A) (g : A → List B) → sum_by f (bind_l l g) ≡ sum_by (λ a. sum_by f (g a)) l
unfolding sum_by bind_l
sum-bind f [] g = refl
sum-bind f (a ∷ l) g = sum-append f (g a) (bind_l l g) ∙ ap (λ n. sum_by f (g a) + n) (sum-bind f l g)

sum-map : {A B : Type 0} (f : B → ℕ) (l : List A) (g : A → B) → sum_by f (map g l) ≡ sum_by (λ a. f (g a)) l
unfolding sum_by
sum-map f [] g = refl
sum-map f (a ∷ l) g = ap (λ n. f (g a) + n) (sum-map f l g)

sum-add : {A : Type 0} (f g : A → ℕ) (l : List A) → sum_by f l + sum_by g l ≡ sum_by (λ a. f a + g a) l
unfolding sum_by
sum-add f g [] = refl
sum-add f g (a ∷ l) = omega (arith, sum-add f g l)

sum-zero : {A : Type 0} (l : List A) → 0 ≡ sum_by (λ a. 0) l
unfolding sum_by
sum-zero [] = refl
sum-zero (a ∷ l) = omega (arith, sum-zero l)

sum-whole : (n : ℕ) (s : Stream) → wholes s * n ≡ sum_by (λ r. pick (whole r) n 0) s
unfolding sum_by wholes
sum-whole n [] = omega arith
sum-whole n (r ∷ s) = go (whole r) (wholes s) (sum_by (λ r. pick (whole r) n 0) s) (sum-whole n s)
  where
    go : (b : Bool) (k j : ℕ) → k * n ≡ j → pick b (suc k) k * n ≡ pick b n 0 + j
    go true k j h = unfold pick in let e : suc k * n ≡ n + k * n = omega arith in e ∙ ap (λ i. n + i) h
    go false k j h = unfold pick in h ∙ omega arith

-- u has grown from r
abbrev pub From : Row → Row → Type 0
From r u = (y : Row) × (u ≡ r ++ y)

from-take : (k : ℕ) (r u : Row) → length r ≡ k → From r u → take k u ≡ r
from-take k r u e g = ap (take k) g.1 ∙ take_at r g.0 k e

from-from : (r u w : Row) → From r u → From u w → From r w
from-from r u w g h = (g.0 ++ h.0, h.1 ∙ ap (λ x. x ++ h.0) g.1 ∙ append_assoc r g.0 h.0)

-- rows apart, each with something behind it, are apart
apart-map : (k : ℕ) (g : Row → Row) (s : Stream) → Apart s → All (λ r. take k (g r) ≡ r) s → Apart (map g s)
apart-map k g s a h = subst Apart (sym (bind-map s g (λ r. r ∷ [])) ∙ bind-one (map g s))
    (apart-bind k (λ r. g r ∷ []) s a (all-imp (λ r. take k (g r) ≡ r) (λ r. Apart (g r ∷ []) × All (λ u. take k u ≡ r) (g r ∷ [])) s h (λ r e. ((tt, tt), (e, tt)))))

module _ (F : Fold) (T : Tables) where
  -- What joins and outers have in common: each works on a row alone, and offers each table row to each row without a pad.
  pub record Way : Type 0 where
    pub op : Source → PTerm → Op
    pub grow : Source → PTerm → Row → Stream
    pub local : Local T grow
    pub applies : (t : Source) (c : PTerm) (s : Stream) → apply F T (op t c) s ≡ bind_l s (grow t c)
    pub offers : (t : Source) (c : PTerm) (s : Stream) → offers_at T (op t c) s ≡ wholes s * length (source_rows T t)

  unfoldable pub joins : Way
  unfolding apply offers_at
  joins = record { op = join; grow = matches T; local = join-local T; applies = λ t c s. refl; offers = λ t c s. refl }

  unfoldable pub outers : Way
  unfolding apply offers_at
  outers = record { op = outer; grow = matches_or_pad T; local = outer-local T; applies = λ t c s. refl; offers = λ t c s. refl }

  -- the heads that a row brings to a nest
  abbrev pub gives : End → Row → List Value
  gives e u = guard (whole u) (heads e.head e.condition u)

  abbrev pub valued : End → (Row → Stream) → Row → Row
  valued e g r = r ++ val (F e.monoid (bind_l (g r) (gives e))) ∷ []

  -- what of a row comes to the end of a program
  unfoldable pub arrivals : (Source → PTerm → Row → Stream) → Program → Row → Stream
  arrivals f (end e) r = r ∷ []
  arrivals f (loop t c p) r = bind_l (f t c r) (λ u. arrivals f p u)
  arrivals f (inner i p) r = arrivals f p (valued (end_of i) (λ u. arrivals (matches_or_pad T) i u) r)

  -- how many table rows are offered to it, and to all that grows from it
  unfoldable pub offered : (Source → PTerm → Row → Stream) → Program → Row → ℕ
  offered f (end e) r = 0
  offered f (loop t c p) r = pick (whole r) (length (source_rows T t)) 0 + sum_by (λ u. offered f p u) (f t c r)
  offered f (inner i p) r = offered (matches_or_pad T) i r + offered f p (valued (end_of i) (arrivals (matches_or_pad T) i) r)

  arrivals-from : (f : Source → PTerm → Row → Stream) → Local T f → (p : Program) (r : Row) → All (From r) (arrivals f p r)
  unfolding arrivals
  arrivals-from f L (end e) r = (([], sym (append-nil r)), tt)
  arrivals-from f L (loop t c p) r = all-bind (Grew (suc (length r)) r) (From r) (arrivals f p) (f t c r) (L.on t c r)
      (λ u g. all-imp (From u) (From r) (arrivals f p u) (arrivals-from f L p u) (λ w h. from-from r u w (g.0, g.1) h))
  arrivals-from f L (inner i p) r =
      let u : Row = valued (end_of i) (arrivals (matches_or_pad T) i) r in
      all-imp (From u) (From r) (arrivals f p u) (arrivals-from f L p u) (λ w h. from-from r u w (_, refl) h)

  -- an outer loses no row
  arrivals-some : (p : Program) (r : Row) → Some (arrivals (matches_or_pad T) p r)
  unfolding arrivals matches_or_pad
  arrivals-some (end e) r = tt
  arrivals-some (loop t c p) r = some-bind (arrivals (matches_or_pad T) p) (matches_or_pad T t c r) (kept-some r (guard (whole r) (matches T t c r))) (λ u. arrivals-some p u)
  arrivals-some (inner i p) r = arrivals-some p (valued (end_of i) (arrivals (matches_or_pad T) i) r)

  abbrev Wide : ℕ → Stream → Type 0
  Wide k s = All (λ r. length r ≡ k) s

  module _ (w : Way) (t : Source) (c : PTerm) (k : ℕ) (s : Stream) (h : Wide k s) where
    grow-wide : Wide (suc k) (bind_l s (w.grow t c))
    grow-wide = all-bind (λ r. length r ≡ k) (λ r. length r ≡ suc k) (w.grow t c) s h
        (λ r e. all-imp (Grew (suc (length r)) r) (λ u. length u ≡ suc k) (w.grow t c r) (w.local.on t c r) (λ u g. g.2 ∙ ap suc e))

    grow-apart : Apart s → Apart (bind_l s (w.grow t c))
    grow-apart a = apart-bind k (w.grow t c) s a (all-imp (λ r. length r ≡ k) (λ r. Apart (w.grow t c r) × All (λ u. take k u ≡ r) (w.grow t c r)) s h
        (λ r e. (w.local.apart t c r, all-imp (Grew (suc (length r)) r) (λ u. take k u ≡ r) (w.grow t c r) (w.local.on t c r) (λ u g. grew-take k (suc (length r)) r u e g))))

  module _ (e : End) (g : Row → Stream) (k : ℕ) (s : Stream) (h : Wide k s) where
    valued-wide : Wide (suc k) (map (valued e g) s)
    valued-wide = all_map (λ r. length r ≡ suc k) (valued e g) s (all-imp (λ r. length r ≡ k) (λ r. length (valued e g r) ≡ suc k) s h (λ r q. length-snoc r (val (F e.monoid (bind_l (g r) (gives e)))) ∙ ap suc q))

    valued-apart : Apart s → Apart (map (valued e g) s)
    valued-apart a = apart-map k (valued e g) s a (all-imp (λ r. length r ≡ k) (λ r. take k (valued e g r) ≡ r) s h (λ r q. take_at r (val (F e.monoid (bind_l (g r) (gives e))) ∷ []) k q))

  -- a nest over all that has come to it from each row
  nest-valued : (i : Program) (k : ℕ) (s : Stream) → Wide k s → Apart s → apply F T (nest_at k (end_of i)) (bind_l s (arrivals (matches_or_pad T) i)) ≡ map (valued (end_of i) (arrivals (matches_or_pad T) i)) s
  unfolding apply nest_at
  nest-valued i k s h a =
      let f : Row → Stream = arrivals (matches_or_pad T) i in
      nest-all k (end_of i).head (end_of i).condition f F (end_of i).monoid s (apart-differ s a)
      (all-imp (λ r. length r ≡ k) (λ r. Some (f r) × All (λ u. take k u ≡ r) (f r)) s h
      (λ r e. (arrivals-some i r, all-imp (From r) (λ u. take k u ≡ r) (f r) (arrivals-from (matches_or_pad T) (outer-local T) i r) (λ u g. from-take k r u e g))))

  -- The operators of a program over ANY stream of rows of k places, all apart, give what comes to its end of each row alone.
  pub exec-arrivals : (w : Way) (p : Program) (k : ℕ) (s : Stream) → Wide k s → Apart s → exec F T (operators w.op k p) s ≡ bind_l s (arrivals w.grow p)
  unfolding operators exec arrivals outers
  exec-arrivals w (end e) k s h a = sym (bind-one s)
  exec-arrivals w (loop t c p) k s h a = ap (exec F T (operators w.op (suc k) p)) (w.applies t c s)
      ∙ exec-arrivals w p (suc k) (bind_l s (w.grow t c)) (grow-wide w t c k s h) (grow-apart w t c k s h a) ∙ bind-bind s (w.grow t c) (arrivals w.grow p)
  exec-arrivals w (inner i p) k s h a =
      let f : Row → Stream = arrivals (matches_or_pad T) i in
      let g : Row → Row = valued (end_of i) f in
      exec-append F T (operators outer k i) (nest_at k (end_of i) ∷ operators w.op (suc k) p) s
      ∙ ap (exec F T (operators w.op (suc k) p)) (ap (apply F T (nest_at k (end_of i))) (exec-arrivals outers i k s h a) ∙ nest-valued i k s h a)
      ∙ exec-arrivals w p (suc k) (map g s) (valued-wide (end_of i) f k s h) (valued-apart (end_of i) f k s h a) ∙ bind-map s g (arrivals w.grow p)

  offers-append : (os ps : List Op) (s : Stream) → offers_in F T (os ++ ps) s ≡ offers_in F T os s + offers_in F T ps (exec F T os s)
  unfolding offers_in exec
  offers-append [] ps s = omega arith
  offers-append (o ∷ os) ps s = ap (λ n. offers_at T o s + n) (offers-append os ps (apply F T o s)) ∙ omega arith

  nest-offers : (k : ℕ) (e : End) (s : Stream) → offers_at T (nest_at k e) s ≡ 0
  unfolding offers_at nest_at
  nest-offers k e s = refl

  -- And the table rows that they offer are those offered to each row alone.
  pub offers-offered : (w : Way) (p : Program) (k : ℕ) (s : Stream) → Wide k s → Apart s → offers_in F T (operators w.op k p) s ≡ sum_by (offered w.grow p) s
  unfolding operators offers_in offered outers
  offers-offered w (end e) k s h a = sum-zero s
  offers-offered w (loop t c p) k s h a =
      let n : ℕ = length (source_rows T t) in
      ap₂ ◌+◌ (w.offers t c s ∙ sum-whole n s)
      (ap (offers_in F T (operators w.op (suc k) p)) (w.applies t c s) ∙ offers-offered w p (suc k) (bind_l s (w.grow t c)) (grow-wide w t c k s h) (grow-apart w t c k s h a) ∙ sum-bind (offered w.grow p) s (w.grow t c))
      ∙ sum-add (λ r. pick (whole r) n 0) (λ r. sum_by (offered w.grow p) (w.grow t c r)) s
  offers-offered w (inner i p) k s h a =
      let f : Row → Stream = arrivals (matches_or_pad T) i in
      let g : Row → Row = valued (end_of i) f in
      let o : Op = nest_at k (end_of i) in
      let os : List Op = operators w.op (suc k) p in
      let x : Stream = exec F T (operators outer k i) s in
      offers-append (operators outer k i) (o ∷ os) s
      ∙ ap₂ ◌+◌ (offers-offered outers i k s h a)
      (ap₂ ◌+◌ (nest-offers k (end_of i) x) (ap (offers_in F T os) (ap (apply F T o) (exec-arrivals outers i k s h a) ∙ nest-valued i k s h a) ∙ offers-offered w p (suc k) (map g s) (valued-wide (end_of i) f k s h) (valued-apart (end_of i) f k s h a) ∙ sum-map (offered w.grow p) s g) ∙ omega arith)
      ∙ sum-add (offered (matches_or_pad T) i) (λ r. offered w.grow p (g r)) s
