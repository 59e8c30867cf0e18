-- A value folded anew: each collection in it, the innermost first, is made again of its elements by an entry.
use mathlib.Core.Path.{◌≡◌, refl, sym, ap, ap₂, ◌∙◌, fun_ext}
use mathlib.Core.List.{List, [], ◌∷◌, map}
use mathlib.Core.Bool.{Bool, true, false, ◌&&◌, ◌||◌, true≢false}
use Prim.Native.Nat.{ℕ, zero, suc}
use lib.IntN.{ℤ, ◌+ℤ◌, ◌-ℤ◌, ◌*ℤ◌}
use lib.Signed.{lt_z}
use Rattle.spec_calendar.specs.Hours.{open_at}
use Rattle.spec_calculus.specs.Lists.{pick}
use Rattle.spec_calculus.specs.Syntax.{Collection, Monoid, of, sum, max, min, some, all, Bin, plus, minus, times, equal, less, and, or, Fun, choice, is_open}
use Rattle.spec_calculus.specs.Value.{Value, Values, vnil, vcons, to_list, from_list, junk, as_int, as_bool, elems, nth, field_of, eq_z, bin_v, scalar, choice_v, app_v}
use Rattle.spec_calculus.specs.Value as Va
use Rattle.spec_calculus.specs.Monoid.{start, greater, lesser, against, Entry, step, total, finish, fold_by, ordered, canonical, raw}
use Rattle.spec_calculus.proofs.Lists.{map_same}
use Rattle.spec_calculus.proofs.Folds.{to-from, fold-of, arranged, canonical-of, raw_of}
use Rattle.spec_checks.specs.Types.{Ty, Tys, number, truth, record', coll, ynil, ycons, has, cells, type_at}
use Rattle.spec_checks.proofs.Judgement.{result, Scalar, Takes, untyped, same-type}

-- what r makes of a record, k of a collection; a number and a truth stay
unfoldable pub on_parts : (Values → Value) → (Values → Value) → Value → Value
on_parts r k (Va.num z) = Va.num z
on_parts r k (Va.truth b) = Va.truth b
on_parts r k (Va.rec vs) = r vs
on_parts r k (Va.coll vs) = k vs

-- a value of a type, each collection in it folded anew, the innermost first
unfoldable mutual
  pub refold : Entry → Ty → Value → Value
  refold E number v = v
  refold E truth v = v
  refold E (record' ts) v = on_parts (λ vs. Va.rec (refolds E ts vs)) Va.coll v
  refold E (coll c t) v = on_parts Va.rec (λ vs. fold_by E (of c) (map (λ w. refold E t w) (to_list vs))) v

  pub refolds : Entry → Tys → Values → Values
  refolds E ynil vs = vs
  refolds E (ycons t ts) vnil = vnil
  refolds E (ycons t ts) (vcons v vs) = vcons (refold E t v) (refolds E ts vs)

-- the type of a comprehension of m with heads of type t
unfoldable pub gathered : Monoid → Ty → Ty
gathered (of c) t = coll c t
gathered sum t = number
gathered max t = number
gathered min t = number
gathered some t = truth
gathered all t = truth

-- the type of an operator over operands of types us: of a choice a number's or a truth's, whatever its terms are
unfoldable pub second : Tys → Ty
second ynil = number
second (ycons s ynil) = number
second (ycons s (ycons t us)) = t

unfoldable pub single : Ty → Ty
single number = number
single truth = truth
single (record' ts) = number
single (coll c t) = number

unfoldable pub gives : Fun → Tys → Ty
gives choice us = single (second us)
gives (is_open n c) us = truth

single-scalar : (t : Ty) → Scalar t → single t ≡ t
unfolding single
single-scalar number s = refl
single-scalar truth s = refl
single-scalar (record' ts) s = absurd s
single-scalar (coll c t) s = absurd s

pub takes_gives : (f : Fun) (us : Tys) (τ : Ty) → Takes f us τ → τ ≡ gives f us
unfolding gives second
takes_gives choice us τ h = sym (single-scalar τ h.0) ∙ ap (λ ts. single (second ts)) (sym h.1)
takes_gives (is_open n c) us τ h = h.0

-- as the values of questions are: each list as it is, each bag sorted, each set sorted without repeats
abbrev pub arrange_as : Ty → Value → Value
arrange_as t v = refold ordered t v

pub arrange-coll : (c : Collection) (t : Ty) (vs : Values) → arrange_as (coll c t) (Va.coll vs) ≡ Va.coll (from_list (arranged c (map (arrange_as t) (to_list vs))))
unfolding refold on_parts canonical
arrange-coll c t vs = canonical-of c (map (arrange_as t) (to_list vs))

-- a relation that holds of each value and itself, and of what becomes of a record or collection and that
pub by_parts : (P : Value → Value → Type 0) → ((v : Value) → P v v) → (r k : Values → Value) → ((vs : Values) → P (r vs) (Va.rec vs)) → ((vs : Values) → P (k vs) (Va.coll vs)) → (v : Value) → P (on_parts r k v) v
unfolding on_parts
by_parts P h r k p q (Va.num z) = h (Va.num z)
by_parts P h r k p q (Va.truth b) = h (Va.truth b)
by_parts P h r k p q (Va.rec vs) = p vs
by_parts P h r k p q (Va.coll vs) = q vs

-- the same number or truth, where they are read as one
abbrev pub Reads : Value → Value → Type 0
Reads v w = (as_int v ≡ as_int w) × (as_bool v ≡ as_bool w) × (scalar v ≡ scalar w)

module _ (E : Entry) where
  -- What is folded anew reads as it did; so the operators give the same.
  pub refold-reads : (t : Ty) (v : Value) → Reads (refold E t v) v
  unfolding refold as_int as_bool scalar
  refold-reads number v = (refl, refl, refl)
  refold-reads truth v = (refl, refl, refl)
  refold-reads (record' ts) v = by_parts Reads (λ w. (refl, refl, refl)) _ _ (λ vs. (refl, refl, refl)) (λ vs. (refl, refl, refl)) v
  refold-reads (coll c t) v = by_parts Reads (λ w. (refl, refl, refl)) _ _ (λ vs. (refl, refl, refl)) (λ vs. (ap as_int (fold-of E c _), ap as_bool (fold-of E c _), ap scalar (fold-of E c _))) v

  single-kept : (t : Ty) (v : Value) → refold E (single t) v ≡ v
  unfolding refold single
  single-kept number v = refl
  single-kept truth v = refl
  single-kept (record' ts) v = refl
  single-kept (coll c t) v = refl

  choice-refold : (b d : Bool) (v w x y : Value) → b ≡ d → Reads v x → Reads w y → scalar (pick b v w) ≡ scalar (pick d x y)
  unfolding pick
  choice-refold true true v w x y e r s = r.2
  choice-refold true false v w x y e r s = absurd (true≢false e)
  choice-refold false true v w x y e r s = absurd (true≢false (sym e))
  choice-refold false false v w x y e r s = s.2

  operand-reads : (i : ℕ) (us : Tys) (vs : Values) → Reads (nth i (refolds E us vs)) (nth i vs)
  unfolding refold nth
  operand-reads i ynil vs = (refl, refl, refl)
  operand-reads i (ycons t us) vnil = (refl, refl, refl)
  operand-reads zero (ycons t us) (vcons v vs) = refold-reads t v
  operand-reads (suc i) (ycons t us) (vcons v vs) = operand-reads i us vs

  pub app-refold : (f : Fun) (us : Tys) (vs : Values) → app_v f (refolds E us vs) ≡ refold E (gives f us) (app_v f vs)
  unfolding app_v choice_v gives refold
  app-refold choice us vs = choice-refold (as_bool (nth 0 (refolds E us vs))) (as_bool (nth 0 vs)) (nth 1 (refolds E us vs)) (nth 2 (refolds E us vs)) (nth 1 vs) (nth 2 vs) (operand-reads 0 us vs).1 (operand-reads 1 us vs) (operand-reads 2 us vs)
      ∙ sym (single-kept (second us) (app_v choice vs))
  app-refold (is_open n c) us vs = ap (λ z. Va.truth (open_at c z)) (operand-reads 0 us vs).0

  pub bin-refold : (o : Bin) (s t : Ty) (v w : Value) → bin_v o (refold E s v) (refold E t w) ≡ refold E (result o) (bin_v o v w)
  unfolding bin_v result refold
  bin-refold plus s t v w = ap₂ (λ a b. Va.num (a +ℤ b)) (refold-reads s v).0 (refold-reads t w).0
  bin-refold minus s t v w = ap₂ (λ a b. Va.num (a -ℤ b)) (refold-reads s v).0 (refold-reads t w).0
  bin-refold times s t v w = ap₂ (λ a b. Va.num (a *ℤ b)) (refold-reads s v).0 (refold-reads t w).0
  bin-refold equal s t v w = ap₂ (λ a b. Va.truth (eq_z a b)) (refold-reads s v).0 (refold-reads t w).0
  bin-refold less s t v w = ap₂ (λ a b. Va.truth (lt_z a b)) (refold-reads s v).0 (refold-reads t w).0
  bin-refold and s t v w = ap₂ (λ a b. Va.truth (a && b)) (refold-reads s v).1 (refold-reads t w).1
  bin-refold or s t v w = ap₂ (λ a b. Va.truth (a || b)) (refold-reads s v).1 (refold-reads t w).1

  -- The total of a monoid that holds a head's number against what it has so far.
  total-refold : (m : Monoid) (op : ℤ → ℤ → ℤ) → ((F : Entry) (v w : Value) → step F m v w ≡ Va.num (against op (as_int v) w)) → (t : Ty) (l : List Value) → total E m (map (refold E t) l) ≡ total (λ c v n. v ∷ n) m l
  unfolding total
  total-refold m op h t [] = refl
  total-refold m op h t (v ∷ l) =
      h E (refold E t v) (total E m (map (refold E t) l)) ∙ ap₂ (λ a w. Va.num (against op a w)) (refold-reads t v).0 (total-refold m op h t l)
      ∙ sym (h (λ c u n. u ∷ n) v (total (λ c u n. u ∷ n) m l))

  -- A monoid over heads folded anew is the raw one folded anew.
  pub fold-refold : (m : Monoid) (t : Ty) (l : List Value) → fold_by E m (map (refold E t) l) ≡ refold E (gathered m t) (raw m l)
  unfolding refold on_parts gathered raw fold_by total finish step start
  fold-refold (of c) t l = ap (λ n. fold_by E (of c) (map (refold E t) n)) (sym (to-from l)) ∙ ap (refold E (coll c t)) (sym (raw_of c l))
  fold-refold sum t [] = refl
  fold-refold sum t (v ∷ l) = ap₂ (λ a w. Va.num (a +ℤ as_int w)) (refold-reads t v).0 (fold-refold sum t l)
  fold-refold max t l = ap (λ w. Va.num (as_int w)) (total-refold max greater (λ F v w. refl) t l)
  fold-refold min t l = ap (λ w. Va.num (as_int w)) (total-refold min lesser (λ F v w. refl) t l)
  fold-refold some t [] = refl
  fold-refold some t (v ∷ l) = ap₂ (λ a w. Va.truth (a || as_bool w)) (refold-reads t v).1 (fold-refold some t l)
  fold-refold all t [] = refl
  fold-refold all t (v ∷ l) = ap₂ (λ a w. Va.truth (a && as_bool w)) (refold-reads t v).1 (fold-refold all t l)

  -- A field is folded anew as its type says; the elements are those of the collection folded anew; a row stays as it is.
  junk-kept : (t : Ty) → refold E t junk ≡ junk
  unfolding refold on_parts
  junk-kept number = refl
  junk-kept truth = refl
  junk-kept (record' ts) = refl
  junk-kept (coll c t) = refl

  nth-refold : (ts : Tys) (i : ℕ) (t : Ty) → type_at i ts ≡ has t → (vs : Values) → nth i (refolds E ts vs) ≡ refold E t (nth i vs)
  unfolding type_at refold nth
  nth-refold ynil i t h vs = untyped h
  nth-refold (ycons s ts) zero t h vnil = sym (junk-kept t)
  nth-refold (ycons s ts) zero t h (vcons v vs) = ap (λ u. refold E u v) (sym (same-type s t h))
  nth-refold (ycons s ts) (suc i) t h vnil = sym (junk-kept t)
  nth-refold (ycons s ts) (suc i) t h (vcons v vs) = nth-refold ts i t h vs

  pub field-refold : (ts : Tys) (i : ℕ) (t : Ty) → type_at i ts ≡ has t → (v : Value) → field_of i (refold E (record' ts) v) ≡ refold E t (field_of i v)
  unfolding field_of refold on_parts
  field-refold ts i t h (Va.num z) = sym (junk-kept t)
  field-refold ts i t h (Va.truth b) = sym (junk-kept t)
  field-refold ts i t h (Va.rec vs) = nth-refold ts i t h vs
  field-refold ts i t h (Va.coll vs) = sym (junk-kept t)

  pub elems-refold : (c : Collection) (t : Ty) (v : Value) → elems (fold_by E (of c) (map (refold E t) (elems v))) ≡ elems (refold E (coll c t) v)
  unfolding elems refold on_parts fold_by total finish start
  elems-refold c t (Va.num z) = refl
  elems-refold c t (Va.truth b) = refl
  elems-refold c t (Va.rec vs) = refl
  elems-refold c t (Va.coll vs) = refl

  cells-kept : (n : ℕ) (vs : Values) → refolds E (cells n) vs ≡ vs
  unfolding cells refold
  cells-kept zero vs = refl
  cells-kept (suc n) vnil = refl
  cells-kept (suc n) (vcons v vs) = ap (vcons v) (cells-kept n vs)

  row_kept : (n : ℕ) (v : Value) → refold E (record' (cells n)) v ≡ v
  unfolding refold
  row_kept n v = by_parts (λ w u. w ≡ u) (λ w. refl) _ _ (λ vs. ap Va.rec (cells-kept n vs)) (λ vs. refl) v

  pub rows-kept : (n : ℕ) (l : List Value) → map (refold E (record' (cells n))) l ≡ l
  rows-kept n l = ap (λ f. map f l) (fun_ext (row_kept n)) ∙ map_same l
