-- Typing as a judgement: what 24, 25 and 26 say of a question that passes them, rule by rule.
use mathlib.Core.Path.{◌≡◌, refl, sym, ap}
use mathlib.Core.Bool.{Bool, true, false, true≢false}
use Prim.Native.Nat.{ℕ}
use native.Mathlib.Omega.{arith}
use Rattle.spec_calculus.specs.Lists.{pick, upd}
use Rattle.spec_calendar.specs.Hours.{Calendar}
use Rattle.spec_calculus.specs.Syntax.{Collection, Monoid, of, sum, max, min, some, all, Bin, plus, minus, times, equal, less, and, or, Fun, choice, is_open, Term, Terms, Quals, num, name, field, rec, bin, negate, app, comp, table, tnil, tcons, qnil, gen, bind, cond, Question, as_term}
use Rattle.spec_calculus.specs.Syntax as Sy
use Rattle.spec_calculus.specs.Value.{Tables, kind_of, columns_of, is_there}
use Rattle.spec_checks.specs.Types.{Ty, Tys, number, truth, record', coll, ynil, ycons, Typed, wrong, has, Typeds, wrongs, hass, cells, type_at, field_type, of_number, of_truth, bin_type, gathers, comp_type, ranges, typed_as, all_typed, of_three, of_one, choice_type, app_type, record'', cons_type, Context, type_of, types_of, type_of_q, may_stand, is_typed, generators_fit}

-- "Arithmetic, equal and less take numbers; and, or, not and conditions take truths"
unfoldable pub operand : Bin → Ty
operand plus = number
operand minus = number
operand times = number
operand equal = number
operand less = number
operand and = truth
operand or = truth

unfoldable pub result : Bin → Ty
result plus = number
result minus = number
result times = number
result equal = truth
result less = truth
result and = truth
result or = truth

abbrev pub Scalar : Ty → Type 0
Scalar number = Unit {0}
Scalar truth = Unit {0}
Scalar (record' ts) = ⊥
Scalar (coll c t) = ⊥

-- an operator over operands of types us is of type τ
abbrev pub Takes : Fun → Tys → Ty → Type 0
Takes choice us τ = Scalar τ × (us ≡ ycons truth (ycons τ (ycons τ ynil)))
Takes (is_open n c) us τ = (τ ≡ truth) × (us ≡ ycons number ynil)

-- a comprehension of m with heads of type σ is of type τ
abbrev pub Gathers : Monoid → Ty → Ty → Type 0
Gathers (of c) σ τ = τ ≡ coll c σ
Gathers sum σ τ = (σ ≡ number) × (τ ≡ number)
Gathers max σ τ = (σ ≡ number) × (τ ≡ number)
Gathers min σ τ = (σ ≡ number) × (τ ≡ number)
Gathers some σ τ = (σ ≡ truth) × (τ ≡ truth)
Gathers all σ τ = (σ ≡ truth) × (τ ≡ truth)

abbrev mutual
  pub Has : Tables → Context → Term → Ty → Type 0
  Has T Γ (num z) τ = τ ≡ number
  Has T Γ (Sy.truth b) τ = τ ≡ truth
  Has T Γ (name x) τ = Γ x ≡ has τ
  Has T Γ (field i t) τ = (ts : Tys) × Has T Γ t (record' ts) × (type_at i ts ≡ has τ)
  Has T Γ (rec ts) τ = (us : Tys) × HasL T Γ ts us × (τ ≡ record' us)
  Has T Γ (app f ts) τ = (us : Tys) × HasL T Γ ts us × Takes f us τ
  Has T Γ (bin o s t) τ = Has T Γ s (operand o) × Has T Γ t (operand o) × (τ ≡ result o)
  Has T Γ (negate t) τ = Has T Γ t truth × (τ ≡ truth)
  Has T Γ (comp m qs h) τ = (Δ : Context) × (σ : Ty) × HasQ T m Γ qs Δ × Has T Δ h σ × Gathers m σ τ
  Has T Γ (table k) τ = (is_there T k ≡ true) × (τ ≡ coll (kind_of T k) (record' (cells (columns_of T k))))

  pub HasL : Tables → Context → Terms → Tys → Type 0
  HasL T Γ tnil us = us ≡ ynil
  HasL T Γ (tcons t ts) us = (σ : Ty) × (ws : Tys) × Has T Γ t σ × HasL T Γ ts ws × (us ≡ ycons σ ws)

  -- Γ before the qualifiers of a comprehension of m, Δ behind them
  pub HasQ : Tables → Monoid → Context → Quals → Context → Type 0
  HasQ T m Γ qnil Δ = Γ ≡ Δ
  HasQ T m Γ (gen x t qs) Δ = (c : Collection) × (σ : Ty) × Has T Γ t (coll c σ) × (may_stand c m ≡ true) × HasQ T m (upd x (has σ) Γ) qs Δ
  HasQ T m Γ (bind x t qs) Δ = (σ : Ty) × Has T Γ t σ × HasQ T m (upd x (has σ) Γ) qs Δ
  HasQ T m Γ (cond t qs) Δ = Has T Γ t truth × HasQ T m Γ qs Δ

-- each step of the typing function, read backwards
pub untyped : {A : Type 0} {τ : Ty} → wrong ≡ has τ → A
untyped e = let o : ◌≡◌ {A = ℕ} 0 1 = cc in absurd (omega arith)

field-typed : (i : ℕ) (s : Typed) (τ : Ty) → field_type i s ≡ has τ → (ts : Tys) × (s ≡ has (record' ts)) × (type_at i ts ≡ has τ)
unfolding field_type
field-typed i wrong τ e = untyped e
field-typed i (has number) τ e = untyped e
field-typed i (has truth) τ e = untyped e
field-typed i (has (record' ts)) τ e = (ts, refl, e)
field-typed i (has (coll c t)) τ e = untyped e

number-typed : (s t : Typed) (τ : Ty) → of_number s t ≡ has τ → (s ≡ has number) × (t ≡ has τ)
unfolding of_number
number-typed wrong t τ e = untyped e
number-typed (has number) t τ e = (refl, e)
number-typed (has truth) t τ e = untyped e
number-typed (has (record' ts)) t τ e = untyped e
number-typed (has (coll c u)) t τ e = untyped e

truth-typed : (s t : Typed) (τ : Ty) → of_truth s t ≡ has τ → (s ≡ has truth) × (t ≡ has τ)
unfolding of_truth
truth-typed wrong t τ e = untyped e
truth-typed (has number) t τ e = untyped e
truth-typed (has truth) t τ e = (refl, e)
truth-typed (has (record' ts)) t τ e = untyped e
truth-typed (has (coll c u)) t τ e = untyped e

pub same-type : (σ τ : Ty) → has σ ≡ has τ → τ ≡ σ
same-type σ τ e = cc

numbers-typed : (s t : Typed) (σ τ : Ty) → of_number s (of_number t (has σ)) ≡ has τ → (s ≡ has number) × (t ≡ has number) × (τ ≡ σ)
numbers-typed s t σ τ e =
    let a = number-typed s (of_number t (has σ)) τ e in
    let b = number-typed t (has σ) τ a.1 in
    (a.0, b.0, same-type σ τ b.1)

truths-typed : (s t : Typed) (σ τ : Ty) → of_truth s (of_truth t (has σ)) ≡ has τ → (s ≡ has truth) × (t ≡ has truth) × (τ ≡ σ)
truths-typed s t σ τ e =
    let a = truth-typed s (of_truth t (has σ)) τ e in
    let b = truth-typed t (has σ) τ a.1 in
    (a.0, b.0, same-type σ τ b.1)

bin-typed : (o : Bin) (s t : Typed) (τ : Ty) → bin_type o s t ≡ has τ → (s ≡ has (operand o)) × (t ≡ has (operand o)) × (τ ≡ result o)
unfolding bin_type operand result
bin-typed plus s t τ e = numbers-typed s t number τ e
bin-typed minus s t τ e = numbers-typed s t number τ e
bin-typed times s t τ e = numbers-typed s t number τ e
bin-typed equal s t τ e = numbers-typed s t truth τ e
bin-typed less s t τ e = numbers-typed s t truth τ e
bin-typed and s t τ e = truths-typed s t truth τ e
bin-typed or s t τ e = truths-typed s t truth τ e

comp-typed : (m : Monoid) (s : Typed) (τ : Ty) → comp_type m s ≡ has τ → (σ : Ty) × (s ≡ has σ) × Gathers m σ τ
unfolding comp_type gathers
comp-typed (of c) wrong τ e = untyped e
comp-typed (of c) (has σ) τ e = (σ, refl, same-type (coll c σ) τ e)
comp-typed sum s τ e = let a = number-typed s (has number) τ e in (number, a.0, (refl, same-type number τ a.1))
comp-typed max s τ e = let a = number-typed s (has number) τ e in (number, a.0, (refl, same-type number τ a.1))
comp-typed min s τ e = let a = number-typed s (has number) τ e in (number, a.0, (refl, same-type number τ a.1))
comp-typed some s τ e = let a = truth-typed s (has truth) τ e in (truth, a.0, (refl, same-type truth τ a.1))
comp-typed all s τ e = let a = truth-typed s (has truth) τ e in (truth, a.0, (refl, same-type truth τ a.1))

picked : (b : Bool) (t : Typed) (τ : Ty) → pick b t wrong ≡ has τ → (b ≡ true) × (t ≡ has τ)
unfolding pick
picked true t τ e = (refl, e)
picked false t τ e = untyped e

gen-typed : (fits : Collection → Bool) (s : Typed) (k : Ty → Typed) (τ : Ty) → ranges fits s k ≡ has τ → (c : Collection) × (σ : Ty) × (s ≡ has (coll c σ)) × (fits c ≡ true) × (k σ ≡ has τ)
unfolding ranges
gen-typed fits wrong k τ e = untyped e
gen-typed fits (has number) k τ e = untyped e
gen-typed fits (has truth) k τ e = untyped e
gen-typed fits (has (record' ts)) k τ e = untyped e
gen-typed fits (has (coll c σ)) k τ e = let a = picked (fits c) (k σ) τ e in (c, σ, refl, a.0, a.1)

bind-typed : (s : Typed) (k : Ty → Typed) (τ : Ty) → typed_as s k ≡ has τ → (σ : Ty) × (s ≡ has σ) × (k σ ≡ has τ)
unfolding typed_as
bind-typed wrong k τ e = untyped e
bind-typed (has σ) k τ e = (σ, refl, e)

three-types : (a b c x y z : Ty) → has a ≡ has x → has b ≡ has y → has c ≡ has z → ycons a (ycons b (ycons c ynil)) ≡ ycons x (ycons y (ycons z ynil))
three-types a b c x y z p q r = cc

choice-typed : (c s t τ : Ty) → choice_type c s t ≡ has τ → Takes choice (ycons c (ycons s (ycons t ynil))) τ
unfolding choice_type
choice-typed c number t τ e = let a = truth-typed (has c) (of_number (has t) (has number)) τ e in let b = number-typed (has t) (has number) τ a.1 in let g = same-type number τ b.1 in rw g (tt, three-types c number t truth number number a.0 refl b.0)
choice-typed c truth t τ e = let a = truth-typed (has c) (of_truth (has t) (has truth)) τ e in let b = truth-typed (has t) (has truth) τ a.1 in let g = same-type truth τ b.1 in rw g (tt, three-types c truth t truth truth truth a.0 refl b.0)
choice-typed c (record' us) t τ e = untyped e
choice-typed c (coll d u) t τ e = untyped e

open-typed : (n : ℕ) (c : Calendar) (t τ : Ty) → of_number (has t) (has truth) ≡ has τ → Takes (is_open n c) (ycons t ynil) τ
open-typed n c t τ e = let a = number-typed (has t) (has truth) τ e in (same-type truth τ a.1, ap (λ u. ycons u ynil) (same-type number t (sym a.0)))

app-typed : (f : Fun) (us : Tys) (τ : Ty) → app_type f us ≡ has τ → Takes f us τ
unfolding app_type of_three of_one
app-typed choice ynil τ e = untyped e
app-typed choice (ycons s ynil) τ e = untyped e
app-typed choice (ycons s (ycons t ynil)) τ e = untyped e
app-typed choice (ycons s (ycons t (ycons u ynil))) τ e = choice-typed s t u τ e
app-typed choice (ycons s (ycons t (ycons u (ycons v us)))) τ e = untyped e
app-typed (is_open n c) ynil τ e = untyped e
app-typed (is_open n c) (ycons t ynil) τ e = open-typed n c t τ e
app-typed (is_open n c) (ycons t (ycons u us)) τ e = untyped e

all_typed_lem : (s : Typeds) (k : Tys → Typed) (τ : Ty) → all_typed s k ≡ has τ → (us : Tys) × (s ≡ hass us) × (k us ≡ has τ)
unfolding all_typed
all_typed_lem wrongs k τ e = untyped e
all_typed_lem (hass us) k τ e = (us, refl, e)

rec-typed : (s : Typeds) (τ : Ty) → record'' s ≡ has τ → (us : Tys) × (s ≡ hass us) × (τ ≡ record' us)
unfolding record''
rec-typed wrongs τ e = untyped e
rec-typed (hass us) τ e = (us, refl, same-type (record' us) τ e)

pub cons-typed : (s : Typed) (r : Typeds) (us : Tys) → cons_type s r ≡ hass us → (σ : Ty) × (ws : Tys) × (s ≡ has σ) × (r ≡ hass ws) × (us ≡ ycons σ ws)
unfolding cons_type record''
cons-typed wrong r us e = untyped (ap record'' e)
cons-typed (has σ) wrongs us e = untyped (ap record'' e)
cons-typed (has σ) (hass ws) us e = (σ, ws, refl, refl, cc)

-- What the typing function finds, the judgement holds of.
mutual
  unfolding type_of

  pub typed : (T : Tables) (t : Term) (Γ : Context) (τ : Ty) → type_of may_stand T t Γ ≡ has τ → Has T Γ t τ
  typed T (num z) Γ τ e = same-type number τ e
  typed T (Sy.truth b) Γ τ e = same-type truth τ e
  typed T (name x) Γ τ e = e
  typed T (field i t) Γ τ e =
      let a = field-typed i (type_of may_stand T t Γ) τ e in
      (a.0, typed T t Γ (record' a.0) a.1, a.2)
  typed T (rec ts) Γ τ e =
      let a = rec-typed (types_of may_stand T ts Γ) τ e in
      (a.0, typeds T ts Γ a.0 a.1, a.2)
  typed T (app f ts) Γ τ e =
      let a = all_typed_lem (types_of may_stand T ts Γ) (app_type f) τ e in
      (a.0, typeds T ts Γ a.0 a.1, app-typed f a.0 τ a.2)
  typed T (bin o s t) Γ τ e =
      let a = bin-typed o (type_of may_stand T s Γ) (type_of may_stand T t Γ) τ e in
      (typed T s Γ (operand o) a.0, typed T t Γ (operand o) a.1, a.2)
  typed T (negate t) Γ τ e =
      let a = truth-typed (type_of may_stand T t Γ) (has truth) τ e in
      (typed T t Γ truth a.0, same-type truth τ a.1)
  typed T (comp m qs h) Γ τ e =
      let a = comp-typed m (type_of_q may_stand T m qs (λ Δ. type_of may_stand T h Δ) Γ) τ e in
      let b = typed_q T qs m (λ Δ. type_of may_stand T h Δ) Γ a.0 a.1 in
      (b.0, a.0, b.1, typed T h b.0 a.0 b.2, a.2)
  typed T (table k) Γ τ e =
      let σ = coll (kind_of T k) (record' (cells (columns_of T k))) in
      let a = picked (is_there T k) (has σ) τ e in
      (a.0, same-type σ τ a.1)

  typeds : (T : Tables) (ts : Terms) (Γ : Context) (us : Tys) → types_of may_stand T ts Γ ≡ hass us → HasL T Γ ts us
  typeds T tnil Γ us e = cc
  typeds T (tcons t ts) Γ us e =
      let a = cons-typed (type_of may_stand T t Γ) (types_of may_stand T ts Γ) us e in
      (a.0, a.1, typed T t Γ a.0 a.2, typeds T ts Γ a.1 a.3, a.4)

  typed_q : (T : Tables) (qs : Quals) (m : Monoid) (k : Context → Typed) (Γ : Context) (τ : Ty) → type_of_q may_stand T m qs k Γ ≡ has τ → (Δ : Context) × HasQ T m Γ qs Δ × (k Δ ≡ has τ)
  typed_q T qnil m k Γ τ e = (Γ, refl, e)
  typed_q T (gen x t qs) m k Γ τ e =
      let a = gen-typed (λ c. may_stand c m) (type_of may_stand T t Γ) (λ u. type_of_q may_stand T m qs k (upd x (has u) Γ)) τ e in
      let b = typed_q T qs m k (upd x (has a.1) Γ) τ a.4 in
      (b.0, (a.0, a.1, typed T t Γ (coll a.0 a.1) a.2, a.3, b.1), b.2)
  typed_q T (bind x t qs) m k Γ τ e =
      let a = bind-typed (type_of may_stand T t Γ) (λ u. type_of_q may_stand T m qs k (upd x (has u) Γ)) τ e in
      let b = typed_q T qs m k (upd x (has a.0) Γ) τ a.2 in
      (b.0, (a.0, typed T t Γ a.0 a.1, b.1), b.2)
  typed_q T (cond t qs) m k Γ τ e =
      let a = truth-typed (type_of may_stand T t Γ) (type_of_q may_stand T m qs k Γ) τ e in
      let b = typed_q T qs m k Γ τ a.1 in
      (b.0, (typed T t Γ truth a.0, b.1), b.2)

some-type : (s : Typed) → is_typed s ≡ true → (τ : Ty) × (s ≡ has τ)
unfolding is_typed
some-type wrong e = absurd (true≢false (sym e))
some-type (has τ) e = (τ, refl)

-- A question that passes 25 and 26 has a type.
pub question-typed : (T : Tables) (q : Question) → generators_fit T q ≡ true → (τ : Ty) × Has T (λ x. wrong) (as_term q) τ
unfolding generators_fit
question-typed T q e =
    let a = some-type (type_of may_stand T (as_term q) (λ x. wrong)) e in
    (a.0, typed T (as_term q) (λ x. wrong) a.0 a.1)
