-- Types. "25: a type, field or table that does not fit. 26: a generator its monoid may not have."
use Rattle.std.specs.Prelude.{Bool, true, false, ℕ, zero, suc}
use Rattle.spec_calculus.specs.Lists.{pick, upd}
use Rattle.spec_calculus.specs.Syntax.{Collection, list, bag, set, Monoid, of, sum, max, min, some, all, Bin, plus, minus, times, equal, less, and, or, Fun, choice, is_open, Term, Terms, Quals, num, name, field, rec, bin, negate, app, comp, table, tnil, tcons, qnil, gen, bind, cond, Question, as_term}
use Rattle.spec_calculus.specs.Syntax as Sy
use Rattle.spec_calculus.specs.Value.{Tables, kind_of, columns_of, is_there}

mutual
  pub data Ty : Type 0 where
    number : Ty
    truth : Ty
    record' : Tys → Ty
    coll : Collection → Ty → Ty

  pub data Tys : Type 0 where
    ynil : Tys
    ycons : Ty → Tys → Tys

-- what typing gives; a name out of scope has no type
pub data Typed : Type 0 where
  wrong : Typed
  has : Ty → Typed

pub data Typeds : Type 0 where
  wrongs : Typeds
  hass : Tys → Typeds

-- a row is a record of numbers
unfoldable pub cells : ℕ → Tys
cells zero = ynil
cells (suc n) = ycons number (cells n)

unfoldable pub type_at : ℕ → Tys → Typed
type_at i ynil = wrong
type_at zero (ycons t ts) = has t
type_at (suc i) (ycons t ts) = type_at i ts

-- "field takes a record"
unfoldable pub field_type : ℕ → Typed → Typed
field_type i wrong = wrong
field_type i (has number) = wrong
field_type i (has truth) = wrong
field_type i (has (record' ts)) = type_at i ts
field_type i (has (coll c t)) = wrong

-- t where the operand is a number, a truth
unfoldable pub of_number : Typed → Typed → Typed
of_number wrong t = wrong
of_number (has number) t = t
of_number (has truth) t = wrong
of_number (has (record' ts)) t = wrong
of_number (has (coll c u)) t = wrong

unfoldable pub of_truth : Typed → Typed → Typed
of_truth wrong t = wrong
of_truth (has number) t = wrong
of_truth (has truth) t = t
of_truth (has (record' ts)) t = wrong
of_truth (has (coll c u)) t = wrong

-- "Arithmetic, equal and less take numbers; and, or, not and conditions take truths"
unfoldable pub bin_type : Bin → Typed → Typed → Typed
bin_type plus s t = of_number s (of_number t (has number))
bin_type minus s t = of_number s (of_number t (has number))
bin_type times s t = of_number s (of_number t (has number))
bin_type equal s t = of_number s (of_number t (has truth))
bin_type less s t = of_number s (of_number t (has truth))
bin_type and s t = of_truth s (of_truth t (has truth))
bin_type or s t = of_truth s (of_truth t (has truth))

-- "three terms"
unfoldable pub of_three : (Ty → Ty → Ty → Typed) → Tys → Typed
of_three k ynil = wrong
of_three k (ycons s ynil) = wrong
of_three k (ycons s (ycons t ynil)) = wrong
of_three k (ycons s (ycons t (ycons u ynil))) = k s t u
of_three k (ycons s (ycons t (ycons u (ycons v us)))) = wrong

-- "a truth, then two numbers or two truths" (document 02, E2)
unfoldable pub choice_type : Ty → Ty → Ty → Typed
choice_type c number t = of_truth (has c) (of_number (has t) (has number))
choice_type c truth t = of_truth (has c) (of_truth (has t) (has truth))
choice_type c (record' us) t = wrong
choice_type c (coll d u) t = wrong

-- "one number term" (document 02, E4)
unfoldable pub of_one : (Ty → Typed) → Tys → Typed
of_one k ynil = wrong
of_one k (ycons t ynil) = k t
of_one k (ycons t (ycons u us)) = wrong

unfoldable pub app_type : Fun → Tys → Typed
app_type choice ts = of_three choice_type ts
app_type (is_open n c) ts = of_one (λ t. of_number (has t) (has truth)) ts

unfoldable pub gathers : Collection → Typed → Typed
gathers c wrong = wrong
gathers c (has t) = has (coll c t)

-- "Sum and max have number heads, some and all truth heads, the collections any head." Min as max.
unfoldable pub comp_type : Monoid → Typed → Typed
comp_type (of c) t = gathers c t
comp_type sum t = of_number t (has number)
comp_type max t = of_number t (has number)
comp_type min t = of_number t (has number)
comp_type some t = of_truth t (has truth)
comp_type all t = of_truth t (has truth)

-- "a generator takes a collection": J says whether this one may stand here, k goes on with its elements' type
unfoldable pub ranges : (Collection → Bool) → Typed → (Ty → Typed) → Typed
ranges J wrong k = wrong
ranges J (has number) k = wrong
ranges J (has truth) k = wrong
ranges J (has (record' ts)) k = wrong
ranges J (has (coll c t)) k = pick (J c) (k t) wrong

unfoldable pub typed_as : Typed → (Ty → Typed) → Typed
typed_as wrong k = wrong
typed_as (has t) k = k t

unfoldable pub record'' : Typeds → Typed
record'' wrongs = wrong
record'' (hass ts) = has (record' ts)

unfoldable pub all_typed : Typeds → (Tys → Typed) → Typed
all_typed wrongs k = wrong
all_typed (hass ts) k = k ts

unfoldable pub cons_type : Typed → Typeds → Typeds
cons_type wrong us = wrongs
cons_type (has t) wrongs = wrongs
cons_type (has t) (hass ts) = hass (ycons t ts)

abbrev pub Context : Type 0
Context = ℕ → Typed

-- J says which collections' generators may stand in a monoid
unfoldable mutual
  pub type_of : (Collection → Monoid → Bool) → Tables → Term → Context → Typed
  type_of J T (num z) Γ = has number
  type_of J T (Sy.truth b) Γ = has truth
  type_of J T (name x) Γ = Γ x
  type_of J T (field i t) Γ = field_type i (type_of J T t Γ)
  type_of J T (rec ts) Γ = record'' (types_of J T ts Γ)
  type_of J T (app f ts) Γ = all_typed (types_of J T ts Γ) (app_type f)
  type_of J T (bin o s t) Γ = bin_type o (type_of J T s Γ) (type_of J T t Γ)
  type_of J T (negate t) Γ = of_truth (type_of J T t Γ) (has truth)
  type_of J T (comp m qs h) Γ = comp_type m (type_of_q J T m qs (λ Δ. type_of J T h Δ) Γ)
  type_of J T (table k) Γ = pick (is_there T k) (has (coll (kind_of T k) (record' (cells (columns_of T k))))) wrong

  pub types_of : (Collection → Monoid → Bool) → Tables → Terms → Context → Typeds
  types_of J T tnil Γ = hass ynil
  types_of J T (tcons t ts) Γ = cons_type (type_of J T t Γ) (types_of J T ts Γ)

  -- the type that k finds behind the qualifiers of a comprehension of m
  pub type_of_q : (Collection → Monoid → Bool) → Tables → Monoid → Quals → (Context → Typed) → Context → Typed
  type_of_q J T m qnil k Γ = k Γ
  type_of_q J T m (gen x t qs) k Γ = ranges (λ c. J c m) (type_of J T t Γ) (λ u. type_of_q J T m qs k (upd x (has u) Γ))
  type_of_q J T m (bind x t qs) k Γ = typed_as (type_of J T t Γ) (λ u. type_of_q J T m qs k (upd x (has u) Γ))
  type_of_q J T m (cond t qs) k Γ = of_truth (type_of J T t Γ) (type_of_q J T m qs k Γ)

-- "A generator over a bag may not stand in a list; one over a set only in set, max, some or all." "monoid 8, min, with .. max's ..
-- generators" (document 02, E1)
unfoldable pub may_stand : Collection → Monoid → Bool
may_stand list m = true
may_stand bag (of list) = false
may_stand bag (of bag) = true
may_stand bag (of set) = true
may_stand bag sum = true
may_stand bag max = true
may_stand bag min = true
may_stand bag some = true
may_stand bag all = true
may_stand set (of list) = false
may_stand set (of bag) = false
may_stand set (of set) = true
may_stand set sum = false
may_stand set max = true
may_stand set min = true
may_stand set some = true
may_stand set all = true

unfoldable pub is_typed : Typed → Bool
is_typed wrong = false
is_typed (has t) = true

-- 25 looks at types alone; 26, over a question that passed 25, asks the same with the rule on generators switched on
unfoldable pub types_fit : Tables → Question → Bool
types_fit T q = is_typed (type_of (λ c m. true) T (as_term q) (λ x. wrong))

unfoldable pub generators_fit : Tables → Question → Bool
generators_fit T q = is_typed (type_of may_stand T (as_term q) (λ x. wrong))
