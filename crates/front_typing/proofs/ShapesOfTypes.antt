-- Each node's shape stands for its type. So the check by shapes accepts exactly what has a type.
use mathlib.Core.Path.{◌≡◌, refl, sym, ap, ap₂, subst, ◌∙◌}
use mathlib.Core.List.{List, [], ◌∷◌}
use mathlib.Core.Bool.{Bool, true, false, ◌&&◌}
use Prim.Native.Nat.{ℕ, zero, suc, ◌≤◌, ◌<◌}
use native.Mathlib.Omega.{arith}
use lib.Dec.{ltb, leb-zero, leb-suc-zero, leb-suc-suc}
use Rattle.spec_calendar.specs.Hours.{Calendar}
use Rattle.spec_calculus.specs.Lists.{pick}
use Rattle.spec_calculus.specs.Syntax as Sy
use Rattle.spec_calculus.specs.Syntax.{Collection, Monoid, of, sum, max, some, all, Bin, plus, minus, times, equal, less, and, or, Fun, choice, is_open}
use Rattle.spec_calculus.specs.Value.{Tables, kind_of, columns_of, is_there}
use Rattle.spec_checks.specs.Types.{Ty, Tys, number, truth, record', coll, ynil, Typed, wrong, has, Typeds, wrongs, hass, cells, type_at, field_type, of_number, of_truth, bin_type, of_three, of_one, choice_type, app_type, gathers, comp_type, ranges, typed_as, record'', all_typed, cons_type, is_typed}
use Rattle.spec_checks.proofs.Judgement.{cons-typed}
use Rattle.front_theory.specs.NodeTable.{Node, Nodes, nnum, ntruth, nname, nfield, nrec, nbin, nnegate, napp, ncomp, ntable, ngen, nbind, ncond, nbad, Below, Inside, PostOrder}
use Rattle.front_typing.specs.declared.TypeHead.{TypeHead}
use Rattle.front_typing.specs.declared.TypeHead.TheVariants.{Wrong, Number, Truth, Record, Row, Table, Coll}
use Rattle.front_typing.specs.NodeTypes.{StandsRule, types_by, behind_qual, behind_quals, table_type, type_by, node_type}
use Rattle.front_typing.specs.Shapes.{Known, fits, is_number, is_truth, collection_of, part_shape, field_shape, element_shape, stands, two_numbers, two_truths, bin_shape, truth_shape, alike_shape, choice_shape, choice_of, open_shape, open_of, app_shape, comp_shape, all_fit, qual_fits, quals_fit, shape_by}
use Rattle.front_typing.proofs.NodeTypes.{node-type}

-- what is known of the tables is right
pub record Knows (I : Known) (T : Tables) : Type 0 where
  pub has : (k : ℕ) → I.has k ≡ is_there T k
  pub columns : (k : ℕ) → is_there T k ≡ true → I.columns k ≡ columns_of T k
  pub kind : (k : ℕ) → is_there T k ≡ true → I.kind k ≡ kind_of T k

both-tests : (a b : Bool) (t : Typed) → pick a (pick b t wrong) wrong ≡ pick (a && b) t wrong
unfolding pick
both-tests true b t = refl
both-tests false b t = refl

cell-type : (n k : ℕ) → type_at k (cells n) ≡ pick (ltb k n) (has number) wrong
unfolding type_at cells pick
cell-type zero k = ap (λ b. pick b (has number) wrong) (sym (leb-suc-zero k))
cell-type (suc n) zero = ap (λ b. pick b (has number) wrong) (sym (leb-suc-suc 0 n ∙ leb-zero n))
cell-type (suc n) (suc k) = cell-type n k ∙ ap (λ b. pick b (has number) wrong) (sym (leb-suc-suc (suc k) n))

no-comp : (m : Monoid) → comp_type m wrong ≡ wrong
unfolding comp_type gathers of_number of_truth
no-comp (of c) = refl
no-comp sum = refl
no-comp max = refl
no-comp Sy.min = refl
no-comp some = refl
no-comp all = refl

-- the type of a collection's elements
abbrev elements : Typed → Typed
elements u = ranges (λ c. true) u (λ v. has v)

are_typed : Typeds → Bool
are_typed wrongs = false
are_typed (hass ts) = true

cons-is : (u : Typed) (r : Typeds) → are_typed (cons_type u r) ≡ is_typed u && are_typed r
unfolding are_typed cons_type is_typed
cons-is wrong r = refl
cons-is (has v) wrongs = refl
cons-is (has v) (hass ts) = refl

no-parts : (ts : Tys) → hass ynil ≡ hass ts → ts ≡ ynil
no-parts ts e = cc

-- the type of a choice's second and third terms, where they are alike
alike : Typed → Typed → Typed
alike wrong w = wrong
alike (has number) w = of_number w (has number)
alike (has truth) w = of_truth w (has truth)
alike (has (record' ts)) w = wrong
alike (has (coll c t)) w = wrong

no_truth : (u : Typed) → of_truth u wrong ≡ wrong
unfolding of_truth
no_truth wrong = refl
no_truth (has number) = refl
no_truth (has truth) = refl
no_truth (has (record' ts)) = refl
no_truth (has (coll c t)) = refl

alike-none : (v : Typed) → alike v wrong ≡ wrong
unfolding alike of_number of_truth
alike-none wrong = refl
alike-none (has number) = refl
alike-none (has truth) = refl
alike-none (has (record' ts)) = refl
alike-none (has (coll c t)) = refl

choice-type : (a b c : Ty) → choice_type a b c ≡ of_truth (has a) (alike (has b) (has c))
unfolding choice_type alike
choice-type a number c = refl
choice-type a truth c = refl
choice-type a (record' ts) c = sym (no_truth (has a))
choice-type a (coll d t) c = sym (no_truth (has a))

-- a choice's type, by the types of its terms: three, or there is none
abbrev chosen : Typeds → Typed
chosen r = all_typed r (app_type choice)

three-chosen : (u v w : Typed) → chosen (cons_type u (cons_type v (cons_type w (hass ynil)))) ≡ of_truth u (alike v w)
unfolding all_typed cons_type app_type of_three of_truth alike
three-chosen wrong v w = refl
three-chosen (has a) wrong w = sym (no_truth (has a))
three-chosen (has a) (has b) wrong = sym (ap (of_truth (has a)) (alike-none (has b)) ∙ no_truth (has a))
three-chosen (has a) (has b) (has c) = choice-type a b c

-- the type of kind 21, by the types of its terms: one, or there is none
module _ (n : ℕ) (x : Calendar) where
  abbrev opened : Typeds → Typed
  opened r = all_typed r (app_type (is_open n x))

  none-opened : opened (hass ynil) ≡ wrong
  unfolding all_typed app_type of_one
  none-opened = refl

  one-opened : (u : Typed) → opened (cons_type u (hass ynil)) ≡ of_number u (has truth)
  unfolding all_typed cons_type app_type of_one of_number
  one-opened wrong = refl
  one-opened (has a) = refl

  many-opened : (u v : Typed) (r : Typeds) → opened (cons_type u (cons_type v r)) ≡ wrong
  unfolding all_typed cons_type app_type of_one
  many-opened wrong v r = refl
  many-opened (has a) wrong r = refl
  many-opened (has a) (has b) wrongs = refl
  many-opened (has a) (has b) (hass ts) = refl

none-chosen : chosen (hass ynil) ≡ wrong
unfolding all_typed app_type of_three
none-chosen = refl

one-chosen : (u : Typed) → chosen (cons_type u (hass ynil)) ≡ wrong
unfolding all_typed cons_type app_type of_three
one-chosen wrong = refl
one-chosen (has a) = refl

two-chosen : (u v : Typed) → chosen (cons_type u (cons_type v (hass ynil))) ≡ wrong
unfolding all_typed cons_type app_type of_three
two-chosen wrong v = refl
two-chosen (has a) wrong = refl
two-chosen (has a) (has b) = refl

many-chosen : (u v w x : Typed) (r : Typeds) → chosen (cons_type u (cons_type v (cons_type w (cons_type x r)))) ≡ wrong
unfolding all_typed cons_type app_type of_three
many-chosen wrong v w x r = refl
many-chosen (has a) wrong w x r = refl
many-chosen (has a) (has b) wrong x r = refl
many-chosen (has a) (has b) (has c) wrong r = refl
many-chosen (has a) (has b) (has c) (has d) wrongs = refl
many-chosen (has a) (has b) (has c) (has d) (hass ts) = refl

module _ (J : StandsRule) (T : Tables) (N : Nodes) where
  abbrev τ : ℕ → Typed
  τ i = node_type J T N i

  -- a shape stands for a type
  abbrev pub Rep : TypeHead → Typed → Type 0
  Rep Wrong u = u ≡ wrong
  Rep Number u = u ≡ has number
  Rep Truth u = u ≡ has truth
  Rep (Record j) u = (cs : List ℕ) × (ts : Tys) × (N j ≡ nrec cs) × (types_by τ cs ≡ hass ts) × (u ≡ has (record' ts))
  Rep (Row k) u = (is_there T k ≡ true) × (u ≡ has (record' (cells (columns_of T k))))
  Rep (Table k) u = (is_there T k ≡ true) × (u ≡ has (coll (kind_of T k) (record' (cells (columns_of T k)))))
  Rep (Coll j) u = (a : Collection) × (cs : List ℕ) × (h : ℕ) × (v : Ty) × (N j ≡ ncomp (of a) cs h) × (τ h ≡ has v) × (u ≡ has (coll a v))

  -- the node that it refers to stands at i or before it
  abbrev pub Within : ℕ → TypeHead → Type 0
  Within i Wrong = Unit {0}
  Within i Number = Unit {0}
  Within i Truth = Unit {0}
  Within i (Record j) = j ≤ i
  Within i (Row k) = Unit {0}
  Within i (Table k) = Unit {0}
  Within i (Coll j) = j ≤ i

  within_more : (i j : ℕ) → j ≤ i → (a : TypeHead) → Within j a → Within i a
  within_more i j l Wrong h = tt
  within_more i j l Number h = tt
  within_more i j l Truth h = tt
  within_more i j l (Record k) h = omega arith
  within_more i j l (Row k) h = tt
  within_more i j l (Table k) h = tt
  within_more i j l (Coll k) h = omega arith

  rep-pick : (b : Bool) (a : TypeHead) (u : Typed) → Rep a u → Rep (pick b a Wrong) (pick b u wrong)
  unfolding pick
  rep-pick true a u h = h
  rep-pick false a u h = refl

  within-pick : (i : ℕ) (b : Bool) (a : TypeHead) → Within i a → Within i (pick b a Wrong)
  unfolding pick
  within-pick i true a h = h
  within-pick i false a h = tt

  -- ---- what an operand is asked
  number_is : (a : TypeHead) (u : Typed) → Rep a u → (t : Typed) → of_number u t ≡ pick (is_number a) t wrong
  unfolding pick of_number
  number_is Wrong u h t = ap (λ v. of_number v t) h
  number_is Number u h t = ap (λ v. of_number v t) h
  number_is Truth u h t = ap (λ v. of_number v t) h
  number_is (Record j) u h t = ap (λ v. of_number v t) h.4
  number_is (Row k) u h t = ap (λ v. of_number v t) h.1
  number_is (Table k) u h t = ap (λ v. of_number v t) h.1
  number_is (Coll j) u h t = ap (λ v. of_number v t) h.6

  truth-is : (a : TypeHead) (u : Typed) → Rep a u → (t : Typed) → of_truth u t ≡ pick (is_truth a) t wrong
  unfolding pick of_truth
  truth-is Wrong u h t = ap (λ v. of_truth v t) h
  truth-is Number u h t = ap (λ v. of_truth v t) h
  truth-is Truth u h t = ap (λ v. of_truth v t) h
  truth-is (Record j) u h t = ap (λ v. of_truth v t) h.4
  truth-is (Row k) u h t = ap (λ v. of_truth v t) h.1
  truth-is (Table k) u h t = ap (λ v. of_truth v t) h.1
  truth-is (Coll j) u h t = ap (λ v. of_truth v t) h.6

  typed-is : (a : TypeHead) (u : Typed) → Rep a u → (t : Typed) → typed_as u (λ v. t) ≡ pick (fits a) t wrong
  unfolding pick typed_as
  typed-is Wrong u h t = ap (λ v. typed_as v (λ w. t)) h
  typed-is Number u h t = ap (λ v. typed_as v (λ w. t)) h
  typed-is Truth u h t = ap (λ v. typed_as v (λ w. t)) h
  typed-is (Record j) u h t = ap (λ v. typed_as v (λ w. t)) h.4
  typed-is (Row k) u h t = ap (λ v. typed_as v (λ w. t)) h.1
  typed-is (Table k) u h t = ap (λ v. typed_as v (λ w. t)) h.1
  typed-is (Coll j) u h t = ap (λ v. typed_as v (λ w. t)) h.6

  -- the check accepts exactly what has a type
  pub fits_is : (a : TypeHead) (u : Typed) → Rep a u → is_typed u ≡ fits a
  unfolding is_typed
  fits_is Wrong u h = ap is_typed h
  fits_is Number u h = ap is_typed h
  fits_is Truth u h = ap is_typed h
  fits_is (Record j) u h = ap is_typed h.4
  fits_is (Row k) u h = ap is_typed h.1
  fits_is (Table k) u h = ap is_typed h.1
  fits_is (Coll j) u h = ap is_typed h.6

  -- ---- operations
  two-numbers : (a b : TypeHead) (u v : Typed) (r : TypeHead) (t : Typed) → Rep a u → Rep b v → Rep r t → Rep (two_numbers a b r) (of_number u (of_number v t))
  unfolding two_numbers
  two-numbers a b u v r t p q h =
      let e = number_is a u p (of_number v t) ∙ ap (λ w. pick (is_number a) w wrong) (number_is b v q t) ∙ both-tests (is_number a) (is_number b) t in
      subst (Rep (pick (is_number a && is_number b) r Wrong)) (sym e) (rep-pick (is_number a && is_number b) r t h)

  two-truths : (a b : TypeHead) (u v : Typed) (r : TypeHead) (t : Typed) → Rep a u → Rep b v → Rep r t → Rep (two_truths a b r) (of_truth u (of_truth v t))
  unfolding two_truths
  two-truths a b u v r t p q h =
      let e = truth-is a u p (of_truth v t) ∙ ap (λ w. pick (is_truth a) w wrong) (truth-is b v q t) ∙ both-tests (is_truth a) (is_truth b) t in
      subst (Rep (pick (is_truth a && is_truth b) r Wrong)) (sym e) (rep-pick (is_truth a && is_truth b) r t h)

  rep-bin : (o : Bin) (a b : TypeHead) (u v : Typed) → Rep a u → Rep b v → Rep (bin_shape o a b) (bin_type o u v)
  unfolding bin_shape bin_type
  rep-bin plus a b u v p q = two-numbers a b u v Number (has number) p q refl
  rep-bin minus a b u v p q = two-numbers a b u v Number (has number) p q refl
  rep-bin times a b u v p q = two-numbers a b u v Number (has number) p q refl
  rep-bin equal a b u v p q = two-numbers a b u v Truth (has truth) p q refl
  rep-bin less a b u v p q = two-numbers a b u v Truth (has truth) p q refl
  rep-bin and a b u v p q = two-truths a b u v Truth (has truth) p q refl
  rep-bin or a b u v p q = two-truths a b u v Truth (has truth) p q refl

  rep-number : (a : TypeHead) (u : Typed) → Rep a u → Rep (pick (is_number a) Number Wrong) (of_number u (has number))
  rep-number a u p = subst (Rep (pick (is_number a) Number Wrong)) (sym (number_is a u p (has number))) (rep-pick (is_number a) Number (has number) refl)

  rep-truth : (a : TypeHead) (u : Typed) → Rep a u → Rep (truth_shape a) (of_truth u (has truth))
  unfolding truth_shape
  rep-truth a u p = subst (Rep (pick (is_truth a) Truth Wrong)) (sym (truth-is a u p (has truth))) (rep-pick (is_truth a) Truth (has truth) refl)

  rep-open : (a : TypeHead) (u : Typed) → Rep a u → Rep (open_shape a) (of_number u (has truth))
  rep-open a u p = subst (Rep (pick (is_number a) Truth Wrong)) (sym (number_is a u p (has truth))) (rep-pick (is_number a) Truth (has truth) refl)

  -- ---- a choice
  rep-alike : (b c : TypeHead) (v w : Typed) → Rep b v → Rep c w → Rep (alike_shape b c) (alike v w)
  unfolding alike_shape alike pick
  rep-alike Wrong c v w p q = ap (λ x. alike x w) p
  rep-alike Number c v w p q = subst (Rep (pick (is_number c) Number Wrong)) (sym (ap (λ x. alike x w) p)) (rep-number c w q)
  rep-alike Truth c v w p q = subst (Rep (truth_shape c)) (sym (ap (λ x. alike x w) p)) (rep-truth c w q)
  rep-alike (Record j) c v w p q = ap (λ x. alike x w) p.4
  rep-alike (Row k) c v w p q = ap (λ x. alike x w) p.1
  rep-alike (Table k) c v w p q = ap (λ x. alike x w) p.1
  rep-alike (Coll j) c v w p q = ap (λ x. alike x w) p.6

  rep-choice : (a b c : TypeHead) (u v w : Typed) → Rep a u → Rep b v → Rep c w → Rep (choice_shape a b c) (of_truth u (alike v w))
  unfolding choice_shape
  rep-choice a b c u v w p q r =
      subst (Rep (pick (is_truth a) (alike_shape b c) Wrong)) (sym (truth-is a u p (alike v w))) (rep-pick (is_truth a) (alike_shape b c) (alike v w) (rep-alike b c v w q r))

  within-either : (i : ℕ) (t : Bool) (a b : TypeHead) → Within i a → Within i b → Within i (pick t a b)
  unfolding pick
  within-either i true a b h k = h
  within-either i false a b h k = k

  within-choice : (i : ℕ) (σ : ℕ → TypeHead) (cs : List ℕ) → Within i (choice_of σ cs)
  unfolding choice_of choice_shape alike_shape truth_shape
  within-choice i σ [] = tt
  within-choice i σ (a ∷ []) = tt
  within-choice i σ (a ∷ b ∷ []) = tt
  within-choice i σ (a ∷ b ∷ c ∷ []) = within-pick i (is_truth (σ a)) (alike_shape (σ b) (σ c)) (within-either i (is_number (σ b)) (pick (is_number (σ c)) Number Wrong) (pick (is_truth (σ b)) (truth_shape (σ c)) Wrong) (within-pick i (is_number (σ c)) Number tt) (within-pick i (is_truth (σ b)) (truth_shape (σ c)) (within-pick i (is_truth (σ c)) Truth tt)))
  within-choice i σ (a ∷ b ∷ c ∷ d ∷ cs) = tt

  within-open : (i : ℕ) (σ : ℕ → TypeHead) (cs : List ℕ) → Within i (open_of σ cs)
  unfolding open_of
  within-open i σ [] = tt
  within-open i σ (a ∷ []) = within-pick i (is_number (σ a)) Truth tt
  within-open i σ (a ∷ b ∷ cs) = tt

  within-app : (f : Fun) (i : ℕ) (σ : ℕ → TypeHead) (cs : List ℕ) → Within i (app_shape f σ cs)
  unfolding app_shape
  within-app choice i σ cs = within-choice i σ cs
  within-app (is_open n c) i σ cs = within-open i σ cs

  -- ---- a comprehension's node i
  gathered : (c : Collection) (i h : ℕ) (cs : List ℕ) (a : TypeHead) → N i ≡ ncomp (of c) cs h → Rep a (τ h) → (u : Typed) → τ h ≡ u → Rep (pick (fits a) (Coll i) Wrong) (gathers c u)
  unfolding gathers pick is_typed
  gathered c i h cs a e p wrong q = subst (λ b. Rep (pick b (Coll i) Wrong) wrong) (sym (ap is_typed q) ∙ fits_is a (τ h) p) refl
  gathered c i h cs a e p (has v) q = subst (λ b. Rep (pick b (Coll i) Wrong) (has (coll c v))) (sym (ap is_typed q) ∙ fits_is a (τ h) p) (c, cs, h, v, e, q, refl)

  rep-comp : (m : Monoid) (i h : ℕ) (cs : List ℕ) (a : TypeHead) → N i ≡ ncomp m cs h → Rep a (τ h) → Rep (comp_shape i m a) (comp_type m (τ h))
  unfolding comp_shape comp_type
  rep-comp (of c) i h cs a e p = gathered c i h cs a e p (τ h) refl
  rep-comp sum i h cs a e p = rep-number a (τ h) p
  rep-comp max i h cs a e p = rep-number a (τ h) p
  rep-comp Sy.min i h cs a e p = rep-number a (τ h) p
  rep-comp some i h cs a e p = rep-truth a (τ h) p
  rep-comp all i h cs a e p = rep-truth a (τ h) p

  within-comp : (m : Monoid) (i : ℕ) (a : TypeHead) → Within i (comp_shape i m a)
  unfolding comp_shape truth_shape
  within-comp (of c) i a = within-pick i (fits a) (Coll i) (omega arith)
  within-comp sum i a = within-pick i (is_number a) Number tt
  within-comp max i a = within-pick i (is_number a) Number tt
  within-comp Sy.min i a = within-pick i (is_number a) Number tt
  within-comp some i a = within-pick i (is_truth a) Truth tt
  within-comp all i a = within-pick i (is_truth a) Truth tt

  -- what the node table and the tables are
  module _ (I : Known) (K : Knows I T) (P : PostOrder N) where
    stands-is : (m : Monoid) (a : TypeHead) (u : Typed) → Rep a u → (t : Typed) → ranges (λ c. J c m) u (λ v. t) ≡ pick (stands J I N m a) t wrong
    unfolding pick ranges stands
    stands-is m Wrong u h t = ap (λ v. ranges (λ c. J c m) v (λ w. t)) h
    stands-is m Number u h t = ap (λ v. ranges (λ c. J c m) v (λ w. t)) h
    stands-is m Truth u h t = ap (λ v. ranges (λ c. J c m) v (λ w. t)) h
    stands-is m (Record j) u h t = ap (λ v. ranges (λ c. J c m) v (λ w. t)) h.4
    stands-is m (Row k) u h t = ap (λ v. ranges (λ c. J c m) v (λ w. t)) h.1
    stands-is m (Table k) u h t = ap (λ v. ranges (λ c. J c m) v (λ w. t)) h.1 ∙ ap (λ c. pick (J c m) t wrong) (sym (K.kind k h.0))
    stands-is m (Coll j) u h t = ap (λ v. ranges (λ c. J c m) v (λ w. t)) h.6 ∙ ap (λ y. pick (J (collection_of y) m) t wrong) (sym h.4)

    -- ---- where the shapes of the nodes before i are right
    module _ (σ : ℕ → TypeHead) (i : ℕ) (good : (j : ℕ) → j < i → Rep (σ j) (τ j) × Within j (σ j)) where
      qual-is : (m : Monoid) (c : ℕ) (y : Node) → c < i → Inside c y → (t : Typed) → behind_qual J τ m y t ≡ pick (qual_fits J I N σ m y) t wrong
      unfolding pick
      qual-is m c (ngen a) l h t = stands-is m (σ a) (τ a) (good a (omega arith)).0 t
      qual-is m c (nbind a) l h t = typed-is (σ a) (τ a) (good a (omega arith)).0 t
      qual-is m c (ncond a) l h t = truth-is (σ a) (τ a) (good a (omega arith)).0 t
      qual-is m c (nnum z) l h t = refl
      qual-is m c (ntruth b) l h t = refl
      qual-is m c (nname x d) l h t = refl
      qual-is m c (nfield k a) l h t = refl
      qual-is m c (nrec cs) l h t = refl
      qual-is m c (napp f cs) l h t = refl
      qual-is m c (nbin o a b) l h t = refl
      qual-is m c (nnegate a) l h t = refl
      qual-is m c (ncomp n cs k) l h t = refl
      qual-is m c (ntable k) l h t = refl
      qual-is m c nbad l h t = refl

      quals-is : (m : Monoid) (cs : List ℕ) → Below i cs → (t : Typed) → behind_quals J N τ m cs t ≡ pick (quals_fit J I N σ m cs) t wrong
      unfolding behind_quals quals_fit Below pick
      quals-is m [] b t = refl
      quals-is m (c ∷ cs) b t =
          qual-is m c (N c) b.0 (P c) (behind_quals J N τ m cs t) ∙ ap (λ u. pick (qual_fits J I N σ m (N c)) u wrong) (quals-is m cs b.1 t) ∙
          both-tests (qual_fits J I N σ m (N c)) (quals_fit J I N σ m cs) t

      rep-comp-at : (m : Monoid) (cs : List ℕ) (h : ℕ) → N i ≡ ncomp m cs h → Below i cs → h < i →
          Rep (pick (quals_fit J I N σ m cs) (comp_shape i m (σ h)) Wrong) (comp_type m (behind_quals J N τ m cs (τ h)))
      unfolding pick
      rep-comp-at m cs h e b l =
          subst (Rep (pick (quals_fit J I N σ m cs) (comp_shape i m (σ h)) Wrong)) (sym (ap (comp_type m) (quals-is m cs b (τ h)) ∙ go (quals_fit J I N σ m cs)))
          (rep-pick (quals_fit J I N σ m cs) (comp_shape i m (σ h)) (comp_type m (τ h)) (rep-comp m i h cs (σ h) e (good h l).0))
        where
          go : (b : Bool) → comp_type m (pick b (τ h) wrong) ≡ pick b (comp_type m (τ h)) wrong
          go true = refl
          go false = no-comp m

      -- the parts of a record
      parts_is : (cs : List ℕ) → Below i cs → are_typed (types_by τ cs) ≡ all_fit σ cs
      unfolding all_fit types_by Below are_typed
      parts_is [] b = refl
      parts_is (c ∷ cs) b = cons-is (τ c) (types_by τ cs) ∙ ap₂ (λ x y. x && y) (fits_is (σ c) (τ c) (good c b.0).0) (parts_is cs b.1)

      rep-record : (cs : List ℕ) → N i ≡ nrec cs → Below i cs → Rep (pick (all_fit σ cs) (Record i) Wrong) (record'' (types_by τ cs))
      unfolding pick record'' are_typed
      rep-record cs e b = subst (λ a. Rep (pick a (Record i) Wrong) (record'' (types_by τ cs))) (parts_is cs b) (go (types_by τ cs) refl)
        where
          go : (r : Typeds) → types_by τ cs ≡ r → Rep (pick (are_typed r) (Record i) Wrong) (record'' r)
          go wrongs q = refl
          go (hass ts) q = (cs, ts, e, q, refl)

      -- the terms of an operator
      rep-chosen : (cs : List ℕ) → Below i cs → Rep (choice_of σ cs) (chosen (types_by τ cs))
      unfolding choice_of types_by Below
      rep-chosen [] b = none-chosen
      rep-chosen (a ∷ []) b = one-chosen (τ a)
      rep-chosen (a ∷ c ∷ []) b = two-chosen (τ a) (τ c)
      rep-chosen (a ∷ c ∷ d ∷ []) b =
          subst (Rep (choice_shape (σ a) (σ c) (σ d))) (sym (three-chosen (τ a) (τ c) (τ d)))
          (rep-choice (σ a) (σ c) (σ d) (τ a) (τ c) (τ d) (good a b.0).0 (good c b.1.0).0 (good d b.1.1.0).0)
      rep-chosen (a ∷ c ∷ d ∷ e ∷ cs) b = many-chosen (τ a) (τ c) (τ d) (τ e) (types_by τ cs)

      rep-opened : (n : ℕ) (x : Calendar) (cs : List ℕ) → Below i cs → Rep (open_of σ cs) (all_typed (types_by τ cs) (app_type (is_open n x)))
      unfolding open_of types_by Below
      rep-opened n x [] b = none-opened n x
      rep-opened n x (a ∷ []) b = subst (Rep (open_shape (σ a))) (sym (one-opened n x (τ a))) (rep-open (σ a) (τ a) (good a b.0).0)
      rep-opened n x (a ∷ c ∷ cs) b = many-opened n x (τ a) (τ c) (types_by τ cs)

      rep-app : (f : Fun) (cs : List ℕ) → Below i cs → Rep (app_shape f σ cs) (all_typed (types_by τ cs) (app_type f))
      unfolding app_shape
      rep-app choice cs b = rep-chosen cs b
      rep-app (is_open n x) cs b = rep-opened n x cs b

      -- a part of a record
      rep-part : (cs : List ℕ) (k : ℕ) (ts : Tys) → Below i cs → types_by τ cs ≡ hass ts → Rep (part_shape σ k cs) (type_at k ts) × Within i (part_shape σ k cs)
      unfolding part_shape types_by type_at Below
      rep-part [] k ts b e = (ap (type_at k) (no-parts ts e), tt)
      rep-part (c ∷ cs) zero ts b e =
          let q = cons-typed (τ c) (types_by τ cs) ts e in
          let g = good c b.0 in
          (subst (Rep (σ c)) (q.2 ∙ sym (ap (type_at 0) q.4)) g.0, within_more i c (omega (arith, b.0)) (σ c) g.1)
      rep-part (c ∷ cs) (suc k) ts b e =
          let q = cons-typed (τ c) (types_by τ cs) ts e in
          let r = rep-part cs k q.1 b.1 q.3 in
          (subst (Rep (part_shape σ k cs)) (sym (ap (type_at (suc k)) q.4)) r.0, r.1)

      below_less : (j : ℕ) → j ≤ i → (cs : List ℕ) → Below j cs → Below i cs
      unfolding Below
      below_less j l [] b = tt
      below_less j l (c ∷ cs) b = (omega (arith, b.0), below_less j l cs b.1)

      rep-field : (k : ℕ) (a : TypeHead) (u : Typed) → Rep a u → Within i a → Rep (field_shape I N σ k a) (field_type k u) × Within i (field_shape I N σ k a)
      unfolding field_shape field_type
      rep-field k Wrong u h w = (ap (field_type k) h, tt)
      rep-field k Number u h w = (ap (field_type k) h, tt)
      rep-field k Truth u h w = (ap (field_type k) h, tt)
      rep-field k (Record j) u h w =
          let r = rep-part h.0 k h.1 (below_less j w h.0 (subst (Inside j) h.2 (P j))) h.3 in
          rw h.2 (subst (Rep (part_shape σ k h.0)) (sym (ap (field_type k) h.4)) r.0, r.1)
      rep-field k (Row t) u h w = (
        subst (Rep (pick (ltb k (I.columns t)) Number Wrong))
            (sym (ap (field_type k) h.1 ∙ cell-type (columns_of T t) k ∙ ap (λ n. pick (ltb k n) (has number) wrong) (sym (K.columns t h.0))))
            (rep-pick (ltb k (I.columns t)) Number (has number) refl),
        within-pick i (ltb k (I.columns t)) Number tt,
      )
      rep-field k (Table t) u h w = (ap (field_type k) h.1, tt)
      rep-field k (Coll j) u h w = (ap (field_type k) h.6, tt)

      -- an element of a collection
      rep-element : (a : TypeHead) (u : Typed) → Rep a u → Within i a → Rep (element_shape N σ a) (elements u) × Within i (element_shape N σ a)
      unfolding element_shape ranges pick
      rep-element Wrong u h w = (ap elements h, tt)
      rep-element Number u h w = (ap elements h, tt)
      rep-element Truth u h w = (ap elements h, tt)
      rep-element (Record j) u h w = (ap elements h.4, tt)
      rep-element (Row t) u h w = (ap elements h.1, tt)
      rep-element (Table t) u h w = ((h.0, ap elements h.1), tt)
      rep-element (Coll j) u h w =
          let l = (subst (Inside j) h.4 (P j)).1 in
          let g = good h.2 (omega (arith, l, w)) in
          rw h.4 (subst (Rep (σ h.2)) (h.5 ∙ sym (ap elements h.6)) g.0, within_more i h.2 (omega (arith, l, w)) (σ h.2) g.1)

      rep-table : (k : ℕ) → Rep (pick (I.has k) (Table k) Wrong) (table_type T k)
      unfolding pick
      rep-table k = subst (λ b. Rep (pick b (Table k) Wrong) (table_type T k)) (sym (K.has k)) (go (is_there T k) refl)
        where
          go : (b : Bool) → is_there T k ≡ b → Rep (pick b (Table k) Wrong) (pick b (has (coll (kind_of T k) (record' (cells (columns_of T k))))) wrong)
          go true e = (e, refl)
          go false e = refl

      before : (c : ℕ) → c < i → Rep (σ c) (τ c) × Within i (σ c)
      before c l = ((good c l).0, within_more i c (omega arith) (σ c) (good c l).1)

      within-bin : (o : Bin) (a b : TypeHead) → Within i (bin_shape o a b)
      unfolding bin_shape two_numbers two_truths
      within-bin plus a b = within-pick i (is_number a && is_number b) Number tt
      within-bin minus a b = within-pick i (is_number a && is_number b) Number tt
      within-bin times a b = within-pick i (is_number a && is_number b) Number tt
      within-bin equal a b = within-pick i (is_number a && is_number b) Truth tt
      within-bin less a b = within-pick i (is_number a && is_number b) Truth tt
      within-bin and a b = within-pick i (is_truth a && is_truth b) Truth tt
      within-bin or a b = within-pick i (is_truth a && is_truth b) Truth tt

      within-truth : (a : TypeHead) → Within i (truth_shape a)
      unfolding truth_shape
      within-truth a = within-pick i (is_truth a) Truth tt

      shape-by : (y : Node) → N i ≡ y → Inside i y → Rep (shape_by J I N σ i y) (type_by J T N τ y) × Within i (shape_by J I N σ i y)
      shape-by (nnum z) e h = (refl, tt)
      shape-by (ntruth b) e h = (refl, tt)
      shape-by (nname x d) e h = before x h
      shape-by (nfield k c) e h = let g = before c h in rep-field k (σ c) (τ c) g.0 g.1
      shape-by (nrec cs) e h = (rep-record cs e h, within-pick i (all_fit σ cs) (Record i) (omega arith))
      shape-by (napp f cs) e h = (rep-app f cs h, within-app f i σ cs)
      shape-by (nbin o a b) e h = (rep-bin o (σ a) (σ b) (τ a) (τ b) (good a h.0).0 (good b h.1).0, within-bin o (σ a) (σ b))
      shape-by (nnegate c) e h = (rep-truth (σ c) (τ c) (good c h).0, within-truth (σ c))
      shape-by (ncomp m cs k) e h = (rep-comp-at m cs k e h.0 h.1, within-pick i (quals_fit J I N σ m cs) (comp_shape i m (σ k)) (within-comp m i (σ k)))
      shape-by (ntable k) e h = (rep-table k, within-pick i (I.has k) (Table k) tt)
      shape-by (ngen c) e h = let g = before c h in rep-element (σ c) (τ c) g.0 g.1
      shape-by (nbind c) e h = before c h
      shape-by (ncond c) e h = (rep-truth (σ c) (τ c) (good c h).0, within-truth (σ c))
      shape-by nbad e h = (refl, tt)

      -- then the shape of node i is right
      pub shape-step : Rep (shape_by J I N σ i (N i)) (τ i) × Within i (shape_by J I N σ i (N i))
      shape-step =
          let r = shape-by (N i) refl (P i) in
          (subst (Rep (shape_by J I N σ i (N i))) (sym (node-type J T N P i)) r.0, r.1)
