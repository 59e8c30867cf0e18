-- A typed question to which no rule applies is a normal form, but for the numbers of its generators.
use mathlib.Core.Path.{◌≡◌, refl, sym, ap, ap₂, subst, ◌∙◌}
use mathlib.Core.Bool.{Bool, true, false, false≢true}
use Prim.Native.Nat.{ℕ, zero, suc}
use lib.Dec.{eqb}
use Rattle.spec_calculus.specs.Lists.{pick, upd}
use Rattle.spec_calculus.specs.Syntax.{Collection, Monoid, of, sum, max, min, some, all, Bin, plus, minus, times, equal, less, and, or, Fun, choice, is_open, Term, Terms, Quals, num, name, field, rec, bin, negate, app, comp, table, tnil, tcons, qnil, gen, bind, cond, Question, as_term}
use Rattle.spec_calculus.specs.Syntax as Sy
use Rattle.spec_calculus.specs.Value.{Tables, kind_of, columns_of, is_there}
use Rattle.spec_checks.specs.Types.{Ty, Tys, ynil, ycons, Typed, Typeds, number, truth, record', coll, wrong, has, wrongs, hass, cells, type_at, field_type, of_number, of_truth, bin_type, gathers, comp_type, ranges, of_three, of_one, choice_type, app_type, all_typed, record'', cons_type, Context, type_of, types_of, type_of_q, is_typed, types_fit}
use Rattle.spec_normal_form.specs.Form.{Form, Forms, Clauses, NormalForm, fnil, fcons, done}
use Rattle.spec_normal_form.specs.Form as Nf
use Rattle.spec_normal_form.specs.Normal.{idempotent}
use Rattle.spec_normal_form.specs.NoRule.{term_of, terms_of, quals_of, question_of, NotRecord, IsTable, NoRule, NoRuleL, NoRuleQ}

-- what has a type is typed
abbrev IsTyped : Typed → Type 0
IsTyped w = is_typed w ≡ true

wrong-typed : {A : Type 0} → IsTyped wrong → A
unfolding is_typed
wrong-typed h = absurd (false≢true h)

-- no field can be taken of it
abbrev NoFields : Typed → Type 0
NoFields w = (i : ℕ) → field_type i w ≡ wrong

number-fields : (s t : Typed) → NoFields t → NoFields (of_number s t)
unfolding of_number field_type
number-fields wrong t h i = refl
number-fields (has number) t h i = h i
number-fields (has truth) t h i = refl
number-fields (has (record' ts)) t h i = refl
number-fields (has (coll c u)) t h i = refl

truth-fields : (s t : Typed) → NoFields t → NoFields (of_truth s t)
unfolding of_truth field_type
truth-fields wrong t h i = refl
truth-fields (has number) t h i = refl
truth-fields (has truth) t h i = h i
truth-fields (has (record' ts)) t h i = refl
truth-fields (has (coll c u)) t h i = refl

bin-fields : (o : Bin) (s t : Typed) → NoFields (bin_type o s t)
unfolding bin_type field_type
bin-fields plus s t = number-fields s (of_number t (has number)) (number-fields t (has number) (λ i. refl))
bin-fields minus s t = number-fields s (of_number t (has number)) (number-fields t (has number) (λ i. refl))
bin-fields times s t = number-fields s (of_number t (has number)) (number-fields t (has number) (λ i. refl))
bin-fields equal s t = number-fields s (of_number t (has truth)) (number-fields t (has truth) (λ i. refl))
bin-fields less s t = number-fields s (of_number t (has truth)) (number-fields t (has truth) (λ i. refl))
bin-fields and s t = truth-fields s (of_truth t (has truth)) (truth-fields t (has truth) (λ i. refl))
bin-fields or s t = truth-fields s (of_truth t (has truth)) (truth-fields t (has truth) (λ i. refl))

choice-fields : (c s t : Ty) → NoFields (choice_type c s t)
unfolding choice_type field_type
choice-fields c number t = truth-fields (has c) (of_number (has t) (has number)) (number-fields (has t) (has number) (λ i. refl))
choice-fields c truth t = truth-fields (has c) (of_truth (has t) (has truth)) (truth-fields (has t) (has truth) (λ i. refl))
choice-fields c (record' us) t = λ i. refl
choice-fields c (coll d u) t = λ i. refl

app-fields : (f : Fun) (us : Tys) → NoFields (app_type f us)
unfolding app_type of_three of_one field_type
app-fields choice ynil = λ i. refl
app-fields choice (ycons s ynil) = λ i. refl
app-fields choice (ycons s (ycons t ynil)) = λ i. refl
app-fields choice (ycons s (ycons t (ycons u ynil))) = choice-fields s t u
app-fields choice (ycons s (ycons t (ycons u (ycons v us)))) = λ i. refl
app-fields (is_open n c) ynil = λ i. refl
app-fields (is_open n c) (ycons t ynil) = number-fields (has t) (has truth) (λ i. refl)
app-fields (is_open n c) (ycons t (ycons u us)) = λ i. refl

all-fields : (ws : Typeds) (k : Tys → Typed) → ((us : Tys) → NoFields (k us)) → NoFields (all_typed ws k)
unfolding all_typed field_type
all-fields wrongs k h = λ i. refl
all-fields (hass us) k h = h us

comp-fields : (m : Monoid) (t : Typed) → NoFields (comp_type m t)
unfolding comp_type gathers field_type
comp-fields (of c) wrong = λ i. refl
comp-fields (of c) (has t) = λ i. refl
comp-fields sum t = number-fields t (has number) (λ i. refl)
comp-fields max t = number-fields t (has number) (λ i. refl)
comp-fields min t = number-fields t (has number) (λ i. refl)
comp-fields some t = truth-fields t (has truth) (λ i. refl)
comp-fields all t = truth-fields t (has truth) (λ i. refl)

cell-fields : (j n : ℕ) → NoFields (type_at j (cells n))
unfolding type_at cells field_type
cell-fields j zero = λ i. refl
cell-fields zero (suc n) = λ i. refl
cell-fields (suc j) (suc n) = cell-fields j n

-- a generator's name has a row's type
abbrev IsRow : Typed → Type 0
IsRow wrong = Unit {0}
IsRow (has t) = (n : ℕ) × (t ≡ record' (cells n))

row-fields : (w : Typed) → IsRow w → (j : ℕ) → NoFields (field_type j w)
unfolding field_type
row-fields wrong r j = λ i. refl
row-fields (has t) r j = subst (λ u. NoFields (field_type j (has u))) (sym r.1) (cell-fields j r.0)

abbrev Rows : Context → Type 0
Rows Γ = (x : ℕ) → IsRow (Γ x)

rows-upd : (x n : ℕ) (Γ : Context) → Rows Γ → Rows (upd x (has (record' (cells n))) Γ)
unfolding upd
rows-upd x n Γ r y = go (eqb x y) refl
  where
    go : (b : Bool) → eqb x y ≡ b → IsRow (upd x (has (record' (cells n))) Γ y)
    go true p = rw (p, upd) (n, refl)
    go false p = rw (p, upd) (r y)

-- typed, so its parts are
field-typed : (i : ℕ) (w : Typed) → IsTyped (field_type i w) → IsTyped w
unfolding field_type is_typed
field-typed i wrong h = h
field-typed i (has t) h = refl

number-typed : (s t : Typed) → IsTyped (of_number s t) → IsTyped s × IsTyped t
unfolding of_number is_typed
number-typed wrong t h = wrong-typed h
number-typed (has number) t h = (refl, h)
number-typed (has truth) t h = wrong-typed h
number-typed (has (record' ts)) t h = wrong-typed h
number-typed (has (coll c u)) t h = wrong-typed h

truth-typed : (s t : Typed) → IsTyped (of_truth s t) → IsTyped s × IsTyped t
unfolding of_truth is_typed
truth-typed wrong t h = wrong-typed h
truth-typed (has number) t h = wrong-typed h
truth-typed (has truth) t h = (refl, h)
truth-typed (has (record' ts)) t h = wrong-typed h
truth-typed (has (coll c u)) t h = wrong-typed h

numbers-typed : (s t u : Typed) → IsTyped (of_number s (of_number t u)) → IsTyped s × IsTyped t
numbers-typed s t u h = let a = number-typed s (of_number t u) h in (a.0, (number-typed t u a.1).0)

truths-typed : (s t u : Typed) → IsTyped (of_truth s (of_truth t u)) → IsTyped s × IsTyped t
truths-typed s t u h = let a = truth-typed s (of_truth t u) h in (a.0, (truth-typed t u a.1).0)

bin-typed : (o : Bin) (s t : Typed) → IsTyped (bin_type o s t) → IsTyped s × IsTyped t
unfolding bin_type
bin-typed plus s t h = numbers-typed s t (has number) h
bin-typed minus s t h = numbers-typed s t (has number) h
bin-typed times s t h = numbers-typed s t (has number) h
bin-typed equal s t h = numbers-typed s t (has truth) h
bin-typed less s t h = numbers-typed s t (has truth) h
bin-typed and s t h = truths-typed s t (has truth) h
bin-typed or s t h = truths-typed s t (has truth) h

comp-typed : (m : Monoid) (t : Typed) → IsTyped (comp_type m t) → IsTyped t
unfolding comp_type gathers is_typed
comp-typed (of c) wrong h = h
comp-typed (of c) (has t) h = refl
comp-typed sum t h = (number-typed t (has number) h).0
comp-typed max t h = (number-typed t (has number) h).0
comp-typed min t h = (number-typed t (has number) h).0
comp-typed some t h = (truth-typed t (has truth) h).0
comp-typed all t h = (truth-typed t (has truth) h).0

abbrev AreTyped : Typeds → Type 0
AreTyped wrongs = ⊥
AreTyped (hass ts) = Unit {0}

all_typed_lem : (ws : Typeds) (k : Tys → Typed) → IsTyped (all_typed ws k) → AreTyped ws
unfolding all_typed
all_typed_lem wrongs k h = wrong-typed h
all_typed_lem (hass ts) k h = tt

record-typed : (ws : Typeds) → IsTyped (record'' ws) → AreTyped ws
unfolding record''
record-typed wrongs h = wrong-typed h
record-typed (hass ts) h = tt

cons-typed : (w : Typed) (ws : Typeds) → AreTyped (cons_type w ws) → IsTyped w × AreTyped ws
unfolding cons_type is_typed
cons-typed wrong ws h = absurd h
cons-typed (has t) wrongs h = absurd h
cons-typed (has t) (hass ts) h = (refl, tt)

module _ (J : Collection → Monoid → Bool) (T : Tables) where
  -- no rule applies to it, and a field can be taken of it: it is a generator's name
  is_name : (t : Term) (Γ : Context) → Rows Γ → NotRecord t → NoRule t → (i : ℕ) → IsTyped (field_type i (type_of J T t Γ)) → (x : ℕ) × (t ≡ name x)
  unfolding type_of NoRule field_type
  is_name (num z) Γ r n a i h = wrong-typed h
  is_name (Sy.truth b) Γ r n a i h = wrong-typed h
  is_name (name x) Γ r n a i h = (x, refl)
  is_name (field j t) Γ r n a i h =
      let w = type_of J T t Γ in
      let y = is_name t Γ r a.0 a.1 j (field-typed i (field_type j w) h) in
      let e : field_type i (field_type j w) ≡ wrong = ap (λ u. field_type i (field_type j (type_of J T u Γ))) y.1 ∙ row-fields (Γ y.0) (r y.0) j i in
      wrong-typed (subst IsTyped e h)
  is_name (rec ts) Γ r n a i h = absurd n
  is_name (app f ts) Γ r n a i h = wrong-typed (subst IsTyped (all-fields (types_of J T ts Γ) (app_type f) (app-fields f) i) h)
  is_name (bin o s t) Γ r n a i h = wrong-typed (subst IsTyped (bin-fields o (type_of J T s Γ) (type_of J T t Γ) i) h)
  is_name (negate t) Γ r n a i h = wrong-typed (subst IsTyped (truth-fields (type_of J T t Γ) (has truth) (λ k. refl) i) h)
  is_name (comp m q t) Γ r n a i h = wrong-typed (subst IsTyped (comp-fields m (type_of_q J T m q (λ Δ. type_of J T t Δ) Γ) i) h)
  is_name (table k) Γ r n a i h = absurd a

  pick_typed : (b : Bool) (w : Typed) → IsTyped (pick b w wrong) → IsTyped w
  unfolding pick
  pick_typed true w h = h
  pick_typed false w h = wrong-typed h

  -- a generator over a table: its elements are rows
  over-table : (t : Term) (Γ : Context) (j : Collection → Bool) (k : Ty → Typed) → IsTable t → IsTyped (ranges j (type_of J T t Γ) k) → (x : ℕ) × (t ≡ table x) × (n : ℕ) × IsTyped (k (record' (cells n)))
  unfolding type_of ranges pick
  over-table (num z) Γ j k a h = absurd a
  over-table (Sy.truth b) Γ j k a h = absurd a
  over-table (name x) Γ j k a h = absurd a
  over-table (field i t) Γ j k a h = absurd a
  over-table (rec ts) Γ j k a h = absurd a
  over-table (app f ts) Γ j k a h = absurd a
  over-table (bin o s t) Γ j k a h = absurd a
  over-table (negate t) Γ j k a h = absurd a
  over-table (comp m q t) Γ j k a h = absurd a
  over-table (table x) Γ j k a h = go (is_there T x) h
    where
      go : (b : Bool) → IsTyped (ranges j (pick b (has (coll (kind_of T x) (record' (cells (columns_of T x))))) wrong) k) → (y : ℕ) × (table x ≡ table y) × (n : ℕ) × IsTyped (k (record' (cells n)))
      go true g = (x, refl, columns_of T x, pick_typed (j (kind_of T x)) (k (record' (cells (columns_of T x)))) g)
      go false g = wrong-typed g

  mutual
    unfolding type_of NoRule term_of

    form : (t : Term) (Γ : Context) → Rows Γ → IsTyped (type_of J T t Γ) → NoRule t → (f : Form) × (term_of f ≡ t)
    form (num z) Γ r h a = (Nf.num z, refl)
    form (Sy.truth b) Γ r h a = (Nf.truth b, refl)
    form (name x) Γ r h a = (Nf.row x, refl)
    form (field i t) Γ r h a = let y = is_name t Γ r a.0 a.1 i h in (Nf.cell i y.0, ap (field i) (sym y.1))
    form (rec ts) Γ r h a = let f = forms ts Γ r (record-typed (types_of J T ts Γ) h) a in (Nf.rec f.0, ap rec f.1)
    form (app f ts) Γ r h a = let g = forms ts Γ r (all_typed_lem (types_of J T ts Γ) (app_type f) h) a in (Nf.app f g.0, ap (app f) g.1)
    form (bin o s t) Γ r h a =
        let p = bin-typed o (type_of J T s Γ) (type_of J T t Γ) h in
        let f = form s Γ r p.0 a.0 in
        let g = form t Γ r p.1 a.1 in
        (Nf.bin o f.0 g.0, ap₂ (bin o) f.1 g.1)
    form (negate t) Γ r h a = let f = form t Γ r (truth-typed (type_of J T t Γ) (has truth) h).0 a in (Nf.negate f.0, ap negate f.1)
    form (comp m q t) Γ r h a =
        let w = comp-typed m (type_of_q J T m q (λ Δ. type_of J T t Δ) Γ) h in
        let f = form_q q m (idempotent m) t (λ Δ. type_of J T t Δ) (λ Δ s p. form t Δ s p a.1) Γ r w a.0 in
        (Nf.comp m f.0 f.2, ap₂ (comp m) f.1 f.3)
    form (table k) Γ r h a = absurd a

    forms : (ts : Terms) (Γ : Context) → Rows Γ → AreTyped (types_of J T ts Γ) → NoRuleL ts → (fs : Forms) × (terms_of fs ≡ ts)
    forms tnil Γ r h a = (fnil, refl)
    forms (tcons t ts) Γ r h a =
        let p = cons-typed (type_of J T t Γ) (types_of J T ts Γ) h in
        let f = form t Γ r p.0 a.0 in
        let g = forms ts Γ r p.1 a.1 in
        (fcons f.0 g.0, ap₂ tcons f.1 g.1)

    form_q : (q : Quals) (m : Monoid) (b : Bool) (t : Term) (k : Context → Typed) → ((Δ : Context) → Rows Δ → IsTyped (k Δ) → (f : Form) × (term_of f ≡ t)) → (Γ : Context) → Rows Γ → IsTyped (type_of_q J T m q k Γ) → NoRuleQ q b → (c : Clauses) × (quals_of c ≡ q) × (f : Form) × (term_of f ≡ t)
    form_q qnil m b t k e Γ r h a = let f = e Γ r h in (done, refl, f.0, f.1)
    form_q (gen x u q) m b t k e Γ r h a =
        let y = over-table u Γ (λ c. J c m) (λ v. type_of_q J T m q k (upd x (has v) Γ)) a.0 h in
        let f = form_q q m b t k e (upd x (has (record' (cells y.2))) Γ) (rows-upd x y.2 Γ r) y.3 a.1 in
        (Nf.gen x y.0 f.0, ap₂ (gen x) (sym y.1) f.1, f.2, f.3)
    form_q (bind x u q) m b t k e Γ r h a = absurd a
    form_q (cond u q) m b t k e Γ r h a =
        let p = truth-typed (type_of J T u Γ) (type_of_q J T m q k Γ) h in
        let g = form u Γ r p.0 a.1 in
        let f = form_q q m b t k e Γ r p.1 a.2 in
        (Nf.cond g.0 f.0, ap₂ cond g.1 f.1, f.2, f.3)

abbrev question : Monoid → Quals → Term → Question
question m q t = record { monoid = m; quals = q; head = t }

-- "Every generator left ranges over a table": a question with types that fit (25), to which no rule applies, is one that the
-- forms can write.
pub no-rule-form : (T : Tables) (q : Question) → types_fit T q ≡ true → NoRule (as_term q) → (f : NormalForm) × (question_of f ≡ q)
unfolding types_fit type_of NoRule
no-rule-form T q h a =
    let J : Collection → Monoid → Bool = λ c m. true in
    let w = comp-typed q.monoid (type_of_q J T q.monoid q.quals (λ Δ. type_of J T q.head Δ) (λ x. wrong)) h in
    let f = form_q J T q.quals q.monoid (idempotent q.monoid) q.head (λ Δ. type_of J T q.head Δ) (λ Δ s p. form J T q.head Δ s p a.1) (λ x. wrong) (λ x. tt) w a.0 in
    (record { monoid = q.monoid; clauses = f.0; head = f.2 }, ap₂ (question q.monoid) f.1 f.3)
