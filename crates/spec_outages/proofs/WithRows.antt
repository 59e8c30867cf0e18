-- Tables with other rows in one of them: what the checks see of them stays, so that the checks run once; a question's value over them is its normal form's.
use mathlib.Core.Path.{◌≡◌, refl, sym, ap, subst, ◌∙◌, fun_ext}
use mathlib.Core.List.{List, [], ◌∷◌}
use mathlib.Core.Bool.{Bool, true, false}
use mathlib.Core.Logic.{inl, inr}
use Prim.Native.Nat.{ℕ, zero, suc, ◌^◌, ◌≤◌, ◌<◌}
use native.Mathlib.Omega.{arith}
use borrow.Author.Tests.{eqb-true, eqb-false, ltb-true, ltb-false, leb-true}
use lib.Dec.{eqb, ltb, leb}
use lib.ListN.{length, get_or, set, length-set, get_or-eq_default}
use lib.Seq.{get_or-set_same, get_or-set_other}
use Rattle.spec_calculus.specs.Syntax.{Collection, Monoid, Question, as_term}
use Rattle.spec_calculus.specs.Value.{Value, as_bool, Table, Tables, no_table, kind_of, columns_of, bound_of, is_there, rows_of}
use Rattle.spec_calculus.specs.Monoid.{canonical, raw}
use Rattle.spec_calculus.specs.Meaning.{meaning}
use Rattle.spec_calculus.proofs.Lists.{All}
use Rattle.spec_calculus.proofs.WellFormed.{WellFormedRow, CellsWithin, RowsFit, WellFormedAt, WellFormed, all-at}
use Rattle.spec_encoding.specs.Record.{Result, got, require}
use Rattle.spec_checks.specs.Scope.{names_hold}
use Rattle.spec_checks.specs.Calendars.{calendars_lent}
use Rattle.spec_checks.specs.Types.{wrong, type_of, may_stand, is_typed, types_fit, generators_fit}
use Rattle.spec_checks.proofs.StoredTables.{type-same}
use Rattle.spec_checks.proofs.Refold.{refold-reads}
use Rattle.spec_normal_form.specs.Form.{as_form, normal_value}
use Rattle.spec_normal_form.specs.Normal.{normal}
use Rattle.spec_normal_form.specs.Size.{size_fits}
use Rattle.spec_normal_form.specs.Bound.{numbers_fit}
use Rattle.spec_normal_form.proofs.Meaning.{normal-keeps}
use Rattle.spec_normal_form.proofs.RawArranged.{shape, normal-arranged}
use Rattle.spec_outcome.specs.Acceptance.{Accepted, judge}
use Rattle.spec_outcome.proofs.Checks.{Passed}
use Rattle.spec_outages.specs.Outages.{with_rows}

all_set : {A : Type 0} (P : A → Type 0) (l : List A) (k : ℕ) (a : A) → All P l → P a → All P (set l k a)
all_set P [] k a h p = tt
all_set P (x ∷ l) zero a h p = (p, h.1)
all_set P (x ∷ l) (suc k) a h p = (h.0, all_set P l k a h.1 p)

module _ (T : Tables) (k : ℕ) (l : List Value) where
  abbrev U : Tables
  U = with_rows T k l

  abbrev this : Table
  this = record { kind = (get_or T k no_table).kind; columns = (get_or T k no_table).columns; bounds = (get_or T k no_table).bounds; rows = l }

  pub with-length : length U ≡ length T
  unfolding with_rows
  with-length = length-set T k this

  pub with-here : k < length T → get_or U k no_table ≡ this
  unfolding with_rows
  with-here p = get_or-set_same T k this no_table p

  pub with-other : (j : ℕ) → (j ≡ k → ⊥) → get_or U j no_table ≡ get_or T j no_table
  unfolding with_rows
  with-other j n = get_or-set_other T k j this no_table n

  pub with_rows_lem : k < length T → rows_of U k ≡ l
  unfolding rows_of
  with_rows_lem p = ap (λ (t : Table). t.rows) (with-here p)

  -- whatever of a table is not its rows
  keeps : {A : Type 0} (f : Table → A) → ((t : Table) (x y : List Value) → f (record { kind = t.kind; columns = t.columns; bounds = t.bounds; rows = x }) ≡ f (record { kind = t.kind; columns = t.columns; bounds = t.bounds; rows = y })) → (j : ℕ) → f (get_or U j no_table) ≡ f (get_or T j no_table)
  keeps f h j = go (eqb j k) refl
    where
      here : (b : Bool) → ltb k (length T) ≡ b → f (get_or U k no_table) ≡ f (get_or T k no_table)
      here true p = ap f (with-here (ltb-true k (length T) p)) ∙ h (get_or T k no_table) l (get_or T k no_table).rows
      here false p = let q = ltb-false k (length T) p in
          ap f (get_or-eq_default U no_table (omega (arith, with-length, q)) ∙ sym (get_or-eq_default T no_table q))

      go : (b : Bool) → eqb j k ≡ b → f (get_or U j no_table) ≡ f (get_or T j no_table)
      go true e = subst (λ (i : ℕ). f (get_or U i no_table) ≡ f (get_or T i no_table)) (sym (eqb-true j k e)) (here (ltb k (length T)) refl)
      go false e = ap f (with-other j (eqb-false j k e))

  pub with-kind : (j : ℕ) → kind_of U j ≡ kind_of T j
  unfolding kind_of
  with-kind = keeps (λ t. t.kind) (λ t x y. refl)

  pub with-columns : (j : ℕ) → columns_of U j ≡ columns_of T j
  unfolding columns_of
  with-columns = keeps (λ t. t.columns) (λ t x y. refl)

  pub with-there : (j : ℕ) → is_there U j ≡ is_there T j
  unfolding is_there
  with-there j = ap (λ (n : ℕ). leb 1 n) (with-columns j)

  pub with_bound : bound_of U ≡ bound_of T
  unfolding bound_of
  with_bound = fun_ext λ j. fun_ext λ c. keeps (λ t. get_or t.bounds c 0) (λ t x y. refl) j

  -- ---- the checks
  form-same : (q : Question) → normal (kind_of U) q ≡ normal (kind_of T) q
  form-same q = ap (λ (K : ℕ → Collection). normal K q) (fun_ext with-kind)

  typed-same : (J : Collection → Monoid → Bool) (q : Question) → type_of J U (as_term q) (λ x. wrong) ≡ type_of J T (as_term q) (λ x. wrong)
  typed-same J q = type-same J U T with-kind with-columns (as_term q) (λ x. wrong)

  types_same : (q : Question) → types_fit U q ≡ types_fit T q
  unfolding types_fit
  types_same q = ap is_typed (typed-same (λ c m. true) q)

  generators-same : (q : Question) → generators_fit U q ≡ generators_fit T q
  unfolding generators_fit
  generators-same q = ap is_typed (typed-same may_stand q)

  module _ {a : Accepted} (p : Passed a) (h : a.tables ≡ T) where
    abbrev over : Accepted
    over = record { tables = U; lent = a.lent; question = a.question; form = a.form }

    form-here : a.form ≡ normal (kind_of U) a.question
    form-here = p.form-is ∙ ap (λ (S : Tables). normal (kind_of S) a.question) h ∙ sym (form-same a.question)

    -- "11 to 28 .. look at no row": what is accepted over the tables is accepted over these, with the same normal form.
    pub judged-over : judge U a.lent a.question ≡ got over
    unfolding judge require
    judged-over = rw (← form-here, p.names, types_same a.question ∙ ap (λ (S : Tables). types_fit S a.question) (sym h) ∙ p.types, p.calendars, generators-same a.question ∙ ap (λ (S : Tables). generators_fit S a.question) (sym h) ∙ p.generators, p.size, ap (λ B. numbers_fit B a.form) with_bound ∙ ap (λ (S : Tables). numbers_fit (bound_of S) a.form) (sym h) ∙ p.numbers) refl

    -- The truth of the question as typed is that of the normal form's raw value.
    pub truth-over : as_bool (meaning canonical U a.question) ≡ as_bool (normal_value raw U a.form)
    truth-over =
        ap as_bool (sym (normal-keeps U a.question (generators-same a.question ∙ ap (λ (S : Tables). generators_fit S a.question) (sym h) ∙ p.generators)))
        ∙ ap (λ f. as_bool (normal_value canonical U f)) (sym form-here)
        ∙ ap as_bool (normal-arranged U a.form)
        ∙ (refold-reads _ (shape (as_form a.form)) (normal_value raw U a.form)).1

  -- Rows that are as those of table k leave them well formed.
  pub with-fit : WellFormed T → is_there T k ≡ true → length l ≤ 1024 → All (WellFormedRow (columns_of T k)) l → All (CellsWithin (bound_of T k)) l → WellFormed U
  unfolding with_rows is_there columns_of bound_of
  with-fit W t n r c = record {
    tables-most = omega (arith, with-length, W.tables-most);
    tables-are = all_set WellFormedAt T k this W.tables-are (inl (leb-true 1 (columns_of T k) t, fit (get_or T k no_table) (all-at WellFormedAt T no_table W.tables-are (inr refl) k) r c));
  }
    where
      fit : (u : Table) → WellFormedAt u → All (WellFormedRow u.columns) l → All (CellsWithin (λ i. get_or u.bounds i 0)) l → RowsFit (record { kind = u.kind; columns = u.columns; bounds = u.bounds; rows = l })
      fit u (inl w) r c = record { columns-most = w.1.columns-most; rows_most = n; rows_are = r; bounds-count = w.1.bounds-count; bounds-most = w.1.bounds-most; rows-within = c }
      fit u (inr e) r c = record {
        columns-most = omega (arith, ap (λ (x : Table). x.columns) e);
        rows_most = n;
        rows_are = r;
        bounds-count = ap (λ (x : Table). length x.bounds) e ∙ ap (λ (x : Table). x.columns) (sym e);
        bounds-most = subst (λ (x : Table). All (λ b. b ≤ 2 ^ 31) x.bounds) (sym e) tt;
        rows-within = c;
      }
