-- Laws of the scope check's code, one for each way out of a function.
use mathlib.Core.Path.{◌≡◌, refl, sym, ap, ap₂, ◌∙◌}
use mathlib.Core.List.{List}
use mathlib.Core.Bool.{Bool, false, ◌&&◌}
use Prim.Native.Nat.{ℕ, zero, suc, ◌+◌, ◌-◌, ◌*◌, ◌≤◌, ◌<◌}
use native.Mathlib.Omega.{arith}
use lib.ListN.{get_or}
use borrow.Author.Tests.{le-leb, lt-leb}
use Rattle.spec_calculus.specs.Lists.{pick}
use Rattle.spec_calculus.specs.Syntax.{Bin, Term, Terms, Quals, tnil, tcons, qnil, Question, as_term}
use Rattle.spec_encoding.specs.Reader.{Kind, unknown, number, truth_k, name_k, field_k, record', table_k, comprehension, generator, binding, condition, choice_k, open_k, two_terms}
use Rattle.spec_encoding.specs.Reader as Re
use Rattle.spec_checks.specs.Scope.{names_hold}
use Rattle.front_words.specs.LaidTree.{nodes, Laid}
use Rattle.front_words.proofs.NodeWords.{laid-tree}
use Rattle.front_words.specs.NodeTree.{kind_at, arg_at, start_at, term_by, qual_by, tree_at, terms_at, quals_at}
use Rattle.front_scope.specs.ScopePass.{Names, names, Small, fresh, binds, leaves, pass_term, pass_terms, pass_quals}
use Rattle.front_scope.proofs.PassIsScope.{pass-is}
use Rattle.front_scope.proofs.KindNumbers.{code, two-code}
use Rattle.front_scope.specs.PassContract.{TermPost, LeafPost, OperandsPost, ComprehensionPost, TermsPost, QualsPost, QualifierPost, NamesHoldPost}

-- ---- one name
names-path : {a b c d : List Bool} {e f : Bool} → a ≡ b → c ≡ d → e ≡ f → ◌≡◌ {A = Names} (record { seen = a; scope = c; ok = e }) (record { seen = b; scope = d; ok = f })
names-path p q r = λ i. record { seen = p i; scope = q i; ok = r i }

-- a term of this kind uses and binds no name and has no part
abbrev Bare : Kind → Type 0
Bare K = (3 ≤ code K → code K ≤ 14 → ⊥) × (code K ≡ 19 → ⊥) × (code K ≡ 21 → ⊥)

bare-passed : (s : List ℕ) (n : Names) (T : ℕ → Term) (L : ℕ → ℕ → Terms → Terms) (Q : ℕ → ℕ → Quals → Quals) (i : ℕ) (K : Kind) → Bare K → n ≡ pass_term (term_by T L Q s i K) n
unfolding pass_term
bare-passed s n T L Q i number b = refl
bare-passed s n T L Q i truth_k b = refl
bare-passed s n T L Q i name_k b = absurd (b.0 (omega arith) (omega arith))
bare-passed s n T L Q i field_k b = absurd (b.0 (omega arith) (omega arith))
bare-passed s n T L Q i record' b = absurd (b.0 (omega arith) (omega arith))
bare-passed s n T L Q i choice_k b = absurd (b.1 refl)
bare-passed s n T L Q i open_k b = absurd (b.2 refl)
bare-passed s n T L Q i Re.not b = absurd (b.0 (omega arith) (omega arith))
bare-passed s n T L Q i table_k b = refl
bare-passed s n T L Q i comprehension b = absurd (b.0 (omega arith) (omega arith))
bare-passed s n T L Q i generator b = refl
bare-passed s n T L Q i binding b = refl
bare-passed s n T L Q i condition b = refl
bare-passed s n T L Q i unknown b = refl
bare-passed s n T L Q i (two_terms o) b = absurd (b.0 (omega (arith, two-code o)) (omega (arith, two-code o)))

-- ---- a term, by the kind of its node
module _ {s : List ℕ} {e : ℕ} {n r : Names} where
  -- one step of the tree
  term-step : {K : Kind} → kind_at s (e - 1) ≡ K →
      ((g : ℕ) → 2 * e ≤ g → r ≡ pass_term (term_by (λ j. tree_at g s j) (λ lo j ts. terms_at g s lo j ts) (λ lo j qs. quals_at g s lo j qs) s (e - 1) K) n) → TermPost s e n r
  unfolding tree_at
  term-step {K} p q = record { is = λ f h. go f h }
    where
      go : (f : ℕ) → 2 * e < f → r ≡ pass_term (tree_at f s e) n
      go zero h = absurd (omega arith)
      go (suc g) h = rw p (q g (omega arith))

  pub term-field : 1 < e → kind_at s (e - 1) ≡ field_k → TermPost s (e - 1) n r → TermPost s e n r
  unfolding pass_term
  term-field h p P = term-step p (λ g l. P.is g (omega arith))

  pub term-not : 1 < e → kind_at s (e - 1) ≡ Re.not → TermPost s (e - 1) n r → TermPost s e n r
  unfolding pass_term
  term-not h p P = term-step p (λ g l. P.is g (omega arith))

  pub term-record : 1 < e → kind_at s (e - 1) ≡ record' → {a : ℕ} → a ≡ start_at s (e - 1) → TermsPost s a (e - 1) n r → TermPost s e n r
  unfolding pass_term
  term-record h p q P = term-step p (λ g l. sym (P.is g (omega arith) tnil) ∙ ap (λ a. pass_terms (terms_at g s a (e - 1) tnil) n) q)

  pub term-choice : 1 < e → kind_at s (e - 1) ≡ choice_k → {a : ℕ} → a ≡ start_at s (e - 1) → TermsPost s a (e - 1) n r → TermPost s e n r
  unfolding pass_term
  term-choice h p q P = term-step p (λ g l. sym (P.is g (omega arith) tnil) ∙ ap (λ a. pass_terms (terms_at g s a (e - 1) tnil) n) q)

  pub term-open : 1 < e → kind_at s (e - 1) ≡ open_k → {a : ℕ} → a ≡ start_at s (e - 1) → TermsPost s a (e - 1) n r → TermPost s e n r
  unfolding pass_term
  term-open h p q P = term-step p (λ g l. sym (P.is g (omega arith) tnil) ∙ ap (λ a. pass_terms (terms_at g s a (e - 1) tnil) n) q)

  pub term-two : 1 < e → {o : Bin} → kind_at s (e - 1) ≡ two_terms o → OperandsPost s (e - 1) n r → TermPost s e n r
  unfolding pass_term
  term-two h p P = term-step p (λ g l. P.is g (omega arith))

  pub term-comp : 1 < e → kind_at s (e - 1) ≡ comprehension → ComprehensionPost s (e - 1) n r → TermPost s e n r
  unfolding pass_term
  term-comp h p P = term-step p (λ g l. P.is g (omega arith))

  pub term-bare : Bare (kind_at s (e - 1)) → r ≡ n → TermPost s e n r
  term-bare b q = term-step refl (λ g l. q ∙ bare-passed s n (λ j. tree_at g s j) (λ lo j ts. terms_at g s lo j ts) (λ lo j qs. quals_at g s lo j qs) (e - 1) (kind_at s (e - 1)) b)

module _ {s : List ℕ} {e : ℕ} (b : List Bool) {c : List Bool} {k r : Bool} where
  pub term-name : kind_at s (e - 1) ≡ name_k → {x : ℕ} → x ≡ arg_at s (e - 1) → r ≡ k && get_or c x false → TermPost s e (names b c k) (names b c r)
  unfolding pass_term
  term-name p a q = term-step p (λ g l. names-path refl refl (q ∙ ap (λ x. k && get_or c x false) a))

-- ---- the parts of a comprehension

module _ {s : List ℕ} {i : ℕ} {n m r : Names} (h : 1 ≤ i) {b : ℕ} (st : b ≡ start_at s (i - 1)) where
  pub comp-both : {a : ℕ} → a ≡ start_at s i → QualsPost s a b n m → TermPost s i m r → ComprehensionPost s i n (leaves n r)
  unfolding pass_quals
  comp-both {a} sa P Q =
      record {
        is = λ f l. ap (leaves n) (Q.is f l ∙ ap (pass_term (tree_at f s i)) (sym (P.is f (omega arith) qnil) ∙ ap₂ (λ x y. pass_quals (quals_at f s x y qnil) n) sa st));
      }

-- ---- terms and qualifiers between two places
module _ {s : List ℕ} {lo e : ℕ} {n : Names} where
  pub terms-none : e ≤ lo → TermsPost s lo e n n
  unfolding terms_at pick
  terms-none h = record { is = λ f l ts. go f ts }
    where
      go : (f : ℕ) (ts : Terms) → pass_terms (terms_at f s lo e ts) n ≡ pass_terms ts n
      go zero ts = refl
      go (suc g) ts = rw (le-leb e lo h)

  pub quals-none : e ≤ lo → QualsPost s lo e n n
  unfolding quals_at pick
  quals-none h = record { is = λ f l qs. go f qs }
    where
      go : (f : ℕ) (qs : Quals) → pass_quals (quals_at f s lo e qs) n ≡ pass_quals qs n
      go zero qs = refl
      go (suc g) qs = rw (le-leb e lo h)

  module _ (h : lo < e) {b : ℕ} (st : b ≡ start_at s (e - 1)) {m r : Names} where
    pub terms-more : TermsPost s lo b n m → TermPost s e m r → TermsPost s lo e n r
    unfolding terms_at pick pass_terms
    terms-more P Q = record { is = λ f l ts. go f l ts }
      where
        go : (f : ℕ) → 2 * e + 1 < f → (ts : Terms) → pass_terms (terms_at f s lo e ts) n ≡ pass_terms ts r
        go zero l ts = absurd (omega arith)
        go (suc g) l ts = rw (lt-leb e lo h, ← st) (P.is g (omega arith) (tcons (tree_at g s e) ts) ∙ ap (pass_terms ts) (sym (Q.is g (omega arith))))

    pub quals-more : QualsPost s lo b n m → QualifierPost s (e - 1) m r → QualsPost s lo e n r
    unfolding quals_at pick
    quals-more P Q = record { is = λ f l qs. go f l qs }
      where
        go : (f : ℕ) → 2 * e + 1 < f → (qs : Quals) → pass_quals (quals_at f s lo e qs) n ≡ pass_quals qs r
        go zero l qs = absurd (omega arith)
        go (suc g) l qs = rw (lt-leb e lo h, ← st) (P.is g (omega arith) (qual_by (λ j. tree_at g s j) s (e - 1) (kind_at s (e - 1)) qs) ∙ Q.is g (omega arith) qs)

-- ---- a qualifier, by the kind of its node
abbrev NoQualifier : Kind → Type 0
NoQualifier K = (code K ≡ 16 → ⊥) × (code K ≡ 17 → ⊥) × (code K ≡ 18 → ⊥)

module _ {s : List ℕ} {i : ℕ} {n r : Names} where
  qual-step : {K : Kind} → kind_at s i ≡ K → ((f : ℕ) → 2 * i < f → (qs : Quals) → pass_quals (qual_by (λ j. tree_at f s j) s i K qs) n ≡ pass_quals qs r) → QualifierPost s i n r
  qual-step p q = record { is = λ f l qs. rw p (q f l qs) }

  module _ {m : Names} (P : TermPost s i n m) where
    binds-same : {x : ℕ} → x ≡ arg_at s i → r ≡ binds x m → (f : ℕ) → 2 * i < f → binds (arg_at s i) (pass_term (tree_at f s i) n) ≡ r
    binds-same {x} a q f l = ap₂ binds (sym a) (sym (P.is f l)) ∙ sym q

    pub qual-gen : kind_at s i ≡ generator → {x : ℕ} → x ≡ arg_at s i → r ≡ binds x m → QualifierPost s i n r
    unfolding pass_quals
    qual-gen p a q = qual-step p (λ f l qs. ap (pass_quals qs) (binds-same a q f l))

    pub qual-bind : kind_at s i ≡ binding → {x : ℕ} → x ≡ arg_at s i → r ≡ binds x m → QualifierPost s i n r
    unfolding pass_quals
    qual-bind p a q = qual-step p (λ f l qs. ap (pass_quals qs) (binds-same a q f l))

  pub qual-cond : TermPost s i n r → kind_at s i ≡ condition → QualifierPost s i n r
  unfolding pass_quals
  qual-cond P p = qual-step p (λ f l qs. ap (pass_quals qs) (sym (P.is f l)))

no-qual-by : (T : ℕ → Term) (s : List ℕ) (i : ℕ) (K : Kind) (qs : Quals) → NoQualifier K → qual_by T s i K qs ≡ qs
no-qual-by T s i number qs h = refl
no-qual-by T s i truth_k qs h = refl
no-qual-by T s i name_k qs h = refl
no-qual-by T s i field_k qs h = refl
no-qual-by T s i record' qs h = refl
no-qual-by T s i choice_k qs h = refl
no-qual-by T s i open_k qs h = refl
no-qual-by T s i Re.not qs h = refl
no-qual-by T s i table_k qs h = refl
no-qual-by T s i comprehension qs h = refl
no-qual-by T s i generator qs h = absurd (h.0 refl)
no-qual-by T s i binding qs h = absurd (h.1 refl)
no-qual-by T s i condition qs h = absurd (h.2 refl)
no-qual-by T s i unknown qs h = refl
no-qual-by T s i (two_terms o) qs h = refl

pub qual-none : {s : List ℕ} {i : ℕ} {n : Names} → NoQualifier (kind_at s i) → QualifierPost s i n n
qual-none {s} {i} {n} h = record { is = λ f l qs. ap (λ r. pass_quals r n) (no-qual-by (λ j. tree_at f s j) s i (kind_at s i) qs h) }

-- ---- node 0
pub leaf-name : {s : List ℕ} {c : List Bool} {k r : Bool} → kind_at s 0 ≡ name_k → {x : ℕ} → x ≡ arg_at s 0 → r ≡ k && get_or c x false → LeafPost s c k r
unfolding tree_at pass_term
leaf-name {s} {c} {k} {r} p {x} a q = record { is = go }
  where
    go : (f e : ℕ) → e ≤ 1 → 0 < f → (b : List Bool) → names b c r ≡ pass_term (tree_at f s e) (names b c k)
    go zero e h l b = absurd (omega arith)
    go (suc f) e h l b = let z : e - 1 ≡ 0 = omega arith in rw (z, p) (names-path refl refl (q ∙ ap (λ y. k && get_or c y false) a))

no-terms : (f : ℕ) (s : List ℕ) (lo : ℕ) → terms_at f s lo 0 tnil ≡ tnil
unfolding terms_at pick
no-terms zero s lo = refl
no-terms (suc f) s lo = rw (le-leb 0 lo (omega arith))

no-quals : (f : ℕ) (s : List ℕ) (a : ℕ) → quals_at f s a a qnil ≡ qnil
unfolding quals_at pick
no-quals zero s a = refl
no-quals (suc f) s a = rw (le-leb a a (omega arith))

-- what is read as a part of node 0 is node 0 again, so a node 0 that is no name has none under it
module _ (s : List ℕ) (n : Names) where
  module _ (T : ℕ → Term) (L : ℕ → ℕ → Terms → Terms) (Q : ℕ → ℕ → Quals → Quals) (part : (e : ℕ) → e ≤ 1 → n ≡ pass_term (T e) n) (h_l : (lo : ℕ) → L lo 0 tnil ≡ tnil)
      (h_q : (a : ℕ) → Q a a qnil ≡ qnil) where
    leaf-by : (K : Kind) → (code K ≡ 3 → ⊥) → n ≡ pass_term (term_by T L Q s 0 K) n
    unfolding pass_term
    leaf-by number h = refl
    leaf-by truth_k h = refl
    leaf-by name_k h = absurd (h refl)
    leaf-by field_k h = part 0 (omega arith)
    leaf-by record' h = rw (h_l (start_at s 0))
    leaf-by choice_k h = rw (h_l (start_at s 0))
    leaf-by open_k h = rw (h_l (start_at s 0))
    leaf-by Re.not h = part 0 (omega arith)
    leaf-by table_k h = refl
    leaf-by comprehension h = rw (h_q (start_at s 0)) (ap (leaves n) (part 0 (omega arith)))
    leaf-by generator h = refl
    leaf-by binding h = refl
    leaf-by condition h = refl
    leaf-by unknown h = refl
    leaf-by (two_terms o) h = part 0 (omega arith) ∙ ap (pass_term (T 0)) (part (start_at s 0) (omega arith))

  module _ (no_name : code (kind_at s 0) ≡ 3 → ⊥) where
    leaf-bare : (f e : ℕ) → e ≤ 1 → n ≡ pass_term (tree_at f s e) n
    unfolding tree_at pass_term
    leaf-bare zero e h = refl
    leaf-bare (suc f) e h =
        let z : e - 1 ≡ 0 = omega arith in
        rw z
        (leaf-by (λ j. tree_at f s j) (λ lo j ts. terms_at f s lo j ts) (λ lo j qs. quals_at f s lo j qs) (λ j l. leaf-bare f j l) (no-terms f s) (no-quals f s) (kind_at s 0) no_name)

pub leaf-other : (s : List ℕ) (c : List Bool) (k : Bool) → (code (kind_at s 0) ≡ 3 → ⊥) → LeafPost s c k k
leaf-other s c k h = record { is = λ f e l m b. leaf-bare s (names b c k) h f e l }

-- ---- the whole tree
-- 24: for a question that lies in the words the answer is whether its names hold
pub judged-is : {s : List ℕ} {d e : ℕ} {r : Bool} (q : Question) → Laid s d 0 (as_term q) → 0 + nodes (as_term q) ≡ e → Small (as_term q) → NamesHoldPost s e r → r ≡ names_hold q
judged-is {s} {d} {e} q L h small J =
    J.is (2 * e + 1) (omega arith) ∙
    ap (λ (t : Term). (pass_term t fresh).ok) (ap (λ x. tree_at (2 * e + 1) s x) (sym h) ∙ laid-tree (as_term q) s d 0 L (2 * e + 1) (omega arith)) ∙
    pass-is q small
