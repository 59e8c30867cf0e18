-- What the functions over node words give: the pass over the tree that the words hold, at every fuel that reaches its leaves.
use Rattle.std.specs.Prelude.{◌≡◌, List, Bool, ℕ, ◌+◌, ◌-◌, ◌*◌, ◌≤◌, ◌<◌}
use Rattle.spec_calculus.specs.Syntax.{Terms, Quals, qnil}
use Rattle.front_words.specs.NodeTree.{kind_at, start_at, qual_by, tree_at, terms_at, quals_at}
use Rattle.front_scope.specs.ScopePass.{Names, names, fresh, leaves, pass_term, pass_terms, pass_quals}

-- the term that ends at e
pub record TermPost (s : List ℕ) (e : ℕ) (n r : Names) : Type 0 where
  pub is : (f : ℕ) → 2 * e < f → r ≡ pass_term (tree_at f s e) n

-- node 0 is a leaf whatever its kind: nothing lies before it
pub record LeafPost (s : List ℕ) (scope : List Bool) (ok r : Bool) : Type 0 where
  pub is : (f e : ℕ) → e ≤ 1 → 0 < f → (seen : List Bool) → names seen scope r ≡ pass_term (tree_at f s e) (names seen scope ok)

-- both operands of node i
pub record OperandsPost (s : List ℕ) (i : ℕ) (n r : Names) : Type 0 where
  pub is : (f : ℕ) → 2 * i < f → r ≡ pass_term (tree_at f s i) (pass_term (tree_at f s (start_at s (i - 1))) n)

-- the qualifiers and the head of node i
pub record ComprehensionPost (s : List ℕ) (i : ℕ) (n r : Names) : Type 0 where
  pub is : (f : ℕ) → 2 * i < f → r ≡ leaves n (pass_term (tree_at f s i) (pass_quals (quals_at f s (start_at s i) (start_at s (i - 1)) qnil) n))

-- the terms between lo and e, in front of any others
pub record TermsPost (s : List ℕ) (lo e : ℕ) (n r : Names) : Type 0 where
  pub is : (f : ℕ) → 2 * e + 1 < f → (ts : Terms) → pass_terms (terms_at f s lo e ts) n ≡ pass_terms ts r

-- the qualifiers between lo and e, and the one that is node i
pub record QualsPost (s : List ℕ) (lo e : ℕ) (n r : Names) : Type 0 where
  pub is : (f : ℕ) → 2 * e + 1 < f → (qs : Quals) → pass_quals (quals_at f s lo e qs) n ≡ pass_quals qs r

pub record QualifierPost (s : List ℕ) (i : ℕ) (n r : Names) : Type 0 where
  pub is : (f : ℕ) → 2 * i < f → (qs : Quals) → pass_quals (qual_by (λ j. tree_at f s j) s i (kind_at s i) qs) n ≡ pass_quals qs r

-- whether the names of the tree that ends at e hold
pub record NamesHoldPost (s : List ℕ) (e : ℕ) (r : Bool) : Type 0 where
  pub is : (f : ℕ) → 2 * e < f → r ≡ (pass_term (tree_at f s e) fresh).ok
