-- The tree that the words hold. Nodes stand in post-order: a node's last child is the node before it, and the child before
-- a child c ends where c's subtree begins. Every word is read as something, so this is total; `e` is the place behind a
-- node. Where a tree lies in the words (LaidTree), fuel of twice e is enough.
use Rattle.std.specs.Prelude.{List, ℕ, zero, suc, ◌-◌, min, leb, eqb, get_or, pos}
use Rattle.spec_calculus.specs.Lists.{pick}
use Rattle.spec_calculus.specs.Syntax.{Monoid, choice, Term, Terms, Quals, num, truth, name, field, rec, bin, negate, app, comp, table, tnil, tcons, qnil, gen, bind, cond}
use Rattle.spec_calculus.specs.Lending.{unlent}
use Rattle.spec_encoding.specs.Reader.{Kind, kinds, unknown, number, truth_k, name_k, field_k, record', not, table_k, comprehension, generator, binding, condition, choice_k, open_k, two_terms}
use Rattle.base_syntax.specs.MonoidWord.{monoid_of}
use Rattle.base_syntax.specs.Numbers.{monoid_numbered, constant_of}
use Rattle.front_words.specs.NodeWord.{node_kind_of, arg_of, start_of, node_word}

-- monoids 1 to 8
abbrev pub monoid_at : ℕ → Monoid
monoid_at k = monoid_of (monoid_numbered k)

-- the kind and the argument of node i, and where the subtree of the node that ends at e begins, below e in any case
abbrev pub kind_at : List ℕ → ℕ → Kind
kind_at s i = get_or kinds (node_kind_of (node_word s i)) unknown

abbrev pub arg_at : List ℕ → ℕ → ℕ
arg_at s i = arg_of (node_word s i)

abbrev pub start_at : List ℕ → ℕ → ℕ
start_at s i = min (start_of (node_word s i)) i

-- a term by its kind; T reads the subtree that ends at a place, L the terms and Q the qualifiers between two places
abbrev pub term_by : (ℕ → Term) → (ℕ → ℕ → Terms → Terms) → (ℕ → ℕ → Quals → Quals) → List ℕ → ℕ → Kind → Term
term_by T L Q s i number = num (constant_of (arg_at s i))
term_by T L Q s i truth_k = truth (eqb (arg_at s i) 1)
term_by T L Q s i name_k = name (arg_at s i)
term_by T L Q s i field_k = field (arg_at s i) (T i)
term_by T L Q s i record' = rec (L (start_at s i) i tnil)
term_by T L Q s i choice_k = app choice (L (start_at s i) i tnil)
term_by T L Q s i open_k = app (unlent (arg_at s i)) (L (start_at s i) i tnil)
term_by T L Q s i (two_terms o) = bin o (T (start_at s (i - 1))) (T i)
term_by T L Q s i not = negate (T i)
term_by T L Q s i comprehension = comp (monoid_at (arg_at s i)) (Q (start_at s i) (start_at s (i - 1)) qnil) (T i)
term_by T L Q s i table_k = table (arg_at s i)
term_by T L Q s i generator = num (pos 0)
term_by T L Q s i binding = num (pos 0)
term_by T L Q s i condition = num (pos 0)
term_by T L Q s i unknown = num (pos 0)

-- a qualifier in front of others, by its kind
abbrev pub qual_by : (ℕ → Term) → List ℕ → ℕ → Kind → Quals → Quals
qual_by T s i generator qs = gen (arg_at s i) (T i) qs
qual_by T s i binding qs = bind (arg_at s i) (T i) qs
qual_by T s i condition qs = cond (T i) qs
qual_by T s i number qs = qs
qual_by T s i truth_k qs = qs
qual_by T s i name_k qs = qs
qual_by T s i field_k qs = qs
qual_by T s i record' qs = qs
qual_by T s i choice_k qs = qs
qual_by T s i open_k qs = qs
qual_by T s i (two_terms o) qs = qs
qual_by T s i not qs = qs
qual_by T s i comprehension qs = qs
qual_by T s i table_k qs = qs
qual_by T s i unknown qs = qs

-- the tree that ends at e, the terms between lo and e in front of ts, and the qualifiers likewise
unfoldable mutual
  pub tree_at : ℕ → List ℕ → ℕ → Term
  tree_at zero s e = num (pos 0)
  tree_at (suc f) s e = term_by (λ j. tree_at f s j) (λ lo j ts. terms_at f s lo j ts) (λ lo j qs. quals_at f s lo j qs) s (e - 1) (kind_at s (e - 1))

  pub terms_at : ℕ → List ℕ → ℕ → ℕ → Terms → Terms
  terms_at zero s lo e ts = ts
  terms_at (suc f) s lo e ts = pick (leb e lo) ts (terms_at f s lo (start_at s (e - 1)) (tcons (tree_at f s e) ts))

  pub quals_at : ℕ → List ℕ → ℕ → ℕ → Quals → Quals
  quals_at zero s lo e qs = qs
  quals_at (suc f) s lo e qs = pick (leb e lo) qs (quals_at f s lo (start_at s (e - 1)) (qual_by (λ j. tree_at f s j) s (e - 1) (kind_at s (e - 1)) qs))
