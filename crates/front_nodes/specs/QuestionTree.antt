-- What the decoded table asks of a question's tree in the words: that the binders' words are right, and that comprehensions
-- are not too deep inside one another.
use Rattle.std.specs.Prelude.{◌≡◌, List, ℕ, suc, ◌+◌, max}
use Rattle.spec_calculus.specs.Syntax.{Term, Terms, Quals, num, truth, name, field, rec, bin, negate, app, comp, table, tnil, tcons, qnil, gen, bind, cond, Question, as_term}
use Rattle.front_words.specs.LaidTree.{nodes, nodes_q}
use Rattle.front_words.specs.Binders.{binder_word}

-- The nodes from a on are those of a tree. For each name that it binds the binders' words hold its qualifier.
abbrev mutual
  pub BindersAt : List ℕ → ℕ → Term → Type 0
  BindersAt s a (num z) = Unit {0}
  BindersAt s a (truth b) = Unit {0}
  BindersAt s a (name x) = Unit {0}
  BindersAt s a (field i t) = BindersAt s a t
  BindersAt s a (rec ts) = BindersAtL s a ts
  BindersAt s a (app f ts) = BindersAtL s a ts
  BindersAt s a (bin o t u) = BindersAt s a t × BindersAt s (a + nodes t) u
  BindersAt s a (negate t) = BindersAt s a t
  BindersAt s a (comp m qs h) = BindersAtQ s a qs × BindersAt s (a + nodes_q qs) h
  BindersAt s a (table k) = Unit {0}

  pub BindersAtL : List ℕ → ℕ → Terms → Type 0
  BindersAtL s a tnil = Unit {0}
  BindersAtL s a (tcons t ts) = BindersAt s a t × BindersAtL s (a + nodes t) ts

  pub BindersAtQ : List ℕ → ℕ → Quals → Type 0
  BindersAtQ s a qnil = Unit {0}
  BindersAtQ s a (gen x t qs) = BindersAt s a t × (binder_word s x ≡ a + nodes t + 1) × BindersAtQ s (a + nodes t + 1) qs
  BindersAtQ s a (bind x t qs) = BindersAt s a t × (binder_word s x ≡ a + nodes t + 1) × BindersAtQ s (a + nodes t + 1) qs
  BindersAtQ s a (cond t qs) = BindersAt s a t × BindersAtQ s (a + nodes t + 1) qs

abbrev pub BindersRight : List ℕ → Question → Type 0
BindersRight s q = BindersAt s 0 (as_term q)

-- how many comprehensions stand inside one another
unfoldable mutual
  pub nesting : Term → ℕ
  nesting (num z) = 0
  nesting (truth b) = 0
  nesting (name x) = 0
  nesting (field i t) = nesting t
  nesting (rec ts) = nesting_l ts
  nesting (app f ts) = nesting_l ts
  nesting (bin o t u) = max (nesting t) (nesting u)
  nesting (negate t) = nesting t
  nesting (comp m qs h) = suc (max (nesting_q qs) (nesting h))
  nesting (table k) = 0

  pub nesting_l : Terms → ℕ
  nesting_l tnil = 0
  nesting_l (tcons t ts) = max (nesting t) (nesting_l ts)

  pub nesting_q : Quals → ℕ
  nesting_q qnil = 0
  nesting_q (gen x t qs) = max (nesting t) (nesting_q qs)
  nesting_q (bind x t qs) = max (nesting t) (nesting_q qs)
  nesting_q (cond t qs) = max (nesting t) (nesting_q qs)
