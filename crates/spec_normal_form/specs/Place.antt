-- Any place of a term: a term with one hole, and what fills it. A rule of document 01 is applied wherever it applies.
use Rattle.std.specs.Prelude.{ℕ}
use Rattle.spec_calculus.specs.Syntax.{Monoid, Bin, Fun, Term, Terms, Quals, tcons}
use Rattle.spec_calculus.specs.Syntax as Sy

mutual
  pub data Place : Type 0 where
    hole : Place
    field : ℕ → Place → Place
    rec : Places → Place
    bin_left : Bin → Place → Term → Place
    bin_right : Bin → Term → Place → Place
    negate : Place → Place
    app : Fun → Places → Place
    quals : Monoid → PlaceQ → Term → Place
    head : Monoid → Quals → Place → Place

  pub data Places : Type 0 where
    here : Place → Terms → Places
    there : Term → Places → Places

  pub data PlaceQ : Type 0 where
    gen : ℕ → Place → Quals → PlaceQ
    bind : ℕ → Place → Quals → PlaceQ
    cond : Place → Quals → PlaceQ
    past_gen : ℕ → Term → PlaceQ → PlaceQ
    past_bind : ℕ → Term → PlaceQ → PlaceQ
    past_cond : Term → PlaceQ → PlaceQ

-- the term with s in the hole
unfoldable mutual
  pub put : Place → Term → Term
  put hole s = s
  put (field i p) s = Sy.field i (put p s)
  put (rec p) s = Sy.rec (put_l p s)
  put (app f p) s = Sy.app f (put_l p s)
  put (bin_left o p t) s = Sy.bin o (put p s) t
  put (bin_right o t p) s = Sy.bin o t (put p s)
  put (negate p) s = Sy.negate (put p s)
  put (quals m p h) s = Sy.comp m (put_q p s) h
  put (head m q p) s = Sy.comp m q (put p s)

  pub put_l : Places → Term → Terms
  put_l (here p ts) s = tcons (put p s) ts
  put_l (there t p) s = tcons t (put_l p s)

  pub put_q : PlaceQ → Term → Quals
  put_q (gen x p q) s = Sy.gen x (put p s) q
  put_q (bind x p q) s = Sy.bind x (put p s) q
  put_q (cond p q) s = Sy.cond (put p s) q
  put_q (past_gen x t p) s = Sy.gen x t (put_q p s)
  put_q (past_bind x t p) s = Sy.bind x t (put_q p s)
  put_q (past_cond t p) s = Sy.cond t (put_q p s)
