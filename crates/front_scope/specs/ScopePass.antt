-- The scope check as a state that goes through the tree in written order.
use Rattle.std.specs.Prelude.{◌≡◌, List, Bool, true, false, ◌&&◌, not, ℕ, ◌<◌, length, get_or, set, replicate}
use Rattle.spec_calculus.specs.Syntax.{Term, Terms, Quals, num, truth, name, field, rec, bin, negate, app, comp, table, tnil, tcons, qnil, gen, bind, cond}

-- the names seen, the names that hold here, and whether no rule is broken so far
pub record Names : Type 0 where
  pub seen : List Bool
  pub scope : List Bool
  pub ok : Bool

abbrev pub names : List Bool → List Bool → Bool → Names
names b c k = record { seen = b; scope = c; ok = k }

-- the arrays have an entry for each name
abbrev pub Full : Names → Type 0
Full n = (length n.seen ≡ 256) × (length n.scope ≡ 256)

abbrev pub fresh : Names
fresh = names (replicate 256 false) (replicate 256 false) true

-- a name is used: it must hold here
abbrev pub uses : ℕ → Names → Names
uses x n = record { seen = n.seen; scope = n.scope; ok = n.ok && get_or n.scope x false }

-- a name is bound: "at most once in a question"; a name from 256 on counts as bound already
abbrev pub binds : ℕ → Names → Names
binds x n = record { seen = set n.seen x true; scope = set n.scope x true; ok = n.ok && not (get_or n.seen x true) }

-- behind a comprehension the same names hold as before it
abbrev pub leaves : Names → Names → Names
leaves n r = record { seen = r.seen; scope = n.scope; ok = r.ok }

unfoldable mutual
  pub pass_term : Term → Names → Names
  pass_term (num z) n = n
  pass_term (truth b) n = n
  pass_term (name x) n = uses x n
  pass_term (field i t) n = pass_term t n
  pass_term (rec ts) n = pass_terms ts n
  pass_term (app f ts) n = pass_terms ts n
  pass_term (bin o t u) n = pass_term u (pass_term t n)
  pass_term (negate t) n = pass_term t n
  pass_term (comp m qs h) n = leaves n (pass_term h (pass_quals qs n))
  pass_term (table k) n = n

  pub pass_terms : Terms → Names → Names
  pass_terms tnil n = n
  pass_terms (tcons t ts) n = pass_terms ts (pass_term t n)

  pub pass_quals : Quals → Names → Names
  pass_quals qnil n = n
  pass_quals (gen x t qs) n = pass_quals qs (binds x (pass_term t n))
  pass_quals (bind x t qs) n = pass_quals qs (binds x (pass_term t n))
  pass_quals (cond t qs) n = pass_quals qs (pass_term t n)

-- every name that is bound is below 256: "name (2 bytes, 0 to 255)"
abbrev mutual
  pub Small : Term → Type 0
  Small (num z) = Unit {0}
  Small (truth b) = Unit {0}
  Small (name x) = Unit {0}
  Small (field i t) = Small t
  Small (rec ts) = SmallL ts
  Small (app f ts) = SmallL ts
  Small (bin o t u) = Small t × Small u
  Small (negate t) = Small t
  Small (comp m qs h) = SmallQ qs × Small h
  Small (table k) = Unit {0}

  pub SmallL : Terms → Type 0
  SmallL tnil = Unit {0}
  SmallL (tcons t ts) = Small t × SmallL ts

  pub SmallQ : Quals → Type 0
  SmallQ qnil = Unit {0}
  SmallQ (gen x t qs) = (x < 256) × Small t × SmallQ qs
  SmallQ (bind x t qs) = (x < 256) × Small t × SmallQ qs
  SmallQ (cond t qs) = Small t × SmallQ qs
