-- "42, a calendar not lent, after 25 in a question": over the whole question (document 02, E4).
use Rattle.std.specs.Prelude.{Bool, true, ◌&&◌, ℕ, ltb}
use Rattle.spec_calculus.specs.Syntax.{Fun, choice, is_open, Term, Terms, Quals, num, truth, name, field, rec, bin, negate, app, comp, table, tnil, tcons, qnil, gen, bind, cond, Question, as_term}

-- "numbered by position from 0": of k calendars
unfoldable pub named_lent_op : ℕ → Fun → Bool
named_lent_op k choice = true
named_lent_op k (is_open n c) = ltb n k

-- every calendar that is named is one of k
unfoldable mutual
  pub named_lent_t : ℕ → Term → Bool
  named_lent_t k (num z) = true
  named_lent_t k (truth b) = true
  named_lent_t k (name x) = true
  named_lent_t k (field i t) = named_lent_t k t
  named_lent_t k (rec ts) = named_lent_ts k ts
  named_lent_t k (bin o s t) = named_lent_t k s && named_lent_t k t
  named_lent_t k (negate t) = named_lent_t k t
  named_lent_t k (app f ts) = named_lent_op k f && named_lent_ts k ts
  named_lent_t k (comp m qs h) = named_lent_q k qs && named_lent_t k h
  named_lent_t k (table j) = true

  pub named_lent_ts : ℕ → Terms → Bool
  named_lent_ts k tnil = true
  named_lent_ts k (tcons t ts) = named_lent_t k t && named_lent_ts k ts

  pub named_lent_q : ℕ → Quals → Bool
  named_lent_q k qnil = true
  named_lent_q k (gen x t qs) = named_lent_t k t && named_lent_q k qs
  named_lent_q k (bind x t qs) = named_lent_t k t && named_lent_q k qs
  named_lent_q k (cond t qs) = named_lent_t k t && named_lent_q k qs

unfoldable pub calendars_lent : ℕ → Question → Bool
calendars_lent k q = named_lent_t k (as_term q)
