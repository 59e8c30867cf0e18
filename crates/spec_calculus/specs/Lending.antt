-- Calendars are lent "in a buffer of their own", beside the question (document 02, E4): in a question as it is read each kind 21 has the number of its calendar
-- alone, and stands for the calendar of that number once calendars are lent.
use Rattle.std.specs.Prelude.{[], ℕ}
use Rattle.spec_calendar.specs.Hours.{Calendar}
use Rattle.spec_calculus.specs.Syntax.{Fun, choice, is_open, Term, Terms, Quals, num, truth, name, field, rec, bin, negate, app, comp, table, tnil, tcons, qnil, gen, bind, cond, Question}

-- kind 21 as it is read
abbrev pub unlent : ℕ → Fun
unlent n = is_open n []

-- K is the calendar of each number
unfoldable pub lend_op : (ℕ → Calendar) → Fun → Fun
lend_op K choice = choice
lend_op K (is_open n c) = is_open n (K n)

unfoldable mutual
  pub lend_t : (ℕ → Calendar) → Term → Term
  lend_t K (num z) = num z
  lend_t K (truth b) = truth b
  lend_t K (name x) = name x
  lend_t K (field i t) = field i (lend_t K t)
  lend_t K (rec ts) = rec (lend_ts K ts)
  lend_t K (bin o s t) = bin o (lend_t K s) (lend_t K t)
  lend_t K (negate t) = negate (lend_t K t)
  lend_t K (app f ts) = app (lend_op K f) (lend_ts K ts)
  lend_t K (comp m qs h) = comp m (lend_q K qs) (lend_t K h)
  lend_t K (table k) = table k

  pub lend_ts : (ℕ → Calendar) → Terms → Terms
  lend_ts K tnil = tnil
  lend_ts K (tcons t ts) = tcons (lend_t K t) (lend_ts K ts)

  pub lend_q : (ℕ → Calendar) → Quals → Quals
  lend_q K qnil = qnil
  lend_q K (gen x t qs) = gen x (lend_t K t) (lend_q K qs)
  lend_q K (bind x t qs) = bind x (lend_t K t) (lend_q K qs)
  lend_q K (cond t qs) = cond (lend_t K t) (lend_q K qs)

unfoldable pub lend : (ℕ → Calendar) → Question → Question
lend K q = record { monoid = q.monoid; quals = lend_q K q.quals; head = lend_t K q.head }
