-- What judging draughts asks and gives: how many heads there are, and whether the second word of each is in reach.
use Rattle.std.specs.Prelude.{◌≡◌, List, [], ◌∷◌, Bool, ◌&&◌, ℕ, ◌<◌, get_or, ℤ, pos}
use Rattle.spec_calculus.specs.Value.{Value}
use Rattle.spec_encoding.specs.Record.{Bytes}
use Rattle.spec_tariff.specs.Tariff.{in_reach}
use Rattle.form_words.specs.FormTree.{left}
use Rattle.form_env.specs.Environment.{tables_in}
use Rattle.answer_writer.specs.LaidWords.{bump, cut_words}
use Rattle.loop_scalar.specs.Contract.{value_at}
use Rattle.loop_collect.specs.HeadLoops.{HeadsPost, RowsPost}
use Rattle.loop_draughts.specs.declared.Judged.{Judged}

-- a head's second word
abbrev pub second_word : Value → ℤ
second_word v = get_or (cut_words v) 1 (pos 0)

pub record DraughtPost (d : Bytes) (s : List ℕ) (i : ℕ) (s' : List ℕ) (r : ℤ) : Type 0 where
  pub is : (f : ℕ) → left i < f → r ≡ second_word (value_at (tables_in d) f s i)
  pub kept : s' ≡ s

-- how many heads, and whether all of their draughts are in reach
pub data Verdict : Type 0 where
  verdict : ℕ → Bool → Verdict

abbrev pub verdict_of : Judged → Verdict
verdict_of e = verdict e.count e.within

-- one head more
unfoldable pub judge : ℕ → ℤ → Verdict → Verdict
judge h x (verdict n b) = verdict (bump n) (b && in_reach h x)

unfoldable pub judges : ℕ → List Value → Verdict → Verdict
judges h [] w = w
judges h (v ∷ l) w = judges h l (judge h (second_word v) w)

-- the heads behind the clauses at i
pub record JudgePost (d : Bytes) (h : ℕ) (s : List ℕ) (i : ℕ) (e : Judged) (s' : List ℕ) (r : Judged) : Type 0 where
  pub heads : HeadsPost (judges h) d s i (verdict_of e) s' (verdict_of r)

-- for each row of table k as generator g
pub record JudgeEachPost (d : Bytes) (h : ℕ) (s : List ℕ) (i g k : ℕ) (e : Judged) (s' : List ℕ) (r : Judged) : Type 0 where
  pub rows : RowsPost (judges h) d s i g k (verdict_of e) s' (verdict_of r)

-- one draught more
pub record JudgedPost (h : ℕ) (x : ℤ) (e r : Judged) : Type 0 where
  pub is : verdict_of r ≡ judge h x (verdict_of e)
