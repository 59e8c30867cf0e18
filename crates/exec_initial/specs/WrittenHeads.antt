-- The head of a comprehension that is written: where it stands in the words, and which of its collections a row has passed.
use Rattle.std.specs.Prelude.{◌≡◌, false, List, ℕ, suc, ◌+◌, ◌≤◌, ◌<◌}
use Rattle.spec_normal_form.specs.Form.{Form}
use Rattle.base_scratch.specs.Map.{form_words}
use Rattle.form_words.specs.NodeWord.{next, node_at}
use Rattle.form_words.specs.FormTree.{form_tree}
use Rattle.form_words.specs.FormWords.{size}
use Rattle.answer_writer.specs.declared.WriteForm.TheVariants as Sh
use Rattle.answer_writer.specs.Shapes.{shape_of}
use Rattle.plan_marks.specs.Marks.{mark_at}
use Rattle.plan_marks.proofs.FormInWords.{Lies}
use Rattle.plan_machine.specs.MachineWords.{Path, start, loop_p, in_p, past_p}
use Rattle.plan_machine.specs.AnswerText.{among, width}
use Rattle.plan_links.specs.Spots.{Spots, end, loop, inner, comp_of}
use Rattle.plan_links.specs.SpotWords.{fuel}
use Rattle.exec_terms.proofs.PartsText.{parts_in}
use Rattle.exec_terms.proofs.PartsBefore.{PartAt}
use Rattle.exec_simulation.specs.RowReads.{head_at}
use Rattle.exec_initial.specs.PassedComprehensions.{Pass, Has}

-- a collection stands at j
abbrev pub Collected : List ℕ → ℕ → Type 0
Collected s j = shape_of (node_at s j) ≡ Sh.Collection

-- the head of the comprehension at c
abbrev pub head_form : List ℕ → ℕ → Form
head_form s c = form_tree fuel s (head_at s c)

-- u, at h, is the head of a comprehension that has b places behind its loops: its collections have later places, and no part before
-- one of them is its place
pub record Later (s : List ℕ) (h : ℕ) (u : Form) (b : ℕ) : Type 0 where
  pub above : (j : ℕ) → PartAt h u j → Collected s j → b < mark_at s j
  pub fresh : (j n : ℕ) → PartAt h u j → Collected s j → mark_at s j ≡ suc n → among n (parts_in fuel s h j) ≡ false

abbrev pub LaterOf : List ℕ → ℕ → ℕ → Type 0
LaterOf s c b = Later s (head_at s c) (head_form s c) b

-- so has each comprehension; b: how many places there were behind the last loop, k: how many there are
abbrev pub Based : List ℕ → ℕ → ℕ → Spots → Type 0
Based s b k (end c) = LaterOf s c b
Based s b k (loop i p) = Based s (suc k) (suc k) p
Based s b k (inner a p) = LaterOf s (comp_of p) b × (Based s k k a × Based s b (suc k) p)

unfoldable pub basis : Path → ℕ
basis start = 0
basis (loop_p π s c p) = suc (width π)
basis (in_p π i p) = width π
basis (past_p π i p) = basis π

-- where the head stands
pub record HeadLies (s : List ℕ) (c h : ℕ) (u : Form) : Type 0 where
  pub lies : Lies s h u
  pub ends : next s h ≡ h + size u
  pub behind : next s c ≡ h + size u
  pub low : h + size u ≤ form_words

-- the comprehension at j has been passed, at the place that its mark says
pub record PassedAt (s : List ℕ) (A : List Pass) (j : ℕ) : Type 0 where
  pub place : ℕ
  pub mark : mark_at s j ≡ suc place
  pub has : Has place j A

-- all collections among the parts of u before node e have
abbrev pub Done : List ℕ → ℕ → Form → List Pass → ℕ → Type 0
Done s h u A e = (j : ℕ) → PartAt h u j → Collected s j → j < e → PassedAt s A j
