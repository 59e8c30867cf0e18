-- The whole form in scratch.
use Rattle.std.specs.Prelude.{◌≡◌, List, ◌⊎◌, ℕ, ◌+◌, ◌<◌, ◌≤◌, length, get_or}
use Rattle.spec_normal_form.specs.Form.{Form}
use Rattle.spec_normal_form.specs.Normal.{quote}
use Rattle.front_theory.specs.NodeForms.{outside}
use Rattle.front_theory.specs.FormWords.{words}
use Rattle.base_scratch.specs.Map.{form_at, form_words}
use Rattle.form_words.specs.FormWords.{size, flat, Holds}
use Rattle.front_nodes.specs.NodeTable.{depth_at}
use Rattle.front_emit.specs.WriterStart.{sem_s, SizedNodes}

-- what a question's node writes
abbrev pub form_of : List ℕ → ℕ → Form
form_of s i = quote (sem_s s i 0 outside) 0

-- there is room for it
pub record Writable (s : List ℕ) (i : ℕ) : Type 0 where
  pub ready : SizedNodes s (i + 1)
  pub depth : depth_at s i ≡ 0
  pub short : words (form_of s i) ≤ form_words
  pub long : form_at + form_words ≤ length s

-- its words stand from the first place on, and no other word changed; r is their number
pub record WriteFormPost (s : List ℕ) (i : ℕ) (s' : List ℕ) (r : ℕ) : Type 0 where
  pub held : Holds s' 0 (flat (form_of s i))
  pub number : r ≡ size (form_of s i)
  pub kept : (j : ℕ) → (j < form_at) ⊎ (form_at + r ≤ j) → get_or s' j 0 ≡ get_or s j 0
