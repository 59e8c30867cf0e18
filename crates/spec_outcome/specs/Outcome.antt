-- The outcome of each open call, from what was lent to it.
use Rattle.std.specs.Prelude.{List, [], ◌++◌, true, false, ℕ, ◌-◌, ltb, leb, length, drop, replicate, ℤ, pos}
use Rattle.spec_calculus.specs.Value.{Value}
use Rattle.spec_calculus.specs.Monoid.{canonical, raw}
use Rattle.spec_calculus.specs.Meaning.{meaning}
use Rattle.spec_encoding.specs.Record.{Bytes, Result, refused, got, and_then, require}
use Rattle.spec_normal_form.specs.Form.{normal_value}
use Rattle.spec_plan.specs.Planner.{plan_of}
use Rattle.spec_plan.specs.Operators.{plan_value}
use Rattle.spec_plan.specs.Lines.{lines}
use Rattle.spec_outcome.specs.WrittenForm.{words}
use Rattle.spec_outcome.specs.Acceptance.{Lent, Accepted, examine}

-- number, length, the lent buffer and scratch afterwards
pub record Outcome (A : Type 0) : Type 0 where
  pub number : ℕ
  pub size : ℕ
  pub buffer : List A
  pub scratch : List ℕ

-- How many scratch words a call asks for, and leaves 0, is a parameter of its outcome (`least`). In force is document 02's, E13: "Refusal
-- 31 moves to fewer than 2,048, the zeroed part shrinks likewise".
abbrev pub scratch_words : ℕ
scratch_words = 2048

-- "After every call but 31 the first .. scratch words are 0, later ones unchanged."
abbrev pub cleared : ℕ → List ℕ → List ℕ
cleared least s = replicate least 0 ++ drop least s

-- what an answer writes: its length, and what stands at the buffer's front
pub record Answer (A : Type 0) : Type 0 where
  pub size : ℕ
  pub front : List A

-- "An answer is 0 and its length ..; a refusal its number and length 0, the answer or byte buffer unchanged." Behind what
-- an answer writes the buffer is unchanged.
unfoldable pub settled : {A : Type 0} → ℕ → List ℕ → List A → Result (Answer A) → Outcome A
settled least s b (refused n) = record { number = n; size = 0; buffer = b; scratch = cleared least s }
settled least s b (got a) = record { number = 0; size = a.size; buffer = a.front ++ drop (length a.front) b; scratch = cleared least s }

-- "31: scratch under .. words. Scratch stays untouched." It comes before all else.
unfoldable pub with_scratch : {A : Type 0} → ℕ → List ℕ → List A → Result (Answer A) → Outcome A
with_scratch least s b r = elim (ltb (length s) least) [ true ↦ record { number = 31; size = 0; buffer = b; scratch = s } | false ↦ settled least s b r ]

-- "G being the answer's length in normal form with each set written as a bag": the order in which a collection's elements
-- stand does not change its length
unfoldable pub G : Accepted → ℕ
G a = length (words (normal_value raw a.tables a.form))

-- "32: the answer buffer has fewer than G words." "After an answer the words from its length up to G are 0 and later ones
-- unchanged." An answer is never longer than G: a set's repeats are all that it lacks.
unfoldable pub written : (Accepted → Value) → List ℤ → Accepted → Result (Answer ℤ)
written value b a =
    let ws = words (value a) in
    require 32 (leb (G a) (length b)) (got (record { size = length ws; front = ws ++ replicate (G a - length ws) (pos 0) }))

unfoldable pub answered : ℕ → (Accepted → Value) → Bytes → Lent → List ℕ → List ℤ → Outcome ℤ
answered least value d l s b = with_scratch least s b (and_then (examine d l) (written value b))

-- "The checker takes no answer buffer and ends after 28": its buffer is empty, and so is what it writes
abbrev pub checked_with : ℕ → Bytes → Lent → List ℕ → Outcome ℕ
checked_with least d l s = with_scratch least s [] (and_then (examine d l) (λ a. got (record { size = 0; front = [] })))

unfoldable pub checked : Bytes → Lent → List ℕ → Outcome ℕ
checked = checked_with scratch_words

-- answering by loops: the value of the question as typed
abbrev pub looped : Accepted → Value
looped a = meaning canonical a.tables a.question

unfoldable pub by_loops : Bytes → Lent → List ℕ → List ℤ → Outcome ℤ
by_loops = answered scratch_words looped

-- answering by plan: the value of the plan under the operators' definitions
abbrev pub planned : Accepted → Value
planned a = plan_value canonical a.tables (plan_of a.form)

unfoldable pub by_plan : Bytes → Lent → List ℕ → List ℤ → Outcome ℤ
by_plan = answered scratch_words planned

-- "One more call writes the plan's lines .. into a lent byte buffer; its length is in bytes." "33: the plan call's byte
-- buffer is shorter than the plan's lines. Bytes behind the lines never change."
unfoldable pub printed : List ℕ → Accepted → Result (Answer ℕ)
printed b a =
    let l = lines (plan_of a.form) in
    require 33 (leb (length l) (length b)) (got (record { size = length l; front = l }))

abbrev pub plan_lines_with : ℕ → Bytes → Lent → List ℕ → List ℕ → Outcome ℕ
plan_lines_with least d l s b = with_scratch least s b (and_then (examine d l) (printed b))

unfoldable pub plan_lines : Bytes → Lent → List ℕ → List ℕ → Outcome ℕ
plan_lines = plan_lines_with scratch_words
