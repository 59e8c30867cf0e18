-- The front of some bytes: what the header's reader finds, and whether a record may begin.
use Rattle.std.specs.Prelude.{◌≡◌, true, false, ℕ, suc, ◌+◌, ◌≤◌, length, Option, Some, None, Result, Ok, Err}
use Rattle.spec_encoding.specs.Record.{Bytes, length_of, kind_of, is_whole}
use Rattle.base_refusals.specs.declared.Refusal.{Refusal}
use Rattle.base_refusals.specs.Numbers.{number_of}
use Rattle.front_parser.specs.declared.ParseState.{ParseState}

-- what a reader found, or its refusal
abbrev pub Outcome : Type 0 → Type 0
Outcome A = Result A Refusal

pub record RecordFront (l : Bytes) (k e : ℕ) : Type 0 where
  pub whole : is_whole l ≡ true
  pub kind : k ≡ kind_of l
  pub end : e ≡ 4 + length_of l
  pub within : e ≤ length l

abbrev pub HeadedBy : Bytes → Option (ℕ × ℕ) → Type 0
HeadedBy l (Some (k, e)) = RecordFront l k e
HeadedBy l None = is_whole l ≡ false

pub record ReadHeaderPost (l : Bytes) (r : Option (ℕ × ℕ)) : Type 0 where
  pub is : HeadedBy l r

-- the record at the front begins, and its content's reader stands at b: one level further down, one record fewer left
pub record Began (l : Bytes) (p : ParseState) (k e : ℕ) (b : ParseState) : Type 0 where
  pub header : RecordFront l k e
  pub levels : p.levels ≡ suc b.levels
  pub left : p.left ≡ suc b.left
  pub node : b.node ≡ p.node
  pub depth : b.depth ≡ p.depth

-- why no record begins, and the number: no byte is left, a level or a record too many, or a record cut short
pub data Stops (l : Bytes) (p : ParseState) : ℕ → Type 0 where
  none : length l ≡ 0 → Stops l p 22
  deep : (length l ≡ 0 → ⊥) → p.levels ≡ 0 → Stops l p 23
  many : (length l ≡ 0 → ⊥) → p.left ≡ 0 → Stops l p 23
  cut : (p.levels ≡ 0 → ⊥) → (p.left ≡ 0 → ⊥) → is_whole l ≡ false → Stops l p 22

abbrev pub BeginsBy : Bytes → ParseState → Outcome (ℕ × ℕ × ParseState) → Type 0
BeginsBy l p (Ok (k, e, b)) = Began l p k e b
BeginsBy l p (Err x) = Stops l p (number_of x)

pub record BeginPost (l : Bytes) (p : ParseState) (r : Outcome (ℕ × ℕ × ParseState)) : Type 0 where
  pub is : BeginsBy l p r
