-- A text at the front of a lent buffer.
use Rattle.std.specs.Prelude.{◌≡◌, ◌++◌, ℕ, ◌≤◌, length, take, drop}
use Rattle.spec_encoding.specs.Record.{Bytes}

-- t is printed: the buffer was o and is o', t at its front and the bytes behind unchanged; r is the length of t
pub record Prints (t o o' : Bytes) (r : ℕ) : Type 0 where
  pub size : r ≡ length t
  pub text : o' ≡ t ++ drop (length t) o

-- r counts bytes at the start of o; both parts are stated so that `&text[..r]` asks nothing more
abbrev pub FrontLength : ℕ → Bytes → Type 0
FrontLength r o = (r ≤ length o) × (r ≡ length (take r o))
