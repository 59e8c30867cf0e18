-- "Everything is a record: two bytes of content length, two bytes of kind, content; little-endian."
use Rattle.std.specs.Prelude.{List, Bool, true, false, ℕ, ◌+◌, ◌-◌, ◌*◌, ltb, leb, length, get_or, take, drop, ℤ, pos, negsuc}
use Rattle.spec_calculus.specs.Lists.{pick}

abbrev pub Bytes : Type 0
Bytes = List ℕ

-- what a reading gives: a refusal's number, or something
pub data Result (A : Type 0) : Type 0 where
  refused : ℕ → Result A
  got : A → Result A

unfoldable pub and_then : {A B : Type 0} → Result A → (A → Result B) → Result B
and_then (refused n) k = refused n
and_then (got a) k = k a

-- refuses by a number where a rule is broken
unfoldable pub require : {A : Type 0} → ℕ → Bool → Result A → Result A
require n true r = r
require n false r = refused n

-- the byte at a place, and little-endian numbers that begin there
abbrev pub byte : Bytes → ℕ → ℕ
byte l i = get_or l i 0

abbrev pub two : Bytes → ℕ → ℕ
two l i = byte l i + 256 * byte l (i + 1)

abbrev pub four : Bytes → ℕ → ℕ
four l i = two l i + 65536 * two l (i + 2)

-- "signed, four bytes each"
unfoldable pub signed : ℕ → ℤ
signed n = elim (ltb n 0x80000000) [ true ↦ pos n | false ↦ negsuc (0xffffffff - n) ]

-- a record's header and its parts, where the header is whole: "two bytes of content length, two bytes of kind, content"
abbrev pub length_of : Bytes → ℕ
length_of l = two l 0

abbrev pub kind_of : Bytes → ℕ
kind_of l = two l 2

abbrev pub content_of : Bytes → Bytes
content_of l = take (length_of l) (drop 4 l)

abbrev pub behind : Bytes → Bytes
behind l = drop (4 + length_of l) l

-- whether a record that begins here is not "cut short"
unfoldable pub is_whole : Bytes → Bool
is_whole l = pick (leb 4 (length l)) (leb (4 + length_of l) (length l)) false
