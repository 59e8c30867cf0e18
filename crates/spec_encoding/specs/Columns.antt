-- "columns one after another, each cell replaced by its difference from the cell above (the first from 0), the difference wrapping at 32 bits,
-- then folded so that 0, −1, 1, −2 become 0, 1, 2, 3" (document 02, E10), and the undoing. A cell is here the number of its four bytes, under
-- 2^32; `signed` says what it stands for.
use Rattle.std.specs.Prelude.{[], ◌∷◌, ◌++◌, ℕ, zero, suc, ◌+◌, ◌-◌, ◌*◌, ◌/◌, ◌%◌, ◌^◌, eqb, ℤ, pos, negsuc}
use Rattle.spec_calculus.specs.Lists.{pick}
use Rattle.spec_encoding.specs.Record.{Bytes, four, signed}

-- "wrapping at 32 bits": a difference, and the sum that undoes it
abbrev pub minus : ℕ → ℕ → ℕ
minus x y = (x + (2 ^ 32 - y)) % 2 ^ 32

abbrev pub plus : ℕ → ℕ → ℕ
plus x y = (x + y) % 2 ^ 32

-- "folded so that 0, −1, 1, −2 become 0, 1, 2, 3"
unfoldable pub folded : ℤ → ℕ
folded (pos n) = 2 * n
folded (negsuc n) = 2 * n + 1

-- the difference that is folded to n, in 32 bits: n / 2, or -1 - n / 2
unfoldable pub unfolded : ℕ → ℕ
unfolded n = pick (eqb (n % 2) 0) (n / 2) (0xffffffff - n / 2)

-- ---- one column
-- "the cell above (the first from 0)": above row r, where the column's cells begin at p in l, each so many bytes behind the last
unfoldable pub above : Bytes → ℕ → ℕ → ℕ → ℕ
above l p step zero = 0
above l p step (suc r) = four l (p + step * r)

-- "its difference from the cell above .., wrapping at 32 bits, then folded": what is stored for the cell in row r
unfoldable pub difference : Bytes → ℕ → ℕ → ℕ → ℕ
difference l p step r = folded (signed (minus (four l (p + step * r)) (above l p step r)))

-- the undoing: the cell above row r, where the column's stored numbers begin at p in l; the cell in row r is the one above row r + 1
unfoldable pub summed : Bytes → ℕ → ℕ → ℕ
summed l p zero = 0
summed l p (suc r) = plus (summed l p r) (unfolded (four l (p + 4 * r)))

-- ---- all columns
-- "little-endian"
abbrev pub bytes_of : ℕ → Bytes
bytes_of n = n % 256 ∷ n / 256 % 256 ∷ n / 65536 % 256 ∷ n / 16777216 % 256 ∷ []

-- n pieces "one after another"
unfoldable pub in_order : (ℕ → Bytes) → ℕ → Bytes
in_order f zero = []
in_order f (suc n) = in_order f n ++ f n

-- "columns one after another": from w columns and n rows of cells that begin at p in l
unfoldable pub bytes_by_columns : ℕ → ℕ → Bytes → ℕ → Bytes
bytes_by_columns w n l p = in_order (λ i. in_order (λ r. bytes_of (difference l (p + 4 * i) (4 * w) r)) n) w

-- "the cells row by row": from such columns
unfoldable pub bytes_by_rows : ℕ → ℕ → Bytes → ℕ → Bytes
bytes_by_rows w n l p = in_order (λ r. in_order (λ i. bytes_of (summed l (p + 4 * (n * i)) (suc r))) w) n
