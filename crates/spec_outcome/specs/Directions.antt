-- "Give both directions into a lent buffer" (document 02, E10): the outcomes of the calls that turn a table's record of kind 20 into kind 23, and of
-- kind 23 into 20.
use Rattle.std.specs.Prelude.{◌≡◌, ◌++◌, Bool, ◌&&◌, ℕ, ◌+◌, eqb, leb, length, drop}
use Rattle.spec_encoding.specs.Record.{Bytes, Result, refused, got, require, length_of, kind_of, content_of, is_whole}
use Rattle.spec_encoding.specs.Data.{fits, table_number, to_columns, to_rows, TableRecord, table_by, bounded}

-- number, length and the lent buffer afterwards, of a call that is lent no scratch
pub record Filled : Type 0 where
  pub number : ℕ
  pub size : ℕ
  pub buffer : Bytes

-- "A refusal changes no byte of it, an answer none behind the record."
unfoldable pub filled : Bytes → Result Bytes → Filled
filled b (refused n) = record { number = n; size = 0; buffer = b }
filled b (got l) = record { number = 0; size = length l; buffer = l ++ drop (length l) b }

-- neither "a record cut short" nor "the other kind, or bytes behind the record", which are 11: one whole record of kind k
unfoldable pub is_alone : ℕ → Bytes → Bool
is_alone k l = is_whole l && (eqb (kind_of l) k && eqb (length l) (4 + length_of l))

-- a record of kind k turned into the other, or refused by its own refusals, in the order that they have in data; "52, the target buffer shorter than the
-- record, after that record's own refusals"
unfoldable pub turned : ℕ → (Bytes → Bytes) → Bytes → Bytes → Result Bytes
turned k turn l b =
    let c = content_of l in
    require 11 (is_alone k l)
    (require 12 (fits c)
    (require 50 (leb (table_number c) 7)
    (require 43 (bounded (table_by k c))
    (require 52 (leb (length l) (length b))
    (got (turn l))))))

-- the source l, the target b
unfoldable pub table_to_columns : Bytes → Bytes → Filled
table_to_columns l b = filled b (turned 20 to_columns l b)

unfoldable pub table_to_rows : Bytes → Bytes → Filled
table_to_rows l b = filled b (turned 23 to_rows l b)

-- number k, length n and buffer b are those of the outcome
pub record Fills (o : Filled) (k n : ℕ) (b : Bytes) : Type 0 where
  pub number : k ≡ o.number
  pub size : n ≡ o.size
  pub buffer : b ≡ o.buffer

-- "the same table rearranged": the same data, some of its first tables turned into the other kind; behind the last of them stand the same bytes,
-- whatever they are
pub data Turned : Bytes → Bytes → Type 0 where
  rest : (d : Bytes) → Turned d d
  same : (l : Bytes) {d e : Bytes} → length l ≡ 4 + length_of l → Turned d e → Turned (l ++ d) (l ++ e)
  columns : (l : Bytes) {d e : Bytes} → TableRecord 20 l → Turned d e → Turned (l ++ d) (to_columns l ++ e)
  rows : (l : Bytes) {d e : Bytes} → TableRecord 23 l → Turned d e → Turned (l ++ d) (to_rows l ++ e)
