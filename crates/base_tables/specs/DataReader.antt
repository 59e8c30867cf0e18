-- The reading of the data: each record's header and content, and what is kept in scratch.
use Rattle.std.specs.Prelude.{◌≡◌, ℕ, zero, suc, ◌+◌, ◌<◌, ◌≤◌, List, [], ◌∷◌, length, drop, replicate, nat_le, slice_index, slice_set, Option, Some, None, Ok, Err}
use Rattle.spec_calculus.specs.Lists.{pick}
use Rattle.spec_calculus.specs.Value.{Tables}
use Rattle.spec_encoding.specs.Record.{Bytes, Result, refused, got, require, length_of, kind_of, content_of, behind}
use Rattle.spec_encoding.specs.Data.{is_table, fits, table_number, bounds_at, table_by, bounded, read_data}
use Rattle.base_tables.specs.Description.{most_tables, description_of, present_in}
use Rattle.base_refusals.specs.declared.Refusal.{Refusal}
use Rattle.base_refusals.specs.declared.Refusal.TheVariants.{NotATable, TableOutOfRange, CellBeyondBound, TableNumberOutOfRange, TableNumberUsed}
use Rattle.std.specs.declared.result.Result as Std

-- 01's number and values for each case of a header's answer: "11: a record cut short or not kind 20" (nor 23), or the length of its content
unfoldable pub header_gives : Option ℕ → Result ℕ
header_gives (Some n) = got n
header_gives None = refused 11

-- what the header of a record must give
unfoldable pub header_at : Bytes → Result ℕ
header_at l = require 11 (is_table l) (got (length_of l))

-- a table's number, its description and the position behind its record
abbrev pub TableRead : Type 0
TableRead = Std.Result (ℕ × ℕ × ℕ) Refusal

-- the table with the content c, of a record of kind k, whose bounds begin at p and whose record ends before e, behind those whose descriptions scratch holds:
-- its number, its description and e; "50, a number above 7; 51, a number already used; .. before 43, 50 first" (document 02, E9)
unfoldable pub numbered_table : ℕ → Bytes → List ℕ → ℕ → ℕ → TableRead
numbered_table k c s p e =
    pick (nat_le (table_number c) 7)
    (pick (present_in s (table_number c)) (Err TableNumberUsed)
    (pick (bounded (table_by k c)) (Ok (table_number c, description_of k c p, e)) (Err CellBeyondBound)))
    (Err TableNumberOutOfRange)

-- the record that begins at p; "11 before 12", the others "after 12"
unfoldable pub table_at : Bytes → List ℕ → ℕ → TableRead
table_at d s p =
    let l = drop p d in
    pick (is_table l)
    (pick (fits (content_of l)) (numbered_table (kind_of l) (content_of l) s (p + 4 + bounds_at) (p + 4 + length_of l)) (Err TableOutOfRange))
    (Err NotATable)

-- the descriptions by number, D those of the records before, of the tables in l, at most n, where l stands at p in the data
unfoldable pub descriptions_from : ℕ → ℕ → List ℕ → Bytes → List ℕ
descriptions_from zero p D l = D
descriptions_from (suc n) p D [] = D
descriptions_from (suc n) p D (b ∷ l) =
    let r = b ∷ l in
    descriptions_from n (p + 4 + length_of r) (slice_set D (table_number (content_of r)) (description_of (kind_of r) (content_of r) (p + 4 + bounds_at))) (behind r)

unfoldable pub descriptions : Bytes → List ℕ
descriptions d = descriptions_from 8 0 (replicate most_tables 0) d

-- a refusal's number, 0 where nothing is refused
unfoldable pub refusal_number : {A : Type 0} → Result A → ℕ
refusal_number (refused n) = n
refusal_number (got a) = 0

-- scratch word 1 + k is the description of table k, 0 where there is none
pub record Stored (d : Bytes) (s : List ℕ) : Type 0 where
  pub each : (k : ℕ) → k < most_tables → slice_index s (1 + k) ≡ slice_index (descriptions d) k

-- what `read_data` does with scratch s: it leaves s' and answers r. Behind the last description every word is as before
pub record ReadDataPost (d : Bytes) (s s' : List ℕ) (r : ℕ) : Type 0 where
  pub number : r ≡ refusal_number (read_data d)
  pub long : length s' ≡ length s
  pub kept : (j : ℕ) → 9 ≤ j → slice_index s' j ≡ slice_index s j
  pub stored : (T : Tables) → read_data d ≡ got T → Stored d s'
