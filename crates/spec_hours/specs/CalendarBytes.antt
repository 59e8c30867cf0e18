-- "calendars, up to 4, numbered by position from 0, in a buffer of their own, each a record of kind 24" (document 02, E4)
use Rattle.std.specs.Prelude.{List, [], ◌∷◌, Bool, true, false, ◌&&◌, ℕ, zero, suc, ◌+◌, ◌*◌, eqb, ltb, leb, length}
use Rattle.spec_calendar.specs.Hours.{Window, Calendar, Calendars, day_minutes}
use Rattle.spec_encoding.specs.Record.{Bytes, Result, got, require, byte, two, kind_of, content_of, behind, is_whole}

-- a window's: one of weekday, two each of first and end
abbrev pub window_bytes : ℕ
window_bytes = 5

-- "each a weekday byte .., a first minute and an end minute of two bytes": the window that begins at a byte of a content
unfoldable pub window_at : Bytes → ℕ → Window
window_at c i = record { weekday = byte c i; first = two c (i + 1); end = two c (i + 3) }

unfoldable pub windows_from : Bytes → ℕ → ℕ → List Window
windows_from c i zero = []
windows_from c i (suc n) = window_at c i ∷ windows_from c (i + window_bytes) n

-- "one byte of windows (0 to 32), then the windows": of a record's content
unfoldable pub windows_of : Bytes → Calendar
windows_of c = windows_from c 1 (byte c 0)

-- a "weekday byte (0 Monday to 6 Sunday)", minutes "0 to 1,440, end after first"
unfoldable pub window_fits : Window → Bool
window_fits x = leb x.weekday 6 && (leb x.first day_minutes && (leb x.end day_minutes && ltb x.first x.end))

unfoldable pub windows_fit : List Window → Bool
windows_fit [] = true
windows_fit (x ∷ l) = window_fits x && windows_fit l

-- a content that keeps this layout
unfoldable pub content_fits : Bytes → Bool
content_fits c = leb (byte c 0) 32 && (eqb (length c) (1 + window_bytes * byte c 0) && windows_fit (windows_of c))

-- a whole record of kind 24
unfoldable pub is_calendar : Bytes → Bool
is_calendar l = is_whole l && eqb (kind_of l) 24

-- neither "a calendar record that breaks this layout" nor "a fifth one", where n more may follow
unfoldable pub calendars_fit : ℕ → Bytes → Bool
calendars_fit zero [] = true
calendars_fit zero (b ∷ l) = false
calendars_fit (suc n) [] = true
calendars_fit (suc n) (b ∷ l) = let r = b ∷ l in is_calendar r && (content_fits (content_of r) && calendars_fit n (behind r))

-- the calendars of up to n records
unfoldable pub calendars_from : ℕ → Bytes → Calendars
calendars_from zero l = []
calendars_from (suc n) [] = []
calendars_from (suc n) (b ∷ l) = let r = b ∷ l in windows_of (content_of r) ∷ calendars_from n (behind r)

-- "up to 4"
abbrev pub most_calendars : ℕ
most_calendars = 4

unfoldable pub calendars_of : Bytes → Calendars
calendars_of l = calendars_from most_calendars l

-- "41, a calendar record that breaks this layout or a fifth one"; "well formed calendars" are those that are read
unfoldable pub read_calendars : Bytes → Result Calendars
read_calendars l = require 41 (calendars_fit most_calendars l) (got (calendars_of l))
