-- The lent calendars in scratch: for each number from 0 to 3 a word with how many windows it has, then a word for each of them. Every word is read as
-- something, so reading is total.
use Rattle.std.specs.Prelude.{List, [], ◌∷◌, ℕ, zero, suc, ◌+◌, ◌*◌, ◌/◌, ◌%◌, ltb, length, get_or, set}
use Rattle.spec_calculus.specs.Lists.{pick}
use Rattle.spec_calendar.specs.Hours.{Window, Calendar}
use Rattle.base_scratch.specs.Map.{calendars_at, calendar_words}

-- where calendar n begins
abbrev pub count_at : ℕ → ℕ
count_at n = calendars_at + calendar_words * n

-- ---- read
abbrev pub window_of : ℕ → Window
window_of w = record { weekday = w % 8; first = w / 8 % 2048; end = w / 16384 % 2048 }

unfoldable pub windows_in : List ℕ → ℕ → ℕ → Calendar
windows_in s a zero = []
windows_in s a (suc n) = window_of (get_or s a 0) ∷ windows_in s (a + 1) n

unfoldable pub calendar_in : List ℕ → ℕ → Calendar
calendar_in s n = pick (ltb n 4) (windows_in s (count_at n + 1) (get_or s (count_at n) 0 % 64)) []

-- ---- laid
abbrev pub packed : Window → ℕ
packed x = x.weekday % 8 + 8 * (x.first % 2048) + 16384 * (x.end % 2048)

unfoldable pub laid_from : ℕ → Calendar → List ℕ → List ℕ
laid_from a [] s = s
laid_from a (x ∷ c) s = laid_from (a + 1) c (set s a (packed x))

abbrev pub laid : ℕ → Calendar → List ℕ → List ℕ
laid n c s = laid_from (count_at n + 1) c (set s (count_at n) (length c))

-- K is the calendar of each number
abbrev pub kept_in : (ℕ → Calendar) → List ℕ → List ℕ
kept_in K s = laid 3 (K 3) (laid 2 (K 2) (laid 1 (K 1) (laid 0 (K 0) s)))
