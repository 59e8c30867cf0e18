-- Cases of calendars as bytes: which records break the layout, a fifth one, which refusal comes first.
use mathlib.Core.Path.{◌≡◌, refl}
use mathlib.Core.List.{[], ◌∷◌, ◌++◌}
use mathlib.Core.Bool.{Bool, true, false}
use Prim.Native.Nat.{ℕ}
use lib.IntN.{pos}
use Rattle.spec_calculus.specs.Lists.{pick}
use Rattle.spec_calendar.specs.Dates.{is_leap, month_days, last_of, is_date, date_exists, on}
use Rattle.spec_encoding.specs.Record.{Bytes, refused, got, and_then, require, is_whole}
use Rattle.spec_hours.specs.CalendarBytes.{window_at, windows_from, windows_of, window_fits, windows_fit, content_fits, is_calendar, calendars_fit, most_calendars, calendars_from, calendars_of, read_calendars}
use Rattle.spec_hours.specs.Calls.{day_told, day_numbered, date_told, dated, open_told, first_opened}

-- a record of one window: weekday, first minute and end minute, each of two bytes
abbrev one : ℕ → ℕ → ℕ → ℕ → ℕ → Bytes
one w a₀ a₁ e₀ e₁ = 6 ∷ 0 ∷ 24 ∷ 0 ∷ 1 ∷ w ∷ a₀ ∷ a₁ ∷ e₀ ∷ e₁ ∷ []

abbrev empty : Bytes
empty = 1 ∷ 0 ∷ 24 ∷ 0 ∷ 0 ∷ []

abbrev Fits : Bytes → Bool → Type 0
Fits l b = calendars_fit most_calendars l ≡ b

-- Saturday, 480 to 720
saturday : read_calendars (one 5 224 1 208 2) ≡ got ((record { weekday = 5; first = 480; end = 720 } ∷ []) ∷ [])
unfolding pick is_whole require window_at windows_from windows_of window_fits windows_fit content_fits is_calendar calendars_fit calendars_from calendars_of read_calendars
saturday = refl

no-calendar : read_calendars [] ≡ got []
unfolding require calendars_fit calendars_from calendars_of read_calendars
no-calendar = refl

-- "(0 Monday to 6 Sunday)"
weekday-7 : read_calendars (one 7 0 0 1 0) ≡ refused 41
unfolding pick is_whole require window_at windows_from windows_of window_fits windows_fit content_fits is_calendar calendars_fit read_calendars
weekday-7 = refl

-- "0 to 1,440, end after first"
end-1440 : Fits (one 5 159 5 160 5) true
unfolding pick is_whole window_at windows_from windows_of window_fits windows_fit content_fits is_calendar calendars_fit
end-1440 = refl

end-1441 : Fits (one 5 159 5 161 5) false
unfolding pick is_whole window_at windows_from windows_of window_fits windows_fit content_fits is_calendar calendars_fit
end-1441 = refl

first-is-end : Fits (one 5 224 1 224 1) false
unfolding pick is_whole window_at windows_from windows_of window_fits windows_fit content_fits is_calendar calendars_fit
first-is-end = refl

-- one window declared, two there
window_more : Fits (11 ∷ 0 ∷ 24 ∷ 0 ∷ 1 ∷ 5 ∷ 0 ∷ 0 ∷ 1 ∷ 0 ∷ 5 ∷ 0 ∷ 0 ∷ 1 ∷ 0 ∷ []) false
unfolding pick is_whole window_at windows_from windows_of window_fits windows_fit content_fits is_calendar calendars_fit
window_more = refl

-- two windows that overlap
overlap : Fits (11 ∷ 0 ∷ 24 ∷ 0 ∷ 2 ∷ 5 ∷ 224 ∷ 1 ∷ 208 ∷ 2 ∷ 5 ∷ 234 ∷ 1 ∷ 254 ∷ 1 ∷ []) true
unfolding pick is_whole window_at windows_from windows_of window_fits windows_fit content_fits is_calendar calendars_fit
overlap = refl

kind-20 : Fits (1 ∷ 0 ∷ 20 ∷ 0 ∷ 0 ∷ []) false
unfolding pick is_whole is_calendar calendars_fit
kind-20 = refl

without-count : Fits (0 ∷ 0 ∷ 24 ∷ 0 ∷ []) false
unfolding pick is_whole windows_of content_fits is_calendar calendars_fit
without-count = refl

-- "up to 4", "or a fifth one": any byte behind the fourth begins one
four : Fits (empty ++ empty ++ empty ++ empty) true
unfolding pick is_whole windows_from windows_of windows_fit content_fits is_calendar calendars_fit
four = refl

four-and-a-byte : Fits (empty ++ empty ++ empty ++ empty ++ 0 ∷ []) false
unfolding pick is_whole windows_from windows_of windows_fit content_fits is_calendar calendars_fit
four-and-a-byte = refl

five : Fits (empty ++ empty ++ empty ++ empty ++ empty) false
unfolding pick is_whole windows_from windows_of windows_fit content_fits is_calendar calendars_fit
five = refl

-- "42, .. after 41"
not-lent : first_opened (one 5 224 1 208 2) 1 (pos 0) ≡ record { number = 42; found = 0; minute = 0 }
unfolding pick is_whole and_then require window_at windows_from windows_of window_fits windows_fit content_fits is_calendar calendars_fit calendars_from calendars_of read_calendars open_told first_opened
not-lent = refl

broken-first : first_opened (empty ++ 0 ∷ []) 7 (pos 0) ≡ record { number = 41; found = 0; minute = 0 }
unfolding pick is_whole and_then require windows_from windows_of windows_fit content_fits is_calendar calendars_fit read_calendars open_told first_opened
broken-first = refl

-- "a date or day number that does not exist in those years"
no-date : day_numbered (on 2100 2 29) ≡ record { number = 41; day = 0 }
unfolding is_leap month_days last_of is_date date_exists require day_told day_numbered
no-date = refl

no-day : dated 146097 ≡ record { number = 41; year = 0; month = 0; day = 0 }
unfolding require date_told dated
no-day = refl
