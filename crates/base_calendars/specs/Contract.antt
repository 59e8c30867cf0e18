-- What the functions that read calendars ask and give.
use Rattle.std.specs.Prelude.{◌≡◌, ℕ, ◌-◌, ◌≤◌, ◌<◌, Option, Some, None, length, take, drop}
use Rattle.spec_calendar.specs.Hours as Hours
use Rattle.spec_calendar.specs.Hours.{calendar_of}
use Rattle.spec_encoding.specs.Record.{Bytes}
use Rattle.spec_hours.specs.CalendarBytes.{windows_of, calendars_of}
use Rattle.base_calendars.specs.declared.Window.{Window}

-- a window that was read
abbrev pub window_in : Window → Hours.Window
window_in x = record { weekday = x.weekday; first = x.first; end = x.end }

-- calendar k of these bytes has the windows of the content from a to b
pub record Stands (l : Bytes) (k a b : ℕ) : Type 0 where
  pub order : a ≤ b
  pub within : b ≤ length l
  pub lent : k < length (calendars_of l)
  pub windows : calendar_of (calendars_of l) k ≡ windows_of (take (b - a) (drop a l))

-- where the content of calendar k begins and ends, or that there is none
abbrev pub FoundAs : Bytes → ℕ → Option (ℕ × ℕ) → Type 0
FoundAs l k (Some (a, b)) = Stands l k a b
FoundAs l k None = length (calendars_of l) ≤ k

pub record FindPost (l : Bytes) (k : ℕ) (r : Option (ℕ × ℕ)) : Type 0 where
  pub is : FoundAs l k r
