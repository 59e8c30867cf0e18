-- What a date call tells, the other gives back; what the first-open call tells is the least open minute, or that there is none.
use mathlib.Core.Path.{◌≡◌, refl, sym, ap, subst, ◌∙◌}
use mathlib.Core.Bool.{Bool, true, false}
use Prim.Native.Nat.{ℕ, ◌<◌}
use native.Mathlib.Omega.{arith}
use lib.Dec.{ltb}
use lib.ListN.{length}
use lib.IntN.{ℤ}
use borrow.Author.Tests.{lt-ltb}
use Rattle.spec_calendar.specs.Dates.{Date, on, date_exists, day_number, day_exists, date_of}
use Rattle.spec_calendar.specs.Hours.{Calendars, calendar_of, Found, first_open, FirstOpen}
use Rattle.spec_calendar.proofs.Dates.{back, forth}
use Rattle.spec_calendar.proofs.FirstMinute.{first-open}
use Rattle.spec_encoding.specs.Record.{Bytes, got, and_then, require}
use Rattle.spec_hours.specs.CalendarBytes.{read_calendars}
use Rattle.spec_hours.specs.Calls.{DayOutcome, DateOutcome, day_told, day_numbered, date_told, dated, open_told, first_opened}

-- "41, .. a date .. that does not exist"
day-refused : (b : Bool) (n : ℕ) → (day_told (require 41 b (got n))).number ≡ 0 → b ≡ true
unfolding day_told require
day-refused true n e = refl
day-refused false n e = absurd (omega arith)

date-refused : (b : Bool) (d : Date) → (date_told (require 41 b (got d))).number ≡ 0 → b ≡ true
unfolding date_told require
date-refused true d e = refl
date-refused false d e = absurd (omega arith)

pub day-told : (d : Date) → date_exists d ≡ true → day_numbered d ≡ record { number = 0; day = day_number d }
unfolding day_numbered day_told require
day-told d e = rw (e)

pub date-told : (n : ℕ) → day_exists n ≡ true → dated n ≡ record { number = 0; year = (date_of n).year; month = (date_of n).month; day = (date_of n).day }
unfolding dated date_told require
date-told n e = rw (e)

abbrev pub date_in : DateOutcome → Date
date_in o = on o.year o.month o.day

pub day-back : (d : Date) → (day_numbered d).number ≡ 0 → dated (day_numbered d).day ≡ record { number = 0; year = d.year; month = d.month; day = d.day }
unfolding day_numbered
day-back d e =
    let x = day-refused (date_exists d) (day_number d) e in
    let b = back d x in
    ap (λ (o : DayOutcome). dated o.day) (day-told d x) ∙ date-told (day_number d) b.0
    ∙ ap (λ (v : Date). record { number = 0; year = v.year; month = v.month; day = v.day }) b.1

pub date-back : (n : ℕ) → (dated n).number ≡ 0 → day_numbered (date_in (dated n)) ≡ record { number = 0; day = n }
unfolding dated
date-back n e =
    let x = date-refused (day_exists n) (date_of n) e in
    let f = forth n x in
    ap (λ (o : DateOutcome). day_numbered (date_in o)) (date-told n x) ∙ day-told (date_of n) f.0 ∙ ap (λ (k : ℕ). record { number = 0; day = k }) f.1

-- "the first open minute at or after a given signed one, or none exactly if no such minute exists"
pub record Told (C : Calendars) (l : Bytes) (k : ℕ) (z : ℤ) : Type 0 where
  pub minute : Found
  pub first : FirstOpen (calendar_of C k) z minute
  pub told : first_opened l k z ≡ open_told (got minute)

pub open_told_lem : (C : Calendars) (l : Bytes) (k : ℕ) (z : ℤ) → read_calendars l ≡ got C → k < length C → Told C l k z
unfolding first_opened and_then require
open_told_lem C l k z e h = record { minute = first_open (calendar_of C k) z; first = first-open (calendar_of C k) z; told = rw (e, lt-ltb k (length C) h) }
