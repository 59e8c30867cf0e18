-- The outcome of a round (document 02, E8), from what was lent to it.
use Rattle.std.specs.Prelude.{◌≡◌, List, true, false, ℕ, ◌+◌, ◌≤◌, ◌<◌, length, get_or, ℤ}
use Rattle.spec_encoding.specs.Record.{Bytes}
use Rattle.spec_outcome.specs.Rota.{rota_fits}
use Rattle.engine.specs.Portions.{Says, PortionPost}
use Rattle.engine.specs.declared.Portioned.{Portioned}
use Rattle.engine.specs.declared.TwoSeats.{TwoSeats}
use Rattle.engine.specs.declared.Round.{Round}

-- what is lent to a seat
pub record Seat : Type 0 where
  pub scratch : List ℕ
  pub answer : List ℤ

abbrev pub seat_of : List ℕ → List ℤ → Seat
seat_of s o = record { scratch = s; answer = o }

-- nothing is told of a seat, and it stays as it is
pub record Idle (x y : Seat) (r : Portioned) : Type 0 where
  pub says : Says r 0 0 0 0
  pub same : y ≡ x

-- "A round visits the seats in order. Each seat with an unfinished question gets its quota": what is told of seat i, and left there, is
-- its own portion of so many rows, whatever the other seats have; a seat that the rota has not is idle
pub record SeatPost (least : ℕ) (d : Bytes) (qs : List ℕ) (i : ℕ) (x y : Seat) (r : Portioned) : Type 0 where
  pub visited : i < length qs → PortionPost least d (get_or qs i 0) x.scratch x.answer y.scratch y.answer r
  pub beyond : length qs ≤ i → Idle x y r

pub record TwoSeatsPost (least : ℕ) (d : Bytes) (qs : List ℕ) (i : ℕ) (x₀ x₁ y₀ y₁ : Seat) (r : TwoSeats) : Type 0 where
  pub first : SeatPost least d qs i x₀ y₀ r.first
  pub second : SeatPost least d qs (i + 1) x₁ y₁ r.second

-- "49, seats or quota outside these ranges, before any other, changing nothing"
pub record RoundPost (least : ℕ) (d : Bytes) (qs : List ℕ) (x₀ x₁ x₂ x₃ y₀ y₁ y₂ y₃ : Seat) (r : Round) : Type 0 where
  pub refused : rota_fits qs ≡ false → (r.number ≡ 49) × (Idle x₀ y₀ r.first × (Idle x₁ y₁ r.second × (Idle x₂ y₂ r.third × Idle x₃ y₃ r.fourth)))
  pub served : rota_fits qs ≡ true → (r.number ≡ 0) × (SeatPost least d qs 0 x₀ y₀ r.first × (SeatPost least d qs 1 x₁ y₁ r.second × (SeatPost least d qs 2 x₂ y₂ r.third × SeatPost least d qs 3 x₃ y₃ r.fourth)))
