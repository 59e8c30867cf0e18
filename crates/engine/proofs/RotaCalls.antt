-- What a round does at each seat.
use mathlib.Core.Path.{◌≡◌, refl, sym, ap, ◌∙◌}
use mathlib.Core.Bool.{Bool, true, false, not, true≢false}
use mathlib.Core.List.{List}
use Prim.Native.Nat.{ℕ, ◌+◌, ◌≤◌, ◌<◌}
use native.Mathlib.Omega.{arith}
use lib.ListN.{length, get_or}
use lib.IntN.{ℤ}
use Rattle.spec_encoding.specs.Record.{Bytes}
use Rattle.spec_outcome.specs.Rota.{rota_fits}
use Rattle.engine.specs.Portions.{Says, PortionPost}
use Rattle.engine.specs.Rota.{Seat, seat_of, Idle, SeatPost, TwoSeatsPost, RoundPost}
use Rattle.engine.specs.declared.Portioned.{Portioned}
use Rattle.engine.specs.declared.TwoSeats.{TwoSeats}

idle : {x : Seat} {r : Portioned} → Says r 0 0 0 0 → Idle x x r
idle S = record { says = S; same = refl }

module _ {least : ℕ} {d : Bytes} {qs : List ℕ} {i : ℕ} {r : Portioned} where
  pub seat-beyond : {s : List ℕ} {o : List ℤ} → length qs ≤ i → Says r 0 0 0 0 → SeatPost least d qs i (seat_of s o) (seat_of s o) r
  seat-beyond l S = record { visited = λ h. absurd (omega (arith, l, h)); beyond = λ h. idle S }

  pub seat-visited : {s s' : List ℕ} {o o' : List ℤ} → i < length qs → PortionPost least d (get_or qs i 0) s o s' o' r → SeatPost least d qs i (seat_of s o) (seat_of s' o') r
  seat-visited l P = record { visited = λ h. P; beyond = λ h. absurd (omega (arith, l, h)) }

module _ {least : ℕ} {d : Bytes} {qs : List ℕ} {b : Bool} (e : b ≡ rota_fits qs) where
  pub round-refused : {x₀ x₁ x₂ x₃ : Seat} {r : Portioned} {k : ℕ} → k ≡ 49 → not b ≡ true → Says r 0 0 0 0 → RoundPost least d qs x₀ x₁ x₂ x₃ x₀ x₁ x₂ x₃ (record { number = k; first = r; second = r; third = r; fourth = r })
  round-refused k n S = record { refused = λ h. (k, (idle S, (idle S, (idle S, idle S)))); served = λ h. absurd (true≢false (sym n ∙ ap not (e ∙ h))) }

  pub round-served : {x₀ x₁ x₂ x₃ y₀ y₁ y₂ y₃ : Seat} {a c : TwoSeats} → not b ≡ false → TwoSeatsPost least d qs 0 x₀ x₁ y₀ y₁ a → TwoSeatsPost least d qs 2 x₂ x₃ y₂ y₃ c
      → RoundPost least d qs x₀ x₁ x₂ x₃ y₀ y₁ y₂ y₃ (record { number = 0; first = a.first; second = a.second; third = c.first; fourth = c.second })
  round-served n A C = record { refused = λ h. absurd (true≢false (sym (ap not (e ∙ h)) ∙ n)); served = λ h. (refl, (A.first, (A.second, (C.first, C.second)))) }
