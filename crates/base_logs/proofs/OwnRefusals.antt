-- The call's own refusals: each way out is one of `refusal_of`'s. Assumes nothing.
use mathlib.Core.Path.{◌≡◌, sym, ◌∙◌}
use mathlib.Core.Bool.{Bool, true, false}
use Prim.Native.Nat.{ℕ, ◌+◌, ◌*◌, ◌≤◌, ◌<◌}
use native.Mathlib.Omega.{arith}
use borrow.Author.Tests.{le-leb, lt-leb}
use Rattle.spec_calculus.specs.Lists.{pick}
use Rattle.spec_encoding.specs.Record.{Bytes}
use Rattle.base_tables.specs.Description.{rows_in}
use Rattle.base_logs.specs.Times.{is_log_in}
use Rattle.base_logs.specs.OwnRefusal.{refusal_of}

module _ (d : Bytes) (a b t room : ℕ) {x : Bool} (ex : x ≡ is_log_in d a) where
  pub no-first : x ≡ false → 53 ≡ refusal_of d a b t room
  unfolding refusal_of pick
  no-first h = rw (sym ex ∙ h)

  module _ (h : x ≡ true) {y : Bool} (ey : y ≡ is_log_in d b) where
    pub no_second : y ≡ false → 53 ≡ refusal_of d a b t room
    unfolding refusal_of pick
    no_second g = rw (sym ex ∙ h, sym ey ∙ g)

    module _ (g : y ≡ true) where
      pub tolerance-beyond : 3600 < t → 54 ≡ refusal_of d a b t room
      unfolding refusal_of pick
      tolerance-beyond l = rw (sym ex ∙ h, sym ey ∙ g, lt-leb t 3600 l)

      module _ (l : t ≤ 3600) {n : ℕ} (en : n ≡ 43 + 4 * (rows_in a + rows_in b)) where
        pub target-short : room < n → 52 ≡ refusal_of d a b t room
        unfolding refusal_of pick
        target-short k = rw (sym ex ∙ h, sym ey ∙ g, le-leb t 3600 l, lt-leb (43 + 4 * (rows_in a + rows_in b)) room (omega (arith, en, k)))

        pub target-long : n ≤ room → 0 ≡ refusal_of d a b t room
        unfolding refusal_of pick
        target-long k = rw (sym ex ∙ h, sym ey ∙ g, le-leb t 3600 l, le-leb (43 + 4 * (rows_in a + rows_in b)) room (omega (arith, en, k)))
