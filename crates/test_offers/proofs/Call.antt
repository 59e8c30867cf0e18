-- The call, by the laws of the open ones.
use native.Mathlib.Omega.{arith}
use mathlib.Core.Path.{◌≡◌, refl}
use mathlib.Core.List.{List, []}
use Prim.Native.Nat.{ℕ, ◌≤◌}
use lib.ListN.{length}
use Rattle.spec_encoding.specs.Record.{Bytes}
use Rattle.spec_outcome.specs.Acceptance.{Lent, Accepted}
use Rattle.spec_outcome.specs.Outcome.{scratch_words, settled}
use Rattle.spec_outcome.specs.Gives.{Gives, Settles}
use Rattle.engine.specs.Replies.{AdmitPost, Replies}
use Rattle.std.specs.declared.result.Result.{Result}
use Rattle.std.specs.declared.result.Result.TheVariants.{Ok, Err}
use Rattle.engine.specs.declared.Reply.{Reply}
use Rattle.engine.proofs.Calls.{room-accepted, refused-by, settled-by}
use Rattle.test_offers.specs.OfferedRows.{offered_rows, counted, offered}
use Rattle.test_offers.specs.Contract.{RowsOfPost}

settles-counted : (a : Accepted) {n : ℕ} → n ≡ offered_rows a → Settles (counted a) [] 0 n []
unfolding settled
settles-counted a e = record { gives = λ s. record { number = refl; size = e; buffer = refl; scratch = refl } }

module _ {d : Bytes} {l : Lent} {s t : List ℕ} {x : Result (Unit {0}) Reply} (B : AdmitPost d l s t x) where
  pub offered-refused : {r : Reply} → x ≡ Err r → Gives (offered d l s) r.number r.length [] t
  unfolding offered
  offered-refused e = refused-by B counted [] e

  pub room-told : {z : Unit {0}} → x ≡ Ok z → {u : List ℕ} {n : ℕ} → RowsOfPost d t u n → scratch_words ≤ length u
  room-told e A = omega (arith, room-accepted B e, A.long)

  pub offered-given : {z : Unit {0}} → x ≡ Ok z → {u v : List ℕ} {n : ℕ} {r : Reply} → RowsOfPost d t u n → Replies u v 0 n r → Gives (offered d l s) r.number r.length [] v
  unfolding offered
  offered-given e A R = settled-by B counted [] e (record { long = A.long; above = λ j h. A.above j (omega arith) }) (λ Y. settles-counted Y.accepted (A.is Y.accepted Y.prepared)) R
