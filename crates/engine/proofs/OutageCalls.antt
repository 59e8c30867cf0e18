-- From the parts of the call that counts outages to its outcome.
use mathlib.Core.Path.{◌≡◌}
use mathlib.Core.List.{List}
use Prim.Native.Nat.{ℕ, ◌≤◌}
use native.Mathlib.Omega.{arith}
use lib.ListN.{length}
use lib.IntN.{ℤ}
use Rattle.spec_encoding.specs.Record.{Bytes}
use Rattle.spec_outcome.specs.Acceptance.{Lent}
use Rattle.spec_outcome.specs.Outcome.{scratch_words}
use Rattle.spec_outcome.specs.Gives.{Gives}
use Rattle.spec_outages.specs.Outages.{outages, count_outages}
use Rattle.base_refusals.specs.Numbers.{outcome_number, outcome_length}
use Rattle.base_refusals.specs.declared.Refusal.{Refusal}
use Rattle.loop_outages.specs.Contract.{CountPost}
use Rattle.std.specs.declared.result.Result.{Result as Res}
use Rattle.std.specs.declared.result.Result.TheVariants.{Ok, Err}
use Rattle.engine.specs.Replies.{AdmitPost, Replies}
use Rattle.engine.specs.declared.Reply.{Reply}
use Rattle.engine.proofs.Calls.{room-accepted, refused-by, settled-by}

module _ {d : Bytes} {l : Lent} {s t : List ℕ} {x : Res (Unit {0}) Reply} (B : AdmitPost d l s t x) (k : ℕ) {b : List ℤ} where
  pub outages-refused : {r : Reply} → x ≡ Err r → Gives (count_outages d l k s b) r.number r.length b t
  unfolding count_outages
  outages-refused e = refused-by B (outages k b) b e

  pub room-counted : {z : Unit {0}} → x ≡ Ok z → {b' : List ℤ} {u : List ℕ} {y : Res ℕ Refusal} → CountPost d t k b u b' y → scratch_words ≤ length u
  room-counted e C = omega (arith, room-accepted B e, C.long)

  pub outages-given : {z : Unit {0}} → x ≡ Ok z → {b' : List ℤ} {u v : List ℕ} {y : Res ℕ Refusal} {r : Reply} → CountPost d t k b u b' y → Replies u v (outcome_number y) (outcome_length y) r → Gives (count_outages d l k s b) r.number r.length b' v
  unfolding count_outages
  outages-given e C R =
      settled-by B (outages k b) b e (record { long = C.long; above = λ j h. C.above j (omega arith) })
      (λ Y. C.is l Y.accepted Y.read Y.prepared) R
