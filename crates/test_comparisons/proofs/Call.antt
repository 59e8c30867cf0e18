-- The call, by the laws of the open ones.
use mathlib.Core.Path.{◌≡◌, ◌∙◌}
use mathlib.Core.List.{List}
use Prim.Native.Nat.{ℕ, ◌≤◌}
use native.Mathlib.Omega.{arith}
use lib.ListN.{length}
use lib.IntN.{ℤ}
use Rattle.spec_encoding.specs.Record.{Bytes}
use Rattle.spec_outcome.specs.Acceptance.{Lent}
use Rattle.spec_outcome.specs.Outcome.{scratch_words}
use Rattle.spec_outcome.specs.Gives.{Gives}
use Rattle.engine.specs.Replies.{AdmitPost, Replies}
use Rattle.std.specs.declared.result.Result.{Result}
use Rattle.std.specs.declared.result.Result.TheVariants.{Ok, Err}
use Rattle.base_refusals.specs.Numbers.{outcome_number, outcome_length}
use Rattle.base_refusals.specs.declared.Refusal.{Refusal}
use Rattle.engine.specs.declared.Reply.{Reply}
use Rattle.engine.proofs.Calls.{room-accepted, refused-by, settled-by}
use Rattle.test_comparisons.specs.ComparedAnswer.{counted, compared}
use Rattle.test_comparisons.specs.Contract.{CountPost}

module _ {d : Bytes} {l : Lent} {s t : List ℕ} {x : Result (Unit {0}) Reply} (B : AdmitPost d l s t x) {b : List ℤ} where
  pub compared-refused : {r : Reply} → x ≡ Err r → Gives (compared d l s b) r.number r.length b t
  unfolding compared
  compared-refused e = refused-by B (counted b) b e

  pub room-counted : {z : Unit {0}} → x ≡ Ok z → {u : List ℕ} {b' : List ℤ} {c : Result ℕ Refusal} → CountPost d t b u b' c → scratch_words ≤ length u
  room-counted e A = omega (arith, room-accepted B e, A.long)

  pub compared-given : {z : Unit {0}} → x ≡ Ok z → {u v : List ℕ} {b' : List ℤ} {c : Result ℕ Refusal} {k n : ℕ} {r : Reply} → CountPost d t b u b' c → k ≡ outcome_number c → n ≡ outcome_length c → Replies u v k n r → Gives (compared d l s b) r.number r.length b' v
  unfolding compared
  compared-given e A p q R =
      settled-by B (counted b) b e (record { long = A.long; above = λ j h. A.above j (omega arith) })
      (λ Y. A.is l Y.accepted Y.read Y.prepared) (record { number = R.number ∙ p; length = R.length ∙ q; scratch = R.scratch })
