-- From the parts of the call with a tariff to its outcome: 31, 44, then as every call that answers.
use mathlib.Core.Path.{◌≡◌, refl, sym, ap, subst, ◌∙◌}
use mathlib.Core.Bool.{Bool, true, false}
use mathlib.Core.List.{List}
use Prim.Native.Nat.{ℕ, ◌≤◌, ◌<◌}
use native.Mathlib.Omega.{arith}
use lib.ListN.{length, get_or}
use lib.IntN.{ℤ}
use Rattle.spec_encoding.specs.Record.{Bytes, Result, refused, got, and_then, require}
use Rattle.spec_outcome.specs.Acceptance.{Lent, examine}
use Rattle.spec_outcome.specs.Outcome.{Outcome, Answer, scratch_words, with_scratch}
use Rattle.spec_outcome.specs.Gives.{Gives, Settles}
use Rattle.spec_tariff.specs.TariffBytes.{is_tariff, read_tariff}
use Rattle.spec_tariff.specs.WithTariff.{charged, charged_with, with_tariff}
use Rattle.base_tariff.specs.Contract.{tariff_in, IsTariff}
use Rattle.form_prepared.specs.AnswerContract.{Asked}
use Rattle.form_prepared.proofs.SettledOutcome.{settles-refused}
use Rattle.base_refusals.specs.Numbers.{outcome_number, outcome_length}
use Rattle.base_refusals.specs.declared.Refusal.{Refusal}
use Rattle.loop_dues.specs.Contract.{DuesPost}
use Rattle.std.specs.declared.result.Result.{Result as Res}
use Rattle.std.specs.declared.result.Result.TheVariants.{Ok, Err}
use Rattle.engine.specs.Replies.{AdmitPost, Replies}
use Rattle.engine.specs.declared.Reply.{Reply}
use Rattle.engine.proofs.Calls.{spares-all, too_short, replied, asked, room-accepted, refused-by, settled-by}

module _ (l d : Bytes) (q : Lent) (s : List ℕ) (b : List ℤ) where
  pub tariff-scant : length s < scratch_words → {k n : ℕ} → k ≡ 31 → n ≡ 0 → Gives (with_tariff l d q s b) k n b s
  unfolding with_tariff
  tariff-scant h e f = let G = too_short s b (charged_with l d q b) h in record { number = e ∙ G.number; size = f ∙ G.size; buffer = G.buffer; scratch = G.scratch }

  module _ {t : Bool} (T : t ≡ is_tariff l) where
    -- 44 "after 31", before the data
    pub tariff-refused : scratch_words ≤ length s → t ≡ false → {u : List ℕ} {r : Reply} → Replies s u 44 0 r → Gives (with_tariff l d q s b) r.number r.length b u
    unfolding with_tariff
    tariff-refused room e R = replied room (spares-all s) R (subst (λ (x : Result (Answer ℤ)). Settles x b 44 0 b) (sym refuses) (settles-refused 44 refl))
      where
        refuses : charged_with l d q b ≡ refused 44
        refuses = unfold charged_with read_tariff require and_then in ap (λ (x : Bool). and_then (require 44 x (got (tariff_in l))) (λ t. and_then (examine d q) (charged b t))) (sym T ∙ e)

    module _ (e : t ≡ true) where
      pub tariff-is : IsTariff l
      tariff-is = record { is = sym T ∙ e }

      behind : with_tariff l d q s b ≡ with_scratch scratch_words s b (and_then (examine d q) (charged b (tariff_in l)))
      unfolding with_tariff charged_with read_tariff require and_then
      behind = ap (λ (x : Bool). with_scratch scratch_words s b (and_then (require 44 x (got (tariff_in l))) (λ t. and_then (examine d q) (charged b t)))) (sym T ∙ e)

      module _ {u : List ℕ} {x : Res (Unit {0}) Reply} (B : AdmitPost d q s u x) where
        pub dues-refused : {r : Reply} → x ≡ Err r → Gives (with_tariff l d q s b) r.number r.length b u
        dues-refused {r} h = subst (λ (o : Outcome ℤ). Gives o r.number r.length b u) (sym behind) (refused-by B (charged b (tariff_in l)) b h)

        pub dues-asked : {z : Unit {0}} → x ≡ Ok z → Asked d u × IsTariff l
        dues-asked h = (asked B h, tariff-is)

        module _ {z : Unit {0}} (h : x ≡ Ok z) {b' : List ℤ} {v : List ℕ} {y : Res ℕ Refusal} (A : DuesPost (tariff_in l) d u b v b' y) where
          pub dues-room : scratch_words ≤ length v
          dues-room = omega (arith, room-accepted B h, ap (λ (z : List ℕ). length z) A.kept)

          pub dues-given : {w : List ℕ} {r : Reply} → Replies v w (outcome_number y) (outcome_length y) r → Gives (with_tariff l d q s b) r.number r.length b' w
          dues-given {w} {r} R =
              subst (λ (o : Outcome ℤ). Gives o r.number r.length b' w) (sym behind)
              (settled-by B (charged b (tariff_in l)) b h (record { long = ap (λ (z : List ℕ). length z) A.kept; above = λ j k. ap (λ (z : List ℕ). get_or z j 0) A.kept })
              (λ Y. A.is q Y.accepted Y.read Y.prepared) R)
