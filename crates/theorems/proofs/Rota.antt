-- "Four seats at the shore desk" (document 02, E8), over the contract of the round: a question at a seat ends within as many rounds of an
-- unchanged rota as its rows divided by its quota, rounded up, and at least one, whatever is typed at the other seats.
use native.Mathlib.Omega.{arith}
use mathlib.Core.Path.{◌≡◌, refl, sym, ap, ap₂, subst, ◌∙◌}
use mathlib.Core.Bool.{true, false}
use mathlib.Core.List.{List, [], ◌∷◌, ◌++◌, map}
use Prim.Native.Nat.{ℕ, zero, suc, ◌+◌, ◌-◌, ◌*◌, ◌≤◌, ◌<◌}
use borrow.Author.Tests.{ne_eqb, le-ltb}
use lib.ListN.{length, get_or}
use lib.IntN.{ℤ}
use Rattle.spec_calculus.specs.Lists.{pick}
use Rattle.spec_calculus.proofs.Lists.{All}
use Rattle.spec_encoding.specs.Record.{Bytes}
use Rattle.spec_outcome.specs.Acceptance.{Lent}
use Rattle.spec_outcome.specs.Outcome.{Outcome, scratch_words}
use Rattle.base_signed.specs.Limit.{number_limit}
use Rattle.spec_outcome.specs.Rota.{rota_fits}
use Rattle.base_rota.proofs.Laws.{quota-within}
use Rattle.engine.specs.Portions.{outside, BeginPost}
use Rattle.engine.specs.Rota.{Seat, SeatPost}
use Rattle.engine.specs.declared.Reply.{Reply}
use Rattle.engine.specs.declared.Portioned.{Portioned}
use Rattle.theorems.proofs.Portions.{Call, Portions, counted, given, EndsAsOne, InPortions, in-portions}

times : (k q : ℕ) → suc k * q ≡ k * q + q
times k q = omega arith

positive : (k q : ℕ) → 1 ≤ k → 1 ≤ q → 0 < k * q
positive zero q h j = absurd (omega arith)
positive (suc k) q h j = omega (arith, times k q)

-- rounds of an unchanged rota as seat i sees them: what each told of it, and what it has before and after them. Between them the other
-- seats may be lent to any call.
abbrev pub Visits : Bytes → List ℕ → ℕ → List Portioned → Seat → Seat → Type 0
Visits d qs i [] x y = y ≡ x
Visits d qs i (r ∷ rs) x y = (z : Seat) × (SeatPost scratch_words d qs i x z r × Visits d qs i rs z y)

module _ (qs : List ℕ) (i : ℕ) (f : rota_fits qs ≡ true) (l : i < length qs) where
  abbrev quota : ℕ
  quota = get_or qs i 0

  -- its visits are portions of its quota
  unfoldable pub calls : List Portioned → List Call
  calls [] = []
  calls (r ∷ rs) = record { rows = quota; said = r } ∷ calls rs

  visited : (d : Bytes) (rs : List Portioned) (x y : Seat) → Visits d qs i rs x y → Portions scratch_words d (calls rs) x.scratch x.answer y.scratch y.answer
  unfolding calls
  visited d [] x y e = (ap (λ (z : Seat). z.scratch) e, ap (λ (z : Seat). z.answer) e)
  visited d (r ∷ rs) x y (z, (S, N)) = (z.scratch, (z.answer, (S.visited l, visited d rs z y N)))

  all-quota : (rs : List Portioned) → All (λ c. c.rows ≡ quota) (calls rs)
  unfolding calls
  all-quota [] = tt
  all-quota (r ∷ rs) = (refl, all-quota rs)

  -- a quota is no number of rows that a portion refuses
  inside : outside quota ≡ false
  unfolding outside pick
  inside = rw (ne_eqb quota 0 (λ e. omega (arith, e, (quota-within qs i f l).0)), le-ltb 65535 quota (omega (arith, (quota-within qs i f l).1)))

  given-quota : (cs : List Call) → All (λ c. c.rows ≡ quota) cs → given cs ≡ length cs * quota
  unfolding given pick
  given-quota [] a = omega arith
  given-quota (c ∷ cs) a = ap₂ ◌+◌ (ap counted a.0 ∙ ap (λ b. pick b 0 quota) inside) (given-quota cs a.1) ∙ step (length cs) quota
    where
      step : (n q : ℕ) → q + n * q ≡ suc n * q
      step n q = omega arith

  length-calls : (rs : List Portioned) → length (calls rs) ≡ length rs
  unfolding calls
  length-calls [] = refl
  length-calls (r ∷ rs) = ap suc (length-calls rs)

  all-front : (P : Call → Type 0) (a b : List Call) → All P (a ++ b) → All P a
  all-front P [] b h = tt
  all-front P (c ∷ a) b h = (h.0, all-front P a b h.1)

  all-behind : (P : Call → Type 0) (a b : List Call) → All P (a ++ b) → All P b
  all-behind P [] b h = h
  all-behind P (c ∷ a) b h = all-behind P a b h.1

  -- the round in which it ends: those before it were too few for its n rows, and with it they are enough
  pub record Within (n rounds : ℕ) : Type 0 where
    pub some : 1 ≤ rounds
    pub fewer : 2 ≤ rounds → (rounds - 1) * quota < n
    pub enough : n ≤ rounds * quota

  pub ends-within : (rs : List Portioned) {n : ℕ} {x : Outcome ℤ} {s : List ℕ} {o : List ℤ} (W : EndsAsOne n (calls rs) x s o) → Within n (suc (length W.before))
  ends-within rs {n} W = record {
    some = omega arith;
    fewer = λ h. subst (λ k. k < n) (given-quota W.before quotas ∙ ap (λ k. k * quota) (less (length W.before))) (W.fewer (subst (λ k. 0 < k) (sym (given-quota W.before quotas)) (positive (length W.before) quota (omega (arith, h)) (quota-within qs i f l).0)));
    enough = omega (arith, W.enough, given-quota W.before quotas, (all-behind (λ c. c.rows ≡ quota) W.before (W.last ∷ W.after) whole).0, times (length W.before) quota);
  }
    where
      whole : All (λ c. c.rows ≡ quota) (W.before ++ (W.last ∷ W.after))
      whole = subst (All (λ c. c.rows ≡ quota)) W.is (all-quota rs)

      quotas : All (λ c. c.rows ≡ quota) W.before
      quotas = all-front (λ c. c.rows ≡ quota) W.before (W.last ∷ W.after) whole

      less : (k : ℕ) → k ≡ suc k - 1
      less k = omega arith

  -- A question that was begun at this seat, and rounds of which there are enough for its rows: it is told unfinished with its quota in
  -- each round before the last, and ends in the last of them as a single call does (`EndsAsOne`); `ends-within` has which round that is.
  pub seat-ends : (d : Bytes) (m : Lent) {s₀ s : List ℕ} {b : Reply} → BeginPost scratch_words d m s₀ s b → b.number ≡ 0 → (lent : List ℤ) → length lent < number_limit → (rs : List Portioned) → 1 ≤ length rs → (y : Seat)
      → Visits d qs i rs (record { scratch = s; answer = lent }) y → InPortions d m s₀ lent (calls rs) y.scratch y.answer
  seat-ends d m {s₀} {s} B z lent short rs h y N =
      in-portions d m B z lent short (calls rs) (subst (λ k. 0 < k) (sym (given-quota (calls rs) (all-quota rs) ∙ ap (λ k. k * quota) (length-calls rs))) (positive (length rs) quota h (quota-within qs i f l).0))
      (visited d rs (record { scratch = s; answer = lent }) y N)
