-- The outcomes of the calls that answer by plan in portions (document 02, E7), from what was lent to them. As in those of the other calls, how many
-- scratch words are asked for is a parameter, `least`.
use Rattle.std.specs.Prelude.{◌≡◌, Bool, true, List, ℕ, ◌+◌, ◌≤◌, ◌<◌, eqb, leb, ltb, length, get_or, ℤ}
use Rattle.spec_calculus.specs.Lists.{pick}
use Rattle.spec_calculus.specs.Monoid.{raw}
use Rattle.spec_encoding.specs.Record.{Bytes, got}
use Rattle.spec_plan.specs.Planner.{plan_of}
use Rattle.plan_machine.specs.Offers.{plan_offers}
use Rattle.spec_outcome.specs.Acceptance.{Lent, Accepted, examine}
use Rattle.spec_outcome.specs.Outcome.{G, checked_with, answered, planned}
use Rattle.spec_outcome.specs.Gives.{Gives, Spares}
use Rattle.base_signed.specs.Limit.{number_limit}
use Rattle.exec_portions.specs.Run.{Run, begun, portion, rows_due}
use Rattle.exec_portions.specs.RunInvariant.{Pending, task}
use Rattle.base_scratch.specs.Map.{stage_at}
use Rattle.exec_portions.specs.UnfinishedQuestion.{idle, Unfinished}
use Rattle.engine.specs.Replies.{Replies}
use Rattle.engine.specs.declared.Reply.{Reply}
use Rattle.engine.specs.declared.Portioned.{Portioned}

-- How many rows a question is offered: "each once while G is found and, unless 32 follows, once more while the answer is written"; raw: no condition looks into a collection, so repeats and order change no count
unfoldable pub rows_in_all : Accepted → List ℤ → ℕ
rows_in_all a lent =
    let n = plan_offers raw a.tables (plan_of a.form) in
    n + pick (leb (G a) (length lent)) n 0

-- ---- beginning
-- "One call begins, with all refusals to 28": number, length and, after a refusal, scratch are the checker's. After 0 "scratch holds
-- the unfinished question", whichever answer buffer is lent to its portions; no buffer has 2^62 words. Scratch words
-- from `least` on stay.
pub record BeginPost (least : ℕ) (d : Bytes) (l : Lent) (s s' : List ℕ) (r : Reply) : Type 0 where
  pub number : r.number ≡ (checked_with least d l s).number
  pub size : r.length ≡ (checked_with least d l s).size
  pub refused : (r.number ≡ 0 → ⊥) → s' ≡ (checked_with least d l s).scratch
  pub begins : r.number ≡ 0 → (a : Accepted) → examine d l ≡ got a → (lent : List ℤ) → length lent < number_limit → let q : Pending = record { asked = l; accepted = a; lent = lent } in Unfinished d q s' lent (begun (task d q))
  pub spares : r.number ≡ 0 → Spares least s s'

-- ---- a portion
-- "a portion of 0 or above 65,535"
unfoldable pub outside : ℕ → Bool
outside n = pick (eqb n 0) true (ltb 65535 n)

-- "47, a portion of 0 or above 65,535, before any other, changing nothing; 48, a portion where no question is unfinished (scratch 0),
-- after 47 and 31"; 0 where none of them is due. Of scratch only the stage's word is looked at: where it is 0 and another of the first
-- `least` is not, no call left that scratch.
unfoldable pub refusal : ℕ → ℕ → List ℕ → ℕ
refusal least n s = pick (outside n) 47 (pick (ltb (length s) least) 31 (pick (idle (get_or s stage_at 0)) 48 0))

-- whether it is finished, how many rows were offered, number and length
pub record Says (r : Portioned) (f k x n : ℕ) : Type 0 where
  pub end : r.finished ≡ f
  pub offered : r.offered ≡ k
  pub number : r.number ≡ x
  pub size : r.length ≡ n

-- "exactly a given number of rows .. and says unfinished"
pub record Unended (least : ℕ) (d : Bytes) (n : ℕ) (q : Pending) (R : Run) (s s' : List ℕ) (o' : List ℤ) (r : Portioned) : Type 0 where
  pub says : Says r 0 n 0 0
  pub unfinished : Unfinished d q s' o' (portion (task d q) n R)
  pub spares : Spares least s s'

-- "or all that remain, if no more, and says finished and how many"; it "ends with the words and refusal of a single call", and
-- "scratch .. is 0 again afterwards"
pub record Ended (least : ℕ) (d : Bytes) (q : Pending) (R : Run) (s s' : List ℕ) (o' : List ℤ) (r : Portioned) : Type 0 where
  pub end : r.finished ≡ 1
  pub offered : r.offered ≡ rows_due (task d q) R
  pub gives : Gives (answered least planned d q.asked s q.lent) r.number r.length o' s'

-- "If anything lent is changed in between, or scratch is neither 0 nor left by an earlier call, only safety and an end are promised."
-- So of other scratch nothing is said but 47, 31 and 48, and what holds of every reply; the call takes any words and ends. The calendars are those of the
-- question's beginning, which scratch holds: those lent now are not looked at.
pub record PortionPost (least : ℕ) (d : Bytes) (n : ℕ) (s : List ℕ) (o : List ℤ) (s' : List ℕ) (o' : List ℤ) (r : Portioned) : Type 0 where
  pub within : (r.offered ≤ n) × (r.length ≤ length o')
  pub refused : (refusal least n s ≡ 0 → ⊥) → Says r 0 0 (refusal least n s) 0 × ((s' ≡ s) × (o' ≡ o))
  pub unended : refusal least n s ≡ 0 → (q : Pending) (R : Run) → Unfinished d q s o R → n < rows_due (task d q) R → Unended least d n q R s s' o' r
  pub ended : refusal least n s ≡ 0 → (q : Pending) (R : Run) → Unfinished d q s o R → rows_due (task d q) R ≤ n → Ended least d q R s s' o' r

-- how its last portion ends
pub record EndedPost (s s' : List ℕ) (rows k n : ℕ) (r : Portioned) : Type 0 where
  pub end : r.finished ≡ 1
  pub offered : r.offered ≡ rows
  pub replies : Replies s s' k n (record { number = r.number; length = r.length })
