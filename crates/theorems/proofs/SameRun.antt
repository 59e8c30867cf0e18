-- A question runs alike over data that are read as the same tables, whatever each call asks for in scratch words: begin, a portion, any portions one behind
-- another and a round say the same and leave the same question. One data and two numbers of words are E13 (`ScratchLimit`), two data and one number
-- E9 and E10 (`SameTables`). Scratch is not compared word by word: there a table's description holds its place in the data.
use native.Mathlib.Omega.{arith}
use mathlib.Core.Path.{◌≡◌, refl, sym, ap, subst, ◌∙◌}
use mathlib.Core.Bool.{Bool, true, true≢false}
use mathlib.Core.Logic.{◌⊎◌, ⊎_elim}
use mathlib.Core.List.{List, [], ◌∷◌, map}
use Prim.Native.Nat.{ℕ, ◌≤◌, ◌<◌}
use borrow.Author.Tests.{leb-true, leb-false, ltb-true, ltb-false}
use lib.Dec.{leb, ltb}
use lib.ListN.{length, get_or}
use lib.IntN.{ℤ, pos}
use Rattle.spec_calculus.specs.Lists.{pick}
use Rattle.spec_calculus.specs.Value.{Tables}
use Rattle.spec_calculus.proofs.Lists.{All}
use Rattle.spec_encoding.specs.Record.{Bytes, Result, refused, got, and_then}
use Rattle.spec_encoding.specs.Data.{read_data}
use Rattle.spec_outcome.specs.Acceptance.{Lent, Accepted}
use Rattle.spec_outcome.specs.Outcome.{G, cleared, with_scratch, written, answered, planned, checked_with}
use Rattle.spec_outcome.specs.ScratchLimit.{SameReply}
use Rattle.spec_outcome.proofs.ScratchLimit.{answered-alike}
use Rattle.spec_outcome.proofs.SameTables.{examined-same}
use Rattle.spec_outcome.specs.Rota.{rota_fits}
use Rattle.plan_machine.specs.Machine.{State}
use Rattle.form_env.specs.Environment.{tables_in}
use Rattle.base_scratch.specs.Map.{stage_at}
use Rattle.base_signed.proofs.SignedWords.{by-test}
use Rattle.base_signed.specs.Limit.{number_limit}
use Rattle.exec_portions.specs.Run.{Run, counting, Task, begun, portion, rows_due}
use Rattle.exec_portions.specs.RunInvariant.{Pending, task}
use Rattle.exec_portions.specs.UnfinishedQuestion.{idle, Unfinished}
use Rattle.exec_portions.proofs.PortionStep.{unfinished-stage, unwritten, unfinished-buffer}
use Rattle.engine.specs.Portions.{BeginPost, outside, refusal, Says, Ended, PortionPost}
use Rattle.engine.specs.Rota.{Seat, Idle, SeatPost, RoundPost}
use Rattle.engine.specs.declared.Reply.{Reply}
use Rattle.engine.specs.declared.Portioned.{Portioned}
use Rattle.engine.specs.declared.Round.{Round}
use Rattle.engine.proofs.PortionCalls.{outside-refused, no-question, no-refusal}
use Rattle.theorems.proofs.Portions.{Call, Portions, never, cleared-stage, cleared-long, outcome-scratch, none_left, accepted-begun, long-begun}

-- two portions say the same
pub record SameSaid (r r' : Portioned) : Type 0 where
  pub ends : r.finished ≡ r'.finished
  pub offered : r.offered ≡ r'.offered
  pub numbers : r.number ≡ r'.number
  pub sizes : r.length ≡ r'.length

said-by : {r r' : Portioned} {f k x n x' : ℕ} → Says r f k x n → Says r' f k x' n → x ≡ x' → SameSaid r r'
said-by S S' e = record {
  ends = S.end ∙ sym S'.end;
  offered = S.offered ∙ sym S'.offered;
  numbers = S.number ∙ e ∙ sym S'.number;
  sizes = S.size ∙ sym S'.size;
}

-- a portion of so many rows over either data, and what each of the two said
pub record Twice : Type 0 where
  pub rows : ℕ
  pub one : Portioned
  pub other : Portioned

abbrev pub at_one : Twice → Call
at_one x = record { rows = x.rows; said = x.one }

abbrev pub at_other : Twice → Call
at_other x = record { rows = x.rows; said = x.other }

-- one of them finished the question
abbrev pub Finished : List Twice → Type 0
Finished [] = ⊥
Finished (x ∷ xs) = (x.one.finished ≡ 1) ⊎ Finished xs

module _ (d e : Bytes) where
  -- two scratches with their answer buffers hold the same question so far, as unfinished of the same run, or neither holds one
  pub data SameUnfinished (s : List ℕ) (o : List ℤ) (t : List ℕ) (p : List ℤ) : Type 0 where
    unfinished : (q : Pending) (R : Run) → Unfinished d q s o R → Unfinished e q t p R → SameUnfinished s o t p
    none : idle (get_or s stage_at 0) ≡ true → idle (get_or t stage_at 0) ≡ true → o ≡ p → SameUnfinished s o t p

  -- Their buffers while it is unfinished: of one length, with the same words behind the first G; while G is found the same.
  module _ {q : Pending} {R : Run} {s t : List ℕ} {o p : List ℤ} (U : Unfinished d q s o R) (U' : Unfinished e q t p R) where
    pub unfinished-long : length o ≡ length p
    unfinished-long = (unfinished-buffer U).0 ∙ sym (unfinished-buffer U').0

    pub unfinished-behind : (j : ℕ) → G q.accepted ≤ j → get_or o j (pos 0) ≡ get_or p j (pos 0)
    unfinished-behind j h = (unfinished-buffer U).1 j h ∙ sym ((unfinished-buffer U').1 j h)

    pub unfinished-unwritten : (S : State) → R ≡ counting S → o ≡ p
    unfinished-unwritten S f = unwritten U S f ∙ sym (unwritten U' S f)

-- ---- what a call leaves, of calls that ask for m scratch words over the data d, and for n over the data e
module _ (m n : ℕ) (d e : Bytes) where
  -- the same question, or none, in scratch that is long enough
  pub record Served (s : List ℕ) (o : List ℤ) (t : List ℕ) (p : List ℤ) : Type 0 where
    pub one : m ≤ length s
    pub other : n ≤ length t
    pub same : SameUnfinished d e s o t p

  -- a portion: it says the same, a finished question has the same words, and what comes behind it is served alike
  pub record PortionServed (s' : List ℕ) (o' : List ℤ) (t' : List ℕ) (p' : List ℤ) (r r' : Portioned) : Type 0 where
    pub said : SameSaid r r'
    pub words : r.finished ≡ 1 → o' ≡ p'
    pub over : r.finished ≡ 1 → idle (get_or s' stage_at 0) ≡ true
    pub served : Served s' o' t' p'

  -- any portions, one behind another
  pub record PortionsServed (xs : List Twice) (s' : List ℕ) (o' : List ℤ) (t' : List ℕ) (p' : List ℤ) : Type 0 where
    pub said : All (λ x. SameSaid x.one x.other) xs
    pub words : Finished xs → o' ≡ p'
    pub served : Served s' o' t' p'

  -- begin: the same number and length, and where that is 0 the same question for whatever buffer is lent
  pub record Begun (s t : List ℕ) (r r' : Reply) : Type 0 where
    pub numbers : r.number ≡ r'.number
    pub sizes : r.length ≡ r'.length
    pub served : r.number ≡ 0 → (lent : List ℤ) → length lent < number_limit → Served s lent t lent

  -- a round: of each seat of the rota the same is told, and each is served alike afterwards
  abbrev pub SeatServed : List ℕ → ℕ → Seat → Seat → Type 0
  SeatServed qs i x x' = i < length qs → Served x.scratch x.answer x'.scratch x'.answer

  pub record SeatTold (qs : List ℕ) (i : ℕ) (y y' : Seat) (r r' : Portioned) : Type 0 where
    pub said : SameSaid r r'
    pub words : r.finished ≡ 1 → y.answer ≡ y'.answer
    pub served : SeatServed qs i y y'

  pub record RoundServed (qs : List ℕ) (y₀ y₁ y₂ y₃ y₀' y₁' y₂' y₃' : Seat) (r r' : Round) : Type 0 where
    pub numbers : r.number ≡ r'.number
    pub first : SeatTold qs 0 y₀ y₀' r.first r'.first
    pub second : SeatTold qs 1 y₁ y₁' r.second r'.second
    pub third : SeatTold qs 2 y₂ y₂' r.third r'.third
    pub fourth : SeatTold qs 3 y₃ y₃' r.fourth r'.fourth

  -- ---- what is said of the calls
  pub record SameRun : Type 0 where
    -- A portion of the same question says the same, and leaves the same question, from either;
    pub portion : {k : ℕ} {s t s' t' : List ℕ} {o p o' p' : List ℤ} {r r' : Portioned} → PortionPost m d k s o s' o' r → PortionPost n e k t p t' p' r'
        → Served s o t p → PortionServed s' o' t' p' r r'
    -- so do any portions, one behind another,
    pub portions : (xs : List Twice) {s t s' t' : List ℕ} {o p o' p' : List ℤ} → Served s o t p
        → Portions m d (map at_one xs) s o s' o' → Portions n e (map at_other xs) t p t' p' → PortionsServed xs s' o' t' p'
    -- and a round.
    pub round : {qs : List ℕ} {x₀ x₁ x₂ x₃ y₀ y₁ y₂ y₃ x₀' x₁' x₂' x₃' y₀' y₁' y₂' y₃' : Seat} {r r' : Round}
        → RoundPost m d qs x₀ x₁ x₂ x₃ y₀ y₁ y₂ y₃ r → RoundPost n e qs x₀' x₁' x₂' x₃' y₀' y₁' y₂' y₃' r'
        → SeatServed qs 0 x₀ x₀' → SeatServed qs 1 x₁ x₁' → SeatServed qs 2 x₂ x₂' → SeatServed qs 3 x₃ x₃' → RoundServed qs y₀ y₁ y₂ y₃ y₀' y₁' y₂' y₃' r r'

  served-at : {s s' t t' : List ℕ} {o o' p p' : List ℤ} → s' ≡ s → o' ≡ o → t' ≡ t → p' ≡ p → Served s o t p → Served s' o' t' p'
  served-at {s} {s'} {t} {t'} {o} {o'} {p} {p'} a b f g W =
      subst (λ (y : List ℤ). Served s' o' t' y) (sym g) (subst (λ (y : List ℕ). Served s' o' y p) (sym f) (subst (λ (y : List ℤ). Served s' y t p) (sym b) (subst (λ (y : List ℕ). Served y o t p) (sym a) W)))

  module _ (h : read_data d ≡ read_data e) where
    -- the run of a question sees no more of the data than its tables
    same-task : (q : Pending) → task d q ≡ task e q
    unfolding tables_in
    same-task q = ap (λ (x : Result Tables). record { tables = elim x [ refused k ↦ [] | got T ↦ T ]; program = (task d q).program; fits = (task d q).fits }) h

    answers-alike : (l : Lent) (s t : List ℕ) (b : List ℤ) → m ≤ length s → n ≤ length t → SameReply (answered m planned d l s b) (answered n planned e l t b)
    unfolding answered
    answers-alike l s t b f g =
        subst (SameReply (answered m planned d l s b)) (ap (λ (x : Result Accepted). with_scratch n t b (and_then x (written planned b))) (examined-same d e l h)) (answered-alike d l s t f g planned b)

    -- ---- begin
    pub begun-alike : (l : Lent) {s₀ t₀ s t : List ℕ} {r r' : Reply} → SameReply (checked_with m d l s₀) (checked_with n e l t₀) → BeginPost m d l s₀ s r → BeginPost n e l t₀ t r' → Begun s t r r'
    begun-alike l {s₀} {t₀} {s} {t} {r} {r'} A B B' = record {
      numbers = same;
      sizes = B.size ∙ A.sizes ∙ sym B'.size;
      served = λ z lent b.
          let z' = sym same ∙ z in
          let a = accepted-begun m d l s₀ (sym B.number ∙ z) in
          let q : Pending = record { asked = l; accepted = a.0; lent = lent } in
          record {
            one = omega (arith, long-begun m d l s₀ (sym B.number ∙ z), (B.spares z).long);
            other = omega (arith, long-begun n e l t₀ (sym B'.number ∙ z'), (B'.spares z').long);
            same = unfinished q (begun (task d q)) (B.begins z a.0 a.1 lent b)
                (subst (λ (T : Task). Unfinished e q t lent (begun T)) (sym (same-task q)) (B'.begins z' a.0 (sym (examined-same d e l h) ∙ a.1) lent b));
          };
    }
      where
        same : r.number ≡ r'.number
        same = B.number ∙ A.numbers ∙ sym B'.number

    module _ (i : stage_at < m) (j : stage_at < n) where
      -- ---- a portion
      module _ {k : ℕ} {s t s' t' : List ℕ} {o p o' p' : List ℤ} {r r' : Portioned} (F : PortionPost m d k s o s' o' r) (F' : PortionPost n e k t p t' p' r') (W : Served s o t p) where
        -- both are refused by one number
        refused-alike : {x : ℕ} → refusal m k s ≡ x → refusal n k t ≡ x → (x ≡ 0 → ⊥) → PortionServed s' o' t' p' r r'
        refused-alike f f' g =
            let N = F.refused (λ z. g (sym f ∙ z)) in
            let N' = F'.refused (λ z. g (sym f' ∙ z)) in
            record { said = said-by N.0 N'.0 (f ∙ sym f'); words = λ z. absurd (omega (arith, z, N.0.end)); over = λ z. absurd (omega (arith, z, N.0.end)); served = served-at N.1.0 N.1.1 N'.1.0 N'.1.1 W }

        -- both end the question
        ended-alike : (q : Pending) (R : Run) → Ended m d q R s s' o' r → Ended n e q R t t' p' r' → PortionServed s' o' t' p' r r'
        ended-alike q R E E' =
            let A = answers-alike q.asked s t q.lent W.one W.other in
            let z : s' ≡ cleared m s = E.gives.scratch ∙ outcome-scratch d q.asked s q.lent W.one in
            let z' : t' ≡ cleared n t = E'.gives.scratch ∙ outcome-scratch e q.asked t q.lent W.other in
            let f : o' ≡ p' = E.gives.buffer ∙ A.buffers ∙ sym E'.gives.buffer in
            let g : idle (get_or s' stage_at 0) ≡ true = ap (λ (y : List ℕ). idle (get_or y stage_at 0)) z ∙ cleared-stage m s i in
            record {
              said = record {
                ends = E.end ∙ sym E'.end;
                offered = E.offered ∙ ap (λ (T : Task). rows_due T R) (same-task q) ∙ sym E'.offered;
                numbers = E.gives.number ∙ A.numbers ∙ sym E'.gives.number;
                sizes = E.gives.size ∙ A.sizes ∙ sym E'.gives.size;
              };
              words = λ x. f;
              over = λ x. g;
              served = record {
                one = subst (λ (y : List ℕ). m ≤ length y) (sym z) (cleared-long m s);
                other = subst (λ (y : List ℕ). n ≤ length y) (sym z') (cleared-long n t);
                same = none g (ap (λ (y : List ℕ). idle (get_or y stage_at 0)) z' ∙ cleared-stage n t j) f;
              };
            }

        portion-alike : PortionServed s' o' t' p' r r'
        unfolding pick
        portion-alike = go W.same
          where
            go : SameUnfinished d e s o t p → PortionServed s' o' t' p' r r'
            go (none f g b) = refused-alike (no-question m k s W.one f) (no-question n k t W.other g) (never (outside k) refl)
            go (unfinished q R U U') = by-test (outside k)
                (λ x. refused-alike (outside-refused m k s x) (outside-refused n k t x) (λ z. omega (arith, z)))
                (λ x. let z : refusal m k s ≡ 0 = no-refusal m k s W.one (unfinished-stage U) ∙ ap (λ (b : Bool). pick b 47 0) x in
                let z' : refusal n k t ≡ 0 = no-refusal n k t W.other (unfinished-stage U') ∙ ap (λ (b : Bool). pick b 47 0) x in
                let due : rows_due (task d q) R ≡ rows_due (task e q) R = ap (λ (T : Task). rows_due T R) (same-task q) in
                by-test (leb (rows_due (task d q) R) k)
                (λ l. let f = leb-true (rows_due (task d q) R) k l in ended-alike q R (F.ended z q R U f) (F'.ended z' q R U' (omega (arith, due, f))))
                (λ l. let f = leb-false (rows_due (task d q) R) k l in
                let Y = F.unended z q R U f in
                let Y' = F'.unended z' q R U' (omega (arith, due, f)) in
                record {
                  said = said-by Y.says Y'.says refl;
                  words = λ f. absurd (omega (arith, f, Y.says.end));
                  over = λ f. absurd (omega (arith, f, Y.says.end));
                  served = record {
                    one = omega (arith, W.one, Y.spares.long);
                    other = omega (arith, W.other, Y'.spares.long);
                    same = unfinished q (portion (task d q) k R) Y.unfinished (subst (λ (T : Task). Unfinished e q t' p' (portion T k R)) (sym (same-task q)) Y'.unfinished);
                  };
                }))

      -- ---- any portions
      -- behind the last no portion changes a buffer
      words-stay : (xs : List Twice) {s t : List ℕ} (s' t' : List ℕ) {o p o' p' : List ℤ} → Served s o t p → idle (get_or s stage_at 0) ≡ true
          → Portions m d (map at_one xs) s o s' o' → Portions n e (map at_other xs) t p t' p' → o' ≡ p'
      words-stay xs {s} {t} s' t' {o} {p} {o'} {p'} W z P P' = go W.same
        where
          go : SameUnfinished d e s o t p → o' ≡ p'
          go (unfinished q R U U') = absurd (true≢false (sym z ∙ unfinished-stage U))
          go (none f g b) = (none_left m d (map at_one xs) s o s' o' W.one f P).1.1 ∙ b ∙ sym (none_left n e (map at_other xs) t p t' p' W.other g P').1.1

      portions-alike : (xs : List Twice) {s t s' t' : List ℕ} {o p o' p' : List ℤ} → Served s o t p
          → Portions m d (map at_one xs) s o s' o' → Portions n e (map at_other xs) t p t' p' → PortionsServed xs s' o' t' p'
      portions-alike [] W (a, b) (a', b') = record { said = tt; words = λ z. absurd z; served = served-at a b a' b' W }
      portions-alike (x ∷ xs) {s' = s'} {t'} W (u, (a, (F, P))) (u', (a', (F', P'))) =
          let S = portion-alike F F' W in
          let rest = portions-alike xs S.served P P' in
          record { said = (S.said, rest.said); words = ⊎_elim (λ z. words-stay xs s' t' S.served (S.over z) P P') rest.words; served = rest.served }

      -- ---- a round
      module _ {qs : List ℕ} {v : ℕ} {x x' y y' : Seat} {r r' : Portioned} (W : SeatServed qs v x x') where
        seat-alike : SeatPost m d qs v x y r → SeatPost n e qs v x' y' r' → SeatTold qs v y y' r r'
        seat-alike S S' = by-test (ltb v (length qs))
            (λ f. let l = ltb-true v (length qs) f in let P = portion-alike (S.visited l) (S'.visited l) (W l) in record { said = P.said; words = P.words; served = λ k. P.served })
            (λ f. let l = ltb-false v (length qs) f in
            record { said = said-by (S.beyond l).says (S'.beyond l).says refl; words = λ z. absurd (omega (arith, z, (S.beyond l).says.end)); served = λ k. absurd (omega (arith, l, k)) })

        idle-alike : Idle x y r → Idle x' y' r' → SeatTold qs v y y' r r'
        idle-alike I I' = record {
          said = said-by I.says I'.says refl;
          words = λ z. absurd (omega (arith, z, I.says.end));
          served = subst (λ (z : Seat). SeatServed qs v z y') (sym I.same) (subst (SeatServed qs v x) (sym I'.same) W);
        }

      round-alike : {qs : List ℕ} {x₀ x₁ x₂ x₃ y₀ y₁ y₂ y₃ x₀' x₁' x₂' x₃' y₀' y₁' y₂' y₃' : Seat} {r r' : Round}
          → RoundPost m d qs x₀ x₁ x₂ x₃ y₀ y₁ y₂ y₃ r → RoundPost n e qs x₀' x₁' x₂' x₃' y₀' y₁' y₂' y₃' r'
          → SeatServed qs 0 x₀ x₀' → SeatServed qs 1 x₁ x₁' → SeatServed qs 2 x₂ x₂' → SeatServed qs 3 x₃ x₃' → RoundServed qs y₀ y₁ y₂ y₃ y₀' y₁' y₂' y₃' r r'
      round-alike {qs = qs} A A' W₀ W₁ W₂ W₃ = by-test (rota_fits qs)
          (λ f. let S = A.served f in
          let S' = A'.served f in
          record {
            numbers = S.0 ∙ sym S'.0;
            first = seat-alike W₀ S.1.0 S'.1.0;
            second = seat-alike W₁ S.1.1.0 S'.1.1.0;
            third = seat-alike W₂ S.1.1.1.0 S'.1.1.1.0;
            fourth = seat-alike W₃ S.1.1.1.1 S'.1.1.1.1;
          })
          (λ f. let I = A.refused f in
          let I' = A'.refused f in
          record {
            numbers = I.0 ∙ sym I'.0;
            first = idle-alike W₀ I.1.0 I'.1.0;
            second = idle-alike W₁ I.1.1.0 I'.1.1.0;
            third = idle-alike W₂ I.1.1.1.0 I'.1.1.1.0;
            fourth = idle-alike W₃ I.1.1.1.1 I'.1.1.1.1;
          })

      pub run-alike : SameRun
      run-alike = record { portion = portion-alike; portions = portions-alike; round = round-alike }
