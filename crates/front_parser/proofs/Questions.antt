-- Laws of comprehensions and of the question. One for each way out.
use mathlib.Core.Path.{◌≡◌, refl, sym, ap, subst, ◌∙◌}
use mathlib.Core.List.{List, [], ◌∷◌}
use mathlib.Core.Bool.{Bool, true, false}
use Prim.Native.Nat.{ℕ, zero, suc, ◌+◌, ◌-◌, ◌≤◌, ◌<◌}
use native.Mathlib.Omega.{arith}
use native.Mathlib.Nat.{add-zero, add_assoc}
use lib.ListN.{length, get_or, drop, length-drop, drop_of_length-le, get_or-eq_default}
use lib.Dec.{eqb}
use Rattle.std.proofs.Common.{Ok, Err}
use borrow.Author.Tests.{eq-eqb, ne_eqb, le-leb, lt-leb}
use Rattle.spec_calculus.specs.Syntax.{Monoid, Quals, qnil, gen, bind, cond, Question, as_term}
use Rattle.spec_encoding.specs.Record.{Bytes, Result, refused, got, and_then, require, byte, length_of, kind_of, behind, is_whole}
use Rattle.spec_encoding.specs.Reader as E
use Rattle.spec_encoding.specs.Reader.{Part, term, generates, binds, holds, Reader, yields, no_more, filled, in_front, on_part, monoids, comprehends, at_record, read_part, read_question}
use Rattle.front_words.specs.NodeWord.{arg_of}
use Rattle.base_refusals.specs.declared.Refusal.{Refusal}
use Rattle.base_refusals.specs.declared.Refusal.TheVariants.{BrokenRecord, QuestionTooLong}
use Rattle.front_words.specs.NodeTree.{monoid_at, tree_at}
use Rattle.front_words.specs.LaidTree.{nodes, nodes_q, Laid, LaidQ}
use Rattle.front_words.proofs.NodeWords.{some-nodes, node-same, laid-tree}
use Rattle.front_parser.specs.ReaderScratch.{NodesKept, NodeRoom, FinishPre, FinishPost}
use Rattle.front_parser.specs.RecordFront.{Outcome, RecordFront}
use Rattle.front_parser.specs.ReaderContracts.{behind_of, qualifies, nodes_p, LaidP, rounds, FrontFound, TermsPost, ItemBy, QualifierPost, PartsFound, PartsBy, PartsPost, ComprehensionFound, ComprehensionBy, ComprehensionPost, ReadQuestionPost}
use Rattle.front_parser.specs.declared.ParseState.{ParseState}
use Rattle.front_parser.specs.declared.Item.{Item}
use Rattle.front_parser.proofs.LeafRecords.{IsByte, differ, kept_refl, kept_trans, from_at}
use Rattle.front_parser.proofs.Records.{after, after_is, after-after, length-after, inner, inner-is, laid_kept, nodes-kept, quals-kept}
use Rattle.front_parser.proofs.TermSequences.{TreeFound, arg-at, count-nodes, node_at_lem, room-behind, terms-found, tree-found}

-- ---- qualifiers and a head
zero-part : (levels : ℕ) (q : Bool) (l : Bytes) (n : ℕ) → n ≡ 0 → read_part levels q l n ≡ no_more l
unfolding read_part at_record
zero-part zero q l n e = refl
zero-part (suc v) q l zero e = refl
zero-part (suc v) q l (suc n) e = absurd (omega arith)

same-no-more : {A B : Type 0} (l : Bytes) {x : ℕ} → ◌≡◌ {A = Result A} (no_more l) (refused x) → ◌≡◌ {A = Result B} (no_more l) (refused x)
unfolding no_more
same-no-more [] e = ap refused (cc)
same-no-more (b ∷ l) e = ap refused (cc)

refused-rounds : (v : ℕ) (l : Bytes) (n : ℕ) {x : ℕ} → read_part v true l n ≡ refused x → (m : Monoid) (k : ℕ) → n ≤ k → E.parts (read_part v) m k l n ≡ refused x
unfolding E.parts and_then
refused-rounds v l n h m zero p = same-no-more l (sym (zero-part v true l n (omega arith)) ∙ h)
refused-rounds v l n h m (suc k) p = rw h

-- at least one round goes on
got-rounds : (v : ℕ) (l : Bytes) (n : ℕ) {t : Part} {rest : Bytes} {left : ℕ} {x : Monoid → E.Read Question} → read_part v true l n ≡ yields t rest left → 1 ≤ n →
    ((m : Monoid) (k : ℕ) → n ≤ suc k → on_part t m rest left (λ r j. E.parts (read_part v) m k r j) ≡ x m) → (m : Monoid) (k : ℕ) → n ≤ k → E.parts (read_part v) m k l n ≡ x m
unfolding E.parts and_then
got-rounds v l n h p f m zero q = absurd (omega arith)
got-rounds v l n h p f m (suc k) q = rw h (f m k q)

in_front_of : Part → Quals → Quals
in_front_of (term t) qs = qs
in_front_of (generates x t) qs = gen x t qs
in_front_of (binds x t) qs = bind x t qs
in_front_of (holds t) qs = cond t qs

on-qualifier : (t : Part) → qualifies t ≡ true → (m : Monoid) (l : Bytes) (n : ℕ) (more : Bytes → ℕ → E.Read Question) → on_part t m l n more ≡ in_front (in_front_of t) (more l n)
unfolding on_part in_front_of
on-qualifier (term t) h m l n more = absurd (differ (sym h))
on-qualifier (generates x t) h m l n more = refl
on-qualifier (binds x t) h m l n more = refl
on-qualifier (holds t) h m l n more = refl

nodes-front : (t : Part) → qualifies t ≡ true → (qs : Quals) → nodes_q (in_front_of t qs) ≡ nodes_p t + nodes_q qs
unfolding nodes_q in_front_of
nodes-front (term t) h qs = absurd (differ (sym h))
nodes-front (generates x t) h qs = refl
nodes-front (binds x t) h qs = refl
nodes-front (holds t) h qs = refl

laid-front : (t : Part) → qualifies t ≡ true → (s : List ℕ) (d a : ℕ) (qs : Quals) → LaidP s d a t → LaidQ s d (a + nodes_p t) qs → LaidQ s d a (in_front_of t qs)
unfolding in_front_of
laid-front (term t) h s d a qs L M = absurd (differ (sym h))
laid-front (generates x t) h s d a qs L M = (L.0, L.1, L.2, subst (λ (i : ℕ). LaidQ s d i qs) (sym (add_assoc a (nodes t) 1)) M)
laid-front (binds x t) h s d a qs L M = (L.0, L.1, L.2, subst (λ (i : ℕ). LaidQ s d i qs) (sym (add_assoc a (nodes t) 1)) M)
laid-front (holds t) h s d a qs L M = (L.0, L.1, subst (λ (i : ℕ). LaidQ s d i qs) (sym (add_assoc a (nodes t) 1)) M)

part-kept : (t : Part) {s s' : List ℕ} {b : ℕ} (d a : ℕ) → NodesKept b s s' → a + nodes_p t ≤ b → LaidP s d a t → LaidP s' d a t
part-kept (term t) d a K h L = laid_kept t d a K h L
part-kept (generates x t) d a K h L = let e = nodes-kept K (a + nodes t) (omega arith) in (laid_kept t d a K (omega arith) L.0, node-same e L.1, ap arg_of e ∙ L.2)
part-kept (binds x t) d a K h L = let e = nodes-kept K (a + nodes t) (omega arith) in (laid_kept t d a K (omega arith) L.0, node-same e L.1, ap arg_of e ∙ L.2)
part-kept (holds t) d a K h L = let e = nodes-kept K (a + nodes t) (omega arith) in (laid_kept t d a K (omega arith) L.0, node-same e L.1)

some-part : (t : Part) → 1 ≤ nodes_p t
some-part (term t) = some-nodes t
some-part (generates x t) = omega arith
some-part (binds x t) = omega arith
some-part (holds t) = omega arith

filled-over : {A : Type 0} (a : A) (l : Bytes) (n : ℕ) → (length l ≡ 0 → ⊥) → filled a l n ≡ refused 22
unfolding filled
filled-over a [] n h = absurd (h refl)
filled-over a (b ∷ l) n h = refl

module _ {l : Bytes} {s s' : List ℕ} {p : ParseState} {i : Outcome Item} (I : QualifierPost l s p s' i) where
  parts-refused : {x : Refusal} → i ≡ Err x → PartsPost l s p s' (Err x)
  parts-refused e = record { is = refused-rounds p.levels l p.left (subst (ItemBy (read_part p.levels true l p.left) l s' p) e I.is); kept = I.kept }

  qualifier-found : {used left j : ℕ} → i ≡ Ok (Item.Qualifier used left j) → FrontFound true (read_part p.levels true l p.left) l s' p used left j
  qualifier-found e = subst (ItemBy (read_part p.levels true l p.left) l s' p) e I.is

  head-found : {used left j : ℕ} → i ≡ Ok (Item.Head used left j) → FrontFound false (read_part p.levels true l p.left) l s' p used left j
  head-found e = subst (ItemBy (read_part p.levels true l p.left) l s' p) e I.is

  module _ {used left j : ℕ} (e : i ≡ Ok (Item.Qualifier used left j)) where
    next-rounds : {x : Monoid → E.Read Question} → rounds (behind_of p left j) (after l used) x → rounds p l (λ m. in_front (in_front_of (qualifier-found e).found.part) (x m))
    next-rounds {x} h =
        let F = (qualifier-found e).found in
        got-rounds p.levels l p.left F.is (omega (arith, F.spent, some-part F.part))
        (λ m k q. on-qualifier F.part F.sort m (drop used l) left (λ r j. E.parts (read_part p.levels) m k r j) ∙
        ap (in_front (in_front_of F.part)) (ap (λ (r : Bytes). E.parts (read_part p.levels) m k r left) (sym (after_is l used)) ∙ h m k (omega (arith, F.spent, some-part F.part))))

    next-by : {s'' : List ℕ} (r : Outcome (ℕ × ℕ)) → NodesKept j s' s'' → PartsBy (after l used) s'' (behind_of p left j) r → PartsBy l s'' p r
    unfolding in_front and_then
    next-by (Err x) K P = next-rounds P
    next-by {s''} (Ok (rest, end)) K P =
        let F = (qualifier-found e).found in
        let n = nodes-front F.part F.sort P.quals in
        record {
          quals = in_front_of F.part P.quals;
          head = P.head;
          is = next-rounds P.is;
          laid = laid-front F.part F.sort s'' p.depth p.node P.quals (part-kept F.part p.depth p.node K (omega (arith, F.end)) F.laid)
              (subst (λ (a : ℕ). LaidQ s'' p.depth a P.quals) F.end P.laid);
          laid_head = subst (λ (a : ℕ). Laid s'' p.depth a P.head) (omega (arith, F.end)) P.laid_head;
          end = omega (arith, P.end, F.end);
          spent = omega (arith, P.spent, F.spent);
        }

    parts_next : {s'' : List ℕ} {r : Outcome (ℕ × ℕ)} → PartsPost (after l used) s' (behind_of p left j) s'' r → PartsPost l s p s'' r
    parts_next {r = r} P = record { is = next-by r P.kept P.is; kept = kept_trans (omega (arith, (qualifier-found e).found.end)) I.kept P.kept }

  module _ {used left j : ℕ} (e : i ≡ Ok (Item.Head used left j)) where
    head-tree : TreeFound (read_part p.levels true l p.left) (drop used l) s' p.depth p.node p.left left j
    head-tree = tree-found (head-found e).found

    parts-over : used < length l → PartsPost l s p s' (Err BrokenRecord)
    unfolding on_part
    parts-over h =
        let F = head-tree in
        record {
          is = got-rounds p.levels l p.left F.is (omega (arith, F.spent, some-nodes F.tree)) (λ m k q. filled-over _ (drop used l) left (simp length-drop (omega arith)));
          kept = I.kept;
        }

    parts-head : length l ≤ used → PartsPost l s p s' (Ok (left, j))
    unfolding on_part filled nodes_q
    parts-head h =
        let F = head-tree in
        record {
          is = record {
            quals = qnil;
            head = F.tree;
            is = got-rounds p.levels l p.left F.is (omega (arith, F.spent, some-nodes F.tree))
                (λ m k q. ap (λ (r : Bytes). filled (record { monoid = m; quals = qnil; head = F.tree }) r left) (drop_of_length-le l {i = used} h));
            laid = tt;
            laid_head = subst (λ (a : ℕ). Laid s' p.depth a F.tree) (sym (add-zero p.node)) F.laid;
            end = omega (arith, F.end);
            spent = omega (arith, F.spent);
          };
          kept = I.kept;
        }

-- a bytes on, behind qualifiers, the reader stands as q says: what is read from there on is what is read in all
pub record PartsUpto (l : Bytes) (s₀ : List ℕ) (p : ParseState) (s : List ℕ) (a : ℕ) (q : ParseState) : Type 0 where
  pub within : a ≤ length l
  pub long : length s ≡ length s₀
  pub room : NodeRoom 0 s q
  pub back : (s' : List ℕ) (r : Outcome (ℕ × ℕ)) → PartsPost (after l a) s q s' r → PartsPost l s₀ p s' r

pub parts_first : {l : Bytes} {s : List ℕ} {p : ParseState} → NodeRoom 0 s p → PartsUpto l s p s 0 p
parts_first {l} {s} {p} M = record { within = omega arith; long = refl; room = M; back = λ s' r P. subst (λ (b : Bytes). PartsPost b s p s' r) (after_is l 0) P }

module _ {l : Bytes} {s₀ s s' : List ℕ} {p q : ParseState} {a : ℕ} {i : Outcome Item} (U : PartsUpto l s₀ p s a q) (Q : QualifierPost (after l a) s q s' i) where
  pub parts-last-refused : {x : Refusal} → i ≡ Err x → PartsPost l s₀ p s' (Err x)
  parts-last-refused e = U.back s' _ (parts-refused Q e)

  module _ {used left j : ℕ} (e : i ≡ Ok (Item.Qualifier used left j)) where
    pub front-qualifier : FrontFound true (read_part q.levels true (after l a) q.left) (after l a) s' q used left j
    front-qualifier = qualifier-found Q e

    pub parts_within : a + used ≤ length l
    parts_within = omega (arith, length-after l a, front-qualifier.within, U.within)

    pub parts_again : {q' : ParseState} → q' ≡ behind_of q left j → PartsUpto l s₀ p s' (a + used) q'
    parts_again h = subst (PartsUpto l s₀ p s' (a + used)) (sym h) (record {
      within = parts_within;
      long = Q.kept.long ∙ U.long;
      room = room-behind U.room Q.kept front-qualifier;
      back = λ s'' r P. U.back s'' r (parts_next Q e (subst (λ (b : Bytes). PartsPost b s' (behind_of q left j) s'' r) (sym (after-after l a used)) P));
    })

  module _ {used left j : ℕ} (e : i ≡ Ok (Item.Head used left j)) where
    pub parts-last-over : used < length l - a → PartsPost l s₀ p s' (Err BrokenRecord)
    parts-last-over h = U.back s' _ (parts-over Q e (omega (arith, length-after l a)))

    pub parts_last : length l - a ≤ used → PartsPost l s₀ p s' (Ok (left, j))
    parts_last h = U.back s' _ (parts-head Q e (omega (arith, length-after l a)))

-- ---- the content of kind 14
abbrev MonoidAt : ℕ → Type 0
MonoidAt b = get_or monoids b (refused 22) ≡ got (monoid_at b)

monoid-is : (b : ℕ) → (b ≡ 0 → ⊥) → b ≤ 8 → MonoidAt b
monoid-is b h l = from_at MonoidAt 1 8 (refl, (refl, (refl, (refl, (refl, (refl, (refl, (refl, tt)))))))) b (omega arith) (omega arith)

module _ (R : Reader) (c : Bytes) (n : ℕ) where
  no-monoid : length c ≡ 0 → comprehends R c n ≡ refused 22
  unfolding comprehends
  no-monoid h = go c h
    where
      go : (c : Bytes) → length c ≡ 0 → comprehends R c n ≡ refused 22
      go [] h = refl
      go (b ∷ l) h = absurd (omega arith)

  with-monoid : (length c ≡ 0 → ⊥) → comprehends R c n ≡ and_then (get_or monoids (byte c 0) (refused 22)) (λ m. E.parts R m n (drop 1 c) n)
  unfolding comprehends
  with-monoid h = go c h
    where
      go : (c : Bytes) → (length c ≡ 0 → ⊥) → comprehends R c n ≡ and_then (get_or monoids (byte c 0) (refused 22)) (λ m. E.parts R m n (drop 1 c) n)
      go [] h = absurd (h refl)
      go (b ∷ l) h = refl

pub comprehension-none : {c : Bytes} {s : List ℕ} {p : ParseState} → length c ≡ 0 → ComprehensionPost c s p s (Err BrokenRecord)
comprehension-none {c} {p = p} h = record { is = no-monoid (read_part p.levels) c p.left h; kept = kept_refl }

module _ {c : Bytes} {s : List ℕ} {p : ParseState} {b : ℕ} (some : length c ≡ 0 → ⊥) (M : IsByte c 0 b) where
  pub comprehension-zero : b ≡ 0 → ComprehensionPost c s p s (Err BrokenRecord)
  unfolding and_then
  comprehension-zero e =
      let z : byte c 0 ≡ 0 = sym M.0 ∙ e in
      record { is = with-monoid (read_part p.levels) c p.left some ∙ ap (λ (b : ℕ). and_then (get_or monoids b (refused 22)) (λ m. E.parts (read_part p.levels) m p.left (drop 1 c) p.left)) z; kept = kept_refl }

  pub comprehension-over : 8 < b → ComprehensionPost c s p s (Err BrokenRecord)
  unfolding and_then
  comprehension-over h =
      let z : get_or monoids (byte c 0) (refused 22) ≡ refused 22 = get_or-eq_default monoids (refused 22) {n = byte c 0} (omega (arith, M.0)) in
      record { is = with-monoid (read_part p.levels) c p.left some ∙ ap (λ (x : Result Monoid). and_then x (λ m. E.parts (read_part p.levels) m p.left (drop 1 c) p.left)) z; kept = kept_refl }

-- where the parts of a comprehension stand
abbrev pub inside_of : ParseState → ParseState
inside_of p = record { levels = p.levels; left = p.left; node = p.node; depth = p.depth + 1 }

module _ (p : ParseState) (c : Bytes) {s s' : List ℕ} {b : ℕ} {r : Outcome (ℕ × ℕ)} (some : length c ≡ 0 → ⊥) (M : IsByte c 0 b) (l : b ≡ 0 → ⊥) (h : b ≤ 8) (P : PartsPost (after c 1) s (inside_of p) s' r) where
  comprehension-by : {x : Monoid → E.Read Question} → rounds (inside_of p) (after c 1) x → comprehends (read_part p.levels) c p.left ≡ x (monoid_at b)
  unfolding and_then
  comprehension-by {x} f =
      let z : get_or monoids (byte c 0) (refused 22) ≡ got (monoid_at b) = ap (λ (n : ℕ). get_or monoids n (refused 22)) (sym M.0) ∙ monoid-is b l h in
      with-monoid (read_part p.levels) c p.left some ∙ ap (λ (x : Result Monoid). and_then x (λ m. E.parts (read_part p.levels) m p.left (drop 1 c) p.left)) z ∙
      ap (λ (r : Bytes). E.parts (read_part p.levels) (monoid_at b) p.left r p.left) (sym (after_is c 1)) ∙ f (monoid_at b) p.left (omega arith)

  pub comprehension-refused : {x : Refusal} → r ≡ Err x → ComprehensionPost c s p s' (Err x)
  comprehension-refused e = record { is = comprehension-by (subst (PartsBy (after c 1) s' (inside_of p)) e P.is); kept = P.kept }

  pub parts-found : {left i : ℕ} → r ≡ Ok (left, i) → PartsFound (after c 1) s' (inside_of p) left i
  parts-found e = subst (PartsBy (after c 1) s' (inside_of p)) e P.is

  pub comprehension-read : {left i : ℕ} {s'' : List ℕ} {t : ℕ × ℕ} → r ≡ Ok (left, i) → FinishPost s' 14 b p left i s'' t → ComprehensionPost c s p s'' (Ok t)
  unfolding nodes
  comprehension-read {left} {i} {s''} e D =
      let F = parts-found e in
      let n = F.end in
      subst (λ (t : ℕ × ℕ). ComprehensionPost c s p s'' (Ok t)) (sym D.is)
      (record {
        is = record {
          question = record { monoid = monoid_at b; quals = F.quals; head = F.head };
          is = comprehension-by F.is;
          laid = (
            quals-kept F.quals (p.depth + 1) p.node D.kept (omega arith) F.laid,
            laid_kept F.head (p.depth + 1) (p.node + nodes_q F.quals) D.kept (omega arith) F.laid_head,
            node_at_lem D.node F.end,
            ap monoid_at (arg-at s'' D.arg F.end),
            omega (arith, arg-at s'' D.arg F.end),
            omega (arith, arg-at s'' D.arg F.end),
          );
          end = omega arith;
          spent = omega (arith, F.spent);
        };
        kept = kept_trans (omega arith) P.kept D.kept;
      })

-- ---- the question
pub question-long : {l : Bytes} {s : List ℕ} → 4096 < length l → ReadQuestionPost l s s (Err QuestionTooLong)
unfolding read_question require
question-long {l} h = record { is = rw (lt-leb (length l) 4096 h); kept = kept_refl }

module _ {l : Bytes} {s : List ℕ} (h : length l ≤ 4096) where
  pub question-cut : is_whole l ≡ false → ReadQuestionPost l s s (Err BrokenRecord)
  unfolding read_question require
  question-cut w = record { is = rw (le-leb (length l) 4096 h, w); kept = kept_refl }

  pub question-kind : {k e : ℕ} → RecordFront l k e → (k ≡ 14 → ⊥) → ReadQuestionPost l s s (Err BrokenRecord)
  unfolding read_question require
  question-kind W n = record { is = rw (le-leb (length l) 4096 h, W.whole, ne_eqb (kind_of l) 14 (λ e. n (W.kind ∙ e))); kept = kept_refl }

-- where the question's parts begin
abbrev pub first : ParseState
first = record { levels = 31; left = 255; node = 0; depth = 0 }

module _ {l : Bytes} {s s' : List ℕ} {k e : ℕ} {r : Outcome (ℕ × ℕ)} (h : length l ≤ 4096) (W : RecordFront l k e) (ke : k ≡ 14) (C : ComprehensionPost (inner l e) s first s' r) where
  question-by : {x : E.Read Question} → comprehends (read_part 31) (inner l e) 255 ≡ x → read_question l ≡ and_then x (λ s. require 22 (eqb (length (behind l)) 0) (got s.is))
  unfolding read_question require
  question-by {x} p =
      rw (le-leb (length l) 4096 h, W.whole, eq-eqb (kind_of l) 14 (sym W.kind ∙ ke))
      (ap (λ (x : E.Read Question). and_then x (λ s. require 22 (eqb (length (behind l)) 0) (got s.is))) (ap (λ (c : Bytes). comprehends (read_part 31) c 255) (sym (inner-is W)) ∙ p))

  length-behind : length (behind l) ≡ length l - e
  length-behind = length-drop (4 + length_of l) l ∙ omega (arith, W.end)

  pub question-refused : {x : Refusal} → r ≡ Err x → ReadQuestionPost l s s' (Err x)
  unfolding and_then
  question-refused p = record { is = question-by (subst (ComprehensionBy (comprehends (read_part 31) (inner l e) 255) s' first) p C.is); kept = C.kept }

  question-found : {left n : ℕ} → r ≡ Ok (left, n) → ComprehensionFound (comprehends (read_part 31) (inner l e) 255) s' first left n
  question-found p = subst (ComprehensionBy (comprehends (read_part 31) (inner l e) 255) s' first) p C.is

  pub question-over : {left n : ℕ} → r ≡ Ok (left, n) → e < length l → ReadQuestionPost l s s' (Err BrokenRecord)
  unfolding and_then require
  question-over p o = record { is = question-by (question-found p).is ∙ rw (ne_eqb (length (behind l)) 0 (omega (arith, length-behind))); kept = C.kept }

  pub question-read : {left n : ℕ} → r ≡ Ok (left, n) → length l ≤ e → ReadQuestionPost l s s' (Ok n)
  unfolding and_then require
  question-read {n = n} p o =
      let F = question-found p in
      let t = as_term F.question in
      let c : n ≡ nodes t = omega (arith, F.end) in
      record {
        is = record {
          question = F.question;
          is = question-by F.is ∙ rw (eq-eqb (length (behind l)) 0 (omega (arith, length-behind)));
          some = omega (arith, some-nodes t);
          few = omega (arith, F.spent);
          tree = λ f g. ap (tree_at f s') F.end ∙ laid-tree t s' 0 0 F.laid f (omega arith);
          laid = F.laid;
          count = c;
        };
        kept = C.kept;
      }

-- ---- room for what follows
pub finishing-terms : {most : ℕ} {l : Bytes} {s s' : List ℕ} {p : ParseState} {t : Outcome (ℕ × ℕ × ℕ)} {count left i k x : ℕ} → NodeRoom 1 s p → TermsPost most l s p s' t → t ≡ Ok (count, left, i) →
    k < 32 → x < 8589934592 → FinishPre s' k x p i
finishing-terms M T e hk hx =
    let F = (terms-found T e).0 in
    let n = F.end in
    record { words = omega (arith, T.kept.long, M.words); kind = hk; arg = hx; start = omega arith; below = omega (arith, F.spent, M.nodes); deep = omega (arith, M.deep) }

pub few-terms : {most : ℕ} {l : Bytes} {s s' : List ℕ} {p : ParseState} {t : Outcome (ℕ × ℕ × ℕ)} {count left i : ℕ} → NodeRoom 1 s p → TermsPost most l s p s' t → t ≡ Ok (count, left, i) → count < 8589934592
few-terms M T e = let F = (terms-found T e).0 in omega (arith, F.many, F.spent, M.nodes, count-nodes F.trees)
