-- Laws of one record at the front: a term, its content, a qualifier. One for each way out.
use mathlib.Core.Path.{◌≡◌, refl, sym, ap, ap₂, subst, subst₂, ◌∙◌}
use mathlib.Core.List.{List, []}
use mathlib.Core.Bool.{Bool, true, false}
use Prim.Native.Nat.{ℕ, ◌+◌, ◌-◌, ◌≤◌, ◌<◌}
use native.Mathlib.Omega.{arith}
use lib.ListN.{length, get_or, take, drop, length-take, length-drop}
use Rattle.std.proofs.Common.{Option, Some, None, Ok, Err}
use lib.Seq.{take_all, drop-drop}
use Rattle.spec_calculus.specs.Syntax.{Term, Terms, Quals, comp, Question, as_term}
use Rattle.spec_encoding.specs.Record.{Bytes, refused, and_then, require, length_of, content_of}
use Rattle.spec_encoding.specs.Reader as E
use Rattle.spec_encoding.specs.Reader.{Kind, kinds, unknown, comprehension, Part, term, Reader, yields, comprehends, content, at_record, read_part}
use Rattle.base_scratch.specs.Map.{nodes_at}
use Rattle.base_refusals.specs.declared.Refusal.{Refusal}
use Rattle.base_refusals.specs.Numbers.{number_of}
use Rattle.front_words.specs.NodeWord.{node_word}
use Rattle.front_words.specs.LaidTree.{nodes, nodes_l, nodes_q, Laid, LaidL, LaidQ}
use Rattle.front_words.proofs.NodeWords.{three, laid_same, laid-same-terms, laid-same-quals}
use Rattle.front_parser.specs.ReaderScratch.{NodesKept}
use Rattle.front_parser.specs.RecordFront.{Outcome, RecordFront, Began, BeginPost, BeginsBy}
use Rattle.front_parser.specs.RecordKinds.{HasTerms, of_field, of_record, of_two, of_not, of_choice, of_open, ShapeOfPost, ShapedBy, LookAheadPost, LooksBy}
use Rattle.front_parser.specs.ReaderContracts.{LaidP, PartRead, FillsBy, ContentRead, CompoundPost, FrontFound, TermBy, TermPost, QualifierPost, ComprehensionBy, ComprehensionPost}
use Rattle.front_parser.specs.declared.ParseState.{ParseState}
use Rattle.front_parser.specs.declared.Arity.{Arity}
use Rattle.front_parser.specs.declared.Item.{Item}
use Rattle.front_parser.specs.declared.value.ContentKind.{ContentKind}
use Rattle.front_parser.proofs.LeafRecords.{kept_refl, stops-refuses}

-- ---- parts of the bytes: what stands behind so many bytes, and a record's content
abbrev pub after : Bytes → ℕ → Bytes
after l k = take (length l - k) (drop k l)

abbrev pub inner : Bytes → ℕ → Bytes
inner l e = take (e - 4) (drop 4 l)

pub after_is : (l : Bytes) (k : ℕ) → after l k ≡ drop k l
after_is l k = take_all (length l - k) (drop k l) (simp length-drop (omega arith))

pub length-after : (l : Bytes) (k : ℕ) → length (after l k) ≡ length l - k
length-after l k = simp (length-take, length-drop) (omega arith)

pub after-after : (l : Bytes) (a b : ℕ) → after (after l a) b ≡ after l (a + b)
after-after l a b = after_is (after l a) b ∙ ap (λ (r : Bytes). drop b r) (after_is l a) ∙ drop-drop b a l ∙ sym (after_is l (a + b))

pub inner-is : {l : Bytes} {k e : ℕ} → RecordFront l k e → inner l e ≡ content_of l
inner-is {l} {e = e} W =
    let n : e - 4 ≡ length_of l = omega (arith, W.end) in
    ap (λ (n : ℕ). take n (drop 4 l)) n

-- ---- what lies in scratch stays there under later nodes
pub nodes-kept : {b : ℕ} {s s' : List ℕ} → NodesKept b s s' → (i : ℕ) → i < b → node_word s' i ≡ node_word s i
nodes-kept K i h = K.below (nodes_at + i) (omega arith)

pub laid_kept : (t : Term) {s s' : List ℕ} {b : ℕ} (d a : ℕ) → NodesKept b s s' → a + nodes t ≤ b → Laid s d a t → Laid s' d a t
laid_kept t {s} {s'} {b} d a K h L = laid_same s s' b (nodes-kept K) t d a h L

pub terms-kept : (ts : Terms) {s s' : List ℕ} {b : ℕ} (d a : ℕ) → NodesKept b s s' → a + nodes_l ts ≤ b → LaidL s d a ts → LaidL s' d a ts
terms-kept ts {s} {s'} {b} d a K h L = laid-same-terms s s' b (nodes-kept K) ts d a h L

pub quals-kept : (qs : Quals) {s s' : List ℕ} {b : ℕ} (d a : ℕ) → NodesKept b s s' → a + nodes_q qs ≤ b → LaidQ s d a qs → LaidQ s' d a qs
quals-kept qs {s} {s'} {b} d a K h L = laid-same-quals s s' b (nodes-kept K) qs d a h L

-- ---- a record that begins
pub began : {l : Bytes} {p : ParseState} {g : Outcome (ℕ × ℕ × ParseState)} → BeginPost l p g → {k e : ℕ} {b : ParseState} → g ≡ Ok (k, e, b) → Began l p k e b
began {l} {p} B e = subst (BeginsBy l p) e B.is

refused-at : {l : Bytes} {p : ParseState} {g : Outcome (ℕ × ℕ × ParseState)} → BeginPost l p g → {x : Refusal} → g ≡ Err x → (q : Bool) → read_part p.levels q l p.left ≡ refused (number_of x)
refused-at {l} {p} B e = stops-refuses (subst (BeginsBy l p) e B.is)

module _ {l : Bytes} {p b : ParseState} {k e : ℕ} (B : Began l p k e b) where
  opened : (q : Bool) → read_part p.levels q l p.left ≡ and_then (content (read_part b.levels) q (get_or kinds k unknown) (inner l e) b.left) (λ s. yields s.is (drop e l) s.left)
  unfolding read_part at_record require
  opened q =
      ap₂ (λ (v n : ℕ). read_part v q l n) B.levels B.left ∙
      rw B.header.whole
      (three (λ (K : Kind) (c r : Bytes). and_then (content (read_part b.levels) q K c b.left) (λ s. yields s.is r s.left))
      (ap (λ (n : ℕ). get_or kinds n unknown) (sym B.header.kind)) (sym (inner-is B.header)) (ap (λ (n : ℕ). drop n l) (sym B.header.end)))

  -- what was found in the content was found at the front
  front-found : (q : Bool) {t : Bool} {s : List ℕ} {left i : ℕ} → PartRead t (content (read_part b.levels) q (get_or kinds k unknown) (inner l e) b.left) [] s b.depth b.node (b.left + 1) left i →
      FrontFound t (read_part p.levels q l p.left) l s p e left i
  unfolding and_then
  front-found q {s = s} F =
      record {
        found = record {
          part = F.part;
          sort = F.sort;
          is = opened q ∙ ap (λ (x : E.Read Part). and_then x (λ s. yields s.is (drop e l) s.left)) F.is;
          laid = subst₂ (λ (d a : ℕ). LaidP s d a F.part) B.depth B.node F.laid;
          end = omega (arith, F.end, B.node);
          spent = omega (arith, F.spent, B.left);
        };
        some = omega (arith, B.header.end);
        within = B.header.within;
      }

  front-refused : (q : Bool) {x : ℕ} → content (read_part b.levels) q (get_or kinds k unknown) (inner l e) b.left ≡ refused x → read_part p.levels q l p.left ≡ refused x
  unfolding and_then
  front-refused q h = opened q ∙ ap (λ (x : E.Read Part). and_then x (λ s. yields s.is (drop e l) s.left)) h

  front_kept : {s s' : List ℕ} → NodesKept b.node s s' → NodesKept p.node s s'
  front_kept {s} {s'} K = subst (λ (a : ℕ). NodesKept a s s') B.node K

-- ---- term
pub term-none : {l : Bytes} {s : List ℕ} {p : ParseState} {g : Outcome (ℕ × ℕ × ParseState)} {x : Refusal} → BeginPost l p g → g ≡ Err x → TermPost l s p s (Err x)
term-none B e = record { is = refused-at B e false; kept = kept_refl }

module _ {l : Bytes} {s s' : List ℕ} {p b : ParseState} {g : Outcome (ℕ × ℕ × ParseState)} {k e : ℕ} {r : Outcome (ℕ × ℕ)} (G : BeginPost l p g) (ge : g ≡ Ok (k, e, b)) (C : ContentRead k (inner l e) s b s' r) where
  pub term-refused : {x : Refusal} → r ≡ Err x → TermPost l s p s' (Err x)
  term-refused h =
      let B = began G ge in
      record { is = front-refused B false (subst (FillsBy false (content (read_part b.levels) false (get_or kinds k unknown) (inner l e) b.left) s' b) h C.is); kept = front_kept B C.kept }

  pub term-read : {left i : ℕ} → r ≡ Ok (left, i) → TermPost l s p s' (Ok (e, left, i))
  term-read h =
      let B = began G ge in
      record { is = front-found B false (subst (FillsBy false (content (read_part b.levels) false (get_or kinds k unknown) (inner l e) b.left) s' b) h C.is); kept = front_kept B C.kept }

-- ---- a term's content
pub shaped-terms : {k : ℕ} {g : ContentKind} {h : Arity} → ShapeOfPost k g → g ≡ ContentKind.Terms h → HasTerms (get_or kinds k unknown) false h.least h.most h.skip × (k < 32)
shaped-terms {k} S e = subst (ShapedBy k) e S.is

terms-alike : {K : Kind} {l m n : ℕ} → HasTerms K false l m n → (R : Reader) (c : Bytes) (j : ℕ) → content R true K c j ≡ content R false K c j
unfolding content
terms-alike of_field R c j = refl
terms-alike of_record R c j = refl
terms-alike (of_two o) R c j = refl
terms-alike of_not R c j = refl
terms-alike of_choice R c j = refl
terms-alike of_open R c j = refl

pub content-terms : {k : ℕ} {c : Bytes} {s s' : List ℕ} {p : ParseState} {r : Outcome (ℕ × ℕ)} {g : ContentKind} {h : Arity} → ShapeOfPost k g → g ≡ ContentKind.Terms h →
    CompoundPost k h c s p s' r → ContentRead k c s p s' r
content-terms {k} {c} {s} {s'} {p} {r} S e C =
    let H = (shaped-terms S e).0 in
    record { is = subst (λ (x : E.Read Part). FillsBy false x s' p r) (terms-alike H (read_part p.levels) c p.left) (C.is false H); kept = C.kept }

comprehension-fills : (k : ℕ) (c : Bytes) (s : List ℕ) (p : ParseState) (r : Outcome (ℕ × ℕ)) → get_or kinds k unknown ≡ comprehension → ComprehensionBy (comprehends (read_part p.levels) c p.left) s p r →
    FillsBy false (content (read_part p.levels) false (get_or kinds k unknown) c p.left) s p r
unfolding content and_then
comprehension-fills k c s p (Ok (left, i)) e F =
    record {
      part = term (as_term F.question);
      sort = refl;
      is = ap (λ (K : Kind). content (read_part p.levels) false K c p.left) e ∙
          ap (λ (x : E.Read Question). and_then x (λ s. yields (term (comp s.is.monoid s.is.quals s.is.head)) [] s.left)) F.is;
      laid = F.laid;
      end = F.end;
      spent = F.spent;
    }
comprehension-fills k c s p (Err x) e F =
    ap (λ (K : Kind). content (read_part p.levels) false K c p.left) e ∙
    ap (λ (x : E.Read Question). and_then x (λ s. yields (term (comp s.is.monoid s.is.quals s.is.head)) [] s.left)) F

pub content-comprehension : {k : ℕ} {c : Bytes} {s s' : List ℕ} {p : ParseState} {r : Outcome (ℕ × ℕ)} {g : ContentKind} → ShapeOfPost k g → g ≡ ContentKind.Comprehension →
    ComprehensionPost c s p s' r → ContentRead k c s p s' r
content-comprehension {k} {c} {s' = s'} {p} {r} S e C = record { is = comprehension-fills k c s' p r (subst (ShapedBy k) e S.is) C.is; kept = C.kept }

-- ---- a qualifier or the head
pub item-none : {l : Bytes} {s : List ℕ} {p : ParseState} {g : Outcome (ℕ × ℕ × ParseState)} {x : Refusal} → BeginPost l p g → g ≡ Err x → QualifierPost l s p s (Err x)
item-none B e = record { is = refused-at B e true; kept = kept_refl }

module _ {l : Bytes} {s s' : List ℕ} {p b : ParseState} {g : Outcome (ℕ × ℕ × ParseState)} {k e : ℕ} {a : Option Arity} {f : Outcome (ℕ × ℕ × ℕ)} (G : BeginPost l p g) (ge : g ≡ Ok (k, e, b)) (A : LookAheadPost k a)
    (ae : a ≡ None) (T : TermPost l s p s' f) where
  head-by : TermBy (read_part p.levels true l p.left) l s' p f
  head-by =
      let B = began G ge in
      let same = (subst (LooksBy k) ae A.is) (read_part b.levels) (inner l e) b.left in
      let x : read_part p.levels false l p.left ≡ read_part p.levels true l p.left =
      opened B false ∙ ap (λ (x : E.Read Part). and_then x (λ s. yields s.is (drop e l) s.left)) (sym same) ∙ sym (opened B true) in
      subst (λ (x : E.Read Part). TermBy x l s' p f) x T.is

  pub item-head : {used left i : ℕ} → f ≡ Ok (used, left, i) → QualifierPost l s p s' (Ok (Item.Head used left i))
  item-head fe = record { is = subst (TermBy (read_part p.levels true l p.left) l s' p) fe head-by; kept = T.kept }

  pub head-refused : {x : Refusal} → f ≡ Err x → QualifierPost l s p s' (Err x)
  head-refused fe = record { is = subst (TermBy (read_part p.levels true l p.left) l s' p) fe head-by; kept = T.kept }

pub looks-qualifier : {k : ℕ} {a : Option Arity} {h : Arity} → LookAheadPost k a → a ≡ Some h → HasTerms (get_or kinds k unknown) true h.least h.most h.skip × (k < 32)
looks-qualifier {k} A e = subst (LooksBy k) e A.is

module _ {l : Bytes} {s s' : List ℕ} {p b : ParseState} {g : Outcome (ℕ × ℕ × ParseState)} {k e : ℕ} {a : Option Arity} {h : Arity} {r : Outcome (ℕ × ℕ)} (G : BeginPost l p g) (ge : g ≡ Ok (k, e, b)) (A : LookAheadPost k a)
    (ae : a ≡ Some h) (C : CompoundPost k h (inner l e) s b s' r) where
  pub item_refused : {x : Refusal} → r ≡ Err x → QualifierPost l s p s' (Err x)
  item_refused re =
      let B = began G ge in
      record { is = front-refused B true (subst (FillsBy true (content (read_part b.levels) true (get_or kinds k unknown) (inner l e) b.left) s' b) re (C.is true (looks-qualifier A ae).0)); kept = front_kept B C.kept }

  pub item-read : {left i : ℕ} → r ≡ Ok (left, i) → QualifierPost l s p s' (Ok (Item.Qualifier e left i))
  item-read re =
      let B = began G ge in
      record { is = front-found B true (subst (FillsBy true (content (read_part b.levels) true (get_or kinds k unknown) (inner l e) b.left) s' b) re (C.is true (looks-qualifier A ae).0)); kept = front_kept B C.kept }
