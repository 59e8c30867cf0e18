-- Laws of the records' headers, of the kinds, and of the records without records inside: one for each way out.
use mathlib.Core.Path.{◌≡◌, refl, sym, ap, ap₂, subst, ◌∙◌}
use mathlib.Core.List.{List, [], ◌∷◌}
use mathlib.Core.Bool.{Bool, true, false}
use Prim.Native.Nat.{ℕ, zero, suc, ◌+◌, ◌-◌, ◌*◌, ◌≤◌, ◌<◌}
use native.Mathlib.Omega.{arith}
use lib.ListN.{length, get_or, set, length-set, get_or-eq_default}
use lib.Seq.{get_or-set_other}
use lib.Dec.{eqb, leb, ltb}
use lib.IntN.{ℤ, pos, negsuc}
use Rattle.std.specs.Option.{ok_or}
use Rattle.std.specs.Result.{IsErrAnd}
use Rattle.std.proofs.Common.{Option, Some, None, Ok, Err}
use Rattle.std.proofs.lemmas.Result.{err_from_is_err_and}
use borrow.Author.Tests.{eq-eqb, ne_eqb, lt-ltb, le-ltb, le-leb, lt-leb, eqb-true, eqb-false, leb-true, leb-false}
use Rattle.spec_calculus.specs.Lists.{pick}
use Rattle.spec_calculus.specs.Syntax.{plus, minus, times, equal, less, and, or, Term, num, truth, name, table}
use Rattle.spec_encoding.specs.Record.{Bytes, Result, refused, require, byte, two, four, signed, length_of, is_whole}
use Rattle.spec_encoding.specs.Reader.{Kind, kinds, unknown, number, truth_k, name_k, table_k, Reader, term, yields, no_more, content, at_record, read_part}
use Rattle.base_scratch.specs.Map.{nodes_at}
use Rattle.base_refusals.specs.declared.Refusal.{Refusal}
use Rattle.base_refusals.specs.declared.Refusal.TheVariants.{BrokenRecord}
use Rattle.front_words.specs.NodeWord.{pack}
use Rattle.front_words.specs.NodeTree.{arg_at}
use Rattle.base_syntax.specs.Numbers.{constant_of}
use Rattle.front_words.specs.LaidTree.{nodes, LaidNode, Laid}
use Rattle.front_words.proofs.NodeWords.{put_is, put-arg}
use Rattle.front_parser.specs.ReaderScratch.{NodesKept, FinishPre, FinishPost}
use Rattle.front_parser.specs.RecordFront.{Outcome, RecordFront, ReadHeaderPost, HeadedBy, Stops, none, deep, many, cut}
use Rattle.front_parser.specs.RecordKinds.{LeafKind, number_kind, truth_kind, is_name, HasTerms, of_two, ShapeOfPost, LookAheadPost, Fixed, LeafRecord, a_number, a_truth, a_name, a_table, ValueIs, ValuedBy, Valued}
use Rattle.front_parser.specs.ReaderContracts.{ContentRead}
use Rattle.front_parser.specs.declared.ParseState.{ParseState}
use Rattle.front_parser.specs.declared.Arity.{Arity}
use Rattle.front_parser.specs.declared.value.ContentKind.{ContentKind}

pub differ : true ≡ false → ⊥
differ e = let z : ◌≡◌ {A = ℕ} 0 1 = cc in omega arith

-- ---- `?` passes a refusal on
pub passed_on : {A : Type 0} {e : Refusal} (r : Outcome A) → IsErrAnd r (λ x. x ≡ e) → r ≡ Err e
passed_on r h = let p = err_from_is_err_and r h in p.1 ∙ ap Err p.2

pub absent : {A : Type 0} {w : Outcome A} {x : Refusal} (o : Option A) → w ≡ ok_or o BrokenRecord → w ≡ Err x → (o ≡ None) × (x ≡ BrokenRecord)
absent None h e = (refl, grind arith)
absent (Some a) h e = absurd (grind arith)

pub present : {A : Type 0} {w : Outcome A} {a : A} (o : Option A) → w ≡ ok_or o BrokenRecord → w ≡ Ok a → o ≡ Some a
present None h e = absurd (grind arith)
present (Some b) h e = grind arith

-- ---- bytes and headers
-- what reading a byte, or two, gives
abbrev pub IsByte : Bytes → ℕ → ℕ → Type 0
IsByte l i r = (r ≡ byte l i) × (r < 256)

abbrev pub IsTwo : Bytes → ℕ → ℕ → Type 0
IsTwo l i r = (r ≡ two l i) × (r < 65536)

pub headed-short : {l : Bytes} → length l < 4 → ReadHeaderPost l None
unfolding is_whole pick
headed-short {l} h = record { is = rw (lt-leb 4 (length l) h) }

pub headed-cut : {l : Bytes} {n : ℕ} → 4 ≤ length l → IsTwo l 0 n → length l - 4 < n → ReadHeaderPost l None
unfolding is_whole pick
headed-cut {l} h t c = record { is = rw (le-leb 4 (length l) h, lt-leb (4 + length_of l) (length l) (omega (arith, t.0))) }

pub headed-whole : {l : Bytes} {n k : ℕ} → 4 ≤ length l → IsTwo l 0 n → n ≤ length l - 4 → IsTwo l 2 k → ReadHeaderPost l (Some (k, 4 + n))
unfolding is_whole pick
headed-whole {l} h t c u =
    record {
      is = record {
        whole = rw (le-leb 4 (length l) h, le-leb (4 + length_of l) (length l) (omega (arith, t.0)));
        kind = u.0;
        end = ap (λ (n : ℕ). 4 + n) t.0;
        within = omega arith;
      };
    }

pub headed : {l : Bytes} {h : Option (ℕ × ℕ)} → ReadHeaderPost l h → {k e : ℕ} → h ≡ Some (k, e) → RecordFront l k e
headed {l} H e = subst (HeadedBy l) e H.is

pub not-headed : {l : Bytes} {h : Option (ℕ × ℕ)} → ReadHeaderPost l h → h ≡ None → is_whole l ≡ false
not-headed {l} H e = subst (HeadedBy l) e H.is

-- ---- whether a record may begin
no-more : {A : Type 0} (l : Bytes) → (length l ≡ 0 → ⊥) → ◌≡◌ {A = Result A} (no_more l) (refused 23)
unfolding no_more
no-more [] h = absurd (h refl)
no-more (b ∷ l) h = refl

pub part_none : (levels : ℕ) (q : Bool) (l : Bytes) (n : ℕ) → length l ≡ 0 → read_part levels q l n ≡ refused 22
unfolding read_part at_record no_more require is_whole pick
part_none zero q [] n h = refl
part_none zero q (b ∷ l) n h = absurd (omega arith)
part_none (suc v) q [] zero h = refl
part_none (suc v) q [] (suc n) h = refl
part_none (suc v) q (b ∷ l) n h = absurd (omega arith)

part-deep : (levels : ℕ) (q : Bool) (l : Bytes) (n : ℕ) → (length l ≡ 0 → ⊥) → levels ≡ 0 → read_part levels q l n ≡ refused 23
unfolding read_part
part-deep zero q l n h e = no-more l h
part-deep (suc v) q l n h e = absurd (omega arith)

part-many : (levels : ℕ) (q : Bool) (l : Bytes) (n : ℕ) → (length l ≡ 0 → ⊥) → n ≡ 0 → read_part levels q l n ≡ refused 23
unfolding read_part at_record
part-many zero q l n h e = no-more l h
part-many (suc v) q l zero h e = no-more l h
part-many (suc v) q l (suc n) h e = absurd (omega arith)

part_cut : (levels : ℕ) (q : Bool) (l : Bytes) (n : ℕ) → (levels ≡ 0 → ⊥) → (n ≡ 0 → ⊥) → is_whole l ≡ false → read_part levels q l n ≡ refused 22
unfolding read_part at_record require
part_cut zero q l n h i w = absurd (h refl)
part_cut (suc v) q l zero h i w = absurd (i refl)
part_cut (suc v) q l (suc n) h i w = rw w

-- where no record begins, reading one is refused with that number
pub stops-refuses : {l : Bytes} {p : ParseState} {x : ℕ} → Stops l p x → (q : Bool) → read_part p.levels q l p.left ≡ refused x
stops-refuses {l} {p} (none h) q = part_none p.levels q l p.left h
stops-refuses {l} {p} (deep h e) q = part-deep p.levels q l p.left h e
stops-refuses {l} {p} (many h e) q = part-many p.levels q l p.left h e
stops-refuses {l} {p} (cut h i w) q = part_cut p.levels q l p.left h i w

-- ---- the scratch words
pub kept_refl : {a : ℕ} {s : List ℕ} → NodesKept a s s
kept_refl = record { long = refl; below = λ i h. refl; above = λ i h. refl }

pub kept_trans : {a b : ℕ} {s t u : List ℕ} → a ≤ b → NodesKept a s t → NodesKept b t u → NodesKept a s u
kept_trans h K L =
    record { long = L.long ∙ K.long; below = λ i l. L.below i (omega arith) ∙ K.below i l; above = λ i l. L.above i l ∙ K.above i l }

kept_put : {s : List ℕ} (i w : ℕ) → i < 256 → NodesKept i s (set s (nodes_at + i) w)
kept_put {s} i w h =
    record {
      long = length-set s (nodes_at + i) w;
      below = λ j l. get_or-set_other s (nodes_at + i) j w 0 (omega arith);
      above = λ j l. get_or-set_other s (nodes_at + i) j w 0 (omega arith);
    }

pub finished : {s s' : List ℕ} {k a left i : ℕ} {p : ParseState} → FinishPre s k a p i → s' ≡ set s (nodes_at + i) (pack k a p.node p.depth) →
    FinishPost s k a p left i s' (left, i + 1)
finished {s} {s'} {k} {a} {left} {i} {p} F e =
    subst (λ (t : List ℕ). FinishPost s k a p left i t (left, i + 1)) (sym e)
    (record {
      is = refl;
      put = refl;
      node = put_is s i k a p.node p.depth F.kind F.arg (omega arith) (omega arith) (omega arith);
      arg = put-arg s i k a p.node p.depth F.kind F.arg (omega arith) (omega arith) (omega arith);
      kept = kept_put i (pack k a p.node p.depth) F.below;
    })

-- ---- records without records inside
signed_by : (x : ℕ) → signed x ≡ pick (ltb x 2147483648) (pos x) (negsuc (4294967295 - x))
unfolding signed pick
signed_by x = go (ltb x 2147483648)
  where
    go : (b : Bool) → elim b as (λ _. ℤ) [ true ↦ pos x | false ↦ negsuc (4294967295 - x) ] ≡ pick b (pos x) (negsuc (4294967295 - x))
    go true = refl
    go false = refl

number_by : (a : ℕ) → constant_of a ≡ pick (ltb a 2147483648) (negsuc (2147483647 - a)) (pos (a - 2147483648))
unfolding pick
number_by a = go (ltb a 2147483648)
  where
    go : (b : Bool) → elim b as (λ _. ℤ) [ true ↦ negsuc (2147483647 - a) | false ↦ pos (a - 2147483648) ] ≡ pick b (negsuc (2147483647 - a)) (pos (a - 2147483648))
    go true = refl
    go false = refl

small-number : (x : ℕ) → x < 2147483648 → signed x ≡ constant_of (x + 2147483648)
unfolding pick
small-number x h =
    signed_by x ∙ ap (λ (b : Bool). pick b (pos x) (negsuc (4294967295 - x))) (lt-ltb x 2147483648 h) ∙ ap pos (omega arith) ∙
    sym (number_by (x + 2147483648) ∙ ap (λ (b : Bool). pick b (negsuc (2147483647 - (x + 2147483648))) (pos (x + 2147483648 - 2147483648))) (le-ltb (x + 2147483648) 2147483648 (omega arith)))

large-number : (x : ℕ) → 2147483648 ≤ x → x < 4294967296 → signed x ≡ constant_of (x - 2147483648)
unfolding pick
large-number x h k =
    signed_by x ∙ ap (λ (b : Bool). pick b (pos x) (negsuc (4294967295 - x))) (le-ltb x 2147483648 h) ∙ ap negsuc (omega arith) ∙
    sym (number_by (x - 2147483648) ∙ ap (λ (b : Bool). pick b (negsuc (2147483647 - (x - 2147483648))) (pos (x - 2147483648 - 2147483648))) (lt-ltb (x - 2147483648) 2147483648 (omega arith)))

pub number-broken : {c : Bytes} → (length c ≡ 4 → ⊥) → Valued number c None
unfolding content require
number-broken {c} h = record { is = λ R q n. rw (ne_eqb (length c) 4 h) }

number_is : {c : Bytes} {a : ℕ} → length c ≡ 4 → signed (four c 0) ≡ constant_of a → a < 8589934592 → Valued number c (Some a)
unfolding content require
number_is {c} {a} h e b =
    record {
      is = record {
        tree = num (constant_of a);
        leaf = a_number a;
        is = λ R q n. rw (eq-eqb (length c) 4 h) (ap (λ z. yields (term (num z)) [] n) e);
        small = b;
      };
    }

pub number_small : {c : Bytes} {x y : ℕ} → length c ≡ 4 → IsTwo c 0 x → IsTwo c 2 y → x + 65536 * y < 2147483648 → Valued number c (Some (x + 65536 * y + 2147483648))
number_small {c} {x} {y} h t u l =
    number_is h (ap signed (ap₂ (λ (a b : ℕ). a + 65536 * b) (sym t.0) (sym u.0)) ∙ small-number (x + 65536 * y) l) (omega arith)

pub number-large : {c : Bytes} {x y : ℕ} → length c ≡ 4 → IsTwo c 0 x → IsTwo c 2 y → 2147483648 ≤ x + 65536 * y → Valued number c (Some (x + 65536 * y - 2147483648))
number-large {c} {x} {y} h t u l =
    number_is h (ap signed (ap₂ (λ (a b : ℕ). a + 65536 * b) (sym t.0) (sym u.0)) ∙ large-number (x + 65536 * y) l (omega arith)) (omega arith)

pub truth-broken : {c : Bytes} → (length c ≡ 1 → ⊥) → Valued truth_k c None
unfolding content require
truth-broken {c} h = record { is = λ R q n. rw (ne_eqb (length c) 1 h) }

pub truth-over : {c : Bytes} {b : ℕ} → length c ≡ 1 → IsByte c 0 b → 1 < b → Valued truth_k c None
unfolding content require
truth-over {c} h t o = record { is = λ R q n. rw (eq-eqb (length c) 1 h, lt-leb (byte c 0) 1 (omega (arith, t.0))) }

bit : (b : ℕ) → b ≤ 1 → pick (eqb b 1) 1 0 ≡ b
unfolding pick
bit zero h = refl
bit (suc zero) h = refl
bit (suc (suc b)) h = absurd (omega arith)

pub truth-is : {c : Bytes} {b : ℕ} → length c ≡ 1 → IsByte c 0 b → b ≤ 1 → Valued truth_k c (Some b)
unfolding content require
truth-is {c} {b} h t o =
    record {
      is = record {
        tree = truth (eqb b 1);
        leaf = subst (λ (x : ℕ). LeafRecord truth_k x (truth (eqb b 1))) (bit b o) (a_truth (eqb b 1));
        is = λ R q n. rw (eq-eqb (length c) 1 h, le-leb (byte c 0) 1 (omega (arith, t.0))) (ap (λ (x : ℕ). yields (term (truth (eqb x 1))) [] n) (sym t.0));
        small = omega arith;
      };
    }

pub name-broken : {c : Bytes} → (length c ≡ 2 → ⊥) → Valued name_k c None
unfolding content require
name-broken {c} h = record { is = λ R q n. rw (ne_eqb (length c) 2 h) }

pub name-is : {c : Bytes} (r : Option ℕ) → length c ≡ 2 → Fixed 2 c r → Valued name_k c r
unfolding content require
name-is {c} (Some a) h F =
    record {
      is = record {
        tree = name a;
        leaf = a_name a;
        is = λ R q n. rw (eq-eqb (length c) 2 h, rw (le-leb 2 (length c) (omega arith)) at F.is.fits) (ap (λ (x : ℕ). yields (term (name x)) [] n) (sym F.is.is));
        small = omega (arith, F.is.small);
      };
    }
name-is {c} None h F = record { is = λ R q n. rw (eq-eqb (length c) 2 h, rw (le-leb 2 (length c) (omega arith)) at F.is) }

pub table-broken : {c : Bytes} → (length c ≡ 1 → ⊥) → Valued table_k c None
unfolding content require
table-broken {c} h = record { is = λ R q n. rw (ne_eqb (length c) 1 h) }

pub table_is : {c : Bytes} (r : Option ℕ) → length c ≡ 1 → Fixed 1 c r → Valued table_k c r
unfolding content require
table_is {c} (Some a) h F =
    record {
      is = record {
        tree = table a;
        leaf = a_table a;
        is = λ R q n. rw (eq-eqb (length c) 1 h) (ap (λ (x : ℕ). yields (term (table x)) [] n) (sym F.is.is));
        small = omega (arith, F.is.small);
      };
    }
table_is {c} None h F = absurd (let z : ◌≡◌ {A = Bool} true false = sym (le-leb 1 (length c) (omega arith)) ∙ F.is in differ z)

leaf-one : {K : Kind} {a : ℕ} {t : Term} → LeafRecord K a t → nodes t ≡ 1
unfolding nodes
leaf-one (a_number a) = refl
leaf-one (a_truth b) = refl
leaf-one (a_name a) = refl
leaf-one (a_table a) = refl

leaf-laid : {K : Kind} {a : ℕ} {t : Term} {s : List ℕ} {d i : ℕ} → LeafRecord K a t → LaidNode s d i i K → arg_at s i ≡ a → Laid s d i t
leaf-laid (a_number a) N e = (N, ap constant_of e)
leaf-laid (a_truth b) N e = (N, e)
leaf-laid (a_name a) N e = (N, e)
leaf-laid (a_table a) N e = (N, e)

pub value-is : {K : Kind} {c : Bytes} {v : Option ℕ} → Valued K c v → {a : ℕ} → v ≡ Some a → ValueIs K c a
value-is {K} {c} W e = subst (ValuedBy K c) e W.is

pub leaf-broken : {k : ℕ} {c : Bytes} {v : Option ℕ} {s : List ℕ} {p : ParseState} → Valued (get_or kinds k unknown) c v → v ≡ None → ContentRead k c s p s (Err BrokenRecord)
leaf-broken {k} {c} {p = p} W e =
    record { is = (subst (ValuedBy (get_or kinds k unknown) c) e W.is) (read_part p.levels) false p.left; kept = kept_refl }

pub leaf-read : {k a : ℕ} {c : Bytes} {v : Option ℕ} {s s' : List ℕ} {p : ParseState} {r : ℕ × ℕ} → Valued (get_or kinds k unknown) c v → v ≡ Some a →
    FinishPost s k a p p.left p.node s' r → ContentRead k c s p s' (Ok r)
leaf-read {k} {a} {c} {s = s} {s'} {p} W e F =
    let v = value-is W e in
    subst (λ (r : ℕ × ℕ). ContentRead k c s p s' (Ok r)) (sym F.is)
    (record {
      is = record {
        part = term v.tree;
        sort = refl;
        is = v.is (read_part p.levels) false p.left;
        laid = leaf-laid v.leaf F.node F.arg;
        end = omega (arith, leaf-one v.leaf);
        spent = omega (arith, leaf-one v.leaf);
      };
      kept = F.kept;
    })

-- ---- what the kinds say: a rule over numbers is shown at each of them
abbrev pub From : (ℕ → Type 0) → ℕ → ℕ → Type 0
From P i zero = Unit {0}
From P i (suc n) = P i × From P (suc i) n

pub from_at : (P : ℕ → Type 0) (i n : ℕ) → From P i n → (k : ℕ) → i ≤ k → k < i + n → P k
from_at P i zero A k h l = absurd (omega arith)
from_at P i (suc n) A k h l = here (eqb k i) refl (λ (m : suc i ≤ k). from_at P (suc i) n A.1 k m (omega arith))
  where
    here : (b : Bool) → eqb k i ≡ b → (suc i ≤ k → P k) → P k
    here true e later = subst P (sym (eqb-true k i e)) A.0
    here false e later = let d = eqb-false k i e in later (omega arith)

pub shaped-at : {k n : ℕ} {r : ContentKind} → k ≡ n → ShapeOfPost n r → ShapeOfPost k r
shaped-at {r = r} e S = subst (λ (n : ℕ). ShapeOfPost n r) (sym e) S

pub looks-at : {k n : ℕ} {r : Option Arity} → k ≡ n → LookAheadPost n r → LookAheadPost k r
looks-at {r = r} e S = subst (λ (n : ℕ). LookAheadPost n r) (sym e) S

pub shaped-value : {k : ℕ} → (k ≡ 0 → ⊥) → k ≤ 3 → ShapeOfPost k ContentKind.Value
shaped-value {k} h l = record { is = from_at LeafKind 1 3 (number_kind, (truth_kind, (is_name, tt))) k (omega arith) (omega arith) }

abbrev Two : ℕ → Type 0
Two k = HasTerms (get_or kinds k unknown) false 2 2 0

pub shaped-two : {k : ℕ} → 6 ≤ k → k ≤ 12 → ShapeOfPost k (ContentKind.Terms (record { least = 2; most = 2; skip = 0 }))
shaped-two {k} l m =
    let two = from_at Two 6 7 (of_two plus, (of_two minus, (of_two times, (of_two equal, (of_two less, (of_two and, (of_two or, tt))))))) k l (omega arith) in
    record { is = (two, omega arith) }

no_kind : (k : ℕ) → 22 ≤ k → get_or kinds k unknown ≡ unknown
no_kind k h = get_or-eq_default kinds unknown {n = k} h

abbrev Refuses : ℕ → Type 0
Refuses k = (R : Reader) (c : Bytes) (n : ℕ) → content R false (get_or kinds k unknown) c n ≡ refused 22

pub shaped-none : ShapeOfPost 0 ContentKind.Other
unfolding content
shaped-none = record { is = λ R c n. refl }

pub shaped-over : {k : ℕ} → 15 < k → (k ≡ 19 → ⊥) → (k ≡ 21 → ⊥) → ShapeOfPost k ContentKind.Other
unfolding content require
shaped-over {k} h j m = record { is = go (leb k 18) refl }
  where
    go : (b : Bool) → leb k 18 ≡ b → Refuses k
    go true e = from_at Refuses 16 3 (λ R c n. refl, (λ R c n. refl, (λ R c n. refl, tt))) k h (omega (arith, leb-true k 18 e))
    go false e = rest (leb k 20) refl (leb-false k 18 e)
      where
        rest : (b : Bool) → leb k 20 ≡ b → 18 < k → Refuses k
        rest true t d = from_at Refuses 20 1 (λ R c n. refl, tt) k (omega arith) (omega (arith, leb-true k 20 t))
        rest false t d = let g = leb-false k 20 t in λ R c n. ap (λ (K : Kind). content R false K c n) (no_kind k (omega arith))

abbrev Alike : ℕ → Type 0
Alike k = (R : Reader) (c : Bytes) (n : ℕ) → content R true (get_or kinds k unknown) c n ≡ content R false (get_or kinds k unknown) c n

pub looks-term : {k : ℕ} → (k ≡ 16 → ⊥) → (k ≡ 17 → ⊥) → (k ≡ 18 → ⊥) → LookAheadPost k None
unfolding content
looks-term {k} h i j = record { is = go (leb k 15) refl }
  where
    -- behind the qualifiers: document 02's, or no kind
    rest : (b : Bool) → leb k 21 ≡ b → 19 ≤ k → Alike k
    rest true e l = from_at Alike 19 3 (λ R c n. refl, (λ R c n. refl, (λ R c n. refl, tt))) k l (omega (arith, leb-true k 21 e))
    rest false e l = let d = leb-false k 21 e in λ R c n. rw (no_kind k (omega arith)) refl

    go : (b : Bool) → leb k 15 ≡ b → Alike k
    go true e =
        from_at Alike 0 16 (
          λ R c n. refl,
          (
            λ R c n. refl,
            (
              λ R c n. refl,
              (
                λ R c n. refl,
                (
                  λ R c n. refl,
                  (
                    λ R c n. refl,
                    (
                      λ R c n. refl,
                      (
                        λ R c n. refl,
                        (λ R c n. refl, (λ R c n. refl, (λ R c n. refl, (λ R c n. refl, (λ R c n. refl, (λ R c n. refl, (λ R c n. refl, (λ R c n. refl, tt)))))))),
                      ),
                    ),
                  ),
                ),
              ),
            ),
          ),
        )
        k (omega arith) (omega (arith, leb-true k 15 e))
    go false e = let d = leb-false k 15 e in rest (leb k 21) refl (omega arith)
