-- Laws of terms one behind the other, and of the records whose content they are. One for each way out.
use mathlib.Core.Path.{◌≡◌, refl, sym, ap, ap₂, subst, ◌∙◌, fun_ext}
use mathlib.Core.List.{List, [], ◌∷◌}
use mathlib.Core.Bool.{Bool, true, false}
use Prim.Native.Nat.{ℕ, zero, suc, ◌+◌, ◌-◌, ◌≤◌, ◌<◌}
use native.Mathlib.Omega.{arith}
use lib.ListN.{length, drop}
use Rattle.std.proofs.Common.{Option, Some, None, Ok, Err}
use borrow.Author.Tests.{le-leb}
use Rattle.spec_calculus.specs.Syntax.{choice, Term, Terms, field, rec, bin, negate, app, tnil, tcons}
use Rattle.spec_calculus.specs.Lending.{unlent}
use Rattle.spec_encoding.specs.Record.{Bytes, Result, refused, got, and_then, require, byte, two}
use Rattle.spec_encoding.specs.Reader as E
use Rattle.spec_encoding.specs.Reader.{Kind, record', Part, term, generates, binds, holds, Step, Reader, yields, one_term, filled, named, content, read_part}
use Rattle.base_refusals.specs.declared.Refusal.{Refusal}
use Rattle.base_refusals.specs.declared.Refusal.TheVariants.{BrokenRecord}
use Rattle.base_refusals.specs.Numbers.{number_of}
use Rattle.front_words.specs.NodeTree.{arg_at}
use Rattle.front_words.specs.LaidTree.{nodes, nodes_l, count_l, LaidNode, Laid, LaidL}
use Rattle.front_words.proofs.NodeWords.{some-nodes}
use Rattle.front_parser.specs.ReaderScratch.{NodesKept, NodeRoom, FinishPost}
use Rattle.front_parser.specs.RecordFront.{Outcome}
use Rattle.front_parser.specs.RecordKinds.{HasTerms, of_field, of_record, of_two, of_not, of_choice, of_open, of_generator, of_binding, of_condition, fixed_ok, fixed_of, FixedIs, FixedBy, Fixed}
use Rattle.front_parser.specs.ReaderContracts.{behind_of, qualifies, nodes_p, LaidP, PartRead, CompoundPost, FrontFound, TermBy, TermPost, TermsFound, TermsBy, TermsPost}
use Rattle.front_parser.specs.declared.ParseState.{ParseState}
use Rattle.front_parser.specs.declared.Arity.{Arity}
use Rattle.front_parser.proofs.LeafRecords.{differ, part_none, kept_refl, kept_trans}
use Rattle.front_parser.proofs.Records.{after, after_is, after-after, length-after, laid_kept, terms-kept}

-- ---- terms to the end of the bytes
pub record TreeFound (x : E.Read Part) (rest : Bytes) (s : List ℕ) (d a b left e : ℕ) : Type 0 where
  pub tree : Term
  pub is : x ≡ yields (term tree) rest left
  pub laid : Laid s d a tree
  pub end : e ≡ a + nodes tree
  pub spent : left + nodes tree ≡ b

tree_of : {x : E.Read Part} {rest : Bytes} {s : List ℕ} {d a b left e : ℕ} (t : Part) → qualifies t ≡ false → x ≡ yields t rest left → LaidP s d a t → e ≡ a + nodes_p t →
    left + nodes_p t ≡ b → TreeFound x rest s d a b left e
tree_of (term t) h i l e r = record { tree = t; is = i; laid = l; end = e; spent = r }
tree_of (generates x t) h i l e r = absurd (let z : ◌≡◌ {A = ℕ} 0 1 = cc in omega arith)
tree_of (binds x t) h i l e r = absurd (let z : ◌≡◌ {A = ℕ} 0 1 = cc in omega arith)
tree_of (holds t) h i l e r = absurd (let z : ◌≡◌ {A = ℕ} 0 1 = cc in omega arith)

pub tree-found : {x : E.Read Part} {rest : Bytes} {s : List ℕ} {d a b left e : ℕ} → PartRead false x rest s d a b left e → TreeFound x rest s d a b left e
tree-found F = tree_of F.part F.sort F.is F.laid F.end F.spent

module _ {A : Type 0} (R : Reader) (l : Bytes) (n : ℕ) (k : Term → Bytes → ℕ → E.Read A) where
  one-got : {t : Term} {rest : Bytes} {left : ℕ} → R false l n ≡ yields (term t) rest left → one_term R l n k ≡ k t rest left
  unfolding one_term and_then E.as_term
  one-got h = rw h

  one-refused : {x : ℕ} → R false l n ≡ refused x → one_term R l n k ≡ refused x
  unfolding one_term and_then
  one-refused h = rw h

terms-more : (R : Reader) (most k : ℕ) (l : Bytes) (n : ℕ) → (length l ≡ 0 → ⊥) → most ≡ suc k →
    E.terms R most l n ≡ one_term R l n (λ t r m. and_then (E.terms R k r m) (λ s. yields (tcons t s.is) s.rest s.left))
unfolding E.terms
terms-more R most k [] n h e = absurd (h refl)
terms-more R most k (b ∷ l) n h e = ap (λ (m : ℕ). E.terms R m (b ∷ l) n) e

no-terms : (R : Reader) (most : ℕ) (l : Bytes) (n : ℕ) → length l ≡ 0 → E.terms R most l n ≡ yields tnil [] n
unfolding E.terms filled
no-terms R zero [] n h = refl
no-terms R (suc k) [] n h = refl
no-terms R most (b ∷ l) n h = absurd (omega arith)

terms-none : {l : Bytes} {s : List ℕ} {p : ParseState} {most : ℕ} → length l ≡ 0 → TermsPost most l s p s (Ok (0, p.left, p.node))
unfolding nodes_l count_l
terms-none {l} {p = p} {most} h =
    record {
      is = (record { trees = tnil; is = no-terms (read_part p.levels) most l p.left h; laid = tt; end = omega arith; spent = omega arith; many = refl }, omega arith);
      kept = kept_refl;
    }

over-terms : (R : Reader) (most : ℕ) (l : Bytes) (n : ℕ) → (length l ≡ 0 → ⊥) → most ≡ 0 → E.terms R most l n ≡ refused 22
unfolding E.terms filled
over-terms R zero [] n h e = absurd (h refl)
over-terms R zero (b ∷ l) n h e = refl
over-terms R (suc k) l n h e = absurd (omega arith)

terms-over : {l : Bytes} {s : List ℕ} {p : ParseState} {most : ℕ} → (length l ≡ 0 → ⊥) → most ≡ 0 → TermsPost most l s p s (Err BrokenRecord)
terms-over {l} {p = p} {most} h e = record { is = over-terms (read_part p.levels) most l p.left h e; kept = kept_refl }

-- with n terms more
abbrev pub besides : ℕ → Outcome (ℕ × ℕ × ℕ) → Outcome (ℕ × ℕ × ℕ)
besides n (Ok (count, left, e)) = Ok ((count + n), left, e)
besides n (Err x) = Err x

besides-none : (r : Outcome (ℕ × ℕ × ℕ)) → r ≡ besides 0 r
besides-none (Ok (count, left, e)) = ap (λ (k : ℕ). Ok (k, left, e)) {x = count} {y = count + 0} (omega arith)
besides-none (Err x) = refl

besides-more : (n : ℕ) (r : Outcome (ℕ × ℕ × ℕ)) → besides n (besides 1 r) ≡ besides (n + 1) r
besides-more n (Ok (count, left, e)) = ap (λ (k : ℕ). Ok (k, left, e)) {x = count + 1 + n} {y = count + (n + 1)} (omega arith)
besides-more n (Err x) = refl

module _ {l : Bytes} {s s' : List ℕ} {p : ParseState} {f : Outcome (ℕ × ℕ × ℕ)} {most : ℕ} (some : length l ≡ 0 → ⊥) (more : most ≡ 0 → ⊥) (T : TermPost l s p s' f) where
  terms-refused : {x : Refusal} → f ≡ Err x → TermsPost most l s p s' (Err x)
  terms-refused e =
      let R = read_part p.levels in
      record {
        is = terms-more R most (most - 1) l p.left some (omega arith) ∙ one-refused R l p.left _ (subst (TermBy (R false l p.left) l s' p) e T.is);
        kept = T.kept;
      }

  module _ {used left i : ℕ} (e : f ≡ Ok (used, left, i)) where
    first_found : FrontFound false (read_part p.levels false l p.left) l s' p used left i
    first_found = subst (TermBy (read_part p.levels false l p.left) l s' p) e T.is

    terms-then : (x : E.Read Terms) → E.terms (read_part p.levels) (most - 1) (after l used) left ≡ x →
        E.terms (read_part p.levels) most l p.left ≡ and_then x (λ s. yields (tcons (tree-found first_found.found).tree s.is) s.rest s.left)
    terms-then x h =
        let R = read_part p.levels in
        let t = tree-found first_found.found in
        terms-more R most (most - 1) l p.left some (omega arith) ∙ one-got R l p.left _ t.is ∙
        ap (λ (x : E.Read Terms). and_then x (λ s. yields (tcons t.tree s.is) s.rest s.left)) (ap (λ (r : Bytes). E.terms R (most - 1) r left) (sym (after_is l used)) ∙ h)

    terms-last : {s'' : List ℕ} {r : Outcome (ℕ × ℕ × ℕ)} → TermsPost (most - 1) (after l used) s' (behind_of p left i) s'' r → NodesKept p.node s s''
    terms-last S = kept_trans (omega (arith, (tree-found first_found.found).end)) T.kept S.kept

    terms-rest-refused : {s'' : List ℕ} {r : Outcome (ℕ × ℕ × ℕ)} {x : Refusal} → TermsPost (most - 1) (after l used) s' (behind_of p left i) s'' r → r ≡ Err x →
        TermsPost most l s p s'' (Err x)
    unfolding and_then
    terms-rest-refused {s''} {x = x} S h =
        record {
          is = terms-then (refused (number_of x)) (subst (TermsBy (E.terms (read_part p.levels) (most - 1) (after l used) left) s'' (behind_of p left i) (most - 1)) h S.is);
          kept = terms-last S;
        }

    terms-read : {s'' : List ℕ} {r : Outcome (ℕ × ℕ × ℕ)} {count rest end : ℕ} → TermsPost (most - 1) (after l used) s' (behind_of p left i) s'' r → r ≡ Ok (count, rest, end) →
        TermsPost most l s p s'' (Ok ((count + 1), rest, end))
    unfolding and_then nodes_l count_l
    terms-read {s''} {count = count} {rest} {end} S h =
        let F = subst (TermsBy (E.terms (read_part p.levels) (most - 1) (after l used) left) s'' (behind_of p left i) (most - 1)) h S.is in
        let t = tree-found first_found.found in
        let n = t.end in
        record {
          is = (
            record {
              trees = tcons t.tree F.0.trees;
              is = terms-then (yields F.0.trees [] rest) F.0.is;
              laid = (laid_kept t.tree p.depth p.node S.kept (omega arith) t.laid, subst (λ (a : ℕ). LaidL s'' p.depth a F.0.trees) t.end F.0.laid);
              end = omega (arith, F.0.end, t.end);
              spent = omega (arith, F.0.spent, t.spent);
              many = omega (arith, F.0.many);
            },
            omega (arith, F.1),
          );
          kept = terms-last S;
        }

    terms-rest : {s'' : List ℕ} (r : Outcome (ℕ × ℕ × ℕ)) → TermsPost (most - 1) (after l used) s' (behind_of p left i) s'' r → TermsPost most l s p s'' (besides 1 r)
    terms-rest (Ok (count, rest, end)) S = terms-read S refl
    terms-rest (Err x) S = terms-rest-refused S refl

pub room-behind : {q : Bool} {x : E.Read Part} {l : Bytes} {s s' : List ℕ} {p : ParseState} {used left i : ℕ} → NodeRoom 0 s p → NodesKept p.node s s' → FrontFound q x l s' p used left i →
    NodeRoom 0 s' (behind_of p left i)
room-behind M K F =
    record { words = omega (arith, K.long, M.words); nodes = omega (arith, F.found.end, F.found.spent, M.nodes); deep = M.deep }

-- a bytes on, behind n terms, the reader stands as q says: what is read from there on, with n terms more, is what is read in all
pub record TermsUpto (most : ℕ) (l : Bytes) (s₀ : List ℕ) (p : ParseState) (s : List ℕ) (a : ℕ) (q : ParseState) (n : ℕ) : Type 0 where
  pub within : a ≤ length l
  pub long : length s ≡ length s₀
  pub room : NodeRoom 0 s q
  pub back : (s' : List ℕ) (r : Outcome (ℕ × ℕ × ℕ)) → TermsPost (most - n) (after l a) s q s' r → TermsPost most l s₀ p s' (besides n r)

pub upto-first : {most : ℕ} {l : Bytes} {s : List ℕ} {p : ParseState} → NodeRoom 0 s p → TermsUpto most l s p s 0 p 0
upto-first {most} {l} {s} {p} M = record {
  within = omega arith;
  long = refl;
  room = M;
  back = λ s' r T.
      subst (λ (m : ℕ). TermsPost m l s p s' (besides 0 r)) {x = most - 0} {y = most} (omega arith)
      (subst (λ (b : Bytes). TermsPost (most - 0) b s p s' (besides 0 r)) (after_is l 0) (subst (TermsPost (most - 0) (after l 0) s p s') (besides-none r) T));
}

module _ {most : ℕ} {l : Bytes} {s₀ s : List ℕ} {p q : ParseState} {a n : ℕ} (U : TermsUpto most l s₀ p s a q n) where
  pub upto-last : length l ≤ a → TermsPost most l s₀ p s (Ok (n, q.left, q.node))
  upto-last h = subst (λ (k : ℕ). TermsPost most l s₀ p s (Ok (k, q.left, q.node))) {x = 0 + n} {y = n} (omega arith) (U.back s _ (terms-none (omega (arith, length-after l a))))

  module _ (some : a < length l) where
    some_left : length (after l a) ≡ 0 → ⊥
    some_left e = omega (arith, length-after l a)

    pub upto-over : most ≤ n → TermsPost most l s₀ p s (Err BrokenRecord)
    upto-over h = U.back s _ (terms-over some_left (omega arith))

    module _ {s' : List ℕ} {f : Outcome (ℕ × ℕ × ℕ)} (more : n < most) (T : TermPost (after l a) s q s' f) where
      more_left : most - n ≡ 0 → ⊥
      more_left e = omega arith

      pub upto-refused : {x : Refusal} → f ≡ Err x → TermsPost most l s₀ p s' (Err x)
      upto-refused e = U.back s' _ (terms-refused some_left more_left T e)

      module _ {used left i : ℕ} (e : f ≡ Ok (used, left, i)) where
        pub upto-found : FrontFound false (read_part q.levels false (after l a) q.left) (after l a) s' q used left i
        upto-found = first_found some_left more_left T e

        pub upto-within : a + used ≤ length l
        upto-within = omega (arith, length-after l a, upto-found.within, U.within)

        pub upto-again : {q' : ParseState} → q' ≡ behind_of q left i → TermsUpto most l s₀ p s' (a + used) q' (n + 1)
        upto-again h = subst (λ (z : ParseState). TermsUpto most l s₀ p s' (a + used) z (n + 1)) (sym h) (record {
          within = upto-within;
          long = T.kept.long ∙ U.long;
          room = room-behind U.room T.kept upto-found;
          back = λ s'' r S.
              subst (TermsPost most l s₀ p s'') (besides-more n r)
              (U.back s'' (besides 1 r) (terms-rest some_left more_left T e r
              (subst (λ (m : ℕ). TermsPost m (after (after l a) used) s' (behind_of q left i) s'' r) {x = most - (n + 1)} {y = most - n - 1} (omega arith)
              (subst (λ (b : Bytes). TermsPost (most - (n + 1)) b s' (behind_of q left i) s'' r) (sym (after-after l a used)) S))));
        })

-- ---- content that is terms. `make` says what a kind makes of its argument and its terms: too few are 22.
one : (Term → Part) → Terms → Result Part
one F tnil = refused 22
one F (tcons t tnil) = got (F t)
one F (tcons t (tcons u ts)) = refused 22

pair : (Term → Term → Part) → Terms → Result Part
pair F tnil = refused 22
pair F (tcons t ts) = one (F t) ts

triple : (Term → Term → Term → Part) → Terms → Result Part
triple F tnil = refused 22
triple F (tcons t ts) = pair (F t) ts

-- a choice of three terms
chosen : Term → Term → Term → Part
chosen t u v = term (app choice (tcons t (tcons u (tcons v tnil))))

-- a calendar's number and one term
opening : ℕ → Term → Part
opening a t = term (app (unlent a) (tcons t tnil))

some : Terms → Result Part
some tnil = refused 22
some (tcons t ts) = got (term (rec (tcons t ts)))

make : {K : Kind} {q : Bool} {l m n : ℕ} → HasTerms K q l m n → ℕ → Terms → Result Part
make of_field a ts = one (λ t. term (field a t)) ts
make of_record a ts = some ts
make (of_two o) a ts = pair (λ t u. term (bin o t u)) ts
make of_not a ts = one (λ t. term (negate t)) ts
make of_choice a ts = triple chosen ts
make of_open a ts = one (opening a) ts
make of_generator a ts = one (generates a) ts
make of_binding a ts = one (binds a) ts
make of_condition a ts = one holds ts

then-then : {A B C : Type 0} (x : Result A) (f : A → Result B) (g : B → Result C) → and_then (and_then x f) g ≡ and_then x (λ a. and_then (f a) g)
unfolding and_then
then-then (refused k) f g = refl
then-then (got a) f g = refl

-- one term and what follows, when what follows goes on as g says
one_then : {A B : Type 0} (R : Reader) (l : Bytes) (n : ℕ) (k : Term → Bytes → ℕ → E.Read A) (h : Term → Bytes → ℕ → E.Read B) (g : Step B → E.Read A) →
    ((t : Term) (r : Bytes) (m : ℕ) → k t r m ≡ and_then (h t r m) g) → one_term R l n k ≡ and_then (one_term R l n h) g
unfolding one_term
one_then {A} {B} R l n k h g same =
    ap (λ (c : Step Part → E.Read A). and_then (R false l n) c) (fun_ext (λ s. ap (λ (c : Term → E.Read A). and_then (E.as_term s.is) c) (fun_ext (λ t. same t s.rest s.left)) ∙ sym (then-then (E.as_term s.is) (λ t. h t s.rest s.left) g))) ∙
    sym (then-then (R false l n) (λ s. and_then (E.as_term s.is) (λ t. h t s.rest s.left)) g)

module _ (R : Reader) (nothing : (n : ℕ) → R false [] n ≡ refused 22) where
  -- at the end of the bytes no term stands
  end_refused : {A : Type 0} (n : ℕ) (k : Term → Bytes → ℕ → E.Read A) → one_term R [] n k ≡ refused 22
  end_refused n k = one-refused R [] n k (nothing n)

  one-term : (F : Term → Part) (l : Bytes) (n : ℕ) → one_term R l n (λ t r m. filled (F t) r m) ≡ and_then (E.terms R 1 l n) (λ s. and_then (one F s.is) (λ p. yields p [] s.left))
  unfolding E.terms filled and_then one
  one-term F [] n = end_refused n _
  one-term F (b ∷ l) n = one_then R (b ∷ l) n _ _ _ ends
    where
      ends : (t : Term) (r : Bytes) (m : ℕ) → filled (F t) r m ≡ and_then (and_then (E.terms R 0 r m) (λ s. yields (tcons t s.is) s.rest s.left)) (λ s. and_then (one F s.is) (λ p. yields p [] s.left))
      ends t [] m = refl
      ends t (b ∷ r) m = refl

  two-terms-are : (F : Term → Term → Part) (l : Bytes) (n : ℕ) →
      one_term R l n (λ t r m. one_term R r m (λ u r i. filled (F t u) r i)) ≡ and_then (E.terms R 2 l n) (λ s. and_then (pair F s.is) (λ p. yields p [] s.left))
  unfolding E.terms and_then pair
  two-terms-are F [] n = end_refused n _
  two-terms-are F (b ∷ l) n =
      one_then R (b ∷ l) n _ _ _ (λ t r m. one-term (F t) r m ∙ sym (then-then (E.terms R 1 r m) (λ s. yields (tcons t s.is) s.rest s.left) (λ s. and_then (pair F s.is) (λ p. yields p [] s.left))))

  three-terms-are : (F : Term → Term → Term → Part) (l : Bytes) (n : ℕ) →
      one_term R l n (λ t r m. one_term R r m (λ u r i. one_term R r i (λ v r j. filled (F t u v) r j))) ≡ and_then (E.terms R 3 l n) (λ s. and_then (triple F s.is) (λ p. yields p [] s.left))
  unfolding E.terms and_then triple
  three-terms-are F [] n = end_refused n _
  three-terms-are F (b ∷ l) n =
      one_then R (b ∷ l) n _ _ _ (λ t r m. two-terms-are (F t) r m ∙ sym (then-then (E.terms R 2 r m) (λ s. yields (tcons t s.is) s.rest s.left) (λ s. and_then (triple F s.is) (λ p. yields p [] s.left))))

  record-terms : (c : Bytes) (n : ℕ) → content R true record' c n ≡ and_then (E.terms R 8 c n) (λ s. and_then (some s.is) (λ p. yields p [] s.left))
  unfolding content require E.terms and_then some
  record-terms [] n = refl
  record-terms (b ∷ l) n =
      rw (le-leb 1 (suc (length l)) (omega arith))
      (sym (one_then R (b ∷ l) n _ _ (λ s. yields (term (rec s.is)) [] s.left) (λ t r m. agree t (E.terms R 7 r m))) ∙
      one_then R (b ∷ l) n _ _ (λ s. and_then (some s.is) (λ p. yields p [] s.left)) (λ t r m. refl))
    where
      agree : (t : Term) (x : E.Read Terms) → and_then (and_then x (λ s. yields (tcons t s.is) s.rest s.left)) (λ s. and_then (some s.is) (λ p. yields p [] s.left)) ≡
          and_then (and_then x (λ s. yields (tcons t s.is) s.rest s.left)) (λ s. yields (term (rec s.is)) [] s.left)
      agree t (refused k) = refl
      agree t (got s) = refl

  content-by : {K : Kind} {q : Bool} {l m j : ℕ} (H : HasTerms K q l m j) (c : Bytes) (n : ℕ) → fixed_ok j c ≡ true →
      content R true K c n ≡ and_then (E.terms R m (drop j c) n) (λ s. and_then (make H (fixed_of j c) s.is) (λ p. yields p [] s.left))
  unfolding content require named make chosen opening
  content-by of_field c n h = rw h (one-term (λ t. term (field (byte c 0) t)) (drop 1 c) n)
  content-by of_record c n h = record-terms c n
  content-by (of_two o) c n h = two-terms-are (λ t u. term (bin o t u)) c n
  content-by of_not c n h = one-term (λ t. term (negate t)) c n
  content-by of_choice c n h = three-terms-are chosen c n
  content-by of_open c n h = rw h (one-term (opening (byte c 0)) (drop 1 c) n)
  content-by of_generator c n h = rw h (one-term (generates (two c 0)) (drop 2 c) n)
  content-by of_binding c n h = rw h (one-term (binds (two c 0)) (drop 2 c) n)
  content-by of_condition c n h = one-term holds c n

  content-broken : {K : Kind} {q : Bool} {l m j : ℕ} → HasTerms K q l m j → (c : Bytes) (n : ℕ) → fixed_ok j c ≡ false → content R true K c n ≡ refused 22
  unfolding content require named
  content-broken of_field c n h = rw h
  content-broken of_record c n h = absurd (differ h)
  content-broken (of_two o) c n h = absurd (differ h)
  content-broken of_not c n h = absurd (differ h)
  content-broken of_choice c n h = absurd (differ h)
  content-broken of_open c n h = rw h
  content-broken of_generator c n h = rw h
  content-broken of_binding c n h = rw h
  content-broken of_condition c n h = absurd (differ h)

pub count-nodes : (ts : Terms) → count_l ts ≤ nodes_l ts
unfolding count_l nodes_l
count-nodes tnil = omega arith
count-nodes (tcons t ts) = omega (arith, some-nodes t, count-nodes ts)

with-one : (P : Terms → Type 0) → ((t : Term) → P (tcons t tnil)) → (ts : Terms) → 1 ≤ count_l ts → count_l ts ≤ 1 → P ts
unfolding count_l
with-one P f tnil h l = absurd (omega arith)
with-one P f (tcons t tnil) h l = f t
with-one P f (tcons t (tcons u ts)) h l = absurd (omega arith)

with_two : (P : Terms → Type 0) → ((t u : Term) → P (tcons t (tcons u tnil))) → (ts : Terms) → 2 ≤ count_l ts → count_l ts ≤ 2 → P ts
unfolding count_l
with_two P f tnil h l = absurd (omega arith)
with_two P f (tcons t ts) h l = with-one (λ us. P (tcons t us)) (f t) ts (omega arith) (omega arith)

with-three : (P : Terms → Type 0) → ((t u v : Term) → P (tcons t (tcons u (tcons v tnil)))) → (ts : Terms) → 3 ≤ count_l ts → count_l ts ≤ 3 → P ts
unfolding count_l
with-three P f tnil h l = absurd (omega arith)
with-three P f (tcons t ts) h l = with_two (λ us. P (tcons t us)) (f t) ts (omega arith) (omega arith)

with-some : (P : Terms → Type 0) → ((t : Term) (ts : Terms) → P (tcons t ts)) → (ts : Terms) → 1 ≤ count_l ts → P ts
unfolding count_l
with-some P f tnil h = absurd (omega arith)
with-some P f (tcons t ts) h = f t ts

one-few : (F : Term → Part) (ts : Terms) → count_l ts < 1 → one F ts ≡ refused 22
unfolding one count_l
one-few F tnil h = refl
one-few F (tcons t ts) h = absurd (omega arith)

pair-few : (F : Term → Term → Part) (ts : Terms) → count_l ts < 2 → pair F ts ≡ refused 22
unfolding pair count_l
pair-few F tnil h = refl
pair-few F (tcons t ts) h = one-few (F t) ts (omega arith)

triple-few : (F : Term → Term → Term → Part) (ts : Terms) → count_l ts < 3 → triple F ts ≡ refused 22
unfolding triple count_l
triple-few F tnil h = refl
triple-few F (tcons t ts) h = pair-few (F t) ts (omega arith)

some-few : (ts : Terms) → count_l ts < 1 → some ts ≡ refused 22
unfolding some count_l
some-few tnil h = refl
some-few (tcons t ts) h = absurd (omega arith)

few : {K : Kind} {q : Bool} {l m j : ℕ} (H : HasTerms K q l m j) (a : ℕ) (ts : Terms) → count_l ts < l → make H a ts ≡ refused 22
unfolding make
few of_field a ts h = one-few _ ts h
few of_record a ts h = some-few ts h
few (of_two o) a ts h = pair-few _ ts h
few of_not a ts h = one-few _ ts h
few of_choice a ts h = triple-few _ ts h
few of_open a ts h = one-few _ ts h
few of_generator a ts h = one-few _ ts h
few of_binding a ts h = one-few _ ts h
few of_condition a ts h = one-few _ ts h

record Made (x : Result Part) (q : Bool) (s : List ℕ) (d a n : ℕ) : Type 0 where
  part : Part
  is : x ≡ got part
  sort : qualifies part ≡ q
  laid : LaidP s d a part
  size : nodes_p part ≡ n + 1

pub node_at_lem : {s : List ℕ} {d a i j : ℕ} {K : Kind} → LaidNode s d a i K → i ≡ j → LaidNode s d a j K
node_at_lem {s} {d} {a} {K = K} N e = subst (λ (j : ℕ). LaidNode s d a j K) e N

pub arg-at : (s : List ℕ) {i j x : ℕ} → arg_at s i ≡ x → i ≡ j → arg_at s j ≡ x
arg-at s {x = x} h e = subst (λ (j : ℕ). arg_at s j ≡ x) e h

module _ {s : List ℕ} {d a i : ℕ} where
  -- the record's own node stands behind its terms: the argument is what stands before them, or else their count
  made : {K : Kind} {q : Bool} {l m j : ℕ} (H : HasTerms K q l m j) (x : ℕ) (ts : Terms) → l ≤ count_l ts → count_l ts ≤ m → LaidL s d a ts → LaidNode s d a i K → i ≡ a + nodes_l ts →
      (j ≡ 0 → arg_at s i ≡ count_l ts) → ((j ≡ 0 → ⊥) → arg_at s i ≡ x) → Made (make H x ts) q s d a (nodes_l ts)
  unfolding make one pair triple chosen opening some nodes nodes_l count_l
  made of_field x ts lo hi L N e z f =
      with-one (λ ts. LaidL s d a ts → i ≡ a + nodes_l ts → Made (make of_field x ts) false s d a (nodes_l ts))
      (λ t L e. let p : i ≡ a + nodes t = omega arith in
      record { part = term (field x t); is = refl; sort = refl; laid = (L.0, node_at_lem N p, arg-at s (f (omega arith)) p); size = omega arith }) ts lo hi L e
  made of_record x ts lo hi L N e z f =
      with-some (λ ts. LaidL s d a ts → i ≡ a + nodes_l ts → arg_at s i ≡ count_l ts → Made (make of_record x ts) false s d a (nodes_l ts))
      (λ t ts L e c. record { part = term (rec (tcons t ts)); is = refl; sort = refl; laid = (L, node_at_lem N e, arg-at s c e); size = refl }) ts lo L e (z refl)
  made (of_two o) x ts lo hi L N e z f =
      with_two (λ ts. LaidL s d a ts → i ≡ a + nodes_l ts → Made (make (of_two o) x ts) false s d a (nodes_l ts))
      (λ t u L e. let p : i ≡ a + nodes t + nodes u = omega arith in
      record { part = term (bin o t u); is = refl; sort = refl; laid = (L.0, L.1.0, node_at_lem N p); size = omega arith }) ts lo hi L e
  made of_not x ts lo hi L N e z f =
      with-one (λ ts. LaidL s d a ts → i ≡ a + nodes_l ts → Made (make of_not x ts) false s d a (nodes_l ts))
      (λ t L e. let p : i ≡ a + nodes t = omega arith in
      record { part = term (negate t); is = refl; sort = refl; laid = (L.0, node_at_lem N p); size = omega arith }) ts lo hi L e
  made of_choice x ts lo hi L N e z f =
      with-three (λ ts. LaidL s d a ts → i ≡ a + nodes_l ts → arg_at s i ≡ count_l ts → Made (make of_choice x ts) false s d a (nodes_l ts))
      (λ t u v L e c. record { part = chosen t u v; is = refl; sort = refl; laid = (L, node_at_lem N e, arg-at s c e, tt); size = refl }) ts lo hi L e (z refl)
  made of_open x ts lo hi L N e z f =
      with-one (λ ts. LaidL s d a ts → i ≡ a + nodes_l ts → Made (make of_open x ts) false s d a (nodes_l ts))
      (λ t L e. record { part = opening x t; is = refl; sort = refl; laid = (L, node_at_lem N e, arg-at s (f (omega arith)) e, (refl, refl)); size = refl }) ts lo hi L e
  made of_generator x ts lo hi L N e z f =
      with-one (λ ts. LaidL s d a ts → i ≡ a + nodes_l ts → Made (make of_generator x ts) true s d a (nodes_l ts))
      (λ t L e. let p : i ≡ a + nodes t = omega arith in
      record { part = generates x t; is = refl; sort = refl; laid = (L.0, node_at_lem N p, arg-at s (f (omega arith)) p); size = omega arith }) ts lo hi L e
  made of_binding x ts lo hi L N e z f =
      with-one (λ ts. LaidL s d a ts → i ≡ a + nodes_l ts → Made (make of_binding x ts) true s d a (nodes_l ts))
      (λ t L e. let p : i ≡ a + nodes t = omega arith in
      record { part = binds x t; is = refl; sort = refl; laid = (L.0, node_at_lem N p, arg-at s (f (omega arith)) p); size = omega arith }) ts lo hi L e
  made of_condition x ts lo hi L N e z f =
      with-one (λ ts. LaidL s d a ts → i ≡ a + nodes_l ts → Made (make of_condition x ts) true s d a (nodes_l ts))
      (λ t L e. let p : i ≡ a + nodes t = omega arith in
      record { part = holds t; is = refl; sort = refl; laid = (L.0, node_at_lem N p); size = omega arith }) ts lo hi L e

pub fixed-is : {skip : ℕ} {c : Bytes} {v : Option ℕ} {a : ℕ} → Fixed skip c v → v ≡ Some a → FixedIs skip c a
fixed-is {skip} {c} X e = subst (FixedBy skip c) e X.is

pub terms-found : {most : ℕ} {l : Bytes} {s s' : List ℕ} {p : ParseState} {t : Outcome (ℕ × ℕ × ℕ)} {count left i : ℕ} → TermsPost most l s p s' t → t ≡ Ok (count, left, i) →
    TermsFound (E.terms (read_part p.levels) most l p.left) s' p count left i × (count ≤ most)
terms-found {most} {l} {s' = s'} {p} T e = subst (TermsBy (E.terms (read_part p.levels) most l p.left) s' p most) e T.is

pub compound-broken : {k : ℕ} {h : Arity} {c : Bytes} {s : List ℕ} {p : ParseState} {v : Option ℕ} → Fixed h.skip c v → v ≡ None → CompoundPost k h c s p s (Err BrokenRecord)
compound-broken {h = h} {c} {p = p} X e =
    record {
      is = λ q H. content-broken (read_part p.levels) (λ n. part_none p.levels false [] n refl) H c p.left (subst (FixedBy h.skip c) e X.is);
      kept = kept_refl;
    }

compound-by : (R : Reader) → ((n : ℕ) → R false [] n ≡ refused 22) → {K : Kind} {q : Bool} {least most skip : ℕ} (H : HasTerms K q least most skip) (c : Bytes) (n : ℕ) {a : ℕ} {x : E.Read Terms} →
    FixedIs skip c a → E.terms R most (after c skip) n ≡ x → content R true K c n ≡ and_then x (λ s. and_then (make H a s.is) (λ p. yields p [] s.left))
compound-by R nothing {most = most} {skip} H c n X e =
    content-by R nothing H c n X.fits ∙
    ap₂ (λ (x : E.Read Terms) (a : ℕ). and_then x (λ s. and_then (make H a s.is) (λ p. yields p [] s.left))) (ap (λ (l : Bytes). E.terms R most l n) (sym (after_is c skip)) ∙ e) (sym X.is)

module _ {k : ℕ} {h : Arity} {c : Bytes} {s s' : List ℕ} {p : ParseState} {v : Option ℕ} {a : ℕ} {t : Outcome (ℕ × ℕ × ℕ)} (X : Fixed h.skip c v) (ve : v ≡ Some a)
    (T : TermsPost h.most (after c h.skip) s p s' t) where
  pub compound-refused : {x : Refusal} → t ≡ Err x → CompoundPost k h c s p s' (Err x)
  unfolding and_then
  compound-refused {x} e =
      record {
        is = λ q H. compound-by (read_part p.levels) (λ n. part_none p.levels false [] n refl) H c p.left (fixed-is X ve) (subst (TermsBy (E.terms (read_part p.levels) h.most (after c h.skip) p.left) s' p h.most) e T.is);
        kept = T.kept;
      }

  pub compound-few : {count left i : ℕ} → t ≡ Ok (count, left, i) → count < h.least → CompoundPost k h c s p s' (Err BrokenRecord)
  unfolding and_then
  compound-few {count} {left} e l =
      let F = terms-found T e in
      record {
        is = λ q H. compound-by (read_part p.levels) (λ n. part_none p.levels false [] n refl) H c p.left (fixed-is X ve) F.0.is ∙ ap (λ (x : Result Part). and_then x (λ p. yields p [] left)) (few H a F.0.trees (omega (arith, F.0.many)));
        kept = T.kept;
      }

  pub compound-done : {count left i x : ℕ} {s'' : List ℕ} {r : ℕ × ℕ} → t ≡ Ok (count, left, i) → h.least ≤ count → FinishPost s' k x p left i s'' r →
      (h.skip ≡ 0 → x ≡ count) → ((h.skip ≡ 0 → ⊥) → x ≡ a) → CompoundPost k h c s p s'' (Ok r)
  unfolding and_then
  compound-done {count} {left} {i} {x} {s''} e l D z f =
      let F = (terms-found T e).0 in
      let n = F.end in
      subst (λ (r : ℕ × ℕ). CompoundPost k h c s p s'' (Ok r)) (sym D.is)
      (record {
        is = λ q H.
            let M = made H a F.trees (omega (arith, F.many)) (omega (arith, F.many, (terms-found T e).1)) (terms-kept F.trees p.depth p.node D.kept (omega arith) F.laid) D.node F.end
            (λ u. D.arg ∙ z u ∙ F.many) (λ u. D.arg ∙ f u) in
            record {
              part = M.part;
              sort = M.sort;
              is = compound-by (read_part p.levels) (λ n. part_none p.levels false [] n refl) H c p.left (fixed-is X ve) F.is ∙ ap (λ (x : Result Part). and_then x (λ p. yields p [] left)) M.is;
              laid = M.laid;
              end = omega (arith, M.size);
              spent = omega (arith, M.size, F.spent);
            };
        kept = kept_trans (omega arith) T.kept D.kept;
      })
