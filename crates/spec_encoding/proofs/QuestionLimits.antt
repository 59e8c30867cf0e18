-- What every question that is read has, where each kind of record keeps it.
use mathlib.Core.Path.{◌≡◌, refl, sym, subst}
use mathlib.Core.List.{[], ◌∷◌}
use mathlib.Core.Bool.{Bool, true, false, ◌&&◌}
use Prim.Native.Nat.{ℕ, zero, suc, ◌-◌, ◌^◌, ◌<◌}
use native.Mathlib.Omega.{arith}
use lib.Dec.{leb, ltb, leb→le}
use lib.ListN.{length, get_or, drop}
use lib.IntN.{ℤ, pos, negsuc}
use lib.Signed.{mag}
use borrow.Author.Tests.{ltb-true, ltb-false}
use Rattle.spec_calculus.specs.Syntax.{Monoid, Bin, choice, Term, Terms, Quals, Question, num, truth, name, field, rec, bin, negate, app, comp, table, tnil, tcons, qnil, gen, bind, cond}
use Rattle.spec_calculus.specs.Lending.{unlent}
use Rattle.spec_encoding.specs.Record.{Bytes, Result, refused, got, and_then, require, two, four, signed, kind_of, content_of}
use Rattle.spec_encoding.specs.Reader.{Kind, kinds, number, truth_k, name_k, field_k, record', not, choice_k, open_k, table_k, comprehension, generator, binding, condition, unknown, two_terms, monoids, Part, term, generates, binds, holds, Step, Read, Reader, no_more, as_term, one_term, filled, terms, in_front, on_part, parts, comprehends, named, content, at_record, read_part, read_question}

-- what a reading gives, where it gives something
abbrev pub GotHas : {A : Type 0} → (A → Type 0) → Result A → Type 0
GotHas P (refused n) = Unit {0}
GotHas P (got a) = P a

gives_then : {A B : Type 0} (P : A → Type 0) (Q : B → Type 0) (r : Result A) (k : A → Result B) → GotHas P r → ((a : A) → P a → GotHas Q (k a)) → GotHas Q (and_then r k)
unfolding and_then
gives_then P Q (refused n) k p h = tt
gives_then P Q (got a) k p h = h a p

gives-require : {A : Type 0} (P : A → Type 0) (n : ℕ) (b : Bool) (r : Result A) → (b ≡ true → GotHas P r) → GotHas P (require n b r)
unfolding require
gives-require P n true r h = h refl
gives-require P n false r h = tt

-- Properties of terms, of at most so many terms of a record and of qualifiers, each below so many levels, that every kind keeps:
-- "1 number (4 signed bytes)", "3 name (.. 0 to 255)", "5 record (1 to 8 terms)".
pub record Keeps (F : ℕ → Term → Type 0) (L : ℕ → ℕ → Terms → Type 0) (Q : ℕ → Quals → Type 0) : Type 0 where
  pub number : (d : ℕ) (z : ℤ) → mag z < 2 ^ 31 → F (suc d) (num z)
  pub truth : (d : ℕ) (b : Bool) → F (suc d) (truth b)
  pub name : (d x : ℕ) → F (suc d) (name x)
  pub field : (d i : ℕ) (t : Term) → F d t → F (suc d) (field i t)
  pub record' : (d : ℕ) (t : Term) (ts : Terms) → F d t → L d 7 ts → F (suc d) (rec (tcons t ts))
  pub binary : (d : ℕ) (o : Bin) (t u : Term) → F d t → F d u → F (suc d) (bin o t u)
  pub negation : (d : ℕ) (t : Term) → F d t → F (suc d) (negate t)
  pub choice : (d : ℕ) (t u v : Term) → F d t → F d u → F d v → F (suc d) (app choice (tcons t (tcons u (tcons v tnil))))
  pub opening : (d n : ℕ) (t : Term) → F d t → F (suc d) (app (unlent n) (tcons t tnil))
  pub comprehension : (d : ℕ) (m : Monoid) (qs : Quals) (h : Term) → Q d qs → F d h → F (suc d) (comp m qs h)
  pub table : (d k : ℕ) → F (suc d) (table k)
  pub deeper : (d : ℕ) (t : Term) → F d t → F (suc d) t
  pub no-term : (d k : ℕ) → L d k tnil
  pub term : (d k : ℕ) (t : Term) (ts : Terms) → F d t → L d k ts → L d (suc k) (tcons t ts)
  pub no-qualifier : (d : ℕ) → Q d qnil
  pub generator : (d x : ℕ) (t : Term) (qs : Quals) → x < 256 → F d t → Q d qs → Q d (gen x t qs)
  pub binding : (d x : ℕ) (t : Term) (qs : Quals) → x < 256 → F d t → Q d qs → Q d (bind x t qs)
  pub condition : (d : ℕ) (t : Term) (qs : Quals) → F d t → Q d qs → Q d (cond t qs)

abbrev Each : {A : Type 0} → (A → Type 0) → Step A → Type 0
Each P s = P s.is

filled-gives : {A : Type 0} (P : A → Type 0) (a : A) (l : Bytes) (n : ℕ) → P a → GotHas (Each P) (filled a l n)
unfolding filled
filled-gives P a [] n p = p
filled-gives P a (b ∷ l) n p = tt

no-more : {A : Type 0} (P : A → Type 0) (l : Bytes) → GotHas P (no_more l)
unfolding no_more
no-more P [] = tt
no-more P (b ∷ l) = tt

-- -2^31 is of magnitude 2^31 - 1 in this sense: both ends of the range are within it
signed-within : (n : ℕ) → mag (signed n) < 2 ^ 31
unfolding signed
signed-within n = go (ltb n 0x80000000) refl
  where
    go : (t : Bool) → ltb n 0x80000000 ≡ t → mag (elim t [ true ↦ pos n | false ↦ negsuc (0xffffffff - n) ]) < 2 ^ 31
    go true e = omega (arith, ltb-true n 0x80000000 e)
    go false e = omega (arith, ltb-false n 0x80000000 e)

small-name : (a b : Bool) (c : Bytes) → leb (two c 0) 255 ≡ b → (a && b) ≡ true → two c 0 < 256
small-name true true c e p = let g = leb→le (two c 0) 255 (subst lib.Dec.T (sym e) tt) in omega (arith, g)
small-name true false c e p = let z : ◌≡◌ {A = ℕ} 0 1 = cc in absurd (omega arith)
small-name false b c e p = let z : ◌≡◌ {A = ℕ} 0 1 = cc in absurd (omega arith)

module _ {F : ℕ → Term → Type 0} {L : ℕ → ℕ → Terms → Type 0} {Q : ℕ → Quals → Type 0} (K : Keeps F L Q) where
  abbrev Part' : ℕ → Part → Type 0
  Part' d (term t) = F d t
  Part' d (generates x t) = (x < 256) × F d t
  Part' d (binds x t) = (x < 256) × F d t
  Part' d (holds t) = F d t

  abbrev Question' : ℕ → Question → Type 0
  Question' d q = Q d q.quals × F d q.head

  as-term : (d : ℕ) (x : Part) → Part' d x → GotHas (F d) (as_term x)
  unfolding as_term
  as-term d (term t) p = p
  as-term d (generates x t) p = tt
  as-term d (binds x t) p = tt
  as-term d (holds t) p = tt

  -- over a reader of the records inside, which may be d levels deep
  module _ (d : ℕ) (R : Reader) (h : (q : Bool) (l : Bytes) (n : ℕ) → GotHas (Each (Part' d)) (R q l n)) where
    one-term : {A : Type 0} (P : A → Type 0) (l : Bytes) (n : ℕ) (k : Term → Bytes → ℕ → Read A) → ((t : Term) (r : Bytes) (j : ℕ) → F d t → GotHas (Each P) (k t r j)) → GotHas (Each P) (one_term R l n k)
    unfolding one_term
    one-term P l n k g =
        gives_then (Each (Part' d)) (Each P) (R false l n) _ (h false l n) (λ s p.
        gives_then (F d) (Each P) (as_term s.is) _ (as-term d s.is p) (λ t q. g t s.rest s.left q))

    terms-give : (k : ℕ) (l : Bytes) (n : ℕ) → GotHas (Each (L d k)) (terms R k l n)
    unfolding terms
    terms-give zero l n = filled-gives (L d zero) tnil l n (K.no-term d zero)
    terms-give (suc k) [] n = K.no-term d (suc k)
    terms-give (suc k) (b ∷ l) n = one-term (L d (suc k)) (b ∷ l) n _ (λ t r j p. gives_then (Each (L d k)) (Each (L d (suc k))) (terms R k r j) _ (terms-give k r j) (λ s q. K.term d k t s.is p q))

    -- where a byte is left, a term is read
    record-gives : (c : Bytes) (n : ℕ) → leb 1 (length c) ≡ true → GotHas (Each (λ ts. F (suc d) (rec ts))) (terms R 8 c n)
    unfolding terms
    record-gives [] n e = let z : ◌≡◌ {A = ℕ} 0 1 = cc in absurd (omega arith)
    record-gives (b ∷ l) n e = one-term (λ ts. F (suc d) (rec ts)) (b ∷ l) n _ (λ t r j p. gives_then (Each (L d 7)) (Each (λ ts. F (suc d) (rec ts))) (terms R 7 r j) _ (terms-give 7 r j) (λ s q. K.record' d t s.is p q))

    on-part : (x : Part) → Part' d x → (m : Monoid) (l : Bytes) (n : ℕ) (more : Bytes → ℕ → Read Question) → ((r : Bytes) (j : ℕ) → GotHas (Each (Question' d)) (more r j)) → GotHas (Each (Question' d)) (on_part x m l n more)
    unfolding on_part in_front
    on-part (term t) p m l n more g = filled-gives (Question' d) (record { monoid = m; quals = qnil; head = t }) l n (K.no-qualifier d, p)
    on-part (generates x t) p m l n more g = gives_then (Each (Question' d)) (Each (Question' d)) (more l n) _ (g l n) (λ s q. (K.generator d x t s.is.quals p.0 p.1 q.0, q.1))
    on-part (binds x t) p m l n more g = gives_then (Each (Question' d)) (Each (Question' d)) (more l n) _ (g l n) (λ s q. (K.binding d x t s.is.quals p.0 p.1 q.0, q.1))
    on-part (holds t) p m l n more g = gives_then (Each (Question' d)) (Each (Question' d)) (more l n) _ (g l n) (λ s q. (K.condition d t s.is.quals p q.0, q.1))

    parts-give : (m : Monoid) (k : ℕ) (l : Bytes) (n : ℕ) → GotHas (Each (Question' d)) (parts R m k l n)
    unfolding parts
    parts-give m zero l n = no-more (Each (Question' d)) l
    parts-give m (suc k) l n = gives_then (Each (Part' d)) (Each (Question' d)) (R true l n) _ (h true l n) (λ s p. on-part s.is p m s.rest s.left _ (λ r j. parts-give m k r j))

    comprehends-give : (l : Bytes) (n : ℕ) → GotHas (Each (Question' d)) (comprehends R l n)
    unfolding comprehends
    comprehends-give [] n = tt
    comprehends-give (b ∷ l) n = gives_then (λ m. Unit {0}) (Each (Question' d)) (get_or monoids b (refused 22)) _ (any (get_or monoids b (refused 22))) (λ m u. parts-give m n l n)
      where
        any : (r : Result Monoid) → GotHas (λ m. Unit {0}) r
        any (refused k) = tt
        any (got m) = tt

    abbrev Inner : Part → Type 0
    Inner x = Part' (suc d) x

    named-gives : (part : ℕ → Term → Part) → ((x : ℕ) (t : Term) → x < 256 → F (suc d) t → Inner (part x t)) → (c : Bytes) (n : ℕ) → GotHas (Each Inner) (named R part c n)
    unfolding named
    named-gives part f c n = gives-require (Each Inner) 22 (leb 2 (length c) && leb (two c 0) 255) _ (λ e.
        one-term Inner (drop 2 c) n _ (λ t l j p. filled-gives Inner (part (two c 0) t) l j (f (two c 0) t (small-name (leb 2 (length c)) (leb (two c 0) 255) c refl e) (K.deeper d t p))))

    content-gives : (q : Bool) (k : Kind) (c : Bytes) (n : ℕ) → GotHas (Each Inner) (content R q k c n)
    unfolding content
    content-gives q number c n = gives-require (Each Inner) 22 _ _ (λ e. K.number d _ (signed-within (four c 0)))
    content-gives q truth_k c n = gives-require (Each Inner) 22 _ _ (λ e. K.truth d _)
    content-gives q name_k c n = gives-require (Each Inner) 22 _ _ (λ e. K.name d _)
    content-gives q field_k c n = gives-require (Each Inner) 22 _ _ (λ e. one-term Inner (drop 1 c) n _ (λ t l j p. filled-gives Inner _ l j (K.field d _ t p)))
    content-gives q record' c n = gives-require (Each Inner) 22 (leb 1 (length c)) _ (λ e. gives_then (Each (λ ts. F (suc d) (rec ts))) (Each Inner) (terms R 8 c n) _ (record-gives c n e) (λ s p. p))
    content-gives q (two_terms o) c n = one-term Inner c n _ (λ t l j p. one-term Inner l j _ (λ u r i w. filled-gives Inner _ r i (K.binary d o t u p w)))
    content-gives q not c n = one-term Inner c n _ (λ t l j p. filled-gives Inner _ l j (K.negation d t p))
    content-gives q choice_k c n = one-term Inner c n _ (λ t l j p. one-term Inner l j _ (λ u r i w. one-term Inner r i _ (λ v b h x. filled-gives Inner _ b h (K.choice d t u v p w x))))
    content-gives q open_k c n = gives-require (Each Inner) 22 _ _ (λ e. one-term Inner (drop 1 c) n _ (λ t l j p. filled-gives Inner _ l j (K.opening d _ t p)))
    content-gives q comprehension c n = gives_then (Each (Question' d)) (Each Inner) (comprehends R c n) _ (comprehends-give c n) (λ s p. K.comprehension d s.is.monoid s.is.quals s.is.head p.0 p.1)
    content-gives q table_k c n = gives-require (Each Inner) 22 _ _ (λ e. K.table d _)
    content-gives q generator c n = gives-require (Each Inner) 22 _ _ (λ e. named-gives generates (λ x t l p. (l, p)) c n)
    content-gives q binding c n = gives-require (Each Inner) 22 _ _ (λ e. named-gives binds (λ x t l p. (l, p)) c n)
    content-gives q condition c n = gives-require (Each Inner) 22 _ _ (λ e. one-term Inner c n _ (λ t l j p. filled-gives Inner _ l j (K.deeper d t p)))
    content-gives q unknown c n = tt

    at-record : (q : Bool) (l : Bytes) (n : ℕ) → GotHas (Each Inner) (at_record R q l n)
    unfolding at_record
    at-record q l zero = no-more (Each Inner) l
    at-record q l (suc n) = gives-require (Each Inner) 22 _ _ (λ e.
        gives_then (Each Inner) (Each Inner) (content R q (get_or kinds (kind_of l) unknown) (content_of l) n) _ (content-gives q (get_or kinds (kind_of l) unknown) (content_of l) n) (λ s p. p))

  part_gives : (levels : ℕ) (q : Bool) (l : Bytes) (n : ℕ) → GotHas (Each (Part' levels)) (read_part levels q l n)
  unfolding read_part
  part_gives zero q l n = no-more (Each (Part' zero)) l
  part_gives (suc levels) q l n = at-record levels (λ p r j. read_part levels p r j) (λ p r j. part_gives levels p r j) q l n

  -- "23: a 33rd level": below the question may be 31 more
  pub question-kept : (l : Bytes) {q : Question} → read_question l ≡ got q → Q 31 q.quals × F 31 q.head
  unfolding read_question
  question-kept l {q} e = subst (GotHas (Question' 31)) e all
    where
      all : GotHas (Question' 31) (read_question l)
      all = gives-require (Question' 31) 21 _ _ (λ a. gives-require (Question' 31) 22 _ _ (λ b.
          gives_then (Each (Question' 31)) (Question' 31) (comprehends (read_part 31) (content_of l) 255) _ (comprehends-give 31 (read_part 31) (part_gives 31) (content_of l) 255) (λ s p.
          gives-require (Question' 31) 22 _ _ (λ c. p))))
