-- A question from its bytes. "A comprehension reads qualifiers, a qualifier reads terms, and a term may be a
-- comprehension again." "22 and 23 in reading order, 23 first at one record."
use Rattle.std.specs.Prelude.{List, [], ◌∷◌, Bool, true, false, ◌&&◌, ℕ, zero, suc, eqb, leb, length, get_or, drop}
use Rattle.spec_calculus.specs.Syntax.{list, bag, set, Monoid, of, sum, max, min, some, all, Bin, plus, minus, times, equal, less, and, or, choice, Term, Terms, Quals, num, truth, name, field, rec, bin, negate, app, comp, table, tnil, tcons, qnil, gen, bind, cond, Question}
use Rattle.spec_calculus.specs.Lending.{unlent}
use Rattle.spec_encoding.specs.Record.{Bytes, Result, refused, got, and_then, require, byte, two, four, signed, kind_of, content_of, behind, is_whole}

-- "Kinds: 1 number ..; 2 truth ..; 3 name ..; 4 field ..; 5 record ..; 6 plus, 7 minus, 8 times, 9 equal, 10 less, 11 and, 12 or
-- ..; 13 not ..; 15 table .. Kind 14 is one byte of monoid, .. Qualifiers: 16 generator .., 17 binding .., 18 condition .."; "kind 19, three terms"
-- (document 02, E2); "Kind 21 holds one byte of calendar and one number term" (E4)
pub data Kind : Type 0 where
  number truth_k name_k field_k record' not table_k comprehension generator binding condition choice_k open_k unknown : Kind
  two_terms : Bin → Kind

abbrev pub kinds : List Kind
kinds = unknown ∷ number ∷ truth_k ∷ name_k ∷ field_k ∷ record' ∷ two_terms plus ∷ two_terms minus ∷ two_terms times ∷ two_terms equal ∷ two_terms less
    ∷ two_terms and ∷ two_terms or ∷ not ∷ comprehension ∷ table_k ∷ generator ∷ binding ∷ condition ∷ choice_k ∷ unknown ∷ open_k ∷ []

-- monoids 1 to 8
abbrev pub monoids : List (Result Monoid)
monoids = refused 22 ∷ got (of list) ∷ got (of bag) ∷ got (of set) ∷ got sum ∷ got max ∷ got some ∷ got all ∷ got min ∷ []

-- what a record of a question stands for
pub data Part : Type 0 where
  term : Term → Part
  generates : ℕ → Term → Part
  binds : ℕ → Term → Part
  holds : Term → Part

-- what was read, the bytes behind it, and how many records may still be begun
pub record Step (A : Type 0) : Type 0 where
  pub is : A
  pub rest : Bytes
  pub left : ℕ

abbrev pub Read : Type 0 → Type 0
Read A = Result (Step A)

abbrev pub yields : {A : Type 0} → A → Bytes → ℕ → Read A
yields a l n = got (record { is = a; rest = l; left = n })

-- a reader of the record at the front of some bytes; the truth says whether a qualifier may stand there
abbrev pub Reader : Type 0
Reader = Bool → Bytes → ℕ → Read Part

-- where no further record may be: "23: a 33rd level .. or a 257th record"; but where one must stand and no byte is left, 22
unfoldable pub no_more : {A : Type 0} → Bytes → Result A
no_more [] = refused 22
no_more (b ∷ l) = refused 23

-- the part as a term; elsewhere a qualifier was refused before
unfoldable pub as_term : Part → Result Term
as_term (term t) = got t
as_term (generates x t) = refused 22
as_term (binds x t) = refused 22
as_term (holds t) = refused 22

-- one term, then what follows
unfoldable pub one_term : {A : Type 0} → Reader → Bytes → ℕ → (Term → Bytes → ℕ → Read A) → Read A
one_term R l n k = and_then (R false l n) (λ s. and_then (as_term s.is) (λ t. k t s.rest s.left))

-- "must be filled exactly"
unfoldable pub filled : {A : Type 0} → A → Bytes → ℕ → Read A
filled a [] n = yields a [] n
filled a (b ∷ l) n = refused 22

-- "record (1 to 8 terms)": up to k more terms
unfoldable pub terms : Reader → ℕ → Bytes → ℕ → Read Terms
terms R zero l n = filled tnil l n
terms R (suc k) [] n = yields tnil [] n
terms R (suc k) (b ∷ l) n = one_term R (b ∷ l) n (λ t r m. and_then (terms R k r m) (λ s. yields (tcons t s.is) s.rest s.left))

-- "any count of qualifiers, then one head term", which fills the rest; `more` reads what follows a qualifier
unfoldable pub in_front : (Quals → Quals) → Read Question → Read Question
in_front f r = and_then r (λ s. yields (record { monoid = s.is.monoid; quals = f s.is.quals; head = s.is.head }) s.rest s.left)

unfoldable pub on_part : Part → Monoid → Bytes → ℕ → (Bytes → ℕ → Read Question) → Read Question
on_part (term h) m l n more = filled (record { monoid = m; quals = qnil; head = h }) l n
on_part (generates x t) m l n more = in_front (λ qs. gen x t qs) (more l n)
on_part (binds x t) m l n more = in_front (λ qs. bind x t qs) (more l n)
on_part (holds t) m l n more = in_front (λ qs. cond t qs) (more l n)

-- Each part is a record, so as many rounds suffice as records may still be begun: behind the last one none may be.
unfoldable pub parts : Reader → Monoid → ℕ → Bytes → ℕ → Read Question
parts R m zero l n = no_more l
parts R m (suc k) l n = and_then (R true l n) (λ s. on_part s.is m s.rest s.left (λ r j. parts R m k r j))

-- the content of kind 14
unfoldable pub comprehends : Reader → Bytes → ℕ → Read Question
comprehends R [] n = refused 22
comprehends R (b ∷ l) n = and_then (get_or monoids b (refused 22)) (λ m. parts R m n l n)

-- a two-byte name, then one term: generators and bindings
unfoldable pub named : Reader → (ℕ → Term → Part) → Bytes → ℕ → Read Part
named R part c n = require 22 (leb 2 (length c) && leb (two c 0) 255) (one_term R (drop 2 c) n (λ t l j. filled (part (two c 0) t) l j))

-- a record's content, by its kind; R reads the records inside it, one level further down
unfoldable pub content : Reader → Bool → Kind → Bytes → ℕ → Read Part
content R q number c n = require 22 (eqb (length c) 4) (yields (term (num (signed (four c 0)))) [] n)
content R q truth_k c n = require 22 (eqb (length c) 1 && leb (byte c 0) 1) (yields (term (truth (eqb (byte c 0) 1))) [] n)
content R q name_k c n = require 22 (eqb (length c) 2 && leb (two c 0) 255) (yields (term (name (two c 0))) [] n)
content R q field_k c n = require 22 (leb 1 (length c)) (one_term R (drop 1 c) n (λ t l j. filled (term (field (byte c 0) t)) l j))
content R q record' c n = require 22 (leb 1 (length c)) (and_then (terms R 8 c n) (λ s. yields (term (rec s.is)) [] s.left))
content R q (two_terms o) c n = one_term R c n (λ t l j. one_term R l j (λ u r i. filled (term (bin o t u)) r i))
content R q not c n = one_term R c n (λ t l j. filled (term (negate t)) l j)
content R q choice_k c n = one_term R c n (λ t l j. one_term R l j (λ u r i. one_term R r i (λ v b h. filled (term (app choice (tcons t (tcons u (tcons v tnil))))) b h)))
content R q open_k c n = require 22 (leb 1 (length c)) (one_term R (drop 1 c) n (λ t l j. filled (term (app (unlent (byte c 0)) (tcons t tnil))) l j))
content R q comprehension c n = and_then (comprehends R c n) (λ s. yields (term (comp s.is.monoid s.is.quals s.is.head)) [] s.left)
content R q table_k c n = require 22 (eqb (length c) 1) (yields (term (table (byte c 0))) [] n)
content R q generator c n = require 22 q (named R generates c n)
content R q binding c n = require 22 q (named R binds c n)
content R q condition c n = require 22 q (one_term R c n (λ t l j. filled (holds t) l j))
content R q unknown c n = refused 22

-- the record at the front, where n more records may be begun
unfoldable pub at_record : Reader → Bool → Bytes → ℕ → Read Part
at_record R q l zero = no_more l
at_record R q l (suc n) = require 22 (is_whole l) (and_then (content R q (get_or kinds (kind_of l) unknown) (content_of l) n) (λ s. yields s.is (behind l) s.left))

-- the same, where so many more levels may be
unfoldable pub read_part : ℕ → Reader
read_part zero q l n = no_more l
read_part (suc levels) q l n = at_record (λ p r j. read_part levels p r j) q l n

-- "21: over 4,096 bytes"; "22: .. none at all, or bytes left over (no record)"; "A question is one record of kind 14";
-- "23: a 33rd level (the question is level 1) or a 257th record"
unfoldable pub read_question : Bytes → Result Question
read_question l =
    require 21 (leb (length l) 4096)
    (require 22 (is_whole l && eqb (kind_of l) 14)
    (and_then (comprehends (read_part 31) (content_of l) 255) (λ s. require 22 (eqb (length (behind l)) 0) (got s.is))))
