-- What each reader ensures: its answer is the one that the definition gives at the same bytes, and what was read lies in
-- scratch from the place's node on.
use Rattle.std.specs.Prelude.{◌≡◌, List, [], Bool, true, false, ℕ, ◌+◌, ◌*◌, ◌≤◌, ◌<◌, length, get_or, drop, Ok, Err}
use Rattle.spec_calculus.specs.Syntax.{Monoid, Term, Terms, Quals, Question, as_term}
use Rattle.spec_encoding.specs.Record.{Bytes, Result, refused, got}
use Rattle.spec_encoding.specs.Reader as E
use Rattle.spec_encoding.specs.Reader.{kinds, unknown, generator, binding, condition, Part, term, generates, binds, holds, yields, comprehends, read_part, read_question}
use Rattle.front_words.specs.NodeTree.{arg_at, tree_at}
use Rattle.front_words.specs.LaidTree.{nodes, nodes_l, nodes_q, count_l, LaidNode, Laid, LaidL, LaidQ}
use Rattle.base_refusals.specs.Numbers.{number_of}
use Rattle.front_parser.specs.RecordFront.{Outcome}
use Rattle.front_parser.specs.ReaderScratch.{NodesKept}
use Rattle.front_parser.specs.RecordKinds.{HasTerms}
use Rattle.front_parser.specs.declared.ParseState.{ParseState}
use Rattle.front_parser.specs.declared.Arity.{Arity}
use Rattle.front_parser.specs.declared.Item.{Item}

-- where a reader stands behind what was read
abbrev pub behind_of : ParseState → ℕ → ℕ → ParseState
behind_of p left i = record { levels = p.levels; left = left; node = i; depth = p.depth }

-- ---- the nodes of a part
abbrev pub qualifies : Part → Bool
qualifies (term t) = false
qualifies (generates x t) = true
qualifies (binds x t) = true
qualifies (holds t) = true

abbrev pub nodes_p : Part → ℕ
nodes_p (term t) = nodes t
nodes_p (generates x t) = nodes t + 1
nodes_p (binds x t) = nodes t + 1
nodes_p (holds t) = nodes t + 1

abbrev pub LaidP : List ℕ → ℕ → ℕ → Part → Type 0
LaidP s d a (term t) = Laid s d a t
LaidP s d a (generates x t) = Laid s d a t × LaidNode s d a (a + nodes t) generator × (arg_at s (a + nodes t) ≡ x)
LaidP s d a (binds x t) = Laid s d a t × LaidNode s d a (a + nodes t) binding × (arg_at s (a + nodes t) ≡ x)
LaidP s d a (holds t) = Laid s d a t × LaidNode s d a (a + nodes t) condition

-- A part was read: a qualifier or a term, as q says; it lies from node a to e, at depth d, and its nodes were taken from
-- the b records that might still be begun.
pub record PartRead (q : Bool) (x : E.Read Part) (rest : Bytes) (s : List ℕ) (d a b left e : ℕ) : Type 0 where
  pub part : Part
  pub sort : qualifies part ≡ q
  pub is : x ≡ yields part rest left
  pub laid : LaidP s d a part
  pub end : e ≡ a + nodes_p part
  pub spent : left + nodes_p part ≡ b

-- ---- a record's content; its own node is one of those that were spent
abbrev pub FillsBy : Bool → E.Read Part → List ℕ → ParseState → Outcome (ℕ × ℕ) → Type 0
FillsBy q x s p (Ok (left, e)) = PartRead q x [] s p.depth p.node (p.left + 1) left e
FillsBy q x s p (Err k) = x ≡ refused (number_of k)

pub record ContentRead (k : ℕ) (c : Bytes) (s : List ℕ) (p : ParseState) (s' : List ℕ) (r : Outcome (ℕ × ℕ)) : Type 0 where
  pub is : FillsBy false (E.content (read_part p.levels) false (get_or kinds k unknown) c p.left) s' p r
  pub kept : NodesKept p.node s s'

pub record CompoundPost (k : ℕ) (h : Arity) (c : Bytes) (s : List ℕ) (p : ParseState) (s' : List ℕ) (r : Outcome (ℕ × ℕ)) : Type 0 where
  pub is : (q : Bool) → HasTerms (get_or kinds k unknown) q h.least h.most h.skip →
      FillsBy q (E.content (read_part p.levels) true (get_or kinds k unknown) c p.left) s' p r
  pub kept : NodesKept p.node s s'

-- ---- the term at the front
pub record FrontFound (q : Bool) (x : E.Read Part) (l : Bytes) (s : List ℕ) (p : ParseState) (used left e : ℕ) : Type 0 where
  pub found : PartRead q x (drop used l) s p.depth p.node p.left left e
  pub some : 4 ≤ used
  pub within : used ≤ length l

abbrev pub TermBy : E.Read Part → Bytes → List ℕ → ParseState → Outcome (ℕ × ℕ × ℕ) → Type 0
TermBy x l s p (Ok (used, left, e)) = FrontFound false x l s p used left e
TermBy x l s p (Err k) = x ≡ refused (number_of k)

pub record TermPost (l : Bytes) (s : List ℕ) (p : ParseState) (s' : List ℕ) (r : Outcome (ℕ × ℕ × ℕ)) : Type 0 where
  pub is : TermBy (read_part p.levels false l p.left) l s' p r
  pub kept : NodesKept p.node s s'

-- ---- terms to the end of the bytes
pub record TermsFound (x : E.Read Terms) (s : List ℕ) (p : ParseState) (count left e : ℕ) : Type 0 where
  pub trees : Terms
  pub is : x ≡ yields trees [] left
  pub laid : LaidL s p.depth p.node trees
  pub end : e ≡ p.node + nodes_l trees
  pub spent : left + nodes_l trees ≡ p.left
  pub many : count ≡ count_l trees

abbrev pub TermsBy : E.Read Terms → List ℕ → ParseState → ℕ → Outcome (ℕ × ℕ × ℕ) → Type 0
TermsBy x s p most (Ok (count, left, e)) = TermsFound x s p count left e × (count ≤ most)
TermsBy x s p most (Err k) = x ≡ refused (number_of k)

pub record TermsPost (most : ℕ) (l : Bytes) (s : List ℕ) (p : ParseState) (s' : List ℕ) (r : Outcome (ℕ × ℕ × ℕ)) : Type 0 where
  pub is : TermsBy (E.terms (read_part p.levels) most l p.left) s' p most r
  pub kept : NodesKept p.node s s'

-- ---- a qualifier or the head at the front
abbrev pub ItemBy : E.Read Part → Bytes → List ℕ → ParseState → Outcome Item → Type 0
ItemBy x l s p (Ok (Item.Qualifier used left e)) = FrontFound true x l s p used left e
ItemBy x l s p (Ok (Item.Head used left e)) = FrontFound false x l s p used left e
ItemBy x l s p (Err k) = x ≡ refused (number_of k)

pub record QualifierPost (l : Bytes) (s : List ℕ) (p : ParseState) (s' : List ℕ) (r : Outcome Item) : Type 0 where
  pub is : ItemBy (read_part p.levels true l p.left) l s' p r
  pub kept : NodesKept p.node s s'

-- ---- qualifiers and a head to the end of the bytes, for any monoid and any rounds that suffice
abbrev pub rounds : ParseState → Bytes → (Monoid → E.Read Question) → Type 0
rounds p l x = (m : Monoid) (k : ℕ) → p.left ≤ k → E.parts (read_part p.levels) m k l p.left ≡ x m

pub record PartsFound (l : Bytes) (s : List ℕ) (p : ParseState) (left e : ℕ) : Type 0 where
  pub quals : Quals
  pub head : Term
  pub is : rounds p l (λ m. yields (record { monoid = m; quals = quals; head = head }) [] left)
  pub laid : LaidQ s p.depth p.node quals
  pub laid_head : Laid s p.depth (p.node + nodes_q quals) head
  pub end : e ≡ p.node + nodes_q quals + nodes head
  pub spent : left + (nodes_q quals + nodes head) ≡ p.left

abbrev pub PartsBy : Bytes → List ℕ → ParseState → Outcome (ℕ × ℕ) → Type 0
PartsBy l s p (Ok (left, e)) = PartsFound l s p left e
PartsBy l s p (Err k) = rounds p l (λ m. refused (number_of k))

pub record PartsPost (l : Bytes) (s : List ℕ) (p : ParseState) (s' : List ℕ) (r : Outcome (ℕ × ℕ)) : Type 0 where
  pub is : PartsBy l s' p r
  pub kept : NodesKept p.node s s'

-- ---- the content of kind 14
pub record ComprehensionFound (x : E.Read Question) (s : List ℕ) (p : ParseState) (left e : ℕ) : Type 0 where
  pub question : Question
  pub is : x ≡ yields question [] left
  pub laid : Laid s p.depth p.node (as_term question)
  pub end : e ≡ p.node + nodes (as_term question)
  pub spent : left + nodes (as_term question) ≡ p.left + 1

abbrev pub ComprehensionBy : E.Read Question → List ℕ → ParseState → Outcome (ℕ × ℕ) → Type 0
ComprehensionBy x s p (Ok (left, e)) = ComprehensionFound x s p left e
ComprehensionBy x s p (Err k) = x ≡ refused (number_of k)

pub record ComprehensionPost (c : Bytes) (s : List ℕ) (p : ParseState) (s' : List ℕ) (r : Outcome (ℕ × ℕ)) : Type 0 where
  pub is : ComprehensionBy (comprehends (read_part p.levels) c p.left) s' p r
  pub kept : NodesKept p.node s s'

-- ---- the question: its tree is what the words hold, and every node lies as `Laid` says, its depth included
pub record QuestionLaid (x : Result Question) (s : List ℕ) (n : ℕ) : Type 0 where
  pub question : Question
  pub is : x ≡ got question
  pub some : 1 ≤ n
  pub few : n ≤ 256
  pub tree : (f : ℕ) → 2 * n < f → tree_at f s n ≡ as_term question
  pub laid : Laid s 0 0 (as_term question)
  pub count : n ≡ nodes (as_term question)

abbrev pub QuestionBy : Result Question → List ℕ → Outcome ℕ → Type 0
QuestionBy x s (Ok n) = QuestionLaid x s n
QuestionBy x s (Err k) = x ≡ refused (number_of k)

-- only the words of the 256 nodes may differ
pub record ReadQuestionPost (l : Bytes) (s s' : List ℕ) (r : Outcome ℕ) : Type 0 where
  pub is : QuestionBy (read_question l) s' r
  pub kept : NodesKept 0 s s'
