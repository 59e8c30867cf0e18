-- What a kind says of its record's content.
use Rattle.std.specs.Prelude.{◌≡◌, [], ◌∷◌, Bool, true, false, ◌&&◌, ℕ, ◌≤◌, ◌<◌, leb, length, get_or, Option, Some, None}
use Rattle.spec_calculus.specs.Lists.{pick}
use Rattle.spec_calculus.specs.Syntax.{Bin, Term, num, truth, name, table}
use Rattle.spec_encoding.specs.Record.{Bytes, refused, byte, two}
use Rattle.spec_encoding.specs.Reader.{Kind, kinds, unknown, number, truth_k, name_k, field_k, record', not, table_k, comprehension, generator, binding, condition, choice_k, open_k, two_terms, Reader, term, yields, content}
use Rattle.base_syntax.specs.Numbers.{constant_of}
use Rattle.front_parser.specs.declared.value.ContentKind.{ContentKind}
use Rattle.front_parser.specs.declared.Arity.{Arity}

-- the kinds of records without records inside
pub data LeafKind : ℕ → Type 0 where
  number_kind : LeafKind 1
  truth_kind : LeafKind 2
  is_name : LeafKind 3
  table_kind : LeafKind 15

-- The kinds whose content is terms: whether it is a qualifier, the least and the most terms, and the bytes before them.
pub data HasTerms : Kind → Bool → ℕ → ℕ → ℕ → Type 0 where
  of_field : HasTerms field_k false 1 1 1
  of_record : HasTerms record' false 1 8 0
  of_two : (o : Bin) → HasTerms (two_terms o) false 2 2 0
  of_not : HasTerms not false 1 1 0
  of_choice : HasTerms choice_k false 3 3 0
  of_open : HasTerms open_k false 1 1 1
  of_generator : HasTerms generator true 1 1 2
  of_binding : HasTerms binding true 1 1 2
  of_condition : HasTerms condition true 1 1 0

-- a term's content by its kind
abbrev pub ShapedBy : ℕ → ContentKind → Type 0
ShapedBy k ContentKind.Value = LeafKind k
ShapedBy k (ContentKind.Terms h) = HasTerms (get_or kinds k unknown) false h.least h.most h.skip × (k < 32)
ShapedBy k ContentKind.Comprehension = get_or kinds k unknown ≡ comprehension
ShapedBy k ContentKind.Other = (R : Reader) (c : Bytes) (n : ℕ) → content R false (get_or kinds k unknown) c n ≡ refused 22

pub record ShapeOfPost (k : ℕ) (r : ContentKind) : Type 0 where
  pub is : ShapedBy k r

-- a qualifier's kind, or one that is read alike where no qualifier may stand
abbrev pub LooksBy : ℕ → Option Arity → Type 0
LooksBy k (Some h) = HasTerms (get_or kinds k unknown) true h.least h.most h.skip × (k < 32)
LooksBy k None = (R : Reader) (c : Bytes) (n : ℕ) → content R true (get_or kinds k unknown) c n ≡ content R false (get_or kinds k unknown) c n

pub record LookAheadPost (k : ℕ) (r : Option Arity) : Type 0 where
  pub is : LooksBy k r

-- the bytes before a record's terms: none, a field's index or a calendar's number, a name; whether they may stand, and what they say
abbrev pub fixed_ok : ℕ → Bytes → Bool
fixed_ok skip c = get_or (true ∷ leb 1 (length c) ∷ (leb 2 (length c) && leb (two c 0) 255) ∷ []) skip false

abbrev pub fixed_of : ℕ → Bytes → ℕ
fixed_of skip c = get_or (0 ∷ byte c 0 ∷ two c 0 ∷ []) skip 0

pub record FixedIs (skip : ℕ) (c : Bytes) (a : ℕ) : Type 0 where
  pub fits : fixed_ok skip c ≡ true
  pub is : a ≡ fixed_of skip c
  pub small : a < 256
  pub within : skip ≤ length c

abbrev pub FixedBy : ℕ → Bytes → Option ℕ → Type 0
FixedBy skip c (Some a) = FixedIs skip c a
FixedBy skip c None = fixed_ok skip c ≡ false

pub record Fixed (skip : ℕ) (c : Bytes) (r : Option ℕ) : Type 0 where
  pub is : FixedBy skip c r

-- a term without terms inside, and its node's argument
pub data LeafRecord : Kind → ℕ → Term → Type 0 where
  a_number : (a : ℕ) → LeafRecord number a (num (constant_of a))
  a_truth : (b : Bool) → LeafRecord truth_k (pick b 1 0) (truth b)
  a_name : (a : ℕ) → LeafRecord name_k a (name a)
  a_table : (a : ℕ) → LeafRecord table_k a (table a)

pub record ValueIs (K : Kind) (c : Bytes) (a : ℕ) : Type 0 where
  pub tree : Term
  pub leaf : LeafRecord K a tree
  pub is : (R : Reader) (q : Bool) (n : ℕ) → content R q K c n ≡ yields (term tree) [] n
  pub small : a < 8589934592

abbrev pub ValuedBy : Kind → Bytes → Option ℕ → Type 0
ValuedBy K c (Some a) = ValueIs K c a
ValuedBy K c None = (R : Reader) (q : Bool) (n : ℕ) → content R q K c n ≡ refused 22

pub record Valued (K : Kind) (c : Bytes) (r : Option ℕ) : Type 0 where
  pub is : ValuedBy K c r
