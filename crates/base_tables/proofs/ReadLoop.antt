-- The loop of `read_data`: what holds while it runs, and a law for each way out. Assumes nothing.
use Rattle.std.proofs.Common.{◌≡◌, ℕ, suc, ◌+◌, ◌-◌, ◌*◌, ◌<◌, ◌≤◌, false, eqb, List, length, get_or, drop, set, replicate, sym, refl, ap, ◌∙◌, subst, inr, arith, length-drop, length-set, drop_of_length-le, get_or-set_other, get_or-set_same, eqb-true, Ok, Err}
use borrow.Author.Tests.{eqb-false}
use lib.ListN.{get_or-replicate}
use Rattle.spec_calculus.specs.Value.{Tables, is_there, no_tables}
use Rattle.spec_encoding.specs.Record.{Bytes, refused, got}
use Rattle.spec_encoding.specs.Data.{table_by, tables_from, read_data}
use Rattle.base_scratch.specs.ZeroedWords.{WipePost}
use Rattle.base_signed.proofs.SignedWords.{by-test, no}
use Rattle.base_tables.specs.Description.{most_tables}
use Rattle.base_tables.specs.DataReader.{table_at, descriptions_from, descriptions, refusal_number, ReadDataPost}
use Rattle.base_refusals.specs.declared.Refusal.{Refusal}
use Rattle.base_refusals.specs.declared.Refusal.TheVariants.{}
use Rattle.base_refusals.specs.Numbers.{number_of}
use Rattle.base_tables.proofs.DataRecords.{kind_at, content_at, tables-ninth, tables-none, descriptions-none, refused-at, ReadAt, read_at, number-few, next-far, next-within, next-near, read-tables, read-descriptions}
use Rattle.base_tables.proofs.NumberedTables.{Numbered, numbered-first, numbered_next, present-word}

-- n records have been read, those that follow begin at p; s₀ is scratch with no descriptions
pub record ReadLoop (d : Bytes) (s₀ s : List ℕ) (p n : ℕ) : Type 0 where
  pub room : 9 ≤ length s₀
  pub upto : n ≤ 8
  pub within : p ≤ length d
  pub small : p ≤ 32809 * n
  pub long : length s ≡ length s₀
  pub kept : (j : ℕ) → 9 ≤ j → get_or s j 0 ≡ get_or s₀ j 0
  pub done : Tables
  pub words : List ℕ
  pub numbered : Numbered d done words
  pub rest : read_data d ≡ tables_from (8 - n) done (drop p d)
  pub told : descriptions d ≡ descriptions_from (8 - n) p words (drop p d)
  pub each : (k : ℕ) → k < most_tables → get_or s (1 + k) 0 ≡ get_or words k 0

module _ (d : Bytes) {lent s : List ℕ} (W : WipePost 1 9 lent s) where
  pub going-first : 9 ≤ length lent → ReadLoop d s s 0 0
  unfolding read_data descriptions
  going-first r =
      record {
        room = omega (arith, r, W.long);
        upto = omega arith;
        within = omega arith;
        small = omega arith;
        long = refl;
        kept = λ j h. refl;
        done = no_tables;
        words = replicate most_tables 0;
        numbered = numbered-first d;
        rest = refl;
        told = refl;
        each = λ k h. W.inside (1 + k) (omega arith) (omega arith) ∙ sym (get_or-replicate most_tables k 0 0 h);
      }

  -- what the loop leaves of such scratch is what `read_data` leaves of the scratch as it was lent
  pub from-lent : {s' : List ℕ} {r : ℕ} → ReadDataPost d s s' r → ReadDataPost d lent s' r
  from-lent R = record { number = R.number; long = R.long ∙ W.long; kept = λ j h. R.kept j h ∙ W.outside j (inr h); stored = R.stored }

module _ {d : Bytes} {s₀ s : List ℕ} {p n : ℕ} (g : ReadLoop d s₀ s p n) where
  module _ (l : p < length d) where
    some : 0 < length (drop p d)
    some = rw length-drop (omega arith)

    no-more : {x : ℕ} → read_data d ≡ refused x → ReadDataPost d s₀ s x
    unfolding refusal_number
    no-more e =
        record {
          number = rw e;
          long = g.long;
          kept = g.kept;
          stored = λ T h. no (cc);
        }

    pub going-ninth : n ≡ 8 → ReadDataPost d s₀ s 13
    going-ninth e = no-more (g.rest ∙ rw (e, tables-ninth g.done (drop p d) some))

    pub going-falls : {k w e : ℕ} → table_at d s p ≡ Ok (k, w, e) → length d - e < length d - p
    going-falls h = let R = (read_at d s p h).0 in omega (arith, next-far R, next-within R g.within)

    pub going-number : {k w e : ℕ} → table_at d s p ≡ Ok (k, w, e) → k < 8
    going-number h = number-few (read_at d s p h).0

    module _ (ne : n ≡ 8 → ⊥) where
      left : 8 - n ≡ suc (8 - (n + 1))
      left = omega arith

      pub going-refused : {x : Refusal} → table_at d s p ≡ Err x → ReadDataPost d s₀ s (number_of x)
      going-refused e = no-more (g.rest ∙ rw (left, refused-at d s g.done (present-word g.numbered s g.each) p (8 - (n + 1)) some e))

      module _ {k w e : ℕ} (h : table_at d s p ≡ Ok (k, w, e)) {s' : List ℕ} (z : s' ≡ set s (1 + k) w) where
        R : ReadAt d p k w e
        R = (read_at d s p h).0

        free : is_there g.done k ≡ false
        free = sym (present-word g.numbered s g.each k) ∙ (read_at d s p h).1

        word-at : (j : ℕ) → j < most_tables → get_or s' (1 + j) 0 ≡ get_or (set g.words k w) j 0
        word-at j q = by-test (eqb j k)
            (λ t. let i = eqb-true j k t in
            subst (λ (x : ℕ). get_or s' (1 + x) 0 ≡ get_or (set g.words k w) x 0) (sym i)
            (rw z (get_or-set_same s (1 + k) w 0 (omega (arith, g.long, g.room, number-few R)))
            ∙ sym (get_or-set_same g.words k w 0 (omega (arith, g.numbered.words, number-few R)))))
            (λ t. let i = eqb-false j k t in
            rw z (get_or-set_other s (1 + k) (1 + j) w 0 (λ x. i (omega arith))) ∙ g.each j q ∙ sym (get_or-set_other g.words k j w 0 i))

        pub going_next : ReadLoop d s₀ s' e (n + 1)
        going_next =
            record {
              room = g.room;
              upto = omega (arith, g.upto);
              within = next-within R g.within;
              small = omega (arith, g.small, next-near R);
              long = rw (z, length-set) g.long;
              kept = λ j q. rw z (get_or-set_other s (1 + k) j w 0 (λ x. omega (arith, number-few R))) ∙ g.kept j q;
              done = set g.done k (table_by (kind_at d p) (content_at d p));
              words = set g.words k w;
              numbered = numbered_next g.numbered R;
              rest = g.rest ∙ rw left (read-tables R (8 - (n + 1)) some g.done free);
              told = g.told ∙ rw left (read-descriptions R (8 - (n + 1)) some g.words);
              each = word-at;
            }

  module _ (l : length d ≤ p) where
    all : read_data d ≡ got g.done
    all = g.rest ∙ rw (drop_of_length-le d l, tables-none (8 - n) g.done)

    words_are : descriptions d ≡ g.words
    words_are = g.told ∙ rw (drop_of_length-le d l, descriptions-none (8 - n) p g.words)

    pub going-ended : ReadDataPost d s₀ s 0
    unfolding refusal_number
    going-ended =
        record {
          number = rw all;
          long = g.long;
          kept = g.kept;
          stored = λ T h. record { each = λ k q. g.each k q ∙ ap (λ (D : List ℕ). get_or D k 0) (sym words_are) };
        }
