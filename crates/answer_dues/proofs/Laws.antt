-- Charging draughts in the buffer gives the raw words of the dues; brought to their written form they are the words of the bag of dues.
use mathlib.Core.Path.{◌≡◌, refl, sym, ap, ap₂, subst, ◌∙◌}
use mathlib.Core.List.{List, [], ◌∷◌, ◌++◌, map, append_assoc}
use Prim.Native.Nat.{ℕ, suc, ◌+◌, ◌-◌, ◌*◌, ◌≤◌, ◌<◌}
use native.Mathlib.Omega.{arith}
use lib.ListN.{length, get_or, set, replicate, length-append, length-map}
use lib.Seq.{set_out, set_at, get_or_at}
use lib.IntN.{ℤ, pos, nat_abs}
use Rattle.spec_calculus.specs.Syntax.{of, bag}
use Rattle.spec_calculus.specs.Value.{Value, vnil, vcons, num, rec, coll, from_list, count, as_int, nth, field_of}
use Rattle.spec_calculus.specs.Monoid.{canonical}
use Rattle.spec_calculus.proofs.Lists.{All}
use Rattle.spec_calculus.proofs.Folds.{to-from, arranged, arranged-alike, canonical-of}
use Rattle.spec_checks.specs.Types.{Ty}
use Rattle.spec_checks.specs.Types as Ty
use Rattle.spec_checks.proofs.Refold.{arrange_as, arrange-coll}
use Rattle.spec_outcome.specs.WrittenForm.{words}
use Rattle.spec_tariff.specs.Tariff.{Tariff, charge}
use Rattle.spec_tariff.specs.Dues.{ship_due}
use Rattle.answer_types.specs.Elements.{words_of}
use Rattle.answer_types.specs.Shape.{type_at}
use Rattle.answer_types.specs.TypedValues.{Of, a_number, a_record, a_collection, no_field, field}
use Rattle.answer_types.proofs.RawValueType.{from_all}
use Rattle.answer_types.proofs.Elements.{rearranged-size}
use Rattle.answer_canonical.specs.CompactingWalk.{FinishPost}
use Rattle.answer_canonical.proofs.ArrangedValues.{count-from, flat-same}
use Rattle.answer_ships.proofs.PreparedShips.{ship_type}
use Rattle.answer_dues.specs.Contract.{charged_at, charged_from, SettleDuesPost}

-- ---- charge_at
pub charged-in : (t : Tariff) (p : ℕ) (o : List ℤ) {x y : ℤ} → x ≡ get_or o p (pos 0) → y ≡ pos (charge t (nat_abs x)) → set o p y ≡ charged_at t p o
unfolding charged_at
charged-in t p o e f = ap (set o p) (f ∙ ap (λ (z : ℤ). pos (charge t (nat_abs z))) e)

pub charged-out : (t : Tariff) (p : ℕ) (o : List ℤ) → length o ≤ p → o ≡ charged_at t p o
unfolding charged_at
charged-out t p o l = sym (set_out o p (pos (charge t (nat_abs (get_or o p (pos 0))))) l)

-- ---- charge_all: the draughts from the k-th on decide
module _ (t : Tariff) (n : ℕ) (o₀ : List ℤ) where
  pub all_first : charged_from t 2 n o₀ ≡ charged_from t (2 + 2 * 0) (n - 0) o₀
  all_first = ap (λ (k : ℕ). charged_from t 2 k o₀) (omega arith)

  module _ (k : ℕ) (o : List ℤ) (inv : charged_from t 2 n o₀ ≡ charged_from t (2 + 2 * k) (n - k) o) where
    pub all-again : k < n → {o₁ : List ℤ} → o₁ ≡ charged_at t (2 + 2 * k) o → charged_from t 2 n o₀ ≡ charged_from t (2 + 2 * (k + 1)) (n - (k + 1)) o₁
    unfolding charged_from
    all-again h e =
        inv ∙ ap (λ (j : ℕ). charged_from t (2 + 2 * k) j o) (let z : n - k ≡ suc (n - (k + 1)) = omega arith in z)
        ∙ ap₂ (λ (p : ℕ) (x : List ℤ). charged_from t p (n - (k + 1)) x) (let z : 2 + 2 * k + 2 ≡ 2 + 2 * (k + 1) = omega arith in z) (sym e)

    pub all-last : n ≤ k → o ≡ charged_from t 2 n o₀
    unfolding charged_from
    all-last h = sym (inv ∙ ap (λ (j : ℕ). charged_from t (2 + 2 * k) j o) (let z : n - k ≡ 0 = omega arith in z))

-- ---- ships as words
-- a ship and its draught
pub record Ship (v : Value) : Type 0 where
  pub name : ℤ
  pub draught : ℤ
  pub is : v ≡ rec (vcons (num name) (vcons (num draught) vnil))

pub ship-of : (v : Value) → Of ship_type v → Ship v
ship-of v (a_record m (field (a_number x) (field (a_number y) no_field))) = record { name = x; draught = y; is = refl }

abbrev pub pair : ℤ → ℤ → Value
pair x y = rec (vcons (num x) (vcons (num y) vnil))

abbrev cents : Tariff → ℤ → ℤ
cents t y = pos (charge t (nat_abs y))

due-pair : (t : Tariff) (x y : ℤ) → ship_due t (pair x y) ≡ pair x (cents t y)
unfolding ship_due field_of nth as_int
due-pair t x y = refl

-- a pair in front of words
pair-words : (x y : ℤ) (l : List Value) (R : List ℤ) → words_of (pair x y ∷ l) ++ R ≡ x ∷ y ∷ (words_of l ++ R)
unfolding words
pair-words x y l R = refl

-- Behind words that stay, ships become their dues.
pub charged-words : (t : Tariff) (l : List Value) → All (Of ship_type) l → (front R : List ℤ) (p : ℕ) → p ≡ length front + 1 → charged_from t p (length l) (front ++ (words_of l ++ R)) ≡ front ++ (words_of (map (ship_due t) l) ++ R)
unfolding charged_from charged_at words
charged-words t [] h front R p e = refl
charged-words t (v ∷ l) h front R p e = subst P (sym S.is) (
    ap (charged_from t (p + 2) (length l)) here
    ∙ charged-words t l h.1 (front ++ (x ∷ z ∷ [])) R (p + 2) (omega (arith, e, length-append front (x ∷ z ∷ [])))
    ∙ append_assoc front (x ∷ z ∷ []) (words_of (map (ship_due t) l) ++ R)
    ∙ ap (λ (w : Value). front ++ (words_of (w ∷ map (ship_due t) l) ++ R)) (sym (due-pair t x y)))
  where
    S : Ship v
    S = ship-of v h.0

    x : ℤ
    x = S.name

    y : ℤ
    y = S.draught

    z : ℤ
    z = cents t y

    P : Value → Type 0
    P w = charged_from t (p + 2) (length l) (charged_at t p (front ++ (words_of (w ∷ l) ++ R))) ≡ front ++ (words_of (ship_due t w ∷ map (ship_due t) l) ++ R)

    split : front ++ (x ∷ y ∷ (words_of l ++ R)) ≡ (front ++ (x ∷ [])) ++ (y ∷ (words_of l ++ R))
    split = sym (append_assoc front (x ∷ []) (y ∷ (words_of l ++ R)))

    at : length (front ++ (x ∷ [])) ≡ p
    at = length-append front (x ∷ []) ∙ sym e

    here : charged_at t p (front ++ (x ∷ y ∷ (words_of l ++ R))) ≡ (front ++ (x ∷ z ∷ [])) ++ (words_of l ++ R)
    here =
        ap (charged_at t p) split
        ∙ ap (λ (w : ℤ). set ((front ++ (x ∷ [])) ++ (y ∷ (words_of l ++ R))) p (cents t w)) (get_or_at (front ++ (x ∷ [])) y (words_of l ++ R) (pos 0) p at)
        ∙ set_at (front ++ (x ∷ [])) y (words_of l ++ R) z p at
        ∙ append_assoc front (x ∷ []) (z ∷ (words_of l ++ R))
        ∙ sym (append_assoc front (x ∷ z ∷ []) (words_of l ++ R))

-- the words of a collection of ships, charged
pub charged-bag : (t : Tariff) (l : List Value) → All (Of ship_type) l → (R : List ℤ) → charged_from t 2 (length l) (words (coll (from_list l)) ++ R) ≡ words (coll (from_list (map (ship_due t) l))) ++ R
unfolding words
charged-bag t l h R =
    charged-words t l h (pos (count (from_list l)) ∷ []) R 2 refl
    ∙ ap (λ (k : ℕ). pos k ∷ (words_of (map (ship_due t) l) ++ R)) (count-from l ∙ sym (length-map l (ship_due t)) ∙ sym (count-from (map (ship_due t) l)))

-- a count, and two words for each
pub ships-size : (l : List Value) → All (Of ship_type) l → length (words (coll (from_list l))) ≡ 1 + 2 * length l
unfolding words
ships-size l h = ap suc (go l h) ∙ omega arith
  where
    go : (l : List Value) → All (Of ship_type) l → length (words_of l) ≡ 2 * length l
    go [] h = refl
    go (v ∷ l) h = let S = ship-of v h.0 in subst (λ (w : Value). length (words_of (w ∷ l)) ≡ 2 * length (v ∷ l)) (sym S.is) (omega (arith, go l h.1))

-- ---- settle_dues
due-of : (t : Tariff) (v : Value) → Of ship_type v → Of ship_type (ship_due t v)
due-of t v h = let S = ship-of v h in
    subst (λ (w : Value). Of ship_type (ship_due t w)) (sym S.is) (subst (Of ship_type) (sym (due-pair t S.name S.draught)) (a_record tt (field (a_number S.name) (field (a_number (cents t S.draught)) no_field))))

dues-of : (t : Tariff) (l : List Value) → All (Of ship_type) l → All (Of ship_type) (map (ship_due t) l)
dues-of t [] h = tt
dues-of t (v ∷ l) h = (due-of t v h.0, dues-of t l h.1)

-- ships and dues have two words each
due-size : (t : Tariff) (l : List Value) → All (Of ship_type) l → length (words_of (map (ship_due t) l)) ≡ length (words_of l)
unfolding words
due-size t [] h = refl
due-size t (v ∷ l) h = let S = ship-of v h.0 in
    subst (λ (w : Value). length (words_of (ship_due t w ∷ map (ship_due t) l)) ≡ length (words_of (w ∷ l))) (sym S.is)
    (ap (λ (w : Value). length (words_of (w ∷ map (ship_due t) l))) (due-pair t S.name S.draught) ∙ ap (λ (k : ℕ). suc (suc k)) (due-size t l h.1))

flat_map : (l : List Value) → map (arrange_as ship_type) l ≡ l
flat_map [] = refl
flat_map (v ∷ l) = ap₂ ◌∷◌ (flat-same ship_type v (tt, (tt, tt))) (flat_map l)

-- a bag of ships is ordered, and its elements stay as they are
pub arrange-ships : (l : List Value) → arrange_as (Ty.coll bag ship_type) (coll (from_list l)) ≡ canonical (of bag) l
arrange-ships l =
    arrange-coll bag ship_type (from_list l)
    ∙ ap (λ (m : List Value). coll (from_list (arranged bag m))) (ap (map (arrange_as ship_type)) (to-from l) ∙ flat_map l)
    ∙ sym (canonical-of bag l)

-- ordering keeps the length
ordered-size : (l : List Value) → length (words (canonical (of bag) l)) ≡ length (words (coll (from_list l)))
unfolding words
ordered-size l = ap (λ (v : Value). length (words v)) (canonical-of bag l) ∙ ap suc (rearranged-size (arranged-alike bag l))

module _ {s : List ℕ} {t : Tariff} {n : ℕ} {o o₁ o₂ : List ℤ} {r : ℕ} (C : o₁ ≡ charged_from t 2 n o) (K : FinishPost s 0 o₁ o₂ r) where
  pub dues-settled : SettleDuesPost s t n o o₂ r
  dues-settled = record {
    is = λ f l ty vs len h R e.
        let D : List Value = map (ship_due t) vs in
        let v : Value = coll (from_list D) in
        let z : o₁ ≡ words v ++ R = C ∙ ap₂ (charged_from t 2) (sym len) e ∙ charged-bag t vs h R in
        let k = K.is f l R v (subst (λ (u : Ty). Of u v) (sym ty) (a_collection bag (from_all D (dues-of t vs h)))) z in
        let same : arrange_as (type_at f s 0) v ≡ canonical (of bag) D = ap (λ (u : Ty). arrange_as u v) ty ∙ arrange-ships D in
        let gap : length (words v) - length (words (canonical (of bag) D)) ≡ 0 = omega (arith, ordered-size D) in (
          k.0 ∙ ap (λ (u : Value). words u ++ (replicate (length (words v) - length (words u)) (pos 0) ++ R)) same ∙ ap (λ (j : ℕ). words (canonical (of bag) D) ++ (replicate j (pos 0) ++ R)) gap,
          k.1 ∙ ap (λ (u : Value). length (words u)) same,
          ordered-size D ∙ words_size vs h,
        );
  }
    where
      words_size : (l : List Value) → All (Of ship_type) l → length (words (coll (from_list (map (ship_due t) l)))) ≡ length (words (coll (from_list l)))
      words_size l h = unfold words in ap suc (due-size t l h)
