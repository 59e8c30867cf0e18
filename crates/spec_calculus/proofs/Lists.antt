-- Laws of the list and environment functions of specs/Lists.
use mathlib.Core.Path.{◌≡◌, refl, sym, ap, ap₂, ◌∙◌, fun_ext}
use mathlib.Core.List.{List, [], ◌∷◌, ◌++◌, map, append_assoc}
use mathlib.Core.Bool.{Bool, true, false, ◌&&◌}
use Prim.Native.Nat.{ℕ, ◌<◌}
use native.Mathlib.Omega.{arith}
use lib.Dec.{eqb, eqb_refl, eqb→eq}
use lib.Dec as De
use Rattle.spec_calculus.specs.Lists.{bind_l, guard, upd}

pub bind-append : {A B : Type 0} (l m : List A) (f : A → List B) → bind_l (l ++ m) f ≡ bind_l l f ++ bind_l m f
unfolding bind_l
bind-append [] m f = refl
bind-append (a ∷ l) m f = rw (bind-append l m f) (sym (append_assoc (f a) (bind_l l f) (bind_l m f)))

pub bind-bind : {A B C : Type 0} (l : List A) (f : A → List B) (g : B → List C) → bind_l (bind_l l f) g ≡ bind_l l (λ a. bind_l (f a) g)
unfolding bind_l
bind-bind [] f g = refl
bind-bind (a ∷ l) f g = bind-append (f a) (bind_l l f) g ∙ ap (λ m. bind_l (f a) g ++ m) (bind-bind l f g)

pub bind-map : {A B C : Type 0} (l : List A) (f : A → B) (g : B → List C) → bind_l (map f l) g ≡ bind_l l (λ a. g (f a))
unfolding bind_l
bind-map [] f g = refl
bind-map (a ∷ l) f g = ap (λ m. g (f a) ++ m) (bind-map l f g)

pub bind-one : {A : Type 0} (l : List A) → bind_l l (λ a. a ∷ []) ≡ l
unfolding bind_l
bind-one [] = refl
bind-one (a ∷ l) = ap (λ m. a ∷ m) (bind-one l)

pub bind-ext : {A B : Type 0} (l : List A) (f g : A → List B) → ((a : A) → f a ≡ g a) → bind_l l f ≡ bind_l l g
bind-ext l f g h = ap (bind_l l) (fun_ext h)

pub map-map : {A B C : Type 0} (l : List A) (f : A → B) (g : B → C) → map g (map f l) ≡ map (λ a. g (f a)) l
map-map [] f g = refl
map-map (a ∷ l) f g = ap (λ m. g (f a) ∷ m) (map-map l f g)

pub map-append : {A B : Type 0} (f : A → B) (l m : List A) → map f (l ++ m) ≡ map f l ++ map f m
map-append f [] m = refl
map-append f (a ∷ l) m = ap (λ r. f a ∷ r) (map-append f l m)

pub map-bind : {A B C : Type 0} (l : List A) (f : A → List B) (g : B → C) → map g (bind_l l f) ≡ bind_l l (λ a. map g (f a))
unfolding bind_l
map-bind [] f g = refl
map-bind (a ∷ l) f g = map-append g (f a) (bind_l l f) ∙ ap (λ m. map g (f a) ++ m) (map-bind l f g)

pub map_same : {A : Type 0} (l : List A) → map (λ a. a) l ≡ l
map_same [] = refl
map_same (a ∷ l) = ap (λ m. a ∷ m) (map_same l)

pub guard-guard : {A : Type 0} (b c : Bool) (l : List A) → guard b (guard c l) ≡ guard (b && c) l
unfolding guard
guard-guard true c l = refl
guard-guard false c l = refl

pub guard-swap : {A : Type 0} (b c : Bool) (l : List A) → guard b (guard c l) ≡ guard c (guard b l)
unfolding guard
guard-swap true true l = refl
guard-swap true false l = refl
guard-swap false true l = refl
guard-swap false false l = refl

-- a condition and a generator commute
pub bind-guard : {A B : Type 0} (b : Bool) (l : List A) (f : A → List B) → bind_l l (λ a. guard b (f a)) ≡ guard b (bind_l l f)
unfolding guard bind_l
bind-guard true l f = refl
bind-guard false [] f = refl
bind-guard false (a ∷ l) f = bind-guard false l f

pub guard-bind : {A B : Type 0} (b : Bool) (l : List A) (f : A → List B) → bind_l (guard b l) f ≡ guard b (bind_l l f)
unfolding guard bind_l
guard-bind true l f = refl
guard-bind false l f = refl

pub map-guard : {A B : Type 0} (f : A → B) (b : Bool) (l : List A) → map f (guard b l) ≡ guard b (map f l)
unfolding guard
map-guard f true l = refl
map-guard f false l = refl

abbrev pub All : {A : Type 0} → (A → Type 0) → List A → Type 0
All P [] = Unit {0}
All P (a ∷ l) = P a × All P l

abbrev pub Some : {A : Type 0} → List A → Type 0
Some [] = ⊥
Some (a ∷ l) = Unit {0}

pub all_append : {A : Type 0} (P : A → Type 0) (l m : List A) → All P l → All P m → All P (l ++ m)
all_append P [] m h k = k
all_append P (a ∷ l) m h k = (h.0, all_append P l m h.1 k)

pub all-front : {A : Type 0} (P : A → Type 0) (l m : List A) → All P (l ++ m) → All P l
all-front P [] m h = tt
all-front P (a ∷ l) m h = (h.0, all-front P l m h.1)

pub all-behind : {A : Type 0} (P : A → Type 0) (l m : List A) → All P (l ++ m) → All P m
all-behind P [] m h = h
all-behind P (a ∷ l) m h = all-behind P l m h.1

pub all-guard : {A : Type 0} (P : A → Type 0) (b : Bool) (l : List A) → All P l → All P (guard b l)
unfolding guard
all-guard P true l h = h
all-guard P false l h = tt

pub all-bind : {A B : Type 0} (P : A → Type 0) (Q : B → Type 0) (f : A → List B) (l : List A) → All P l → ((a : A) → P a → All Q (f a)) → All Q (bind_l l f)
unfolding bind_l
all-bind P Q f [] h k = tt
all-bind P Q f (a ∷ l) h k = all_append Q (f a) (bind_l l f) (k a h.0) (all-bind P Q f l h.1 k)

pub all_map : {A B : Type 0} (P : B → Type 0) (f : A → B) (l : List A) → All (λ a. P (f a)) l → All P (map f l)
all_map P f [] h = tt
all_map P f (a ∷ l) h = (h.0, all_map P f l h.1)

pub all-imp : {A : Type 0} (P Q : A → Type 0) (l : List A) → All P l → ((a : A) → P a → Q a) → All Q l
all-imp P Q [] h k = tt
all-imp P Q (a ∷ l) h k = (k a h.0, all-imp P Q l h.1 k)

pub all_any : {A : Type 0} (P : A → Type 0) (l : List A) → ((a : A) → P a) → All P l
all_any P [] k = tt
all_any P (a ∷ l) k = (k a, all_any P l k)

pub all-zip : {A : Type 0} (P Q : A → Type 0) (l : List A) → All P l → All Q l → All (λ a. P a × Q a) l
all-zip P Q [] h k = tt
all-zip P Q (a ∷ l) h k = ((h.0, k.0), all-zip P Q l h.1 k.1)

pub some-append : {A : Type 0} (l m : List A) → Some l → Some (l ++ m)
some-append [] m h = absurd h
some-append (a ∷ l) m h = tt

pub some-bind : {A B : Type 0} (f : A → List B) (l : List A) → Some l → ((a : A) → Some (f a)) → Some (bind_l l f)
unfolding bind_l
some-bind f [] h k = absurd h
some-bind f (a ∷ l) h k = some-append (f a) (bind_l l f) (k a)

pub some-map : {A B : Type 0} (f : A → B) (l : List A) → Some l → Some (map f l)
some-map f [] h = absurd h
some-map f (a ∷ l) h = tt

pub map-all : {A B : Type 0} (P : A → Type 0) (f g : A → B) (l : List A) → All P l → ((a : A) → P a → f a ≡ g a) → map f l ≡ map g l
map-all P f g [] h k = refl
map-all P f g (a ∷ l) h k = ap₂ ◌∷◌ (k a h.0) (map-all P f g l h.1 k)

pub bind_all : {A B : Type 0} (P : A → Type 0) (f g : A → List B) (l : List A) → All P l → ((a : A) → P a → f a ≡ g a) → bind_l l f ≡ bind_l l g
unfolding bind_l
bind_all P f g [] h k = refl
bind_all P f g (a ∷ l) h k = ap₂ ◌++◌ (k a h.0) (bind_all P f g l h.1 k)

-- a name that was just given, and another one
pub upd_same : {A : Type 0} (x : ℕ) (a : A) (ρ : ℕ → A) (y : ℕ) → eqb x y ≡ true → upd x a ρ y ≡ a
unfolding upd
upd_same x a ρ y p = rw (p, upd)

pub upd_other : {A : Type 0} (x : ℕ) (a : A) (ρ : ℕ → A) (y : ℕ) → eqb x y ≡ false → upd x a ρ y ≡ ρ y
unfolding upd
upd_other x a ρ y p = rw (p, upd)

pub upd-hit : {A : Type 0} (x : ℕ) (a : A) (ρ : ℕ → A) → upd x a ρ x ≡ a
upd-hit x a ρ = go (eqb x x) refl
  where
    go : (b : Bool) → eqb x x ≡ b → upd x a ρ x ≡ a
    go true p = upd_same x a ρ x p
    go false p = let h : De.T false = rw p at (eqb_refl x) in absurd h

pub upd-miss : {A : Type 0} (x : ℕ) (a : A) (ρ : ℕ → A) (y : ℕ) → y < x → upd x a ρ y ≡ ρ y
upd-miss x a ρ y h = go (eqb x y) refl
  where
    go : (b : Bool) → eqb x y ≡ b → upd x a ρ y ≡ ρ y
    go true p = let e : x ≡ y = eqb→eq x y (rw p tt) in absurd (omega arith)
    go false p = upd_other x a ρ y p

pub append-one : {A : Type 0} (l : List A) (a : A) (m : List A) → l ++ a ∷ m ≡ (l ++ a ∷ []) ++ m
append-one [] a m = refl
append-one (b ∷ l) a m = ap (λ k. b ∷ k) (append-one l a m)
