-- Lists in which one place is changed, or to which one element is added. Assumes nothing.
use Rattle.std.proofs.Common.{◌≡◌, ℕ, zero, suc, ◌<◌, ◌≤◌, Bool, false, cond, eqb, ◌⊎◌, List, [], ◌∷◌, ◌++◌, map, length, get_or, set, replicate, ℤ, pos, ◌+ℤ◌, ◌≤ℤ◌, sym, refl, ap, ◌∙◌, inl, inr, arith}
use native.Mathlib.Decide.{ℕ_discrete, dec_le}
use Rattle.std.proofs.lemmas.Int.{ints}
use Rattle.std.proofs.lemmas.List.{get_or-set_same, get_or-set_other, set_past}
use Rattle.std.proofs.lemmas.Bool.{eq-eqb, ne_eqb}
use Rattle.figures.specs.Sums.{only}

-- ---- what every element keeps

pub field_set : {A B : Type 0} (F : A → B) (xs : List A) (i j : ℕ) (y d : A) → F y ≡ F (get_or xs i d) → F (get_or (set xs i y) j d) ≡ F (get_or xs j d)
field_set F [] i j y d e = refl
field_set F (x ∷ xs) zero zero y d e = e
field_set F (x ∷ xs) zero (suc j) y d e = refl
field_set F (x ∷ xs) (suc i) zero y d e = refl
field_set F (x ∷ xs) (suc i) (suc j) y d e = field_set F xs i j y d e

pub field_push : {A B : Type 0} (F : A → B) (xs : List A) (y d : A) → F y ≡ F d → (j : ℕ) → F (get_or (xs ++ y ∷ []) j d) ≡ F (get_or xs j d)
field_push F [] y d e zero = e
field_push F [] y d e (suc j) = refl
field_push F (x ∷ xs) y d e zero = refl
field_push F (x ∷ xs) y d e (suc j) = field_push F xs y d e j

pub all_push : {A : Type 0} (P : A → Type 0) (xs : List A) (y d : A) → ((j : ℕ) → P (get_or xs j d)) → P y → (j : ℕ) → P (get_or (xs ++ y ∷ []) j d)
all_push P [] y d h p zero = p
all_push P [] y d h p (suc j) = h 0
all_push P (x ∷ xs) y d h p zero = h 0
all_push P (x ∷ xs) y d h p (suc j) = all_push P xs y d (λ k. h (suc k)) p j

pub all_set : {A : Type 0} (P : A → Type 0) (xs : List A) (i : ℕ) (y d : A) → ((j : ℕ) → P (get_or xs j d)) → P y → (j : ℕ) → P (get_or (set xs i y) j d)
all_set P [] i y d h p j = h j
all_set P (x ∷ xs) zero y d h p zero = p
all_set P (x ∷ xs) zero y d h p (suc j) = h (suc j)
all_set P (x ∷ xs) (suc i) y d h p zero = h 0
all_set P (x ∷ xs) (suc i) y d h p (suc j) = all_set P xs i y d (λ k. h (suc k)) p j

pub all_map : {A : Type 0} (P : A → Type 0) (f : A → A) (xs : List A) (d : A) → ((x : A) → P x → P (f x)) → ((j : ℕ) → P (get_or xs j d)) → (j : ℕ) → P (get_or (map f xs) j d)
all_map P f [] d k h j = h j
all_map P f (x ∷ xs) d k h zero = k x (h 0)
all_map P f (x ∷ xs) d k h (suc j) = all_map P f xs d k (λ i. h (suc i)) j

pub field_map : {A B : Type 0} (F : A → B) (f : A → A) (xs : List A) (d : A) → ((x : A) → F (f x) ≡ F x) → (j : ℕ) → F (get_or (map f xs) j d) ≡ F (get_or xs j d)
field_map F f [] d k j = refl
field_map F f (x ∷ xs) d k zero = k x
field_map F f (x ∷ xs) d k (suc j) = field_map F f xs d k j

pub all_replicate : {A : Type 0} (P : A → Type 0) (n : ℕ) (a : A) → P a → (i : ℕ) → P (get_or (replicate n a) i a)
all_replicate P zero a p i = p
all_replicate P (suc n) a p zero = p
all_replicate P (suc n) a p (suc i) = all_replicate P n a p i

-- an amount that is raised at one place by at most e
pub raised_set : {A : Type 0} (F : A → ℤ) (xs : List A) (i j : ℕ) (y d : A) (e : ℤ) → pos 0 ≤ℤ e → F y ≡ F (get_or xs i d) +ℤ e → (F (get_or xs j d) ≤ℤ F (get_or (set xs i y) j d)) × (F (get_or (set xs i y) j d) ≤ℤ (F (get_or xs j d) +ℤ cond (eqb i j) e (pos 0)))
raised_set {A} F xs i j y d e z k = go (ℕ_discrete i j)
  where
    within : Dec (length xs ≤ i) → (F (get_or xs i d) ≤ℤ F (get_or (set xs i y) i d)) × (F (get_or (set xs i y) i d) ≤ℤ (F (get_or xs i d) +ℤ cond (eqb i i) e (pos 0)))
    within (yes l) =
        let q : F (get_or (set xs i y) i d) ≡ F (get_or xs i d) = ap (λ (ys : List A). F (get_or ys i d)) (set_past xs i y l) in
        (omega (arith, ints), omega (arith, ints, ap (λ (t : Bool). cond t e (pos 0)) (eq-eqb i i refl)))
    within (no l) =
        let q : F (get_or (set xs i y) i d) ≡ F y = ap F (get_or-set_same xs i y d (omega (arith, l))) in
        (omega (arith, ints), omega (arith, ints, ap (λ (t : Bool). cond t e (pos 0)) (eq-eqb i i refl)))

    go : Dec (i ≡ j) → (F (get_or xs j d) ≤ℤ F (get_or (set xs i y) j d)) × (F (get_or (set xs i y) j d) ≤ℤ (F (get_or xs j d) +ℤ cond (eqb i j) e (pos 0)))
    go (yes q) = rw (← q) (within (dec_le (length xs) i))
    go (no q) =
        let s : F (get_or (set xs i y) j d) ≡ F (get_or xs j d) = ap F (get_or-set_other xs i j y d (λ r. q (sym r))) in
        (omega (arith, ints), omega (arith, ints, ap (λ (t : Bool). cond t e (pos 0)) (ne_eqb i j q)))

-- an amount that is changed at one place by e, if the list has that place
pub changed_set : {A : Type 0} (F : A → ℤ) (xs : List A) (i j : ℕ) (y d : A) (e : ℤ) → F y ≡ F (get_or xs i d) +ℤ e → (F (get_or (set xs i y) j d) ≡ F (get_or xs j d) +ℤ cond (eqb j i) e (pos 0)) ⊎ ((i < length xs → ⊥) × (F (get_or (set xs i y) j d) ≡ F (get_or xs j d)))
changed_set {A} F xs i j y d e k = go (dec_le (length xs) i) (ℕ_discrete j i)
  where
    go : Dec (length xs ≤ i) → Dec (j ≡ i) → (F (get_or (set xs i y) j d) ≡ F (get_or xs j d) +ℤ cond (eqb j i) e (pos 0)) ⊎ ((i < length xs → ⊥) × (F (get_or (set xs i y) j d) ≡ F (get_or xs j d)))
    go (yes l) q = inr ((λ h. omega arith), ap (λ (ys : List A). F (get_or ys j d)) (set_past xs i y l))
    go (no l) (yes q) =
        let s : F (get_or (set xs i y) j d) ≡ F (get_or xs j d) +ℤ e = rw q (ap F (get_or-set_same xs i y d (omega (arith, l))) ∙ k) in
        inl (s ∙ ap (λ (t : Bool). F (get_or xs j d) +ℤ cond t e (pos 0)) (sym (eq-eqb j i q)))
    go (no l) (no q) =
        let s : F (get_or (set xs i y) j d) ≡ F (get_or xs j d) = ap F (get_or-set_other xs i j y d q) in
        inl (omega (arith, ints, ap (λ (t : Bool). cond t e (pos 0)) (ne_eqb j i q)))

-- ---- changes at two places, in either order

pub changes : {A : Type 0} (f g : A → A) (d : A) → ((x : A) → g (f x) ≡ f (g x)) → (xs : List A) (i j : ℕ) → set (set xs i (f (get_or xs i d))) j (g (get_or (set xs i (f (get_or xs i d))) j d)) ≡ set (set xs j (g (get_or xs j d))) i (f (get_or (set xs j (g (get_or xs j d))) i d))
changes f g d h [] i j = refl
changes {A} f g d h (x ∷ xs) zero zero = ap (λ (y : A). y ∷ xs) (h x)
changes f g d h (x ∷ xs) zero (suc j) = refl
changes f g d h (x ∷ xs) (suc i) zero = refl
changes {A} f g d h (x ∷ xs) (suc i) (suc j) = ap (λ (l : List A). x ∷ l) (changes f g d h xs i j)

pub change_map : {A : Type 0} (f g : A → A) (d : A) → ((x : A) → g (f x) ≡ f (g x)) → (xs : List A) (i : ℕ) → map g (set xs i (f (get_or xs i d))) ≡ set (map g xs) i (f (get_or (map g xs) i d))
change_map f g d h [] i = refl
change_map {A} f g d h (x ∷ xs) zero = ap (λ (y : A). y ∷ map g xs) (h x)
change_map {A} f g d h (x ∷ xs) (suc i) = ap (λ (l : List A). g x ∷ l) (change_map f g d h xs i)

pub change_push : {A : Type 0} (f : A → A) (d z : A) (xs : List A) (i : ℕ) → i < length xs → set xs i (f (get_or xs i d)) ++ z ∷ [] ≡ set (xs ++ z ∷ []) i (f (get_or (xs ++ z ∷ []) i d))
change_push f d z [] i l = absurd (omega arith)
change_push f d z (x ∷ xs) zero l = refl
change_push {A} f d z (x ∷ xs) (suc i) l = ap (λ (l : List A). x ∷ l) (change_push f d z xs i (omega arith))

-- twice at one place
pub change_twice : {A : Type 0} (f g h : A → A) (d : A) → ((x : A) → g (f x) ≡ h x) → (xs : List A) (i : ℕ) → set (set xs i (f (get_or xs i d))) i (g (get_or (set xs i (f (get_or xs i d))) i d)) ≡ set xs i (h (get_or xs i d))
change_twice f g h d k [] i = refl
change_twice {A} f g h d k (x ∷ xs) zero = ap (λ (y : A). y ∷ xs) (k x)
change_twice {A} f g h d k (x ∷ xs) (suc i) = ap (λ (l : List A). x ∷ l) (change_twice f g h d k xs i)

-- ---- what a test leaves out, before and after

pub only_set : {A : Type 0} (p : A → Bool) (xs : List A) (i : ℕ) (y d : A) → p (get_or xs i d) ≡ false → p y ≡ false → only p (set xs i y) ≡ only p xs
only_set p [] i y d e k = refl
only_set p (x ∷ xs) zero y d e k = rw (e, k)
only_set {A} p (x ∷ xs) (suc i) y d e k = ap (λ (l : List A). cond (p x) (x ∷ l) l) (only_set p xs i y d e k)
