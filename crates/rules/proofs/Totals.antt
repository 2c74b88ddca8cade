-- Sums over lists, and over the numbers below n. Assumes nothing.
use Rattle.std.proofs.Common.{◌≡◌, ℕ, zero, suc, ◌<◌, ◌≤◌, Bool, true, false, cond, eqb, List, [], ◌∷◌, ◌++◌, ℤ, pos, ◌+ℤ◌, ◌≤ℤ◌, refl, ap, ◌∙◌, arith}
use Rattle.std.proofs.lemmas.Int.{ints}
use Rattle.std.proofs.lemmas.Bool.{ne_eqb, eqb-true, eqb-false}
use Rattle.figures.specs.Sums.{total, total_below, those_below}
use Rattle.figures.proofs.Greatest.{below_same}

-- ---- over the numbers below n

pub below_add : (n : ℕ) (f g : ℕ → ℤ) → total_below n (λ j. f j +ℤ g j) ≡ total_below n f +ℤ total_below n g
below_add zero f g = refl
below_add (suc n) f g = omega (arith, ints, below_add n f g)

pub below_zero : (n : ℕ) → total_below n (λ _. pos 0) ≡ pos 0
below_zero zero = refl
below_zero (suc n) = omega (arith, ints, below_zero n)

pub below_none : (n p : ℕ) (g : ℕ → ℤ) → n ≤ p → total_below n (λ k. cond (eqb p k) (g k) (pos 0)) ≡ pos 0
below_none n p g l =
    below_same n (λ k. cond (eqb p k) (g k) (pos 0)) (λ _. pos 0) (λ k h. ap (λ (t : Bool). cond t (g k) (pos 0)) (ne_eqb p k (λ e. omega arith))) ∙ below_zero n

pub below_one : (n p : ℕ) (g : ℕ → ℤ) → p < n → total_below n (λ k. cond (eqb p k) (g k) (pos 0)) ≡ g p
below_one zero p g l = absurd (omega arith)
below_one (suc n) p g l = go (eqb p n) refl (λ h. below_one n p g h)
  where
    go : (t : Bool) → eqb p n ≡ t → (p < n → total_below n (λ k. cond (eqb p k) (g k) (pos 0)) ≡ g p) → total_below n (λ k. cond (eqb p k) (g k) (pos 0)) +ℤ cond t (g n) (pos 0) ≡ g p
    go true e h = omega (arith, ints, below_none n p g (omega (arith, eqb-true p n e)), ap g (eqb-true p n e))
    go false e h = omega (arith, ints, h (omega (arith, eqb-false p n e)))

-- ---- over a list

pub total_mono : {A : Type 0} (f g : A → ℤ) (xs : List A) → ((x : A) → f x ≤ℤ g x) → total f xs ≤ℤ total g xs
total_mono f g [] h = omega (arith, ints)
total_mono f g (x ∷ xs) h = omega (arith, ints, total_mono f g xs h, h x)

pub total_cong : {A : Type 0} (f g : A → ℤ) (xs : List A) → ((x : A) → f x ≡ g x) → total f xs ≡ total g xs
total_cong f g [] h = refl
total_cong f g (x ∷ xs) h = omega (arith, ints, total_cong f g xs h, h x)

pub total_add : {A : Type 0} (f g : A → ℤ) (xs : List A) → total (λ x. f x +ℤ g x) xs ≡ total f xs +ℤ total g xs
total_add f g [] = refl
total_add f g (x ∷ xs) = omega (arith, ints, total_add f g xs)

pub total_append : {A : Type 0} (f : A → ℤ) (xs ys : List A) → total f (xs ++ ys) ≡ total f xs +ℤ total f ys
total_append f [] ys = omega (arith, ints)
total_append f (x ∷ xs) ys = omega (arith, ints, total_append f xs ys)

-- by place first, or by element first
pub total_swap : {A : Type 0} (n : ℕ) (f : ℕ → A → ℤ) (xs : List A) → total_below n (λ k. total (f k) xs) ≡ total (λ x. total_below n (λ k. f k x)) xs
total_swap n f [] = below_zero n
total_swap n f (x ∷ xs) = omega (arith, ints, below_add n (λ k. f k x) (λ k. total (f k) xs), total_swap n f xs)

-- ---- over the numbers below n that pass a test

pub those_mono : (n : ℕ) (q : ℕ → Bool) (f g : ℕ → ℤ) → ((j : ℕ) → j < n → q j ≡ true → f j ≤ℤ g j) → total f (those_below n q) ≤ℤ total g (those_below n q)
those_mono zero q f g h = omega (arith, ints)
those_mono (suc n) q f g h = go (q n) refl (those_mono n q f g (λ j l e. h j (omega arith) e))
  where
    go : (t : Bool) → q n ≡ t → total f (those_below n q) ≤ℤ total g (those_below n q) → total f (those_below n q ++ cond t (n ∷ []) []) ≤ℤ total g (those_below n q ++ cond t (n ∷ []) [])
    go true e r = omega (arith, ints, total_append f (those_below n q) (n ∷ []), total_append g (those_below n q) (n ∷ []), h n (omega arith) e)
    go false e r = omega (arith, ints, total_append f (those_below n q) [], total_append g (those_below n q) [])

pub those_cong : (n : ℕ) (q : ℕ → Bool) (f g : ℕ → ℤ) → ((j : ℕ) → j < n → q j ≡ true → f j ≡ g j) → total f (those_below n q) ≡ total g (those_below n q)
those_cong n q f g h =
    omega (arith, ints, those_mono n q f g (λ j l e. omega (arith, ints, h j l e)), those_mono n q g f (λ j l e. omega (arith, ints, h j l e)))

pub those_none : (n : ℕ) (q : ℕ → Bool) (c : ℕ) (d : ℤ) → n ≤ c → total (λ j. cond (eqb c j) d (pos 0)) (those_below n q) ≡ pos 0
those_none zero q c d l = refl
those_none (suc n) q c d l = go (q n) (eqb c n) (ne_eqb c n (λ e. omega arith)) (those_none n q c d (omega arith))
  where
    go : (t u : Bool) → u ≡ false → total (λ j. cond (eqb c j) d (pos 0)) (those_below n q) ≡ pos 0 → total (λ j. cond (eqb c j) d (pos 0)) (those_below n q ++ cond t (n ∷ []) []) ≡ pos 0
    go true u e r = omega (arith, ints, total_append (λ j. cond (eqb c j) d (pos 0)) (those_below n q) (n ∷ []), ap {B = ℤ} (λ (t : Bool). cond t d (pos 0)) (ne_eqb c n (λ e. omega arith)))
    go false u e r = omega (arith, ints, total_append (λ j. cond (eqb c j) d (pos 0)) (those_below n q) [])

pub those_one : (n : ℕ) (q : ℕ → Bool) (c : ℕ) (d : ℤ) → pos 0 ≤ℤ d → total (λ j. cond (eqb c j) d (pos 0)) (those_below n q) ≤ℤ d
those_one zero q c d z = z
those_one (suc n) q c d z = go (q n) (eqb c n) refl (those_one n q c d z)
  where
    go : (t u : Bool) → eqb c n ≡ u → total (λ j. cond (eqb c j) d (pos 0)) (those_below n q) ≤ℤ d → total (λ j. cond (eqb c j) d (pos 0)) (those_below n q ++ cond t (n ∷ []) []) ≤ℤ d
    go false u e r = omega (arith, ints, total_append (λ j. cond (eqb c j) d (pos 0)) (those_below n q) [])
    go true true e r =
        omega (arith, ints, total_append (λ j. cond (eqb c j) d (pos 0)) (those_below n q) (n ∷ []), ap {B = ℤ} (λ (t : Bool). cond t d (pos 0)) e, those_none n q c d (omega (arith, eqb-true c n e)))
    go true false e r =
        omega (arith, ints, total_append (λ j. cond (eqb c j) d (pos 0)) (those_below n q) (n ∷ []), ap {B = ℤ} (λ (t : Bool). cond t d (pos 0)) e)
