-- Sums and greatest values over the numbers below n. Assumes nothing.
use Rattle.std.proofs.Common.{◌≡◌, ℕ, zero, suc, ◌*◌, ◌<◌, ◌≤◌, Bool, true, false, cond, List, [], ◌∷◌, length, take, fold, unwrap_or, ℤ, pos, ◌+ℤ◌, nat_abs, ◌≤ℤ◌, sym, refl, ap, ◌∙◌, mul-suc, add-one, arith, take_all}
use native.Mathlib.Decide.{ℕ_discrete}
use lib.Signed.{lt_z}
use Rattle.std.specs.Int.{int_max}
use Rattle.std.specs.List.{reduce}
use Rattle.std.specs.Ordering.{int_cmp, max_by_ordering}
use Rattle.std.proofs.lemmas.Int.{ints, clamps}
use Rattle.std.proofs.lemmas.List.Sums.{fold_more}
use Rattle.figures.specs.Losses.{at}
use Rattle.figures.specs.Sums.{total_below, greatest_below}

pub below_mono : (n : ℕ) (f g : ℕ → ℤ) → ((j : ℕ) → j < n → f j ≤ℤ g j) → total_below n f ≤ℤ total_below n g
below_mono zero f g h = omega (arith, ints)
below_mono (suc n) f g h = omega (arith, ints, below_mono n f g (λ j l. h j (omega arith)), h n (omega arith))

pub below_same : (n : ℕ) (f g : ℕ → ℤ) → ((j : ℕ) → j < n → f j ≡ g j) → total_below n f ≡ total_below n g
below_same zero f g h = refl
below_same (suc n) f g h = omega (arith, ints, below_same n f g (λ j l. h j (omega arith)), h n (omega arith))

pub below_small : (n b : ℕ) (f : ℕ → ℤ) → ((j : ℕ) → nat_abs (f j) ≤ b) → nat_abs (total_below n f) ≤ b * n
below_small zero b f h = omega arith
below_small (suc n) b f h = sum_small (total_below n f) (f n) (below_small n b f h) (h n)
  where
    sum_small : (x y : ℤ) → nat_abs x ≤ b * n → nat_abs y ≤ b → nat_abs (x +ℤ y) ≤ b * suc n
    sum_small x y u v = omega (arith, ints, mul-suc b n)

pub greatest_small : (n b : ℕ) (f : ℕ → ℤ) → ((j : ℕ) → nat_abs (f j) ≤ b) → nat_abs (greatest_below n f) ≤ b
greatest_small zero b f h = h 0
greatest_small (suc n) b f h = omega (arith, ints, clamps, greatest_small n b f h, h n)

below_suc : {P : ℕ → Type 0} (n : ℕ) → ((j : ℕ) → j < n → P j) → P n → (j : ℕ) → j < suc n → P j
below_suc {P} n h p j l = go (ℕ_discrete j n)
  where
    go : Dec (j ≡ n) → P j
    go (yes e) = rw e p
    go (no e) = h j (omega (arith, e))

pub greatest_bound : (n : ℕ) (f : ℕ → ℤ) (s : ℕ) → s < n → f s ≤ℤ greatest_below n f
greatest_bound zero f s = λ l. absurd (omega arith)
greatest_bound (suc n) f s =
    below_suc {P = λ s. f s ≤ℤ greatest_below (suc n) f} n (λ s l. omega (arith, ints, clamps, greatest_bound n f s l)) (omega (arith, ints, clamps)) s

pub greatest_same : (n : ℕ) (f g : ℕ → ℤ) → f 0 ≡ g 0 → ((j : ℕ) → j < n → f j ≡ g j) → greatest_below n f ≡ greatest_below n g
greatest_same zero f g z h = z
greatest_same (suc n) f g z h = omega (arith, ints, clamps, greatest_same n f g z (λ j l. h j (omega arith)), h n (omega arith))

-- where the greatest is met
pub argmax : ℕ → (ℕ → ℤ) → ℕ
argmax zero f = 0
argmax (suc n) f = cond (lt_z (greatest_below n f) (f n)) n (argmax n f)

pub greatest_met : (n : ℕ) (f : ℕ → ℤ) → f (argmax n f) ≡ greatest_below n f
unfolding argmax
greatest_met zero f = refl
greatest_met (suc n) f = go (lt_z (greatest_below n f) (f n)) refl (greatest_met n f)
  where
    go : (t : Bool) → lt_z (greatest_below n f) (f n) ≡ t → f (argmax n f) ≡ greatest_below n f → f (cond t n (argmax n f)) ≡ int_max (greatest_below n f) (f n)
    go true e h = omega (arith, ints, clamps)
    go false e h = omega (arith, ints, clamps)

pub argmax_below : (n : ℕ) (f : ℕ → ℤ) → 0 < n → argmax n f < n
unfolding argmax
argmax_below zero f l = l
argmax_below (suc n) f l = go n (lt_z (greatest_below n f) (f n)) (argmax_below n f)
  where
    go : (n : ℕ) (t : Bool) → (0 < n → argmax n f < n) → cond t n (argmax n f) < suc n
    go n true h = omega arith
    go zero false h = omega arith
    go (suc m) false h = omega (arith, h (omega arith))

-- ---- the greatest of a row, one after the other

pub picked : (x y : ℤ) → max_by_ordering (int_cmp x y) x y ≡ int_max x y
picked x y = grind (arith, ints, clamps)

greatest_front : (x : ℤ) (ys : List ℤ) (i : ℕ) → i ≤ length ys → greatest_below (suc i) (at (x ∷ ys)) ≡ fold int_max x (take i ys)
greatest_front x ys zero h = omega (arith, ints, clamps)
greatest_front x ys (suc i) h =
    let before = greatest_front x ys i (omega arith) in
    ap (λ z. int_max z (at ys i)) before ∙ sym (rw (← add-one) (fold_more int_max x ys i (pos 0) h))

pub greatest_reduced : (xs : List ℤ) → unwrap_or (reduce int_max xs) (pos 0) ≡ greatest_below (length xs) (at xs)
greatest_reduced [] = refl
greatest_reduced (x ∷ ys) = ap (fold int_max x) (sym (take_all (length ys) ys (omega arith))) ∙ sym (greatest_front x ys (length ys) (omega arith))
