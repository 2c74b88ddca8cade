-- A chain's `sum` of signed numbers. Assumes nothing.
use Rattle.std.proofs.Common.{◌≡◌, ℕ, zero, suc, ◌+◌, ◌*◌, ◌<◌, ◌≤◌, List, [], ◌∷◌, ◌++◌, map, length, take, fold, ℤ, pos, ◌+ℤ◌, nat_abs, Option, refl, ap, ◌∙◌, subst, arith, w64, SFits}
use Rattle.std.specs.Iterator.{Yields}
use Rattle.std.specs.Iterator.Runs.{YieldsRun, EachRunFrom}
use Rattle.std.specs.List.{AllByRecursion, range_with_len}
use Rattle.std.proofs.lemmas.Int.{ints}
use Rattle.std.proofs.iter.Yields.{gives_left}
use Rattle.std.proofs.lemmas.Iterator.{YieldsList}
use Rattle.std.proofs.lemmas.List.{map-id, take_at}

-- a sum of signed numbers fits wherever it stops, where each sum of the first of them does
pub sum_fits : {S : Type 0} {steps : S → Option ℤ → S → Type 0} {s : S} (all : List ℤ) → YieldsList steps (λ x. x) s all → ((n : ℕ) → SFits w64 (fold ◌+ℤ◌ (pos 0) (take n all))) → EachRunFrom steps s (λ p. SFits w64 (fold ◌+ℤ◌ (pos 0) p.items))
unfolding YieldsRun
sum_fits {steps = steps} {s = s} all y fits = λ p _ at.
    let run = subst (λ u. Yields steps u p.items p.gave.0.0) at p.gave.0.1 in
    let left = gives_left steps (λ x. x) p.items all s p.gave.0.0 y.runs run in
    let first : take (length p.items) all ≡ p.items = ap (take (length p.items)) (left.1 ∙ ap (λ l. l ++ left.0) (map-id p.items)) ∙ take_at p.items left.0 (length p.items) refl in
    subst (λ l. SFits w64 (fold ◌+ℤ◌ (pos 0) l)) first (fits (length p.items))

-- of numbers that are each at most m either way, the first ones' sum is at most m times as many
first_small : (m k : ℕ) (xs : List ℤ) (x : ℤ) → AllByRecursion (λ y. nat_abs y ≤ m) xs → nat_abs (fold ◌+ℤ◌ x (take k xs)) ≤ nat_abs x + m * length xs
first_small m zero xs x a = omega arith
first_small m (suc k) [] x a = omega arith
first_small m (suc k) (y ∷ xs) x a = omega (arith, ints, a.0, first_small m k xs (x +ℤ y) a.1)

-- so each of these sums fits, where so many times m does
pub small_fits : (m : ℕ) (xs : List ℤ) → AllByRecursion (λ y. nat_abs y ≤ m) xs → m * length xs ≤ 9000000000000000000 → (k : ℕ) → SFits w64 (fold ◌+ℤ◌ (pos 0) (take k xs))
small_fits m xs a h k = omega (arith, ints, first_small m k xs (pos 0) a)

-- what holds of a number for each of a range holds of the list of them
pub all_range : (P : ℤ → Type 0) (g : ℕ → ℤ) (a n : ℕ) → ((k : ℕ) → a ≤ k → k < a + n → P (g k)) → AllByRecursion P (map g (range_with_len a n))
all_range P g a zero h = tt
all_range P g a (suc n) h = (h a (omega arith) (omega arith), all_range P g (a + 1) n (λ k l m. h k (omega arith) (omega arith)))
