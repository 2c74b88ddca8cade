-- A chain's `sum` of signed numbers. Assumes nothing.
use Rattle.std.proofs.Common.{◌≡◌, List, [], ◌∷◌, fold, ℤ, ◌+ℤ◌, arith}
use Rattle.std.proofs.lemmas.Int.{ints}
use Rattle.figures.specs.Sums.{total}

-- what `sum` gives is the total
pub total_folded : (x : ℤ) (xs : List ℤ) → fold ◌+ℤ◌ x xs ≡ x +ℤ total (λ y. y) xs
total_folded x [] = omega (arith, ints)
total_folded x (y ∷ xs) = omega (arith, ints, total_folded (x +ℤ y) xs)
