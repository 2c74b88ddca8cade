-- Choices of places in a list of amounts, and the laws of the sum of the n greatest. Assumes nothing.
use Rattle.std.specs.Prelude.{◌≡◌, ℕ, suc, ◌≤◌, Bool, true, false, List, [], ◌∷◌, length, ℤ, pos, ◌+ℤ◌, ◌≤ℤ◌, slice_index_or, slice_set}
use Rattle.std.specs.List.{AllByRecursion}
use Rattle.figures.specs.Sums.{total_greatest}

-- The sum over the chosen places: place k is chosen where `true` stands at k, and a place past the end counts nothing.
abbrev pub chosen : List Bool → List ℤ → ℤ
chosen [] xs = pos 0
chosen (t ∷ ts) [] = pos 0
chosen (true ∷ ts) (x ∷ xs) = x +ℤ chosen ts xs
chosen (false ∷ ts) (x ∷ xs) = chosen ts xs

-- how many places are chosen
abbrev pub picks : List Bool → ℕ
picks [] = 0
picks (true ∷ ts) = suc (picks ts)
picks (false ∷ ts) = picks ts

-- some choice of at most n of the places of xs sums to r
abbrev pub Reached : ℕ → List ℤ → ℤ → Type 0
Reached n xs r = (ts : List Bool) × (length ts ≡ length xs) × (picks ts ≤ n) × (chosen ts xs ≡ r)

-- r is the greatest sum over at most n places of xs: no such choice sums to more, and one sums to r
pub record GreatestSum (n : ℕ) (xs : List ℤ) (r : ℤ) : Type 0 where
  pub bounds : (ts : List Bool) → picks ts ≤ n → chosen ts xs ≤ℤ r
  pub reached : Reached n xs r

abbrev pub NoneNegative : List ℤ → Type 0
NoneNegative xs = AllByRecursion (λ x. pos 0 ≤ℤ x) xs

-- the list with d added at a place; past the end nothing is added
abbrev pub raised : List ℤ → ℕ → ℤ → List ℤ
raised xs i d = slice_set xs i (slice_index_or xs i (pos 0) +ℤ d)

-- where one amount of xs rises by d, the sum of the n greatest rises from r by 0 up to d; and so it falls back by as much where that amount falls back
abbrev pub Moves : ℕ → List ℤ → ℤ → Type 0
Moves n xs r = (i : ℕ) (d : ℤ) → pos 0 ≤ℤ d → (r ≤ℤ total_greatest n (raised xs i d)) × (total_greatest n (raised xs i d) ≤ℤ (r +ℤ d))

-- ---- the laws

-- The sum of the n greatest is at least the sum over any choice of at most n places. This asks that no amount is below 0: of amounts below 0
-- fewer than n sum to more.
abbrev pub BoundsChoices : Type 0
BoundsChoices = (n : ℕ) (xs : List ℤ) → NoneNegative xs → (ts : List Bool) → picks ts ≤ n → chosen ts xs ≤ℤ total_greatest n xs

-- It is reached by a choice of at most n places, of whatever amounts.
abbrev pub ReachedByChoice : Type 0
ReachedByChoice = (n : ℕ) (xs : List ℤ) → Reached n xs (total_greatest n xs)

-- It moves by 0 up to d where one amount moves by d, of whatever amounts.
abbrev pub MovesWithEntry : Type 0
MovesWithEntry = (n : ℕ) (xs : List ℤ) → Moves n xs (total_greatest n xs)
