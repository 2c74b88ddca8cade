-- What it is to be the greatest of the records that were offered, with no word of how they are found. Assumes nothing.
use Rattle.std.specs.Prelude.{◌≡◌, ℕ, Bool, false, List, [], ◌∷◌, ◌++◌, length}
use Rattle.std.specs.List.{AllByRecursion}
use Rattle.std.specs.List.Sorted.{IsPermutation}
use Rattle.keeper.specs.Kept.{kept}

-- No record is outranked by one behind it.
abbrev pub Falling : {A : Type 0} → (A → A → Bool) → List A → Type 0
Falling before [] = Unit {0}
Falling before (x ∷ xs) = AllByRecursion (λ y. before y x ≡ false) xs × Falling before xs

-- `held` are the greatest of `offered`, and `left` are the others: the held ones are in falling order; held and left together are
-- the offered ones, each as often as it was offered; and none that is left is greater than one that is held.
pub record Greatest {A : Type 0} (before : A → A → Bool) (offered held left : List A) : Type 0 where
  pub falls : Falling before held
  pub made : IsPermutation offered (held ++ left)
  pub beaten : AllByRecursion (λ y. AllByRecursion (λ x. before y x ≡ false) held) left

-- No other records are the greatest, as many as `held` are.
abbrev pub OnlyGreatest : {A : Type 0} → (A → A → Bool) → List A → List A → Type 0
OnlyGreatest {A} before offered held = (others left : List A) → length others ≡ length held → Greatest before offered others left → others ≡ held

-- `held` is what n cells hold of the offers in whatever order they come.
abbrev pub AnyOrder : {A : Type 0} → (A → A → Bool) → ℕ → List A → List A → Type 0
AnyOrder {A} before n offered held = (others : List A) → IsPermutation offered others → held ≡ kept before n others
