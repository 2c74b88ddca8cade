-- Whether every element of a list passes a test. Assumes nothing.
use Rattle.std.proofs.Common.{◌≡◌, Bool, ◌&&◌, List, [], ◌∷◌, map, refl, ap}
use Rattle.std.specs.List.{list_all}
use Rattle.figures.specs.Every.{every}

module _ {A B : Type 0} (g : A → B) (p : B → Bool) where
  pub every_is : (xs : List A) → list_all (λ x. p (g x)) xs ≡ every p (map g xs)
  every_is [] = refl
  every_is (x ∷ xs) = ap (λ b. p (g x) && b) (every_is xs)
