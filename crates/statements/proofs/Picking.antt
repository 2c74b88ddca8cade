-- Answers that are there only where a test holds, and lists of what passes one. Assumes nothing.
use Rattle.std.proofs.Common.{◌≡◌, ℕ, suc, ◌≤◌, Bool, true, false, ◌&&◌, cond, List, [], ◌∷◌, ◌++◌, length, Some, None, refl, ap, arith}
use Rattle.figures.specs.Sums.{only}

pub some_if : {A : Type 0} (b : Bool) (x y : A) → Some x ≡ cond b (Some y) None → (b ≡ true) × (x ≡ y)
some_if true x y e = (refl, cc)
some_if false x y e = let z : ◌≡◌ {A = ℕ} 0 1 = cc in absurd (omega arith)

pub none_if : {A : Type 0} (b : Bool) (y : A) → None ≡ cond b (Some y) None → b ≡ false
none_if true y e = let z : ◌≡◌ {A = ℕ} 0 1 = cc in absurd (omega arith)
none_if false y e = refl

-- of two tests that do not both hold, the second does not where the first does
pub unasked : (a b : Bool) → a ≡ true → (a && b) ≡ false → b ≡ false
unasked a b h e = rw h at e

module _ {A : Type 0} (p : A → Bool) where
  pub only_push : (xs : List A) (y : A) → only p (xs ++ y ∷ []) ≡ only p xs ++ cond (p y) (y ∷ []) []
  only_push [] y = refl
  only_push (x ∷ xs) y = go (p x) (only_push xs y)
    where
      go : (t : Bool) → only p (xs ++ y ∷ []) ≡ only p xs ++ cond (p y) (y ∷ []) [] → cond t (x ∷ only p (xs ++ y ∷ [])) (only p (xs ++ y ∷ [])) ≡ cond t (x ∷ only p xs) (only p xs) ++ cond (p y) (y ∷ []) []
      go true h = ap (λ (l : List A). x ∷ l) h
      go false h = h

  length_cond : (b : Bool) (x : A) (xs : List A) → length (cond b (x ∷ xs) xs) ≤ suc (length xs)
  length_cond true x xs = omega arith
  length_cond false x xs = omega arith

  pub length_only : (xs : List A) → length (only p xs) ≤ length xs
  length_only [] = omega arith
  length_only (x ∷ xs) = omega (arith, length_cond (p x) x (only p xs), length_only xs)
